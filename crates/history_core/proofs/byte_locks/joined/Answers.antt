use Rattle.history_core.proofs.Common.{rules, sym, subst, arith, AreRanges}
use Rattle.history_core.proofs.ByteLemmas.{absorbed_more, joined_gives, AreRanges-insert}
use Rattle.history_core.proofs.byte_locks.joined.Goals as goal

pub loop-one-preserved : goal.loop-one-preserved
loop-one-preserved c = record {
  ranges = c.in_ok-span.ensures.ranges c.loop-one.invariant.ranges;
  grown = c.in_ok-span.ensures.grown;
  gives = absorbed_more c.args.locks.now c.loop-one.runs.items c.absorb.new.aside.items c.loop-one.one-index c.args.lock _ c.loop-one.span c.in_ok-span.span
      c.loop-one-test.true (search rules) c.loop-one.invariant.gives c.in_ok-span.ensures.gives;
}

pub returns-clause-ranges : goal.returns-clause-ranges
returns-clause-ranges c =
    let all = AreRanges-insert c.loop-one.runs.items c.partition_point-place.result (record { owner = c.args.lock.owner; mode = c.args.lock.mode; span = c.loop-one.span })
    c.loop-one.invariant.ranges (omega (arith, c.loop-one.invariant.grown.0.0, c.loop-one.invariant.grown.0.1, c.requires.range.0), c.loop-one.invariant.grown.1) in
    subst AreRanges (sym c.in_ok-insert.ensures.items) all

pub returns-clause-gives : goal.returns-clause-gives
returns-clause-gives c =
    joined_gives c.args.locks.now c.loop-one.runs.items c.insert.new.self.items c.partition_point-place.result c.args.lock c.loop-one.span c.loop-one.one-index
    (omega (arith, c.loop-one-test.false)) c.loop-one.invariant.gives c.in_ok-insert.ensures.items
