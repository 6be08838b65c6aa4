use Rattle.std.proofs.Common.{ℕ, suc, ◌≡◌, ◌+◌, get_or, take, Some, ap, ◌∙◌, arith}
use Rattle.std.proofs.lemmas.List.{take_all}
use Rattle.std.proofs.lemmas.List.Elements.{All-from_recursion}
use Rattle.range_core.specs.declared.Mode.{Mode}
use Rattle.range_core.specs.declared.Mode.TheVariants.{Read}
use Rattle.range_core.specs.declared.Span.{Span}
use Rattle.range_core.specs.Changes.{mode_in}
use Rattle.range_core.specs.Ranges.{IsByteRange}
use Rattle.owner_runs.proofs.ChangeLemmas.{gap_for_next, modes_with_next, same_gap, same_sets}
use Rattle.owner_runs.proofs.OrderLemmas.{all_ranges}
use Rattle.owner_runs.proofs.set_tree.put_all.Goals as goal

-- what a read past the end would give
abbrev blank : Mode × Span
blank = (Read, record { first = 0; last = 0 })

pub loop-run-init : goal.loop-run-init
loop-run-init c = record {
  modes = λ byte. ap (λ items. mode_in items byte) c.requires.empty;
  room = omega arith;
}

pub put-requires-clause-range : goal.put-requires-clause-range
put-requires-clause-range c =
    let runs = c.args.runs.now in
    All-from_recursion (λ (run : Mode × Span). IsByteRange run.1) runs (all_ranges runs c.requires.order) c.loop-run.run-index blank c.loop-run-test.true

pub put-requires-clause-gap : goal.put-requires-clause-gap
put-requires-clause-gap c =
    let runs = c.args.runs.now in
    let n = c.loop-run.run-index in
    let run = get_or runs n blank in
    same_gap (mode_in (take n runs)) (mode_in c.loop-run.tree.items) run.0 run.1 c.loop-run.invariant.modes (gap_for_next runs n blank c.requires.order c.loop-run-test.true)

pub put-requires-clause-room : goal.put-requires-clause-room
put-requires-clause-room c =
    let room = c.loop-run.invariant.room in
    let all = c.requires.room in
    let more = c.loop-run-test.true in
    omega arith

pub loop-run-preserved : goal.loop-run-preserved
loop-run-preserved c =
    let runs = c.args.runs.now in
    let n = c.loop-run.run-index in
    let run = get_or runs n blank in
    let room = c.loop-run.invariant.room in
    let used = c.put.ensures.room in
    let next : suc n ≡ n + 1 = omega arith in
    record {
      modes = λ byte. same_sets (mode_in c.loop-run.tree.items) (mode_in (take n runs)) (mode_in c.put.new.self.items) (mode_in (take (suc n) runs)) run.1 (Some run.0)
          c.loop-run.invariant.modes c.put.ensures.modes (modes_with_next runs n blank c.requires.order c.loop-run-test.true) byte
          ∙ ap (λ (k : ℕ). mode_in (take k runs) byte) next;
      room = omega arith;
    }

pub returns-clause-modes : goal.returns-clause-modes
returns-clause-modes c byte =
    let runs = c.args.runs.now in
    let all = c.loop-run-test.false in
    c.loop-run.invariant.modes byte ∙ ap (λ items. mode_in items byte) (take_all c.loop-run.run-index runs all)

pub returns-clause-room : goal.returns-clause-room
returns-clause-room c =
    let room = c.loop-run.invariant.room in
    let all = c.loop-run-test.false in
    let upto = c.loop-run.auto.run-index-end in
    omega arith
