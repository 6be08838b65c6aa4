use Rattle.replay_core.proofs.Common.{rules, refl, arith, ◌≡◌, true, is_some}
use Rattle.replay_core.proofs.CheckingLemmas.{one_more, others_skipped}
use Rattle.replay_core.proofs.checking.Checking.take_all.Goals as goal

pub returns-then-is_some-clause-checked : goal.returns-then-is_some-clause-checked
returns-then-is_some-clause-checked c = λ front checked.
    let found : is_some c.loop-byte.self.found ≡ true = search rules in
    others_skipped c.loop-byte.self front c.args.bytes.now c.loop-byte.byte-index found (c.loop-byte.invariant.0 front checked)

pub loop-byte-preserved : goal.loop-byte-preserved
loop-byte-preserved c = (
  one_more c.args.self.now c.loop-byte.self c.take.new.self c.args.bytes.now c.loop-byte.byte-index _ c.loop-byte-test.true refl
      c.loop-byte.invariant.0 c.in_ok-take.ensures.checked,
  omega (arith, c.loop-byte.invariant.1, c.in_ok-take.ensures.lines),
)
