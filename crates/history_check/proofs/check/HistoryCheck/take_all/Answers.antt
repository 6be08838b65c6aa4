use Rattle.std.proofs.Common.{rules, refl, arith, ◌≡◌, ◌++◌, true, is_some, take}
use Rattle.history_check.proofs.CheckLemmas.{limit_among, one_more, others_skipped}
use Rattle.history_check.proofs.check.HistoryCheck.take_all.Goals as goal

pub returns-then-is_some-clause-checked : goal.returns-then-is_some-clause-checked
returns-then-is_some-clause-checked c = λ judging front checked.
    let found : is_some c.loop-byte.self.found ≡ true = search rules in
    others_skipped judging c.loop-byte.self front c.args.bytes.now c.loop-byte.byte-index found (c.loop-byte.invariant.0 judging front checked)

pub loop-byte-preserved : goal.loop-byte-preserved
loop-byte-preserved c = (
  λ judging front checked.
      one_more judging c.args.self.now c.loop-byte.self c.take.new.self c.args.bytes.now c.loop-byte.byte-index _ c.loop-byte-test.true refl
      (c.loop-byte.invariant.0 judging) (c.in_ok-take.ensures.checked judging) front checked,
  omega (arith, c.loop-byte.invariant.1, c.in_ok-take.ensures.lines),
)

pub returns-in_err-take-clause-limit : goal.returns-in_err-take-clause-limit
returns-in_err-take-clause-limit c = λ is judging front rest checked.
    limit_among judging front c.args.bytes.now c.loop-byte.byte-index rest
    (λ more. c.in_err-take.ensures.limit (search rules) judging (front ++ take c.loop-byte.byte-index c.args.bytes.now) more
    (c.loop-byte.invariant.0 judging front checked))
