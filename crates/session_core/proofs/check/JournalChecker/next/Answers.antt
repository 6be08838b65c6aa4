use Rattle.session_core.proofs.Common.{subst, refl, HasRepeated}
use Rattle.session_core.specs.Replaying.{Repeats}
use Rattle.session_core.specs.Checking.{expected_by}
use Rattle.session_core.proofs.runs.ReplayLemmas.{run_of}
use Rattle.session_core.proofs.check.JournalChecker.next.Goals as goal

pub returns-in-None-clause-checks : goal.returns-in-None-clause-checks
unfolding expected_by HasRepeated
returns-in-None-clause-checks c = λ rules processes accepted has.
    let repeats =
    subst (λ answer. Repeats c.args.self.now.replay c.repeats.new.self c.args.entry.now answer) c.in-None.is c.in_ok-repeats.ensures.ok in
    let made = repeats rules processes accepted has.repeated in
    record { run = run_of rules processes c.repeats.new.self _ made; none_illegal = has.none_illegal; repeated = made }

pub returns-in-Some-clause-checks : goal.returns-in-Some-clause-checks
unfolding expected_by HasRepeated
returns-in-Some-clause-checks c = λ rules processes accepted has.
    let repeats =
    subst (λ answer. Repeats c.args.self.now.replay c.repeats.new.self c.args.entry.now answer) c.in-Some.is c.in_ok-repeats.ensures.ok in
    (c.in-Some.expected, refl, repeats rules processes accepted has.repeated)
