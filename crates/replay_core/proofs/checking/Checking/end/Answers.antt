use Rattle.replay_core.proofs.Common.{rules, refl, ◌≡◌, false, true, is_some}
use Rattle.replay_core.proofs.CheckingLemmas.{judged_before, may_end, may_not_end, is_unfound}
use Rattle.replay_core.proofs.checking.Checking.end.Goals as goal

pub returns-then-is_some-clause-judged : goal.returns-then-is_some-clause-judged
returns-then-is_some-clause-judged c = λ bytes checked.
    let found : is_some c.end_last_line.new.self.found ≡ true = search rules in
    judged_before c.end_last_line.new.self bytes found (c.in_ok-end_last_line.ensures.lines_read bytes checked)

pub returns-in-Ok-clause-judged : goal.returns-in-Ok-clause-judged
returns-in-Ok-clause-judged c = λ bytes checked.
    let none : is_some c.end_last_line.new.self.found ≡ false = search rules in
    may_end c.end_last_line.new.self bytes (is_unfound c.end_last_line.new.self none) (c.in_ok-end_last_line.ensures.lines_read bytes checked)
    c.in-Ok.ensures.finishes

pub returns-in-Err-clause-judged : goal.returns-in-Err-clause-judged
returns-in-Err-clause-judged c = λ bytes checked.
    let none : is_some c.end_last_line.new.self.found ≡ false = search rules in
    may_not_end c.end_last_line.new.self _ bytes c.in-Err.field-0 (is_unfound c.end_last_line.new.self none)
    (c.in_ok-end_last_line.ensures.lines_read bytes checked) c.in-Err.ensures.finishes refl refl refl
