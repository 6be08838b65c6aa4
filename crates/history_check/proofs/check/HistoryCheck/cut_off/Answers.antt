use Rattle.std.proofs.Common.{rules, ◌≡◌, true, false, Some, refl, is_some}
use Rattle.history_check.specs.declared.check.Finding.TheVariants.{TooLong}
use Rattle.history_check.proofs.CheckLemmas.{found_sound, is_decided_before, is_too_long}
use Rattle.history_check.proofs.check.HistoryCheck.cut_off.Goals as goal

pub returns-then-is_some-clause-judged : goal.returns-then-is_some-clause-judged
returns-then-is_some-clause-judged c = λ judging bytes byte full checked.
    let found : is_some c.args.self.now.found ≡ true = search rules in
    is_decided_before judging c.args.self.now bytes byte found full checked

pub returns-clause-judged : goal.returns-clause-judged
returns-clause-judged c = λ judging bytes byte full checked.
    let none : is_some c.args.self.now.found ≡ false = search rules in
    is_too_long judging c.args.self.now (record c.args.self.now { found = Some TooLong }) bytes byte none refl full checked

pub returns-then-is_some-clause-sound : goal.returns-then-is_some-clause-sound
returns-then-is_some-clause-sound c = λ judging.
    let found : is_some c.args.self.now.found ≡ true = search rules in
    found_sound judging c.args.self.now c.args.self.now.found found

pub returns-clause-sound : goal.returns-clause-sound
returns-clause-sound c = λ judging. tt
