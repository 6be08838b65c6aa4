use Rattle.std.proofs.Common.{rules, ◌≡◌, true, is_some}
use Rattle.history_check.proofs.CheckLemmas.{found_sound, is_decided}
use Rattle.history_check.proofs.check.HistoryCheck.is_decided.Goals as goal

pub returns-clause-decides : goal.returns-clause-decides
returns-clause-decides c = λ yes judging bytes short checked.
    let found : is_some c.args.self.now.found ≡ true = search rules in
    is_decided judging c.args.self.now bytes found short checked

pub returns-clause-sound : goal.returns-clause-sound
returns-clause-sound c = λ yes judging.
    let found : is_some c.args.self.now.found ≡ true = search rules in
    found_sound judging c.args.self.now c.args.self.now.found found
