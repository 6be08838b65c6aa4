use Rattle.lock_server.proofs.Common.{◌∙◌, sym, arith, common_steps, file_state}
use Rattle.lock_server.proofs.ConflictingLemmas.{first_conflict, no_conflict}
use Rattle.lock_server.proofs.file.LockFile.first_conflict.Goals as goal

pub returns-clause-some : goal.returns-clause-some
unfolding file_state
returns-clause-some c =
    first_conflict c.args.self.now.waits.items c.args.wait.now c.args.before c.in_ok-place.place c.in_ok-other.other c.in_ok-place.ensures.some (sym c.get.ensures ∙ c.in_ok-other.was)

pub returns-in_err-place-clause-none : goal.returns-in_err-place-clause-none
unfolding file_state
returns-in_err-place-clause-none c =
    let none = no_conflict c.args.self.now.waits.items c.args.wait.now c.args.before c.in_err-place.ensures.none in
    grind (arith, common_steps, none)
