use Rattle.lock_server.proofs.Common.{arith, ◌==◌, subst, common_steps, eq-eqb, eqb-true, IsPlaceFrom, Pending, file_state}
use Rattle.lock_server.proofs.FileLemmas.{left_still}
use Rattle.lock_server.proofs.GrantLemmas.{found_passes, none_passes, found_within}
use Rattle.lock_server.proofs.file.LockFile.cancel.Goals as goal

pub remove_at-wait-requires : goal.remove_at-wait-requires
unfolding file_state
remove_at-wait-requires c = found_within (λ (wait : Pending). wait.ticket == c.args.ticket) c.args.self.now.waits.items c.in_ok-place.place (subst (IsPlaceFrom (λ (wait : Pending). wait.ticket == c.args.ticket) 0 c.args.self.now.waits.items) c.in_ok-place.was c.place_of.ensures)

pub returns-clause-some : goal.returns-clause-some
unfolding file_state
returns-clause-some c =
    let p = λ (wait : Pending). wait.ticket == c.args.ticket in
    let found = subst (IsPlaceFrom p 0 c.args.self.now.waits.items) c.in_ok-place.was c.place_of.ensures in
    let passes = found_passes p c.args.self.now.waits.items c.in_ok-place.place c.remove_at-wait.result found c.remove_at-wait.ensures.is in
    grind (arith, common_steps, eqb-true, left_still)

pub returns-in_err-place-clause-none : goal.returns-in_err-place-clause-none
unfolding file_state
returns-in_err-place-clause-none c =
    let p = λ (wait : Pending). wait.ticket == c.args.ticket in
    let none = none_passes p c.args.self.now.waits.items (subst (IsPlaceFrom p 0 c.args.self.now.waits.items) c.in_err-place.was c.place_of.ensures) in
    grind (arith, common_steps, eq-eqb)
