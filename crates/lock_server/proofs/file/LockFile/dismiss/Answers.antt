use Rattle.lock_server.proofs.Common.{arith, subst, common_steps, IsPlaceFrom, file_state, is_leaving}
use Rattle.lock_server.proofs.GrantLemmas.{found_passes, none_passes, found_within}
use Rattle.lock_server.proofs.file.LockFile.dismiss.Goals as goal

pub remove_at-requires : goal.remove_at-requires
unfolding file_state
remove_at-requires c = found_within (is_leaving c.args.leaving) c.args.self.now.waits.items c.in_ok-place.place (subst (IsPlaceFrom (is_leaving c.args.leaving) 0 c.args.self.now.waits.items) c.in_ok-place.was c.place_leaving.ensures)

pub returns-clause-some : goal.returns-clause-some
unfolding file_state
returns-clause-some c =
    let p = is_leaving c.args.leaving in
    let found = subst (IsPlaceFrom p 0 c.args.self.now.waits.items) c.in_ok-place.was c.place_leaving.ensures in
    let passes = found_passes p c.args.self.now.waits.items c.in_ok-place.place c.remove_at.result found c.remove_at.ensures.is in
    grind (arith, common_steps)

pub returns-in_err-place-clause-none : goal.returns-in_err-place-clause-none
unfolding file_state
returns-in_err-place-clause-none c =
    let p = is_leaving c.args.leaving in
    let none = none_passes p c.args.self.now.waits.items (subst (IsPlaceFrom p 0 c.args.self.now.waits.items) c.in_err-place.was c.place_leaving.ensures) in
    grind (arith, common_steps)
