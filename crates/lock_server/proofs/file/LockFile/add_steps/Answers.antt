use Rattle.lock_server.proofs.Common.{◌+◌, ◌==◌, length, take, subst, arith, common_steps, IsPlaceFrom, Pending, is_of_kind, IsBlockedByOwner, file_state}
use Rattle.std.proofs.Common.{◌&&◌}
use Rattle.lock_server.specs.declared.asking.Kind.TheVariants.{Detected}
use Rattle.lock_server.proofs.BlockerLemmas.{IsStepAt, all_steps}
use Rattle.lock_server.proofs.ConflictingLemmas.{next_detected, none_detected}
use Rattle.lock_server.proofs.GatheredOwnerLemmas.{AddsOwners-as, AddsOwners-same, gathered_more, gathered_past}
use Rattle.lock_server.proofs.file.LockFile.add_steps.Goals as goal

pub loop-place-init : goal.loop-place-init
loop-place-init c = AddsOwners-same c.args.owners.now.items _ (λ other given. (let early = given.before in omega (arith, early)))

pub loop-place-preserved : goal.loop-place-preserved
loop-place-preserved c =
    let old = c.args.owners.now.items in
    let mid = c.loop-place.owners.items in
    let new = c.add_blockers_at.new.owners.items in
    let F = file_state c.args.self.now in
    let place = c.in-Some.place in
    let Gives = IsStepAt c.args.policy F c.args.owner in
    let found = subst (IsPlaceFrom (λ wait. is_of_kind Detected wait && (wait.owner == c.args.owner)) c.loop-place.from F.waits) c.in-Some.is c.first_of.ensures.first in
    let next = next_detected F.waits c.args.owner c.loop-place.from place found in
    let wait : Pending = next.is.0 in
    gathered_more Gives F.waits old mid new place wait next.is.1
    (gathered_past Gives F.waits old mid c.loop-place.from place next.at_or_behind
    (λ earlier x other late early at step. next.first earlier late early (x, at, step.detected, step.of_one)) c.loop-place.invariant)
    (AddsOwners-as mid new (IsBlockedByOwner c.args.policy F (take place F.waits) wait) (Gives place wait)
    (λ other. (λ blocked. record { detected = next.is.2; of_one = next.is.3; blocked = blocked }, λ step. step.blocked))
    (c.in_ok-add_blockers_at.ensures wait next.is.1))

pub loop-place-smaller : goal.loop-place-smaller
loop-place-smaller c =
    let F = file_state c.args.self.now in
    let found = subst (IsPlaceFrom (λ wait. is_of_kind Detected wait && (wait.owner == c.args.owner)) c.loop-place.from F.waits) c.in-Some.is c.first_of.ensures.first in
    let late = (next_detected F.waits c.args.owner c.loop-place.from c.in-Some.place found).at_or_behind in
    let behind = c.in-Some.ensures.behind in
    grind (arith, common_steps)

pub returns : goal.returns
returns c =
    let F = file_state c.args.self.now in
    let from = c.loop-place.from in
    let old = c.args.owners.now.items in
    let new = c.loop-place.owners.items in
    let Gives = IsStepAt c.args.policy F c.args.owner in
    let found = subst (IsPlaceFrom (λ wait. is_of_kind Detected wait && (wait.owner == c.args.owner)) from F.waits) c.in_default.is c.first_of.ensures.first in
    let none = none_detected F.waits c.args.owner from found in
    all_steps c.args.policy F c.args.owner old new (from + length F.waits) (omega arith)
    (gathered_past Gives F.waits old new from (from + length F.waits) (omega arith)
    (λ place x other late early at step. none place late (x, at, step.detected, step.of_one)) c.loop-place.invariant)
