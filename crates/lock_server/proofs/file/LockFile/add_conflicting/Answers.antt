use Rattle.lock_server.proofs.Common.{◌+◌, take, arith, common_steps, file_state}
use Rattle.lock_server.proofs.BlockerLemmas.{all_in_the_way}
use Rattle.lock_server.proofs.ConflictingLemmas.{conflict_more, conflicts_passed, few_taken}
use Rattle.lock_server.proofs.GatheredOwnerLemmas.{AddsOwners-same}
use Rattle.lock_server.proofs.file.LockFile.add_conflicting.Goals as goal

pub loop-place-init : goal.loop-place-init
loop-place-init c = AddsOwners-same c.args.owners.now.items _ (λ other given. (let early = given.before in omega (arith, early)))

pub overflow_add-from : goal.overflow_add-from
overflow_add-from c = let within = c.in-Some.ensures.some.within in grind (arith, common_steps)

pub loop-place-preserved : goal.loop-place-preserved
loop-place-preserved c =
    let next = c.in-Some.ensures.some in
    conflict_more (file_state c.args.self.now).waits c.args.wait.now c.args.before c.loop-place.from c.args.owners.now.items c.loop-place.owners.items c.add_owner_at.new.owners.items
    c.in-Some.place next c.loop-place.invariant (c.in_ok-add_owner_at.ensures next.other next.there)

pub loop-place-smaller : goal.loop-place-smaller
loop-place-smaller c = let late = c.in-Some.ensures.some.not_before in let within = c.in-Some.ensures.some.within in grind (arith, common_steps)

pub returns : goal.returns
returns c =
    let waits = (file_state c.args.self.now).waits in
    all_in_the_way c.args.wait.now (take c.args.before waits) c.args.owners.now.items c.loop-place.owners.items (c.loop-place.from + c.args.before)
    (let few = few_taken c.args.before waits in omega (arith, few))
    (conflicts_passed waits c.args.wait.now c.args.before c.loop-place.from c.args.owners.now.items c.loop-place.owners.items c.in_default.ensures.none c.loop-place.invariant)
