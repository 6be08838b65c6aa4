use Rattle.lock_server.proofs.Common.{◌≡◌, ◌∙◌, Some, sym, subst, arith, slice_get, common_steps, same_Some, slice_get_cases, slice_get_within, Pending, file_state, IsWaitBlocked, take}
use Rattle.lock_server.proofs.GrantLemmas.{range_at}
use Rattle.lock_server.proofs.ListingLemmas.{never_free}
use Rattle.lock_server.proofs.file.LockFile.wait_at.Goals as goal

pub obstacle-requires : goal.obstacle-requires
unfolding file_state
obstacle-requires c = range_at c.args.self.now.waits.items c.args.place c.in_ok-pending.pending c.args.self.now.ranges (sym c.get.ensures ∙ c.in_ok-pending.was)

pub unreachable-requires : goal.unreachable-requires
unfolding file_state
unreachable-requires c =
    let F = file_state c.args.self.now in
    let there : slice_get F.waits c.args.place ≡ Some c.in_ok-pending.pending = sym c.get.ensures ∙ c.in_ok-pending.was in
    never_free c.args.policy F c.args.place c.requires (slice_get_within F.waits c.args.place c.in_ok-pending.pending there)
    (λ wait at.
    (let same = same_Some c.in_ok-pending.pending wait (sym there ∙ at) in
    subst (λ (w : Pending). ¬ IsWaitBlocked c.args.policy F (take c.args.place F.waits) w) same c.in-None.ensures.none))

pub returns-clause-some : goal.returns-clause-some
unfolding file_state
returns-clause-some c = record { there = sym c.get.ensures ∙ c.in_ok-pending.was; obstacle = c.in-Some.ensures.some }

pub returns-in_err-pending-clause-none : goal.returns-in_err-pending-clause-none
unfolding file_state
returns-in_err-pending-clause-none c = grind (arith, common_steps, slice_get_cases)
