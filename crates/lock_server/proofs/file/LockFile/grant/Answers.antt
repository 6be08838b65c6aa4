use Rattle.lock_server.proofs.Common.{arith, ℕ, subst, sym, common_steps, file_state}
use Rattle.lock_server.proofs.AddingLemmas.{blocked_behind, none_blocked}
use Rattle.lock_server.proofs.GrantLemmas.{gets_where_it_stood, grants_at, one_fewer, range_at}
use Rattle.lock_server.specs.Waiting.{AreBlockedTo}
use Rattle.lock_server.proofs.file.LockFile.grant.Goals.{then-leaves_blocked, else-leaves_blocked}
use Rattle.lock_server.proofs.file.LockFile.grant.Goals as goal

pub give-requires-clause-range : goal.give-requires-clause-range
unfolding file_state
give-requires-clause-range c = range_at c.args.self.now.waits.items c.args.i c.remove_at-wait.result c.args.self.now.ranges c.remove_at-wait.ensures.is

pub returns-clause-granted : goal.returns-clause-granted
returns-clause-granted c = λ ready.
    let left = c.remove_at-wait.ensures.leaves in
    grants_at c.args.policy (file_state c.args.self.now) (file_state c.remove_at-wait.new.self) (file_state c.give.new.self) c.args.i c.remove_at-wait.result left
    (gets_where_it_stood _ _ _ c.remove_at-wait.result left.leaves.locks c.give.ensures.gets) c.give.ensures.waits ready

pub returns-clause-fewer : goal.returns-clause-fewer
returns-clause-fewer c = grind (arith, common_steps, one_fewer)

pub returns-clause-room : goal.returns-clause-room
returns-clause-room c = grind (arith, common_steps)

pub returns-clause-blocked : goal.returns-clause-blocked
returns-clause-blocked c = λ ready.
    let left = c.remove_at-wait.ensures.leaves in
    let at = λ (n : ℕ). AreBlockedTo c.args.policy (file_state c.give.new.self) n in
    elim c.if-leaves_blocked.branch [
      | then-leaves_blocked w ↦
          subst at (sym w.blocked-is)
          (blocked_behind c.args.policy (file_state c.args.self.now) (file_state c.remove_at-wait.new.self) (file_state c.give.new.self) c.args.i c.remove_at-wait.result left
          (gets_where_it_stood _ _ _ c.remove_at-wait.result left.leaves.locks c.give.ensures.gets) c.give.ensures.waits c.remove_at-wait.ensures.is
          (c.leaves_blocked.ensures w.if-leaves_blocked.true) ready)
      | else-leaves_blocked w ↦ none_blocked c.args.policy (file_state c.give.new.self) c.if-leaves_blocked.blocked w.blocked-is
    ]

pub returns-clause-freed : goal.returns-clause-freed
unfolding file_state
returns-clause-freed c = λ ready others.
    let left = c.remove_at-wait.ensures.leaves in
    c.behind.ensures c.args.policy (file_state c.args.self.now) (file_state c.give.new.self) c.args.self.now.ranges
    (grants_at c.args.policy (file_state c.args.self.now) (file_state c.remove_at-wait.new.self) (file_state c.give.new.self) c.args.i c.remove_at-wait.result left
    (gets_where_it_stood _ _ _ c.remove_at-wait.result left.leaves.locks c.give.ensures.gets) c.give.ensures.waits ready)
    others
