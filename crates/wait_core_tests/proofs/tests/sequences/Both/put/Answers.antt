use Rattle.std.proofs.Common.{◌∙◌, inr, subst, List}
use Rattle.std.proofs.Math.Logic.{∥∥₁_map}
use Rattle.lock_book.specs.declared.book.Book.{Book}
use Rattle.wait_core.specs.declared.Policy.{Policy}
use Rattle.wait_core.specs.declared.Policy.TheVariants.{Held, Queue}
use Rattle.wait_core.specs.declared.Wait.{Wait}
use Rattle.wait_core.specs.Blocking.{IsBlocked, IsQueued}
use Rattle.wait_core.specs.Locks.{Locks, locks_of}
use Rattle.wait_core.specs.Settled.{AreBlockedElsewhere}
use Rattle.wait_core.specs.WaitsView.{waits_of, policy_of, AreTold}
use Rattle.wait_core_tests.proofs.tests.sequences.Both.put.Goals as goal

-- a wait behind another one is blocked
blocked_behind : (policy : Policy) (locks : Locks) (waits : List Wait) (wait : Wait) → IsQueued policy waits wait → IsBlocked policy locks waits wait
blocked_behind Held locks waits wait queued = absurd queued
blocked_behind Queue locks waits wait queued = inr queued

pub join_blocked-requires-clause-blocked : goal.join_blocked-requires-clause-blocked
join_blocked-requires-clause-blocked c =
    let waits = c.args.self.now.waits in
    blocked_behind (policy_of waits) (locks_of c.deref.result.now) (waits_of waits) c.args.wait (c.queued.ensures.0 c.if-queued.true)

pub invariant_of-self : goal.invariant_of-self
invariant_of-self c =
    let self = c.args.self.now in
    let now = c.join_blocked.ensures in
    let is = c.deref.ensures.value in
    record {
      files = self.files;
      processes = now.processes ∙ self.processes;
      told = ∥∥₁_map self.told (subst (λ (bs : List Book). AreTold self.waits (locks_of bs) → AreTold c.join_blocked.new.self (locks_of bs)) is now.told);
      blocked = ∥∥₁_map self.blocked
          (subst (λ (bs : List Book). AreBlockedElsewhere self.waits (locks_of bs) → AreBlockedElsewhere c.join_blocked.new.self (locks_of bs)) is now.blocked);
    }

pub invariant_of-self-else-queued : goal.invariant_of-self-else-queued
invariant_of-self-else-queued c =
    let self = c.args.self.now in
    let now = c.join.ensures in
    record {
      files = self.files;
      processes = now.processes ∙ self.processes;
      told = ∥∥₁_map self.told (subst (λ (bs : List Book). AreTold self.waits (locks_of bs) → AreTold c.join.new.self (locks_of bs)) c.deref-else-queued.ensures.value now.told);
      blocked = ∥∥₁_map self.blocked (now.blocked (locks_of self.books.items));
    }
