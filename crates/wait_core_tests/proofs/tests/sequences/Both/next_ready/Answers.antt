use Rattle.std.proofs.Common.{◌∙◌, subst, List, []}
use Rattle.std.proofs.Math.Logic.{∥∥₁_map}
use Rattle.lock_book.specs.declared.book.Book.{Book}
use Rattle.wait_core.specs.Blocking.{AllBlocked}
use Rattle.wait_core.specs.Locks.{locks_of}
use Rattle.wait_core.specs.WaitsView.{waits_of, policy_of}
use Rattle.wait_core_tests.proofs.tests.sequences.Both.next_ready.Goals as goal

pub invariant_of-self-in-None : goal.invariant_of-self-in-None
invariant_of-self-in-None g c =
    let self = c.args.self.now in
    let now = c.forget_changes.ensures in
    record {
      files = self.files;
      processes = now.processes ∙ self.processes;
      told = ∥∥₁_map self.told (now.told (locks_of self.books.items));
      blocked = ∣ now.blocked (locks_of self.books.items)
          (subst (λ (bs : List Book). AllBlocked (policy_of self.waits) (locks_of bs) [] (waits_of self.waits)) c.deref.ensures.value (rw c.in-None.is at c.next_ready_on_changed-next.ensures.settled)) ∣₁;
    }
