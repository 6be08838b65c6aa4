use Rattle.lock_manager.proofs.Common.{common_steps, sym, subst, arith, locks_of, IsFreeOfCycles, waits_of, AreApart, HaveRoom}
use Rattle.lock_manager.proofs.kept.WaitLemmas.{room_for_none}
use Rattle.lock_manager.proofs.kept.BookLemmas.{unlocked_bytes}
use Rattle.lock_manager.proofs.kept.OwnedLemmas.{owned_at_opening, of_no_wait}
use Rattle.lock_manager.proofs.kept.SafetyLemmas.{compatible_without_locks, free_without_waits}
use Rattle.lock_manager.proofs.kept.NextStateLemmas.{at_opening, first_lives, none_waits}
use Rattle.lock_manager.proofs.machine.Machine.new.Goals as goal

pub invariant_of-result-clause-kept : goal.invariant_of-result-clause-kept
invariant_of-result-clause-kept c =
    let none = c.in_ok-waits.ensures.empty in
    record {
      compatible = compatible_without_locks c.in_ok-books.books.items c.in_ok-books.ensures.empty;
      owned = owned_at_opening c.in_ok-tables.tables c.in_ok-books.books.items (waits_of c.in_ok-waits.waits) c.in_ok-tables.ensures.opening c.in_ok-books.ensures.empty none;
      within = λ file owner byte past. unlocked_bytes c.in_ok-books.books.items c.in_ok-books.ensures.empty file owner byte;
      told = ∣ c.in_ok-waits.ensures.told (locks_of c.in_ok-books.books.items) ∣₁;
      blocked = ∣ c.in_ok-waits.ensures.blocked (locks_of c.in_ok-books.books.items) ∣₁;
      apart = subst AreApart (sym none) (λ i j d before within. absurd (omega (arith, within)));
      room = subst (HaveRoom c.in_ok-books.books.items) (sym none) (room_for_none c.in_ok-books.books.items);
      free_of_cycles = subst (IsFreeOfCycles c.args.rules.policy (locks_of c.in_ok-books.books.items)) (sym none)
          (free_without_waits c.args.rules.policy (locks_of c.in_ok-books.books.items));
    }

pub invariant_of-result-clause-standing : goal.invariant_of-result-clause-standing
invariant_of-result-clause-standing c = grind (arith, common_steps, first_lives, of_no_wait, none_waits)

pub returns-clause-opening : goal.returns-clause-opening
returns-clause-opening c =
    at_opening _ c.in_ok-books.ensures.empty c.in_ok-tables.ensures.opening c.in_ok-states.ensures.states c.in_ok-waits.ensures.empty
