-- What a grant leaves of the fact `indexed`, and of the state: for `grant_next`.
use Rattle.lock_server.proofs.Common.{arith, ℕ, ◌≡◌, ◌∙◌, sym, ap, refl, inl, inr, Option, Some, [], ◌∷◌, ◌++◌, common_steps, IsSome, MutBor, option_copied_mut, cases_eq}
use Rattle.lock_server.proofs.Common.{Policy, Pending, LockFile, Files, Table, KeepsRoomOn, entry_of, table_state, Reserved, Waits, Granted, Tickets, Waiters, FileState, file_state, state_at, PutsEntry, entry_in, IsIndexed, state_in, place_at, grants_of, SetsPlace, EndsIf, Grants, Crosses, IsReadyAt}
use Rattle.lock_server.specs.WaitersView as view
use Rattle.lock_server.specs.States.{GrantsOn}
use Rattle.lock_server.proofs.CrossLemmas.{CrossesBy-crosses, CrossesBy-ended, CrossesBy-same, CrossesBy-then, Crosses-by}
use Rattle.lock_server.proofs.EntryMoves.{SameWaiters-itself}
use Rattle.lock_server.proofs.IndexLemmas.{same_from_eq}
use Rattle.lock_server.proofs.ListLemmas.{no_place}
use Rattle.lock_server.proofs.TableMoves.{WaitersKnown-ended, at_entries, indexed, puts_waits, state_by, tickets_known, waiters_known, waits_in}
use Rattle.lock_server.proofs.TicketMoves.{PutsWaits, tickets_granted, waited}
use Rattle.lock_server.proofs.WaiterMoves.{WaitersKnown, waiters_crossed}

-- where a wait is ready the file has an entry, which the map lends
pub lent_of_ready : (policy : Policy) (files : Files) (file place : ℕ) → IsReadyAt policy (state_in files file) place
    → (lent : Option (MutBor LockFile)) → option_copied_mut lent ≡ entry_in files file → IsSome lent
lent_of_ready policy files file place h lent h2 = grind (arith, common_steps, no_place)

module _ (old new : Files) (tickets free : Tickets) (was between now : Waiters) (file : ℕ) (before after : LockFile)
    (is : entry_in old file ≡ Some before) (puts : PutsEntry old new file (Some after)) (known : IsIndexed old tickets was) (policy : Policy)
    (wait : Pending) (grants : Grants policy (file_state before) wait (file_state after)) where
  stood : waits_in old file ≡ grants.before ++ wait ∷ grants.after
  stood = ap (λ (F : FileState). F.waits) (ap state_at is) ∙ grants.is_next.place

  gone : PutsWaits (waits_in old) (waits_in new) file (grants.before ++ grants.after)
  gone = puts_waits old new file after puts (grants.before ++ grants.after) grants.waits

  -- the ticket was known to wait
  pub granted_waited : place_at tickets wait.ticket ≡ Some (Waits file)
  granted_waited = waited (waits_in old) (waits_in new) tickets free file wait (tickets_known old tickets was known) grants.before grants.after stood gone

  -- so a ticket that is only reserved stays so
  pub reserved_stays : SetsPlace tickets free wait.ticket (Some Granted) → (ticket : ℕ) → place_at tickets ticket ≡ Some Reserved
      → place_at free ticket ≡ Some Reserved
  reserved_stays sets ticket noted = elim (cases_eq ticket wait.ticket) [
    | inl same ↦
        absurd (let h : Some (Waits file) ≡ Some Reserved = sym granted_waited ∙ ap (place_at tickets) (sym same) ∙ noted in cc)
    | inr differs ↦ sets.others ticket differs ∙ noted
  ]

  module _ (sets : SetsPlace tickets free wait.ticket (Some Granted)) (queued : grants_of free ≡ grants_of tickets ++ wait.ticket ∷ [])
      (ends : EndsIf wait.detect was between wait.owner file) (crosses : view.Crosses between now wait.owner) where
    between_known : WaitersKnown (waits_in new) between
    between_known = WaitersKnown-ended (waits_in old) (waits_in new) was between file wait grants.before grants.after stood gone wait.detect refl ends (waiters_known old tickets was known)

    now_known : WaitersKnown (waits_in new) now
    now_known = waiters_crossed (waits_in new) between now wait.owner between_known crosses

    pub granted_indexed : IsIndexed new free now
    granted_indexed =
        indexed new free now
        (tickets_granted (waits_in old) (waits_in new) tickets free file wait (tickets_known old tickets was known) grants.before grants.after stood gone sets queued) now_known

    pub grants_by : GrantsOn policy (state_by old tickets was) file wait (state_by new free now)
    grants_by = record {
      grants_wait = at_entries old new file before after (λ F G. Grants policy F wait G) is puts grants;
      others = λ other differs. same_from_eq (state_in old other) (state_in new other) (ap state_at (puts.others other differs));
      grants = queued;
      crossed = Crosses-by (state_by old tickets was) (state_by new free now) was now (wait.owner ∷ []) (λ owner. refl) (λ owner. refl) now_known
          (CrossesBy-then was between now (wait.owner ∷ []) (CrossesBy-ended (waits_in old) was (waiters_known old tickets was known) between wait.owner file wait.detect ends)
          (CrossesBy-crosses (waits_in new) between between_known now wait.owner crosses) crosses.files);
    }

-- nothing changes, or one change comes behind another: the room for flock requests is kept
pub KeepsRoomOn-itself : (table : Table) (file : ℕ) → KeepsRoomOn table table file
KeepsRoomOn-itself table file = record { places = λ owner had. had; requests = λ wait of_whole passed had. had }

pub KeepsRoomOn-then : (one other more : Table) (file : ℕ) → KeepsRoomOn one other file → KeepsRoomOn other more file → KeepsRoomOn one more file
KeepsRoomOn-then one other more file first next = record {
  places = λ owner had. next.places owner (first.places owner had);
  requests = λ wait of_whole passed had. next.requests wait of_whole passed (first.requests wait of_whole passed had);
}

-- nobody is crossed newly where nothing changes
pub crosses_itself : (table : Table) → Crosses (table_state table) [] (table_state table)
unfolding table_state entry_of
crosses_itself table =
    Crosses-by (state_by table.files table.tickets table.waiters) (state_by table.files table.tickets table.waiters) table.waiters table.waiters [] (λ owner. refl) (λ owner. refl)
    (waiters_known table.files table.tickets table.waiters table.indexed)
    (CrossesBy-same (waits_in table.files) table.waiters (waiters_known table.files table.tickets table.waiters table.indexed) table.waiters (SameWaiters-itself table.waiters))
