-- What is known of tickets and of owners, and the states of two tables, where the entry of one file changes: for `Table::give_back`,
-- `Table::next_grant`, `Table::release` and `Table::release_flock`.
use Rattle.lock_server.proofs.Common.{rules, arith, ℕ, ◌≡◌, ◌≢◌, ◌∙◌, sym, ap, subst, refl, inl, inr, true, false, Bool, Option, Some, None, List, [], ◌∷◌, ◌++◌, common_steps, cases_eq, Mode, Pending, LockFile, Files, Tickets, Waiters, FileState, SameFile, file_state, state_at, PutsEntry, entry_in, IsIndexed, state_in, grants_of, crossed_of, SameWaiters, EndsIf, State, ChangesFile, SameState}
use Rattle.lock_server.specs.WaitersView.{BeginsIf, CrossesIf}
use Rattle.lock_server.proofs.IndexLemmas.{same_from_eq}
use Rattle.lock_server.proofs.TicketMoves.{TicketsKnown, PutsWaits}
use Rattle.lock_server.proofs.WaiterMoves.{WaitersKnown, waiters_crossed, waiters_joined, waiters_kept, waiters_left, waiters_passed, waiters_unmoved}
use Rattle.lock_server.proofs.CrossLemmas.{CrossesBy, Crosses-by}

-- the waits on each file, by these entries
abbrev pub waits_in : Files → ℕ → List Pending
waits_in files file = (state_in files file).waits

-- what is known in all is what is known of tickets and what is known of owners
pub tickets_known : (files : Files) (tickets : Tickets) (waiters : Waiters) → IsIndexed files tickets waiters
    → TicketsKnown (waits_in files) tickets
tickets_known files tickets waiters known =
    record { pending = known.pending; granted = known.granted; once_on_a_file = known.once_on_a_file; granted_once = known.granted_once }

pub waiters_known : (files : Files) (tickets : Tickets) (waiters : Waiters) → IsIndexed files tickets waiters
    → WaitersKnown (waits_in files) waiters
waiters_known files tickets waiters known = record { detected = known.detected; crossed = known.crossed }

pub indexed : (files : Files) (tickets : Tickets) (waiters : Waiters) → TicketsKnown (waits_in files) tickets
    → WaitersKnown (waits_in files) waiters → IsIndexed files tickets waiters
indexed files tickets waiters of_tickets of_waiters = search (rules)

module _ (old new : Files) (file : ℕ) (after : LockFile) (puts : PutsEntry old new file (Some after)) where
  -- the file has the state of its new entry
  pub now_at : state_in new file ≡ file_state after
  now_at = ap state_at puts.here

  -- and its waits, where these are given
  pub puts_waits : (waits : List Pending) → (file_state after).waits ≡ waits → PutsWaits (waits_in old) (waits_in new) file waits
  puts_waits waits is = record {
    here = ap (λ (F : FileState). F.waits) now_at ∙ is;
    others = λ other differs. ap (λ (entry : Option LockFile). (state_at entry).waits) (puts.others other differs);
  }

-- waiters that stand for the same are known as well
pub WaitersKnown-same : (waits : ℕ → List Pending) (was now : Waiters) → SameWaiters was now → WaitersKnown waits was → WaitersKnown waits now
WaitersKnown-same waits was now same known =
    waiters_kept waits was now known same.files (λ owner none. same.crossed owner ∙ known.crossed owner (sym (same.files owner) ∙ none))

-- and where an owner is given a lock of this mode, or none
pub WaitersKnown-given : (waits : ℕ → List Pending) (was now : Waiters) (owner : ℕ) (mode : Option Mode) → CrossesIf mode was now owner
    → WaitersKnown waits was → WaitersKnown waits now
WaitersKnown-given waits was now owner None same known = WaitersKnown-same waits was now same known
WaitersKnown-given waits was now owner (Some mode) crosses known = waiters_crossed waits was now owner known crosses

module _ (waits rest : ℕ → List Pending) (was now : Waiters) (file : ℕ) (wait : Pending) where
  -- and where a wait leaves
  pub WaitersKnown-ended : (before later : List Pending) → waits file ≡ before ++ wait ∷ later → PutsWaits waits rest file (before ++ later)
      → (detect : Bool) → wait.detect ≡ detect
      → EndsIf detect was now wait.owner file → WaitersKnown waits was → WaitersKnown rest now
  WaitersKnown-ended before later stood puts false is same known =
      WaitersKnown-same rest was now same (waiters_unmoved waits rest was now file wait known before later stood puts is)
  WaitersKnown-ended before later stood puts true is ends known = waiters_left waits rest was now file wait known before later stood puts is ends

  -- and where one joins
  pub WaitersKnown-begun : PutsWaits waits rest file (waits file ++ wait ∷ []) → (detect : Bool) → wait.detect ≡ detect
      → BeginsIf detect was now wait.owner file → WaitersKnown waits was → WaitersKnown rest now
  WaitersKnown-begun puts false is same known = WaitersKnown-same rest was now same (waiters_passed waits rest was now file wait known is puts)
  WaitersKnown-begun puts true is begins known = waiters_joined waits rest was now file wait known is puts begins

-- the state that these stand for, as the state of a table
abbrev pub state_by : Files → Tickets → Waiters → State
state_by files tickets waiters = record { files = state_in files; grants = grants_of tickets; crossed = crossed_of waiters }

-- one file changes, and these owners are given locks
pub changes_by : (old new : Files) (tickets after : Tickets) (was now : Waiters) (file : ℕ) (given : List ℕ)
    → ((other : ℕ) → other ≢ file → entry_in new other ≡ entry_in old other)
    → grants_of after ≡ grants_of tickets → WaitersKnown (waits_in new) now → CrossesBy was given now
    → ChangesFile (state_by old tickets was) file given (state_by new after now)
changes_by old new tickets after was now file given others grants known crosses = record {
  others = λ other differs. same_from_eq (state_in old other) (state_in new other) (ap state_at (others other differs));
  grants = grants;
  crossed = Crosses-by (state_by old tickets was) (state_by new after now) was now given (λ owner. refl) (λ owner. refl) known crosses;
}

-- what holds of two entries holds of the states of the file
pub at_entries : (old new : Files) (file : ℕ) (before after : LockFile) (P : FileState → FileState → Type 0)
    → entry_in old file ≡ Some before → PutsEntry old new file (Some after)
    → P (file_state before) (file_state after) → P (state_in old file) (state_in new file)
at_entries old new file before after P was puts holds = grind (arith, common_steps)

-- an entry that stands for the same leaves the state
pub same_by : (old new : Files) (tickets : Tickets) (waiters : Waiters) (file : ℕ) (before after : LockFile)
    → entry_in old file ≡ Some before → PutsEntry old new file (Some after) → SameFile (file_state before) (file_state after)
    → SameState (state_by old tickets waiters) (state_by new tickets waiters)
same_by old new tickets waiters file before after was puts same = record {
  files = λ other. elim (cases_eq other file) [
    | inl here ↦ subst (λ (f : ℕ). SameFile (state_in old f) (state_in new f)) (sym here) (at_entries old new file before after SameFile was puts same)
    | inr differs ↦ same_from_eq (state_in old other) (state_in new other) (ap state_at (puts.others other differs))
  ];
  grants = refl;
  crossed = λ owner. refl;
}
