-- What a table's calls leave: of the fact `indexed`, and of the state, where the entry of one file is written.
use Rattle.lock_server.proofs.Common.{arith, ℕ, ◌≡◌, ◌≢◌, ◌∙◌, sym, ap, subst, refl, inl, inr, true, false, Bool, Option, Some, None, List, [], ◌∷◌, ◌++◌, All, Any, common_steps, is_some, IsTrue, IsSome, IfNone, OnOk, OnErr, MutBor, option_copied_mut, cases_Bool, cases_eq}
use Rattle.lock_server.proofs.Common.{Mode, Span, Family, Bytes, Whole, Pending, LockFile, Files, Table, Place, Reserved, Waits, Tickets, Waiters, FileState, SetsBytes, SetsLock, Unlocks, Leaves, untouched, file_state, keeps_place, state_at, PutsEntry, entry_in, IsReservedIn, KeepsRoomOn, entry_of, table_state, IsIndexed, state_in, place_at, grants_of, SetsPlace, SameWaiters, EndsIf, ChangesFile, ReleasesOn, SetsOn, given_by}
use Rattle.std.proofs.Common.{Result, Ok, Err}
use Rattle.lock_server.specs.Files.{Joins}
use Rattle.lock_server.specs.Waiting.{IsReserved, KeepsFlockRoom}
use Rattle.lock_server.specs.TicketsView.{SameTickets}
use Rattle.lock_server.specs.WaitersView.{BeginsIf, CrossesIf, HasRoomIf}
use Rattle.lock_server.specs.States.{IsPending}
use Rattle.lock_server.specs.Calls.{CrossesOwners, SetsUncrossed}
use Rattle.lock_server.proofs.IndexLemmas.{IsIndexed-same, same_from_eq, waits_kept}
use Rattle.lock_server.proofs.StateLemmas.{SameFile-itself}
use Rattle.lock_server.proofs.ListLemmas.{Any-nil}
use Rattle.lock_server.proofs.TicketMoves.{PutsWaits, IsIdle, has_key, itself, ticket_of, tickets_joined, tickets_left, tickets_noted}
use Rattle.lock_server.proofs.WaiterMoves.{WaitersKnown}
use Rattle.lock_server.proofs.TakenLemmas.{idle_reserved, place_waits, waits_place}
use Rattle.lock_server.proofs.CrossLemmas.{CrossesBy-begun, CrossesBy-ended, CrossesBy-given, CrossesBy-same}
use Rattle.lock_server.proofs.TableMoves.{waits_in, state_by, tickets_known, waiters_known, indexed, puts_waits, changes_by, at_entries, WaitersKnown-given, WaitersKnown-ended, WaitersKnown-begun, WaitersKnown-same}

pub SameWaiters-itself : (waiters : Waiters) → SameWaiters waiters waiters
SameWaiters-itself waiters = record { files = λ owner. refl; crossed = λ owner. refl }

-- of a file without an entry nothing is unlocked
pub untouched_unlocked : (family : Family) (owner : ℕ) → Unlocks family untouched owner untouched
untouched_unlocked family owner = grind (arith, common_steps, cases_Bool)

pub releases_nothing : (files : Files) (tickets : Tickets) (waiters : Waiters) (file : ℕ) (family : Family) (owner : ℕ)
    → IsIndexed files tickets waiters → entry_in files file ≡ None
    → ReleasesOn (state_by files tickets waiters) file family owner (state_by files tickets waiters)
releases_nothing files tickets waiters file family owner known none = record {
  unlocks = subst (λ (F : FileState). Unlocks family F owner F) (sym (ap state_at none)) (untouched_unlocked family owner);
  waits = refl;
  changes = changes_by files files tickets tickets waiters waiters file [] (λ other differs. refl) refl (waiters_known files tickets waiters known)
      (CrossesBy-same (waits_in files) waiters (waiters_known files tickets waiters known) waiters (SameWaiters-itself waiters));
}

-- who is given a lock, or none, is crossed, and all else stays
module _ (files : Files) (tickets : Tickets) (was now : Waiters) (owner : ℕ) (mode : Option Mode) (known : IsIndexed files tickets was) (crosses : CrossesIf mode was now owner) where
  pub crossed_indexed : IsIndexed files tickets now
  crossed_indexed = indexed files tickets now (tickets_known files tickets was known) (WaitersKnown-given (waits_in files) was now owner mode crosses (waiters_known files tickets was known))

  pub crosses_by : CrossesOwners (state_by files tickets was) (given_by owner mode) (state_by files tickets now)
  crosses_by = record {
    files = λ file. SameFile-itself (state_in files file);
    grants = refl;
    crossed = (changes_by files files tickets tickets was now 0 (given_by owner mode) (λ other differs. refl) refl (waiters_known files tickets now crossed_indexed)
        (CrossesBy-given (waits_in files) was (waiters_known files tickets was known) now owner mode crosses)).crossed;
  }

untouched_unset : (owner : ℕ) (span : Span) → SetsBytes untouched owner span None untouched
untouched_unset owner span = grind (arith, common_steps, cases_Bool)

pub unlocks_nothing : (files : Files) (tickets : Tickets) (waiters : Waiters) (file owner : ℕ) (span : Span) → entry_in files file ≡ None
    → SetsUncrossed (state_by files tickets waiters) file owner span None (state_by files tickets waiters)
unlocks_nothing files tickets waiters file owner span none = record {
  sets = subst (λ (F : FileState). SetsBytes F owner span None F) (sym (ap state_at none)) (untouched_unset owner span);
  waits = refl;
  others = λ other differs. SameFile-itself (state_in files other);
  grants = refl;
  crossed = λ other. refl;
}

module _ (old new : Files) (tickets : Tickets) (was : Waiters) (file : ℕ) (before after : LockFile)
    (is : entry_in old file ≡ Some before) (puts : PutsEntry old new file (Some after)) (known : IsIndexed old tickets was) where
  module _ (waits : (file_state after).waits ≡ (file_state before).waits) where
    -- where the waits are kept all is known as before
    pub kept_indexed : IsIndexed new tickets was
    kept_indexed = IsIndexed-same old new tickets was (waits_kept old new file before after puts is waits) known

    -- the owner loses its locks of the family
    pub releases_by : (family : Family) (owner : ℕ) → Unlocks family (file_state before) owner (file_state after)
        → ReleasesOn (state_by old tickets was) file family owner (state_by new tickets was)
    releases_by family owner unlocks = record {
      unlocks = at_entries old new file before after (λ F G. Unlocks family F owner G) is puts unlocks;
      waits = at_entries old new file before after (λ F G. G.waits ≡ F.waits) is puts waits;
      changes = changes_by old new tickets tickets was was file [] puts.others refl (waiters_known new tickets was kept_indexed)
          (CrossesBy-same (waits_in old) was (waiters_known old tickets was known) was (SameWaiters-itself was));
    }

    -- and is given one of bytes, or none, before it is crossed
    pub uncrossed_by : (owner : ℕ) (span : Span) (mode : Option Mode) → SetsBytes (file_state before) owner span mode (file_state after)
        → SetsUncrossed (state_by old tickets was) file owner span mode (state_by new tickets was)
    uncrossed_by owner span mode sets = record {
      sets = at_entries old new file before after (λ F G. SetsBytes F owner span mode G) is puts sets;
      waits = at_entries old new file before after (λ F G. G.waits ≡ F.waits) is puts waits;
      others = λ other differs. same_from_eq (state_in old other) (state_in new other) (ap state_at (puts.others other differs));
      grants = refl;
      crossed = λ other. refl;
    }

    module _ (now : Waiters) (owner : ℕ) (mode : Option Mode) (crosses : CrossesIf mode was now owner) where
      -- and is given one, or none
      pub given_indexed : IsIndexed new tickets now
      given_indexed = indexed new tickets now (tickets_known new tickets was kept_indexed) (WaitersKnown-given (waits_in new) was now owner mode crosses (waiters_known new tickets was kept_indexed))

      pub sets_by : (family : Family) (span : Span) → SetsLock family (file_state before) owner span mode (file_state after)
          → SetsOn (state_by old tickets was) file family owner span mode (state_by new tickets now)
      sets_by family span sets = record {
        sets = at_entries old new file before after (λ F G. SetsLock family F owner span mode G) is puts sets;
        waits = at_entries old new file before after (λ F G. G.waits ≡ F.waits) is puts waits;
        changes = changes_by old new tickets tickets was now file (given_by owner mode) puts.others refl (waiters_known new tickets now given_indexed)
            (CrossesBy-given (waits_in old) was (waiters_known old tickets was known) now owner mode crosses);
      }

  module _ (free : Tickets) (now : Waiters) (wait : Pending) (grants : grants_of free ≡ grants_of tickets) where
    -- a wait leaves, whose ticket is free now
    module _ (ahead behind : List Pending) (leaves : Leaves (file_state before) ahead wait behind (file_state after))
        (sets : SetsPlace tickets free wait.ticket None) (ends : EndsIf wait.detect was now wait.owner file) where
      stood : waits_in old file ≡ ahead ++ wait ∷ behind
      stood = ap (λ (F : FileState). F.waits) (ap state_at is) ∙ leaves.place

      gone : PutsWaits (waits_in old) (waits_in new) file (ahead ++ behind)
      gone = puts_waits old new file after puts (ahead ++ behind) leaves.waits

      left_waiters : WaitersKnown (waits_in new) now
      left_waiters = WaitersKnown-ended (waits_in old) (waits_in new) was now file wait ahead behind stood gone wait.detect refl ends (waiters_known old tickets was known)

      pub left_indexed : IsIndexed new free now
      left_indexed = indexed new free now (tickets_left (waits_in old) (waits_in new) tickets free file wait (tickets_known old tickets was known) ahead behind stood gone sets grants) left_waiters

      pub leaves_by : Leaves (state_in old file) ahead wait behind (state_in new file)
      leaves_by = at_entries old new file before after (λ F G. Leaves F ahead wait behind G) is puts leaves

      pub left_changes : ChangesFile (state_by old tickets was) file [] (state_by new free now)
      left_changes = changes_by old new tickets free was now file [] puts.others grants left_waiters
          (CrossesBy-ended (waits_in old) was (waiters_known old tickets was known) now wait.owner file wait.detect ends)

    -- a wait joins, for which room was taken
    module _ (joins : Joins (file_state before) wait (file_state after)) (noted : place_at tickets wait.ticket ≡ Some Reserved)
        (sets : SetsPlace tickets free wait.ticket (Some (Waits file))) (begins : BeginsIf wait.detect was now wait.owner file) where
      came : PutsWaits (waits_in old) (waits_in new) file (waits_in old file ++ wait ∷ [])
      came =
          puts_waits old new file after puts (waits_in old file ++ wait ∷ [])
          (joins.waits ∙ ap (λ (F : FileState). F.waits ++ wait ∷ []) (sym (ap state_at is)))

      joined_waiters : WaitersKnown (waits_in new) now
      joined_waiters = WaitersKnown-begun (waits_in old) (waits_in new) was now file wait came wait.detect refl begins (waiters_known old tickets was known)

      pub joined_indexed : IsIndexed new free now
      joined_indexed =
          indexed new free now
          (tickets_joined (waits_in old) (waits_in new) tickets free file wait (tickets_known old tickets was known) came (subst (λ (place : Option Place). IsIdle place) (sym noted) idle_reserved) sets grants) joined_waiters

      pub joins_by : Joins (state_in old file) wait (state_in new file)
      joins_by = at_entries old new file before after (λ F G. Joins F wait G) is puts joins

      pub joined_changes : ChangesFile (state_by old tickets was) file [] (state_by new free now)
      joined_changes = changes_by old new tickets free was now file [] puts.others grants joined_waiters
          (CrossesBy-begun (waits_in old) was (waiters_known old tickets was known) now wait.owner file wait.detect begins)

-- the entry of one file is put, or goes, and its waits stay
pub put_indexed : (old new : Files) (tickets : Tickets) (waiters : Waiters) (file : ℕ) (entry : Option LockFile)
    → PutsEntry old new file entry → (state_at entry).waits ≡ (state_in old file).waits
    → IsIndexed old tickets waiters → IsIndexed new tickets waiters
put_indexed old new tickets waiters file entry puts same known =
    IsIndexed-same old new tickets waiters
    (λ other. elim (cases_eq other file) [
      | inl here ↦
          subst (λ (f : ℕ). (state_in new f).waits ≡ (state_in old f).waits) (sym here)
          (ap (λ (e : Option LockFile). (state_at e).waits) puts.here ∙ same)
      | inr differs ↦ ap (λ (e : Option LockFile). (state_at e).waits) (puts.others other differs)
    ]) known

-- an entry is made, or refused, where there was none
pub opened_indexed : {X E : Type 0} (r : Result X E) (old new : Files) (tickets : Tickets) (waiters : Waiters) (file : ℕ)
    (entry : LockFile) → entry_in old file ≡ None → (file_state entry).waits ≡ []
    → OnOk r (PutsEntry old new file (Some entry)) → OnErr r ((other : ℕ) → entry_in new other ≡ entry_in old other) → IsIndexed old tickets waiters
    → IsIndexed new tickets waiters
opened_indexed (Ok x) old new tickets waiters file entry none empty ok err known =
    put_indexed old new tickets waiters file (Some entry) ok (empty ∙ sym (ap (λ (e : Option LockFile). (state_at e).waits) none)) known
opened_indexed (Err e) old new tickets waiters file entry none empty ok err known =
    IsIndexed-same old new tickets waiters (λ other. ap (λ (found : Option LockFile). (state_at found).waits) (err other)) known

-- what holds holds on an error
pub on_err : {X E : Type 0} (told : Result X E) (P : Type 0) → P → OnErr told P
on_err (Ok done) P holds = tt
on_err (Err memory) P holds = holds

pub none_from_test : {X : Type 0} (found : Option X) → is_some found ≡ false → found ≡ None
none_from_test None test = refl
none_from_test (Some entry) test = absurd (let h : true ≡ false = test in cc)

pub some_from_test : {X : Type 0} (found : Option X) → is_some found ≡ true → (entry : X) × (found ≡ Some entry)
some_from_test None test = absurd (let h : false ≡ true = test in cc)
some_from_test (Some entry) test = (entry, refl)

-- where a wait has the ticket the file has an entry
entry_with : (found : Option LockFile) (ticket : ℕ) → Any (λ wait. wait.ticket ≡ ticket) (state_at found).waits → (entry : LockFile) × (found ≡ Some entry)
entry_with None ticket any = absurd (Any-nil (λ wait. wait.ticket ≡ ticket) any)
entry_with (Some entry) ticket any = (entry, refl)

module _ (table : Table) (ticket file : ℕ) (waits : place_at table.tickets ticket ≡ Some (Waits file)) where
  pub entry_of_wait : (entry : LockFile) × (entry_in table.files file ≡ Some entry)
  unfolding table_state entry_of
  entry_of_wait = entry_with (entry_in table.files file) ticket (waits_place table ticket file waits)

  -- so a map lends it
  pub lent_of_wait : (lent : Option (MutBor LockFile)) → option_copied_mut lent ≡ entry_in table.files file → IsSome lent
  lent_of_wait None value = absurd (let there : None ≡ Some entry_of_wait.0 = value ∙ entry_of_wait.1 in cc)
  lent_of_wait (Some locks) value = refl

  -- and it has the wait
  pub wait_of_ticket : (before : LockFile) → entry_in table.files file ≡ Some before → Any (λ wait. wait.ticket ≡ ticket) (file_state before).waits
  unfolding table_state entry_of
  wait_of_ticket before is = subst (λ (found : Option LockFile). Any (λ wait. wait.ticket ≡ ticket) (state_at found).waits) is (waits_place table ticket file waits)

-- none of these waits has the ticket, and one has
pub no_wait : (ticket : ℕ) (waits : List Pending) → All (λ wait. wait.ticket ≢ ticket) waits → ¬ Any (λ wait. wait.ticket ≡ ticket) waits
no_wait ticket waits none (k, wait, within, is, same) = none k wait within (ap (λ (w : Pending). w.ticket) is ∙ same)

-- a ticket of which nobody knows that it waits is not pending
pub not_pending : (table : Table) (ticket : ℕ) → ((file : ℕ) → place_at table.tickets ticket ≢ Some (Waits file)) → ¬ IsPending (table_state table) ticket
not_pending table ticket none pending = none pending.file (place_waits table ticket pending.file pending.waits)

-- waiters that stand for the same are known as well
pub same_indexed : (files : Files) (tickets : Tickets) (was now : Waiters) → SameWaiters was now → IsIndexed files tickets was
    → IsIndexed files tickets now
same_indexed files tickets was now same known =
    indexed files tickets now (tickets_known files tickets was known) (WaitersKnown-same (waits_in files) was now same (waiters_known files tickets was known))

-- a request is noted, or refused
pub noted_indexed : {X E : Type 0} (r : Result X E) (files : Files) (tickets after : Tickets) (waiters : Waiters) (ticket : ℕ)
    → IsIndexed files tickets waiters → IsIdle (place_at tickets ticket)
    → OnOk r (SetsPlace tickets after ticket (Some Reserved)) → grants_of after ≡ grants_of tickets → OnErr r (SameTickets tickets after)
    → IsIndexed files after waiters
noted_indexed r files tickets after waiters ticket h h2 h3 h4 h5 =
    grind (arith, common_steps, indexed, tickets_noted, waits_in, tickets_known, idle_reserved, waiters_known, has_key, ticket_of, itself)

-- what holds of nothing can't be where it doesn't hold
pub some_unless : {A P : Type 0} (found : Option A) → IfNone found P → ¬ P → IsSome found
some_unless None holds none = absurd (none holds)
some_unless (Some x) holds none = refl

flock_room : (before after : LockFile) → KeepsFlockRoom before after → (wait : Pending) → wait.family ≡ Whole → IsReservedIn wait.family before wait
    → IsReservedIn wait.family after wait
unfolding keeps_place
flock_room before after keeps wait of_whole room = grind (arith, common_steps)

-- an entry that keeps its room for flock requests keeps it in the table
pub keeps_room_on : (old new : Table) (file : ℕ) (before after : LockFile) → entry_of old file ≡ Some before → entry_of new file ≡ Some after
    → KeepsFlockRoom before after
    → ((ticket : ℕ) → place_at old.tickets ticket ≡ Some Reserved → place_at new.tickets ticket ≡ Some Reserved) → KeepsRoomOn old new file
keeps_room_on old new file before after was now keeps tickets = record {
  places = λ owner had. record {
    entry = after;
    is = now;
    place = keeps.places owner (subst (λ (e : LockFile). IsTrue (keeps_place e owner)) (same_entry had.entry had.is) had.place);
  };
  requests = λ wait of_whole no_detect had. (let room = subst (λ (e : LockFile). IsReserved e wait) (same_entry had.entry had.is) had.room in record {
    entry = after;
    is = now;
    room = record { list = keeps.list room.list; lock = flock_room before after keeps wait of_whole room.lock };
    ticket = tickets wait.ticket had.ticket;
    detect = subst (λ (detect : Bool). HasRoomIf detect new.waiters wait.owner) (sym no_detect) tt;
  });
}
  where
    same_entry : (entry : LockFile) → entry_of old file ≡ Some entry → entry ≡ before
    same_entry entry is = let e : Some entry ≡ Some before = sym is ∙ was in cc
