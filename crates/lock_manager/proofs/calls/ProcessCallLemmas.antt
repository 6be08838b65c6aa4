-- What fork, exit, signal and kill do to the waits and to the states that a machine shows: for `Machine::grant_bytes`, `Machine::grant_flock`,
-- `Machine::interrupt` and `Machine::kill`.
use Rattle.lock_manager.proofs.Common.{common_steps, ℕ, ◌≡◌, ◌≢◌, ◌≤◌, ◌+◌, refl, sym, ◌∙◌, ap, subst, List, [], ◌∷◌, length, Some, Bool, true, All, get_or, inl, inr, arith, ◌==◌, if◌then◌else◌, not, same_Some, slice_get_within, ∥∥₁_map, cases_Bool, eqb_tells, All-head, All-tail, list_any}
use Rattle.lock_manager.proofs.Common.{Book, Tables, ever_alive, Wait, Waits, IsFreeOfCycles, Locks, locks_of, AreBlockedElsewhere, waits_of, wait_of, without_wait_of, AreTold, Machine, ProcState, Live, Ended, State, state_numbered, with_process, StandsSo, EndComesTo, KillOtherComesTo, without_wait, with_released, Outcome, Note, Kill, MayWaitAs, AreOwned, Shows, Tells, machine_state, machine_locks, machine_waits, AreKept, AreApart, IsSuspended, AreStanding, HaveRoom}
use Rattle.std.proofs.lemmas.List.Sums.{length-filter, count_by-le-length}
use Rattle.std.proofs.lemmas.List.Folds.{find_at}
use Rattle.std.proofs.lemmas.Option.{get_or_from_slice_get}
use Rattle.std.proofs.lemmas.List.Elements.{All-filter, filter_passes}
use Rattle.std.proofs.lemmas.List.Kept.{AllPairs-filter}
use Rattle.std.specs.List.{filter}
use Rattle.wait_core.specs.FreeOfCycles.{FreeWhenOneLeaves}
use Rattle.lock_manager.proofs.kept.ProcessLemmas.{waiting_still, waited_before}

-- no wait of a process is left without it
pub without_passes : (waits : List Wait) (p : ℕ) → All (λ wait. wait.p ≢ p) (without_wait_of waits p)
without_passes waits p k d within e = grind (arith, common_steps, filter_passes, eqb_tells)

-- a process without a wait leaves nothing
pub without_absent : (waits : List Wait) (p : ℕ) → All (λ wait. wait.p ≢ p) waits → without_wait_of waits p ≡ waits
without_absent [] p others = refl
without_absent (wait ∷ waits) p others =
    let rest = All-tail (λ wait. wait.p ≢ p) wait waits others in
    grind (arith, common_steps, eqb_tells, All-head (λ wait. wait.p ≢ p) wait waits others, without_absent waits p rest)

-- no more waits are left than there were
length_without : (waits : List Wait) (p : ℕ) → length (without_wait_of waits p) ≤ length waits
length_without waits p = grind (arith, common_steps, length-filter, count_by-le-length)

-- a wait that is found is one fewer where it leaves
pub fewer_without : (waits : List Wait) (p : ℕ) (found : Wait) → wait_of waits p ≡ Some found → length (without_wait_of waits p) + 1 ≤ length waits
fewer_without [] p found is = absurd (cc)
fewer_without (wait ∷ waits) p found is = grind (arith, common_steps, eqb_tells, length_without waits p, fewer_without waits p found)

-- a wait that is found is the process' own
pub found_of : (waits : List Wait) (p : ℕ) (found : Wait) → wait_of waits p ≡ Some found → found.p ≡ p
found_of [] p found is = absurd (cc)
found_of (wait ∷ waits) p found is = grind (arith, common_steps, eqb_tells, same_Some, found_of waits p found)

-- what holds of all waits holds of the one that is found
pub found_holds : (P : Wait → Type 0) (waits : List Wait) (p : ℕ) (found : Wait) → wait_of waits p ≡ Some found → All P waits → P found
found_holds P waits p found is all =
    let at = sym (find_at (λ wait. wait.p == p) waits) ∙ is in
    subst P (get_or_from_slice_get waits _ found found at) (all _ found (slice_get_within waits _ found at))

-- the wait of another process is found as before
pub other_found : (waits : List Wait) (p q : ℕ) → q ≢ p → wait_of (without_wait_of waits p) q ≡ wait_of waits q
other_found [] p q differs = refl
other_found (wait ∷ waits) p q differs = grind (arith, common_steps, eqb_tells, other_found waits p q differs)

-- no more waits of a kind are left than there were
pub counted_without : (test : Wait → Bool) (waits : List Wait) (p : ℕ) → length (filter test (without_wait_of waits p)) ≤ length (filter test waits)
counted_without test [] p = omega arith
counted_without test (wait ∷ waits) p = grind (arith, common_steps, eqb_tells, cases_Bool, counted_without test waits p)

-- nor of a kind that there wasn't
pub found_without : (test : Wait → Bool) (waits : List Wait) (p : ℕ) → list_any test (without_wait_of waits p) ≡ true → list_any test waits ≡ true
found_without test [] p is = is
found_without test (wait ∷ waits) p is = grind (arith, common_steps, eqb_tells, cases_Bool, found_without test waits p)

-- so there is room for the waits that are left
pub room_without : (books : List Book) (waits : List Wait) (p : ℕ) → HaveRoom books waits → HaveRoom books (without_wait_of waits p)
room_without books waits p h = grind (arith, common_steps, counted_without, found_without)

-- those are of descriptions that their processes have open
pub owned_without : (tables : Tables) (locks : Locks) (waits : List Wait) (p : ℕ) → AreOwned tables locks waits
    → AreOwned tables locks (without_wait_of waits p)
owned_without tables locks waits p owned =
    ∥∥₁_map owned (λ given. (
      given.0,
      given.1,
      given.2,
      All-filter (λ (wait : Wait). not (wait.p == p)) (λ wait. MayWaitAs given.0 wait wait.owner) waits given.3,
    ))

-- the process whose wait is over lives, and the others wait on
pub standing_left : (tables : Tables) (states states' : List ProcState) (waits : List Wait) (p : ℕ) (found : Wait) → StandsSo states states' p Live
    → wait_of waits p ≡ Some found → AreStanding tables states waits → AreStanding tables states' (without_wait_of waits p)
standing_left tables states states' waits p found set is h = record {
  alive = λ q live. elim (eqb_tells q p) [
    | inl same ↦
        let born : ever_alive tables found.p ≡ true = (found_holds (IsSuspended tables states) waits p found is h.suspended).born in
        subst (λ r. ever_alive tables r ≡ true) (found_of waits p found is ∙ sym same.1) born
    | inr other ↦ h.alive q (ap (λ b. if b then Live else state_numbered states q) (sym other.0) ∙ sym (set q) ∙ live)
  ];
  suspended = λ k d inside.
      let wait = get_or (without_wait_of waits p) k d in
      let was = All-filter (λ (wait : Wait). not (wait.p == p)) (IsSuspended tables states) waits h.suspended k d inside in
      record { born = was.born; waiting = waiting_still states states' p Live set wait.p (without_passes waits p k d inside) was.waiting };
  awaited = λ q waits_on none.
      let before = waited_before states states' p Live set (λ e. cc) q waits_on in
      h.awaited q before.1 (sym (other_found waits p q before.0) ∙ none);
}

-- what is kept stays where a wait is over
pub kept_by_leave : FreeWhenOneLeaves → (m : Machine) (waits : Waits) (p : ℕ) → waits_of waits ≡ without_wait_of (waits_of m.waits) p
    → ((locks : Locks) → AreTold m.waits locks → AreTold waits locks) → ((locks : Locks) → AreBlockedElsewhere m.waits locks → AreBlockedElsewhere waits locks)
    → AreKept m.rules.policy m.tables m.books.items waits
kept_by_leave leaves m waits p rest told blocked =
    let books = m.books.items in
    let locks = locks_of books in
    let before = waits_of m.waits in
    record {
      compatible = m.kept.compatible;
      owned = subst (AreOwned m.tables locks) (sym rest) (owned_without m.tables locks before p m.kept.owned);
      within = m.kept.within;
      told = ∥∥₁_map m.kept.told (told locks);
      blocked = ∥∥₁_map m.kept.blocked (blocked locks);
      apart = subst AreApart (sym rest) (AllPairs-filter (λ (v w : Wait). v.p ≢ w.p) (λ (wait : Wait). not (wait.p == p)) before m.kept.apart);
      room = subst (HaveRoom books) (sym rest) (room_without books before p m.kept.room);
      free_of_cycles = subst (IsFreeOfCycles m.rules.policy locks) (sym rest) (leaves m.rules.policy locks before p m.kept.free_of_cycles);
    }

-- with the same books and tables the machine shows the state without the wait, in which the process stands so
pub with_wait_gone : (old new : Machine) (S : State) (p : ℕ) (state : ProcState) → new.books ≡ old.books → new.tables ≡ old.tables
    → StandsSo old.states.items new.states.items p state
    → waits_of new.waits ≡ without_wait_of (waits_of old.waits) p
    → Shows old S → Shows new (with_process (without_wait S p) p state)
unfolding machine_locks machine_state machine_waits
with_wait_gone old new S p state books tables states waits h = grind (arith, common_steps)

-- the end of a process right after its wait is over is the end of one that waits
pub ends_waiting : (new : Machine) (S : State) (p : ℕ) (told : List Note)
    → (T : State) × EndComesTo (with_process (without_wait S p) p Live) p told (record { told = told; after = T }) × Shows new T
    → (T : State) × EndComesTo S p told (record { told = told; after = T }) × Shows new T
ends_waiting new S p told given =
    let released = given.1.0 in
    let E = given.1.1 in
    let live : State = with_process (without_wait S p) p Live in
    let shown : Shows new (with_process (with_released (without_wait live p) E p released) p Ended) =
    subst (Shows new) (ap (λ (o : Outcome). o.after) given.1.3) given.2 in (
      with_process (with_released (without_wait S p) E p released) p Ended,
      (released, E, given.1.2, refl),
      record {
        bytes = shown.bytes;
        flocks = shown.flocks;
        descriptors = shown.descriptors;
        waits = shown.waits ∙ without_absent (without_wait_of S.waits p) p (without_passes S.waits p);
        states = λ q. grind (arith, common_steps, shown.states q);
      },
    )

-- a kill of oneself is an exit, of which nothing is told
pub kills_itself : (old new : Machine) (p n target : ℕ) → target ≡ p
    → ((S : State) → Shows old S → (T : State) × EndComesTo S p [] (record { told = []; after = T }) × Shows new T)
    → Tells old new p n (Kill target) []
kills_itself old new p n target same ends S h = grind (arith, common_steps, eqb_tells)

-- a kill of another process is told as it comes where this one stands
pub kills_other : (old new : Machine) (p n target : ℕ) (state : ProcState) (told : List Note) → target ≢ p → machine_state old target ≡ state
    → ((S : State) → Shows old S → (T : State) × KillOtherComesTo S p n target state (record { told = told; after = T }) × Shows new T)
    → Tells old new p n (Kill target) told
kills_other old new p n target state told differs stands comes S h = grind (arith, common_steps, eqb_tells)
