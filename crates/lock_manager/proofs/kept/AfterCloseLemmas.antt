-- What holds of the machine after it has released what a call closed: for `Machine::close_fd`, `Machine::dup_to`, `Machine::end` and `Machine::fork`.
use Rattle.lock_manager.proofs.Common.{arith, ℕ, ◌≡◌, ◌≢◌, All, ◌==◌, refl, sym, ◌∙◌, ap, subst, List, Some, None, Option, Bool, true, false, ◌&&◌, ◌||◌, if◌then◌else◌, common_steps, ∥∥₁_map}
use Rattle.lock_manager.proofs.Common.{Mode, Description, Tables, Released, Descriptors, CloseGives, DupToGives, EndGives, StandFor, limits_of, ever_alive, Wait, Locks, locks_of, waits_of, without_wait_of, Machine, DupTo, CloseFd, ProcState, Live, Ended, State, with_process, state_numbered, StandsSo, AreCompatible, Note, with_released, EndComesTo, without_wait, IsOpenOn, AreOwned, AreWithinFiles, is_one_of, is_released, ReleasesLocks, Shows, machine_rules, machine_state, machine_locks, machine_waits, AreStanding}
use Rattle.fd_table.specs.Descriptors.{IsOpen}
use Rattle.lock_manager.specs.declared.request.Reply.TheVariants as replies
use Rattle.lock_manager.proofs.kept.AfterReleaseLemmas.{bytes_after, flocks_after}
use Rattle.lock_manager.proofs.calls.DescriptorCallLemmas.{Giving, IsServedBy}
use Rattle.lock_manager.proofs.kept.ClosingLemmas.{Closing, open_after, file_released, not_closed, end_closes}
use Rattle.lock_manager.proofs.kept.OwnedLemmas.{owned_in}
use Rattle.lock_manager.proofs.kept.SafetyLemmas.{none_conflict_fewer}
use Rattle.lock_manager.proofs.kept.ProcessLemmas.{alive_with, alive_still, lived_before, waiting_still, waited_before}
use Rattle.lock_manager.proofs.kept.WaitLemmas.{suspended_after}
use Rattle.lock_manager.proofs.calls.ProcessCallLemmas.{without_absent}
use Rattle.lock_manager.proofs.kept.WaitCloseLemmas.{holders_closed}

-- what is still held was held
held_before : (released : Bool) (held : Option Mode) (m : Mode) → (if released then None else held) ≡ Some m → held ≡ Some m
held_before true held m is = let none : None ≡ Some m = is in cc
held_before false held m is = is

-- without some locks the others conflict no more than before
pub compatible_released : (old new : Locks) (p : ℕ) (files descriptions : List ℕ) → ReleasesLocks old new p files descriptions → AreCompatible old
    → AreCompatible new
compatible_released old new p files descriptions releases before f = record {
  bytes = λ byte. none_conflict_fewer (λ o. old.bytes f o byte) (λ o. new.bytes f o byte) ((before f).bytes byte)
      (λ o m is. held_before (is_one_of files f && is_released p descriptions o) (old.bytes f o byte) m (sym (releases.bytes f o byte) ∙ is));
  flocks = none_conflict_fewer (old.flocks f) (new.flocks f) (before f).flocks
      (λ d m is. held_before (is_one_of files f && is_one_of descriptions d) (old.flocks f d) m (sym (releases.flocks f d) ∙ is));
}

-- nor are any past the largest offset
pub within_released : (old new : Locks) (p : ℕ) (files descriptions : List ℕ) → ReleasesLocks old new p files descriptions → AreWithinFiles old
    → AreWithinFiles new
within_released old new p files descriptions releases within f o byte past = grind (arith, common_steps)

-- a description that isn't open on the file any more has lost its locks there, or had none
lost : (D E : Descriptors) (p : ℕ) (released : Released) (f d : ℕ) (mode : Option Mode) → Closing D E p released → (¬ IsOpenOn D f d → mode ≡ None)
    → ¬ IsOpenOn E f d
    → (if is_one_of released.files f && is_one_of released.descriptions d then None else mode) ≡ None
lost D E p released f d mode closing before closed = at (is_one_of released.files f && is_one_of released.descriptions d) refl
  where
    gone : IsOpenOn D f d → ¬ IsOpen E d
    gone is after = closed (open_after D E p released f d closing is after)

    not_open : (is_one_of released.files f && is_one_of released.descriptions d) ≡ false → ¬ IsOpenOn D f d
    not_open kept is =
        let file : is_one_of released.files f ≡ true = file_released D E p released f d closing is (gone is) in
        let other : is_one_of released.descriptions d ≡ false = subst (λ b. (b && is_one_of released.descriptions d) ≡ false) file kept in
        not_closed D E p released d closing is.is_open other (gone is)

    at : (b : Bool) → (is_one_of released.files f && is_one_of released.descriptions d) ≡ b → (if b then None else mode) ≡ None
    at true is = refl
    at false kept = before (not_open kept)

-- so locks and waits of descriptions are those of open ones after the release too
pub owned_released : (old new : Tables) (was is : Locks) (waits : List Wait) (p : ℕ) (released : Released)
    → ((D : Descriptors) → StandFor old D → (E : Descriptors) × Closing D E p released × StandFor new E)
    → ReleasesLocks was is p released.files released.descriptions → All (λ wait. wait.p ≢ p) waits → AreOwned old was waits → AreOwned new is waits
owned_released old new was is waits p released call releases others owned =
    ∥∥₁_map owned (λ given.
    let after = call given.0 given.1 in (
      after.0,
      after.2,
      record {
        bytes = λ f d closed byte. releases.bytes f (Description d) byte
            ∙ lost given.0 after.0 p released f d (was.bytes f (Description d) byte) after.1 (λ not_open. given.2.bytes f d not_open byte) closed;
        flocks = λ f d closed. releases.flocks f d
            ∙ lost given.0 after.0 p released f d (was.flocks f d) after.1 (λ not_open. given.2.flocks f d not_open) closed;
      },
      holders_closed given.0 after.0 p released waits after.1 others given.3,
    ))

-- after the release, and with these process states, the machine stands for the state with what was released and those
with_release_and_states : (old new : Machine) (S : State) (E : Descriptors) (p : ℕ) (released : Released) (states : ℕ → ProcState)
    → Closing S.descriptors E p released
    → ReleasesLocks (locks_of old.books.items) (locks_of new.books.items) p released.files released.descriptions
    → ((q : ℕ) → machine_state new q ≡ states q) → waits_of new.waits ≡ waits_of old.waits → Shows old S → StandFor new.tables E
    → Shows new (record (with_released S E p released) { states = states })
unfolding machine_locks machine_waits
with_release_and_states old new S E p released states closing releases at waits h tables =
    let owned = owned_in old.tables (locks_of old.books.items) (waits_of old.waits) S.descriptors old.kept.owned h.descriptors in
    record {
      bytes = bytes_after (locks_of old.books.items) (locks_of new.books.items) S E p released h.bytes owned old.kept.within closing releases;
      flocks = flocks_after (locks_of old.books.items) (locks_of new.books.items) S E p released h.flocks owned closing releases;
      descriptors = tables;
      waits = waits ∙ h.waits;
      states = at;
    }

-- after the release the machine stands for the state with what was released
pub with_release : (old new : Machine) (S : State) (E : Descriptors) (p : ℕ) (released : Released) → Closing S.descriptors E p released
    → ReleasesLocks (locks_of old.books.items) (locks_of new.books.items) p released.files released.descriptions
    → new.states ≡ old.states → waits_of new.waits ≡ waits_of old.waits → Shows old S → StandFor new.tables E → Shows new (with_released S E p released)
unfolding machine_state
with_release old new S E p released closing releases states waits h tables =
    with_release_and_states old new S E p released S.states closing releases (λ q. rw states (h.states q)) waits h tables

-- and where the process ends, for that in which it has ended
with_end : (old new : Machine) (S : State) (E : Descriptors) (p : ℕ) (released : Released) → Closing S.descriptors E p released
    → ReleasesLocks (locks_of old.books.items) (locks_of new.books.items) p released.files released.descriptions
    → StandsSo old.states.items new.states.items p Ended → waits_of new.waits ≡ waits_of old.waits
    → Shows old S → StandFor new.tables E → Shows new (with_process (with_released S E p released) p Ended)
unfolding machine_state
with_end old new S E p released closing releases states waits h tables =
    with_release_and_states old new S E p released (λ q. if q == p then Ended else S.states q) closing releases
    (λ q. states q ∙ ap (λ s. if q == p then Ended else s) (h.states q)) waits h tables

-- close
abbrev pub Closes : ℕ → ℕ → Giving Released
Closes p fd D result E = CloseGives D p fd result E

abbrev pub after_close : ℕ → State → Descriptors → Released → State
after_close p S E released = with_released S E p released

pub served_by_close : (old : Machine) (p fd : ℕ) → IsServedBy (Closes p fd) (after_close p) (λ released. replies.Ok) old p (CloseFd fd)
served_by_close old p fd S n outcome h = h

-- dup2
abbrev pub DupsTo : Machine → ℕ → ℕ → ℕ → Giving (ℕ × Released)
DupsTo old p fd to D result E = DupToGives (limits_of old.tables) D p fd to result E

abbrev pub after_dup2 : ℕ → State → Descriptors → ℕ × Released → State
after_dup2 p S E answer = with_released S E p answer.1

pub served_by_dup2 : (old : Machine) (p fd to : ℕ) → IsServedBy (DupsTo old p fd to) (after_dup2 p) (λ answer. replies.Fd answer.0) old p (DupTo fd to)
unfolding machine_rules
served_by_dup2 old p fd to S n outcome h = grind (arith, common_steps)

-- the end of a process, which has no wait
pub ended : (old new : Machine) (p : ℕ) (released : Released)
    → ((D : Descriptors) → StandFor old.tables D → (E : Descriptors) × EndGives D p released E × StandFor new.tables E)
    → ReleasesLocks (locks_of old.books.items) (locks_of new.books.items) p released.files released.descriptions
    → StandsSo old.states.items new.states.items p Ended → waits_of new.waits ≡ waits_of old.waits
    → All (λ wait. wait.p ≢ p) (waits_of old.waits)
    → (told : List Note) (S : State) → Shows old S → (T : State) × EndComesTo S p told (record { told = told; after = T }) × Shows new T
unfolding machine_waits
ended old new p released call releases states waits others told S h =
    let given = call S.descriptors h.descriptors in
    let none : without_wait_of S.waits p ≡ S.waits = without_absent S.waits p (subst (λ ws. All (λ wait. wait.p ≢ p) ws) h.waits others) in
    let shown = with_end old new S given.0 p released (end_closes S.descriptors given.0 p released given.1) releases states waits h given.2 in (
      with_process (with_released (without_wait S p) given.0 p released) p Ended,
      (released, given.0, given.1, refl),
      subst (λ ws. Shows new (with_process (with_released (record S { waits = ws }) given.0 p released) p Ended)) (sym none) shown,
    )

-- whoever lives or waits after another one's end does so as before
pub standing_ended : (old new : Tables) (states states' : List ProcState) (before after : List Wait) (p : ℕ) → StandsSo states states' p Ended
    → state_numbered states p ≡ Live
    → ((q : ℕ) → ever_alive new q ≡ ever_alive old q) → after ≡ before → AreStanding old states before → AreStanding new states' after
standing_ended old new states states' before after p set live alive same h =
    grind (arith, common_steps, lived_before, suspended_after, waiting_still, waited_before)

-- and after another one's birth, that was never alive
pub standing_forked : (old new : Tables) (states states' : List ProcState) (waits : List Wait) (child : ℕ) → StandsSo states states' child Live
    → ((q : ℕ) → ever_alive new q ≡ ((q == child) || ever_alive old q)) → ¬ (ever_alive old child ≡ true) → AreStanding old states waits
    → AreStanding new states' waits
standing_forked old new states states' waits child set more never h =
    grind (arith, common_steps, alive_with, suspended_after, alive_still, waiting_still, waited_before)
