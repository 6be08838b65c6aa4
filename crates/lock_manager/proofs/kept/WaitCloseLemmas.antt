-- What holds of the waits stays so after a release: for `release`.
use Rattle.lock_manager.proofs.Common.{common_steps, ℕ, suc, ◌≡◌, ◌≢◌, ◌≤◌, refl, sym, ◌∙◌, subst, List, [], ◌∷◌, length, Bool, true, false, All, get_or, arith, ◌==◌, ◌&&◌, if◌then◌else◌, slice_get, ∥∥₁_elim, cases_Bool, eqb-true, eqb_tells, list_any}
use Rattle.lock_manager.proofs.Common.{Owner, Process, Description, Book, is_same_owner, ByteModes, Tables, Released, Descriptors, StandFor, Policy, Wait, Locks, IsFreeOfCycles, FreeWhenLocksChange, FreeWhenDescriptionLocksChange, MayWaitAs, AreOwned, is_one_of, is_released, ReleasesLocks, ReleasesRoom, HaveRoom, is_byte_wait, room_at, has_place_at}
use Rattle.std.proofs.lemmas.List.Folds.{list_any_none}
use Rattle.std.specs.List.{filter}
use Rattle.lock_manager.specs.DescriptionLocks.{HasOpenOn, AreOfHolders}
use Rattle.lock_manager.specs.WaitsKept.{is_flock_wait, is_of_bytes, is_of_whole}
use Rattle.lock_manager.proofs.kept.ClosingLemmas.{Closing, is_member}
use Rattle.lock_manager.proofs.kept.OwnedLemmas.{may_wait_more}
use Rattle.lock_manager.proofs.kept.SafetyLemmas.{same_owner}

-- what another process has open stays open, and its waits are for that
pub holders_closed : (D E : Descriptors) (p : ℕ) (released : Released) (waits : List Wait) → Closing D E p released → All (λ wait. wait.p ≢ p) waits
    → AreOfHolders D waits → AreOfHolders E waits
holders_closed D E p released waits closing others h k d within = grind (arith, common_steps, may_wait_more, eqb_tells)

-- and none of them is for a lock of an owner whose locks are released
none_released : (D E : Descriptors) (p : ℕ) (released : Released) (waits : List Wait) → Closing D E p released → All (λ wait. wait.p ≢ p) waits
    → AreOfHolders E waits
    → (owner : Owner) → is_released p released.descriptions owner ≡ true → All (λ wait. wait.owner ≢ owner) waits
none_released D E p released waits closing others h (Process q) is k d within e =
    let wait = get_or waits k d in
    let may : q ≡ wait.p = subst (λ o. MayWaitAs E wait o) e (h k d within) in
    others k d within (sym may ∙ sym (eqb-true p q is))
none_released D E p released waits closing others h (Description x) is k d within e =
    let wait = get_or waits k d in
    let has : HasOpenOn E wait.p wait.file x = subst (λ o. MayWaitAs E wait o) e (h k d within) in
    ((closing.are_released.descriptions.each x).0 (is_member released.descriptions x is)).1 (record { process = wait.p; fd = has.fd; refers = has.refers })

pub none_of_released : (old new : Tables) (locks : Locks) (waits : List Wait) (p : ℕ) (released : Released)
    → ((D : Descriptors) → StandFor old D → (E : Descriptors) × Closing D E p released × StandFor new E)
    → All (λ wait. wait.p ≢ p) waits → AreOwned old locks waits
    → (owner : Owner) → is_released p released.descriptions owner ≡ true → All (λ wait. wait.owner ≢ owner) waits
none_of_released old new locks waits p released call others owned owner is k d within e =
    ∥∥₁_elim owned (λ x y. absurd x)
    (λ given.
    let after = call given.0 given.1 in
    none_released given.0 after.0 p released waits after.1 others (holders_closed given.0 after.0 p released waits after.1 others given.3) owner is k d within e)

-- no wait that the test fails is counted
none_counted : (test : Wait → Bool) (waits : List Wait) → All (λ wait. test wait ≡ false) waits → length (filter test waits) ≡ 0
none_counted test [] h = refl
none_counted test (wait ∷ waits) h = grind (arith, common_steps, h 0 wait, none_counted test waits (λ k d within. h (suc k) d (omega (arith, within))))

-- a wait for a lock of another owner isn't one for a lock of this one
of_other : (a : Bool) (one owner : Owner) → one ≢ owner → (a && is_same_owner one owner) ≡ false
of_other a one owner h = grind (arith, common_steps, cases_Bool, same_owner)

-- a release that is of no owner that waits leaves room for the waits
pub room_released : (old new : List Book) (waits : List Wait) (p : ℕ) (files descriptions : List ℕ) → ReleasesRoom old new p files descriptions
    → ((owner : Owner) → is_released p descriptions owner ≡ true → All (λ wait. wait.owner ≢ owner) waits) → HaveRoom old waits → HaveRoom new waits
room_released old new waits p files descriptions releases none h =
    record {
      rooms = λ file owner. rw (releases.rooms file owner) (rooms file owner (is_one_of files file) (is_released p descriptions owner) refl);
      places = λ file d asked. releases.places file d ∙ places file d (is_one_of files file) (is_one_of descriptions d) refl asked;
    }
  where
    rooms : (file : ℕ) (owner : Owner) (a b : Bool) → is_released p descriptions owner ≡ b
        → length (filter (is_byte_wait file owner) waits) ≤ (if a && b then 0 else room_at (slice_get old file) owner)
    rooms file owner false b e = h.rooms file owner
    rooms file owner true false e = h.rooms file owner
    rooms file owner true true e =
        let zero_waits : length (filter (is_byte_wait file owner) waits) ≡ 0 = none_counted (is_byte_wait file owner) waits
        (λ k d within. let wait = get_or waits k d in of_other (is_of_bytes wait.family && (wait.file == file)) wait.owner owner (none owner e k d within)) in
        omega (arith, zero_waits)

    places : (file d : ℕ) (a b : Bool) → is_one_of descriptions d ≡ b → list_any (is_flock_wait file d) waits ≡ true
        → (if a && b then false else has_place_at (slice_get old file) d) ≡ true
    places file d false b e asked = h.places file d asked
    places file d true false e asked = h.places file d asked
    places file d true true e asked =
        let no_wait : list_any (is_flock_wait file d) waits ≡ false = list_any_none (is_flock_wait file d) waits
        (λ k x within. let wait = get_or waits k x in of_other (is_of_whole wait.family && (wait.file == file)) wait.owner (Description d) (none (Description d) e k x within)) in
        absurd (cc)

-- the traditional locks after the release, and the others before it
mid_bytes : Locks → Locks → ℕ → ByteModes
mid_bytes old new file (Process q) byte = new.bytes file (Process q) byte
mid_bytes old new file (Description d) byte = old.bytes file (Description d) byte

kept_of_other : (old new : Locks) (p : ℕ) (files descriptions : List ℕ) → ReleasesLocks old new p files descriptions
    → (file : ℕ) (o : Owner) (byte : ℕ) → o ≢ Process p → mid_bytes old new file o byte ≡ old.bytes file o byte
unfolding mid_bytes
kept_of_other old new p files descriptions h file o byte h2 = grind (arith, common_steps, eqb_tells)

-- a release closes no cycle, where the process doesn't wait
pub free_released : FreeWhenLocksChange → FreeWhenDescriptionLocksChange
    → (policy : Policy) (old new : Locks) (waits : List Wait) (p : ℕ) (files descriptions : List ℕ)
    → ReleasesLocks old new p files descriptions → All (λ wait. wait.owner ≢ Process p) waits → IsFreeOfCycles policy old waits
    → IsFreeOfCycles policy new waits
unfolding mid_bytes
free_released one all policy old new waits p files descriptions releases others free =
    let mid : Locks = record { bytes = mid_bytes old new; flocks = old.flocks } in
    all policy mid new waits
    (one policy old mid waits (Process p) free (λ file o byte other. kept_of_other old new p files descriptions releases file o byte other) others)
    (λ file q byte. refl)
