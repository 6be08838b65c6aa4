-- The first wait on a file that isn't blocked: for `LockFile::next_ready`.
use Rattle.lock_server.proofs.Common.{common_steps, ℕ, ◌≡◌, ◌+◌, ◌-◌, ◌<◌, ◌≤◌, ◌∙◌, true, false, None, zero, inl, inr, sym, subst, arith, append_assoc, append-nil, Some, List, [], ◌∷◌, ◌++◌, length, suc, take, drop, slice_get, cases_lt, take_all, take_more, length-take-le, slice_get_cases, slice_get_within}
use Rattle.lock_server.proofs.Common.{IsPlaceFrom, Policy, Pending, Freed, is_among, FileState, AreBlockedBut, AllBlocked, IsSettled, IsWaitBlocked, IsReadyAt}
use Rattle.lock_server.proofs.AskingLemmas.{among_test}
use Rattle.lock_server.proofs.FreedLemmas.{blocked_unless_freed}
use Rattle.lock_server.proofs.LeaveLemmas.{split_at}

-- the waits before a place are blocked, and of the others all but those that may be freed
abbrev pub IsKnownBut : Policy → FileState → Freed → ℕ → Type 0
IsKnownBut policy F freed from = AreBlockedBut policy F freed × AllBlocked policy F [] (take from F.waits)

-- one more wait that is blocked
pub AllBlocked-push : (policy : Policy) (F : FileState) (earlier waits : List Pending) (wait : Pending) → AllBlocked policy F earlier waits
    → IsWaitBlocked policy F (earlier ++ waits) wait → AllBlocked policy F earlier (waits ++ wait ∷ [])
AllBlocked-push policy F earlier [] wait all blocked = (subst (λ (es : List Pending). IsWaitBlocked policy F es wait) (append-nil earlier) blocked, tt)
AllBlocked-push policy F earlier (v ∷ waits) wait all blocked = (
  all.0,
  AllBlocked-push policy F (earlier ++ v ∷ []) waits wait all.1
      (subst (λ (es : List Pending). IsWaitBlocked policy F es wait) (sym (append_assoc earlier (v ∷ []) waits)) blocked),
)

-- one more wait that is blocked, in the list as far as it was looked at
pub blocked_so_far : (policy : Policy) (F : FileState) (i : ℕ) → i < length F.waits → AllBlocked policy F [] (take i F.waits)
    → ((wait : Pending) → slice_get F.waits i ≡ Some wait → IsWaitBlocked policy F (take i F.waits) wait)
    → AllBlocked policy F [] (take (i + 1) F.waits)
blocked_so_far policy F i within all blocked = grind (arith, common_steps, slice_get_cases, take_more, AllBlocked-push)

-- the first wait that isn't blocked
pub first_ready : (policy : Policy) (F : FileState) (i : ℕ) → i < length F.waits → AllBlocked policy F [] (take i F.waits)
    → ((wait : Pending) → slice_get F.waits i ≡ Some wait → ¬ IsWaitBlocked policy F (take i F.waits) wait) → IsReadyAt policy F i
first_ready policy F i within all ready = elim (slice_get_cases F.waits i).1 [
  | inl (wait, inside, some, is) ↦
      record {
        before = take i F.waits;
        wait = wait;
        after = drop (suc i) F.waits;
        at = length-take-le i F.waits (omega (arith, within));
        is_next = record { place = split_at F.waits i wait within is; ready = ready wait some; earliest = all };
      }
  | inr (past, none) ↦ absurd (omega arith)
]

-- more waits, none of which may have been freed
pub blocked_on : (policy : Policy) (F : FileState) (freed : Freed) (from steps : ℕ) → from + steps ≤ length F.waits → AreBlockedBut policy F freed
    → AllBlocked policy F [] (take from F.waits)
    → ((i : ℕ) (wait : Pending) → from ≤ i → i < from + steps → slice_get F.waits i ≡ Some wait → is_among freed wait ≡ false)
    → AllBlocked policy F [] (take (from + steps) F.waits)
blocked_on policy F freed from zero within others all away =
    let same : from ≡ from + 0 = omega arith in subst (λ (n : ℕ). AllBlocked policy F [] (take n F.waits)) same all
blocked_on policy F freed from (suc steps) within others all away =
    let before = blocked_on policy F freed from steps (omega (arith, within)) others all (λ i wait late early at. away i wait late (omega (arith, early)) at) in
    let next : (from + steps) + 1 ≡ from + suc steps = omega arith in
    subst (λ (n : ℕ). AllBlocked policy F [] (take n F.waits)) next
    (blocked_so_far policy F (from + steps) (omega (arith, within)) before
    (λ wait at.
    blocked_unless_freed policy F freed (from + steps) wait others at
    (λ among. (let yes = (among_test freed wait).1 among in
    let no = away (from + steps) wait (omega arith) (omega arith) at in
    let h : false ≡ true = sym no ∙ yes in cc))))

-- up to the next one that may have been freed
pub blocked_up_to : (policy : Policy) (F : FileState) (freed : Freed) (from place : ℕ) → IsKnownBut policy F freed from
    → IsPlaceFrom (is_among freed) from F.waits (Some place) → (place < length F.waits) × AllBlocked policy F [] (take place F.waits)
blocked_up_to policy F freed from place known (item, is) =
    let within = slice_get_within F.waits place item is.there in
    let late = is.not_before in
    let there : from + (place - from) ≡ place = omega (arith, late) in (
      within,
      subst (λ (n : ℕ). AllBlocked policy F [] (take n F.waits)) there
          (blocked_on policy F freed from (place - from) (omega (arith, late, within)) known.0 known.1 (λ i wait later early at. is.first i wait later (omega (arith, late, early)) at)),
    )

-- and where there is none all are blocked
pub all_blocked : (policy : Policy) (F : FileState) (freed : Freed) (from : ℕ) → IsKnownBut policy F freed from → IsPlaceFrom (is_among freed) from F.waits None
    → IsSettled policy F
all_blocked policy F freed from known none = elim (cases_lt from (length F.waits)) [
  | inl before ↦
      (let there : from + (length F.waits - from) ≡ length F.waits = omega (arith, before) in
      let all : take (from + (length F.waits - from)) F.waits ≡ F.waits = take_all (from + (length F.waits - from)) F.waits (omega (arith, before)) in
      subst (λ (ws : List Pending). AllBlocked policy F [] ws) all
      (blocked_on policy F freed from (length F.waits - from) (omega (arith, before)) known.0 known.1 (λ i wait late early at. none i wait late at)))
  | inr past ↦ subst (λ (ws : List Pending). AllBlocked policy F [] ws) (take_all from F.waits past) known.1
]

-- the wait at the place, which is blocked as those before it are
pub blocked_behind_it : (policy : Policy) (F : FileState) (freed : Freed) (from place : ℕ) → IsKnownBut policy F freed from
    → IsPlaceFrom (is_among freed) from F.waits (Some place)
    → ((wait : Pending) → slice_get F.waits place ≡ Some wait → IsWaitBlocked policy F (take place F.waits) wait) → IsKnownBut policy F freed (place + 1)
blocked_behind_it policy F freed from place known found blocked =
    let before = blocked_up_to policy F freed from place known found in
    (known.0, blocked_so_far policy F place before.0 before.1 blocked)

pub ready_at : (policy : Policy) (F : FileState) (freed : Freed) (from place : ℕ) → IsKnownBut policy F freed from
    → IsPlaceFrom (is_among freed) from F.waits (Some place)
    → ((wait : Pending) → slice_get F.waits place ≡ Some wait → ¬ IsWaitBlocked policy F (take place F.waits) wait) → IsReadyAt policy F place
ready_at policy F freed from place known found ready =
    let before = blocked_up_to policy F freed from place known found in
    first_ready policy F place before.0 before.1 ready
