-- Waits of owners, of one wait more and of one file more: for `LockFile::next_wait` and `Table::next_wait`.
use Rattle.lock_server.proofs.Common.{ℕ, ◌≡◌, ◌+◌, ◌<◌, ◌≤◌, ◌∙◌, ◌⊎◌, inl, inr, sym, ap, subst, arith, append-nil, Option, List, [], ◌∷◌, ◌++◌, cases_lt, OwnerWait, Pending, SameFile, untouched, IsNextFrom, IsWaitUpTo, number_behind, wait_place, State}
use Rattle.std.specs.Prelude.{Any}
use Rattle.lock_server.specs.Listing.{IsEarlierOf, IsWaitAmong}
use Rattle.lock_server.proofs.LeaveLemmas.{Any-at, Any-with}
use Rattle.lock_server.proofs.ListLemmas.{Any-cons, Any-here, Any-nil, Any-there}
use Rattle.lock_server.proofs.PlaceLemmas.{next_as_before, next_joined}

Any-push_cases : {X : Type 0} (P : X → Type 0) (xs : List X) (x : X) → Any P (xs ++ x ∷ []) → Any P xs ⊎ P x
Any-push_cases P [] x any = elim (Any-cons P x [] any) [ inl is ↦ inr is | inr none ↦ inl none ]
Any-push_cases P (y ∷ ys) x any = elim (Any-cons P y (ys ++ x ∷ []) any) [
  | inl first ↦ inl (Any-here P y ys first)
  | inr later ↦ elim (Any-push_cases P ys x later) [ inl among ↦ inl (Any-there P y ys among) | inr is ↦ inr is ]
]

-- by whom and by which ticket a request waits
abbrev IsOf : OwnerWait → Pending → Type 0
IsOf wait pending = (pending.owner ≡ wait.owner) × (pending.ticket ≡ wait.ticket)

wait_of : ℕ → Pending → OwnerWait
wait_of file pending = record { owner = pending.owner; file = file; ticket = pending.ticket }

same_wait : (file : ℕ) (pending : Pending) (wait : OwnerWait) → wait.file ≡ file → IsOf wait pending → wait ≡ wait_of file pending
unfolding wait_of
same_wait file pending wait on of_wait =
    let build : ℕ → ℕ → ℕ → OwnerWait = λ (o f t : ℕ). record { owner = o; file = f; ticket = t } in
    ap (λ (o : ℕ). build o wait.file wait.ticket) (sym of_wait.0) ∙ ap (λ (f : ℕ). build pending.owner f wait.ticket) on
    ∙ ap (λ (t : ℕ). build pending.owner file t) (sym of_wait.1)

-- one wait on the file more
pub wait_joins : (seen : List Pending) (pending : Pending) (file last : ℕ) (from : List ℕ) (found next first : Option OwnerWait) → IsEarlierOf found next first
    → IsNextFrom wait_place (λ wait. (wait.file ≡ file) × IsWaitAmong seen last wait) from found
    → IsNextFrom wait_place (λ wait. (wait ≡ record { owner = pending.owner; file = file; ticket = pending.ticket }) × (wait.owner ≤ last)) from next
    → IsNextFrom wait_place (λ wait. (wait.file ≡ file) × IsWaitAmong (seen ++ pending ∷ []) last wait) from first
unfolding wait_of
wait_joins seen pending file last from found next first is one other =
    next_joined _ _ (λ wait. (wait.file ≡ file) × IsWaitAmong (seen ++ pending ∷ []) last wait) from
    (λ w listed. (listed.0, (listed.1.0, Any-with (IsOf w) seen [] pending (rw (append-nil seen) listed.1.1))))
    (λ w is_here. (
      ap (λ (v : OwnerWait). v.file) is_here.0,
      (is_here.1, Any-at (IsOf w) seen [] pending (sym (ap (λ (v : OwnerWait). v.owner) is_here.0), sym (ap (λ (v : OwnerWait). v.ticket) is_here.0))),
    ))
    (λ w also. elim (Any-push_cases (IsOf w) seen pending also.1.1) [
      | inl among ↦ inl (also.0, (also.1.0, among))
      | inr of_wait ↦ inr (same_wait file pending w also.0 of_wait, also.1.0)
    ])
    found next first is one other

-- the waits on a file, as those of a state
pub waits_on : (S : State) (file last : ℕ) (from : List ℕ) (waits : List Pending) (found : Option OwnerWait) → (S.files file).waits ≡ waits
    → IsNextFrom wait_place (λ wait. (wait.file ≡ file) × IsWaitAmong waits last wait) from found
    → IsNextFrom wait_place (λ wait. (wait.file ≡ file) × IsWaitUpTo S last wait) from found
waits_on S file last from waits found is one =
    next_as_before wait_place (λ wait. (wait.file ≡ file) × IsWaitAmong waits last wait) (λ wait. (wait.file ≡ file) × IsWaitUpTo S last wait) from found
    (λ w listed. (
      listed.0,
      subst (λ (f : ℕ). IsWaitAmong (S.files f).waits last w) (sym listed.0) (subst (λ (ws : List Pending). IsWaitAmong ws last w) (sym is) listed.1),
    ))
    (λ w listed. (
      listed.0,
      subst (λ (ws : List Pending). IsWaitAmong ws last w) is (subst (λ (f : ℕ). IsWaitAmong (S.files f).waits last w) listed.0 listed.1),
    ))
    one

-- the waits on a file behind those that were looked at
module _ (S : State) (last : ℕ) (from : List ℕ) (above : Option ℕ) (file : ℕ) (behind : number_behind above ≤ file)
    (none : (other : ℕ) → number_behind above ≤ other → other < file → SameFile untouched (S.files other)) where
  no_waits_between : (wait : OwnerWait) → IsWaitUpTo S last wait → number_behind above ≤ wait.file → wait.file < file → ⊥
  no_waits_between wait waits beyond before =
      Any-nil (IsOf wait) (subst (λ (ws : List Pending). Any (IsOf wait) ws) (none wait.file beyond before).waits waits.1)

  pub wait_beyond : (found next first : Option OwnerWait) → IsEarlierOf found next first
      → IsNextFrom wait_place (λ wait. (wait.file < number_behind above) × IsWaitUpTo S last wait) from found
      → IsNextFrom wait_place (λ wait. (wait.file ≡ file) × IsWaitUpTo S last wait) from next
      → IsNextFrom wait_place (λ wait. (wait.file < file + 1) × IsWaitUpTo S last wait) from first
  wait_beyond found next first is one other =
      next_joined _ _ (λ wait. (wait.file < file + 1) × IsWaitUpTo S last wait) from
      (λ w listed. (let before = listed.0 in omega arith, listed.1))
      (λ w is_here. (let same = is_here.0 in omega arith, is_here.1))
      (λ w also. elim (cases_lt w.file (number_behind above)) [
        | inl before ↦ inl (before, also.1)
        | inr beyond ↦ elim (cases_lt w.file file) [
          | inl between ↦ absurd (no_waits_between w also.1 beyond between)
          | inr from_file ↦ inr ((let upto = also.0 in let is : w.file ≡ file = omega arith in is), also.1)
        ]
      ])
      found next first is one other

-- all waits that there are
pub all_waits : (S : State) (last : ℕ) (from : List ℕ) (next : ℕ) (found : Option OwnerWait)
    → ((other : ℕ) → next ≤ other → SameFile untouched (S.files other))
    → IsNextFrom wait_place (λ wait. (wait.file < next) × IsWaitUpTo S last wait) from found → IsNextFrom wait_place (IsWaitUpTo S last) from found
all_waits S last from next found none one =
    next_as_before wait_place (λ wait. (wait.file < next) × IsWaitUpTo S last wait) (IsWaitUpTo S last) from found
    (λ w listed. listed.1)
    (λ w waits. elim (cases_lt w.file next) [
      | inl before ↦ (before, waits)
      | inr beyond ↦ absurd (Any-nil (IsOf w) (subst (λ (ws : List Pending). Any (IsOf w) ws) (none w.file beyond).waits waits.1))
    ])
    one
