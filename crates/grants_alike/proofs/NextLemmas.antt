-- Which waits are blocked, and which comes next, in a state and a file that are alike.
use Rattle.grants_alike.proofs.Common.{◌≡◌, ℕ, true, List, [], ◌∷◌, ◌++◌, All, eqb-true, All-nil, All-cons, Wait, IsBlockedByLock, Pending, FileState, IsHeldBack, Numbers, TellsApart, SameLocks, SameWait, AreSameWaits}
use Rattle.std.proofs.lemmas.List.Elements.{All-head, All-tail}
use Rattle.wait_core.specs.Locks.{Locks}
use Rattle.grants_alike.proofs.BlockedLemmas.{blocked_there, blocked_here}
use Rattle.grants_alike.proofs.WaitLemmas.{is_on_file, SameSplit}

-- the waits are on the file
abbrev pub AreOn : ℕ → List Wait → Type 0
AreOn file waits = All (λ wait. is_on_file file wait ≡ true) waits

module _ (numbers : Numbers) (file : ℕ) (locks : Locks) (F : FileState) (owners : TellsApart numbers.of_owner)
    (descriptions : TellsApart numbers.of_description) (locked : SameLocks numbers locks file F) where
  pub one_there : (wait : Wait) (pending : Pending) → is_on_file file wait ≡ true → SameWait numbers wait pending → IsBlockedByLock locks wait
      → IsHeldBack F pending
  one_there wait pending on = blocked_there numbers file locks F owners descriptions locked wait pending (eqb-true wait.file file on)

  pub one_here : (wait : Wait) (pending : Pending) → is_on_file file wait ≡ true → SameWait numbers wait pending → IsHeldBack F pending
      → IsBlockedByLock locks wait
  one_here wait pending on = blocked_here numbers file locks F owners descriptions locked wait pending (eqb-true wait.file file on)

  -- all of the one list are blocked exactly where all of the other are
  pub all_alike : (waits : List Wait) (pendings : List Pending) → AreOn file waits → AreSameWaits numbers waits pendings
      → (All (IsBlockedByLock locks) waits → All (IsHeldBack F) pendings) × (All (IsHeldBack F) pendings → All (IsBlockedByLock locks) waits)
  all_alike [] [] on same = (λ blocked. All-nil (IsHeldBack F), λ blocked. All-nil (IsBlockedByLock locks))
  all_alike [] (pending ∷ pendings) on same = absurd same
  all_alike (wait ∷ waits) [] on same = absurd same
  all_alike (wait ∷ waits) (pending ∷ pendings) on same =
      let rest = all_alike waits pendings (All-tail (λ (w : Wait). is_on_file file w ≡ true) wait waits on) same.1 in
      let first = All-head (λ (w : Wait). is_on_file file w ≡ true) wait waits on in (
        λ blocked. All-cons (IsHeldBack F) pending pendings (one_there wait pending first same.0 (All-head (IsBlockedByLock locks) wait waits blocked))
            (rest.0 (All-tail (IsBlockedByLock locks) wait waits blocked)),
        λ blocked. All-cons (IsBlockedByLock locks) wait waits (one_here wait pending first same.0 (All-head (IsHeldBack F) pending pendings blocked))
            (rest.1 (All-tail (IsHeldBack F) pending pendings blocked)),
      )

  -- the first that isn't blocked stands at one place in both
  pub same_next : (before : List Wait) (wait : Wait) (after : List Wait) (before' : List Pending) (pending : Pending) (after' : List Pending)
      → AreOn file (before ++ wait ∷ after) → AreSameWaits numbers (before ++ wait ∷ after) (before' ++ pending ∷ after')
      → All (IsBlockedByLock locks) before → ¬ IsBlockedByLock locks wait → All (IsHeldBack F) before' → ¬ IsHeldBack F pending
      → SameSplit numbers before wait after before' pending after'
  same_next [] wait after [] pending after' on same blocked ready blocked' ready' =
      record { before_same = tt; wait_same = same.0; after_same = same.1 }
  same_next [] wait after (q ∷ before') pending after' on same blocked ready blocked' ready' =
      absurd (ready (one_here wait q (All-head (λ (w : Wait). is_on_file file w ≡ true) wait after on) same.0 (All-head (IsHeldBack F) q before' blocked')))
  same_next (v ∷ before) wait after [] pending after' on same blocked ready blocked' ready' =
      absurd (ready' (one_there v pending (All-head (λ (w : Wait). is_on_file file w ≡ true) v (before ++ wait ∷ after) on) same.0
      (All-head (IsBlockedByLock locks) v before blocked)))
  same_next (v ∷ before) wait after (q ∷ before') pending after' on same blocked ready blocked' ready' =
      let rest = same_next before wait after before' pending after' (All-tail (λ (w : Wait). is_on_file file w ≡ true) v (before ++ wait ∷ after) on) same.1
      (All-tail (IsBlockedByLock locks) v before blocked) ready (All-tail (IsHeldBack F) q before' blocked') ready' in
      record { before_same = (same.0, rest.before_same); wait_same = rest.wait_same; after_same = rest.after_same }
