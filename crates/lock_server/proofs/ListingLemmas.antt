-- What is in the way of a wait: for `LockFile::lock_in_the_way`, `LockFile::obstacle` and `LockServer::wait_at`.
use Rattle.lock_server.proofs.Common.{ℕ, ◌≡◌, ◌≢◌, ◌<◌, inl, inr, sym, ap, subst, refl, arith, append_assoc, append-nil, Option, Some, None, List, [], ◌∷◌, ◌++◌, length, take, zero, suc, slice_get, ∥∥₁_elim, ⊥_prop, slice_get_cases}
use Rattle.lock_server.proofs.Common.{Mode, HeldConflicts, Description, Family, Whole, Policy, Held, Queue, IsBlockedIn, FlockLock, Pending, FileState, locks_on, EndsBefore, flock_place, as_wait, AllBlocked, IsHeldBack, IsSettled, IsWaitBlocked, PendingsConflict}
use Rattle.std.specs.Prelude.{Any}
use Rattle.lock_book.specs.Conflicts.{FlockConflict}
use Rattle.lock_server.specs.Listing.{IsFlockInTheWay}

-- a flock mode that conflicts is a lock in the way
flock_in_the_way : (F : FileState) (owner : ℕ) (mode : Mode) (other : ℕ) (held : Option Mode) → F.flocks other ≡ held → other ≢ owner
    → HeldConflicts held mode → (lock : FlockLock) × IsFlockInTheWay F owner mode lock
flock_in_the_way F owner mode other None is another conflicts = absurd conflicts
flock_in_the_way F owner mode other (Some held) is another conflicts =
    (record { owner = other; mode = held }, record { on_file = is; another = another; conflicts = conflicts })

no_flock : (F : FileState) (owner : ℕ) (mode : Mode) → EndsBefore flock_place (IsFlockInTheWay F owner mode) (0 ∷ [])
    → ¬ FlockConflict F.flocks (Description owner) mode
no_flock F owner mode none conflict =
    let other = conflict.description in
    let found = flock_in_the_way F owner mode other (F.flocks other) refl (λ same. conflict.another (ap Description same)) conflict.conflicts in
    elim (none.earlier found.0 found.1) [ inl below ↦ absurd (omega (arith, below)) | inr (same, later) ↦ later ]

-- where no flock lock of another owner is in the way, none holds the wait back
pub not_held_by_flock : (F : FileState) (wait : Pending) → wait.family ≡ Whole → EndsBefore flock_place (IsFlockInTheWay F wait.owner wait.mode) (0 ∷ [])
    → ¬ IsHeldBack F wait
not_held_by_flock F wait family none held =
    no_flock F wait.owner wait.mode none (subst (λ (f : Family). IsBlockedIn f (locks_on F) (as_wait wait)) family held)

-- no lock is in the way, and the policy knows no queue: then nothing is
pub free_alone : (policy : Policy) (F : FileState) (earlier : List Pending) (wait : Pending) → policy ≡ Held → ¬ IsHeldBack F wait
    → ¬ IsWaitBlocked policy F earlier wait
free_alone policy F earlier wait alone free = subst (λ (p : Policy). ¬ IsWaitBlocked p F earlier wait) (sym alone) free

-- and in a queue nothing is, where no earlier wait conflicts either
pub free_in_queue : (policy : Policy) (F : FileState) (earlier : List Pending) (wait : Pending) → policy ≡ Queue → ¬ IsHeldBack F wait
    → ¬ Any (λ v. PendingsConflict v wait) earlier → ¬ IsWaitBlocked policy F earlier wait
free_in_queue policy F earlier wait queue free none =
    let blocked : ¬ IsWaitBlocked Queue F earlier wait = λ b. elim b [ inl held ↦ free held | inr behind ↦ none behind.0 ] in
    subst (λ (p : Policy). ¬ IsWaitBlocked p F earlier wait) (sym queue) blocked

-- where each wait is blocked, so is the one at a place
blocked_behind : (policy : Policy) (F : FileState) (earlier waits : List Pending) (place : ℕ) (wait : Pending)
    → AllBlocked policy F earlier waits → slice_get waits place ≡ Some wait → IsWaitBlocked policy F (earlier ++ take place waits) wait
blocked_behind policy F earlier [] place wait all there = absurd (let h : None ≡ Some wait = there in cc)
blocked_behind policy F earlier (v ∷ waits) zero wait all there =
    let same : v ≡ wait = cc in
    rw (append-nil earlier, ← same) all.0
blocked_behind policy F earlier (v ∷ waits) (suc place) wait all there =
    subst (λ (ws : List Pending). IsWaitBlocked policy F ws wait) (append_assoc earlier (v ∷ []) (take place waits))
    (blocked_behind policy F (earlier ++ v ∷ []) waits place wait all.1 there)

pub blocked_there : (policy : Policy) (F : FileState) (place : ℕ) (wait : Pending) → IsSettled policy F → slice_get F.waits place ≡ Some wait
    → IsWaitBlocked policy F (take place F.waits) wait
blocked_there policy F place wait settled there = blocked_behind policy F [] F.waits place wait settled there

-- so something is in its way
pub never_free : (policy : Policy) (F : FileState) (place : ℕ) → ∥ IsSettled policy F ∥₁ → place < length F.waits
    → ((wait : Pending) → slice_get F.waits place ≡ Some wait → ¬ IsWaitBlocked policy F (take place F.waits) wait) → ⊥
never_free policy F place settled within free = elim (slice_get_cases F.waits place).1 [
  | inl (wait, inside, some, is) ↦
      absurd (∥∥₁_elim settled ⊥_prop (λ all. free wait some (blocked_there policy F place wait all some)))
  | inr (past, none) ↦ absurd (omega arith)
]
