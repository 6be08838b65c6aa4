-- The locks that happenings leave, as lists.
use Rattle.history_core.proofs.Common.{inl, inr, ℕ, ◌≡◌, ◌<◌, ◌≤◌, refl, arith, true, None, List, [], ◌∷◌, map, get_or, suc, common_steps, cases_Bool, ltb-true, ltb-false, All, nat_lt, ByteLock, AreTrue, bytes_in}
use Rattle.history_core.specs.Locks.{covers}
use Rattle.history_core.specs.ByteLists.{IsTrueOf}
use Rattle.history_core.specs.HeldView.{flock_of, flocks_in}

-- locks that cover byte 0 are as good as flock locks
listed : (locks : List ByteLock) → All (λ lock. covers lock.span 0 ≡ true) locks → (owner : ℕ) → flocks_in (map flock_of locks) owner ≡ bytes_in locks owner 0
listed [] all owner = refl
listed (lock ∷ locks) all owner =
    let here : covers lock.span 0 ≡ true = all 0 lock (omega arith) in
    let rest = listed locks (λ k d lt. all (suc k) d (omega (arith, lt))) owner in
    grind (arith, common_steps, here, rest)

-- where no owner has a byte but byte 0, each lock covers it
on_zero : (locks : List ByteLock) (lock : ByteLock) → ((owner byte : ℕ) → 0 < byte → bytes_in locks owner byte ≡ None) → IsTrueOf locks lock
    → covers lock.span 0 ≡ true
on_zero locks lock none is = elim (cases_Bool (nat_lt 0 lock.span.first)) [
  | inl above ↦
      let has = is.constant lock.span.first (omega arith, is.is_range.0) in
      let not = none lock.owner lock.span.first (ltb-true _ _ above) in
      absurd (grind (arith, common_steps, has, not))
  | inr zero ↦
      let first : lock.span.first ≤ 0 = ltb-false _ _ zero in
      grind (arith, common_steps, first)
]

-- the list stands for the flock locks
pub flocks_listed : (locks : List ByteLock) → ((owner byte : ℕ) → 0 < byte → bytes_in locks owner byte ≡ None) → AreTrue locks
    → flocks_in (map flock_of locks) ≡ (λ owner. bytes_in locks owner 0)
flocks_listed locks none are i owner = listed locks (λ k d lt. on_zero locks (get_or locks k d) none (are k d lt)) owner i
