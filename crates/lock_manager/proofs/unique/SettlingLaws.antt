-- Settling is determined: one list of grants, and one state.
use Rattle.lock_manager.proofs.Common.{◌≡◌, refl, sym, ◌∙◌, subst, List, [], ◌∷◌, ◌++◌, append_assoc, append-nil, arith, common_steps, Policy, Note, State, locks_held, Settles, granted, Wait, Locks, IsBlocked, AllBlocked, IsNextBetween}

still_blocked : (policy : Policy) (locks : Locks) (earlier : List Wait) (wait : Wait) → IsBlocked policy locks earlier wait
    → IsBlocked policy locks (earlier ++ []) wait
still_blocked policy locks earlier wait h = grind (arith, common_steps, append-nil)

cons_both : (v v' : Wait) (vs vs' : List Wait) → v ≡ v' → vs ≡ vs' → v ∷ vs ≡ v' ∷ vs'
cons_both v v' vs vs' e f = cc

-- of two such splits of one list, each with blocked waits before a wait that isn't blocked, both are the same
split_unique : (policy : Policy) (locks : Locks) (earlier before : List Wait) (wait : Wait) (after before' : List Wait) (wait' : Wait) (after' : List Wait)
    → AllBlocked policy locks earlier before → ¬ IsBlocked policy locks (earlier ++ before) wait
    → AllBlocked policy locks earlier before' → ¬ IsBlocked policy locks (earlier ++ before') wait'
    → before ++ wait ∷ after ≡ before' ++ wait' ∷ after' → (before ≡ before') × (wait ≡ wait') × (after ≡ after')
split_unique policy locks earlier [] wait after [] wait' after' blocked ready blocked' ready' e = (refl, cc, cc)
split_unique policy locks earlier [] wait after (v ∷ before') wait' after' blocked ready blocked' ready' e =
    let same : v ≡ wait = cc in
    absurd (ready (still_blocked policy locks earlier wait (subst (λ x. IsBlocked policy locks earlier x) same blocked'.0)))
split_unique policy locks earlier (v ∷ before) wait after [] wait' after' blocked ready blocked' ready' e =
    let same : v ≡ wait' = cc in
    absurd (ready' (still_blocked policy locks earlier wait' (subst (λ x. IsBlocked policy locks earlier x) same blocked.0)))
split_unique policy locks earlier (v ∷ before) wait after (v' ∷ before') wait' after' blocked ready blocked' ready' e =
    let same : v' ≡ v = cc in
    let rest : before ++ wait ∷ after ≡ before' ++ wait' ∷ after' = cc in
    let blocked_rest : AllBlocked policy locks (earlier ++ v ∷ []) before' = subst (λ x. AllBlocked policy locks (earlier ++ x ∷ []) before') same blocked'.1 in
    let ready_rest : ¬ IsBlocked policy locks (earlier ++ v ∷ before') wait' = subst (λ x. ¬ IsBlocked policy locks (earlier ++ x ∷ before') wait') same ready' in
    let r : (before ≡ before') × (wait ≡ wait') × (after ≡ after') =
    split_unique policy locks (earlier ++ v ∷ []) before wait after before' wait' after' blocked.1
    (λ h. ready (subst (λ es. IsBlocked policy locks es wait) (append_assoc earlier (v ∷ []) before) h))
    blocked_rest
    (λ h. ready_rest (subst (λ es. IsBlocked policy locks es wait') (append_assoc earlier (v ∷ []) before') h))
    rest
    in (cons_both v v' before before' (sym same) r.0, r.1, r.2)

-- the wait that is granted next, and those before and after it, are determined
IsNextBetween-unique : (policy : Policy) (locks : Locks) (waits before : List Wait) (wait : Wait) (after before' : List Wait) (wait' : Wait)
    (after' : List Wait)
    → IsNextBetween policy locks waits before wait after → IsNextBetween policy locks waits before' wait' after'
    → (before ≡ before') × (wait ≡ wait') × (after ≡ after')
IsNextBetween-unique policy locks waits before wait after before' wait' after' h k =
    split_unique policy locks [] before wait after before' wait' after' h.earliest h.ready k.earliest k.ready (sym h.place ∙ k.place)

-- of waits that are all blocked, the one between these others is blocked
AllBlocked-at : (policy : Policy) (locks : Locks) (earlier before : List Wait) (wait : Wait) (after : List Wait)
    → AllBlocked policy locks earlier (before ++ wait ∷ after) → IsBlocked policy locks (earlier ++ before) wait
AllBlocked-at policy locks earlier [] wait after h = still_blocked policy locks earlier wait h.0
AllBlocked-at policy locks earlier (v ∷ before) wait after h =
    grind (arith, common_steps, append_assoc, AllBlocked-at policy locks (earlier ++ v ∷ []) before wait after)

-- where all waits are blocked none is next
AllBlocked-none : (policy : Policy) (locks : Locks) (waits before : List Wait) (wait : Wait) (after : List Wait)
    → AllBlocked policy locks [] waits → ¬ IsNextBetween policy locks waits before wait after
AllBlocked-none policy locks waits before wait after h k = grind (arith, common_steps, AllBlocked-at)

-- from one state settling makes one list of grants and leaves one state
pub Settles-unique : (policy : Policy) (S : State) (grants : List Note) (T : State) (grants' : List Note) (T' : State)
    → Settles policy S grants T → Settles policy S grants' T' → (grants ≡ grants') × (T ≡ T')
Settles-unique policy S [] T [] T' h k = (refl, h.1 ∙ sym k.1)
Settles-unique policy S [] T (grant' ∷ grants') T' h k = absurd (AllBlocked-none policy (locks_held S) S.waits k.0 k.1 k.2 h.0 k.3)
Settles-unique policy S (grant ∷ grants) T [] T' h k = absurd (AllBlocked-none policy (locks_held S) S.waits h.0 h.1 h.2 k.0 h.3)
Settles-unique policy S (grant ∷ grants) T (grant' ∷ grants') T' h k =
    let same : (h.0 ≡ k.0) × (h.1 ≡ k.1) × (h.2 ≡ k.2) =
    IsNextBetween-unique policy (locks_held S) S.waits h.0 h.1 h.2 k.0 k.1 k.2 h.3 k.3 in
    grind (arith, common_steps, Settles-unique policy (granted S h.0 h.1 h.2) grants T grants' T' h.5)
