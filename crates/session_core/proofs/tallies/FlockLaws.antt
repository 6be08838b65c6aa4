-- What flock comes to.
use Rattle.session_core.proofs.Common.{arith, ℕ, ◌≡◌, ◌+◌, refl, sym, ◌∙◌, ap, subst, Bool, true, false, length, List, [], ◌∷◌, ◌++◌, ⊎_elim, Option, Some, None, common_steps, append-nil}
use Rattle.session_core.proofs.Common.{Mode, Read, Write, flock_mode_in, Look, look_at, Policy, Wait, Rules, FlockOp, Sh, Ex, Un, Note, Answer, Waits, Reply, ProcState, Live, Waiting, State, with_flock_mode, with_lock, with_process, Settles, granted, Outcome, answered, answered_then, waits_then, FlockComesTo, FlockOpComesTo, FlockModeComesTo, FlockTestComesTo, is_same_mode, wanted_flock}
use Rattle.std.specs.List.{AllByRecursion as Each}
use Rattle.lock_manager.specs.declared.request.Errno.TheVariants.{EAGAIN}
use Rattle.lock_manager.specs.declared.request.Reply.TheVariants as replies
use Rattle.session_core.proofs.tallies.Tally.{numbers_in, Tallies, Tells, MovesOne-tells, Tells-then, Tallies-along, numbers_in-append, one_more, Each-middle}
use Rattle.session_core.proofs.tallies.Moves.{SameProcesses, SameProcesses-refl, SameProcesses-lock, Settles-tells, nothing_told, tallies_kept, wait_moves}
use Rattle.session_core.proofs.tallies.OutcomeLaws.{IsAtHand, IsTold, told_answer, told_here, cases_fact, cases_bool, cases_option}

-- from the state S these grants lead to the state T, whatever was taken and answered before, and the caller still lives
pub record Grants (processes : ℕ) (S : State) (p : ℕ) (grants : List Note) (T : State) : Type 0 where
  pub tells : (taken counts : ℕ → ℕ) → Tallies processes S taken counts → Tells processes S.states counts grants T taken
  pub live : T.states p ≡ Live

-- no grants
pub no_grants : (processes : ℕ) (S : State) (p : ℕ) → S.states p ≡ Live → Grants processes S p [] S
no_grants processes S p live =
    record { tells = λ taken counts t. nothing_told processes S S taken counts (SameProcesses-refl S) t; live = live }

-- who lives lives after a grant
granted_live : (S : State) (before : List Wait) (wait : Wait) (after : List Wait) (p : ℕ) → S.states p ≡ Live
    → (granted S before wait after).states p ≡ Live
granted_live S before wait after p live = grind (arith, common_steps, SameProcesses-lock)

-- who lives lives after settling
Settles-live : (policy : Policy) (S : State) (grants : List Note) (T : State) (p : ℕ) → S.states p ≡ Live → Settles policy S grants T
    → T.states p ≡ Live
Settles-live policy S [] T p live h = ap (λ X. X.states p) h.1 ∙ live
Settles-live policy S (grant ∷ grants) T p live h =
    Settles-live policy (granted S h.0 h.1 h.2) grants T p (granted_live S h.0 h.1 h.2 p live) h.5

-- the grants after a lock was removed
settled_grants : (processes : ℕ) (policy : Policy) (S U : State) (p : ℕ) (grants : List Note) (T : State) → SameProcesses S U
    → S.states p ≡ Live → Settles policy U grants T → Grants processes S p grants T
settled_grants processes policy S U p grants T same live h =
    record {
      tells = λ taken counts t.
          subst (λ states. Tells processes states counts grants T taken) same.states
          (Settles-tells processes policy U grants T taken counts (tallies_kept processes S U taken counts same t) h);
      live = Settles-live policy U grants T p (ap (λ states. states p) same.states ∙ live) h;
    }

-- the same was told where a state with the same processes is reached
Tells-same : (processes : ℕ) (states : ℕ → ProcState) (counts : ℕ → ℕ) (notes : List Note) (S T : State) (taken : ℕ → ℕ)
    → SameProcesses S T → Tells processes states counts notes S taken → Tells processes states counts notes T taken
Tells-same processes states counts notes S T taken same h = grind (arith, common_steps, tallies_kept, numbers_in)

-- the caller is answered, and then the grants are told
told_answer_then : (processes : ℕ) (S settled T : State) (taken counts : ℕ → ℕ) (p n : ℕ) (reply : Reply) (grants : List Note) (outcome : Outcome)
    → IsAtHand processes S taken counts p n → Grants processes S p grants settled → SameProcesses settled T
    → outcome ≡ answered_then T p n reply grants → IsTold processes S taken counts p outcome
told_answer_then processes S settled T taken counts p n reply grants outcome h made same is =
    let told : List Note = Answer p n reply ∷ [] in
    let first = told_here processes S taken counts p n (answered S p n reply) h reply refl in
    let second = made.tells (one_more p taken) (λ q. counts q + length (numbers_in q told)) first.tallies in
    subst (IsTold processes S taken counts p) (sym is)
    (Tells-same processes S.states counts (Answer p n reply ∷ grants) settled T (one_more p taken) same
    (Tells-then processes S.states counts told S (one_more p taken) grants settled (one_more p taken) first second))

-- what holds of each with one at the end holds of each with that one at the head
Each-last : {X : Type 0} (P : X → Type 0) (xs : List X) (x : X) → Each P (xs ++ x ∷ []) → Each P (x ∷ xs)
Each-last P xs x h = let k = Each-middle P xs x [] h in (k.0, subst (λ l. Each P l) (append-nil xs) k.1)

-- a note that a process waits may stand first as well as last, for it is no answer
waits_first : (processes : ℕ) (states : ℕ → ProcState) (counts : ℕ → ℕ) (p n : ℕ) (notes : List Note) (T : State) (taken : ℕ → ℕ)
    → Tells processes states counts (notes ++ Waits p n ∷ []) T taken → Tells processes states counts (Waits p n ∷ notes) T taken
waits_first processes states counts p n notes T taken h = grind (arith, common_steps, numbers_in, numbers_in-append, append-nil, Tallies-along, Each-last)

module _ (rules : Rules) (processes : ℕ) (S : State) (taken counts : ℕ → ℕ) (wanted : Wait) (outcome : Outcome)
    (h : IsAtHand processes S taken counts wanted.p wanted.n) where
  -- the caller waits, and then the grants are told
  pub told_waits : (settled : State) (grants : List Note) → Grants processes S wanted.p grants settled → outcome ≡ waits_then settled wanted grants
      → IsTold processes S taken counts wanted.p outcome
  told_waits settled grants made is =
      let T : State = with_process (record settled { waits = settled.waits ++ wanted ∷ [] }) wanted.p Waiting in
      let counts' : ℕ → ℕ = λ q. counts q + length (numbers_in q grants) in
      let told : List Note = Waits wanted.p wanted.n ∷ [] in
      let first = made.tells taken counts h.tallies in
      let second : Tells processes settled.states counts' told T (one_more wanted.p taken) =
      MovesOne-tells processes settled taken counts' wanted.p told T (one_more wanted.p taken) first.tallies
      (wait_moves processes settled T taken counts' wanted first.tallies made.live h.number (λ q. refl) refl (λ q e. e)) in
      subst (IsTold processes S taken counts wanted.p) (sym is)
      (waits_first processes S.states counts wanted.p wanted.n grants T (one_more wanted.p taken)
      (Tells-then processes S.states counts grants settled taken told T (one_more wanted.p taken) first second))

  -- the lock is set, and then the grants are told
  pub told_locked : (settled : State) (grants : List Note) → Grants processes S wanted.p grants settled
      → outcome ≡ answered_then (with_lock settled wanted) wanted.p wanted.n replies.Ok grants → IsTold processes S taken counts wanted.p outcome
  told_locked settled grants made is =
      told_answer_then processes S settled (with_lock settled wanted) taken counts wanted.p wanted.n replies.Ok grants outcome h made
      (SameProcesses-lock settled wanted) is

  -- the test of a request, behind the grants of a conversion, if there was one
  pub told_test : (nb : Bool) (settled : State) (grants : List Note) → Grants processes S wanted.p grants settled
      → FlockTestComesTo rules settled nb wanted grants outcome → IsTold processes S taken counts wanted.p outcome
  told_test true settled grants made is =
      ⊎_elim
      (λ no.
      told_answer_then processes S settled settled taken counts wanted.p wanted.n (replies.Err EAGAIN) grants outcome h made
      (SameProcesses-refl settled) no)
      (λ yes. told_locked settled grants made yes) (cases_fact is)
  told_test false settled grants made is =
      ⊎_elim (λ waits. told_waits settled grants made waits) (λ yes. told_locked settled grants made yes) (cases_fact is)

  -- a lock is asked for, of a description that has this mode or none
  told_flock_mode : (look : Look) (nb : Bool) (mode : Option Mode) → FlockModeComesTo rules S look nb wanted mode outcome
      → IsTold processes S taken counts wanted.p outcome
  told_flock_mode look nb None is = told_test nb S [] (no_grants processes S wanted.p h.live) is
  told_flock_mode look nb (Some held) is =
      ⊎_elim (λ already. told_here processes S taken counts wanted.p wanted.n outcome h replies.Ok already)
      (λ converted.
      let U : State = with_flock_mode S look.file look.desc None in
      told_test nb converted.1 converted.0
      (settled_grants processes rules.policy S U wanted.p converted.0 converted.1 (record { states = refl; waits = refl; alive = λ q. refl })
      h.live converted.2) converted.3)
      (cases_bool (is_same_mode held wanted.mode) is)

module _ (rules : Rules) (processes : ℕ) (S : State) (taken counts : ℕ → ℕ) (p n : ℕ) (outcome : Outcome) (h : IsAtHand processes S taken counts p n) where
  told_flock_op : (look : Look) (op : FlockOp) (nb : Bool) → FlockOpComesTo rules S p n look op nb outcome → IsTold processes S taken counts p outcome
  told_flock_op look Un nb is =
      told_answer processes S taken counts p n outcome h (with_flock_mode S look.file look.desc None) replies.Ok
      (record { states = refl; waits = refl; alive = λ q. refl }) is
  told_flock_op look Sh nb is =
      told_flock_mode rules processes S taken counts (wanted_flock p n look Read) outcome h look nb (flock_mode_in S.flock_changes look.file look.desc) is
  told_flock_op look Ex nb is =
      told_flock_mode rules processes S taken counts (wanted_flock p n look Write) outcome h look nb (flock_mode_in S.flock_changes look.file look.desc) is

  pub told_flock : (fd : ℕ) (op : FlockOp) (nb : Bool) → FlockComesTo rules S p n fd op nb outcome → IsTold processes S taken counts p outcome
  told_flock fd op nb is =
      ⊎_elim (λ no. told_here processes S taken counts p n outcome h _ no) (λ opened. told_flock_op opened.0 op nb opened.1)
      (cases_option (λ look. FlockOpComesTo rules S p n look op nb outcome) (look_at S.descriptors p fd) is)
