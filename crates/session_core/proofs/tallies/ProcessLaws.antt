-- What fork, exit, signal and kill come to: a process begins to live, wakes or ends.
use Rattle.session_core.proofs.Common.{arith, ℕ, ◌≡◌, ◌≢◌, ◌+◌, ◌⊎◌, inl, inr, refl, sym, ◌∙◌, ap, subst, Bool, true, false, eq-eqb, length, List, [], ◌∷◌, Result, Ok, Err, MatchBool, MatchResult, ⊎_elim, common_steps, ◌==◌, if◌then◌else◌, IsFalse}
use Rattle.session_core.proofs.Common.{FdFault, ProcState, Unborn, Live, Waiting, Ended, EINTR, Note, Answer, State, with_process, Outcome, answered, refused, IsRefusal, with_released, KillComesTo, without_wait, IsEnded}
use Rattle.std.proofs.Common.{◌||◌}
use Rattle.fd_table.specs.Descriptors.{Descriptors, SameDescriptors, with_child}
use Rattle.fd_table.specs.Calls.{ForkGives, IsFreeProcess}
use Rattle.lock_manager.specs.declared.request.Errno.TheVariants.{ESRCH, EINVAL}
use Rattle.lock_manager.specs.declared.request.Reply.TheVariants as replies
use Rattle.lock_manager.specs.ProcessCalls.{ForkComesTo, EndComesTo, SignalComesTo, KillOtherComesTo}
use Rattle.session_core.proofs.tallies.Tally.{numbers_in, TallyAt, IsBorn, Tallies, Tells, MovesOne-tells, Tells-then, one_more, one_more-same, one_more-other}
use Rattle.session_core.proofs.tallies.Moves.{Live≢Unborn, begin_moves, end_moves, signal_tells}
use Rattle.session_core.proofs.tallies.OutcomeLaws.{IsAtHand, IsTold, told_here, told_refusal, cases_bool}

-- a process is unborn, or it isn't
unborn_or_not : (state : ProcState) → (state ≡ Unborn) ⊎ (state ≢ Unborn)
unborn_or_not state = grind (arith, common_steps)

-- who was never alive is unborn
unborn : (processes : ℕ) (S : State) (taken counts : ℕ → ℕ) → Tallies processes S taken counts → (q : ℕ)
    → IsFalse (S.descriptors.ever_alive q) → S.states q ≡ Unborn
unborn processes S taken counts t q never =
    ⊎_elim (λ e. e) (λ other. let b = t.born q other in let no : true ≡ false = sym b.alive ∙ never in cc) (unborn_or_not (S.states q))

-- who lives lives whoever else begins to live
lives : (child p : ℕ) (states : ℕ → ProcState) → states p ≡ Live → (if p == child then Live else states p) ≡ Live
lives child p states live = elim (p == child) as (λ b. (if b then Live else states p) ≡ Live) [ true ↦ refl | false ↦ live ]

-- the child is alive, and whoever was alive
child_alive : (old new : Descriptors) (p child : ℕ) → SameDescriptors new (with_child old p child) → new.ever_alive child ≡ true
child_alive old new p child same = same.ever_alive child ∙ rw (eq-eqb child child refl) refl

others_alive : (old new : Descriptors) (p child : ℕ) → SameDescriptors new (with_child old p child) → (q : ℕ)
    → old.ever_alive q ≡ true → new.ever_alive q ≡ true
others_alive old new p child same q was =
    same.ever_alive q ∙ elim (q == child) as (λ b. (b || old.ever_alive q) ≡ true) [ true ↦ refl | false ↦ was ]

-- the state in which the child lives
abbrev with_live_child : State → Descriptors → ℕ → State
with_live_child S descriptors child = with_process (record S { descriptors = descriptors }) child Live

-- the child begins to live, which tells nothing
child_begins : (processes : ℕ) (S : State) (taken counts : ℕ → ℕ) (p child : ℕ) (descriptors : Descriptors)
    → Tallies processes S taken counts → IsFreeProcess processes S.descriptors child
    → SameDescriptors descriptors (with_child S.descriptors p child)
    → Tells processes S.states counts [] (with_live_child S descriptors child) taken
child_begins processes S taken counts p child descriptors t free same =
    let T : State = with_live_child S descriptors child in
    let born : IsBorn processes T child = record { low = free.0; high = free.1; alive = child_alive S.descriptors descriptors p child same } in
    MovesOne-tells processes S taken counts child [] T taken t
    (begin_moves processes S T taken counts child t (unborn processes S taken counts t child free.2) (λ q. refl) refl
    (others_alive S.descriptors descriptors p child same) born)

module _ (processes : ℕ) (S : State) (taken counts : ℕ → ℕ) (p n : ℕ) (outcome : Outcome) (h : IsAtHand processes S taken counts p n) where
  told_fork_as : (child : ℕ) (result : Result (Unit {0}) FdFault) (descriptors : Descriptors)
      → ForkGives processes S.descriptors p child result descriptors
      → MatchResult result (λ done. outcome ≡ answered (with_live_child S descriptors child) p n replies.Ok) (λ fault. IsRefusal S p n fault outcome)
      → IsTold processes S taken counts p outcome
  told_fork_as child (Ok done) descriptors gives is =
      let T : State = with_live_child S descriptors child in
      let first = child_begins processes S taken counts p child descriptors h.tallies gives.0 gives.1 in
      let counts' : ℕ → ℕ = λ q. counts q + 0 in
      let at : IsAtHand processes T taken counts' p n =
      record { tallies = first.tallies; live = lives child p S.states h.live; number = h.number } in
      Tells-then processes S.states counts [] T taken outcome.told outcome.after (one_more p taken) first
      (told_here processes T taken counts' p n outcome at replies.Ok is)
  told_fork_as child (Err fault) descriptors gives is = told_refusal processes S taken counts p n outcome h fault is

  -- fork: the child begins to live, and then the parent is answered
  pub told_fork : (child : ℕ) → ForkComesTo processes S p n child outcome → IsTold processes S taken counts p outcome
  told_fork child is = told_fork_as child is.0 is.1 is.2 is.3

-- a process that is at hand in the tallies, and hasn't ended, ends, which tells nothing
end_tells : (processes : ℕ) (S : State) (taken counts taken' : ℕ → ℕ) (p : ℕ) (outcome : Outcome) → Tallies processes S taken counts
    → TallyAt Ended (taken' p) (counts p) → ¬ IsEnded (S.states p) → S.states p ≢ Unborn → ((q : ℕ) → q ≢ p → taken' q ≡ taken q)
    → (told : List Note) → EndComesTo S p told outcome → Tells processes S.states counts [] outcome.after taken'
end_tells processes S taken counts taken' p outcome t tally goes_on born others told is =
    let T : State = with_process (with_released (without_wait S p) is.1 p is.0) p Ended in
    subst (λ X. Tells processes S.states counts [] X taken') (sym (ap (λ o. o.after) is.3))
    (MovesOne-tells processes S taken counts p [] T taken' t
    (end_moves processes S T taken counts taken' p t tally goes_on born others (λ q. refl) refl (λ q e. is.2.0.ever_alive q ∙ e)))

module _ (processes : ℕ) (S : State) (taken counts : ℕ → ℕ) (p n : ℕ) (outcome : Outcome) (h : IsAtHand processes S taken counts p n) where
  -- exit: the process ends, and nothing is told
  pub told_exit : EndComesTo S p [] outcome → IsTold processes S taken counts p outcome
  told_exit is =
      let even : counts p ≡ taken p = subst (λ s. TallyAt s (taken p) (counts p)) h.live (h.tallies.tally p) in
      let ends = end_tells processes S taken counts (one_more p taken) p outcome h.tallies
      (inl (one_more-same p taken ∙ ap (λ k. k + 1) (sym even))) (λ e. subst IsEnded h.live e) (λ e. Live≢Unborn (sym h.live ∙ e))
      (λ q other. one_more-other p q taken other) [] is in
      subst (λ notes. Tells processes S.states counts notes outcome.after (one_more p taken)) (sym (ap (λ o. o.told) is.3)) ends

  -- the caller is answered first, and then these notes are told
  answered_first : (notes : List Note) (T : State)
      → (Tallies processes S (one_more p taken) (λ q. counts q + length (numbers_in q (Answer p n replies.Ok ∷ [])))
      → Tells processes S.states (λ q. counts q + length (numbers_in q (Answer p n replies.Ok ∷ []))) notes T (one_more p taken))
      → Tells processes S.states counts (Answer p n replies.Ok ∷ notes) T (one_more p taken)
  answered_first notes T rest =
      let first = told_here processes S taken counts p n (answered S p n replies.Ok) h replies.Ok refl in
      Tells-then processes S.states counts (Answer p n replies.Ok ∷ []) S (one_more p taken) notes T (one_more p taken) first (rest first.tallies)

  -- signal: the caller is answered, and then the target's wait has ended, if it has one
  pub told_signal : (target : ℕ) (state : ProcState) → SignalComesTo S p n target state outcome → IsTold processes S taken counts p outcome
  told_signal target Unborn is = told_here processes S taken counts p n outcome h (replies.Err ESRCH) is
  told_signal target Ended is = told_here processes S taken counts p n outcome h (replies.Err ESRCH) is
  told_signal target Live is = told_here processes S taken counts p n outcome h replies.Ok is
  told_signal target Waiting is =
      subst (IsTold processes S taken counts p) (sym is.2)
      (answered_first (Answer target is.0.n (replies.Err EINTR) ∷ []) (with_process (without_wait S target) target Live)
      (λ t. signal_tells processes S (one_more p taken) _ target is.0 (replies.Err EINTR) t is.1))

  -- a kill of another: the caller is answered, and then the target ends
  told_killed : (target : ℕ) (state : ProcState) → S.states target ≡ state → state ≢ Unborn → ¬ IsEnded state
      → ((k a : ℕ) → TallyAt state k a → TallyAt Ended k a) → EndComesTo S target (Answer p n replies.Ok ∷ []) outcome
      → IsTold processes S taken counts p outcome
  told_killed target state stands born goes_on may_end is =
      let told : List Note = Answer p n replies.Ok ∷ [] in
      let counts' : ℕ → ℕ = λ q. counts q + length (numbers_in q told) in
      subst (λ notes. Tells processes S.states counts notes outcome.after (one_more p taken)) (sym (ap (λ o. o.told) is.3))
      (answered_first [] outcome.after
      (λ t.
      let tally = subst (λ s. TallyAt s (one_more p taken target) (counts' target)) stands (t.tally target) in
      end_tells processes S (one_more p taken) counts' (one_more p taken) target outcome t (may_end (one_more p taken target) (counts' target) tally)
      (λ e. goes_on (subst IsEnded stands e)) (λ e. born (sym stands ∙ e)) (λ q other. refl) told is))

  told_kill_other : (target : ℕ) (state : ProcState) → S.states target ≡ state → KillOtherComesTo S p n target state outcome
      → IsTold processes S taken counts p outcome
  told_kill_other target Unborn stands is = told_here processes S taken counts p n outcome h (replies.Err ESRCH) is
  told_kill_other target Ended stands is = told_here processes S taken counts p n outcome h (replies.Err ESRCH) is
  told_kill_other target Live stands is = told_killed target Live stands (λ e. cc) (λ e. e) (λ k a even. inr (sym even)) is
  told_kill_other target Waiting stands is = told_killed target Waiting stands (λ e. cc) (λ e. e) (λ k a behind. inl behind) is

  -- kill: of oneself it is exit
  pub told_kill : (target : ℕ) → KillComesTo S p n target outcome → IsTold processes S taken counts p outcome
  told_kill target is =
      ⊎_elim (λ own. told_exit own) (λ other. told_kill_other target (S.states target) refl other) (cases_bool (target == p) is)

module _ (processes : ℕ) (S : State) (taken counts : ℕ → ℕ) (p n : ℕ) (outcome : Outcome) (h : IsAtHand processes S taken counts p n) where
  -- enter and leave: the process is answered or refused
  pub told_allowed : (allowed : Bool) → MatchBool allowed (outcome ≡ answered S p n replies.Ok) (outcome ≡ refused S p n EINVAL)
      → IsTold processes S taken counts p outcome
  told_allowed true is = told_here processes S taken counts p n outcome h replies.Ok is
  told_allowed false is = told_here processes S taken counts p n outcome h (replies.Err EINVAL) is

  -- bail: an exit, or an answer
  pub told_bail : (refused : Bool) → MatchBool refused (EndComesTo S p [] outcome) (outcome ≡ answered S p n replies.Ok)
      → IsTold processes S taken counts p outcome
  told_bail true is = told_exit processes S taken counts p n outcome h is
  told_bail false is = told_here processes S taken counts p n outcome h replies.Ok is

-- after the end of a process it has ended
pub ended_by_end : (S : State) (p : ℕ) (told : List Note) (outcome : Outcome) → EndComesTo S p told outcome → IsEnded (outcome.after.states p)
ended_by_end S p told outcome is = grind (arith, common_steps, eq-eqb)

-- after the kill of oneself likewise
pub ended_by_own_kill : (S : State) (p n : ℕ) (outcome : Outcome) → KillComesTo S p n p outcome → IsEnded (outcome.after.states p)
ended_by_own_kill S p n outcome is = grind (arith, common_steps, eq-eqb, ended_by_end)

killed_or_refused_as : (S : State) (p n target : ℕ) (state : ProcState) (outcome : Outcome) → KillOtherComesTo S p n target state outcome
    → IsEnded (outcome.after.states target) ⊎ (outcome ≡ refused S p n ESRCH)
killed_or_refused_as S p n target state outcome h = grind (arith, common_steps, ended_by_end)

-- after the kill of another this one has ended, or the kill was refused
pub killed_or_refused : (S : State) (p n target : ℕ) (outcome : Outcome) → p ≢ target → KillComesTo S p n target outcome
    → IsEnded (outcome.after.states target) ⊎ (outcome ≡ refused S p n ESRCH)
killed_or_refused S p n target outcome differs is = grind (arith, common_steps, killed_or_refused_as)
