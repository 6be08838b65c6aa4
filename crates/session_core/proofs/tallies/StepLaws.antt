-- What each step tells and leaves.
use Rattle.session_core.proofs.Common.{ℕ, ◌≡◌, ◌≢◌, ◌+◌, ◌≤◌, inl, inr, refl, sym, ◌∙◌, ap, subst, arith, eq-eqb, length, List, [], ◌∷◌, ◌++◌, ⊎_elim, common_steps, Contains, cases_eq}
use Rattle.session_core.proofs.Common.{Rules, Request, OpenFile, Dup, DupTo, CloseFd, Seek, Resize, Lk, Flock, Fork, Exit, Signal, Kill, Enter, Leave, Bail, Note, Answer, Waits, Errno, Reply, State, Outcome, refused, KillComesTo, ComesTo, Step, Event, IsStep, IsEnded, EndsProcess}
use Rattle.std.specs.List.{AllByRecursion as Each}
use Rattle.lock_manager.specs.declared.request.Errno.TheVariants.{ESRCH}
use Rattle.lock_manager.specs.declared.request.Reply.TheVariants as replies
use Rattle.lock_manager.specs.Sections.{may_enter, may_leave, marked, BailComesTo}
use Rattle.session_core.proofs.tallies.Tally.{Contains-here, None-contains, numbers_in, AreCountedFrom, TallyAt, Tallies, Tells, Tells-then, one_more}
use Rattle.session_core.proofs.tallies.Moves.{Settles-tells}
use Rattle.session_core.proofs.tallies.OutcomeLaws.{IsAtHand, IsTold, cases_bool}
use Rattle.session_core.proofs.tallies.DescriptorLaws.{told_open, told_dup, told_dup_to, told_close, told_seek, told_resize}
use Rattle.session_core.proofs.tallies.LockLaws.{told_lock}
use Rattle.session_core.proofs.tallies.FlockLaws.{told_flock}
use Rattle.session_core.proofs.tallies.ProcessLaws.{told_fork, told_exit, told_signal, told_kill, told_allowed, told_bail, ended_by_end, ended_by_own_kill, killed_or_refused}

-- whatever the request, it is told what it should be: one case for each request that is served
module _ (rules : Rules) (processes : ℕ) (S : State) (taken counts : ℕ → ℕ) (p n : ℕ) (outcome : Outcome) (h : IsAtHand processes S taken counts p n) where
  told_request : (request : Request) → ComesTo rules processes S p n request outcome → IsTold processes S taken counts p outcome
  told_request (OpenFile file access) is = told_open processes S taken counts p n outcome h rules file access is
  told_request (Dup fd) is = told_dup processes S taken counts p n outcome h rules fd is
  told_request (DupTo fd to) is = told_dup_to processes S taken counts p n outcome h rules fd to is
  told_request (CloseFd fd) is = told_close processes S taken counts p n outcome h fd is
  told_request (Seek fd offset) is = told_seek processes S taken counts p n outcome h fd offset is
  told_request (Resize fd size) is = told_resize processes S taken counts p n outcome h fd size is
  told_request (Lk fd cmd lock) is = told_lock rules processes S taken counts p n outcome h fd cmd lock is
  told_request (Flock fd op nb) is = told_flock rules processes S taken counts p n outcome h fd op nb is
  told_request (Fork child) is = told_fork processes S taken counts p n outcome h child is
  told_request Exit is = told_exit processes S taken counts p n outcome h is
  told_request (Signal target) is = told_signal processes S taken counts p n outcome h target (S.states target) is
  told_request (Kill target) is = told_kill processes S taken counts p n outcome h target is
  told_request (Enter section visit) is = told_allowed processes S taken counts p n outcome h (may_enter S.visits p section) is
  told_request (Leave section) is = told_allowed processes S taken counts p n outcome h (may_leave S.visits p section) is
  told_request Bail is = told_bail processes S taken counts p n outcome h (S.refused p) is

-- what the request of a step comes to tells what it should
request_tells : (rules : Rules) (processes : ℕ) (S : State) (taken counts : ℕ → ℕ) (p n : ℕ) (request : Request) (notes : List Note)
    (T : State) → Tallies processes S taken counts → n ≡ taken p + 1 → (step : Step rules processes S p n request notes T)
    → IsTold processes S taken counts p step.outcome
request_tells rules processes S taken counts p n request notes T t number step =
    told_request rules processes S taken counts p n step.outcome (record { tallies = t; live = step.live; number = number }) request step.comes_to

-- the tallies are of none of the marks
marked_tallies : (processes : ℕ) (S : State) (p : ℕ) (request : Request) (outcome : Outcome) (taken counts : ℕ → ℕ)
    → Tallies processes outcome.after taken counts → Tallies processes (marked S p request outcome) taken counts
marked_tallies processes S p request outcome taken counts t =
    record {
      born = λ q up. let b = t.born q up in record { low = b.low; high = b.high; alive = b.alive };
      waits = t.waits;
      apart = t.apart;
      tally = t.tally;
    }

-- and so do the grants after it
grants_tell : (rules : Rules) (processes : ℕ) (S : State) (taken counts : ℕ → ℕ) (p n : ℕ) (request : Request) (notes : List Note)
    (T : State) → Tallies processes S taken counts → n ≡ taken p + 1 → (step : Step rules processes S p n request notes T)
    → Tells processes step.outcome.after.states (λ q. counts q + length (numbers_in q step.outcome.told)) step.grants T (one_more p taken)
grants_tell rules processes S taken counts p n request notes T t number step =
    let told = step.outcome.told in
    let first = request_tells rules processes S taken counts p n request notes T t number step in
    let counts' : ℕ → ℕ = λ q. counts q + length (numbers_in q told) in
    Settles-tells processes rules.policy (marked S p request step.outcome) step.grants T (one_more p taken) counts'
    (marked_tallies processes S p request step.outcome (one_more p taken) counts' first.tallies) step.settles

-- each step tells what it should
pub Step-tells : (rules : Rules) (processes : ℕ) (S : State) (taken counts : ℕ → ℕ) (p n : ℕ) (request : Request) (notes : List Note)
    (T : State) → Tallies processes S taken counts → n ≡ taken p + 1 → Step rules processes S p n request notes T
    → Tells processes S.states counts notes T (one_more p taken)
Step-tells rules processes S taken counts p n request notes T t number step =
    let first = request_tells rules processes S taken counts p n request notes T t number step in
    let second = grants_tell rules processes S taken counts p n request notes T t number step in
    subst (λ notes. Tells processes S.states counts notes T (one_more p taken)) (sym step.are_notes)
    (Tells-then processes S.states counts step.outcome.told step.outcome.after (one_more p taken) step.grants T (one_more p taken) first second)

-- whose numbers go on after one is not answered that one again
not_again : (p n : ℕ) (reply : Reply) (last : ℕ) (notes : List Note) → n ≤ last → AreCountedFrom last (numbers_in p notes)
    → Each (λ note. note ≢ Answer p n reply) notes
not_again p n reply last [] low h = tt
not_again p n reply last (Waits q m ∷ notes) low h = ((λ e. cc), not_again p n reply last notes low h)
not_again p n reply last (Answer q m other ∷ notes) low h =
    grind (arith, common_steps, not_again p n reply last notes, not_again p n reply (last + 1) notes, cases_eq)

-- a request that was refused isn't answered Ok as well
refused_not_done : (rules : Rules) (processes : ℕ) (S : State) (taken counts : ℕ → ℕ) (p n : ℕ) (request : Request) (notes : List Note)
    (T : State) (error : Errno) → Tallies processes S taken counts → n ≡ taken p + 1
    → (step : Step rules processes S p n request notes T) → step.outcome ≡ refused S p n error → ¬ Contains notes (Answer p n replies.Ok)
refused_not_done rules processes S taken counts p n request notes T error t number step is among =
    let told : List Note = Answer p n (replies.Err error) ∷ [] in
    let all : notes ≡ told ++ step.grants = step.are_notes ∙ ap (λ o. o.told ++ step.grants) is in
    let later = grants_tell rules processes S taken counts p n request notes T t number step in
    let one : length (numbers_in p told) ≡ 1 = rw (eq-eqb p p refl) refl in
    let last : counts p + length (numbers_in p step.outcome.told) ≡ n =
    ap (λ o. counts p + length (numbers_in p o.told)) is ∙ ap (λ k. counts p + k) one
    ∙ ap (λ k. k + 1) (subst (λ s. TallyAt s (taken p) (counts p)) step.live (t.tally p)) ∙ sym number in
    let others = not_again p n replies.Ok n step.grants (omega arith) (subst (λ k. AreCountedFrom k (numbers_in p step.grants)) last (later.counted p)) in
    None-contains (told ++ step.grants) (Answer p n replies.Ok) ((λ e. cc), others) (subst (λ l. Contains l (Answer p n replies.Ok)) all among)

-- before the grants of the event that ends a process it has ended
outcome_ends : (rules : Rules) (processes : ℕ) (S : State) (taken counts : ℕ → ℕ) (event : Event) (T : State)
    → Tallies processes S taken counts → event.n ≡ taken event.p + 1 → (step : IsStep rules processes S event T) → (q : ℕ)
    → EndsProcess event q → IsEnded (step.outcome.after.states q)
outcome_ends rules processes S taken counts event T t number step q (inl exit) =
    let comes = step.comes_to in grind (arith, common_steps, ended_by_end)
outcome_ends rules processes S taken counts event T t number step q (inr (inl kill)) =
    let comes = step.comes_to in grind (arith, common_steps, ended_by_own_kill)
outcome_ends rules processes S taken counts event T t number step q (inr (inr (inl kill))) =
    let is : KillComesTo S event.p event.n q step.outcome =
    subst (λ request. ComesTo rules processes S event.p event.n request step.outcome) kill.1 step.comes_to in
    ⊎_elim (λ ended. ended)
    (λ refusal.
    absurd
    (refused_not_done rules processes S taken counts event.p event.n event.request event.notes T ESRCH t number step refusal kill.2))
    (killed_or_refused S event.p event.n q step.outcome kill.0 is)
outcome_ends rules processes S taken counts event T t number step q (inr (inr (inr bail))) =
    let is : BailComesTo S event.p event.n step.outcome =
    subst (λ request. ComesTo rules processes S event.p event.n request step.outcome) bail.1 step.comes_to in
    let ended : IsEnded (step.outcome.after.states event.p) =
    ⊎_elim (λ ends. ended_by_end S event.p [] step.outcome ends)
    (λ done.
    absurd (bail.2 (subst (λ l. Contains l (Answer event.p event.n replies.Ok)) (sym step.are_notes)
    (subst (λ (o : Outcome). Contains (o.told ++ step.grants) (Answer event.p event.n replies.Ok)) (sym done)
    (Contains-here (Answer event.p event.n replies.Ok) (Answer event.p event.n replies.Ok) step.grants refl)))))
    (cases_bool (S.refused event.p) is) in
    subst (λ r. IsEnded (step.outcome.after.states r)) bail.0 ended

-- after the step that ends a process it has ended
pub Step-ends : (rules : Rules) (processes : ℕ) (S : State) (taken counts : ℕ → ℕ) (event : Event) (T : State)
    → Tallies processes S taken counts → event.n ≡ taken event.p + 1 → IsStep rules processes S event T → (q : ℕ) → EndsProcess event q
    → IsEnded (T.states q)
Step-ends rules processes S taken counts event T t number step q ends =
    let later = grants_tell rules processes S taken counts event.p event.n event.request event.notes T t number step in
    (later.ended q (outcome_ends rules processes S taken counts event T t number step q ends)).0
