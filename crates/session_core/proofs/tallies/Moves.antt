-- What one process may do in a step, each with the tallies that it leaves.
use Rattle.session_core.proofs.Common.{common_steps, ℕ, ◌≡◌, ◌≢◌, ◌+◌, refl, sym, ◌∙◌, ap, subst, arith, true, eq-eqb, ne_eqb, length, List, [], ◌∷◌, ◌++◌, Some, ◌==◌, if◌then◌else◌, cases_eq, Policy, Wait, wait_of, without_wait_of, Note, Answer, Waits, Reply, ProcState, Unborn, Live, Waiting, Ended, State, with_lock, with_process, without_wait, Settles, granted, IsWaiting, IsEnded}
use Rattle.std.specs.List.{AllByRecursion as Each}
use Rattle.lock_manager.specs.declared.request.Reply.TheVariants as replies
use Rattle.session_core.proofs.tallies.Tally.{numbers_in, AreApart, TallyAt, IsLastTaken, IsBorn, Tallies, Tells, MovesOne, MovesOne-tells, Tells-then, Tallies-along, one_more, one_more-same, one_more-other, Each-append, Each-map, Each-both, Each-middle, AreApart-middle, AreApart-push}

-- where the processes stand, what waits and who was alive is the same
pub record SameProcesses (S T : State) : Type 0 where
  pub states : T.states ≡ S.states
  pub waits : T.waits ≡ S.waits
  pub alive : (q : ℕ) → T.descriptors.ever_alive q ≡ S.descriptors.ever_alive q

pub SameProcesses-refl : (S : State) → SameProcesses S S
SameProcesses-refl S = record { states = refl; waits = refl; alive = λ q. refl }

-- setting a lock moves no process
pub SameProcesses-lock : (S : State) (wait : Wait) → SameProcesses S (with_lock S wait)
SameProcesses-lock S wait = grind (arith, common_steps)

-- nobody moves
pub tallies_kept : (processes : ℕ) (S T : State) (taken answered : ℕ → ℕ) → SameProcesses S T → Tallies processes S taken answered
    → Tallies processes T taken answered
tallies_kept processes S T taken answered same t = grind (arith, common_steps)

-- nothing is told
pub nothing_told : (processes : ℕ) (S T : State) (taken answered : ℕ → ℕ) → SameProcesses S T → Tallies processes S taken answered
    → Tells processes S.states answered [] T taken
nothing_told processes S T taken answered same t = grind (arith, common_steps, Tallies-along, tallies_kept)

-- a process that is at hand in the tallies was born
pub born_of : (processes : ℕ) (S : State) (taken answered : ℕ → ℕ) → Tallies processes S taken answered → (q : ℕ) (state : ProcState)
    → S.states q ≡ state → state ≢ Unborn → IsBorn processes S q
born_of processes S taken answered t q state e not_unborn = t.born q (λ k. not_unborn (sym e ∙ k))

pub Live≢Unborn : Live ≢ Unborn
Live≢Unborn e = cc

-- who waits has been born, hasn't ended, and has one request more than answers
waiting_born : (state : ProcState) → IsWaiting state → state ≢ Unborn
waiting_born state h h2 = grind (arith, common_steps)

waiting_goes_on : (state : ProcState) → IsWaiting state → ¬ IsEnded state
waiting_goes_on state h h2 = grind (arith, common_steps)

waiting_behind : (state : ProcState) (taken answered : ℕ) → IsWaiting state → TallyAt state taken answered → taken ≡ answered + 1
waiting_behind state taken answered h h2 = grind (arith, common_steps)

-- who doesn't wait has no wait
idle_apart : (states : ℕ → ProcState) (taken : ℕ → ℕ) (p : ℕ) (waits : List Wait) → ¬ IsWaiting (states p)
    → Each (IsLastTaken states taken) waits → Each (λ wait. wait.p ≢ p) waits
idle_apart states taken p waits idle h = grind (arith, common_steps, Each-map)

-- who lives has no wait
pub live_apart : (states : ℕ → ProcState) (taken : ℕ → ℕ) (p : ℕ) (waits : List Wait) → states p ≡ Live
    → Each (IsLastTaken states taken) waits → Each (λ wait. wait.p ≢ p) waits
live_apart states taken p waits live h = idle_apart states taken p waits (λ waiting. subst IsWaiting live waiting) h

-- the waits of the others stay the last that were taken of them
pub waits_of_others : (states states' : ℕ → ProcState) (taken taken' : ℕ → ℕ) (r : ℕ) (waits : List Wait)
    → ((q : ℕ) → q ≢ r → states' q ≡ states q) → ((q : ℕ) → q ≢ r → taken' q ≡ taken q)
    → Each (λ wait. wait.p ≢ r) waits → Each (IsLastTaken states taken) waits → Each (IsLastTaken states' taken') waits
waits_of_others states states' taken taken' r waits same_states same_taken apart h = grind (arith, common_steps, Each-both)

-- a live process' request is taken and answered, and no process moves
pub answer_moves : (processes : ℕ) (S T : State) (taken answered : ℕ → ℕ) (p n : ℕ) (reply : Reply)
    → Tallies processes S taken answered → S.states p ≡ Live → n ≡ taken p + 1 → SameProcesses S T
    → MovesOne processes S taken answered p (Answer p n reply ∷ []) T (one_more p taken)
answer_moves processes S T taken answered p n reply t live number same =
    let even : answered p ≡ taken p = subst (λ s. TallyAt s (taken p) (answered p)) live (t.tally p) in
    let kept : Tallies processes T taken answered = tallies_kept processes S T taken answered same t in
    let live' : T.states p ≡ Live = ap (λ states. states p) same.states ∙ live in
    record {
      here =
          subst (λ s. TallyAt s (one_more p taken p) (answered p + length (numbers_in p (Answer p n reply ∷ [])))) (sym live')
          (rw (eq-eqb p p refl) (omega arith));
      counted = rw (eq-eqb p p refl) (number ∙ ap (λ k. k + 1) (sym even), tt);
      not_ended = λ e. subst IsEnded live e;
      born = born_of processes T taken answered kept p Live live' Live≢Unborn;
      notes_here = (refl, tt);
      states = λ q other. ap (λ states. states q) same.states;
      taken_there = λ q other. one_more-other p q taken other;
      alive = λ q e. same.alive q ∙ e;
      waits =
          waits_of_others T.states T.states taken (one_more p taken) p T.waits (λ q other. refl)
          (λ q other. one_more-other p q taken other)
          (live_apart T.states taken p T.waits live' kept.waits)
          kept.waits;
      apart = kept.apart;
    }

-- the process stands so now, and all others as they did
abbrev pub StandsNow : State → ℕ → ProcState → State → Type 0
StandsNow S r state T = (q : ℕ) → T.states q ≡ (if q == r then state else S.states q)

stands_here : (S : State) (r : ℕ) (state : ProcState) (T : State) → StandsNow S r state T → T.states r ≡ state
stands_here S r state T now = now r ∙ rw (eq-eqb r r refl) refl

stands_there : (S : State) (r : ℕ) (state : ProcState) (T : State) → StandsNow S r state T → (q : ℕ) → q ≢ r
    → T.states q ≡ S.states q
stands_there S r state T now q other = now q ∙ rw (ne_eqb q r other) refl

-- who was alive stays so
abbrev pub KeepsAlive : State → State → Type 0
KeepsAlive S T = (q : ℕ) → S.descriptors.ever_alive q ≡ true → T.descriptors.ever_alive q ≡ true

born_kept : (processes : ℕ) (S T : State) (q : ℕ) → KeepsAlive S T → IsBorn processes S q → IsBorn processes T q
born_kept processes S T q alive b = record { low = b.low; high = b.high; alive = alive q b.alive }

-- a process that waits is answered, and lives
pub wake_moves : (processes : ℕ) (S T : State) (taken answered : ℕ → ℕ) (wait : Wait) (reply : Reply) (left : List Wait)
    → Tallies processes S taken answered → IsLastTaken S.states taken wait → StandsNow S wait.p Live T → T.waits ≡ left
    → Each (λ other. other.p ≢ wait.p) left → Each (IsLastTaken S.states taken) left → AreApart left → KeepsAlive S T
    → MovesOne processes S taken answered wait.p (Answer wait.p wait.n reply ∷ []) T taken
wake_moves processes S T taken answered wait reply left t last now waits_are others lasts apart alive =
    let p : ℕ = wait.p in
    let behind : taken p ≡ answered p + 1 = waiting_behind (S.states p) (taken p) (answered p) last.waiting (t.tally p) in
    record {
      here =
          subst (λ s. TallyAt s (taken p) (answered p + length (numbers_in p (Answer p wait.n reply ∷ [])))) (sym (stands_here S p Live T now))
          (rw (eq-eqb p p refl) (omega arith));
      counted = rw (eq-eqb p p refl) (last.last ∙ behind, tt);
      not_ended = waiting_goes_on (S.states p) last.waiting;
      born = born_kept processes S T p alive (t.born p (waiting_born (S.states p) last.waiting));
      notes_here = (refl, tt);
      states = stands_there S p Live T now;
      taken_there = λ q other. refl;
      alive = alive;
      waits =
          subst (λ waits. Each (IsLastTaken T.states taken) waits) (sym waits_are)
          (waits_of_others S.states T.states taken taken p left (stands_there S p Live T now) (λ q other. refl) others lasts);
      apart = subst AreApart (sym waits_are) apart;
    }

-- a live process' request is taken, and waits
pub wait_moves : (processes : ℕ) (S T : State) (taken answered : ℕ → ℕ) (wait : Wait) → Tallies processes S taken answered
    → S.states wait.p ≡ Live → wait.n ≡ taken wait.p + 1 → StandsNow S wait.p Waiting T → T.waits ≡ S.waits ++ wait ∷ []
    → KeepsAlive S T → MovesOne processes S taken answered wait.p (Waits wait.p wait.n ∷ []) T (one_more wait.p taken)
wait_moves processes S T taken answered wait t live number now waits_are alive =
    let p : ℕ = wait.p in
    let even : answered p ≡ taken p = subst (λ s. TallyAt s (taken p) (answered p)) live (t.tally p) in
    let others = live_apart S.states taken p S.waits live t.waits in
    let waiting : T.states p ≡ Waiting = stands_here S p Waiting T now in
    let last : IsLastTaken T.states (one_more p taken) wait =
    record { waiting = subst IsWaiting (sym waiting) tt; last = number ∙ sym (one_more-same p taken) } in
    record {
      here = subst (λ s. TallyAt s (one_more p taken p) (answered p + 0)) (sym waiting) (rw (eq-eqb p p refl) (omega arith));
      counted = tt;
      not_ended = λ e. subst IsEnded live e;
      born = born_kept processes S T p alive (born_of processes S taken answered t p Live live Live≢Unborn);
      notes_here = (refl, tt);
      states = stands_there S p Waiting T now;
      taken_there = λ q other. one_more-other p q taken other;
      alive = alive;
      waits =
          subst (λ waits. Each (IsLastTaken T.states (one_more p taken)) waits) (sym waits_are)
          (Each-append (IsLastTaken T.states (one_more p taken)) S.waits (wait ∷ [])
          (waits_of_others S.states T.states taken (one_more p taken) p S.waits (stands_there S p Waiting T now)
          (λ q other. one_more-other p q taken other) others t.waits) (last, tt));
      apart = subst AreApart (sym waits_are) (AreApart-push S.waits wait others t.apart);
    }

-- the waits of all other processes
pub without_wait-each : (P : Wait → Type 0) (p : ℕ) (waits : List Wait) → Each P waits → Each P (without_wait_of waits p)
without_wait-each P p [] h = tt
without_wait-each P p (wait ∷ waits) h = grind (arith, common_steps, without_wait-each P p waits, cases_eq)

without_wait-others : (p : ℕ) (waits : List Wait) → Each (λ wait. wait.p ≢ p) (without_wait_of waits p)
without_wait-others p [] = tt
without_wait-others p (wait ∷ waits) = grind (arith, common_steps, without_wait-others p waits, cases_eq)

without_wait-apart : (p : ℕ) (waits : List Wait) → AreApart waits → AreApart (without_wait_of waits p)
without_wait-apart p [] h = tt
without_wait-apart p (wait ∷ waits) h = grind (arith, common_steps, without_wait-each, without_wait-apart p waits, cases_eq)

-- the wait that is found for a process is one of the list, and of the process
pub found_wait : (P : Wait → Type 0) (p : ℕ) (waits : List Wait) (wait : Wait) → wait_of waits p ≡ Some wait → Each P waits
    → (wait.p ≡ p) × P wait
found_wait P p [] wait found h = cc
found_wait P p (v ∷ waits) wait found h = grind (arith, common_steps, found_wait P p waits wait, cases_eq)

-- a process that waits is told that its wait has ended, and lives
pub signal_tells : (processes : ℕ) (S : State) (taken answered : ℕ → ℕ) (target : ℕ) (wait : Wait) (reply : Reply)
    → Tallies processes S taken answered → wait_of S.waits target ≡ Some wait
    → Tells processes S.states answered (Answer target wait.n reply ∷ []) (with_process (without_wait S target) target Live) taken
signal_tells processes S taken answered target wait reply t found =
    let (same, last) = found_wait (IsLastTaken S.states taken) target S.waits wait found t.waits in
    let p : ℕ = wait.p in
    let T : State = with_process (without_wait S p) p Live in
    let left = without_wait_of S.waits p in
    let moves : MovesOne processes S taken answered p (Answer p wait.n reply ∷ []) T taken =
    wake_moves processes S T taken answered wait reply left t last (λ q. refl) refl (without_wait-others p S.waits)
    (without_wait-each (IsLastTaken S.states taken) p S.waits t.waits) (without_wait-apart p S.waits t.apart) (λ q e. e) in
    subst (λ q. Tells processes S.states answered (Answer q wait.n reply ∷ []) (with_process (without_wait S q) q Live) taken) same
    (MovesOne-tells processes S taken answered p (Answer p wait.n reply ∷ []) T taken t moves)

-- a process ends, and is told nothing: its wait is gone
pub end_moves : (processes : ℕ) (S T : State) (taken answered taken' : ℕ → ℕ) (p : ℕ) → Tallies processes S taken answered
    → TallyAt Ended (taken' p) (answered p) → ¬ IsEnded (S.states p) → S.states p ≢ Unborn → ((q : ℕ) → q ≢ p → taken' q ≡ taken q)
    → StandsNow S p Ended T → T.waits ≡ without_wait_of S.waits p → KeepsAlive S T
    → MovesOne processes S taken answered p [] T taken'
end_moves processes S T taken answered taken' p t tally goes_on born taken_there now waits_are alive =
    grind (arith, common_steps, stands_here, born_kept, stands_there, waits_of_others, without_wait-others, without_wait-each, without_wait-apart)

-- a process that was never alive begins to live
pub begin_moves : (processes : ℕ) (S T : State) (taken answered : ℕ → ℕ) (child : ℕ) → Tallies processes S taken answered
    → S.states child ≡ Unborn → StandsNow S child Live T → T.waits ≡ S.waits → KeepsAlive S T → IsBorn processes T child
    → MovesOne processes S taken answered child [] T taken
begin_moves processes S T taken answered child t unborn now same_waits alive born =
    let none : (taken child ≡ 0) × (answered child ≡ 0) =
    subst (λ s. TallyAt s (taken child) (answered child)) unborn (t.tally child) in
    record {
      here = subst (λ s. TallyAt s (taken child) (answered child + 0)) (sym (stands_here S child Live T now)) (omega (arith, none.0, none.1));
      counted = tt;
      not_ended = λ e. subst IsEnded unborn e;
      born = born;
      notes_here = tt;
      states = stands_there S child Live T now;
      taken_there = λ q other. refl;
      alive = alive;
      waits =
          subst (λ waits. Each (IsLastTaken T.states taken) waits) (sym same_waits)
          (waits_of_others S.states T.states taken taken child S.waits (stands_there S child Live T now)
          (λ q other. refl)
          (idle_apart S.states taken child S.waits (λ waiting. subst IsWaiting unborn waiting) t.waits)
          t.waits);
      apart = subst AreApart (sym same_waits) t.apart;
    }

-- settling answers each wait that it grants, in turn
pub Settles-tells : (processes : ℕ) (policy : Policy) (S : State) (grants : List Note) (T : State) (taken answered : ℕ → ℕ)
    → Tallies processes S taken answered → Settles policy S grants T → Tells processes S.states answered grants T taken
Settles-tells processes policy S [] T taken answered t h =
    subst (λ X. Tells processes S.states answered [] X taken) (sym h.1) (nothing_told processes S S taken answered (SameProcesses-refl S) t)
Settles-tells processes policy S (grant ∷ grants) T taken answered t h =
    let before = h.0 in
    let wait = h.1 in
    let after = h.2 in
    let U : State = granted S before wait after in
    let place : S.waits ≡ before ++ wait ∷ after = h.3.place in
    let lasts = Each-middle (IsLastTaken S.states taken) before wait after (subst (λ waits. Each (IsLastTaken S.states taken) waits) place t.waits) in
    let apart = AreApart-middle before wait after (subst AreApart place t.apart) in
    let same = SameProcesses-lock S wait in
    let moves : MovesOne processes S taken answered wait.p (Answer wait.p wait.n replies.Ok ∷ []) U taken =
    wake_moves processes S U taken answered wait replies.Ok (before ++ after) t lasts.0
    (λ q. ap (λ states. if q == wait.p then Live else states q) same.states)
    refl apart.0 lasts.1 apart.1 (λ q e. same.alive q ∙ e) in
    let first : Tells processes S.states answered (Answer wait.p wait.n replies.Ok ∷ []) U taken =
    MovesOne-tells processes S taken answered wait.p (Answer wait.p wait.n replies.Ok ∷ []) U taken t moves in
    let second = Settles-tells processes policy U grants T taken (λ q. answered q + length (numbers_in q (Answer wait.p wait.n replies.Ok ∷ []))) first.tallies h.5 in
    subst (λ note. Tells processes S.states answered (note ∷ grants) T taken) (sym h.4)
    (Tells-then processes S.states answered (Answer wait.p wait.n replies.Ok ∷ []) U taken grants T taken first second)
