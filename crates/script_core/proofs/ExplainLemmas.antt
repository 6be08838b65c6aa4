-- The run that is made again, step by step: for `write_explained`, clause `ok`.
use Rattle.script_core.proofs.Common.{common_steps, rules, ℕ, suc, ◌≡◌, ◌+◌, ◌<◌, ◌≤◌, Option, Bool, List, [], ◌∷◌, ◌++◌, length, All, inl, inr, take, drop, get_or, refl, sym, ap, subst, ◌∙◌, arith, append_assoc, append-nil, add-one, Result, true, MatchResult, if◌then◌else◌, codes, drop-cons, take-append_seam, take_all, length-take, cases_Bool}
use Rattle.script_core.proofs.Common.{FILES, descriptor_limit, Held, mode_in, flock_mode_in, IsHeldReport, Policy, Wait, IsTraditional, Rules, Lock, LkCmd, FlockOp, Note, InTheWay, Request, OpenFile, Dup, DupTo, CloseFd, Seek, Resize, Lk, Flock, Fork, Exit, Signal, Kill, Enter, Leave, Bail, Manager, Visit, State, Visits, opening_state, locks_held, is_together, IsSettled, Step, AsksFor, StepHasOneOutcome, StandsFor, processes_of, Event, IsStep, Leads, entry_line, Extends, Link, States, StateLine, TellsState, IsWithinFiles, TellsCycleIfAny, closed_by, lost, is_deadlock, obstacle_line, deadlock_line, loss_lines, Explains, ExplainsRun, together_line, together_lines}
use Rattle.std.proofs.Common.{IfOk, OnErr, OnOk}
use Rattle.std.proofs.lemmas.List.{take_more}
use Rattle.lock_manager.specs.Asking.{AsksForBytes, AsksForWhole}
use Rattle.lock_manager.specs.ManagerView.{rules_of}
use Rattle.script_core.specs.StateText.{IsKept}
use Rattle.script_core.proofs.StateLemmas.{StateTold}
use Rattle.script_core.specs.Losses.{AreReleased}
use Rattle.script_core.specs.Explaining.{comment, TellsDeadlock, IsCycleOf, ended_line, ended_wait, StandsInTheWay, lines_together}
use Rattle.script_core.proofs.TextLemmas.{kept_behind}
use Rattle.script_core.proofs.DeadlockLocksLemmas.{told_of_state, none_of_state}
use Rattle.script_core.proofs.DeadlockStepLemmas.{HasClosed, step_closes}
use Rattle.script_core.proofs.FitLemmas.{settles_settled}
use Rattle.script_core.proofs.FilesLemmas.{step_files, asks_file}

-- a request asks for one lock
one_of_bytes : (S : State) (p n fd : ℕ) (cmd : LkCmd) (lock : Lock) (v w : Wait) → AsksForBytes S p n fd cmd lock v → AsksForBytes S p n fd cmd lock w → v ≡ w
one_of_bytes S p n fd cmd lock v w h k = grind (arith, common_steps)

one_of_whole : (S : State) (p n fd : ℕ) (op : FlockOp) (v w : Wait) → AsksForWhole S p n fd op v → AsksForWhole S p n fd op w → v ≡ w
one_of_whole S p n fd op v w h k = grind (arith, common_steps)

pub asks_once : (S : State) (p n : ℕ) (request : Request) (v w : Wait) → AsksFor S p n request v → AsksFor S p n request w → v ≡ w
asks_once S p n (Lk fd cmd lock) v w h k = one_of_bytes S p n fd cmd lock v w h k
asks_once S p n (Flock fd op nb) v w h k = one_of_whole S p n fd op v w h k
asks_once S p n (OpenFile file access) v w h k = absurd h
asks_once S p n (Dup fd) v w h k = absurd h
asks_once S p n (DupTo fd to) v w h k = absurd h
asks_once S p n (CloseFd fd) v w h k = absurd h
asks_once S p n (Seek fd offset) v w h k = absurd h
asks_once S p n (Resize fd size) v w h k = absurd h
asks_once S p n (Fork child) v w h k = absurd h
asks_once S p n Exit v w h k = absurd h
asks_once S p n (Signal target) v w h k = absurd h
asks_once S p n (Kill target) v w h k = absurd h
asks_once S p n (Enter section visit) v w h k = absurd h
asks_once S p n (Leave section) v w h k = absurd h
asks_once S p n Bail v w h k = absurd h

-- the cycle of the lock that the request asks for is that of the event
pub found_cycle : (policy : Policy) (T : State) (report : List Held) (event : Event) (wait : Wait) (waits : List Wait) (links : List Link)
    → is_deadlock event.notes ≡ true → IsHeldReport (mode_in T.changes) (flock_mode_in T.flock_changes) report
    → AsksFor T event.p event.n event.request wait → waits ≡ T.waits → (IsTraditional wait → TellsCycleIfAny policy report waits wait links)
    → IsCycleOf policy T event links
found_cycle policy T report event wait waits links is reported asks same found = record {
  none = λ other. absurd (let wrong = sym is ∙ other in cc);
  some = λ refused. inr (
    report,
    reported,
    λ asked asks_too traditional.
        let one : wait ≡ asked = asks_once T event.p event.n event.request wait asked asks asks_too in
        subst (λ (w : Wait). TellsCycleIfAny policy report T.waits w links) one
        (subst (λ (ws : List Wait). TellsCycleIfAny policy report ws wait links) same (found (subst IsTraditional (sym one) traditional))),
  );
}

pub cycle_found : {X E : Type 0} (items : X → List Link) (policy : Policy) (manager : Manager) (report : List Held) (event : Event) (wait : Wait)
    → (waits : List Wait) (result : Result X E)
    → is_deadlock event.notes ≡ true → ((T : State) → StandsFor manager T → AsksFor T event.p event.n event.request wait)
    → ((T : State) → StandsFor manager T → IsHeldReport (mode_in T.changes) (flock_mode_in T.flock_changes) report)
    → ((T : State) → StandsFor manager T → waits ≡ T.waits)
    → IfOk result (λ links. IsTraditional wait → TellsCycleIfAny policy report waits wait (items links))
    → IfOk result (λ links. (T : State) → StandsFor manager T → IsCycleOf policy T event (items links))
cycle_found items policy manager report event wait waits result h h2 h3 h4 h5 = grind (arith, common_steps, found_cycle)

-- of a step that was refused with EDEADLK there is a cycle, and of another none
tells_deadlock : (rules : Rules) (processes : ℕ) (S : State) (event : Event) (T : State) (links : List Link) → IsStep rules processes S event T
    → IsWithinFiles S → IsSettled rules.policy S → IsCycleOf rules.policy T event links → TellsDeadlock rules.policy T event links
tells_deadlock rules processes S event T links step within settled h = elim (cases_Bool (is_deadlock event.notes)) [
  | inl refused ↦
      let closed = step_closes rules processes S event.p event.n event.request event.notes T settled step refused in
      let files = step_files rules processes S event.p event.n event.request event.notes T step within in
      let low = asks_file T event.p event.n event.request closed.wait files closed.asks in
      elim (h.some refused) [
        | inl none ↦ absurd (none closed.wait closed.asks)
        | inr (report, reported, told) ↦ by_links report reported refused closed low files.waits links (told closed.wait closed.asks closed.traditional)
      ]
  | inr other ↦ subst (TellsDeadlock rules.policy T event) (sym (h.none other)) other
]
  where
    by_links : (report : List Held) → IsHeldReport (mode_in T.changes) (flock_mode_in T.flock_changes) report
        → is_deadlock event.notes ≡ true → (closed : HasClosed rules event.p event.n event.request T) → closed.wait.file < FILES
        → All (λ v. v.file < FILES) T.waits
        → (links : List Link) → TellsCycleIfAny rules.policy report T.waits closed.wait links → TellsDeadlock rules.policy T event links
    by_links report reported refused closed low few [] none =
        absurd (none_of_state rules.policy (locks_held T) report T.waits closed.wait (record { is = reported }) low few none closed.closes)
    by_links report reported refused closed low few (first ∷ rest) told =
        (refused, report, reported, closed.wait, closed.asks, told_of_state rules.policy (locks_held T) report T.waits closed.wait (first ∷ rest) (record { is = reported }) low few told)

-- what a step of the manager, and the text behind it, come to in whatever state the manager stands for
abbrev pub StepExplains : Policy → Manager → Manager → Event → List ℕ → List ℕ → Type 0
StepExplains policy old new event before after =
    (S T : State) → StandsFor old S → IsWithinFiles S → IsSettled policy S → IsStep (rules_of old) (processes_of old) S event T → StandsFor new T
    × (own : List ℕ) × Explains (rules_of old) (processes_of old) S event T own × (after ≡ before ++ (entry_line event ++ own))

-- one more piece
pub and_then : (old mid new front piece : List ℕ) → mid ≡ old ++ front → new ≡ mid ++ piece → new ≡ old ++ (front ++ piece)
and_then old mid new front piece is pushed = pushed ∙ ap (λ (l : List ℕ). l ++ piece) is ∙ append_assoc old front piece

-- what is told of the step, and of the locks and waits before and behind it, explains it
pub explains_step : StepHasOneOutcome
    → (rules : Rules) (old next : Manager) (event : Event) (notes : List Note) (obstacle : Option InTheWay) (links : List Link) (t0 t1 t2 t3 t4 t5 t6 t7 : List ℕ)
    → rules ≡ rules_of old
    → ((S : State) → StandsFor old S → (T : State)
    × Step (rules_of old) (processes_of old) S event.p event.n event.request notes T × StandsFor next T)
    → ((T : State) → StandsFor next T → StandsInTheWay (rules_of next) T event obstacle)
    → ((T : State) → StandsFor next T → IsCycleOf rules.policy T event links) → rules_of next ≡ rules_of old
    → t1 ≡ t0 ++ entry_line event → ((S : State) → StandsFor old S → t2 ≡ t1 ++ ended_line event (ended_wait S event.request))
    → ((S : State) → StandsFor old S → (locks : List Held)
    × AreReleased (processes_of old) (descriptor_limit rules.limits) S (closed_by rules.limits S event.p event.request) locks
    × (t3 ≡ t2 ++ loss_lines event (codes "released ") locks))
    → ((S T : State) → StandsFor old S → StandsFor next T → t4 ≡ t3 ++ loss_lines event (codes "lost ") (lost S T event.p event.request))
    → t5 ≡ t4 ++ obstacle_line event obstacle → t6 ≡ t5 ++ deadlock_line event links → processes_of next ≡ processes_of old
    → ((T : State) → StandsFor next T → t7 ≡ t6 ++ lines_together (processes_of next) event T)
    → StepExplains rules.policy old next event t0 t7
explains_step one rules old next event notes obstacle links t0 t1 t2 t3 t4 t5 t6 t7 ruled steps stands cycle same_rules first ends releases loses third fourth all meets S T h within settled step =
    let made = steps S h in
    let same : made.0 ≡ T = (one (rules_of old) (processes_of old) S event.p event.n event.request notes event.notes made.0 T made.1 step).1 in
    let now : StandsFor next T = subst (StandsFor next) same made.2 in
    let gone = releases S h in
    let ended = ended_line event (ended_wait S event.request) in
    let released = loss_lines event (codes "released ") gone.0 in
    let losses = loss_lines event (codes "lost ") (lost S T event.p event.request) in
    let blocked = obstacle_line event obstacle in
    let refused = deadlock_line event links in
    let met = lines_together (processes_of old) event T in
    let meeting : t7 ≡ t6 ++ met = meets T now ∙ ap (λ (k : ℕ). t6 ++ lines_together k event T) all in (
      now,
      ended ++ released ++ losses ++ blocked ++ refused ++ met,
      record {
        released = gone.0;
        are_released = subst
            (λ (r : Rules). AreReleased (processes_of old) (descriptor_limit r.limits) S (closed_by r.limits S event.p event.request) gone.0) ruled gone.1;
        obstacle = obstacle;
        is_obstacle = subst (λ (r : Rules). StandsInTheWay r T event obstacle) same_rules (stands T now);
        links = links;
        is_cycle = tells_deadlock (rules_of old) (processes_of old) S event T links step within
            (subst (λ (r : Rules). IsSettled r.policy S) ruled settled)
            (subst (λ (r : Rules). IsCycleOf r.policy T event links) ruled (cycle T now));
        is = refl;
      },
      and_then t0 t6 t7 (entry_line event ++ ended ++ released ++ losses ++ blocked ++ refused) met
          (and_then t0 t5 t6 (entry_line event ++ ended ++ released ++ losses ++ blocked) refused
          (and_then t0 t4 t5 (entry_line event ++ ended ++ released ++ losses) blocked
          (and_then t0 t3 t4 (entry_line event ++ ended ++ released) losses
          (and_then t0 t2 t3 (entry_line event ++ ended) released (and_then t0 t1 t2 (entry_line event) ended first (ends S h)) gone.2) (loses S T h now)) third) fourth) meeting
          ∙ ap (λ (l : List ℕ). t0 ++ l) (ap (λ (l : List ℕ). l ++ met) (six (entry_line event) ended released losses blocked refused)
          ∙ append_assoc (entry_line event) (ended ++ released ++ losses ++ blocked ++ refused) met),
    )
  where
    six : (a b c d e f : List ℕ) → ((((a ++ b) ++ c) ++ d) ++ e) ++ f ≡ a ++ ((((b ++ c) ++ d) ++ e) ++ f)
    six a b c d e f =
        append_assoc (((a ++ b) ++ c) ++ d) e f ∙ append_assoc ((a ++ b) ++ c) d (e ++ f) ∙ append_assoc (a ++ b) c (d ++ (e ++ f))
        ∙ append_assoc a b (c ++ (d ++ (e ++ f)))
        ∙ ap (λ (l : List ℕ). a ++ l) (sym (append_assoc ((b ++ c) ++ d) e f ∙ append_assoc (b ++ c) d (e ++ f) ∙ append_assoc b c (d ++ (e ++ f))))

-- the same where it is told of each state that there may be
pub if_done : {A E : Type 0} (r : Result A E) (P X : Type 0) → OnOk r P → (P → X) → OnOk r X
if_done r P X h gives = grind (arith, common_steps)

pub if_failed : {A E : Type 0} (r : Result A E) (X : Type 0) → X → OnErr r X
if_failed r X h = grind (arith, common_steps)

-- what is told behind the beginning of a line
pub begun : {A E : Type 0} (r : Result A E) (old front new told : List ℕ)
    → MatchResult r (λ unit. new ≡ old ++ front ++ told) (λ error. Extends (old ++ front) new)
    → MatchResult r (λ unit. new ≡ old ++ (front ++ told)) (λ error. Extends old new)
begun r old front new told is = grind (arith, common_steps, append_assoc, kept_behind)

-- no processes, and one more
pub none_together : (event : Event) (visits : Visits) (section : ℕ) (visit : Visit) (old : List ℕ) → old ≡ old ++ together_lines event visits section visit 0
unfolding together_lines
none_together event visits section visit old = sym (append-nil old)

pub more_together : (event : Event) (visits : Visits) (section : ℕ) (visit : Visit) (old mid new : List ℕ) (index : ℕ)
    → mid ≡ old ++ together_lines event visits section visit index
    → new ≡ mid ++ (if is_together visits event.p section visit (index + 1) then together_line event section (index + 1) else [])
    → new ≡ old ++ together_lines event visits section visit (index + 1)
unfolding together_lines
more_together event visits section visit old mid new index was is =
    let front = together_lines event visits section visit index in
    let line = (if is_together visits event.p section visit (index + 1) then together_line event section (index + 1) else []) in
    rw (add-one index)
    (subst
    (λ (q : ℕ). new ≡ old ++ (front ++ (if is_together visits event.p section visit q then together_line event section q else [])))
    (add-one index) (is ∙ ap (λ (l : List ℕ). l ++ line) was ∙ append_assoc old front line))

-- the line of a process that is told, or none
pub told_together : (event : Event) (visits : Visits) (section : ℕ) (visit : Visit) (old mid new : List ℕ) (index : ℕ) (test : Bool)
    → test ≡ is_together visits event.p section visit (index + 1) → mid ≡ old ++ together_lines event visits section visit index
    → new ≡ mid ++ (if test then together_line event section (index + 1) else []) → new ≡ old ++ together_lines event visits section visit (index + 1)
told_together event visits section visit old mid new index test at was is =
    more_together event visits section visit old mid new index was
    (is ∙ ap (λ (b : Bool). mid ++ (if b then together_line event section (index + 1) else [])) at)

-- what is said of an obstacle behind the words of a comment
pub told_behind : {A E : Type 0} (r : Result A E) (old mid new : List ℕ) (p n : ℕ) (words line told : List ℕ) → mid ≡ old ++ comment p n words
    → told ≡ words ++ line → MatchResult r (λ unit. new ≡ mid ++ line) (λ error. Extends mid new)
    → MatchResult r (λ unit. new ≡ old ++ comment p n told) (λ error. Extends old new)
told_behind r old mid new p n words line told h h2 h3 = grind (arith, common_steps, begun, append_assoc, kept_behind)

-- what is cut back to the old bytes is these
pub cut_whole : (old new cut : List ℕ) (len : ℕ) → Extends old new → len ≡ length old → cut ≡ take len new → cut ≡ old
cut_whole old new cut len kept at is = is ∙ ap (λ (n : ℕ). take n new) at ∙ ap (take (length old)) kept.is ∙ take-append_seam old kept.more

-- a front of a journal was made again: the manager stands for the state that it leaves, from which the rest leads on, and the text has
-- grown by what explains the front; and against these lines it is told what the next event changes, where that is asked for
pub record HasExplained (states : States) (rules : Rules) (processes : ℕ) (journal : List Event) (index : ℕ) (manager : Manager)
    (before : List StateLine) (old new : List ℕ) : Type 0 where
  pub state : State
  pub last : State
  pub stands : StandsFor manager state
  pub within : IsWithinFiles state
  pub settled : IsSettled rules.policy state
  pub leads : Leads rules processes state (drop index journal) last
  pub more : List ℕ
  pub explains : ExplainsRun states rules processes 1 opening_state (take index journal) state more
  pub is : new ≡ old ++ more
  pub rules_are : rules_of manager ≡ rules
  pub processes_are : processes_of manager ≡ processes
  pub kept : IsKept states rules processes (index + 1) state before

-- one more event is explained
run_more : (states : States) (rules : Rules) (processes number : ℕ) (first S : State) (events : List Event) (event : Event) (T : State)
    (text own told : List ℕ) → ExplainsRun states rules processes number first events S text → IsStep rules processes S event T
    → Explains rules processes S event T own → TellsState states rules processes (number + length events) S T told
    → ExplainsRun states rules processes number first (events ++ event ∷ []) T (text ++ (entry_line event ++ own ++ told))
run_more states rules processes number first S [] event T text own told h step explains tells =
    let here : number + 0 ≡ number = omega arith in (
      T,
      subst (λ (X : State). IsStep rules processes X event T) h.0 step,
      own,
      subst (λ (X : State). Explains rules processes X event T own) h.0 explains,
      told,
      subst (λ (X : State). TellsState states rules processes number X T told) h.0
          (subst (λ (n : ℕ). TellsState states rules processes n S T told) here tells),
      [],
      (refl, refl),
      ap (λ (l : List ℕ). l ++ (entry_line event ++ own ++ told)) h.1 ∙ sym (append-nil (entry_line event ++ own ++ told)),
    )
run_more states rules processes number first S (one ∷ events) event T text own told h step explains tells =
    let there : number + suc (length events) ≡ number + 1 + length events = omega arith in
    let piece = entry_line event ++ own ++ told in (
      h.0,
      h.1,
      h.2,
      h.3,
      h.4,
      h.5,
      h.6 ++ piece,
      run_more states rules processes (number + 1) h.0 S events event T h.6 own told h.7 step explains
          (subst (λ (n : ℕ). TellsState states rules processes n S T told) there tells),
      ap (λ (l : List ℕ). l ++ piece) h.8 ∙ append_assoc (entry_line one ++ h.2 ++ h.4) h.6 piece,
    )

next_of : (journal : List Event) (index : ℕ) (event : Event) → index < length journal → event ≡ get_or journal index event
    → drop index journal ≡ event ∷ drop (suc index) journal
next_of journal index event within is = grind (arith, common_steps, drop-cons)

-- the next event's step is made again from the state of the front, and what explains it stands behind the text
again : (states : States) (rules : Rules) (processes : ℕ) (journal : List Event) (index : ℕ) (manager next : Manager) (before : List StateLine)
    (old mid late : List ℕ) (event : Event) → (h : HasExplained states rules processes journal index manager before old mid) → index < length journal → event ≡ get_or journal index event
    → StepExplains rules.policy manager next event mid late
    → (T : State) × IsStep rules processes h.state event T × Leads rules processes T (drop (suc index) journal) h.last × StandsFor next T
    × (own : List ℕ) × Explains rules processes h.state event T own × (late ≡ mid ++ (entry_line event ++ own))
again states rules processes journal index manager next before old mid late event h within is made =
    let rest = subst (λ (l : List Event). Leads rules processes h.state l h.last) (next_of journal index event within is) h.leads in
    let by_rules = subst (λ (r : Rules). IsStep r processes h.state event rest.0) (sym h.rules_are) rest.1 in
    let by_all = subst (λ (k : ℕ). IsStep (rules_of manager) k h.state event rest.0) (sym h.processes_are) by_rules in
    let step = made h.state rest.0 h.stands h.within h.settled by_all in (
      rest.0,
      rest.1,
      rest.2,
      step.0,
      step.1,
      subst (λ (k : ℕ). Explains rules k h.state event rest.0 step.1) h.processes_are
          (subst (λ (r : Rules). Explains r (processes_of manager) h.state event rest.0 step.1) h.rules_are step.2),
      step.3,
    )

-- so the text before it is kept
pub kept_again : (states : States) (rules : Rules) (processes : ℕ) (journal : List Event) (index : ℕ) (manager next : Manager)
    (before : List StateLine) (old mid late : List ℕ) (event : Event) → HasExplained states rules processes journal index manager before old mid → index < length journal → event ≡ get_or journal index event
    → StepExplains rules.policy manager next event mid late → Extends old late
kept_again states rules processes journal index manager next before old mid late event h within is made =
    let step = again states rules processes journal index manager next before old mid late event h within is made in
    kept_behind old mid late h.more h.is (record { more = entry_line event ++ step.4; is = step.6 })

-- and once the state is told where it is asked for, it is explained too
pub explained_more : (states : States) (rules : Rules) (processes : ℕ) (journal : List Event) (index number : ℕ) (manager next : Manager)
    (before after : List StateLine) (old mid late new : List ℕ) (event : Event) → HasExplained states rules processes journal index manager before old mid
    → index < length journal → event ≡ get_or journal index event → number ≡ index + 1 → StepExplains rules.policy manager next event mid late
    → StateTold states rules number next before after late new → rules_of next ≡ rules_of manager → processes_of next ≡ processes_of manager
    → HasExplained states rules processes journal (index + 1) next after old new
explained_more states rules processes journal index number manager next before after old mid late new event h within is at made tells rules_stay processes_stay =
    let step = again states rules processes journal index manager next before old mid late event h within is made in
    let all = processes_stay ∙ h.processes_are in
    let kept = subst (λ (k : ℕ). IsKept states rules k number h.state before) (sym all)
    (subst (λ (n : ℕ). IsKept states rules processes n h.state before) (sym at) h.kept) in
    let told = tells h.state step.0 step.3 kept in
    let place : number ≡ 1 + length (take index journal) = omega (arith, at, length-take index journal) in
    let told_is = subst (λ (k : ℕ). TellsState states rules k number h.state step.0 told.0) all told.1 in
    let pushed = told.2 in
    let front : take (index + 1) journal ≡ take index journal ++ event ∷ [] =
    take_more journal index event within ∙ ap (λ (e : Event). take index journal ++ e ∷ []) (sym is) in
    let piece = entry_line event ++ step.4 ++ told.0 in
    record {
      state = step.0;
      last = h.last;
      stands = step.3;
      within = step_files rules processes h.state event.p event.n event.request event.notes step.0 step.1 h.within;
      settled = settles_settled rules.policy _ step.1.grants step.0 step.1.settles;
      leads = subst (λ (l : List Event). Leads rules processes step.0 l h.last) (ap (λ (k : ℕ). drop k journal) (sym (add-one index))) step.2;
      more = h.more ++ piece;
      explains = subst (λ (l : List Event). ExplainsRun states rules processes 1 opening_state l step.0 (h.more ++ piece)) (sym front)
          (run_more states rules processes 1 opening_state h.state (take index journal) event step.0 h.more step.4 told.0 h.explains step.1 step.5
          (subst (λ (n : ℕ). TellsState states rules processes n h.state step.0 told.0) place told_is));
      is = grind (arith, common_steps, append_assoc);
      rules_are = rules_stay ∙ h.rules_are;
      processes_are = processes_stay ∙ h.processes_are;
      kept = subst (λ (n : ℕ). IsKept states rules processes (n + 1) step.0 after) at
          (subst (λ (k : ℕ). IsKept states rules k (number + 1) step.0 after) all told.3);
    }

-- a run that is explained leaves the state to which its events lead
same_end : StepHasOneOutcome → (states : States) (rules : Rules) (processes number : ℕ) (S : State) (events : List Event) (T U : State) (text : List ℕ)
    → ExplainsRun states rules processes number S events T text → Leads rules processes S events U → T ≡ U
same_end one states rules processes number S [] T U text h leads = h.0 ∙ sym leads
same_end one states rules processes number S (event ∷ events) T U text h leads =
    let same = one rules processes S event.p event.n event.request event.notes event.notes h.0 leads.0 h.1 leads.1 in
    same_end one states rules processes (number + 1) leads.0 events T U h.6
    (subst (λ (X : State). ExplainsRun states rules processes (number + 1) X events T h.6) same.1 h.7) leads.2

-- the whole journal
pub all_explained : StepHasOneOutcome → (states : States) (rules : Rules) (processes : ℕ) (journal : List Event) (index : ℕ) (manager : Manager)
    (before : List StateLine) (old new : List ℕ) → HasExplained states rules processes journal index manager before old new → length journal ≤ index → (T : State)
    → Leads rules processes opening_state journal T → (more : List ℕ) × ExplainsRun states rules processes 1 opening_state journal T more × (new ≡ old ++ more)
all_explained one states rules processes journal index manager before old new h past T leads = grind (arith, common_steps, take_all, same_end)
