-- Under the queue policy a request that would wait were it blocked sets its lock at once only where no wait conflicts with it.
use Rattle.session_core.proofs.Common.{arith, rules, ℕ, ◌≡◌, ◌≢◌, ◌≤◌, ◌⊎◌, inl, inr, refl, sym, ◌∙◌, ap, subst, Bool, true, false, List, [], ◌∷◌, ◌++◌, ⊎_elim, Any, Option, Some, None, MatchBool, MatchOption, common_steps, IsTrue, IsFalse, Contains, All-contains, All-from_recursion, Contains-append_left, Contains-append_right}
use Rattle.session_core.proofs.Common.{Mode, Read, Write, flock_mode_in, Look, Queue, Wait, WaitsConflict, Rules, Lock, LkCmd, GetLk, SetLk, SetLkW, OGetLk, OSetLk, OSetLkW, FlockOp, Sh, Ex, Un, Errno, Request, OpenFile, Dup, DupTo, CloseFd, Seek, Resize, Lk, Flock, Fork, Exit, Signal, Kill, Enter, Leave, Bail, Note, Answer, Waits, State, opening_state, with_lock, with_flock_mode, Outcome, answered_then, refused, waits_then, LockComesTo, CommandComesTo, FlockComesTo, FlockOpComesTo, FlockModeComesTo, FlockTestComesTo, is_same_mode, wanted_flock, ComesTo, StepHasOneOutcome, Event, IsStep, Leads, IsRun, WouldWaitAs, IsOver}
use Rattle.std.specs.List.{AllByRecursion as Each}
use Rattle.wait_core.specs.Blocking.{IsBlocked}
use Rattle.lock_manager.specs.declared.request.Errno.TheVariants.{EBADF}
use Rattle.lock_manager.specs.declared.request.Reply.TheVariants as replies
use Rattle.lock_manager.specs.State.{locks_held}
use Rattle.lock_manager.specs.LockWords.{may_wait}
use Rattle.lock_manager.specs.FlockCalls.{flock_wanted_mode}
use Rattle.lock_manager.specs.Asking.{AsksForBytes, AsksForWhole}
use Rattle.session_core.specs.QueuePolicy.{HasFlock, SetsAtOnce, IsTested, notes_told, PassesNoneTold, NotesAreOfWaits, RequestsJoinTheQueue}
use Rattle.session_core.proofs.tallies.Tally.{Each-append, Each-map, Contains-here}
use Rattle.session_core.proofs.tallies.OutcomeLaws.{cases_fact, cases_bool}
use Rattle.session_core.proofs.queue.AnyLemmas.{Any-here, Any-there}
use Rattle.session_core.proofs.queue.WaitPlaces.{Anything, StandsIn, StandsIn-each, Passes}
use Rattle.session_core.proofs.queue.WaitMoves.{Joins, ready_apart, Settles-passes, Step-moves}
use Rattle.session_core.proofs.queue.TurnLemmas.{Contains-there, Passes-answers, Waits-join}
use Rattle.session_core.proofs.LeadsLemmas.{Leads-split, Leads-unique}
use Rattle.session_core.proofs.queue.TurnLaws.{has_waited, WouldWaitAs-of}

-- what some has none has
none_each : {X : Type 0} (P : X → Type 0) (xs : List X) → ¬ Any P xs → Each (λ x. ¬ P x) xs
none_each P [] none = tt
none_each P (x ∷ xs) none = ((λ p. none (Any-here P x xs p)), none_each P xs (λ any. none (Any-there P x xs any)))

Each-insert : {X : Type 0} (P : X → Type 0) (xs : List X) (x : X) (ys : List X) → P x → Each P (xs ++ ys) → Each P (xs ++ x ∷ ys)
Each-insert P [] x ys p h = (p, h)
Each-insert P (z ∷ xs) x ys p h = (h.0, Each-insert P xs x ys p h.1)

-- each wait of the list is granted, or what holds of those that are left holds of it
Passes-each : (R : Wait → Type 0) (waits : List Wait) (notes : List Note) (left : List Wait) → Passes waits notes left → Each R left
    → Each (λ v. Contains notes (Answer v.p v.n replies.Ok) ⊎ R v) waits
Passes-each R waits [] left h all = subst (Each (λ v. Contains [] (Answer v.p v.n replies.Ok) ⊎ R v)) h (Each-map R _ left (λ v r. inr r) all)
Passes-each R waits (note ∷ notes) left h all =
    let Granted : Wait → Type 0 = λ v. Contains (note ∷ notes) (Answer v.p v.n replies.Ok) ⊎ R v in
    let rest : Each Granted (h.0 ++ h.2) =
    Each-map (λ v. Contains notes (Answer v.p v.n replies.Ok) ⊎ R v) Granted (h.0 ++ h.2)
    (λ v one. ⊎_elim (λ granted. inl (Contains-there note (Answer v.p v.n replies.Ok) notes granted)) (λ r. inr r) one)
    (Passes-each R (h.0 ++ h.2) notes left h.6 all) in
    subst (Each Granted) (sym h.3)
    (Each-insert Granted h.0 h.1 h.2 (inl (Contains-here note (Answer h.1.p h.1.n replies.Ok) notes h.5)) rest)

-- who is answered Ok by the first note isn't refused, and doesn't wait
Ok≢refused : (S : State) (p n : ℕ) (error : Errno) (outcome : Outcome) (grants notes others : List Note) → outcome ≡ refused S p n error
    → notes ≡ outcome.told ++ grants → notes ≡ Answer p n replies.Ok ∷ others → ⊥
Ok≢refused S p n error outcome grants notes others is are told = grind (arith, common_steps)

Ok≢waits : (S : State) (wait : Wait) (p n : ℕ) (made : List Note) (outcome : Outcome) (grants notes others : List Note)
    → outcome ≡ waits_then S wait made → notes ≡ outcome.told ++ grants → notes ≡ Answer p n replies.Ok ∷ others → ⊥
Ok≢waits S wait p n made outcome grants notes others is are told = grind (arith, common_steps)

-- no wait in the list conflicts with the lock where it is tested; and who left the list before that was granted
record IsTurnKept (rules : Rules) (S : State) (event : Event) (wanted : Wait) : Type 0 where
  grants : List Note
  tested : State
  is_tested : IsTested rules S wanted grants tested
  others : List Note
  told : event.notes ≡ Answer wanted.p wanted.n replies.Ok ∷ (grants ++ others)
  passes : Passes S.waits grants tested.waits
  none : Each (λ v. ¬ WaitsConflict v wanted) tested.waits

-- no wait conflicts with what nothing blocks
tested_kept : (rules : Rules) (S tested : State) (event : Event) (wanted : Wait) (made others : List Note) → rules.policy ≡ Queue
    → IsTested rules S wanted made tested → Passes S.waits made tested.waits
    → event.notes ≡ Answer wanted.p wanted.n replies.Ok ∷ (made ++ others)
    → ¬ IsBlocked rules.policy (locks_held tested) tested.waits wanted → IsTurnKept rules S event wanted
tested_kept rules S tested event wanted made others queue is_tested passes told ready =
    record {
      grants = made;
      tested = tested;
      is_tested = is_tested;
      others = others;
      told = told;
      passes = passes;
      none = none_each (λ v. WaitsConflict v wanted) tested.waits
          (ready_apart rules.policy (locks_held tested) tested.waits wanted queue ready);
    }

-- a request that would wait, tested in this state
test_ready : (rules : Rules) (settled : State) (event : Event) (wanted : Wait) (made : List Note) (outcome : Outcome) (grants others : List Note)
    → FlockTestComesTo rules settled false wanted made outcome → event.notes ≡ outcome.told ++ grants
    → event.notes ≡ Answer wanted.p wanted.n replies.Ok ∷ others
    → ¬ IsBlocked rules.policy (locks_held settled) settled.waits wanted
    × (outcome ≡ answered_then (with_lock settled wanted) wanted.p wanted.n replies.Ok made)
test_ready rules settled event wanted made outcome grants others h h2 h3 = grind (arith, common_steps, Ok≢waits)

-- a request that would wait, where it is tested behind these grants
test_kept : (rules : Rules) (S tested : State) (event : Event) (wanted : Wait) (made : List Note) (outcome : Outcome) (grants others : List Note)
    → rules.policy ≡ Queue → IsTested rules S wanted made tested → Passes S.waits made tested.waits
    → FlockTestComesTo rules tested false wanted made outcome → event.notes ≡ outcome.told ++ grants
    → event.notes ≡ Answer wanted.p wanted.n replies.Ok ∷ others → IsTurnKept rules S event wanted
test_kept rules S tested event wanted made outcome grants others queue is_tested passes test are told =
    let (ready, is) = test_ready rules tested event wanted made outcome grants others test are told in
    tested_kept rules S tested event wanted made grants queue is_tested passes (are ∙ ap (λ (o : Outcome). o.told ++ grants) is) ready

-- a lock command that would wait
command_kept : (rules : Rules) (S : State) (event : Event) (cmd : LkCmd) (wanted : Wait) (outcome : Outcome) (grants others : List Note)
    → rules.policy ≡ Queue → IsTrue (may_wait cmd) → IsTested rules S wanted [] S → CommandComesTo rules S cmd wanted outcome
    → event.notes ≡ outcome.told ++ grants → event.notes ≡ Answer wanted.p wanted.n replies.Ok ∷ others → IsTurnKept rules S event wanted
command_kept rules S event GetLk wanted outcome grants others queue may tested is are told = cc
command_kept rules S event OGetLk wanted outcome grants others queue may tested is are told = cc
command_kept rules S event SetLk wanted outcome grants others queue may tested is are told = cc
command_kept rules S event OSetLk wanted outcome grants others queue may tested is are told = cc
command_kept rules S event SetLkW wanted outcome grants others queue may tested (inl blocked) are told =
    grind (arith, common_steps, Ok≢refused, Ok≢waits, cases_fact)
command_kept rules S event SetLkW wanted outcome grants others queue may tested (inr free) are told =
    tested_kept rules S S event wanted [] others queue tested refl told free.0
command_kept rules S event OSetLkW wanted outcome grants others queue may tested is are told =
    test_kept rules S S event wanted [] outcome grants others queue tested refl is are told

lock_kept : (rules : Rules) (S : State) (event : Event) (p n fd : ℕ) (cmd : LkCmd) (lock : Lock) (wanted : Wait) (outcome : Outcome)
    (grants others : List Note) → rules.policy ≡ Queue → IsTrue (may_wait cmd) → AsksForBytes S p n fd cmd lock wanted
    → LockComesTo rules S p n fd cmd lock outcome → event.notes ≡ outcome.told ++ grants → event.notes ≡ Answer p n replies.Ok ∷ others
    → IsTurnKept rules S event wanted
lock_kept rules S event p n fd cmd lock wanted outcome grants others queue may asks is are told =
    grind (arith, common_steps, Ok≢refused, command_kept, cases_bool)

same_mode : (m k : Mode) → IsTrue (is_same_mode m k) → m ≡ k
same_mode m k h = grind (arith, common_steps)

known_bool : {Yes No : Type 0} (b : Bool) → MatchBool b Yes No → ((b ≡ true) × Yes) ⊎ No
known_bool true h = inl (refl, h)
known_bool false h = inr h

module _ (rules : Rules) (S : State) (event : Event) (p n : ℕ) (outcome : Outcome) (grants others : List Note) (queue : rules.policy ≡ Queue)
    (are : event.notes ≡ outcome.told ++ grants) (told : event.notes ≡ Answer p n replies.Ok ∷ others) where
  flock_mode_kept : (look : Look) (mode : Mode) → ¬ HasFlock S (wanted_flock p n look mode) mode
      → FlockModeComesTo rules S look false (wanted_flock p n look mode) (flock_mode_in S.flock_changes look.file look.desc) outcome
      → IsTurnKept rules S event (wanted_flock p n look mode)
  flock_mode_kept look mode sets is =
      let wanted : Wait = wanted_flock p n look mode in
      elim (known_mode (flock_mode_in S.flock_changes look.file look.desc)) [
        | inl nothing ↦
            let test : FlockTestComesTo rules S false wanted [] outcome =
            subst (λ o. FlockModeComesTo rules S look false wanted o outcome) nothing is in
            let tested : IsTested rules S wanted [] S = rw nothing (refl, refl) in
            test_kept rules S S event wanted [] outcome grants others queue tested refl test are told
        | inr some ↦
            let held : Mode = some.0 in
            let has : HasFlock S wanted held = (refl, look.desc, refl, some.1) in
            let converts = subst (λ o. FlockModeComesTo rules S look false wanted o outcome) some.1 is in
            ⊎_elim
            (λ already. absurd (sets (subst (HasFlock S wanted) (same_mode held mode already.0) has)))
            (λ converted.
            let tested : IsTested rules S wanted converted.0 converted.1 = rw some.1 converted.2 in
            let passes = Settles-passes rules.policy (with_flock_mode S look.file look.desc None) converted.0 converted.1 queue converted.2 in
            test_kept rules S converted.1 event wanted converted.0 outcome grants others queue tested passes converted.3 are told)
            (known_bool (is_same_mode held mode) converts)
      ]
    where
      known_mode : (o : Option Mode) → (o ≡ None) ⊎ ((m : Mode) × (o ≡ Some m))
      known_mode None = inl refl
      known_mode (Some m) = inr (m, refl)

  flock_op_kept : (look : Look) (op : FlockOp) (mode : Mode) → Some mode ≡ flock_wanted_mode op → ¬ HasFlock S (wanted_flock p n look mode) mode
      → FlockOpComesTo rules S p n look op false outcome → IsTurnKept rules S event (wanted_flock p n look mode)
  flock_op_kept look Un mode of_op sets is = cc
  flock_op_kept look Sh mode of_op sets is =
      let e : mode ≡ Read = cc in flock_mode_kept look mode sets (rw e is)
  flock_op_kept look Ex mode of_op sets is =
      let e : mode ≡ Write = cc in flock_mode_kept look mode sets (rw e is)

  flock_kept : (fd : ℕ) (op : FlockOp) (nb : Bool) (wanted : Wait) → IsFalse nb → AsksForWhole S p n fd op wanted
      → ¬ HasFlock S wanted wanted.mode → FlockComesTo rules S p n fd op nb outcome → IsTurnKept rules S event wanted
  flock_kept fd op nb wanted waits asks sets is =
      let look = asks.look in
      let waiting : FlockComesTo rules S p n fd op false outcome = subst (λ b. FlockComesTo rules S p n fd op b outcome) waits is in
      let opened : FlockOpComesTo rules S p n look op false outcome =
      subst (λ o. MatchOption o (outcome ≡ refused S p n EBADF) (λ look. FlockOpComesTo rules S p n look op false outcome)) asks.of_open waiting in
      subst (IsTurnKept rules S event) (sym asks.is)
      (flock_op_kept look op asks.mode (sym asks.of_op) (subst (λ (x : Wait). ¬ HasFlock S x x.mode) asks.is sets) opened)

  -- whatever the request
  request_kept : (processes : ℕ) (request : Request) (wanted : Wait) → WouldWaitAs S p n request wanted → ¬ HasFlock S wanted wanted.mode
      → ComesTo rules processes S p n request outcome → IsTurnKept rules S event wanted
  request_kept processes (Lk fd cmd lock) wanted asks sets is =
      lock_kept rules S event p n fd cmd lock wanted outcome grants others queue asks.0 asks.1 is are told
  request_kept processes (Flock fd op nb) wanted asks sets is = flock_kept fd op nb wanted asks.0 asks.1 sets is
  request_kept processes (OpenFile file access) wanted asks sets is = absurd asks
  request_kept processes (Dup fd) wanted asks sets is = absurd asks
  request_kept processes (DupTo fd to) wanted asks sets is = absurd asks
  request_kept processes (CloseFd fd) wanted asks sets is = absurd asks
  request_kept processes (Seek fd offset) wanted asks sets is = absurd asks
  request_kept processes (Resize fd size) wanted asks sets is = absurd asks
  request_kept processes (Fork child) wanted asks sets is = absurd asks
  request_kept processes Exit wanted asks sets is = absurd asks
  request_kept processes (Signal target) wanted asks sets is = absurd asks
  request_kept processes (Kill target) wanted asks sets is = absurd asks
  request_kept processes (Enter section visit) wanted asks sets is = absurd asks
  request_kept processes (Leave section) wanted asks sets is = absurd asks
  request_kept processes Bail wanted asks sets is = absurd asks

-- the step of the event, from the state before it
event_kept : StepHasOneOutcome → (rules : Rules) (processes : ℕ) (before : List Event) (event : Event) (after : List Event) (S T : State)
    (wanted : Wait) → rules.policy ≡ Queue → IsRun rules processes (before ++ event ∷ after) T
    → Leads rules processes opening_state before S → WouldWaitAs S event.p event.n event.request wanted → SetsAtOnce S event wanted
    → IsTurnKept rules S event wanted
event_kept one rules processes before event after S T wanted queue run leads asks sets =
    let (U, led, rest) = Leads-split rules processes opening_state before (event ∷ after) T run.leads in
    let same : U ≡ S = Leads-unique one rules processes opening_state before U S led leads in
    let step : IsStep rules processes S event rest.0 = subst (λ X. IsStep rules processes X event rest.0) same rest.1 in
    request_kept rules S event event.p event.n step.outcome step.grants sets.others queue step.are_notes sets.told processes event.request wanted
    asks sets.sets step.comes_to

-- who was told to wait, and isn't over, stands in the list; where it leaves the list before the test it was granted
none_told_passed : StepHasOneOutcome → (rules : Rules) (processes : ℕ) (before : List Event) (event : Event) (after : List Event) (S T : State)
    (wanted : Wait) → rules.policy ≡ Queue → 1 ≤ processes → IsRun rules processes (before ++ event ∷ after) T
    → Leads rules processes opening_state before S → (kept : IsTurnKept rules S event wanted)
    → PassesNoneTold rules processes before kept.grants wanted
none_told_passed one rules processes before event after S T wanted queue some run leads kept early first between v place waits conflict =
    let front : List Event = early ++ first ∷ between in
    let waited =
    has_waited one rules processes early first between (event ∷ after) T v queue some
    (subst (λ l. IsRun rules processes (l ++ event ∷ after) T) place run) waits in
    let same : waited.reached.state ≡ S =
    Leads-unique one rules processes opening_state front waited.reached.state S waited.reached.led
    (subst (λ l. Leads rules processes opening_state l S) place leads) in
    ⊎_elim (λ over. over_told before kept.grants v (subst (λ l. IsOver l (notes_told l) v) (sym place) over))
    (λ stands.
    ⊎_elim (λ granted. inl (replies.Ok, Contains-append_right (notes_told before) kept.grants (Answer v.p v.n replies.Ok) granted))
    (λ apart. absurd (apart conflict))
    (StandsIn-each Anything Anything v (λ x. Contains kept.grants (Answer x.p x.n replies.Ok) ⊎ (¬ WaitsConflict x wanted)) S.waits
    (Passes-each (λ x. ¬ WaitsConflict x wanted) S.waits kept.grants kept.tested.waits kept.passes kept.none)
    (subst (λ (X : State). StandsIn Anything Anything v X.waits) same stands)))
    waited.first
  where
    over_told : (events : List Event) (more : List Note) (v : Wait) → IsOver events (notes_told events) v → IsOver events (notes_told events ++ more) v
    over_told events more v (inl told) = inl (told.0, Contains-append_left (notes_told events) more (Answer v.p v.n told.0) told.1)
    over_told events more v (inr ended) = inr ended

pub joins_the_queue : StepHasOneOutcome → RequestsJoinTheQueue
joins_the_queue one rules processes before event after S T wanted queue some run leads asks sets =
    let kept = event_kept one rules processes before event after S T wanted queue run leads asks sets in
    let (same_p, same_n) = WouldWaitAs-of S event.p event.n event.request wanted asks in
    record {
      grants = kept.grants;
      tested = kept.tested;
      is_tested = kept.is_tested;
      others = kept.others;
      told = kept.told ∙ (λ i. Answer (same_p i) (same_n i) replies.Ok ∷ (kept.grants ++ kept.others));
      none_listed = All-from_recursion (λ v. ¬ WaitsConflict v wanted) kept.tested.waits kept.none;
      none_told = none_told_passed one rules processes before event after S T wanted queue some run leads kept;
    }

-- a note that a request waits is none of the grants behind it
own_waits : (p n : ℕ) (S : State) (event : Event) (left : List Wait) → (h : Joins S event.p event.n event.request event.notes left)
    → Contains event.notes (Waits p n) → (event.p ≡ p) × (event.n ≡ n)
own_waits p n S event left h among =
    let Own : Note → Type 0 = λ note. note ≡ Waits p n → (event.p ≡ p) × (event.n ≡ n) in
    let none : (waits : List Wait) (grants : List Note) (rest : List Wait) → Passes waits grants rest → Each Own grants =
    λ waits grants rest passes.
    Each-map (λ note. note ≢ Waits p n) Own grants (λ note differs e. absurd (differs e)) (Passes-answers p n waits grants rest passes) in
    let all : Each Own (Waits event.p event.n ∷ (h.inner ++ h.outer)) = (
      (λ e. (cc, cc)),
      Each-append Own h.inner h.outer (none S.waits h.inner h.middle h.first) (none (h.middle ++ h.wait ∷ []) h.outer left h.second),
    ) in
    All-contains Own event.notes (Waits p n) (All-from_recursion Own event.notes (subst (Each Own) (sym h.are) all)) among refl

pub notes_of_waits : NotesAreOfWaits
notes_of_waits rules processes before event after T p n queue run among =
    let (S, led, rest) = Leads-split rules processes opening_state before (event ∷ after) T run.leads in
    let moves = Step-moves rules processes S event.p event.n event.request event.notes rest.0 queue rest.1 in
    let h = Waits-join S event.p event.n event.request event.notes rest.0.waits p n moves among in
    let own = own_waits p n S event rest.0.waits h among in
    let told : Contains event.notes (Waits event.p event.n) =
    subst (λ l. Contains l (Waits event.p event.n)) (sym h.are)
    (Contains-here (Waits event.p event.n) (Waits event.p event.n) (h.inner ++ h.outer) refl) in
    (own.0, own.1, h.wait, record { state = S; leads = led; asks = h.asks; told = told })
