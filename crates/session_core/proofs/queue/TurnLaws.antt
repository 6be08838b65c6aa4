-- Under the queue policy waits that conflict are granted in turn.
use Rattle.session_core.proofs.Common.{common_steps, ℕ, ◌≡◌, ◌≢◌, ◌+◌, ◌≤◌, ◌⊎◌, inl, inr, refl, sym, ◌∙◌, ap, subst, arith, eq-eqb, ne_eqb, length, List, [], ◌∷◌, ◌++◌, ⊎_elim, Option, Some, Result, Ok, Contains, cases_eq, All-contains, All-from_recursion, Contains-append_left, Contains-append_right, IfSome_then}
use Rattle.session_core.proofs.Common.{Queue, Wait, WaitsConflict, Rules, Lock, LkCmd, FlockOp, Request, Note, Answer, Waits, Reply, ProcState, State, opening_state, StepHasOneOutcome, Event, IsStep, Leads, IsRun, events_of, EndsProcess, WouldWaitAs, IsOver}
use Rattle.std.proofs.Common.{append_assoc}
use Rattle.std.specs.Prelude.{slice_get}
use Rattle.std.specs.List.{AllByRecursion as Each}
use Rattle.std.proofs.lemmas.List.Concat.{flat_map-append}
use Rattle.std.proofs.lemmas.List.Elements.{Contains-append_cases}
use Rattle.lock_manager.specs.declared.request.Reply.TheVariants as replies
use Rattle.lock_manager.specs.Asking.{AsksForBytes, AsksForWhole}
use Rattle.session_core.specs.QueuePolicy.{WaitsAs, notes_told, GrantsAreInTurn}
use Rattle.session_core.proofs.tallies.Tally.{numbers_in, AreCountedFrom, Tallies, Tells, one_more, one_more-same, Each-map}
use Rattle.session_core.proofs.tallies.Moves.{live_apart}
use Rattle.session_core.proofs.tallies.StepLaws.{Step-tells}
use Rattle.session_core.proofs.LeadsLemmas.{Leads-unique}
use Rattle.session_core.proofs.runs.RunLaws.{AreNext, AreNext-numbered, opening_tallies}
use Rattle.session_core.proofs.runs.HeadlineLaws.{none, at_most_taken}
use Rattle.session_core.proofs.queue.AnyLemmas.{Any-append_left, Any-append_right}
use Rattle.session_core.proofs.queue.WaitPlaces.{Anything, StandsIn, StandsIn-each, StandsIn-among, StandsIn-weaker}
use Rattle.session_core.proofs.queue.WaitMoves.{Step-moves}
use Rattle.session_core.proofs.queue.TurnLemmas.{NotOf, OnlyAs, split_append, Contains-middle, Waits-join, Joins-stands, Move-stands, Joins-turn, Move-turn}

-- what is over stays so
IsOver-more : (events later : List Event) (notes more : List Note) (v : Wait) → IsOver events notes v → IsOver (events ++ later) (notes ++ more) v
IsOver-more events later notes more v (inl told) = inl (told.0, Contains-append_left notes more (Answer v.p v.n told.0) told.1)
IsOver-more events later notes more v (inr ended) = inr (Any-append_left (λ e. EndsProcess e v.p) events later ended)

IsOver-later : (before events : List Event) (notes more : List Note) (v : Wait) → IsOver events more v → IsOver (before ++ events) (notes ++ more) v
IsOver-later before events notes more v (inl told) = inl (told.0, Contains-append_right notes more (Answer v.p v.n told.0) told.1)
IsOver-later before events notes more v (inr ended) = inr (Any-append_right (λ e. EndsProcess e v.p) before events ended)

-- a request asks for one lock
Some-one : {X : Type 0} {o : Option X} {x y : X} → o ≡ Some x → o ≡ Some y → x ≡ y
Some-one e k = cc

Ok-one : {X E : Type 0} {r : Result X E} {x y : X} → r ≡ Ok x → r ≡ Ok y → x ≡ y
Ok-one e k = cc

asks_one_bytes : (S : State) (p n fd : ℕ) (cmd : LkCmd) (lock : Lock) (v w : Wait) → AsksForBytes S p n fd cmd lock v
    → AsksForBytes S p n fd cmd lock w → v ≡ w
asks_one_bytes S p n fd cmd lock v w h k = grind (arith, common_steps, Some-one, Ok-one)

asks_one_whole : (S : State) (p n fd : ℕ) (op : FlockOp) (v w : Wait) → AsksForWhole S p n fd op v → AsksForWhole S p n fd op w → v ≡ w
asks_one_whole S p n fd op v w h k = grind (arith, common_steps, Some-one)

pub WouldWaitAs-one : (S : State) (p n : ℕ) (request : Request) (v w : Wait) → WouldWaitAs S p n request v → WouldWaitAs S p n request w → v ≡ w
WouldWaitAs-one S p n request v w h h2 = grind (arith, common_steps, asks_one_bytes, asks_one_whole)

-- and it is the request of that process, with that number
pub WouldWaitAs-of : (S : State) (p n : ℕ) (request : Request) (v : Wait) → WouldWaitAs S p n request v → (v.p ≡ p) × (v.n ≡ n)
WouldWaitAs-of S p n request v h = grind (arith, common_steps)

-- each number that is answered to a process among these notes is one of those that were counted
counted_below : (q m : ℕ) (reply : Reply) (last : ℕ) (notes : List Note) → AreCountedFrom last (numbers_in q notes)
    → Each (λ note. note ≡ Answer q m reply → m ≤ last + length (numbers_in q notes)) notes
counted_below q m reply last [] h = tt
counted_below q m reply last (Waits p k ∷ notes) h = ((λ e. cc), counted_below q m reply last notes h)
counted_below q m reply last (Answer p k other ∷ notes) h =
    grind (arith, common_steps, counted_below q m reply last notes, counted_below q m reply (last + 1) notes, Each-map, cases_eq)

-- no step answers a number that wasn't taken
answered_below : (processes : ℕ) (states : ℕ → ProcState) (counts : ℕ → ℕ) (notes : List Note) (T : State) (taken : ℕ → ℕ)
    → Tells processes states counts notes T taken → (q m : ℕ) (reply : Reply) → Contains notes (Answer q m reply) → m ≤ taken q
answered_below processes states counts notes T taken told q m reply among =
    let below : m ≤ counts q + length (numbers_in q notes) =
    All-contains (λ note. note ≡ Answer q m reply → m ≤ counts q + length (numbers_in q notes)) notes (Answer q m reply)
    (All-from_recursion (λ note. note ≡ Answer q m reply → m ≤ counts q + length (numbers_in q notes)) notes
    (counted_below q m reply (counts q) notes (told.counted q))) among refl in
    let most = at_most_taken (T.states q) (taken q) (counts q + length (numbers_in q notes)) (told.tallies.tally q) in
    omega arith

taken_more : (p : ℕ) (taken : ℕ → ℕ) (q n : ℕ) → n ≤ taken q → n ≤ one_more p taken q
taken_more p taken q n past =
    ⊎_elim (λ same. rw (eq-eqb p q same) (omega arith)) (λ other. rw (ne_eqb p q other) past) (cases_eq p q)

-- a state in the middle of a run, with what was taken and answered before it
pub record IsReached (rules : Rules) (processes : ℕ) (S : State) (taken_before : ℕ → ℕ) (before later : List Event) (T : State) : Type 0 where
  pub state : State
  pub taken : ℕ → ℕ
  pub counts : ℕ → ℕ
  pub tallies : Tallies processes state taken counts
  pub next : AreNext taken later
  pub led : Leads rules processes S before state
  pub leads : Leads rules processes state later T
  pub more : (q n : ℕ) → n ≤ taken_before q → n ≤ taken q
  pub answered : (q m : ℕ) (reply : Reply) → Contains (notes_told before) (Answer q m reply) → m ≤ taken q

Leads-reach : (rules : Rules) (processes : ℕ) (S : State) (before later : List Event) (T : State) (taken counts : ℕ → ℕ)
    → Tallies processes S taken counts → AreNext taken (before ++ later) → Leads rules processes S (before ++ later) T
    → IsReached rules processes S taken before later T
Leads-reach rules processes S [] later T taken counts t next leads =
    record {
      state = S;
      taken = taken;
      counts = counts;
      tallies = t;
      next = next;
      led = refl;
      leads = leads;
      more = λ q n past. past;
      answered = λ q m reply among. absurd (omega (arith, among.1));
    }
Leads-reach rules processes S (event ∷ before) later T taken counts t next leads =
    let told = Step-tells rules processes S taken counts event.p event.n event.request event.notes leads.0 t next.0 leads.1 in
    let counts' : ℕ → ℕ = λ q. counts q + length (numbers_in q event.notes) in
    let rest = Leads-reach rules processes leads.0 before later T (one_more event.p taken) counts' told.tallies next.1 leads.2 in
    record {
      state = rest.state;
      taken = rest.taken;
      counts = rest.counts;
      tallies = rest.tallies;
      next = rest.next;
      led = (leads.0, leads.1, rest.led);
      leads = rest.leads;
      more = λ q n past. rest.more q n (taken_more event.p taken q n past);
      answered = λ q m reply among.
          ⊎_elim
          (λ here.
          rest.more q m (answered_below processes S.states counts event.notes leads.0 (one_more event.p taken) told q m reply here))
          (λ there. rest.answered q m reply there)
          (Contains-append_cases event.notes (notes_told before) (Answer q m reply) among);
    }

AreNext-front : (taken : ℕ → ℕ) (xs ys : List Event) → AreNext taken (xs ++ ys) → AreNext taken xs
AreNext-front taken [] ys h = tt
AreNext-front taken (x ∷ xs) ys h = (h.0, AreNext-front (one_more x.p taken) xs ys h.1)

-- a wait in the list is over by some of these events, or stays
pub Leads-stands : (rules : Rules) (processes : ℕ) (S : State) (events : List Event) (T : State) (taken counts : ℕ → ℕ) (v : Wait)
    → rules.policy ≡ Queue → Tallies processes S taken counts → AreNext taken events → Leads rules processes S events T
    → StandsIn Anything Anything v S.waits → IsOver events (notes_told events) v ⊎ StandsIn Anything Anything v T.waits
Leads-stands rules processes S [] T taken counts v queue t next leads stands =
    inr (subst (λ (X : State). StandsIn Anything Anything v X.waits) (sym leads) stands)
Leads-stands rules processes S (event ∷ events) T taken counts v queue t next leads stands =
    let told = Step-tells rules processes S taken counts event.p event.n event.request event.notes leads.0 t next.0 leads.1 in
    let counts' : ℕ → ℕ = λ q. counts q + length (numbers_in q event.notes) in
    let moves = Step-moves rules processes S event.p event.n event.request event.notes leads.0 queue leads.1 in
    ⊎_elim (λ over. inl (IsOver-more (event ∷ []) events event.notes (notes_told events) v over))
    (λ stays.
    ⊎_elim (λ over. inl (IsOver-later (event ∷ []) events event.notes (notes_told events) v over)) (λ still. inr still)
    (Leads-stands rules processes leads.0 events T (one_more event.p taken) counts' v queue told.tallies next.1 leads.2 stays))
    (Move-stands Anything Anything v S taken event leads.0.waits t.waits (λ x asks. tt) moves stands)

-- once w's request was taken, no later one is it
later_than : (S : State) (taken : ℕ → ℕ) (event : Event) (w x : Wait) → event.n ≡ taken event.p + 1 → w.n ≤ taken w.p
    → WouldWaitAs S event.p event.n event.request x → OnlyAs w x
later_than S taken event w x number past asks same = grind (arith, common_steps, WouldWaitAs-of)

not_own : (taken : ℕ → ℕ) (event : Event) (w : Wait) → event.n ≡ taken event.p + 1 → w.n ≤ taken w.p
    → ¬ ((event.p ≡ w.p) × (event.n ≡ w.n))
not_own taken event w number past same =
    let n : taken w.p + 1 ≡ w.n = ap (λ q. taken q + 1) (sym same.0) ∙ sym number ∙ same.1 in omega arith

-- after w joined, it is granted only after v is over
Leads-turn : (rules : Rules) (processes : ℕ) (S : State) (before : List Event) (event : Event) (after : List Event) (T : State)
    (taken counts : ℕ → ℕ) (v w : Wait) (told others : List Note) → rules.policy ≡ Queue → NotOf w v → WaitsConflict v w
    → Tallies processes S taken counts → AreNext taken (before ++ event ∷ after) → Leads rules processes S (before ++ event ∷ after) T
    → w.n ≤ taken w.p → StandsIn (NotOf w) (OnlyAs w) v S.waits → event.notes ≡ told ++ Answer w.p w.n replies.Ok ∷ others
    → IsOver (before ++ event ∷ []) (notes_told before ++ told) v
Leads-turn rules processes S [] event after T taken counts v w told others queue differ conflict t next leads past stands is =
    Move-turn v w S taken event leads.0.waits told others t.waits (λ x asks. later_than S taken event w x next.0 past asks) differ conflict
    (not_own taken event w next.0 past)
    (Step-moves rules processes S event.p event.n event.request event.notes leads.0 queue leads.1) stands is
Leads-turn rules processes S (e ∷ before) event after T taken counts v w told others queue differ conflict t next leads past stands is =
    let tells = Step-tells rules processes S taken counts e.p e.n e.request e.notes leads.0 t next.0 leads.1 in
    let counts' : ℕ → ℕ = λ q. counts q + length (numbers_in q e.notes) in
    let moves = Step-moves rules processes S e.p e.n e.request e.notes leads.0 queue leads.1 in
    let assoc : e.notes ++ (notes_told before ++ told) ≡ notes_told (e ∷ before) ++ told = sym (append_assoc e.notes (notes_told before) told) in
    subst (λ notes. IsOver (e ∷ (before ++ event ∷ [])) notes v) assoc
    (⊎_elim (λ over. IsOver-more (e ∷ []) (before ++ event ∷ []) e.notes (notes_told before ++ told) v over)
    (λ stays.
    IsOver-later (e ∷ []) (before ++ event ∷ []) e.notes (notes_told before ++ told) v
    (Leads-turn rules processes leads.0 before event after T (one_more e.p taken) counts' v w told others queue differ conflict tells.tallies
    next.1 leads.2 (taken_more e.p taken w.p w.n past) stays is))
    (Move-stands (NotOf w) (OnlyAs w) v S taken e leads.0.waits t.waits (λ x asks. later_than S taken e w x next.0 past asks) moves stands))

-- before w joins: its process is live, so no wait in the list is of its request, and v stands before where it will stand
record IsBehind (S : State) (event : Event) (v w : Wait) : Type 0 where
  differ : NotOf w v
  stands : StandsIn (NotOf w) (OnlyAs w) v S.waits
  joined : (x : Wait) → WouldWaitAs S event.p event.n event.request x → OnlyAs w x

will_stand : (rules : Rules) (processes : ℕ) (S : State) (event : Event) (T : State) (taken counts : ℕ → ℕ) (v w : Wait)
    → Tallies processes S taken counts → IsStep rules processes S event T → WouldWaitAs S event.p event.n event.request w
    → StandsIn Anything Anything v S.waits → IsBehind S event v w
will_stand rules processes S event T taken counts v w t step asks stands =
    let of_event = WouldWaitAs-of S event.p event.n event.request w asks in
    let Other : Wait → Type 0 = λ x. x.p ≢ w.p in
    let apart : Each Other S.waits =
    subst (λ p. Each (λ (x : Wait). x.p ≢ p) S.waits) (sym of_event.0) (live_apart S.states taken event.p S.waits step.live t.waits) in
    record {
      differ = λ same. StandsIn-each Anything Anything v Other S.waits apart stands same.0;
      stands =
          StandsIn-weaker Other Other (NotOf w) (OnlyAs w) v (λ x other same. other same.0) (λ x other same. absurd (other same.0)) S.waits
          (StandsIn-among Anything Anything v Other S.waits apart stands);
      joined = λ x asked same. WouldWaitAs-one S event.p event.n event.request x w asked asks;
    }

-- from the event on by which w joins, it is granted only after v is over
turn_from : (rules : Rules) (processes : ℕ) (S : State) (second : Event) (after : List Event) (T : State) (taken counts : ℕ → ℕ) (v w : Wait)
    (before : List Event) (event : Event) (later : List Event) (told others : List Note) → rules.policy ≡ Queue → WaitsConflict v w
    → Tallies processes S taken counts → AreNext taken (second ∷ after) → Leads rules processes S (second ∷ after) T
    → WouldWaitAs S second.p second.n second.request w → Contains second.notes (Waits second.p second.n)
    → StandsIn Anything Anything v S.waits → second ∷ after ≡ before ++ event ∷ later
    → event.notes ≡ told ++ Answer w.p w.n replies.Ok ∷ others → IsOver (before ++ event ∷ []) (notes_told before ++ told) v
turn_from rules processes S second after T taken counts v w [] event later told others queue conflict t next leads asks waits stands place is =
    let same : second ≡ event = cc in
    let k = will_stand rules processes S second leads.0 taken counts v w t leads.1 asks stands in
    let moves = Step-moves rules processes S second.p second.n second.request second.notes leads.0 queue leads.1 in
    subst (λ e. IsOver (e ∷ []) told v) same
    (Joins-turn v w S second leads.0.waits told others k.joined k.differ conflict
    (Waits-join S second.p second.n second.request second.notes leads.0.waits second.p second.n moves waits) k.stands
    (ap (λ (e : Event). e.notes) same ∙ is))
turn_from rules processes S second after T taken counts v w (e ∷ before) event later told others queue conflict t next leads asks waits stands place is =
    let same : second ≡ e = cc in
    let rest : after ≡ before ++ event ∷ later = cc in
    let of_event = WouldWaitAs-of S second.p second.n second.request w asks in
    let k = will_stand rules processes S second leads.0 taken counts v w t leads.1 asks stands in
    let tells = Step-tells rules processes S taken counts second.p second.n second.request second.notes leads.0 t next.0 leads.1 in
    let counts' : ℕ → ℕ = λ q. counts q + length (numbers_in q second.notes) in
    let moves = Step-moves rules processes S second.p second.n second.request second.notes leads.0 queue leads.1 in
    let past : w.n ≤ one_more second.p taken w.p =
    rw of_event.0 (rw (one_more-same second.p taken) (let number = of_event.1 ∙ next.0 in omega arith)) in
    let notes = second.notes in
    let assoc : notes ++ (notes_told before ++ told) ≡ notes_told (second ∷ before) ++ told = sym (append_assoc notes (notes_told before) told) in
    subst (λ first. IsOver (first ∷ (before ++ event ∷ [])) (notes_told (first ∷ before) ++ told) v) same
    (subst (λ l. IsOver (second ∷ (before ++ event ∷ [])) l v) assoc
    (⊎_elim (λ over. IsOver-more (second ∷ []) (before ++ event ∷ []) notes (notes_told before ++ told) v over)
    (λ stays.
    IsOver-later (second ∷ []) (before ++ event ∷ []) notes (notes_told before ++ told) v
    (Leads-turn rules processes leads.0 before event later T (one_more second.p taken) counts' v w told others queue k.differ conflict
    tells.tallies (subst (AreNext (one_more second.p taken)) rest next.1) (subst (λ l. Leads rules processes leads.0 l T) rest leads.2) past
    stays is))
    (Move-stands (NotOf w) (OnlyAs w) v S taken second leads.0.waits t.waits k.joined moves k.stands)))

-- from the event on by which v joins, it is over by some of these events, or stands in the list
stands_from : (rules : Rules) (processes : ℕ) (S : State) (first : Event) (between : List Event) (T : State) (taken counts : ℕ → ℕ) (v : Wait)
    → rules.policy ≡ Queue → Tallies processes S taken counts → AreNext taken (first ∷ between)
    → Leads rules processes S (first ∷ between) T → WouldWaitAs S first.p first.n first.request v
    → Contains first.notes (Waits first.p first.n)
    → IsOver (first ∷ between) (notes_told (first ∷ between)) v ⊎ StandsIn Anything Anything v T.waits
stands_from rules processes S first between T taken counts v queue t next leads asks waits =
    let told = Step-tells rules processes S taken counts first.p first.n first.request first.notes leads.0 t next.0 leads.1 in
    let counts' : ℕ → ℕ = λ q. counts q + length (numbers_in q first.notes) in
    let moves = Step-moves rules processes S first.p first.n first.request first.notes leads.0 queue leads.1 in
    let join = Waits-join S first.p first.n first.request first.notes leads.0.waits first.p first.n moves waits in
    ⊎_elim (λ over. inl (IsOver-more (first ∷ []) between first.notes (notes_told between) v over))
    (λ stays.
    ⊎_elim (λ over. inl (IsOver-later (first ∷ []) between first.notes (notes_told between) v over)) (λ still. inr still)
    (Leads-stands rules processes leads.0 between T (one_more first.p taken) counts' v queue told.tallies next.1 leads.2 stays))
    (Joins-stands S first leads.0.waits v join (WouldWaitAs-one S first.p first.n first.request join.wait v join.asks asks))

-- where v waited in a run, and more events came: it is over before these, or stands in the list
pub record HasWaited (rules : Rules) (processes : ℕ) (before later : List Event) (T : State) (v : Wait) : Type 0 where
  pub reached : IsReached rules processes opening_state none before later T
  pub first : IsOver before (notes_told before) v ⊎ StandsIn Anything Anything v reached.state.waits

pub has_waited : StepHasOneOutcome → (rules : Rules) (processes : ℕ) (before : List Event) (first : Event) (between later : List Event)
    (T : State) (v : Wait) → rules.policy ≡ Queue → 1 ≤ processes → IsRun rules processes (before ++ first ∷ between ++ later) T
    → WaitsAs rules processes before first v → HasWaited rules processes (before ++ first ∷ between) later T v
has_waited one rules processes before first between later T v queue some run waits =
    let front : List Event = before ++ first ∷ between in
    let next : AreNext none (front ++ later) =
    AreNext-numbered none (front ++ later)
    (λ q place. IfSome_then (slice_get (events_of q (front ++ later)) place) (run.numbered q place) (λ event e. omega arith)) in
    let opening = opening_tallies processes some in
    let reached = Leads-reach rules processes opening_state front later T none none opening next run.leads in
    let joined =
    Leads-reach rules processes opening_state before (first ∷ between) reached.state none none opening (AreNext-front none front later next)
    reached.led in
    let same : waits.state ≡ joined.state =
    Leads-unique one rules processes opening_state before waits.state joined.state waits.leads joined.led in
    let stood =
    stands_from rules processes joined.state first between reached.state joined.taken joined.counts v queue joined.tallies joined.next
    joined.leads (subst (λ S. WouldWaitAs S first.p first.n first.request v) same waits.asks) waits.told in
    record {
      reached = reached;
      first =
          ⊎_elim
          (λ over.
          inl
          (subst (λ l. IsOver front l v) (sym (flat_map-append (λ (e : Event). e.notes) before (first ∷ between)))
          (IsOver-later before (first ∷ between) (notes_told before) (notes_told (first ∷ between)) v over)))
          (λ stands. inr stands)
          stood;
    }

-- where the two wait in a run: v is over before w joins or stands in the list then
record AreWaiting (rules : Rules) (processes : ℕ) (before later : List Event) (second : Event) (T : State) (v w : Wait) : Type 0 where
  reached : IsReached rules processes opening_state none before (second ∷ later) T
  first : IsOver before (notes_told before) v ⊎ StandsIn Anything Anything v reached.state.waits
  asks : WouldWaitAs reached.state second.p second.n second.request w

are_waiting : StepHasOneOutcome → (rules : Rules) (processes : ℕ) (before later : List Event) (second : Event) (T : State) (v w : Wait)
    → HasWaited rules processes before (second ∷ later) T v → WaitsAs rules processes before second w
    → AreWaiting rules processes before later second T v w
are_waiting one rules processes before later second T v w waited waits =
    let same : waits.state ≡ waited.reached.state =
    Leads-unique one rules processes opening_state before waits.state waited.reached.state waits.leads waited.reached.led in
    record {
      reached = waited.reached;
      first = waited.first;
      asks = subst (λ S. WouldWaitAs S second.p second.n second.request w) same waits.asks;
    }

-- the grant comes from where w waits on
turn_behind : (rules : Rules) (processes : ℕ) (before later : List Event) (second : Event) (T : State) (v w : Wait) → rules.policy ≡ Queue
    → WaitsConflict v w → Contains second.notes (Waits second.p second.n) → AreWaiting rules processes before later second T v w
    → (until : List Event) (event : Event) (rest : List Event) (told others : List Note) → second ∷ later ≡ until ++ event ∷ rest
    → event.notes ≡ told ++ Answer w.p w.n replies.Ok ∷ others
    → IsOver (before ++ (until ++ event ∷ [])) (notes_told before ++ (notes_told until ++ told)) v
turn_behind rules processes before later second T v w queue conflict waits are until event rest told others place is =
    ⊎_elim (λ over. IsOver-more before (until ++ event ∷ []) (notes_told before) (notes_told until ++ told) v over)
    (λ stands.
    IsOver-later before (until ++ event ∷ []) (notes_told before) (notes_told until ++ told) v
    (turn_from rules processes are.reached.state second later T are.reached.taken are.reached.counts v w until event rest told others queue
    conflict are.reached.tallies are.reached.next are.reached.leads are.asks waits stands place is))
    are.first

-- before w's request was taken it isn't answered
no_turn_before : (rules : Rules) (processes : ℕ) (before later : List Event) (second : Event) (T : State) (v w : Wait)
    → AreWaiting rules processes before later second T v w → (until : List Event) (event : Event) (rest : List Event) (told others : List Note)
    → before ≡ until ++ event ∷ rest → event.notes ≡ told ++ Answer w.p w.n replies.Ok ∷ others → ⊥
no_turn_before rules processes before later second T v w are until event rest told others place is =
    let ok : Note = Answer w.p w.n replies.Ok in
    let here : Contains event.notes ok = subst (λ l. Contains l ok) (sym is) (Contains-middle told ok others) in
    let all : notes_told before ≡ notes_told until ++ (event.notes ++ notes_told rest) =
    ap notes_told place ∙ flat_map-append (λ (e : Event). e.notes) until (event ∷ rest) in
    let among : Contains (notes_told before) ok =
    subst (λ l. Contains l ok) (sym all)
    (Contains-append_right (notes_told until) (event.notes ++ notes_told rest) ok (Contains-append_left event.notes (notes_told rest) ok here)) in
    let low : w.n ≤ are.reached.taken w.p = are.reached.answered w.p w.n replies.Ok among in
    let of_event = WouldWaitAs-of are.reached.state second.p second.n second.request w are.asks in
    let number : w.n ≡ are.reached.taken w.p + 1 = of_event.1 ∙ are.reached.next.0 ∙ ap (λ q. are.reached.taken q + 1) (sym of_event.0) in
    omega arith

pub grants_in_turn : StepHasOneOutcome → GrantsAreInTurn
grants_in_turn one rules processes before first between second after T v w queue some run v_waits w_waits conflict grant =
    let front : List Event = before ++ first ∷ between in
    let waited = has_waited one rules processes before first between (second ∷ after) T v queue some run v_waits in
    let are = are_waiting one rules processes front after second T v w waited w_waits in
    ⊎_elim
    (λ within.
    absurd
    (no_turn_before rules processes front after second T v w are grant.before grant.event within.0 grant.told grant.others within.1 grant.notes))
    (λ behind.
    let until : List Event = behind.0 in
    let turn =
    turn_behind rules processes front after second T v w queue conflict w_waits.told are until grant.event grant.after grant.told grant.others
    behind.2 grant.notes in
    let events : front ++ (until ++ grant.event ∷ []) ≡ grant.before ++ grant.event ∷ [] =
    sym (append_assoc front until (grant.event ∷ [])) ∙ ap (λ l. l ++ grant.event ∷ []) (sym behind.1) in
    let notes : notes_told front ++ (notes_told until ++ grant.told) ≡ notes_told grant.before ++ grant.told =
    sym (append_assoc (notes_told front) (notes_told until) grant.told)
    ∙ ap (λ l. l ++ grant.told) (sym (ap notes_told behind.1 ∙ flat_map-append (λ (e : Event). e.notes) front until)) in
    subst (λ l. IsOver l (notes_told grant.before ++ grant.told) v) events
    (subst (λ l. IsOver (front ++ (until ++ grant.event ∷ [])) l v) notes turn))
    (split_append front (second ∷ after) grant.before grant.event grant.after grant.place)
