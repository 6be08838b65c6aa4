-- What becomes of a wait in the list, while others are granted.
use Rattle.session_core.proofs.Common.{common_steps, ℕ, suc, ◌≡◌, ◌≢◌, ◌⊎◌, inl, inr, refl, sym, ◌∙◌, ap, subst, arith, List, [], ◌∷◌, ◌++◌, ⊎_elim, Some, Contains, cases_eq, Contains-append_left, Contains-append_right, Wait, WaitsConflict, wait_of, without_wait_of, EINTR, Note, Answer, Waits, ProcState, Live, Request, State, Event, EndsProcess, WouldWaitAs, IsOver}
use Rattle.std.specs.List.{AllByRecursion as Each}
use Rattle.lock_manager.specs.declared.request.Reply.TheVariants as replies
use Rattle.session_core.proofs.tallies.Tally.{IsLastTaken, Each-append, None-contains, Contains-here}
use Rattle.session_core.proofs.tallies.Moves.{found_wait}
use Rattle.session_core.proofs.queue.AnyLemmas.{Any-here, Any-weaker}
use Rattle.session_core.proofs.queue.WaitPlaces.{Anything, Each-anything, StandsIn, StandsIn-push, StandsIn-last, StandsIn-middle, StandsIn-where, StandsIn-without, StandsIn-each, Passes}
use Rattle.session_core.proofs.queue.WaitMoves.{Joins, IsToldOf, Ends, WaitsMove, answers, joins, interrupts, ends, bails}

pub Contains-there : {X : Type 0} (x y : X) (xs : List X) → Contains xs y → Contains (x ∷ xs) y
Contains-there x y xs (k, within, is) = (suc k, omega (arith, within), is)

pub Contains-middle : {X : Type 0} (before : List X) (x : X) (after : List X) → Contains (before ++ x ∷ after) x
Contains-middle [] x after = Contains-here x x after refl
Contains-middle (y ∷ before) x after = Contains-there y x (before ++ x ∷ after) (Contains-middle before x after)

-- a list that begins with others goes on behind them
split_front : {X : Type 0} (y : X) (front xs told others : List X) → Each (λ x. x ≢ y) front → front ++ xs ≡ told ++ y ∷ others
    → (rest : List X) × (told ≡ front ++ rest) × (xs ≡ rest ++ y ∷ others)
split_front y [] xs told others differ is = (told, refl, is)
split_front y (x ∷ front) xs [] others differ is = absurd (differ.0 cc)
split_front y (x ∷ front) xs (t ∷ told) others differ is =
    let head : x ≡ t = cc in
    let tail : front ++ xs ≡ told ++ y ∷ others = cc in
    let (rest, first, later) = split_front y front xs told others differ.1 tail in (rest, (λ i. sym head i ∷ first i), later)

-- one of two lists that are one has it
pub split_append : {X : Type 0} (xs ys before : List X) (x : X) (after : List X) → xs ++ ys ≡ before ++ x ∷ after
    → ((rest : List X) × (xs ≡ before ++ x ∷ rest)) ⊎ ((rest : List X) × (before ≡ xs ++ rest) × (ys ≡ rest ++ x ∷ after))
split_append [] ys before x after is = inr (before, refl, is)
split_append (z ∷ xs) ys [] x after is = let head : z ≡ x = cc in inl (xs, ap (λ y. y ∷ xs) head)
split_append (z ∷ xs) ys (b ∷ before) x after is = grind (arith, common_steps, split_append xs ys before x after)

-- the two waits are of one request
abbrev pub SameRequest : Wait → Wait → Type 0
SameRequest x w = (x.p ≡ w.p) × (x.n ≡ w.n)

-- the wait isn't of the request of w
abbrev pub NotOf : Wait → Wait → Type 0
NotOf w x = ¬ SameRequest x w

-- of the request of w the wait is only as w
abbrev pub OnlyAs : Wait → Wait → Type 0
OnlyAs w x = SameRequest x w → x ≡ w

-- grants are no notes of waiting
pub Passes-answers : (q m : ℕ) (waits : List Wait) (notes : List Note) (left : List Wait) → Passes waits notes left
    → Each (λ note. note ≢ Waits q m) notes
Passes-answers q m waits [] left h = tt
Passes-answers q m waits (note ∷ notes) left h =
    ((λ e. let no : Answer h.1.p h.1.n replies.Ok ≡ Waits q m = sym h.5 ∙ e in cc), Passes-answers q m (h.0 ++ h.2) notes left h.6)

-- a wait in the list is granted, or stays
Passes-stands : (P Q : Wait → Type 0) (v : Wait) (waits : List Wait) (notes : List Note) (left : List Wait) → Passes waits notes left
    → StandsIn P Q v waits → Contains notes (Answer v.p v.n replies.Ok) ⊎ StandsIn P Q v left
Passes-stands P Q v waits [] left h stands = inr (subst (StandsIn P Q v) (sym h) stands)
Passes-stands P Q v waits (note ∷ notes) left h stands =
    ⊎_elim
    (λ same. inl (Contains-here note (Answer v.p v.n replies.Ok) notes (h.5 ∙ ap (λ (x : Wait). Answer x.p x.n replies.Ok) same)))
    (λ stays.
    ⊎_elim (λ granted. inl (Contains-there note (Answer v.p v.n replies.Ok) notes granted)) (λ still. inr still)
    (Passes-stands P Q v (h.0 ++ h.2) notes left h.6 stays))
    (StandsIn-middle P Q v h.0 h.1 h.2 (subst (StandsIn P Q v) h.3 stands))

-- a grant of w, which conflicts with v and stands behind it, comes only after one of v
Passes-turn : (v w : Wait) (waits : List Wait) (notes : List Note) (left : List Wait) (told others : List Note) → NotOf w v → WaitsConflict v w
    → Passes waits notes left → StandsIn (NotOf w) (OnlyAs w) v waits → notes ≡ told ++ Answer w.p w.n replies.Ok ∷ others
    → Contains told (Answer v.p v.n replies.Ok)
Passes-turn v w waits [] left [] others differ conflict h stands is = cc
Passes-turn v w waits [] left (t ∷ told) others differ conflict h stands is = cc
Passes-turn v w waits (note ∷ notes) left [] others differ conflict h stands is =
    let head : note ≡ Answer w.p w.n replies.Ok = cc in
    let same : Answer h.1.p h.1.n replies.Ok ≡ Answer w.p w.n replies.Ok = sym h.5 ∙ head in
    let of_w : SameRequest h.1 w = (cc, cc) in
    absurd
    (⊎_elim (λ itself. differ (subst (λ x. SameRequest x w) itself of_w))
    (λ rest.
    ⊎_elim (λ not_of. not_of of_w)
    (λ behind.
    let is_w : h.1 ≡ w = behind.0 of_w in
    h.4
    (Any-weaker (λ u. u ≡ v) (λ u. WaitsConflict u h.1)
    (λ u e. subst (λ x. WaitsConflict x h.1) (sym e) (subst (WaitsConflict v) (sym is_w) conflict)) h.0 behind.1))
    rest)
    (StandsIn-where (NotOf w) (OnlyAs w) v h.0 h.1 h.2 (subst (StandsIn (NotOf w) (OnlyAs w) v) h.3 stands)))
Passes-turn v w waits (note ∷ notes) left (t ∷ told) others differ conflict h stands is =
    let head : note ≡ t = cc in
    let tail : notes ≡ told ++ Answer w.p w.n replies.Ok ∷ others = cc in
    ⊎_elim
    (λ same. Contains-here t (Answer v.p v.n replies.Ok) told (sym head ∙ h.5 ∙ ap (λ (x : Wait). Answer x.p x.n replies.Ok) same))
    (λ stays.
    Contains-there t (Answer v.p v.n replies.Ok) told
    (Passes-turn v w (h.0 ++ h.2) notes left told others differ conflict h.6 stays tail))
    (StandsIn-middle (NotOf w) (OnlyAs w) v h.0 h.1 h.2 (subst (StandsIn (NotOf w) (OnlyAs w) v) h.3 stands))

-- a kill tells its caller that it was done, and nothing else
told_apart : (p n : ℕ) (request : Request) (target : ℕ) (told : List Note) (x : Note) → Answer p n replies.Ok ≢ x
    → IsToldOf p n request target told → Each (λ note. note ≢ x) told
told_apart p n request target told x differs (inl own) = subst (Each (λ note. note ≢ x)) (sym own.2) tt
told_apart p n request target told x differs (inr other) = subst (Each (λ note. note ≢ x)) (sym other.2) (differs, tt)

-- behind notes that are none of waiting no grant is one
no_waits : (q m : ℕ) (waits : List Wait) (front grants : List Note) (left : List Wait) (notes : List Note) → Each (λ note. note ≢ Waits q m) front
    → Passes waits grants left → notes ≡ front ++ grants → ¬ Contains notes (Waits q m)
no_waits q m waits front grants left notes apart passes are among =
    None-contains (front ++ grants) (Waits q m) (Each-append (λ note. note ≢ Waits q m) front grants apart (Passes-answers q m waits grants left passes))
    (subst (λ l. Contains l (Waits q m)) are among)

-- who is told to wait joins the list
pub Waits-join : (S : State) (p n : ℕ) (request : Request) (notes : List Note) (left : List Wait) (q m : ℕ)
    → WaitsMove S p n request notes left → Contains notes (Waits q m) → Joins S p n request notes left
Waits-join S p n request notes left q m (joins h) among = h
Waits-join S p n request notes left q m (answers h) among =
    absurd (no_waits q m S.waits (Answer p n h.reply ∷ []) h.grants left notes ((λ e. cc), tt) h.passes h.are among)
Waits-join S p n request notes left q m (interrupts h) among =
    absurd
    (no_waits q m (without_wait_of S.waits h.target) (Answer p n replies.Ok ∷ Answer h.target h.wait.n (replies.Err EINTR) ∷ []) h.grants left notes
    ((λ e. cc), ((λ e. cc), tt)) h.passes h.are among)
Waits-join S p n request notes left q m (bails h) among =
    absurd (no_waits q m (without_wait_of S.waits p) [] notes left notes tt h.passes refl among)
Waits-join S p n request notes left q m (ends h) among =
    let apart = told_apart p n request h.target h.told (Waits q m) (λ e. cc) h.how in
    absurd (no_waits q m (without_wait_of S.waits h.target) h.told h.grants left notes apart h.passes h.are among)

-- a live process has no wait in the list
live_apart : (S : State) (taken : ℕ → ℕ) (P Q : Wait → Type 0) (v : Wait) (waits : List Wait) (p : ℕ) → Each (IsLastTaken S.states taken) waits
    → StandsIn P Q v waits → S.states p ≡ Live → v.p ≢ p
live_apart S taken P Q v waits p lasts stands live same = grind (arith, common_steps, StandsIn-each)

-- the event that ends a process does so in the words of the headline
ends_process : (event : Event) (waits left : List Wait) → (h : Ends waits event.p event.n event.request event.notes left) → EndsProcess event h.target
ends_process event waits left h = grind (arith, common_steps, Contains-here)

-- the wait that is interrupted is the last that was taken of its process
interrupted : (states : ℕ → ProcState) (taken : ℕ → ℕ) (P Q : Wait → Type 0) (v : Wait) (waits : List Wait) (target : ℕ) (wait : Wait)
    → Each (IsLastTaken states taken) waits → StandsIn P Q v waits → wait_of waits target ≡ Some wait → v.p ≡ target
    → Answer target wait.n (replies.Err EINTR) ≡ Answer v.p v.n (replies.Err EINTR)
interrupted states taken P Q v waits target wait lasts stands found same = grind (arith, common_steps, found_wait, StandsIn-each)

-- by the grants behind these notes of an event a wait is over, or stays
Passes-over : (P Q : Wait → Type 0) (v : Wait) (event : Event) (waits : List Wait) (front grants : List Note) (left : List Wait)
    → event.notes ≡ front ++ grants → Passes waits grants left → StandsIn P Q v waits
    → IsOver (event ∷ []) event.notes v ⊎ StandsIn P Q v left
Passes-over P Q v event waits front grants left are passes stands =
    let mine : Note = Answer v.p v.n replies.Ok in
    ⊎_elim (λ granted. inl (inl (replies.Ok, subst (λ l. Contains l mine) (sym are) (Contains-append_right front grants mine granted))))
    (λ stays. inr stays) (Passes-stands P Q v waits grants left passes stands)

-- a wait in the list is over by an event, or stays
pub Move-stands : (P Q : Wait → Type 0) (v : Wait) (S : State) (taken : ℕ → ℕ) (event : Event) (left : List Wait)
    → Each (IsLastTaken S.states taken) S.waits → ((x : Wait) → WouldWaitAs S event.p event.n event.request x → Q x)
    → WaitsMove S event.p event.n event.request event.notes left → StandsIn P Q v S.waits
    → IsOver (event ∷ []) event.notes v ⊎ StandsIn P Q v left
Move-stands P Q v S taken event left lasts joined (answers h) stands =
    Passes-over P Q v event S.waits (Answer event.p event.n h.reply ∷ []) h.grants left h.are h.passes stands
Move-stands P Q v S taken event left lasts joined (joins h) stands =
    let mine : Note = Answer v.p v.n replies.Ok in
    let caller : Note = Waits event.p event.n in
    ⊎_elim
    (λ granted.
    let early = Contains-append_left (caller ∷ h.inner) h.outer mine (Contains-there caller mine h.inner granted) in
    inl (inl (replies.Ok, subst (λ l. Contains l mine) (sym h.are) early)))
    (λ stays.
    Passes-over P Q v event (h.middle ++ h.wait ∷ []) (caller ∷ h.inner) h.outer left h.are h.second
    (StandsIn-push P Q v h.middle h.wait (joined h.wait h.asks) stays))
    (Passes-stands P Q v S.waits h.inner h.middle h.first stands)
Move-stands P Q v S taken event left lasts joined (interrupts h) stands =
    let caller : Note = Answer event.p event.n replies.Ok in
    let eintr : Note = Answer h.target h.wait.n (replies.Err EINTR) in
    ⊎_elim
    (λ same.
    let mine : Note = Answer v.p v.n (replies.Err EINTR) in
    let note = interrupted S.states taken P Q v S.waits h.target h.wait lasts stands h.found same in
    let among = Contains-there caller mine (eintr ∷ h.grants) (Contains-here eintr mine h.grants note) in
    inl (inl (replies.Err EINTR, subst (λ l. Contains l mine) (sym h.are) among)))
    (λ differs.
    Passes-over P Q v event (without_wait_of S.waits h.target) (caller ∷ eintr ∷ []) h.grants left h.are h.passes
    (StandsIn-without P Q v h.target S.waits differs stands))
    (cases_eq v.p h.target)
Move-stands P Q v S taken event left lasts joined (bails h) stands =
    Passes-over P Q v event (without_wait_of S.waits event.p) [] event.notes left refl h.passes
    (StandsIn-without P Q v event.p S.waits (live_apart S taken P Q v S.waits event.p lasts stands h.live) stands)
Move-stands P Q v S taken event left lasts joined (ends h) stands =
    ⊎_elim
    (λ same.
    inl (inr (Any-here (λ e. EndsProcess e v.p) event [] (subst (EndsProcess event) (sym same) (ends_process event S.waits left h)))))
    (λ differs.
    Passes-over P Q v event (without_wait_of S.waits h.target) h.told h.grants left h.are h.passes
    (StandsIn-without P Q v h.target S.waits differs stands))
    (cases_eq v.p h.target)

-- a wait that joins stands in the list, or is granted at once
pub Joins-stands : (S : State) (event : Event) (left : List Wait) (v : Wait)
    → (h : Joins S event.p event.n event.request event.notes left) → h.wait ≡ v
    → IsOver (event ∷ []) event.notes v ⊎ StandsIn Anything Anything v left
Joins-stands S event left v h same =
    Passes-over Anything Anything v event (h.middle ++ v ∷ []) (Waits event.p event.n ∷ h.inner) h.outer left h.are
    (subst (λ x. Passes (h.middle ++ x ∷ []) h.outer left) same h.second) (StandsIn-last Anything Anything v h.middle (Each-anything h.middle))

-- in the event by which it joins, too, w is granted only after v
pub Joins-turn : (v w : Wait) (S : State) (event : Event) (left : List Wait) (told others : List Note)
    → ((x : Wait) → WouldWaitAs S event.p event.n event.request x → OnlyAs w x) → NotOf w v → WaitsConflict v w
    → Joins S event.p event.n event.request event.notes left → StandsIn (NotOf w) (OnlyAs w) v S.waits
    → event.notes ≡ told ++ Answer w.p w.n replies.Ok ∷ others → IsOver (event ∷ []) told v
Joins-turn v w S event left told others joined differ conflict h stands is =
    let ok : Note = Answer w.p w.n replies.Ok in
    let mine : Note = Answer v.p v.n replies.Ok in
    let caller : Note = Waits event.p event.n in
    let (rest, first, later) = split_front ok (caller ∷ []) (h.inner ++ h.outer) told others ((λ e. cc), tt) (sym h.are ∙ is) in
    let granted : Contains rest mine =
    ⊎_elim (λ within. Passes-turn v w S.waits h.inner h.middle rest within.0 differ conflict h.first stands within.1)
    (λ behind.
    subst (λ l. Contains l mine) (sym behind.1)
    (⊎_elim (λ early. Contains-append_left h.inner behind.0 mine early)
    (λ stays.
    Contains-append_right h.inner behind.0 mine
    (Passes-turn v w (h.middle ++ h.wait ∷ []) h.outer left behind.0 others differ conflict h.second
    (StandsIn-push (NotOf w) (OnlyAs w) v h.middle h.wait (joined h.wait h.asks) stays) behind.2))
    (Passes-stands (NotOf w) (OnlyAs w) v S.waits h.inner h.middle h.first stands)))
    (split_append h.inner h.outer rest ok others later) in
    inl (replies.Ok, subst (λ l. Contains l mine) (sym first) (Contains-there caller mine rest granted))

-- among the grants behind these notes of an event too
Passes-turn-over : (v w : Wait) (event : Event) (waits : List Wait) (front grants : List Note) (left : List Wait) (told others : List Note)
    → NotOf w v → WaitsConflict v w → Each (λ note. note ≢ Answer w.p w.n replies.Ok) front → event.notes ≡ front ++ grants
    → Passes waits grants left → StandsIn (NotOf w) (OnlyAs w) v waits → event.notes ≡ told ++ Answer w.p w.n replies.Ok ∷ others
    → IsOver (event ∷ []) told v
Passes-turn-over v w event waits front grants left told others differ conflict apart are passes stands is =
    let mine : Note = Answer v.p v.n replies.Ok in
    let (rest, first, later) = split_front (Answer w.p w.n replies.Ok) front grants told others apart (sym are ∙ is) in
    let granted = Passes-turn v w waits grants left rest others differ conflict passes stands later in
    inl (replies.Ok, subst (λ l. Contains l mine) (sym first) (Contains-append_right front rest mine granted))

-- in an event of another request w is granted only after v is over
pub Move-turn : (v w : Wait) (S : State) (taken : ℕ → ℕ) (event : Event) (left : List Wait) (told others : List Note)
    → Each (IsLastTaken S.states taken) S.waits → ((x : Wait) → WouldWaitAs S event.p event.n event.request x → OnlyAs w x)
    → NotOf w v → WaitsConflict v w → ¬ ((event.p ≡ w.p) × (event.n ≡ w.n))
    → WaitsMove S event.p event.n event.request event.notes left → StandsIn (NotOf w) (OnlyAs w) v S.waits
    → event.notes ≡ told ++ Answer w.p w.n replies.Ok ∷ others → IsOver (event ∷ []) told v
Move-turn v w S taken event left told others lasts joined differ conflict own (answers h) stands is =
    Passes-turn-over v w event S.waits (Answer event.p event.n h.reply ∷ []) h.grants left told others differ conflict
    ((λ e. own (cc, cc)), tt) h.are h.passes stands is
Move-turn v w S taken event left told others lasts joined differ conflict own (joins h) stands is =
    Joins-turn v w S event left told others joined differ conflict h stands is
Move-turn v w S taken event left told others lasts joined differ conflict own (interrupts h) stands is =
    let caller : Note = Answer event.p event.n replies.Ok in
    let eintr : Note = Answer h.target h.wait.n (replies.Err EINTR) in
    let ok : Note = Answer w.p w.n replies.Ok in
    let apart : Each (λ note. note ≢ ok) (caller ∷ eintr ∷ []) = ((λ e. own (cc, cc)), ((λ e. cc), tt)) in
    ⊎_elim
    (λ same.
    let mine : Note = Answer v.p v.n (replies.Err EINTR) in
    let note = interrupted S.states taken (NotOf w) (OnlyAs w) v S.waits h.target h.wait lasts stands h.found same in
    let (rest, first, later) = split_front ok (caller ∷ eintr ∷ []) h.grants told others apart (sym h.are ∙ is) in
    let among = Contains-there caller mine (eintr ∷ rest) (Contains-here eintr mine rest note) in
    inl (replies.Err EINTR, subst (λ l. Contains l mine) (sym first) among))
    (λ differs.
    Passes-turn-over v w event (without_wait_of S.waits h.target) (caller ∷ eintr ∷ []) h.grants left told others differ conflict apart h.are
    h.passes (StandsIn-without (NotOf w) (OnlyAs w) v h.target S.waits differs stands) is)
    (cases_eq v.p h.target)
Move-turn v w S taken event left told others lasts joined differ conflict own (bails h) stands is =
    Passes-turn-over v w event (without_wait_of S.waits event.p) [] event.notes left told others differ conflict tt refl h.passes
    (StandsIn-without (NotOf w) (OnlyAs w) v event.p S.waits (live_apart S taken (NotOf w) (OnlyAs w) v S.waits event.p lasts stands h.live) stands) is
Move-turn v w S taken event left told others lasts joined differ conflict own (ends h) stands is =
    let apart = told_apart event.p event.n event.request h.target h.told (Answer w.p w.n replies.Ok) (λ e. own (cc, cc)) h.how in
    ⊎_elim
    (λ same. inr (Any-here (λ e. EndsProcess e v.p) event [] (subst (EndsProcess event) (sym same) (ends_process event S.waits left h))))
    (λ differs.
    Passes-turn-over v w event (without_wait_of S.waits h.target) h.told h.grants left told others differ conflict apart h.are h.passes
    (StandsIn-without (NotOf w) (OnlyAs w) v h.target S.waits differs stands) is)
    (cases_eq v.p h.target)
