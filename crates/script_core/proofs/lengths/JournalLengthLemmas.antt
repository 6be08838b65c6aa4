-- The requests of a journal take no more bytes than its arrivals, since of each process just the first that it sent are taken: for
-- `outputs_are_short`.
use Rattle.script_core.proofs.Common.{common_steps, ◌≡◌, ◌≢◌, ℕ, ◌+◌, ◌*◌, ◌≤◌, ◌==◌, List, [], ◌∷◌, ◌++◌, length, length-append, map, filter, Some, None, slice_get, ⊎_elim, refl, sym, ap, ◌∙◌, subst, arith, eq-eqb, ne_eqb, append_assoc, append-nil, cases_eq, filter-append, Limits, Rules, Request, State, opening_state, Event, events_of, requests_sent, IsWritableEvent}
use Rattle.std.specs.List.{AllByRecursion as Each}
use Rattle.std.proofs.lemmas.List.{length-map, map-append}
use Rattle.session_core.specs.Mail.{IsPrefixOf, requests_taken}
use Rattle.session_core.specs.Draining.{next_untaken, TakesMail, DrainsFrom, IsDrain}
use Rattle.script_core.proofs.lengths.ArrivalLengthLemmas.{request_length, arrivals_length, seven_bytes}

-- ---- bytes

-- how many bytes the requests of all these events take
unfoldable pub events_length : List Event → ℕ
events_length [] = 0
events_length (event ∷ events) = request_length event.request + events_length events

-- each of them takes seven
pub events_seventh : (limits : Limits) (events : List Event) → Each (IsWritableEvent limits) events → 7 * length events ≤ events_length events
unfolding events_length
events_seventh limits [] writable = omega arith
events_seventh limits (event ∷ events) writable = grind (arith, common_steps, seven_bytes, events_seventh limits events)

-- ---- what was taken

-- of each process just the first requests that it sent were taken
abbrev AreFronts : (ℕ → List Request) → List Event → Type 0
AreFronts sent events = (p : ℕ) → IsPrefixOf (requests_taken p events) (sent p)

-- a front, and what stands behind it, are a front
front_more : {X : Type 0} (xs rest : List X) (x : X) → slice_get (xs ++ rest) (length xs) ≡ Some x → IsPrefixOf (xs ++ x ∷ []) (xs ++ rest)
front_more [] [] x is = absurd (let bad : None ≡ Some x = is in cc)
front_more [] (first ∷ rest) x is = let same : first ≡ x = cc in (rest, ap (λ y. y ∷ rest) same)
front_more (y ∷ xs) rest x is = let later = front_more xs rest x is in (later.0, ap (λ l. y ∷ l) later.1)

-- an event of the process itself is one more of what was taken
taken_own : (events : List Event) (event : Event) → requests_taken event.p (events ++ event ∷ []) ≡ requests_taken event.p events ++ event.request ∷ []
taken_own events event = grind (arith, common_steps, filter-append, eq-eqb, map-append)

-- and one of another process changes nothing
taken_other : (events : List Event) (event : Event) (p : ℕ) → event.p ≢ p → requests_taken p (events ++ event ∷ []) ≡ requests_taken p events
taken_other events event p differs = grind (arith, common_steps, filter-append, append-nil)

-- so it stays where the next request is taken
fronts_next : (sent : ℕ → List Request) (events : List Event) (event : Event) → AreFronts sent events → next_untaken sent events event.p ≡ Some event.request
    → AreFronts sent (events ++ event ∷ [])
fronts_next sent events event fronts next p =
    ⊎_elim (λ same. subst (λ q. IsPrefixOf (requests_taken q (events ++ event ∷ [])) (sent q)) same own)
    (λ differs. let before = fronts p in (before.0, before.1 ∙ ap (λ l. l ++ before.0) (sym (taken_other events event p differs)))) (cases_eq event.p p)
  where
    own : IsPrefixOf (requests_taken event.p (events ++ event ∷ [])) (sent event.p)
    own =
        let before = fronts event.p in
        let taken = requests_taken event.p events in
        let at : slice_get (taken ++ before.0) (length taken) ≡ Some event.request =
        ap (λ l. slice_get l (length taken)) (sym before.1)
        ∙ ap (slice_get (sent event.p)) (length-map (events_of event.p events) (λ (e : Event). e.request)) ∙ next in
        let more = front_more taken before.0 event.request at in
        (more.0, before.1 ∙ more.1 ∙ ap (λ l. l ++ more.0) (sym (taken_own events event)))

-- so it stays where mail is taken
takes_fronts : (rules : Rules) (processes : ℕ) (sent : ℕ → List Request) (events : List Event) (S : State) (more : List Event) (T : State)
    → AreFronts sent events → TakesMail rules processes sent events S more T → AreFronts sent (events ++ more)
takes_fronts rules processes sent events S [] T fronts takes = subst (AreFronts sent) (sym (append-nil events)) fronts
takes_fronts rules processes sent events S (event ∷ more) T fronts (next, between, step, rest) =
    subst (AreFronts sent) (append_assoc events (event ∷ []) more)
    (takes_fronts rules processes sent (events ++ event ∷ []) between more T (fronts_next sent events event fronts next.request) rest)

-- so it stays where more arrives
fronts_arrived : (arrived : List (ℕ × Request)) (arrival : ℕ × Request) (events : List Event) → AreFronts (λ p. requests_sent p arrived) events
    → AreFronts (λ p. requests_sent p (arrived ++ arrival ∷ [])) events
fronts_arrived arrived arrival events fronts p =
    let before = fronts p in
    let more = requests_sent p (arrival ∷ []) in
    let cut : requests_sent p (arrived ++ arrival ∷ []) ≡ requests_sent p arrived ++ more =
    ap (map (λ (a : ℕ × Request). a.1)) (filter-append (λ (a : ℕ × Request). a.0 == p) arrived (arrival ∷ []))
    ∙ map-append (λ (a : ℕ × Request). a.1) (filter (λ (a : ℕ × Request). a.0 == p) arrived) (filter (λ (a : ℕ × Request). a.0 == p) (arrival ∷ [])) in
    (before.0 ++ more, cut ∙ ap (λ l. l ++ more) before.1 ∙ append_assoc (requests_taken p events) before.0 more)

-- so it is of a whole drain
drains_fronts : (rules : Rules) (processes : ℕ) (arrived : List (ℕ × Request)) (events : List Event) (S : State) (later : List (ℕ × Request))
    (journal : List Event) (T : State) → AreFronts (λ p. requests_sent p arrived) events → DrainsFrom rules processes arrived events S later journal T
    → AreFronts (λ p. requests_sent p (arrived ++ later)) journal
drains_fronts rules processes arrived events S [] journal T fronts drains =
    subst (λ (l : List (ℕ × Request)). AreFronts (λ p. requests_sent p l) journal) (sym (append-nil arrived))
    (subst (AreFronts (λ p. requests_sent p arrived)) (sym drains.0) fronts)
drains_fronts rules processes arrived events S (arrival ∷ later) journal T fronts (more, between, takes, rest) =
    let now = arrived ++ arrival ∷ [] in
    let taken = takes_fronts rules processes (λ p. requests_sent p now) events S more between (fronts_arrived arrived arrival events fronts) takes.0 in
    subst (λ (l : List (ℕ × Request)). AreFronts (λ p. requests_sent p l) journal) (append_assoc arrived (arrival ∷ []) later)
    (drains_fronts rules processes now (events ++ more) between later journal T taken rest)

-- ---- arrivals without the first one of a process

-- the arrivals are these and one of the process, which is its first
record Without (p : ℕ) (request : Request) (rest : List Request) (arrivals : List (ℕ × Request)) : Type 0 where
  left : List (ℕ × Request)
  bytes : arrivals_length arrivals ≡ request_length request + arrivals_length left
  own : requests_sent p left ≡ rest
  others : (q : ℕ) → q ≢ p → requests_sent q left ≡ requests_sent q arrivals

-- an arrival of the process itself is the first of what it sent
sent_first : (p q : ℕ) (first : Request) (arrivals : List (ℕ × Request)) → q ≡ p → requests_sent p ((q, first) ∷ arrivals) ≡ first ∷ requests_sent p arrivals
sent_first p q first arrivals same = rw (eq-eqb q p same) refl

-- and one of another process changes nothing
sent_later : (p q : ℕ) (first : Request) (arrivals : List (ℕ × Request)) → q ≢ p → requests_sent p ((q, first) ∷ arrivals) ≡ requests_sent p arrivals
sent_later p q first arrivals differs = rw (ne_eqb q p differs) refl

-- the same arrival before both
sent_both : (p q : ℕ) (first : Request) (left arrivals : List (ℕ × Request)) → requests_sent p left ≡ requests_sent p arrivals
    → requests_sent p ((q, first) ∷ left) ≡ requests_sent p ((q, first) ∷ arrivals)
sent_both p q first left arrivals same = grind (arith, common_steps, sent_first, sent_later, cases_eq)

-- where a process sent something, there are arrivals without the first one of it
without : (p : ℕ) (request : Request) (rest : List Request) (arrivals : List (ℕ × Request)) → requests_sent p arrivals ≡ request ∷ rest
    → Without p request rest arrivals
unfolding arrivals_length
without p request rest [] is = absurd (let none : [] ≡ request ∷ rest = is in cc)
without p request rest ((q, first) ∷ arrivals) is =
    ⊎_elim
    (λ same.
    let all : first ∷ requests_sent p arrivals ≡ request ∷ rest = sym (sent_first p q first arrivals same) ∙ is in
    let head : first ≡ request = cc in
    let tail : requests_sent p arrivals ≡ rest = cc in
    record {
      left = arrivals;
      bytes = ap (λ r. request_length r + arrivals_length arrivals) head;
      own = tail;
      others = λ other differs. sym (sent_later other q first arrivals (λ e. differs (sym e ∙ same)));
    })
    (λ differs.
    let later = without p request rest arrivals (sym (sent_later p q first arrivals differs) ∙ is) in
    let size = later.bytes in
    record {
      left = (q, first) ∷ later.left;
      bytes = omega (arith, size);
      own = sent_later p q first later.left differs ∙ later.own;
      others = λ other apart. sent_both other q first later.left arrivals (later.others other apart);
    })
    (cases_eq q p)

-- events that take fronts of what arrived take no more bytes than it
fronts_length : (journal : List Event) (arrivals : List (ℕ × Request)) → AreFronts (λ p. requests_sent p arrivals) journal
    → events_length journal ≤ arrivals_length arrivals
unfolding events_length
fronts_length [] arrivals fronts = omega arith
fronts_length (event ∷ journal) arrivals fronts =
    let p = event.p in
    let front = fronts p in
    let first : requests_taken p (event ∷ journal) ≡ event.request ∷ requests_taken p journal = rw (eq-eqb p p refl) refl in
    let less = without p event.request (requests_taken p journal ++ front.0) arrivals (front.1 ∙ ap (λ l. l ++ front.0) first) in
    let rest = fronts_length journal less.left (λ q.
    ⊎_elim (λ same. subst (λ r. IsPrefixOf (requests_taken r journal) (requests_sent r less.left)) (sym same) (front.0, less.own))
    (λ differs.
    let others : requests_taken q (event ∷ journal) ≡ requests_taken q journal = rw (ne_eqb p q (λ e. differs (sym e))) refl in
    let before = fronts q in (before.0, less.others q differs ∙ before.1 ∙ ap (λ l. l ++ before.0) others))
    (cases_eq q p)) in
    let size = less.bytes in
    omega (arith, rest, size)

-- of each process just the first requests that arrived were taken by a drain
drained_fronts : (rules : Rules) (processes : ℕ) (arrivals : List (ℕ × Request)) (journal : List Event) (T : State)
    → IsDrain rules processes arrivals journal T → AreFronts (λ p. requests_sent p arrivals) journal
drained_fronts rules processes arrivals journal T drains =
    drains_fronts rules processes [] [] opening_state arrivals journal T (λ p. (requests_sent p [], refl)) drains

-- the requests of a journal take no more bytes than its arrivals
pub drained_length : (rules : Rules) (processes : ℕ) (arrivals : List (ℕ × Request)) (journal : List Event) (T : State)
    → IsDrain rules processes arrivals journal T → events_length journal ≤ arrivals_length arrivals
drained_length rules processes arrivals journal T drains =
    fronts_length journal arrivals (drained_fronts rules processes arrivals journal T drains)

-- of no process more are taken than it sent
pub taken_were_sent : (rules : Rules) (processes : ℕ) (arrivals : List (ℕ × Request)) (journal : List Event) (T : State)
    → IsDrain rules processes arrivals journal T → (p : ℕ) → length (events_of p journal) ≤ length (requests_sent p arrivals)
taken_were_sent rules processes arrivals journal T drains p =
    let front = drained_fronts rules processes arrivals journal T drains p in
    let taken = length-map (events_of p journal) (λ (event : Event). event.request) in
    let all = ap length front.1 ∙ length-append (requests_taken p journal) front.0 in
    omega (arith, taken, all)
