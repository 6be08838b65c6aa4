-- What is known of tickets, where a wait joins, leaves or is granted: for the table's fact `indexed`.
use Rattle.lock_server.proofs.Common.{common_steps, ℕ, ◌≡◌, ◌≢◌, ◌==◌, ◌∙◌, inl, inr, sym, ap, refl, subst, arith, true, false, Bool, Option, Some, None, suc, List, [], ◌∷◌, ◌++◌, All, append-nil, ◌||◌, ◌↔◌, IsTrue, AllPairs, list_any, cases_Bool, cases_eq, eqb-true, eq-eqb, All-cons, All-head, All-tail, AllPairs-cons, all_pairs_push, Pending, Place, Waits, Granted, Tickets, place_at, grants_of, SetsPlace}
use Rattle.lock_server.proofs.LeaveLemmas.{All-without}

module _ {X : Type 0} (key : X → ℕ) where
  -- whether one of these has the key
  abbrev pub has_key : ℕ → List X → Bool
  has_key k xs = list_any (λ x. key x == k) xs

  -- no key stands twice
  abbrev pub AreApart : List X → Type 0
  AreApart xs = AllPairs (λ x y. key x ≢ key y) xs

  -- a key stands where its element does
  pub key_there : (before after : List X) (x : X) → has_key (key x) (before ++ x ∷ after) ≡ true
  key_there [] after x = rw (eq-eqb (key x) (key x) refl)
  key_there (first ∷ before) after x = elim (cases_Bool (key first == key x)) [
    | inl same ↦ rw same
    | inr apart ↦ rw apart (key_there before after x)
  ]

  -- another key stands where it would without the element
  pub key_elsewhere : (before after : List X) (x : X) (k : ℕ) → k ≢ key x → has_key k (before ++ x ∷ after) ≡ has_key k (before ++ after)
  key_elsewhere [] after x k differs = elim (cases_Bool (key x == k)) [
    | inl same ↦ absurd (differs (sym (eqb-true (key x) k same)))
    | inr apart ↦ rw apart
  ]
  key_elsewhere (first ∷ before) after x k differs = ap (λ (rest : Bool). (key first == k) || rest) (key_elsewhere before after x k differs)

  pairs_head : (x : X) (xs : List X) → AreApart (x ∷ xs) → All (λ y. key x ≢ key y) xs
  pairs_head x xs pairs k d within = pairs 0 (suc k) d (omega arith) (omega arith)

  pairs_tail : (x : X) (xs : List X) → AreApart (x ∷ xs) → AreApart xs
  pairs_tail x xs pairs i j d before within = pairs (suc i) (suc j) d (omega arith) (omega arith)

  All-at : (P : X → Type 0) (before after : List X) (x : X) → All P (before ++ x ∷ after) → P x
  All-at P [] after x all = All-head P x after all
  All-at P (first ∷ before) after x all = All-at P before after x (All-tail P first (before ++ x ∷ after) all)

  none_has : (k : ℕ) (xs : List X) → All (λ y. k ≢ key y) xs → has_key k xs ≡ false
  none_has k [] all = refl
  none_has k (x ∷ xs) all = elim (cases_Bool (key x == k)) [
    | inl same ↦ absurd (All-head (λ y. k ≢ key y) x xs all (sym (eqb-true (key x) k same)))
    | inr apart ↦ rw apart (none_has k xs (All-tail (λ y. k ≢ key y) x xs all))
  ]

  -- without one of them the others are apart still
  pub apart_left : (before after : List X) (x : X) → AreApart (before ++ x ∷ after) → AreApart (before ++ after)
  apart_left [] after x pairs = pairs_tail x after pairs
  apart_left (first ∷ before) after x pairs =
      AllPairs-cons (λ y z. key y ≢ key z) first (before ++ after)
      (All-without (λ y. key first ≢ key y) before after x (pairs_head first (before ++ x ∷ after) pairs))
      (apart_left before after x (pairs_tail first (before ++ x ∷ after) pairs))

  -- and its key is gone
  pub key_gone : (before after : List X) (x : X) → AreApart (before ++ x ∷ after) → has_key (key x) (before ++ after) ≡ false
  key_gone [] after x pairs = none_has (key x) after (pairs_head x after pairs)
  key_gone (first ∷ before) after x pairs = elim (cases_Bool (key first == key x)) [
    | inl same ↦
        absurd (All-at (λ y. key first ≢ key y) before after x (pairs_head first (before ++ x ∷ after) pairs) (eqb-true (key first) (key x) same))
    | inr apart ↦ rw apart (key_gone before after x (pairs_tail first (before ++ x ∷ after) pairs))
  ]

  has_none : (k : ℕ) (xs : List X) → has_key k xs ≡ false → All (λ y. key y ≢ k) xs
  has_none k [] none = λ i d within. absurd (omega (arith, within))
  has_none k (x ∷ xs) none = elim (cases_Bool (key x == k)) [
    | inl same ↦ absurd (let h : true ≡ false = rw same at none in cc)
    | inr apart ↦ All-cons (λ y. key y ≢ k) x xs (λ e. absurd (let same = eq-eqb (key x) k e in let h : true ≡ false = sym same ∙ apart in cc)) (has_none k xs (rw apart at none))
  ]

  -- one more, with a key that stood nowhere
  pub apart_pushed : (xs : List X) (x : X) → AreApart xs → has_key (key x) xs ≡ false → AreApart (xs ++ x ∷ [])
  apart_pushed xs x pairs none = all_pairs_push (λ y z. key y ≢ key z) xs x pairs (has_none (key x) xs none)

-- the ticket of a wait
abbrev pub ticket_of : Pending → ℕ
ticket_of wait = wait.ticket

-- a grant is its ticket
abbrev pub itself : ℕ → ℕ
itself ticket = ticket

-- what is known of tickets, where these are the waits on each file
pub record TicketsKnown (waits : ℕ → List Pending) (tickets : Tickets) : Type 0 where
  pub pending : (ticket file : ℕ) → (place_at tickets ticket ≡ Some (Waits file)) ↔ IsTrue (has_key ticket_of ticket (waits file))
  pub granted : (ticket : ℕ) → (place_at tickets ticket ≡ Some Granted) ↔ IsTrue (has_key itself ticket (grants_of tickets))
  pub once_on_a_file : (file : ℕ) → AreApart ticket_of (waits file)
  pub granted_once : AreApart itself (grants_of tickets)

-- the waits on the file are these, and on the others what they were
pub record PutsWaits (old new : ℕ → List Pending) (file : ℕ) (waits : List Pending) : Type 0 where
  pub here : new file ≡ waits
  pub others : (other : ℕ) → other ≢ file → new other ≡ old other

-- a request that stands so neither waits nor was granted
pub record IsIdle (place : Option Place) : Type 0 where
  pub waits : (file : ℕ) → place ≢ Some (Waits file)
  pub granted : place ≢ Some Granted

no_true : {A : Type 0} → false ≡ true → A
no_true e = absurd (let h : false ≡ true = e in cc)

module _ (waits now : ℕ → List Pending) (tickets after : Tickets) (file : ℕ) (wait : Pending) (known : TicketsKnown waits tickets) where
  -- the wait with a ticket that stood nowhere joins those on the file
  pub tickets_joined : PutsWaits waits now file (waits file ++ wait ∷ []) → IsIdle (place_at tickets wait.ticket)
      → SetsPlace tickets after wait.ticket (Some (Waits file)) → grants_of after ≡ grants_of tickets
      → TicketsKnown now after
  tickets_joined puts idle sets grants = record {
    pending = λ ticket other. elim (cases_eq ticket wait.ticket) [
      | inl is ↦ elim (cases_eq other file) [
        | inl here ↦ rw (is, here, sets.here, puts.here) (λ e. key_there ticket_of (waits file) [] wait, λ e. refl)
        | inr elsewhere ↦
            rw (is, sets.here, puts.others other elsewhere)
            (λ e. absurd (elsewhere (let same : Some (Waits file) ≡ Some (Waits other) = e in let h : file ≡ other = cc in sym h)), λ e. absurd (idle.waits other ((known.pending wait.ticket other).1 e)))
      ]
      | inr differs ↦ elim (cases_eq other file) [
        | inl here ↦
            rw (here, sets.others ticket differs, puts.here, key_elsewhere ticket_of (waits file) [] wait ticket differs, append-nil (waits file))
            (known.pending ticket file)
        | inr elsewhere ↦ rw (sets.others ticket differs, puts.others other elsewhere) (known.pending ticket other)
      ]
    ];
    granted = λ ticket. elim (cases_eq ticket wait.ticket) [
      | inl is ↦ rw (is, sets.here, grants) (λ e. absurd (let h : Some (Waits file) ≡ Some Granted = e in cc), λ e. absurd (idle.granted ((known.granted wait.ticket).1 e)))
      | inr differs ↦ rw (sets.others ticket differs, grants) (known.granted ticket)
    ];
    once_on_a_file = λ other. elim (cases_eq other file) [
      | inl here ↦ rw (here, puts.here) (apart_pushed ticket_of (waits file) wait (known.once_on_a_file file) none_here)
      | inr elsewhere ↦ rw (puts.others other elsewhere) (known.once_on_a_file other)
    ];
    granted_once = rw grants known.granted_once;
  }
    where
      none_here : has_key ticket_of wait.ticket (waits file) ≡ false
      none_here = elim (cases_Bool (has_key ticket_of wait.ticket (waits file))) [
        | inl there ↦ absurd (idle.waits file ((known.pending wait.ticket file).1 there))
        | inr none ↦ none
      ]

  module _ (before later : List Pending) (stood : waits file ≡ before ++ wait ∷ later) (puts : PutsWaits waits now file (before ++ later)) where
    -- its ticket was known to wait there
    pub waited : place_at tickets wait.ticket ≡ Some (Waits file)
    waited = (known.pending wait.ticket file).1 (rw stood (key_there ticket_of before later wait))

    pending_left : (place : Option Place) → ((f : ℕ) → place ≢ Some (Waits f)) → SetsPlace tickets after wait.ticket place
        → (ticket other : ℕ) → (place_at after ticket ≡ Some (Waits other)) ↔ IsTrue (has_key ticket_of ticket (now other))
    pending_left place gone sets ticket other = elim (cases_eq ticket wait.ticket) [
      | inl is ↦ elim (cases_eq other file) [
        | inl here ↦
            rw (is, here, sets.here, puts.here, key_gone ticket_of before later wait (subst (λ (l : List Pending). AreApart ticket_of l) stood (known.once_on_a_file file)))
            (λ e. absurd (gone file e), λ e. no_true e)
        | inr elsewhere ↦
            rw (is, sets.here, puts.others other elsewhere)
            (λ e. absurd (gone other e), λ e. absurd (elsewhere (let there = (known.pending wait.ticket other).1 e in let same : Some (Waits file) ≡ Some (Waits other) = sym waited ∙ there in let h : file ≡ other = cc in sym h)))
      ]
      | inr differs ↦ elim (cases_eq other file) [
        | inl here ↦
            rw (here, sets.others ticket differs, puts.here, sym (key_elsewhere ticket_of before later wait ticket differs), sym stood)
            (known.pending ticket file)
        | inr elsewhere ↦ rw (sets.others ticket differs, puts.others other elsewhere) (known.pending ticket other)
      ]
    ]

    apart_without : (other : ℕ) → AreApart ticket_of (now other)
    apart_without other = elim (cases_eq other file) [
      | inl here ↦ rw (here, puts.here) (apart_left ticket_of before later wait (subst (λ (l : List Pending). AreApart ticket_of l) stood (known.once_on_a_file file)))
      | inr elsewhere ↦ rw (puts.others other elsewhere) (known.once_on_a_file other)
    ]

    not_granted : has_key itself wait.ticket (grants_of tickets) ≡ false
    not_granted = elim (cases_Bool (has_key itself wait.ticket (grants_of tickets))) [
      | inl there ↦ absurd (let granted = (known.granted wait.ticket).1 there in let h : Some (Waits file) ≡ Some Granted = sym waited ∙ granted in cc)
      | inr none ↦ none
    ]

    -- the wait leaves, and its ticket is free
    pub tickets_left : SetsPlace tickets after wait.ticket None → grants_of after ≡ grants_of tickets → TicketsKnown now after
    tickets_left sets grants = record {
      pending = pending_left None (λ f e. absurd (let h : None ≡ Some (Waits f) = e in cc)) sets;
      granted = λ ticket. elim (cases_eq ticket wait.ticket) [
        | inl is ↦ rw (is, sets.here, grants, not_granted) (λ e. absurd (let h : None ≡ Some Granted = e in cc), λ e. no_true e)
        | inr differs ↦ rw (sets.others ticket differs, grants) (known.granted ticket)
      ];
      once_on_a_file = apart_without;
      granted_once = rw grants known.granted_once;
    }

    -- the wait leaves, and its ticket is queued
    pub tickets_granted : SetsPlace tickets after wait.ticket (Some Granted) → grants_of after ≡ grants_of tickets ++ wait.ticket ∷ [] → TicketsKnown now after
    tickets_granted sets grants = record {
      pending = pending_left (Some Granted) (λ f e. absurd (let h : Some Granted ≡ Some (Waits f) = e in cc)) sets;
      granted = λ ticket. elim (cases_eq ticket wait.ticket) [
        | inl is ↦ rw (is, sets.here, grants) (λ e. key_there itself (grants_of tickets) [] wait.ticket, λ e. refl)
        | inr differs ↦
            rw (sets.others ticket differs, grants, key_elsewhere itself (grants_of tickets) [] wait.ticket ticket differs, append-nil (grants_of tickets))
            (known.granted ticket)
      ];
      once_on_a_file = apart_without;
      granted_once = rw grants (apart_pushed itself (grants_of tickets) wait.ticket known.granted_once not_granted);
    }

-- a ticket is noted or given back that neither waits nor was granted
pub tickets_noted : (waits : ℕ → List Pending) (tickets after : Tickets) (ticket : ℕ) (place : Option Place) → TicketsKnown waits tickets
    → IsIdle (place_at tickets ticket) → IsIdle place → SetsPlace tickets after ticket place
    → grants_of after ≡ grants_of tickets → TicketsKnown waits after
tickets_noted waits tickets after ticket place known was now sets grants = grind (arith, common_steps, cases_eq)

-- a grant is queued with a ticket that neither waits nor was granted
pub tickets_queued : (waits : ℕ → List Pending) (tickets after : Tickets) (ticket : ℕ) → TicketsKnown waits tickets → IsIdle (place_at tickets ticket)
    → SetsPlace tickets after ticket (Some Granted) → grants_of after ≡ grants_of tickets ++ ticket ∷ [] → TicketsKnown waits after
tickets_queued waits tickets after ticket known idle sets grants = record {
  pending = λ other file. elim (cases_eq other ticket) [
    | inl is ↦ rw (is, sets.here) (λ e. absurd (let h : Some Granted ≡ Some (Waits file) = e in cc), λ e. absurd (idle.waits file ((known.pending ticket file).1 e)))
    | inr differs ↦ rw (sets.others other differs) (known.pending other file)
  ];
  granted = λ other. elim (cases_eq other ticket) [
    | inl is ↦ rw (is, sets.here, grants) (λ e. key_there itself (grants_of tickets) [] ticket, λ e. refl)
    | inr differs ↦
        rw (sets.others other differs, grants, key_elsewhere itself (grants_of tickets) [] ticket other differs, append-nil (grants_of tickets))
        (known.granted other)
  ];
  once_on_a_file = known.once_on_a_file;
  granted_once = rw grants (apart_pushed itself (grants_of tickets) ticket known.granted_once none_here);
}
  where
    none_here : has_key itself ticket (grants_of tickets) ≡ false
    none_here = elim (cases_Bool (has_key itself ticket (grants_of tickets))) [
      | inl there ↦ absurd (idle.granted ((known.granted ticket).1 there))
      | inr none ↦ none
    ]

-- a grant is fetched, and its ticket is free
pub tickets_fetched : (waits : ℕ → List Pending) (tickets after : Tickets) (ticket : ℕ) → TicketsKnown waits tickets
    → grants_of tickets ≡ ticket ∷ grants_of after → SetsPlace tickets after ticket None → TicketsKnown waits after
tickets_fetched waits tickets after ticket known grants sets = record {
  pending = λ other file. elim (cases_eq other ticket) [
    | inl is ↦
        rw (is, sets.here) (
          λ e. absurd (let h : None ≡ Some (Waits file) = e in cc),
          λ e. absurd (let there = (known.pending ticket file).1 e in let h : Some Granted ≡ Some (Waits file) = sym was ∙ there in cc),
        )
    | inr differs ↦ rw (sets.others other differs) (known.pending other file)
  ];
  granted = λ other. elim (cases_eq other ticket) [
    | inl is ↦ rw (is, sets.here, gone) (λ e. absurd (let h : None ≡ Some Granted = e in cc), λ e. no_true e)
    | inr differs ↦ rw (sets.others other differs) (subst (λ (b : Bool). (place_at tickets other ≡ Some Granted) ↔ IsTrue b) (stays other differs) (known.granted other))
  ];
  once_on_a_file = known.once_on_a_file;
  granted_once = apart_left itself [] (grants_of after) ticket apart;
}
  where
    was : place_at tickets ticket ≡ Some Granted
    was = (known.granted ticket).1 (rw grants (key_there itself [] (grants_of after) ticket))

    apart : AreApart itself (ticket ∷ grants_of after)
    apart = subst (λ (l : List ℕ). AreApart itself l) grants known.granted_once

    gone : has_key itself ticket (grants_of after) ≡ false
    gone = key_gone itself [] (grants_of after) ticket apart

    stays : (other : ℕ) → other ≢ ticket → has_key itself other (grants_of tickets) ≡ has_key itself other (grants_of after)
    stays other differs = ap (has_key itself other) grants ∙ key_elsewhere itself [] (grants_of after) ticket other differs
