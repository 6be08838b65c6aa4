-- How much was taken of each process and answered to it: what each state of a run keeps, and what moves one process.
use Rattle.session_core.proofs.Common.{common_steps, ℕ, ◌≡◌, ◌≢◌, ◌+◌, ◌≤◌, ◌⊎◌, refl, sym, ◌∙◌, subst, arith, true, eq-eqb, ne_eqb, length, length-append, List, [], ◌∷◌, ◌++◌, ⊎_elim, ◌==◌, if◌then◌else◌, Contains, All-contains, All-from_recursion, cases_eq, Wait, Note, Answer, Waits, ProcState, Unborn, Live, Waiting, Ended, State, told_process, IsWaiting, IsEnded}
use Rattle.std.specs.List.{AllByRecursion as Each}

-- the numbers of the answers to a process among these notes
abbrev pub numbers_in : ℕ → List Note → List ℕ
numbers_in q [] = []
numbers_in q (Answer p n reply ∷ notes) = if p == q then n ∷ numbers_in q notes else numbers_in q notes
numbers_in q (Waits p n ∷ notes) = numbers_in q notes

-- the numbers go on after this one, one by one
abbrev pub AreCountedFrom : ℕ → List ℕ → Type 0
AreCountedFrom last [] = Unit {0}
AreCountedFrom last (n ∷ numbers) = (n ≡ last + 1) × AreCountedFrom (last + 1) numbers

-- no two waits are of one process
abbrev pub AreApart : List Wait → Type 0
AreApart [] = Unit {0}
AreApart (wait ∷ waits) = Each (λ other. other.p ≢ wait.p) waits × AreApart waits

-- how many requests were taken of a process that stands so, and how many of them answered: it ends by a request of its own
-- or while it waits, or by another's kill while it lives
abbrev pub TallyAt : ProcState → ℕ → ℕ → Type 0
TallyAt Unborn taken answered = (taken ≡ 0) × (answered ≡ 0)
TallyAt Live taken answered = answered ≡ taken
TallyAt Waiting taken answered = taken ≡ answered + 1
TallyAt Ended taken answered = (taken ≡ answered + 1) ⊎ (taken ≡ answered)

-- the first one is among them
pub Contains-here : {X : Type 0} (x y : X) (xs : List X) → x ≡ y → Contains (x ∷ xs) y
Contains-here x y xs same = (0, (let n = length xs in omega arith), same)

-- the process waits, and with the last request that was taken of it
pub record IsLastTaken (states : ℕ → ProcState) (taken : ℕ → ℕ) (wait : Wait) : Type 0 where
  pub waiting : IsWaiting (states wait.p)
  pub last : wait.n ≡ taken wait.p

-- the process is one of so many, and was alive
pub record IsBorn (processes : ℕ) (S : State) (q : ℕ) : Type 0 where
  pub low : 1 ≤ q
  pub high : q ≤ processes
  pub alive : S.descriptors.ever_alive q ≡ true

-- in the state S so many requests were taken of each process, and so many answered
pub record Tallies (processes : ℕ) (S : State) (taken answered : ℕ → ℕ) : Type 0 where
  pub born : (q : ℕ) → S.states q ≢ Unborn → IsBorn processes S q
  pub waits : Each (IsLastTaken S.states taken) S.waits
  pub apart : AreApart S.waits
  pub tally : (q : ℕ) → TallyAt (S.states q) (taken q) (answered q)

-- from a state with these process states the notes are told, each process' answers in turn and none after its end, and the
-- state T is reached
pub record Tells (processes : ℕ) (states : ℕ → ProcState) (answered : ℕ → ℕ) (notes : List Note) (T : State) (taken' : ℕ → ℕ) : Type 0 where
  pub tallies : Tallies processes T taken' (λ q. answered q + length (numbers_in q notes))
  pub counted : (q : ℕ) → AreCountedFrom (answered q) (numbers_in q notes)
  pub in_range : Each (λ note. (1 ≤ told_process note) × (told_process note ≤ processes)) notes
  pub ended : (q : ℕ) → IsEnded (states q) → IsEnded (T.states q) × Each (λ note. told_process note ≢ q) notes

-- one more request was taken of the process
abbrev pub one_more : ℕ → (ℕ → ℕ) → ℕ → ℕ
one_more p taken q = if p == q then taken q + 1 else taken q

pub one_more-same : (p : ℕ) (taken : ℕ → ℕ) → one_more p taken p ≡ taken p + 1
one_more-same p taken = rw (eq-eqb p p refl) refl

pub one_more-other : (p q : ℕ) (taken : ℕ → ℕ) → q ≢ p → one_more p taken q ≡ taken q
one_more-other p q taken other = rw (ne_eqb p q (λ e. other (sym e))) refl

-- the tallies at each process are what counts
pub Tallies-along : (processes : ℕ) (S : State) (taken answered taken' answered' : ℕ → ℕ) → ((q : ℕ) → taken q ≡ taken' q)
    → ((q : ℕ) → answered q ≡ answered' q) → Tallies processes S taken answered → Tallies processes S taken' answered'
Tallies-along processes S taken answered taken' answered' same_taken same_answered h = grind (arith, common_steps)

-- lists of numbers and notes, one after another
pub numbers_in-append : (q : ℕ) (xs ys : List Note) → numbers_in q (xs ++ ys) ≡ numbers_in q xs ++ numbers_in q ys
numbers_in-append q [] ys = refl
numbers_in-append q (Answer p n reply ∷ xs) ys = grind (arith, common_steps, numbers_in-append q xs ys)
numbers_in-append q (Waits p n ∷ xs) ys = numbers_in-append q xs ys

pub AreCountedFrom-append : (last : ℕ) (xs ys : List ℕ) → AreCountedFrom last xs → AreCountedFrom (last + length xs) ys
    → AreCountedFrom last (xs ++ ys)
AreCountedFrom-append last [] ys h k = let e : last + 0 ≡ last = omega arith in subst (λ n. AreCountedFrom n ys) e k
AreCountedFrom-append last (x ∷ xs) ys h k = grind (arith, common_steps, AreCountedFrom-append (last + 1) xs ys)

pub Each-append : {X : Type 0} (P : X → Type 0) (xs ys : List X) → Each P xs → Each P ys → Each P (xs ++ ys)
Each-append P [] ys h k = k
Each-append P (x ∷ xs) ys h k = (h.0, Each-append P xs ys h.1 k)

pub Each-map : {X : Type 0} (P Q : X → Type 0) (xs : List X) → ((x : X) → P x → Q x) → Each P xs → Each Q xs
Each-map P Q [] f h = tt
Each-map P Q (x ∷ xs) f h = (f x h.0, Each-map P Q xs f h.1)

pub Each-both : {X : Type 0} (P Q R : X → Type 0) (xs : List X) → ((x : X) → P x → Q x → R x) → Each P xs → Each Q xs → Each R xs
Each-both P Q R [] f h k = tt
Each-both P Q R (x ∷ xs) f h k = (f x h.0 k.0, Each-both P Q R xs f h.1 k.1)

-- what no element is doesn't stand among them
pub None-contains : {X : Type 0} (xs : List X) (x : X) → Each (λ y. y ≢ x) xs → ¬ Contains xs x
None-contains xs x none among = All-contains (λ y. y ≢ x) xs x (All-from_recursion (λ y. y ≢ x) xs none) among refl

-- one out of the middle, and the others
pub Each-middle : {X : Type 0} (P : X → Type 0) (xs : List X) (x : X) (ys : List X) → Each P (xs ++ x ∷ ys) → P x × Each P (xs ++ ys)
Each-middle P [] x ys h = h
Each-middle P (z ∷ zs) x ys h = let k = Each-middle P zs x ys h.1 in (k.0, (h.0, k.1))

pub AreApart-middle : (xs : List Wait) (wait : Wait) (ys : List Wait) → AreApart (xs ++ wait ∷ ys)
    → Each (λ other. other.p ≢ wait.p) (xs ++ ys) × AreApart (xs ++ ys)
AreApart-middle [] wait ys h = h
AreApart-middle (x ∷ xs) wait ys h =
    let here = Each-middle (λ other. other.p ≢ x.p) xs wait ys h.0 in
    let rest = AreApart-middle xs wait ys h.1 in
    (((λ e. here.0 (sym e)), rest.0), (here.1, rest.1))

-- one that comes last is apart from the others
pub AreApart-push : (waits : List Wait) (wait : Wait) → Each (λ other. other.p ≢ wait.p) waits → AreApart waits → AreApart (waits ++ wait ∷ [])
AreApart-push [] wait others h = (tt, tt)
AreApart-push (x ∷ xs) wait others h =
    (Each-append (λ other. other.p ≢ x.p) xs (wait ∷ []) h.0 ((λ e. others.0 (sym e)), tt), AreApart-push xs wait others.1 h.1)

-- where no note is for the process, no answer is
pub numbers_in-none : (q : ℕ) (notes : List Note) → Each (λ note. told_process note ≢ q) notes → numbers_in q notes ≡ []
numbers_in-none q [] h = refl
numbers_in-none q (Answer p n reply ∷ notes) h = rw (ne_eqb p q h.0) (numbers_in-none q notes h.1)
numbers_in-none q (Waits p n ∷ notes) h = numbers_in-none q notes h.1

-- from the state S to the state T one process moves, which is told these notes; all others stay
pub record MovesOne (processes : ℕ) (S : State) (taken answered : ℕ → ℕ) (r : ℕ) (notes : List Note) (T : State) (taken' : ℕ → ℕ) : Type 0 where
  pub here : TallyAt (T.states r) (taken' r) (answered r + length (numbers_in r notes))
  pub counted : AreCountedFrom (answered r) (numbers_in r notes)
  pub not_ended : ¬ IsEnded (S.states r)
  pub born : IsBorn processes T r
  pub notes_here : Each (λ note. told_process note ≡ r) notes
  pub states : (q : ℕ) → q ≢ r → T.states q ≡ S.states q
  pub taken_there : (q : ℕ) → q ≢ r → taken' q ≡ taken q
  pub alive : (q : ℕ) → S.descriptors.ever_alive q ≡ true → T.descriptors.ever_alive q ≡ true
  pub waits : Each (IsLastTaken T.states taken') T.waits
  pub apart : AreApart T.waits

-- the notes of the one that moves are no others'
not_there : (processes : ℕ) (S : State) (taken answered : ℕ → ℕ) (r : ℕ) (notes : List Note) (T : State) (taken' : ℕ → ℕ)
    → MovesOne processes S taken answered r notes T taken' → (q : ℕ) → q ≢ r → Each (λ note. told_process note ≢ q) notes
not_there processes S taken answered r notes T taken' m q other =
    Each-map (λ note. told_process note ≡ r) (λ note. told_process note ≢ q) notes (λ note here there. other (sym there ∙ here)) m.notes_here

-- the tally of each process after one moved
tally_after : (processes : ℕ) (S : State) (taken answered : ℕ → ℕ) (r : ℕ) (notes : List Note) (T : State) (taken' : ℕ → ℕ)
    → Tallies processes S taken answered → MovesOne processes S taken answered r notes T taken' → (q : ℕ)
    → TallyAt (T.states q) (taken' q) (answered q + length (numbers_in q notes))
tally_after processes S taken answered r notes T taken' t m q =
    ⊎_elim
    (λ same. subst (λ x. TallyAt (T.states x) (taken' x) (answered x + length (numbers_in x notes))) (sym same) m.here)
    (λ other.
    let none : answered q ≡ answered q + length (numbers_in q notes) =
    rw (numbers_in-none q notes (not_there processes S taken answered r notes T taken' m q other)) (omega arith) in
    subst (λ a. TallyAt (T.states q) (taken' q) a) none
    (subst (λ k. TallyAt (T.states q) k (answered q)) (sym (m.taken_there q other))
    (subst (λ s. TallyAt s (taken q) (answered q)) (sym (m.states q other)) (t.tally q))))
    (cases_eq q r)

born_after : (processes : ℕ) (S : State) (taken answered : ℕ → ℕ) (r : ℕ) (notes : List Note) (T : State) (taken' : ℕ → ℕ)
    → Tallies processes S taken answered → MovesOne processes S taken answered r notes T taken' → (q : ℕ)
    → T.states q ≢ Unborn → IsBorn processes T q
born_after processes S taken answered r notes T taken' t m q there = grind (arith, common_steps, cases_eq)

counted_after : (answered : ℕ → ℕ) (r : ℕ) (notes : List Note) → AreCountedFrom (answered r) (numbers_in r notes)
    → Each (λ note. told_process note ≡ r) notes → (q : ℕ) → AreCountedFrom (answered q) (numbers_in q notes)
counted_after answered r notes here all q =
    ⊎_elim
    (λ same. subst (λ x. AreCountedFrom (answered x) (numbers_in x notes)) (sym same) here)
    (λ other.
    let none = numbers_in-none q notes (Each-map (λ note. told_process note ≡ r) (λ note. told_process note ≢ q) notes (λ note e k. other (sym k ∙ e)) all) in
    subst (λ l. AreCountedFrom (answered q) l) (sym none) tt)
    (cases_eq q r)

-- where one process moves, its notes are told as they should be
pub MovesOne-tells : (processes : ℕ) (S : State) (taken answered : ℕ → ℕ) (r : ℕ) (notes : List Note) (T : State) (taken' : ℕ → ℕ)
    → Tallies processes S taken answered → MovesOne processes S taken answered r notes T taken'
    → Tells processes S.states answered notes T taken'
MovesOne-tells processes S taken answered r notes T taken' t m =
    record {
      tallies = record {
        born = born_after processes S taken answered r notes T taken' t m;
        waits = m.waits;
        apart = m.apart;
        tally = tally_after processes S taken answered r notes T taken' t m;
      };
      counted = counted_after answered r notes m.counted m.notes_here;
      in_range =
          Each-map (λ note. told_process note ≡ r) (λ note. (1 ≤ told_process note) × (told_process note ≤ processes)) notes
          (λ note e. (omega (arith, m.born.low), omega (arith, m.born.high)))
          m.notes_here;
      ended = λ q e.
          let other : q ≢ r = λ same. m.not_ended (subst (λ x. IsEnded (S.states x)) same e) in
          (subst IsEnded (sym (m.states q other)) e, not_there processes S taken answered r notes T taken' m q other);
    }

-- one after another
pub Tells-then : (processes : ℕ) (states : ℕ → ProcState) (answered : ℕ → ℕ) (first : List Note) (S : State) (taken : ℕ → ℕ)
    (second : List Note) (T : State) (taken' : ℕ → ℕ) → Tells processes states answered first S taken
    → Tells processes S.states (λ q. answered q + length (numbers_in q first)) second T taken'
    → Tells processes states answered (first ++ second) T taken'
Tells-then processes states answered first S taken second T taken' h k =
    grind (arith, common_steps, Tallies-along, numbers_in-append, length-append, AreCountedFrom-append, Each-append)
