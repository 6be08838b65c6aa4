-- Facts on runs in order.
use Rattle.interval_index.proofs.Common.{◌≡◌, ◌≢◌, ℕ, ◌<◌, ◌≤◌, ◌⊎◌, Bool, true, false, not, cond, ◌&&◌, ◌||◌, leb, Option, Some, None, List, [], ◌∷◌, refl, sym, ap, ◌∙◌, subst, arith, find, AllByRecursion, nat_tests, Holder, Run, RunContents, holder_of, IsBefore, AreOrdered, begins_after, is_from}
use Rattle.std.proofs.Common.{ltb, eqb}
use Rattle.std.specs.List.{filter}
use Rattle.summary_tree.specs.Cuts.{IsCutBy, put_before, with_first, without_first}
use Rattle.interval_index.specs.Tests.{comes_behind, has_key, without, with_run}

-- of keys (f, k, o), (a, l, b) and (c, m, d) in order
abbrev Before : ℕ → ℕ → ℕ → ℕ → ℕ → ℕ → Type 0
Before a l b c m d = (a < c) ⊎ ((a ≡ c) × ((l < m) ⊎ ((l ≡ m) × (b < d))))

abbrev from : ℕ → ℕ → ℕ → ℕ → ℕ → ℕ → Bool
from f k o a l b = ltb f a || (eqb f a && (ltb k l || (eqb k l && leb o b)))

abbrev behind : ℕ → ℕ → ℕ → ℕ → ℕ → ℕ → Bool
behind f k o a l b = ltb f a || (eqb f a && (ltb k l || (eqb k l && ltb o b)))

abbrev is : ℕ → ℕ → ℕ → ℕ → ℕ → ℕ → Bool
is f k o a l b = eqb f a && (eqb k l && eqb o b)

from_later : (f k o a l b c m d : ℕ) → from f k o a l b ≡ true → Before a l b c m d → from f k o c m d ≡ true
from_later f k o a l b c m d h e = grind (arith, nat_tests)

still_behind : (f k o a l b c m d : ℕ) → behind f k o a l b ≡ true → Before a l b c m d → behind f k o c m d ≡ true
still_behind f k o a l b c m d h e = grind (arith, nat_tests)

not_later : (f k o a l b c m d : ℕ) → from f k o a l b ≡ true → Before a l b c m d → is f k o c m d ≡ false
not_later f k o a l b c m d h e = grind (arith, nat_tests)

not_earlier : (f k o a l b : ℕ) → from f k o a l b ≡ false → is f k o a l b ≡ false
not_earlier f k o a l b h = grind (arith, nat_tests)

is_before : (f k o a l b : ℕ) → from f k o a l b ≡ false → Before a l b f k o
is_before f k o a l b h = grind (arith, nat_tests)

is_behind : (f k o a l b : ℕ) → from f k o a l b ≡ true → is f k o a l b ≡ false → Before f k o a l b
is_behind f k o a l b h e = grind (arith, nat_tests)

before_later : (a l b c m d e n g : ℕ) → Before a l b c m d → Before c m d e n g → Before a l b e n g
before_later a l b c m d e n g h i = grind arith

-- each run that comes behind one that passes passes
each_later : (p : Run → Bool) → ((x y : Run) → p x ≡ true → IsBefore x y → p y ≡ true) → (x : Run) (xs : List Run) → p x ≡ true → AllByRecursion (IsBefore x) xs → AllByRecursion (λ y. p y ≡ true) xs
each_later p f x [] h a = tt
each_later p f x (y ∷ ys) h a = (f x y h a.0, each_later p f x ys h a.1)

cut_by : (p : Run → Bool) → ((x y : Run) → p x ≡ true → IsBefore x y → p y ≡ true) → (runs : List Run) → AreOrdered runs → IsCutBy p runs
cut_by p f [] h = tt
cut_by p f (x ∷ xs) h = (λ e. each_later p f x xs e h.1, cut_by p f xs h.2)

-- the runs in order are cut at each key
pub cut_at : (f : ℕ) (h : Holder) (runs : List Run) → AreOrdered runs → IsCutBy (is_from f h) runs
cut_at f h runs s = cut_by (is_from f h) (λ x y e b. from_later f h.class h.number x.span.first x.class x.number y.span.first y.class y.number e b) runs s

-- and behind each
pub cut_behind : (f : ℕ) (h : Holder) (runs : List Run) → AreOrdered runs → IsCutBy (comes_behind f h) runs
cut_behind f h runs s = cut_by (comes_behind f h) (λ x y e b. still_behind f h.class h.number x.span.first x.class x.number y.span.first y.class y.number e b) runs s

begins_later : (t a l b c m d : ℕ) → ltb t a ≡ true → Before a l b c m d → ltb t c ≡ true
begins_later t a l b c m d h e = grind (arith, nat_tests)

-- and behind each byte
pub cut_beyond : (byte : ℕ) (runs : List Run) → AreOrdered runs → IsCutBy (begins_after byte) runs
cut_beyond byte runs s = cut_by (begins_after byte) (λ x y e b. begins_later byte x.span.first x.class x.number y.span.first y.class y.number e b) runs s

-- no run has the key
abbrev pub NoneHas : ℕ → Holder → List Run → Type 0
NoneHas f h runs = AllByRecursion (λ run. has_key f h run ≡ false) runs

none_later : (f : ℕ) (h : Holder) (x : Run) (xs : List Run) → is_from f h x ≡ true → AllByRecursion (IsBefore x) xs → NoneHas f h xs
none_later f h x [] e a = tt
none_later f h x (y ∷ ys) e a = (not_later f h.class h.number x.span.first x.class x.number y.span.first y.class y.number e a.0, none_later f h x ys e a.1)

-- where no run has the key, none is found and none is left out
pub none_found : (f : ℕ) (h : Holder) (runs : List Run) → NoneHas f h runs → find (has_key f h) runs ≡ None
none_found f h [] n = refl
none_found f h (x ∷ xs) n = ap (λ b. cond b (Some x) (find (has_key f h) xs)) n.0 ∙ none_found f h xs n.1

pub none_left_out : (f : ℕ) (h : Holder) (runs : List Run) → NoneHas f h runs → without f h runs ≡ runs
none_left_out f h [] n = refl
none_left_out f h (x ∷ xs) n = ap (λ b. cond (not b) (x ∷ without f h xs) (without f h xs)) n.0 ∙ ap (λ ys. x ∷ ys) (none_left_out f h xs n.1)

nothing_at : (f : ℕ) (h : Holder) (x : Run) (xs : List Run) (b : Bool) → is_from f h x ≡ b → cond b (Some x) (find (is_from f h) xs) ≡ None → (find (is_from f h) xs ≡ None → NoneHas f h xs) → NoneHas f h (x ∷ xs)
nothing_at f h x xs true e n ih = absurd (cc)
nothing_at f h x xs false e n ih = (not_earlier f h.class h.number x.span.first x.class x.number e, ih n)

-- where none stands at the key's place or behind it, none has the key
pub nothing_there : (f : ℕ) (h : Holder) (runs : List Run) → find (is_from f h) runs ≡ None → NoneHas f h runs
nothing_there f h [] n = tt
nothing_there f h (x ∷ xs) n = nothing_at f h x xs (is_from f h x) refl n (nothing_there f h xs)

other_at : (f : ℕ) (h : Holder) (x : Run) (xs : List Run) (run : Run) (b : Bool) → is_from f h x ≡ b → AllByRecursion (IsBefore x) xs → has_key f h run ≡ false → cond b (Some x) (find (is_from f h) xs) ≡ Some run → (find (is_from f h) xs ≡ Some run → NoneHas f h xs) → NoneHas f h (x ∷ xs)
other_at f h x xs run true e a k i ih = let same : x ≡ run = cc in (ap (has_key f h) same ∙ k, none_later f h x xs e a)
other_at f h x xs run false e a k i ih = (not_earlier f h.class h.number x.span.first x.class x.number e, ih i)

-- where another stands there, none has the key
pub other_there : (f : ℕ) (h : Holder) (runs : List Run) (run : Run) → AreOrdered runs → find (is_from f h) runs ≡ Some run → has_key f h run ≡ false → NoneHas f h runs
other_there f h [] run s i k = tt
other_there f h (x ∷ xs) run s i k = other_at f h x xs run (is_from f h x) refl s.1 k i (λ j. other_there f h xs run s.2 j k)

-- the run is found, and the first from the key on is left out
pub record IsThere (f : ℕ) (h : Holder) (runs : List Run) (run : Run) : Type 0 where
  pub found : find (has_key f h) runs ≡ Some run
  pub left_out : without f h runs ≡ without_first (is_from f h) runs

there_at : (f : ℕ) (h : Holder) (x : Run) (xs : List Run) (run : Run) (b : Bool) → is_from f h x ≡ b → AllByRecursion (IsBefore x) xs → has_key f h run ≡ true → cond b (Some x) (find (is_from f h) xs) ≡ Some run → (find (is_from f h) xs ≡ Some run → IsThere f h xs run)
    → (cond (has_key f h x) (Some x) (find (has_key f h) xs) ≡ Some run) × (cond (not (has_key f h x)) (x ∷ without f h xs) (without f h xs) ≡ cond b xs (x ∷ without_first (is_from f h) xs))
there_at f h x xs run true e a k i ih =
    let same : x ≡ run = cc in
    let key : has_key f h x ≡ true = ap (has_key f h) same ∙ k in (
      ap (λ c. cond c (Some x) (find (has_key f h) xs)) key ∙ ap Some same,
      ap (λ c. cond (not c) (x ∷ without f h xs) (without f h xs)) key ∙ none_left_out f h xs (none_later f h x xs e a),
    )
there_at f h x xs run false e a k i ih =
    let rest = ih i in
    let key : has_key f h x ≡ false = not_earlier f h.class h.number x.span.first x.class x.number e in (
      ap (λ c. cond c (Some x) (find (has_key f h) xs)) key ∙ rest.found,
      ap (λ c. cond (not c) (x ∷ without f h xs) (without f h xs)) key ∙ ap (λ ys. x ∷ ys) rest.left_out,
    )

-- where a run with the key stands at its place
pub it_is_there : (f : ℕ) (h : Holder) (runs : List Run) (run : Run) → AreOrdered runs → find (is_from f h) runs ≡ Some run → has_key f h run ≡ true → IsThere f h runs run
it_is_there f h [] run s i k = absurd (cc)
it_is_there f h (x ∷ xs) run s i k =
    let all = there_at f h x xs run (is_from f h x) refl s.1 k i (λ j. it_is_there f h xs run s.2 j k) in
    record { found = all.0; left_out = all.1 }

all_without : (P : Run → Type 0) (p : Run → Bool) (xs : List Run) → AllByRecursion P xs → AllByRecursion P (without_first p xs)
all_without P p [] h = tt
all_without P p (x ∷ xs) h =
    elim (p x) as (λ b. AllByRecursion P (cond b xs (x ∷ without_first p xs))) [ true ↦ h.1 | false ↦ (h.0, all_without P p xs h.1) ]

-- without one of them the runs are in order
pub ordered_without : (p : Run → Bool) (runs : List Run) → AreOrdered runs → AreOrdered (without_first p runs)
ordered_without p [] h = tt
ordered_without p (x ∷ xs) h =
    elim (p x) as (λ b. AreOrdered (cond b xs (x ∷ without_first p xs))) [ true ↦ h.2 | false ↦ (h.0, all_without (IsBefore x) p xs h.1, ordered_without p xs h.2) ]

none_has_at : (f : ℕ) (h : Holder) (x : Run) (xs : List Run) (b : Bool) → has_key f h x ≡ b → NoneHas f h (without f h xs) → NoneHas f h (cond (not b) (x ∷ without f h xs) (without f h xs))
none_has_at f h x xs true e n = n
none_has_at f h x xs false e n = (e, n)

-- what is left has no run with the key
pub none_has : (f : ℕ) (h : Holder) (runs : List Run) → NoneHas f h (without f h runs)
none_has f h [] = tt
none_has f h (x ∷ xs) = none_has_at f h x xs (has_key f h x) refl (none_has f h xs)

all_with : (P : Run → Type 0) (p : Run → Bool) (run : Run) (xs : List Run) → P run → AllByRecursion P xs → AllByRecursion P (put_before p run xs)
all_with P p run [] r h = (r, tt)
all_with P p run (x ∷ xs) r h =
    elim (p x) as (λ b. AllByRecursion P (cond b (run ∷ x ∷ xs) (x ∷ put_before p run xs))) [ true ↦ (r, h) | false ↦ (h.0, all_with P p run xs r h.1) ]

before_all : (run x : Run) (xs : List Run) → IsBefore run x → AllByRecursion (IsBefore x) xs → AllByRecursion (IsBefore run) xs
before_all run x [] h a = tt
before_all run x (y ∷ ys) h a =
    (before_later run.span.first run.class run.number x.span.first x.class x.number y.span.first y.class y.number h a.0, before_all run x ys h a.1)

ordered_with_at : (run x : Run) (xs : List Run) (b : Bool) → is_from run.span.first (holder_of run) x ≡ b → run.span.first ≤ run.span.last → AreOrdered (x ∷ xs) → has_key run.span.first (holder_of run) x ≡ false → AreOrdered (with_run run xs) → AreOrdered (cond b (run ∷ x ∷ xs) (x ∷ with_run run xs))
ordered_with_at run x xs true e r h k ih =
    let first : IsBefore run x = is_behind run.span.first run.class run.number x.span.first x.class x.number e k in
    (r, (first, before_all run x xs first h.1), h)
ordered_with_at run x xs false e r h k ih =
    (h.0, all_with (IsBefore x) (is_from run.span.first (holder_of run)) run xs (is_before run.span.first run.class run.number x.span.first x.class x.number e) h.1, ih)

-- with one more run, whose key none has, they are in order
pub ordered_with : (run : Run) (runs : List Run) → run.span.first ≤ run.span.last → AreOrdered runs → NoneHas run.span.first (holder_of run) runs → AreOrdered (with_run run runs)
ordered_with run [] r h k = (r, tt, tt)
ordered_with run (x ∷ xs) r h k = ordered_with_at run x xs (is_from run.span.first (holder_of run) x) refl r h k.0 (ordered_with run xs r h.2 k.1)

replaced_at : (p : Run → Bool) (run x : Run) (xs : List Run) (b : Bool) → p x ≡ b → (p x ≡ true → AllByRecursion (λ y. p y ≡ true) xs) → (found : Run) → cond b (Some x) (find p xs) ≡ Some found
    → (find p xs ≡ Some found → with_first p run xs ≡ put_before p run (without_first p xs))
    → cond b (run ∷ xs) (x ∷ with_first p run xs) ≡ put_before p run (cond b xs (x ∷ without_first p xs))
replaced_at p run x [] true e cut found is ih = refl
replaced_at p run x (y ∷ ys) true e cut found is ih = rw (cut e).0 refl
replaced_at p run x xs false e cut found is ih = rw e (ap (λ ys. x ∷ ys) (ih is))

-- a run that is put in place of the first that passes stands where it would if that one were taken out first
pub replaced : (p : Run → Bool) (run : Run) (runs : List Run) → IsCutBy p runs → (found : Run) → find p runs ≡ Some found → with_first p run runs ≡ put_before p run (without_first p runs)
replaced p run [] cut found is = absurd (cc)
replaced p run (x ∷ xs) cut found is = replaced_at p run x xs (p x) refl cut.0 found is (λ more. replaced p run xs cut.1 found more)

-- so one in place of the run of its key stands where it would among those without that one
pub in_place : (run : Run) (runs : List Run) (held : Run) → AreOrdered runs → find (is_from run.span.first (holder_of run)) runs ≡ Some held → has_key run.span.first (holder_of run) held ≡ true
    → with_first (is_from run.span.first (holder_of run)) run runs ≡ with_run run (without run.span.first (holder_of run) runs)
in_place run runs held ordered found key =
    let there = it_is_there run.span.first (holder_of run) runs held ordered found key in
    replaced (is_from run.span.first (holder_of run)) run runs (cut_at run.span.first (holder_of run) runs ordered) held found
    ∙ ap (put_before (is_from run.span.first (holder_of run)) run) (sym there.left_out)

all_left : (P : Run → Type 0) (p : Run → Bool) (xs : List Run) → AllByRecursion P xs → AllByRecursion P (filter p xs)
all_left P p [] h = tt
all_left P p (x ∷ xs) h = elim (p x) as (λ b. AllByRecursion P (cond b (x ∷ filter p xs) (filter p xs))) [ true ↦ (h.0, all_left P p xs h.1) | false ↦ all_left P p xs h.1 ]

ordered_left : (p : Run → Bool) (xs : List Run) → AreOrdered xs → AreOrdered (filter p xs)
ordered_left p [] h = tt
ordered_left p (x ∷ xs) h = elim (p x) as (λ b. AreOrdered (cond b (x ∷ filter p xs) (filter p xs))) [ true ↦ (h.0, all_left (IsBefore x) p xs h.1, ordered_left p xs h.2) | false ↦ ordered_left p xs h.2 ]

-- and there they are in order
pub ordered_in_place : (run : Run) (runs : List Run) → run.span.first ≤ run.span.last → AreOrdered runs → AreOrdered (with_run run (without run.span.first (holder_of run) runs))
ordered_in_place run runs some ordered =
    ordered_with run (without run.span.first (holder_of run) runs) some (ordered_left (λ other. not (has_key run.span.first (holder_of run) other)) runs ordered) (none_has run.span.first (holder_of run) runs)

none_has_here : (f : ℕ) (h : Holder) (x : Run) (xs : List Run) (b : Bool) → has_key f h x ≡ b → cond b (Some x) (find (has_key f h) xs) ≡ None → (find (has_key f h) xs ≡ None → NoneHas f h xs) → NoneHas f h (x ∷ xs)
none_has_here f h x xs true e n ih = absurd (cc)
none_has_here f h x xs false e n ih = (e, ih n)

-- where none is found no run has the key
pub none_if_not_found : (f : ℕ) (h : Holder) (runs : List Run) → find (has_key f h) runs ≡ None → NoneHas f h runs
none_if_not_found f h [] n = tt
none_if_not_found f h (x ∷ xs) n = none_has_here f h x xs (has_key f h x) refl n (none_if_not_found f h xs)

-- the runs of an index
abbrev pub runs_of : RunContents → List Run
runs_of contents = contents.runs

-- some run has the first byte and the owner, and is the first from there on
abbrev pub Held : ℕ → List Run → Holder → Type 0
Held first runs holder = (held : Run) × (find (is_from first holder) runs ≡ Some held) × (has_key first holder held ≡ true)

-- of the runs of an index, asked by an owner that is this run's
module _ (run : Run) (inside runs new : List Run) (holder : Holder) (is : inside ≡ runs) (same : holder ≡ holder_of run) where
  -- where none has its key, a put adds it
  pub added : find (has_key run.span.first (holder_of run)) runs ≡ None → new ≡ put_before (is_from run.span.first holder) run inside
      → new ≡ with_run run (without run.span.first (holder_of run) runs)
  added none put =
      put ∙ ap (λ (h : Holder). put_before (is_from run.span.first h) run inside) same
      ∙ ap (with_run run) (is ∙ sym (none_left_out run.span.first (holder_of run) runs (none_if_not_found run.span.first (holder_of run) runs none)))

  -- and where one has it, a replace puts it in that one's place
  pub placed : AreOrdered runs → Held run.span.first runs holder → new ≡ with_first (is_from run.span.first holder) run inside
      → new ≡ with_run run (without run.span.first (holder_of run) runs)
  placed ordered held put =
      let its = subst (Held run.span.first runs) same held in
      put ∙ ap (λ (h : Holder). with_first (is_from run.span.first h) run inside) same
      ∙ ap (with_first (is_from run.span.first (holder_of run)) run) is
      ∙ in_place run runs its.0 ordered its.1 its.2

-- a run that is held is found by its key
pub held_found : (first : ℕ) (holder : Holder) (runs : List Run) → AreOrdered runs → Held first runs holder → find (has_key first holder) runs ≢ None
held_found first holder runs ordered held none =
    let there = it_is_there first holder runs held.0 ordered held.1 held.2 in
    absurd (let no : None ≡ Some held.0 = sym none ∙ there.found in cc)

held_here : (first : ℕ) (holder : Holder) (runs : List Run) (run : Run) (b : Bool) → AreOrdered runs → find (has_key first holder) runs ≢ None
    → find (is_from first holder) runs ≡ Some run → has_key first holder run ≡ b → Held first runs holder
held_here first holder runs run true ordered some found key = (run, found, key)
held_here first holder runs run false ordered some found key = absurd (some (none_found first holder runs (other_there first holder runs run ordered found key)))

held_at : (first : ℕ) (holder : Holder) (runs : List Run) (found : Option Run) → AreOrdered runs → find (has_key first holder) runs ≢ None
    → find (is_from first holder) runs ≡ found → Held first runs holder
held_at first holder runs None ordered some none = absurd (some (none_found first holder runs (nothing_there first holder runs none)))
held_at first holder runs (Some run) ordered some found = held_here first holder runs run (has_key first holder run) ordered some found refl

-- and one that is found by its key is held
pub found_held : (first : ℕ) (holder : Holder) (runs : List Run) → AreOrdered runs → find (has_key first holder) runs ≢ None → Held first runs holder
found_held first holder runs ordered some = held_at first holder runs (find (is_from first holder) runs) ordered some refl
