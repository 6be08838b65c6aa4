-- Items in order of arrival, one of which comes or goes: for `ArrivalList::push` and `ArrivalList::take`.
use Rattle.std.proofs.Common.{◌≡◌, ℕ, ◌+◌, ◌<◌, Bool, true, false, cond, leb, subst, Some, None, List, [], ◌∷◌, ◌++◌, refl, ap, ◌∙◌, sym, zero, suc, arith}
use Rattle.std.proofs.lemmas.Bool.Decides.{nat_tests}
use Rattle.std.specs.Prelude.{slice_get}
use Rattle.std.specs.List.{AllByRecursion, remove}
use Rattle.summary_tree.specs.Cuts.{IsCutBy, put_before, without_first}
use Rattle.arrival_list.specs.declared.arrived.Arrived.{Arrived}
use Rattle.arrival_list.specs.Arrivals.{AreRisingTo, is_from, items_of}

later_passes : (n a b : ℕ) → leb n a ≡ true → a < b → leb n b ≡ true
later_passes n a b one other = grind (arith, nat_tests)

each_later : {T : Type 0} (n : ℕ) (a : Arrived T) (arrived : List (Arrived T)) → is_from n a ≡ true → AllByRecursion (λ b. a.arrival < b.arrival) arrived
    → AllByRecursion (λ b. is_from n b ≡ true) arrived
each_later n a [] from all = tt
each_later n a (b ∷ arrived) from all = (later_passes n a.arrival b.arrival from all.0, each_later n a arrived from all.1)

-- the items are cut at each arrival
pub cut_at : {T : Type 0} (n next : ℕ) (arrived : List (Arrived T)) → AreRisingTo next arrived → IsCutBy (is_from n) arrived
cut_at n next [] rising = tt
cut_at n next (a ∷ arrived) rising = (λ from. each_later n a arrived from rising.1, cut_at n next arrived rising.2)

came_before : (next a : ℕ) → a < next → leb next a ≡ false
came_before next a before = grind (arith, nat_tests)

-- the next item comes last
pub put_last : {T : Type 0} (next : ℕ) (x : Arrived T) (arrived : List (Arrived T)) → AreRisingTo next arrived → put_before (is_from next) x arrived ≡ arrived ++ x ∷ []
put_last next x [] rising = refl
put_last next x (a ∷ arrived) rising =
    ap (λ b. cond b (x ∷ a ∷ arrived) (a ∷ put_before (is_from next) x arrived)) (came_before next a.arrival rising.0)
    ∙ ap (λ l. a ∷ l) (put_last next x arrived rising.2)

all_and_last : {X : Type 0} (P : X → Type 0) (xs : List X) (x : X) → AllByRecursion P xs → P x → AllByRecursion P (xs ++ x ∷ [])
all_and_last P [] x all last = (last, tt)
all_and_last P (y ∷ xs) x all last = (all.0, all_and_last P xs x all.1 last)

pub rising_with : {T : Type 0} (next : ℕ) (x : Arrived T) (arrived : List (Arrived T)) → x.arrival ≡ next → AreRisingTo next arrived → AreRisingTo (next + 1) (arrived ++ x ∷ [])
rising_with next x [] is rising = (omega (arith, is), tt, tt)
rising_with next x (a ∷ arrived) is rising = (
  omega (arith, rising.0),
  all_and_last _ arrived x rising.1 (omega (arith, is, rising.0)),
  rising_with next x arrived is rising.2,
)

all_without : {X : Type 0} (P : X → Type 0) (p : X → Bool) (xs : List X) → AllByRecursion P xs → AllByRecursion P (without_first p xs)
all_without P p [] all = tt
all_without P p (x ∷ xs) all = elim (p x) as (λ b. AllByRecursion P (cond b xs (x ∷ without_first p xs))) [ true ↦ all.1 | false ↦ (all.0, all_without P p xs all.1) ]

pub rising_without : {T : Type 0} (next : ℕ) (p : Arrived T → Bool) (arrived : List (Arrived T)) → AreRisingTo next arrived → AreRisingTo next (without_first p arrived)
rising_without next p [] rising = tt
rising_without next p (a ∷ arrived) rising =
    elim (p a) as (λ b. AreRisingTo next (cond b arrived (a ∷ without_first p arrived)))
    [ true ↦ rising.2 | false ↦ (rising.0, all_without (λ b. a.arrival < b.arrival) p arrived rising.1, rising_without next p arrived rising.2) ]

at_its_own : (n : ℕ) → leb n n ≡ true
at_its_own n = grind (arith, nat_tests)

get_among : {X : Type 0} (P : X → Type 0) (xs : List X) (i : ℕ) (x : X) → AllByRecursion P xs → slice_get xs i ≡ Some x → P x
get_among P [] i x all is = absurd (cc)
get_among P (y ∷ xs) zero x all is = (let same : y ≡ x = cc in subst P same all.0)
get_among P (y ∷ xs) (suc i) x all is = get_among P xs i x all.1 is

-- the first item from the arrival of the one at a place on is that one
pub taken_at : {T : Type 0} (next place : ℕ) (a : Arrived T) (arrived : List (Arrived T)) → AreRisingTo next arrived → slice_get arrived place ≡ Some a
    → without_first (is_from a.arrival) arrived ≡ remove arrived place
taken_at next place a [] rising is = absurd (cc)
taken_at next zero a (b ∷ arrived) rising is =
    (let same : b ≡ a = cc in ap (λ c. cond c arrived (b ∷ without_first (is_from a.arrival) arrived)) (ap (λ d. is_from d.arrival b) (sym same) ∙ at_its_own b.arrival))
taken_at next (suc place) a (b ∷ arrived) rising is =
    ap (λ c. cond c arrived (b ∷ without_first (is_from a.arrival) arrived)) (came_before a.arrival b.arrival (get_among _ arrived place a rising.1 is))
    ∙ ap (λ l. b ∷ l) (taken_at next place a arrived rising.2 is)

-- of no items none goes
nothing_goes : {X : Type 0} (place : ℕ) → remove {X = X} [] place ≡ []
nothing_goes zero = refl
nothing_goes (suc place) = refl

-- the items alone without the one at a place
pub items_without : {T : Type 0} (arrived : List (Arrived T)) (place : ℕ) → items_of (remove arrived place) ≡ remove (items_of arrived) place
items_without {T} [] place = ap items_of (nothing_goes place) ∙ sym (nothing_goes place)
items_without (a ∷ arrived) zero = refl
items_without (a ∷ arrived) (suc place) = ap (λ l. a.item ∷ l) (items_without arrived place)

-- where there is no item at the place, none goes
pub none_goes : {X : Type 0} (xs : List X) (place : ℕ) → slice_get xs place ≡ None → remove xs place ≡ xs
none_goes [] place none = nothing_goes place
none_goes (x ∷ xs) zero none = absurd (cc)
none_goes (x ∷ xs) (suc place) none = ap (λ l. x ∷ l) (none_goes xs place none)
