-- Tests that cut a list in two.
use Rattle.std.specs.Prelude.{◌≡◌, Bool, true, false, cond, ◌&&◌, List, [], ◌∷◌, Option, Some, None}
use Rattle.std.specs.List.{AllByRecursion}

-- behind an item that passes each passes
abbrev pub IsCutBy : {X : Type 0} → (X → Bool) → List X → Type 0
IsCutBy p [] = Unit {0}
IsCutBy p (x ∷ xs) = (p x ≡ true → AllByRecursion (λ y. p y ≡ true) xs) × IsCutBy p xs

-- whether the first item passes
abbrev pub first_passes : {X : Type 0} → (X → Bool) → List X → Bool
first_passes p [] = false
first_passes p (x ∷ xs) = p x

-- whether the last item passes
abbrev pub last_passes : {X : Type 0} → (X → Bool) → List X → Bool
last_passes p [] = false
last_passes p (x ∷ []) = p x
last_passes p (x ∷ y ∷ xs) = last_passes p (y ∷ xs)

-- the items with one more before the first that passes
abbrev pub put_before : {X : Type 0} → (X → Bool) → X → List X → List X
put_before p x [] = x ∷ []
put_before p x (y ∷ ys) = cond (p y) (x ∷ y ∷ ys) (y ∷ put_before p x ys)

-- the items without the first that passes
abbrev pub without_first : {X : Type 0} → (X → Bool) → List X → List X
without_first p [] = []
without_first p (y ∷ ys) = cond (p y) ys (y ∷ without_first p ys)

-- the items with another one in place of the first that passes
abbrev pub with_first : {X : Type 0} → (X → Bool) → X → List X → List X
with_first p x [] = []
with_first p x (y ∷ ys) = cond (p y) (x ∷ ys) (y ∷ with_first p x ys)

-- the items before the first that passes
abbrev pub before : {X : Type 0} → (X → Bool) → List X → List X
before p [] = []
before p (y ∷ ys) = cond (p y) [] (y ∷ before p ys)

-- the item passes both tests
abbrev pub both : {X : Type 0} → (X → Bool) → (X → Bool) → X → Bool
both p q x = p x && q x

-- the item, unless it passes
abbrev pub unless : {X : Type 0} → (X → Bool) → Option X → Option X
unless p None = None
unless p (Some x) = cond (p x) None (Some x)
