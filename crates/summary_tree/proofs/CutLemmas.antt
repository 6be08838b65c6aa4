-- Where a list that a test cuts in two is split, too.
use Rattle.std.proofs.Common.{◌≡◌, ◌<◌, Bool, true, false, cond, ◌&&◌, ◌||◌, Option, Some, None, List, [], ◌∷◌, ◌++◌, length, refl, ap, ◌∙◌, subst, arith}
use Rattle.std.specs.List.{find, list_any, AllByRecursion}
use Rattle.std.specs.Option.{option_or}
use Rattle.std.proofs.lemmas.List.Folds.{find-append}
use Rattle.summary_tree.specs.Cuts.{IsCutBy, first_passes, last_passes, both, unless}
use Rattle.summary_tree.proofs.Splits.{NonePasses, EachPasses, all_back}

all_front : {X : Type 0} (P : X → Type 0) (l m : List X) → AllByRecursion P (l ++ m) → AllByRecursion P l
all_front P [] m h = tt
all_front P (y ∷ l) m h = (h.0, all_front P l m h.1)

cut_front : {X : Type 0} (p : X → Bool) (l m : List X) → IsCutBy p (l ++ m) → IsCutBy p l
cut_front p [] m h = tt
cut_front p (y ∷ l) m h = (λ e. all_front (λ z. p z ≡ true) l m (h.0 e), cut_front p l m h.1)

cut_back : {X : Type 0} (p : X → Bool) (l m : List X) → IsCutBy p (l ++ m) → IsCutBy p m
cut_back p [] m h = h
cut_back p (y ∷ l) m h = cut_back p l m h.1

back_passes_at : {X : Type 0} (p : X → Bool) (y : X) (l m : List X) (b : Bool) → p y ≡ b → IsCutBy p (y ∷ (l ++ m)) → (b || list_any p l) ≡ true → (IsCutBy p (l ++ m) → list_any p l ≡ true → EachPasses p m) → EachPasses p m
back_passes_at p y l m true e h a f = all_back (λ z. p z ≡ true) l m (h.0 e)
back_passes_at p y l m false e h a f = f h.1 a

-- where some item of l passes, each of m does
pub back_passes : {X : Type 0} (p : X → Bool) (l m : List X) → IsCutBy p (l ++ m) → list_any p l ≡ true → EachPasses p m
back_passes p [] m h a = absurd (cc)
back_passes p (y ∷ l) m h a = back_passes_at p y l m (p y) refl h a (back_passes p l m)

front_fails_at : {X : Type 0} (p : X → Bool) (y : X) (l : List X) (x : X) (m : List X) (b : Bool) → p y ≡ b → IsCutBy p (y ∷ (l ++ x ∷ m)) → p x ≡ false → NonePasses p l → NonePasses p (y ∷ l)
front_fails_at p y l x m true e h f n = let t : p x ≡ true = (all_back (λ z. p z ≡ true) l (x ∷ m) (h.0 e)).0 in absurd (cc)
front_fails_at p y l x m false e h f n = (e, n)

-- where the first of m fails, so does each of l
pub front_fails : {X : Type 0} (p : X → Bool) (l m : List X) → IsCutBy p (l ++ m) → 0 < length m → first_passes p m ≡ false → NonePasses p l
front_fails p [] m h n f = tt
front_fails p (y ∷ l) [] h n f = absurd (omega arith)
front_fails p (y ∷ l) (x ∷ m) h n f = front_fails_at p y l x m (p y) refl h f (front_fails p l (x ∷ m) h.1 n f)

last_fails_at : {X : Type 0} (p : X → Bool) (x y : X) (xs : List X) (b : Bool) → p x ≡ b → IsCutBy p (x ∷ y ∷ xs) → NonePasses p (y ∷ xs) → NonePasses p (x ∷ y ∷ xs)
last_fails_at p x y xs true e h n = let t : p y ≡ true = (h.0 e).0 in absurd (cc (t, n.0))
last_fails_at p x y xs false e h n = (e, n)

-- where the last fails, each does
pub last_fails : {X : Type 0} (p : X → Bool) (xs : List X) → IsCutBy p xs → last_passes p xs ≡ false → NonePasses p xs
last_fails p [] h f = tt
last_fails p (x ∷ []) h f = (f, tt)
last_fails p (x ∷ y ∷ xs) h f = last_fails_at p x y xs (p x) refl h (last_fails p (y ∷ xs) h.1 f)

or_true : (b c : Bool) → c ≡ true → (b || c) ≡ true
or_true true c h = refl
or_true false c h = h

-- where the last passes, some item does
pub any_at_last : {X : Type 0} (p : X → Bool) (xs : List X) → last_passes p xs ≡ true → list_any p xs ≡ true
any_at_last p [] h = absurd (cc)
any_at_last p (x ∷ []) h = ap (λ b. b || false) h
any_at_last p (x ∷ y ∷ xs) h = or_true (p x) (list_any p (y ∷ xs)) (any_at_last p (y ∷ xs) h)

first_fails : {X : Type 0} (p : X → Bool) (b r : List X) → 0 < length b → NonePasses p b → first_passes p (b ++ r) ≡ false
first_fails p [] r n h = absurd (omega arith)
first_fails p (x ∷ b) r n h = h.0

longer : {X : Type 0} (b r : List X) → 0 < length b → 0 < length (b ++ r)
longer [] r n = absurd (omega arith)
longer (x ∷ b) r n = omega arith

pub same_first : {X : Type 0} (p : X → Bool) (b r : List X) → 0 < length b → first_passes p (b ++ r) ≡ first_passes p b
same_first p [] r n = absurd (omega arith)
same_first p (x ∷ b) r n = refl

-- what is known of a list xs that is cut by a test and split into l, b and r
pub record IsSplit {X : Type 0} (p : X → Bool) (l b r : List X) : Type 0 where
  pub left : IsCutBy p l
  pub block : IsCutBy p b
  pub right : IsCutBy p r
  pub rest : IsCutBy p (b ++ r)
  pub fails : last_passes p b ≡ false → NonePasses p l × NonePasses p b
  pub starts : first_passes p b ≡ false → NonePasses p l
  pub passes : list_any p b ≡ true → EachPasses p r

pub split_at : {X : Type 0} (p : X → Bool) (xs l b r : List X) → xs ≡ l ++ (b ++ r) → 0 < length b → IsCutBy p xs → IsSplit p l b r
split_at p xs l b r is filled h =
    let all = subst (IsCutBy p) is h in
    let rest = cut_back p l (b ++ r) all in
    let block = cut_front p b r rest in
    record {
      left = cut_front p l (b ++ r) all;
      block = block;
      right = cut_back p b r rest;
      rest = rest;
      fails = λ f. (front_fails p l (b ++ r) all (longer b r filled) (first_fails p b r filled (last_fails p b block f)), last_fails p b block f);
      starts = λ f. front_fails p l (b ++ r) all (longer b r filled) (same_first p b r filled ∙ f);
      passes = λ a. back_passes p b r rest a;
    }

-- where each passes the one test, both find what the other finds
pub found_by_both : {X : Type 0} (p q : X → Bool) (xs : List X) → EachPasses p xs → find (both p q) xs ≡ find q xs
found_by_both p q [] h = refl
found_by_both p q (x ∷ xs) h = ap (λ b. cond (b && q x) (Some x) (find (both p q) xs)) h.0 ∙ ap (λ o. cond (q x) (Some x) o) (found_by_both p q xs h.1)

-- where none passes the one test, both find none
pub none_by_both : {X : Type 0} (p q : X → Bool) (xs : List X) → NonePasses p xs → find (both p q) xs ≡ None
none_by_both p q [] h = refl
none_by_both p q (x ∷ xs) h = ap (λ b. cond (b && q x) (Some x) (find (both p q) xs)) h.0 ∙ none_by_both p q xs h.1

-- where the first of b passes, so does each from it on
pub each_from_first : {X : Type 0} (p : X → Bool) (b r : List X) → 0 < length b → IsCutBy p (b ++ r) → first_passes p b ≡ true → EachPasses p (b ++ r)
each_from_first p [] r filled h f = absurd (omega arith)
each_from_first p (x ∷ b) r filled h f = (f, h.0 f)

none_unless_at : {X : Type 0} (p : X → Bool) (x : X) (b : Bool) (rest : Option X) → p x ≡ true → unless p rest ≡ None → unless p (cond b (Some x) rest) ≡ None
none_unless_at p x true rest passes none = ap (λ b. cond b None (Some x)) passes
none_unless_at p x false rest passes none = none

-- what is found where each passes isn't one that doesn't
none_unless : {X : Type 0} (p q : X → Bool) (m : List X) → EachPasses p m → unless p (find q m) ≡ None
none_unless p q [] h = refl
none_unless p q (x ∷ m) h = none_unless_at p x (q x) (find q m) h.0 (none_unless p q m h.1)

unless_or : {X : Type 0} (p : X → Bool) (one other : Option X) → unless p other ≡ None → unless p (option_or one other) ≡ unless p one
unless_or p None other none = none
unless_or p (Some x) other none = refl

-- where each of m passes the one test, the first that passes the other is that of l, unless it passes both
pub unless_front : {X : Type 0} (p q : X → Bool) (xs l m : List X) → xs ≡ l ++ m → EachPasses p m → unless p (find q xs) ≡ unless p (find q l)
unless_front p q xs l m is h = ap (λ all. unless p (find q all)) is ∙ (ap (unless p) (find-append q l m) ∙ unless_or p (find q l) (find q m) (none_unless p q m h))
