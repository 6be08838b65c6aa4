-- The words of one place, and those of all others, after a store: for `Desk::close`, `Client::closed`, `Client::collect` and others.
use Rattle.table_steps.proofs.Common.{common_steps, ◌≡◌, ◌≢◌, ℕ, suc, zero, ◌+◌, ◌%◌, ◌<◌, ◌≤◌, ◌⊎◌, List, [], ◌∷◌, ◌++◌, length, refl, sym, ap, ◌∙◌, subst, arith, length-append, append_assoc, append-nil, some, some-injective, some-ne-none, IsPrefixOf, Tally, tally_at}
use Rattle.std.proofs.Common.{inl, inr}
use lib.ListN.{get_elem?}
use Rattle.atomic_table.proofs.Lists.{one_turn}
use Rattle.table_steps.specs.Views.{with_tally}

-- one more at the end: an old element, or the new one at its place
pub at_push : {A : Type 0} (l : List A) (a b : A) (j : ℕ) → get_elem? (l ++ a ∷ []) j ≡ some b
    → (get_elem? l j ≡ some b) ⊎ ((j ≡ length l) × (a ≡ b))
at_push [] a b zero e = inr (refl, some-injective a b e)
at_push [] a b (suc j) e = absurd (some-ne-none b (sym e))
at_push (x ∷ xs) a b zero e = inl e
at_push (x ∷ xs) a b (suc j) e = elim (at_push xs a b j e) [ inl h ↦ inl h | inr h ↦ inr (ap suc h.0, h.1) ]

-- two numbers fewer than d apart have cells of their own
pub other_cell : (a b d : ℕ) → a < b → b < a + d → a % d ≢ b % d
other_cell a b d less near e = let same = one_turn a b d (omega arith) near e in absurd (omega arith)

pub some_at : {A : Type 0} (l : List A) (i : ℕ) → i < length l → (a : A) × (get_elem? l i ≡ some a)
some_at [] i h = absurd (omega arith)
some_at (x ∷ xs) zero h = (x, refl)
some_at (x ∷ xs) (suc i) h = some_at xs i (omega arith)

-- an element of the front of a list
pub at_front : {A : Type 0} (l m : List A) (i : ℕ) (a : A) → i < length l → get_elem? (l ++ m) i ≡ some a → get_elem? l i ≡ some a
at_front [] m i a h e = absurd (omega arith)
at_front (x ∷ xs) m zero a h e = e
at_front (x ∷ xs) m (suc i) a h e = at_front xs m i a (omega arith) e

-- a prefix, with the element after it, is a prefix
pub prefix_more : {A : Type 0} (xs ys : List A) (y : A) → IsPrefixOf xs ys → get_elem? ys (length xs) ≡ some y
    → IsPrefixOf (xs ++ y ∷ []) ys
prefix_more xs ys y begins e = rest_more xs begins.0 y (subst (λ (l : List _). get_elem? l (length xs) ≡ some y) begins.1 e)
    begins.1
  where
    after : {A : Type 0} (xs rest : List A) → get_elem? (xs ++ rest) (length xs) ≡ get_elem? rest 0
    after [] rest = refl
    after (x ∷ xs) rest = after xs rest

    rest_more : {A : Type 0} {zs : List A} (xs rest : List A) (y : A) → get_elem? (xs ++ rest) (length xs) ≡ some y
        → zs ≡ xs ++ rest → IsPrefixOf (xs ++ y ∷ []) zs
    rest_more xs [] y e is = absurd (some-ne-none y (sym (sym (after xs []) ∙ e)))
    rest_more xs (z ∷ rest) y e is =
        let same : z ≡ y = some-injective z y (sym (after xs (z ∷ rest)) ∙ e) in
        (rest, is ∙ ap (λ v. xs ++ v ∷ rest) same ∙ sym (append_assoc xs (y ∷ []) rest))

-- a prefix as long as the whole is the whole
pub prefix_all : {A : Type 0} (xs ys : List A) → IsPrefixOf xs ys → length xs ≡ length ys → xs ≡ ys
prefix_all xs ys begins same = grind (arith, common_steps, length-append, append-nil)

pub prefix_longer : {A : Type 0} (xs ys zs : List A) → IsPrefixOf xs ys → IsPrefixOf xs (ys ++ zs)
prefix_longer xs ys zs begins = (begins.0 ++ zs, ap (λ l. l ++ zs) begins.1 ∙ append_assoc xs begins.0 zs)

pub prefix_none : {A : Type 0} (xs ys : List A) → ¬ (0 < length xs) → IsPrefixOf xs ys
prefix_none [] ys n = (ys, refl)
prefix_none (x ∷ xs) ys n = absurd (n (omega arith))

-- tallies
pub tally_here : (ts : List Tally) (p : ℕ) (t : Tally) → tally_at (with_tally ts p t) p ≡ t
tally_here [] zero t = refl
tally_here [] (suc p) t = tally_here [] p t
tally_here (u ∷ us) zero t = refl
tally_here (u ∷ us) (suc p) t = tally_here us p t

pub tally_else : (ts : List Tally) (p q : ℕ) (t : Tally) → q ≢ p → tally_at (with_tally ts p t) q ≡ tally_at ts q
tally_else [] zero zero t n = absurd (n refl)
tally_else [] zero (suc q) t n = refl
tally_else [] (suc p) zero t n = refl
tally_else [] (suc p) (suc q) t n = tally_else [] p q t (λ e. n (ap suc e))
tally_else (u ∷ us) zero zero t n = absurd (n refl)
tally_else (u ∷ us) zero (suc q) t n = refl
tally_else (u ∷ us) (suc p) zero t n = refl
tally_else (u ∷ us) (suc p) (suc q) t n = tally_else us p q t (λ e. n (ap suc e))

pub prefix_length : {A : Type 0} (xs ys : List A) → IsPrefixOf xs ys → length xs ≤ length ys
prefix_length xs ys begins = let e = ap length begins.1 in let f = length-append xs begins.0 in omega arith
