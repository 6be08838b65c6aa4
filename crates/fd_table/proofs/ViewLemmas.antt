-- What is shown after each change stands for the descriptors after the same change: for `Tables::close_one`, `Tables::dup2`, `Tables::end_process`
-- and others.
use Rattle.fd_table.proofs.Common.{arith, ◌≡◌, ◌≢◌, ℕ, zero, suc, ◌+◌, cond, eqb, List, [], ◌∷◌, ◌++◌, length, set, Option, Some, None, refl, ap, subst, ◌∙◌, common_steps, option_map, cases_eq, eq-eqb, ne_eqb, length-set, same_Some, none-some, Descriptors, SameDescriptors, description_numbered, with_descriptor, is_place, without_one, View, Numbered, ViewStandsFor}
use Rattle.std.proofs.Common.{pred, ◌||◌, add-one}
use Rattle.std.specs.List.{slice_get}
use Rattle.std.proofs.lemmas.List.{length-append}
use Rattle.fd_table.specs.declared.Access.{Access}
use Rattle.fd_table.specs.Descriptors.{OpenFileDescription, with_description, with_child, with_offset, with_size}
use Rattle.fd_table.specs.TablesView.{IsSeen}
use Rattle.fd_table.proofs.RowsLemmas.{place_cases}

-- an open descriptor refers to the description that is shown
pub seen_some : (v : View) (D : Descriptors) (p fd : ℕ) (s : Numbered) → ViewStandsFor v D → v.seen p fd ≡ Some s
    → (D.description_of p fd ≡ Some s.number) × (description_numbered D.descriptions s.number ≡ Some s.description)
seen_some v D p fd s h is = subst (λ o. IsSeen o D p fd) is (h.seen p fd)

-- a descriptor that isn't shown is closed
pub seen_none : (v : View) (D : Descriptors) (p fd : ℕ) → ViewStandsFor v D → v.seen p fd ≡ None → D.description_of p fd ≡ None
seen_none v D p fd h is = subst (λ o. IsSeen o D p fd) is (h.seen p fd)

-- what is shown stays true where the same description is found again, perhaps at another place
seen_again : (o : Option Numbered) (D E : Descriptors) (p fd q k : ℕ) → E.description_of q k ≡ D.description_of p fd
    → ((n : ℕ) (x : OpenFileDescription) → description_numbered D.descriptions n ≡ Some x → description_numbered E.descriptions n ≡ Some x)
    → IsSeen o D p fd → IsSeen o E q k
seen_again None D E p fd q k same keeps h = same ∙ h
seen_again (Some s) D E p fd q k same keeps h = (same ∙ h.0, keeps s.number s.description h.1)

-- two descriptors that agree at each place are stood for together
pub stands_for_same : (v : View) (D E : Descriptors) → SameDescriptors E D → ViewStandsFor v D → ViewStandsFor v E
stands_for_same v D E same h = grind (arith, common_steps, seen_again)

-- what is shown of everything but descriptors stays
pub record SameRest (v w : View) : Type 0 where
  pub made : w.made ≡ v.made
  pub sizes : (file : ℕ) → w.sizes file ≡ v.sizes file
  pub born : (p : ℕ) → w.born p ≡ v.born p

-- all that is shown stays
pub stands_for_view : (v w : View) (D : Descriptors) → ((p fd : ℕ) → w.seen p fd ≡ v.seen p fd) → SameRest v w → ViewStandsFor v D → ViewStandsFor w D
stands_for_view v w D seen rest h = grind (arith, common_steps)

-- a descriptor refers to what another one of its process refers to
pub shared : (v w : View) (D : Descriptors) (p from to description : ℕ)
    → ((q k : ℕ) → w.seen q k ≡ cond (is_place p to q k) (v.seen p from) (v.seen q k)) → SameRest v w
    → D.description_of p from ≡ Some description → ViewStandsFor v D → ViewStandsFor w (with_descriptor D p to description)
shared v w D p from to description seen rest refers h = grind (arith, common_steps, place_cases, seen_again)

-- a descriptor is closed
pub closed_one : (v w : View) (D : Descriptors) (p fd : ℕ) → ((q k : ℕ) → w.seen q k ≡ cond (is_place p fd q k) None (v.seen q k)) → SameRest v w
    → ViewStandsFor v D → ViewStandsFor w (without_one D p fd)
closed_one v w D p fd seen rest h = grind (arith, common_steps, place_cases, seen_again)

slice_get_kept : (xs ys : List OpenFileDescription) (i : ℕ) (x : OpenFileDescription) → slice_get xs i ≡ Some x → slice_get (xs ++ ys) i ≡ Some x
slice_get_kept [] ys i x is = absurd (none-some x is)
slice_get_kept (y ∷ xs) ys zero x is = is
slice_get_kept (y ∷ xs) ys (suc i) x is = slice_get_kept xs ys i x is

slice_get_push : (xs : List OpenFileDescription) (x : OpenFileDescription) → slice_get (xs ++ x ∷ []) (length xs) ≡ Some x
slice_get_push [] x = refl
slice_get_push (y ∷ xs) x = slice_get_push xs x

pub numbered_kept : (xs ys : List OpenFileDescription) (n : ℕ) (x : OpenFileDescription) → description_numbered xs n ≡ Some x
    → description_numbered (xs ++ ys) n ≡ Some x
numbered_kept xs ys zero x is = absurd (none-some x is)
numbered_kept xs ys (suc i) x is = slice_get_kept xs ys i x is

pub numbered_push : (xs : List OpenFileDescription) (x : OpenFileDescription) → description_numbered (xs ++ x ∷ []) (length xs + 1) ≡ Some x
numbered_push xs x = ap (description_numbered (xs ++ x ∷ [])) (add-one (length xs)) ∙ slice_get_push xs x

-- the descriptors after an open
abbrev pub after_open : Descriptors → ℕ → ℕ → ℕ → Access → Descriptors
after_open D p fd file access = with_descriptor (with_description D file access) p fd (length D.descriptions + 1)

-- a file is opened: a new description, to which the descriptor refers
pub opened_new : (v w : View) (D : Descriptors) (p fd file : ℕ) (access : Access)
    → ((q k : ℕ) → w.seen q k
    ≡ cond (is_place p fd q k) (Some (record { number = v.made + 1; description = record { file = file; access = access; offset = 0 } })) (v.seen q k))
    → w.made ≡ v.made + 1 → ((x : ℕ) → w.sizes x ≡ v.sizes x) → ((q : ℕ) → w.born q ≡ v.born q)
    → ViewStandsFor v D → ViewStandsFor w (after_open D p fd file access)
opened_new v w D p fd file access seen made sizes born h = grind (arith, common_steps, place_cases, numbered_push, seen_again, numbered_kept, length-append)

-- a child lives with what its parent refers to
pub forked : (v w : View) (D : Descriptors) (p child : ℕ) → ((q k : ℕ) → w.seen q k ≡ cond (eqb q child) (v.seen p k) (v.seen q k))
    → w.made ≡ v.made → ((x : ℕ) → w.sizes x ≡ v.sizes x) → ((q : ℕ) → w.born q ≡ (eqb q child || v.born q))
    → ViewStandsFor v D → ViewStandsFor w (with_child D p child)
forked v w D p child seen made sizes born h = grind (arith, common_steps, cases_eq, eq-eqb, seen_again, ne_eqb)

slice_get-set_same : (xs : List OpenFileDescription) (i : ℕ) (x y : OpenFileDescription) → slice_get xs i ≡ Some y → slice_get (set xs i x) i ≡ Some x
slice_get-set_same [] i x y is = absurd (none-some y is)
slice_get-set_same (z ∷ xs) zero x y is = refl
slice_get-set_same (z ∷ xs) (suc i) x y is = slice_get-set_same xs i x y is

slice_get-set_other : (xs : List OpenFileDescription) (i j : ℕ) (x : OpenFileDescription) → j ≢ i → slice_get (set xs i x) j ≡ slice_get xs j
slice_get-set_other [] i j x differs = refl
slice_get-set_other (z ∷ xs) zero zero x differs = absurd (differs refl)
slice_get-set_other (z ∷ xs) zero (suc j) x differs = refl
slice_get-set_other (z ∷ xs) (suc i) zero x differs = refl
slice_get-set_other (z ∷ xs) (suc i) (suc j) x differs = slice_get-set_other xs i j x (λ same. differs (ap suc same))

numbered_set_same : (xs : List OpenFileDescription) (n : ℕ) (x y : OpenFileDescription) → description_numbered xs n ≡ Some y
    → description_numbered (set xs (pred n) x) n ≡ Some x
numbered_set_same xs zero x y is = absurd (none-some y is)
numbered_set_same xs (suc i) x y is = slice_get-set_same xs i x y is

numbered_set_other : (xs : List OpenFileDescription) (n m : ℕ) (x y z : OpenFileDescription) → m ≢ n → description_numbered xs n ≡ Some y
    → description_numbered xs m ≡ Some z → description_numbered (set xs (pred n) x) m ≡ Some z
numbered_set_other xs n m x y z h h2 h3 = grind (arith, common_steps, none-some, slice_get-set_other)

-- the description with this number gets this offset, if it is the one that is shown
abbrev pub moved : ℕ → ℕ → Numbered → Numbered
moved number offset s = cond (eqb s.number number) (record s { description = record s.description { offset = offset } }) s

seen_moved : (o : Option Numbered) (D : Descriptors) (number offset q k : ℕ) (opened : OpenFileDescription)
    → description_numbered D.descriptions number ≡ Some opened → IsSeen o D q k
    → IsSeen (option_map (moved number offset) o) (with_offset D number opened offset) q k
seen_moved o D number offset q k opened h h2 = grind (arith, common_steps, cases_eq, same_Some, eq-eqb, numbered_set_same, ne_eqb, numbered_set_other)

-- a description gets another offset
pub moved_offset : (v w : View) (D : Descriptors) (number offset : ℕ) (opened : OpenFileDescription)
    → ((q k : ℕ) → w.seen q k ≡ option_map (moved number offset) (v.seen q k)) → SameRest v w
    → description_numbered D.descriptions number ≡ Some opened → ViewStandsFor v D → ViewStandsFor w (with_offset D number opened offset)
moved_offset v w D number offset opened seen rest is h = grind (arith, common_steps, seen_moved, length-set)

-- a file gets another size
pub resized : (v w : View) (D : Descriptors) (file size : ℕ) → ((q k : ℕ) → w.seen q k ≡ v.seen q k) → w.made ≡ v.made
    → ((x : ℕ) → w.sizes x ≡ cond (eqb x file) size (v.sizes x)) → ((q : ℕ) → w.born q ≡ v.born q)
    → ViewStandsFor v D → ViewStandsFor w (with_size D file size)
resized v w D file size seen made sizes born h = grind (arith, common_steps, seen_again)
