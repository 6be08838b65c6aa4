-- What the closing of descriptors releases: for `Tables::close_fd` and `Tables::dup2`.
use Rattle.fd_table.proofs.Common.{rules, ◌≡◌, ◌≢◌, ℕ, zero, suc, ◌<◌, ◌≤◌, cond, eqb, List, [], ◌∷◌, length, get_or, Option, Some, None, sym, ap, ◌∙◌, inl, inr, arith, Contains, common_steps, option_map, IsStrictlyIncreasing, cases_eq, eq-eqb, ne_eqb, same_Some, none-some, Released, AreExactly, without_one, ClosesOne, Descriptors, SameDescriptors, description_numbered, with_descriptor}
use Rattle.std.proofs.Common.{◌↔◌}
use Rattle.std.specs.Option.{option_to_list}
use Rattle.std.proofs.lemmas.Bool.{eqb-true}
use Rattle.fd_table.specs.declared.releases.Closed.{Closed}
use Rattle.fd_table.specs.Releases.{ClosesFile, ClosesDescription, AreReleased, TellsLastClose, IsClosing, released_by, nothing}
use Rattle.fd_table.specs.Descriptors.{IsOpen}
use Rattle.fd_table.specs.Calls.{MovesTo}
use Rattle.fd_table.proofs.RowsLemmas.{place_cases}
use Rattle.fd_table.proofs.CallLemmas.{same as same_descriptors}

-- a list of one contains just that
pub contains_one : {X : Type 0} (y x : X) → Contains (y ∷ []) x → y ≡ x
contains_one {X} y x h = at h.0 h.1 h.2
  where
    at : (k : ℕ) → k < 1 → get_or (y ∷ []) k x ≡ x → y ≡ x
    at zero within found = found
    at (suc k) within found = absurd (omega arith)

pub one_contains : {X : Type 0} (y x : X) → y ≡ x → Contains (y ∷ []) x
one_contains y x same = (zero, omega arith, same)

-- the empty list contains nothing
pub contains_none : {X : Type 0} (x : X) → Contains [] x → ⊥
contains_none x h = omega (arith, h.1)

-- a list of one number at most rises
rising_short : (xs : List ℕ) → length xs ≤ 1 → IsStrictlyIncreasing xs
rising_short xs short = λ k within. absurd (omega (arith, short, within))

-- a descriptor that is open after one is closed was open before, and is another
pub open_before : (D : Descriptors) (p fd x : ℕ) → IsOpen (without_one D p fd) x → IsOpen D x
open_before D p fd x h = grind (arith, common_steps, place_cases, none-some)

-- a description that another descriptor refers to stays open
pub open_after : (D : Descriptors) (p fd d x : ℕ) → D.description_of p fd ≡ Some d → x ≢ d → IsOpen D x → IsOpen (without_one D p fd) x
open_after D p fd d x refers differs h = grind (arith, common_steps, place_cases, same_Some)

-- what is closed for good is told as the last
last_told : (D E : Descriptors) (d : ℕ) (last : Option ℕ) → IsOpen D d → ((x : ℕ) → x ≢ d → IsOpen D x → IsOpen E x) → TellsLastClose E d last
    → AreExactly (option_to_list last) (ClosesDescription D E)
last_told D E d last h h2 h3 = grind (arith, common_steps, rising_short, contains_none, cases_eq, contains_one, one_contains)

-- the file of one closed descriptor
file_told : (D : Descriptors) (p fd d file : ℕ) → D.description_of p fd ≡ Some d
    → option_map (λ o. o.file) (description_numbered D.descriptions d) ≡ Some file → AreExactly (file ∷ []) (ClosesFile D p (λ k. eqb k fd))
file_told D p fd d file refers is = grind (arith, common_steps, rising_short, eq-eqb, contains_one, eqb-true, same_Some, one_contains)

-- what the closing of one descriptor releases, where afterwards as many descriptions are open
pub released_one : (D E : Descriptors) (p fd : ℕ) (closed : Closed) → ClosesOne D p fd closed
    → ((x : ℕ) → IsOpen (without_one D p fd) x ↔ IsOpen E x) → AreReleased D E p (λ k. eqb k fd) (released_by (Some closed))
released_one D E p fd closed h same = search (rules, file_told, last_told, open_after)

-- a closed descriptor releases nothing
pub released_none : (D E : Descriptors) (p fd : ℕ) → D.description_of p fd ≡ None → ((x : ℕ) → IsOpen D x → IsOpen E x)
    → AreReleased D E p (λ k. eqb k fd) nothing
released_none D E p fd closed kept = grind (arith, common_steps, rising_short, contains_none, none-some, eqb-true)

-- another descriptor of the process stays as it is
pub without_one-other : (D : Descriptors) (p fd from : ℕ) → from ≢ fd → (without_one D p fd).description_of p from ≡ D.description_of p from
without_one-other D p fd from apart = grind (arith, common_steps, place_cases)

-- a descriptor that gets a description that is open leaves as many open
pub open_with : (D : Descriptors) (p fd from d : ℕ) → D.description_of p from ≡ Some d → from ≢ fd → (x : ℕ)
    → IsOpen (without_one D p fd) x ↔ IsOpen (with_descriptor D p fd d) x
open_with D p fd from d refers apart x = (
  λ h.
      elim (place_cases p fd h.process h.fd) [
        | inl here ↦ absurd (none-some x (sym (ap (λ b. cond b None (D.description_of h.process h.fd)) here.2) ∙ h.refers))
        | inr there ↦ grind (arith, common_steps)
      ],
  λ h.
      elim (place_cases p fd h.process h.fd) [
        | inl here ↦
            let same : d ≡ x = same_Some d x (sym (ap (λ b. cond b (Some d) (D.description_of h.process h.fd)) here.2) ∙ h.refers) in
            record {
              process = p;
              fd = from;
              refers = without_one-other D p fd from apart ∙ refers ∙ ap Some same;
            }
        | inr there ↦ grind (arith, common_steps)
      ],
)

-- a closed descriptor that is closed again leaves as many open
pub open_without_closed : (D : Descriptors) (p fd x : ℕ) → D.description_of p fd ≡ None → IsOpen D x → IsOpen (without_one D p fd) x
open_without_closed D p fd x closed h = grind (arith, common_steps, place_cases, none-some)

-- what dup2 releases: the closing of the number, whose place is then taken by an open description
pub released_moving : (D : Descriptors) (p fd from d : ℕ) (closed : Option Closed) → D.description_of p from ≡ Some d → from ≢ fd
    → IsClosing D p fd closed → AreReleased D (with_descriptor D p fd d) p (λ k. eqb k fd) (released_by closed)
released_moving D p fd from d None refers apart h =
    released_none D (with_descriptor D p fd d) p fd h (λ x was. (open_with D p fd from d refers apart x).0 (open_without_closed D p fd x h was))
released_moving D p fd from d (Some closed) refers apart h =
    released_one D (with_descriptor D p fd d) p fd closed h (open_with D p fd from d refers apart)

-- a description at a place that is closed first
pub moved_after_close : (D : Descriptors) (p fd d : ℕ) → SameDescriptors (with_descriptor D p fd d) (with_descriptor (without_one D p fd) p fd d)
moved_after_close D p fd d = grind (arith, common_steps, place_cases)

-- dup2 of a descriptor onto itself
pub moves_onto_itself : (D : Descriptors) (p fd to d : ℕ) (released : Released) → to ≡ fd → released ≡ nothing → MovesTo D p fd to d released D
moves_onto_itself D p fd to d released same none = grind (arith, common_steps, eq-eqb, same_descriptors)

-- dup2 of a descriptor to another number
pub moves_elsewhere : (D : Descriptors) (p fd to d : ℕ) (closed : Option Closed) (released : Released) → D.description_of p fd ≡ Some d → fd ≢ to
    → IsClosing D p to closed → released ≡ released_by closed → MovesTo D p fd to d released (with_descriptor D p to d)
moves_elsewhere D p fd to d closed released refers apart closing is = grind (arith, common_steps, ne_eqb, same_descriptors, released_moving)
