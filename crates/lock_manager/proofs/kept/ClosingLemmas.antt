-- What a call that closes descriptors leaves open, and what it releases: for `Machine::close_fd`, `Machine::dup_to` and `Machine::end`.
use Rattle.lock_manager.proofs.Common.{common_steps, ℕ, ◌≡◌, ◌==◌, refl, sym, ◌∙◌, ap, List, Bool, true, false, Ok, Contains, get_or, eq-eqb, arith, ◌&&◌, and_parts, Any-from_list_any, list_any_at, Released, ClosesFile, AreReleased, nothing, Limits, Descriptors, SameDescriptors, without_descriptors, CloseGives, DupToGives, EndGives, IsOpenOn, is_one_of}
use Rattle.std.proofs.Common.{eqb-true}
use Rattle.fd_table.specs.Descriptors.{IsOpen}

-- a member of the list is found
pub one_of : (numbers : List ℕ) (number : ℕ) → Contains numbers number → is_one_of numbers number ≡ true
one_of numbers number h = list_any_at (λ other. other == number) numbers h.0 number h.1 (eq-eqb (get_or numbers h.0 number) number h.2)

-- what is found is a member
pub is_member : (numbers : List ℕ) (number : ℕ) → is_one_of numbers number ≡ true → Contains numbers number
is_member numbers number e = grind (arith, common_steps, Any-from_list_any, eqb-true)

-- all but these descriptors of the process stay, and this is released by that
pub record Closing (D E : Descriptors) (p : ℕ) (released : Released) : Type 0 where
  pub closed : ℕ → Bool
  pub kept : (q k : ℕ) → ((q == p) && closed k) ≡ false → E.description_of q k ≡ D.description_of q k
  pub descriptions : E.descriptions ≡ D.descriptions
  pub are_released : AreReleased D E p closed released

-- the descriptors without some of them
without_kept : (D E : Descriptors) (p : ℕ) (closed : ℕ → Bool) (released : Released) → SameDescriptors E (without_descriptors D p closed)
    → AreReleased D E p closed released → Closing D E p released
without_kept D E p closed released same are = grind (arith, common_steps)

-- close
pub close_closes : (D E : Descriptors) (p fd : ℕ) (released : Released) → CloseGives D p fd (Ok released) E → Closing D E p released
close_closes D E p fd released gives = without_kept D E p (λ k. k == fd) released gives.1 gives.2

-- the end of a process
pub end_closes : (D E : Descriptors) (p : ℕ) (released : Released) → EndGives D p released E → Closing D E p released
end_closes D E p released gives = without_kept D E p (λ k. true) released gives.0 gives.1

-- where nothing changes nothing is closed
nothing_closes : (D E : Descriptors) (p : ℕ) → SameDescriptors E D → Closing D E p nothing
nothing_closes D E p same =
    record {
      closed = λ k. false;
      kept = λ q k other. same.description_of q k;
      descriptions = same.descriptions;
      are_released = grind (arith, common_steps);
    }

-- dup2
pub dup2_closes : (limits : Limits) (D E : Descriptors) (p fd to : ℕ) (answer : ℕ × Released) → DupToGives limits D p fd to (Ok answer) E
    → Closing D E p answer.1
dup2_closes limits D E p fd to answer gives = grind (arith, common_steps, nothing_closes)

-- what is open on a file after the call was open on it before, where it was open at all
pub open_after : (D E : Descriptors) (p : ℕ) (released : Released) (f d : ℕ) → Closing D E p released → IsOpenOn D f d → IsOpen E d → IsOpenOn E f d
open_after D E p released f d closing is after = grind (arith, common_steps)

-- the file of a description that was closed for good is released
pub file_released : (D E : Descriptors) (p : ℕ) (released : Released) (f d : ℕ) → Closing D E p released → IsOpenOn D f d → ¬ IsOpen E d
    → is_one_of released.files f ≡ true
file_released D E p released f d closing is gone =
    let q = is.is_open.process in
    let k = is.is_open.fd in
    one_of released.files f ((closing.are_released.files.each f).1 (at ((q == p) && closing.closed k) refl))
  where
    at : (b : Bool) → ((is.is_open.process == p) && closing.closed is.is_open.fd) ≡ b → ClosesFile D p closing.closed f
    at true e =
        let q = is.is_open.process in
        let k = is.is_open.fd in
        let place : ((q == p) ≡ true) × (closing.closed k ≡ true) = and_parts (q == p) (closing.closed k) e in
        record {
          fd = k;
          is_closed = place.1;
          description = d;
          refers = ap (λ r. D.description_of r k) (sym (eqb-true q p place.0)) ∙ is.is_open.refers;
          of_file = is.of_file;
        }
    at false e =
        absurd (gone (record { process = is.is_open.process; fd = is.is_open.fd; refers = closing.kept is.is_open.process is.is_open.fd e ∙ is.is_open.refers }))

-- a description that was open and isn't told stays open, in that it can't be closed
pub not_closed : (D E : Descriptors) (p : ℕ) (released : Released) (d : ℕ) → Closing D E p released → IsOpen D d
    → is_one_of released.descriptions d ≡ false → ¬ ¬ IsOpen E d
not_closed D E p released d closing is other gone = grind (arith, common_steps, one_of)
