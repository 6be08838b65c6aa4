-- What the calls on descriptors answer and leave is determined.
use Rattle.lock_manager.proofs.Common.{common_steps, ◌≡◌, ℕ, ◌==◌, Bool, true, false, MatchBool, Some, None, Result, Ok, Err, ℤ, sym, ◌∙◌, ap, arith, IsSome, subst, same_Some, cases_lt}
use Rattle.lock_manager.proofs.Common.{Limits, FdFault, Released, AreReleased, nothing, Descriptors, OpenFileDescription, SameDescriptors, with_descriptor, without_descriptors, DupGives, DupToGives, CloseGives, EndGives, ForkGives, SeekGives, ResizeGives, OpenGives, Access}
use Rattle.std.proofs.Common.{pos, ◌<ℤ◌}
use Rattle.std.proofs.lemmas.Int.{ints}
use Rattle.fd_table.specs.Descriptors.{IsFull, IsLowestFree}
use Rattle.fd_table.specs.Calls.{Refers}
use Rattle.lock_manager.proofs.unique.ReleaseLaws.{closing-unique, same_everywhere, both_same}

-- a descriptor that is open isn't free
open_not_free : (D : Descriptors) (p fd : ℕ) → IsSome (D.description_of p fd) → D.description_of p fd ≡ None → ⊥
open_not_free D p fd there free = let h : IsSome {T = ℕ} None = subst IsSome free there in cc

-- the lowest free number is determined
IsLowestFree-unique : (limits : Limits) (D : Descriptors) (p fd other : ℕ) → IsLowestFree limits D p fd → IsLowestFree limits D p other → fd ≡ other
IsLowestFree-unique limits D p fd other h k = grind (arith, common_steps, cases_lt, open_not_free)

-- where each number is taken none is free
IsFull-none : (limits : Limits) (D : Descriptors) (p fd : ℕ) → IsFull limits D p → ¬ IsLowestFree limits D p fd
IsFull-none limits D p fd full h = open_not_free D p fd (full fd h.within) h.free

-- what an open answers and leaves is determined
pub OpenGives-unique : (limits : Limits) (old : Descriptors) (p file : ℕ) (access : Access) (result : Result ℕ FdFault) (D : Descriptors)
    (other : Result ℕ FdFault) (E : Descriptors)
    → OpenGives limits old p file access result D → OpenGives limits old p file access other E → (result ≡ other) × (D ≡ E)
OpenGives-unique limits old p file access result D other E h h2 = grind (arith, common_steps, both_same, IsLowestFree-unique, same_everywhere, IsFull-none)

-- a descriptor refers to one description
one_description : (old : Descriptors) (p fd description other : ℕ) → old.description_of p fd ≡ Some description
    → old.description_of p fd ≡ Some other → description ≡ other
one_description old p fd description other h k = same_Some description other (sym h ∙ k)

pub DupGives-unique : (limits : Limits) (old : Descriptors) (p fd : ℕ) (result : Result ℕ FdFault) (D : Descriptors) (other : Result ℕ FdFault)
    (E : Descriptors)
    → DupGives limits old p fd result D → DupGives limits old p fd other E → (result ≡ other) × (D ≡ E)
DupGives-unique limits old p fd result D other E h h2 =
    grind (arith, common_steps, both_same, open_not_free, IsFull-none, IsLowestFree-unique, same_everywhere, one_description)

MovesTo-unique : (old : Descriptors) (p fd to description : ℕ) (onto_itself : Bool) (released : Released) (D : Descriptors) (other : Released) (E : Descriptors)
    → MatchBool onto_itself ((released ≡ nothing) × SameDescriptors D old) (SameDescriptors D (with_descriptor old p to description)
    × AreReleased old D p (λ k. k == to) released)
    → MatchBool onto_itself ((other ≡ nothing) × SameDescriptors E old) (SameDescriptors E (with_descriptor old p to description)
    × AreReleased old E p (λ k. k == to) other)
    → (released ≡ other) × (D ≡ E)
MovesTo-unique old p fd to description true released D other E h k = (h.0 ∙ sym k.0, both_same D E old h.1 k.1)
MovesTo-unique old p fd to description false released D other E h k =
    closing-unique old (with_descriptor old p to description) p (λ n. n == to) released D other E h.0 h.1 k.0 k.1

pub DupToGives-unique : (limits : Limits) (old : Descriptors) (p fd to : ℕ) (result : Result (ℕ
    × Released) FdFault) (D : Descriptors) (other : Result (ℕ × Released) FdFault) (E : Descriptors)
    → DupToGives limits old p fd to result D → DupToGives limits old p fd to other E → (result ≡ other) × (D ≡ E)
DupToGives-unique limits old p fd to result D other E h h2 = grind (arith, common_steps, both_same, one_description, MovesTo-unique)

pub CloseGives-unique : (old : Descriptors) (p fd : ℕ) (result : Result Released FdFault) (D : Descriptors) (other : Result Released FdFault) (E : Descriptors)
    → CloseGives old p fd result D → CloseGives old p fd other E → (result ≡ other) × (D ≡ E)
CloseGives-unique old p fd (Err fault) D other E h k = grind (arith, common_steps, both_same, open_not_free)
CloseGives-unique old p fd (Ok released) D (Err fault) E h k = grind (arith, common_steps, open_not_free)
CloseGives-unique old p fd (Ok released) D (Ok other) E h k =
    let closed : (released ≡ other) × (D ≡ E) =
    closing-unique old (without_descriptors old p (λ n. n == fd)) p (λ n. n == fd) released D other E h.1 h.2 k.1 k.2 in
    (ap Ok closed.0, closed.1)

pub EndGives-unique : (old : Descriptors) (p : ℕ) (released : Released) (D : Descriptors) (other : Released) (E : Descriptors)
    → EndGives old p released D → EndGives old p other E → (released ≡ other) × (D ≡ E)
EndGives-unique old p released D other E h k =
    closing-unique old (without_descriptors old p (λ n. true)) p (λ n. true) released D other E h.0 h.1 k.0 k.1

pub ForkGives-unique : (processes : ℕ) (old : Descriptors) (p child : ℕ) (result : Result (Unit {0}) FdFault) (D : Descriptors)
    (other : Result (Unit {0}) FdFault) (E : Descriptors)
    → ForkGives processes old p child result D → ForkGives processes old p child other E → (result ≡ other) × (D ≡ E)
ForkGives-unique processes old p child result D other E h h2 = grind (arith, common_steps, both_same)

-- the description to which a descriptor refers, and its number, are determined
Refers-unique : (old : Descriptors) (p fd : ℕ) (opened other : OpenFileDescription) (h : Refers old p fd opened) (k : Refers old p fd other)
    → (h.number ≡ k.number) × (opened ≡ other)
Refers-unique old p fd opened other h k = grind (arith, common_steps, one_description, same_Some)

-- a number below 0 is no count
negative : (offset : ℤ) (n : ℕ) → offset <ℤ pos 0 → offset ≡ pos n → ⊥
negative offset n below is = omega (arith, ints)

pub SeekGives-unique : (old : Descriptors) (p fd : ℕ) (offset : ℤ) (result : Result (Unit {0}) FdFault) (D : Descriptors)
    (other : Result (Unit {0}) FdFault) (E : Descriptors)
    → SeekGives old p fd offset result D → SeekGives old p fd offset other E → (result ≡ other) × (D ≡ E)
SeekGives-unique old p fd offset result D other E h h2 = grind (arith, common_steps, both_same, open_not_free, negative, Refers-unique, same_everywhere)

pub ResizeGives-unique : (old : Descriptors) (p fd : ℕ) (size : ℤ) (result : Result (Unit {0}) FdFault) (D : Descriptors)
    (other : Result (Unit {0}) FdFault) (E : Descriptors)
    → ResizeGives old p fd size result D → ResizeGives old p fd size other E → (result ≡ other) × (D ≡ E)
ResizeGives-unique old p fd size result D other E h h2 = grind (arith, common_steps, both_same, open_not_free, negative, Refers-unique, same_everywhere)
