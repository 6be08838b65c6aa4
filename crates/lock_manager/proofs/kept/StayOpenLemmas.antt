-- What is open stays open in the calls that close nothing: for `Machine::close_fd`, `Machine::dup`, `Machine::dup_to` and others.
use Rattle.lock_manager.proofs.Common.{arith, ℕ, ◌≡◌, refl, List, ◌++◌, Some, None, Option, Result, Ok, Err, OnErr, ℤ, slice_get, slice_set, option_map, length-append, common_steps, slice_get_within, slice_get_cases, eqb_tells}
use Rattle.lock_manager.proofs.Common.{Access, FdFault, Limits, Tables, Descriptors, OpenFileDescription, description_numbered, HadMemory, OpenGives, DupGives, ForkGives, SeekGives, ResizeGives, StandFor, locks_of, waits_of, Machine, AreKept, AreOwned}
use Rattle.std.proofs.Common.{eqb-true}
use Rattle.std.proofs.lemmas.List.{get_or_append_left}
use Rattle.lock_manager.proofs.kept.BookLemmas.{slice_get-set_same, slice_get-set_other}
use Rattle.lock_manager.proofs.calls.DescriptorCallLemmas.{Giving, Gave}
use Rattle.lock_manager.proofs.kept.OwnedLemmas.{StayOpen, owned_after}

-- the file of a description
abbrev pub file_of : List OpenFileDescription → ℕ → Option ℕ
file_of descriptions d = option_map (λ opened. opened.file) (description_numbered descriptions d)

file_kept : (xs ys : List OpenFileDescription) (d file : ℕ)
    → file_of xs d ≡ Some file
    → file_of (xs ++ ys) d ≡ Some file
file_kept xs ys d file h = grind (arith, common_steps, slice_get_cases, length-append, get_or_append_left)

-- an open leaves open what was open
pub opened_stays : (limits : Limits) (D E : Descriptors) (p file : ℕ) (access : Access) (fd : ℕ) → OpenGives limits D p file access (Ok fd) E → StayOpen D E
opened_stays limits D E p file access fd gives = grind (arith, common_steps, file_kept, eqb-true)

-- so does dup
pub dupped_stays : (limits : Limits) (D E : Descriptors) (p fd free : ℕ) → DupGives limits D p fd (Ok free) E → StayOpen D E
dupped_stays limits D E p fd free gives = grind (arith, common_steps, eqb-true)

-- a description that is given an offset keeps its file
file_with_offset : (xs : List OpenFileDescription) (i : ℕ) (opened : OpenFileDescription) (offset d file : ℕ) → slice_get xs i ≡ Some opened
    → file_of xs d ≡ Some file → file_of (slice_set xs i (record opened { offset = offset })) d ≡ Some file
file_with_offset xs i opened offset d file h h2 = grind (arith, common_steps, eqb_tells, slice_get-set_same, slice_get_within, slice_get-set_other)

-- so does a seek
pub sought_stays : (D E : Descriptors) (p fd : ℕ) (offset : ℤ) → SeekGives D p fd offset (Ok tt) E → StayOpen D E
sought_stays D E p fd offset gives = grind (arith, common_steps, file_with_offset)

-- so does a resize
pub resized_stays : (D E : Descriptors) (p fd : ℕ) (size : ℤ) → ResizeGives D p fd size (Ok tt) E → StayOpen D E
resized_stays D E p fd size gives = grind (arith, common_steps)

-- so does a fork, since the child had no descriptor before
pub forked_stays : (processes : ℕ) (D E : Descriptors) (p child : ℕ) → ((fd : ℕ) → D.description_of child fd ≡ None)
    → ForkGives processes D p child (Ok tt) E → StayOpen D E
forked_stays processes D E p child none gives f d q is = grind (arith, common_steps, eqb-true)

-- what is kept stays under other tables, where locks and waits of descriptions are of open ones
kept_in : (m : Machine) (tables : Tables) → AreOwned tables (locks_of m.books.items) (waits_of m.waits) → AreKept m.rules.policy tables m.books.items m.waits
kept_in m tables owned = grind (arith, common_steps)

-- so it does after a call that is refused
pub kept_by_refusal : (m : Machine) (tables : Tables) → ((D : Descriptors) → StandFor m.tables D → StandFor tables D)
    → AreKept m.rules.policy tables m.books.items m.waits
kept_by_refusal m tables refused =
    kept_in m tables (owned_after m.tables tables (locks_of m.books.items) (waits_of m.waits) m.kept.owned (λ D stands. (D, λ file d q is. is, refused D stands)))

-- and after one that closes nothing, refused or not
pub kept_by_call : {X : Type 0} (Gives : Giving X) (m : Machine) (tables : Tables) (result : Result X FdFault)
    → ((D E : Descriptors) (x : X) → result ≡ Ok x → StandFor m.tables D → Gives D (Ok x) E → StayOpen D E)
    → (HadMemory result → Gave Gives m.tables tables result)
    → OnErr result ((D : Descriptors) → StandFor m.tables D → StandFor tables D)
    → AreKept m.rules.policy tables m.books.items m.waits
kept_by_call Gives m tables (Ok x) stays step refused =
    kept_in m tables (owned_after m.tables tables (locks_of m.books.items) (waits_of m.waits) m.kept.owned
    (λ D stands. let given = step (λ memory e. cc) D stands in (given.0, stays D given.0 x refl stands given.1, given.2)))
kept_by_call Gives m tables (Err fault) stays step refused = kept_by_refusal m tables refused
