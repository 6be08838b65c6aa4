-- The report of all files, file by file: for `Machine::held`.
use Rattle.lock_manager.proofs.Common.{ℕ, zero, suc, ◌≡◌, ◌+◌, refl, sym, ◌∙◌, ap, subst, List, [], ◌++◌, append_assoc, append-nil, arith, Some, slice_get, Held, Book, byte_modes_of, flock_modes_of, ByteModes, FlockModes, mode_in, flock_mode_in, Locks, locks_of, byte_modes_at, flock_modes_at, Machine, State, locks_held, Shows, machine_locks}
use Rattle.std.proofs.Common.{add-one, add-zero}
use Rattle.lock_book.specs.Reports.{IsFileReport, AreFileReports, IsHeldReport}

-- the report of one more file
reports_push : (first n : ℕ) (bytes : ℕ → ByteModes) (flocks : ℕ → FlockModes) (xs ys : List Held) (file : ℕ)
    → AreFileReports first n bytes flocks xs → file ≡ first + n → IsFileReport file (bytes file) (flocks file) ys
    → AreFileReports first (suc n) bytes flocks (xs ++ ys)
reports_push first zero bytes flocks xs ys file before place report =
    let here : file ≡ first = place ∙ add-zero first in
    (ys, [], rw before (sym (append-nil ys)), subst (λ f. IsFileReport f (bytes f) (flocks f) ys) here report, refl)
reports_push first (suc n) bytes flocks xs ys file before place report =
    let head = before.0 in
    let rest = before.1 in (
      head,
      rest ++ ys,
      ap (λ zs. zs ++ ys) before.2 ∙ append_assoc head rest ys,
      before.3,
      reports_push (first + 1) n bytes flocks rest ys file before.4 (omega arith) report,
    )

-- the report of one more file, by its book
pub reports_more : (books : List Book) (file : ℕ) (book : Book) (xs ys : List Held)
    → slice_get books file ≡ Some book → AreFileReports 0 file (locks_of books).bytes (locks_of books).flocks xs
    → IsFileReport file (byte_modes_of book) (flock_modes_of book) ys
    → AreFileReports 0 (file + 1) (locks_of books).bytes (locks_of books).flocks (xs ++ ys)
reports_more books file book xs ys was before report =
    rw (add-one file)
    (reports_push 0 file (locks_of books).bytes (locks_of books).flocks xs ys file before (omega arith)
    (subst (λ e. IsFileReport file (byte_modes_at e) (flock_modes_at e) ys) (sym was) report))

-- the locks are one record of functions, equal at each place
pub same_locks : (m : Machine) (S : State) → Shows m S → machine_locks m ≡ locks_held S
same_locks m S h i = record { bytes = λ file owner byte. h.bytes file owner byte i; flocks = λ file description. h.flocks file description i }

-- what is held in the books is what is held in each state that the machine stands for
pub held_in_state : (m : Machine) (S : State) (files : ℕ) (report : List Held) → files ≡ 64 → Shows m S
    → AreFileReports 0 files (locks_of m.books.items).bytes (locks_of m.books.items).flocks report
    → IsHeldReport (mode_in S.changes) (flock_mode_in S.flock_changes) report
unfolding machine_locks IsHeldReport
held_in_state m S files report all_files h all =
    subst (λ n. AreFileReports 0 n (mode_in S.changes) (flock_mode_in S.flock_changes) report) all_files
    (subst (λ (locks : Locks). AreFileReports 0 files locks.bytes locks.flocks report) (same_locks m S h) all)
