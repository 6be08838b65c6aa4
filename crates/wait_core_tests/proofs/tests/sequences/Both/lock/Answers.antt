use Rattle.std.proofs.Common.{ℕ, ◌≡◌, ◌≢◌, ◌<◌, ◌≤◌, ◌∙◌, inl, inr, sym, ap, subst, List, Some, length, get_or-set_other, length-set}
use Rattle.std.proofs.Math.Logic.{∥∥₁_map}
use Rattle.std.specs.Prelude.{slice_get, slice_set}
use Rattle.std.proofs.lemmas.Bool.{cases_lt}
use Rattle.std.proofs.lemmas.Option.{slice_get-get_or, slice_get_past}
use Rattle.lock_book.specs.declared.book.Book.{Book}
use Rattle.wait_core.specs.Locks.{byte_modes_at, flock_modes_at, locks_of}
use Rattle.wait_core.specs.Settled.{AreBlockedElsewhere, AgreeElsewhere}
use Rattle.wait_core.specs.WaitsView.{AreTold}
use Rattle.wait_core_tests.proofs.tests.sequences.Both.lock.Goals as goal

-- the books but that of the file stay
other_book : (books : List Book) (file other : ℕ) (new : Book) → other ≢ file → slice_get (slice_set books file new) other ≡ slice_get books other
other_book books file other new distinct = elim (cases_lt other (length books)) [
  | inl within ↦
      let inside : other < length (slice_set books file new) = rw (length-set) within in
      slice_get-get_or (slice_set books file new) other new inside ∙ ap (λ (book : Book). Some book) (get_or-set_other books file other new new distinct)
      ∙ sym (slice_get-get_or books other new within)
  | inr past ↦
      let outside : length (slice_set books file new) ≤ other = rw (length-set) past in
      slice_get_past (slice_set books file new) other outside ∙ sym (slice_get_past books other past)
]

agree_elsewhere : (books : List Book) (file i : ℕ) (new : Book) → i ≡ file → AgreeElsewhere file (locks_of books) (locks_of (slice_set books i new))
agree_elsewhere books file i new place = record {
  bytes = λ other owner byte distinct. ap (λ e. byte_modes_at e owner byte) (other_book books i other new (λ same. distinct (same ∙ place)));
  flocks = λ other description distinct. ap (λ e. flock_modes_at e description) (other_book books i other new (λ same. distinct (same ∙ place)));
}

pub invariant_of-self : goal.invariant_of-self
invariant_of-self c =
    let self = c.args.self.now in
    let books = self.books.items in
    let after = slice_set books c.from.result c.set-done.new.self in
    let told_books = c.deref.result.now in
    let is = c.deref.ensures.value in
    let agree : AgreeElsewhere c.args.file (locks_of books) (locks_of told_books) =
    subst (λ (bs : List Book). AgreeElsewhere c.args.file (locks_of books) (locks_of bs)) (sym is)
    (agree_elsewhere books c.args.file c.from.result c.set-done.new.self c.from.ensures) in
    record {
      files = self.files;
      processes = c.refresh.ensures.processes ∙ self.processes;
      told = ∥∥₁_map self.told (λ told. subst (λ (bs : List Book). AreTold c.refresh.new.self (locks_of bs)) is
          (c.refresh.ensures.told (locks_of books) told agree.bytes));
      blocked = ∥∥₁_map self.blocked (λ blocked. subst (λ (bs : List Book). AreBlockedElsewhere c.refresh.new.self (locks_of bs)) is
          (c.refresh.ensures.blocked c.requires.file (locks_of books) blocked agree));
    }
