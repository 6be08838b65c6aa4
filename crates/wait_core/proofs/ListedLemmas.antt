-- The lists of a book's owners, gone over in order, and the set of the processes that block: for `Wait::blocking_by_lock`.
use Rattle.wait_core.proofs.Common.{common_steps, ℕ, suc, ◌≡◌, ◌≢◌, ◌<◌, ◌≤◌, ◌↔◌, ◌∙◌, inl, inr, sym, ap, refl, subst, arith, Bool, true, Option, Some, None, List, [], ◌∷◌, ◌++◌, All, length, IsTrue, slice_get, AllPairs, cases_eq, or_right, nat_tests, All-cons, All-push, All-weaker, All-turn, get_or_from_slice_get, slice_get-get_or, Mode, Span, modes_of, Owner, Process, ByteModes, ProcessBlocks, ProcessSet, byte_modes_at, locks_of, is_member}
use Rattle.std.proofs.Common.{◌==◌, ◌||◌, map}
use Rattle.std.specs.Prelude.{slice_index_or}
use Rattle.std.specs.Borrow.{Bor}
use Rattle.std.specs.Iterator.{Yields}
use Rattle.std.specs.Map.{lookup}
use Rattle.std.specs.Map.Iter.{TakesFirst, deref_pair}
use Rattle.std.proofs.lemmas.List.Elements.{All-append, All-get_or, All-map}
use Rattle.std.proofs.lemmas.Map.Entries.{place_from_lookup}
use Rattle.std.proofs.lemmas.Map.Iter.{rest_so_far, rest_more}
use Rattle.std.proofs.lemmas.Option.{slice_get_within}
use Rattle.owner_runs.specs.declared.owner_runs.OwnerRuns.{OwnerRuns}
use Rattle.range_core.specs.Ranges.{HeldConflicts}
use Rattle.lock_book.specs.declared.Owner.TheVariants.{Description}
use Rattle.lock_book.specs.declared.book.Book.{Book}
use Rattle.lock_book.specs.Books.{byte_modes_of}
use Rattle.lock_book.specs.OwnerLists.{AreFound, AreRising, modes_in_list}
use Rattle.lock_book.specs.Owners.{IsBefore, is_same_owner}
use Rattle.wait_core.specs.declared.processes.TheConstants.{PROCESSES}
use Rattle.wait_core.proofs.BlockingLemmas.{inserted_same, inserted_other}

-- owners that the test takes for one are one
same_owner : (one other : Owner) → is_same_owner one other ≡ true → one ≡ other
same_owner one other h = grind (arith, common_steps, nat_tests)

-- no process comes after a description
description_last : (one other : Owner) (description process : ℕ) → one ≡ Description description → IsBefore one other → other ≢ Process process
description_last one other description process h h2 h3 = grind (arith, common_steps)

-- what holds of each entry holds of the one that a look-up finds
found_among : {K X : Type 0} (P : K × X → Type 0) (entries : List (K × X)) → All P entries → (test : K → Bool) (v : X) → lookup test entries ≡ Some v
    → (k : K) × (test k ≡ true) × P (k, v)
found_among {K} {X} P entries each test v found =
    let place = place_from_lookup test entries v found in (
      place.1,
      place.3,
      subst P (get_or_from_slice_get entries place.0 (place.1, v) (place.1, v) place.2)
          (All-get_or P entries place.0 (place.1, v) (slice_get_within entries place.0 (place.1, v) place.2) each),
    )

-- in order, an entry comes before those behind it
before_rest : {E : Type 0} (R : E → E → Type 0) (before : List E) (x : E) (rest : List E) → AllPairs R (before ++ x ∷ rest) → All (R x) rest
before_rest R [] x rest rising = λ k d within. rising 0 (suc k) d (omega arith) (omega arith)
before_rest R (y ∷ before) x rest rising =
    before_rest R before x rest (λ i j d less within. rising (suc i) (suc j) d (omega arith) (omega arith))

-- an owner's list, as a loop over the lists gives it
abbrev pub Item : Type 0
Item = Bor Owner × Bor OwnerRuns

-- each owner has the modes of its list among these, and none without one
abbrev pub AreLists : List (Owner × OwnerRuns) → ByteModes → Type 0
AreLists lists modes = (owner : Owner) (byte : ℕ) → modes_in_list (lookup (is_same_owner owner) lists) byte ≡ modes owner byte

-- the book of a file has the lists of its owners
pub lists_at : (books : List Book) (i file : ℕ) (book : Book) (lists : List (Owner × OwnerRuns)) → i < length books → book ≡ slice_index_or books i book
    → i ≡ file → AreLists lists (byte_modes_of book) → AreLists lists ((locks_of books).bytes file)
lists_at books i file book lists within is at are owner byte =
    let there : Some book ≡ slice_get books file =
    ap (λ (b : Book). Some b) is ∙ sym (slice_get-get_or books i book within) ∙ ap (slice_get books) at in
    are owner byte ∙ ap (λ (b : Option Book). byte_modes_at b owner byte) there

-- the next list of a loop has the modes of its process
pub modes_in_loop : (lists : List (Owner × OwnerRuns)) (modes : ByteModes) → AreLists lists modes → (items : List Item)
    (s t u : List (Owner × OwnerRuns)) (r : Option Item) (x : Item) → s ≡ lists → Yields (TakesFirst deref_pair) s items t → r ≡ Some x
    → TakesFirst deref_pair t r u → AreFound lists → (k : ℕ) → x.0.now ≡ Process k → (byte : ℕ)
    → modes_of x.1.now byte ≡ modes (Process k) byte
modes_in_loop lists modes are items s t u r x start yields is step each k at byte =
    let here = All-turn deref_pair (λ e. lookup (is_same_owner e.0) lists ≡ Some e.1) lists items s t u r x each start yields is step in
    sym (ap (λ (l : Option OwnerRuns). modes_in_list l byte) here) ∙ are x.0.now byte ∙ ap (λ (o : Owner). modes o byte) at

-- an owner whose mode conflicts has a list
list_in : (list : Option OwnerRuns) (byte : ℕ) (wanted : Mode) → HeldConflicts (modes_in_list list byte) wanted → (some : OwnerRuns) × (list ≡ Some some)
list_in None byte wanted conflicts = absurd conflicts
list_in (Some list) byte wanted conflicts = (list, refl)

module _ (modes : ByteModes) (owner : Owner) (span : Span) (wanted : Mode) where
  -- each process in the set blocks
  abbrev pub OnlyBlocking : ProcessSet → Type 0
  OnlyBlocking set = (q : ℕ) → 1 ≤ q → q ≤ PROCESSES → IsTrue (is_member set q) → ProcessBlocks modes q owner span wanted

  -- the other owner is in the set, where it is a process that blocks
  abbrev pub IsToldIfBlocking : ProcessSet → Owner → Type 0
  IsToldIfBlocking set other = (q : ℕ) → 1 ≤ q → q ≤ PROCESSES → other ≡ Process q → ProcessBlocks modes q owner span wanted → IsTrue (is_member set q)

  -- a process without a mode doesn't block
  pub never_without_modes : (k : ℕ) → ((byte : ℕ) → modes (Process k) byte ≡ None) → ¬ ProcessBlocks modes k owner span wanted
  never_without_modes k free conflict = rw (free conflict.byte) at conflict.blocks.conflicts

  -- one more owner is passed over, which doesn't block
  pub all_after_skip : (set : ProcessSet) (items : List Item) (x : Item) (k : ℕ) → x.0.now ≡ Process k
      → (1 ≤ k → k ≤ PROCESSES → ¬ ProcessBlocks modes k owner span wanted) → All (λ y. IsToldIfBlocking set y.0.now) items
      → All (λ y. IsToldIfBlocking set y.0.now) (items ++ x ∷ [])
  all_after_skip set items x k here never all =
      All-push (λ y. IsToldIfBlocking set y.0.now) items x all
      (λ q one few at conflict.
      let same : k ≡ q = (let twice : Process k ≡ Process q = sym here ∙ at in cc) in
      absurd (never (subst (λ (n : ℕ). 1 ≤ n) (sym same) one) (subst (λ (n : ℕ). n ≤ PROCESSES) (sym same) few)
      (subst (λ (n : ℕ). ProcessBlocks modes n owner span wanted) (sym same) conflict)))

  module _ (old new : ProcessSet) (k : ℕ) (members : (q : ℕ) → is_member new q ≡ (q == k || is_member old q)) where
    -- one more process is put in, which blocks
    pub only_after_put : ProcessBlocks modes k owner span wanted → OnlyBlocking old → OnlyBlocking new
    only_after_put blocks only q one few has = elim (cases_eq q k) [
      | inl same ↦ subst (λ (n : ℕ). ProcessBlocks modes n owner span wanted) (sym same) blocks
      | inr other ↦ only q one few (sym (inserted_other old new k members q other) ∙ has)
    ]

    pub all_after_put : (items : List Item) (x : Item) → x.0.now ≡ Process k → All (λ y. IsToldIfBlocking old y.0.now) items
        → All (λ y. IsToldIfBlocking new y.0.now) (items ++ x ∷ [])
    all_after_put items x here all =
        All-push (λ y. IsToldIfBlocking new y.0.now) items x
        (All-weaker (λ y. IsToldIfBlocking old y.0.now) (λ y. IsToldIfBlocking new y.0.now)
        (λ y before q one few at conflict. members q ∙ or_right (q == k) (is_member old q) (before q one few at conflict)) items all)
        (λ q one few at conflict.
        let same : k ≡ q = (let twice : Process k ≡ Process q = sym here ∙ at in cc) in
        subst (λ (n : ℕ). IsTrue (is_member new n)) same (inserted_same old new k members))

  -- where each list's owner was told, just the processes that block are in the set
  told_of_all : (lists : List (Owner × OwnerRuns)) → AreLists lists modes → (set : ProcessSet) → OnlyBlocking set
      → All (λ e. IsToldIfBlocking set e.0) lists → (q : ℕ) → 1 ≤ q → q ≤ PROCESSES → IsTrue (is_member set q) ↔ ProcessBlocks modes q owner span wanted
  told_of_all lists are set only all q one few = (
    only q one few,
    λ conflict.
        let held = subst (λ (m : Option Mode). HeldConflicts m wanted) (sym (are (Process q) conflict.byte)) conflict.blocks.conflicts in
        let list = list_in (lookup (is_same_owner (Process q)) lists) conflict.byte wanted held in
        let entry = found_among (λ e. IsToldIfBlocking set e.0) lists all (is_same_owner (Process q)) list.0 list.1 in
        entry.2 q one few (sym (same_owner (Process q) entry.0 entry.1)) conflict,
  )

  -- as it is at the end of the lists
  pub told_at_end : (lists : List (Owner × OwnerRuns)) → AreLists lists modes → (set : ProcessSet) (items : List Item) → map deref_pair items ≡ lists
      → OnlyBlocking set → All (λ y. IsToldIfBlocking set y.0.now) items → (q : ℕ) → 1 ≤ q → q ≤ PROCESSES
      → IsTrue (is_member set q) ↔ ProcessBlocks modes q owner span wanted
  told_at_end lists are set items whole only all =
      told_of_all lists are set only
      (subst (λ (es : List (Owner × OwnerRuns)). All (λ e. IsToldIfBlocking set e.0) es) whole (All-map (λ e. IsToldIfBlocking set e.0) deref_pair items all))

  -- and at the first description, since all processes come before it
  pub told_at_description : (lists : List (Owner × OwnerRuns)) → AreLists lists modes → (set : ProcessSet) (items : List Item)
      (s t u : List (Owner × OwnerRuns)) (r : Option Item) (x : Item) → s ≡ lists → Yields (TakesFirst deref_pair) s items t → r ≡ Some x
      → TakesFirst deref_pair t r u → AreRising lists → (description : ℕ) → x.0.now ≡ Description description → OnlyBlocking set
      → All (λ y. IsToldIfBlocking set y.0.now) items → (q : ℕ) → 1 ≤ q → q ≤ PROCESSES
      → IsTrue (is_member set q) ↔ ProcessBlocks modes q owner span wanted
  told_at_description lists are set items s t u r x start yields is step rising description at only all =
      let P : Owner × OwnerRuns → Type 0 = λ e. IsToldIfBlocking set e.0 in
      let split : lists ≡ map deref_pair items ++ deref_pair x ∷ u =
      sym start ∙ rest_so_far deref_pair items s t yields
      ∙ ap (λ (l : List (Owner × OwnerRuns)). map deref_pair items ++ l) (rest_more deref_pair t u r x is step) in
      let rise = subst (λ (l : List (Owner × OwnerRuns)). AreRising l) split rising in
      let later : All P u =
      All-weaker (λ e. IsBefore x.0.now e.0) P (λ e before q one few is_q conflict. absurd (description_last x.0.now e.0 description q at before is_q)) u
      (before_rest (λ one other. IsBefore one.0 other.0) (map deref_pair items) (deref_pair x) u rise) in
      let here : P (deref_pair x) = λ q one few is_q conflict. absurd (let no : Description description ≡ Process q = sym at ∙ is_q in cc) in
      told_of_all lists are set only
      (subst (λ (l : List (Owner × OwnerRuns)). All P l) (sym split)
      (All-append P (map deref_pair items) (deref_pair x ∷ u) (All-map P deref_pair items all) (All-cons P (deref_pair x) u here later)))
