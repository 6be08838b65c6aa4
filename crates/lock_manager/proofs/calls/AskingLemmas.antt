-- The first of a list of which something holds: for `Manager::first_in_the_way`, clause `first`.
use Rattle.lock_manager.proofs.Common.{rules, ℕ, suc, ◌≡◌, ◌≢◌, ◌+◌, ◌-◌, ◌<◌, ◌≤◌, inl, inr, true, List, ◌∷◌, ◌++◌, length, get_or, take, refl, sym, ap, subst, ◌∙◌, All, arith, Option, MatchOption, Some, None, slice_get, length-append, cases_lt, common_steps}
use Rattle.lock_manager.proofs.Common.{Mode, HeldConflicts, Owner, Description, whole_file, Held, Book, byte_modes_of, flock_modes_of, ByteModes, FlockModes, ByteConflict, Bytes, Whole, Wait, locks_of, byte_modes_at, flock_modes_at, IsBlockedIn, IsBlockedByLock, IsBlocked, IsQueued, Machine, State, locks_held, Shows, machine_rules, machine_locks, machine_waits}
use Rattle.std.proofs.Common.{drop, Any, drop-cons, take-append-drop, get_or-take, length-take, get_or-append-add}
use Rattle.std.proofs.Math.Seq.{get_or-append_seam, get_or-append_right}
use Rattle.std.proofs.lemmas.List.{get_or_append_left, get_or_default}
use Rattle.range_core.specs.Ranges.{Conflict}
use Rattle.lock_book.specs.Owners.{IsBefore}
use Rattle.lock_book.specs.Conflicts.{FlockConflict}
use Rattle.lock_book.specs.Reports.{IsFileReport, IsFlockLine}
use Rattle.wait_core.specs.declared.Policy.TheVariants.{Queue}
use Rattle.wait_core.specs.Blocking.{WaitsConflict}
use Rattle.lock_manager.specs.declared.request.InTheWay.{InTheWay}
use Rattle.lock_manager.specs.declared.request.InTheWay.TheVariants as obstacles
use Rattle.lock_manager.specs.Asking.{IsFirstOf, IsFirstByteLock, IsFirstFlock, IsFlockAgainst, IsFirstLockOf, IsFirstInTheWay}
use Rattle.lock_manager.proofs.calls.SetLemmas.{at_state}

-- an item of which it holds is the first, where it holds of none before it
pub first_at : {X : Type 0} (Holds : X → Type 0) (xs : List X) (i : ℕ) (x : X) → i < length xs
    → ((k : ℕ) (d : X) → k < i → ¬ Holds (get_or xs k d)) → Holds (get_or xs i x) → IsFirstOf Holds xs (get_or xs i x)
first_at Holds xs i x within none holds = record {
  before = take i xs;
  after = drop (suc i) xs;
  place = sym (take-append-drop i xs) ∙ ap (λ (l : List _). take i xs ++ l) (drop-cons xs i x within);
  holds = holds;
  none = λ k d below.
      let short : k < i = omega (arith, length-take i xs) in
      subst (λ y. ¬ Holds y) (sym (get_or-take i xs k d short)) (none k d short);
}

-- the first byte lock of the file's book is that of the file
pub first_of_bytes : (books : List Book) (book : Book) (wait : Wait) (first : Option Held) → slice_get books wait.file ≡ Some book → wait.family ≡ Bytes
    → MatchOption first (¬ ByteConflict (byte_modes_of book) wait.owner wait.span wait.mode) (IsFirstByteLock (byte_modes_of book) wait)
    → MatchOption first (¬ IsBlockedByLock (locks_of books) wait) (IsFirstLockOf wait.family (locks_of books) wait)
first_of_bytes books book wait first was family given = grind (arith, common_steps)

-- where no line of a file's report is against the request, no flock lock is
no_flock : (bytes : ByteModes) (flocks : FlockModes) (wait : Wait) (report : List Held) → IsFileReport wait.file bytes flocks report
    → All (λ line. ¬ IsFlockAgainst wait line) report → ¬ FlockConflict flocks wait.owner wait.mode
no_flock bytes flocks wait report is none conflict = search (rules, length-append, get_or-append-add)

-- the place of the first line that is against the request is the least of such a place
place_least : {X : Type 0} (Holds : X → Type 0) (xs : List X) (x : X) (h : IsFirstOf Holds xs x) (k : ℕ) (d : X) → k < length xs → Holds (get_or xs k d)
    → length h.before ≤ k
place_least Holds xs x h k d within holds = elim (cases_lt k (length h.before)) [
  | inl early ↦
      absurd (h.none k d early (subst Holds (ap (λ (l : List _). get_or l k d) h.place ∙ get_or_append_left h.before (x ∷ h.after) d k early) holds))
  | inr late ↦ late
]

-- a line of the file's report that says a flock lock is one of its flock locks
flock_line_at : (file : ℕ) (bytes : ByteModes) (flocks : FlockModes) (report : List Held) (is : IsFileReport file bytes flocks report) (k : ℕ) (d : Held)
    → k < length report → (get_or report k d).whole ≡ true
    → (length is.byte_locks ≤ k) × (k - length is.byte_locks < length is.flock_locks)
    × (get_or report k d ≡ get_or is.flock_locks (k - length is.byte_locks) d)
flock_line_at file bytes flocks report is k d within whole = elim (cases_lt k (length is.byte_locks)) [
  | inl early ↦
      let of_bytes = is.are_bytes.each k d early in
      let same : get_or report k d ≡ get_or is.byte_locks k d =
      ap (λ (l : List Held). get_or l k d) is.is ∙ get_or_append_left is.byte_locks is.flock_locks d k early in
      absurd (grind (arith, common_steps))
  | inr late ↦
      let length_is : length report ≡ length is.byte_locks + length is.flock_locks = ap length is.is ∙ length-append is.byte_locks is.flock_locks in (
        late,
        omega (arith, length_is, within, late),
        ap (λ (l : List Held). get_or l k d) is.is ∙ get_or-append_right is.byte_locks is.flock_locks k d late,
      )
]

-- a flock lock that conflicts is a line of the report that is against the request
against_at : (file : ℕ) (bytes : ByteModes) (flocks : FlockModes) (wait : Wait) (report : List Held) (is : IsFileReport file bytes flocks report) (other : ℕ)
    → Description other ≢ wait.owner → HeldConflicts (flocks other) wait.mode
    → Any (λ line. (line.owner ≡ Description other) × IsFlockAgainst wait line) is.flock_locks
against_at file bytes flocks wait report is other another conflicts = by_mode (flocks other) refl conflicts
  where
    by_mode : (m : Option Mode) → flocks other ≡ m → HeldConflicts m wait.mode
        → Any (λ line. (line.owner ≡ Description other) × IsFlockAgainst wait line) is.flock_locks
    by_mode None none held = absurd held
    by_mode (Some mode) some held =
        let (k, line, within, at, says) = is.are_flocks.every other mode some in
        let own : IsFlockLine file flocks line = subst (IsFlockLine file flocks) at (is.are_flocks.each k line within) in (
          k,
          line,
          within,
          at,
          (
            says.0,
            record {
              whole = own.whole;
              another = λ same. another (sym says.0 ∙ same);
              conflicts = subst (λ (m : Mode). Conflict m wait.mode) (sym says.1) held;
            },
          ),
        )

-- descriptions in order have their numbers in order
comes_before : (one other : ℕ) → IsBefore (Description one) (Description other) → one ≤ other
comes_before one other h = omega (arith, h)

number_of : (one other : ℕ) → Description one ≡ Description other → one ≤ other
number_of one other h = grind (arith, common_steps)

-- the first line of a file's report that says a flock lock in the way says that of the least description
first_flock : (bytes : ByteModes) (flocks : FlockModes) (wait : Wait) (report : List Held) (held : Held) → IsFileReport wait.file bytes flocks report
    → IsFirstOf (IsFlockAgainst wait) report held → IsFirstFlock flocks wait held
first_flock bytes flocks wait report held is first =
    let place = length first.before in
    let all : length report ≡ place + suc (length first.after) = ap length first.place ∙ length-append first.before (held ∷ first.after) in
    let within : place < length report = omega (arith, all) in
    let at : get_or report place held ≡ held =
    ap (λ (l : List Held). get_or l place held) first.place ∙ get_or-append_seam first.before held first.after held in
    let of_flocks = flock_line_at wait.file bytes flocks report is place held within (subst (λ (x : Held). x.whole ≡ true) (sym at) first.holds.whole) in
    let own = place - length is.byte_locks in
    let there : get_or is.flock_locks own held ≡ held = sym of_flocks.2 ∙ at in
    let line : IsFlockLine wait.file flocks held = subst (IsFlockLine wait.file flocks) there (is.are_flocks.each own held of_flocks.1) in
    record {
      description = line.description;
      mode = held.mode;
      holds = line.mode;
      another = λ same. first.holds.another (line.owner ∙ same);
      conflicts = first.holds.conflicts;
      least = λ other another conflicts. is_least of_flocks.0 of_flocks.1 there line other (against_at wait.file bytes flocks wait report is other another conflicts);
      is = same_line held wait.file line.description line.same_file first.holds.whole line.owner line.span;
    }
  where
    same_line : (x : Held) (file description : ℕ) → x.file ≡ file → x.whole ≡ true → x.owner ≡ Description description → x.span ≡ whole_file
        → x ≡ record { file = file; whole = true; owner = Description description; mode = x.mode; span = whole_file }
    same_line x file description h h2 h3 h4 = grind (arith, common_steps)

    is_least : length is.byte_locks ≤ length first.before → length first.before - length is.byte_locks < length is.flock_locks
        → get_or is.flock_locks (length first.before - length is.byte_locks) held ≡ held
        → (line : IsFlockLine wait.file flocks held) (other : ℕ) → Any (λ x. (x.owner ≡ Description other) × IsFlockAgainst wait x) is.flock_locks
        → line.description ≤ other
    is_least from below there line other (k, x, within, at, (owner, against)) =
        let behind = length is.byte_locks + k in
        let length_is : length report ≡ length is.byte_locks + length is.flock_locks = ap length is.is ∙ length-append is.byte_locks is.flock_locks in
        let at_report : get_or report behind x ≡ x =
        ap (λ (l : List Held). get_or l behind x) is.is ∙ get_or-append-add is.byte_locks is.flock_locks k x ∙ at in
        let late : length first.before ≤ behind =
        place_least (IsFlockAgainst wait) report held first behind x (omega (arith, length_is, within))
        (subst (IsFlockAgainst wait) (sym at_report) against) in
        elim (cases_lt (length first.before - length is.byte_locks) k) [
          | inl earlier ↦ comes_before line.description other
              (subst (λ (o : Owner). IsBefore o (Description other)) line.owner
              (subst (IsBefore held.owner) owner
              (subst (λ (y : Held). IsBefore held.owner y.owner) (get_or_default is.flock_locks k held x within ∙ at)
              (subst (λ (y : Held). IsBefore y.owner (get_or is.flock_locks k held).owner) there
              (is.are_flocks.in_order (length first.before - length is.byte_locks) k held earlier within)))))
          | inr past ↦
              let same_place : length first.before - length is.byte_locks ≡ k = omega (arith, late, past, from) in
              let same : held ≡ x =
              sym there ∙ ap (λ (i : ℕ). get_or is.flock_locks i held) same_place ∙ get_or_default is.flock_locks k held x within ∙ at in
              let numbers = sym line.owner ∙ ap (λ (y : Held). y.owner) same ∙ owner in
              number_of line.description other numbers
        ]

-- of flock locks the first line of the file's report says the first
pub first_of_flocks : (books : List Book) (book : Book) (wait : Wait) (items report : List Held) (first : Option Held) → slice_get books wait.file ≡ Some book
    → wait.family ≡ Whole → report ≡ items → IsFileReport wait.file (byte_modes_of book) (flock_modes_of book) items
    → MatchOption first (All (λ line. ¬ IsFlockAgainst wait line) report) (IsFirstOf (IsFlockAgainst wait) report)
    → MatchOption first (¬ IsBlockedByLock (locks_of books) wait) (IsFirstLockOf wait.family (locks_of books) wait)
first_of_flocks books book wait items report first was family same is given =
    let of_file : IsFileReport wait.file (byte_modes_at (slice_get books wait.file)) (flock_modes_at (slice_get books wait.file)) report =
    subst (λ e. IsFileReport wait.file (byte_modes_at e) (flock_modes_at e) report) (sym was)
    (subst (IsFileReport wait.file (byte_modes_of book) (flock_modes_of book)) (sym same) is) in
    subst (λ f. MatchOption first (¬ IsBlockedIn f (locks_of books) wait) (IsFirstLockOf f (locks_of books) wait)) (sym family) (by_case of_file first given)
  where
    by_case : IsFileReport wait.file ((locks_of books).bytes wait.file) ((locks_of books).flocks wait.file) report → (answer : Option Held)
        → MatchOption answer (All (λ line. ¬ IsFlockAgainst wait line) report) (IsFirstOf (IsFlockAgainst wait) report)
        → MatchOption answer (¬ IsBlockedIn Whole (locks_of books) wait) (IsFirstLockOf Whole (locks_of books) wait)
    by_case of_file None none = no_flock ((locks_of books).bytes wait.file) ((locks_of books).flocks wait.file) wait report of_file none
    by_case of_file (Some held) h = first_flock ((locks_of books).bytes wait.file) ((locks_of books).flocks wait.file) wait report held of_file h

-- without one a wait in the queue may be
pub wait_in_the_way : (m : Machine) (wait : Wait) (queued : Option Wait) (first : Option InTheWay) (S : State) → Shows m S
    → ¬ IsBlockedByLock (machine_locks m) wait
    → MatchOption queued (¬ IsQueued (machine_rules m).policy (machine_waits m) wait)
    (λ other. ((machine_rules m).policy ≡ Queue) × IsFirstOf (λ v. WaitsConflict v wait) (machine_waits m) other)
    → MatchOption queued (first ≡ None) (λ other. first ≡ Some (obstacles.Wait other))
    → MatchOption first (¬ IsBlocked (machine_rules m).policy (locks_held S) S.waits wait)
    (IsFirstInTheWay (machine_rules m).policy (locks_held S) S.waits wait)
wait_in_the_way m wait queued first S h h2 h3 h4 = search (rules, at_state)
