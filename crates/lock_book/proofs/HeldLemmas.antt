-- The byte locks of a file, owner by owner and run by run: for the report (`held`).
use Rattle.lock_book.proofs.Common.{ℕ, ◌≡◌, ◌<◌, ◌∙◌, sym, ap, refl, subst, arith, true, Option, Some, None, List, [], ◌∷◌, ◌++◌, All, Any, map, inl, inr, AllPairs, deref_pair, All-push, All-append, All-weaker, Mode, OwnerRuns, modes_of, Covers, IsByteRange, IsRun, Owner, Description, Held, Book, IsBefore, ByteModes, list_of, byte_modes_of, flock_modes_of, modes_in_list}
use Rattle.std.specs.Prelude.{◌⊎◌, IsFalse}
use Rattle.std.proofs.lemmas.List.Quantifiers.{all_pairs_push, Any-push}
use Rattle.lock_book.specs.Changes.{whole_file}
use Rattle.lock_book.specs.Conflicts.{FlockModes}
use Rattle.lock_book.specs.Reports.{AreByteLocks, AreFlockLocks, AddsOwnerLocks, IsFlockLine}
use Rattle.lock_book.proofs.BlockLemmas.{Item, owner_in}
use Rattle.lock_book.proofs.OwnerLemmas.{IsBefore-same}
use Rattle.lock_book.proofs.FlockLemmas.{Place, flock_in}
use Rattle.lock_book.proofs.ListLemmas.{Any-append_left, Any-append_right, All-at_Any, AllPairs-append}

-- the order of two byte locks
abbrev pub ComesBefore : Held → Held → Type 0
ComesBefore x y = IsBefore x.owner y.owner ⊎ ((x.owner ≡ y.owner) × (x.span.last < y.span.first))

-- the line is of one run of its owner
abbrev pub IsRunLine : ℕ → ByteModes → Held → Type 0
IsRunLine file modes x = (x.file ≡ file) × IsFalse x.whole × IsRun (modes x.owner) x.span.first x.mode x.span

-- the locks have the owner's mode on the byte
abbrev pub Shows : List Held → Owner → ℕ → Mode → Type 0
Shows locks owner byte mode = Any (λ x. (x.owner ≡ owner) × (x.mode ≡ mode) × Covers x.span byte) locks

-- these are the byte locks of the owners of these entries
pub record AreLocksOf (file : ℕ) (modes : ByteModes) (items : List Item) (locks : List Held) : Type 0 where
  pub in_order : AllPairs ComesBefore locks
  pub each : All (IsRunLine file modes) locks
  pub ranges : All (λ x. IsByteRange x.span) locks
  pub among : All (λ x. Any (λ y. y.0.now ≡ x.owner) items) locks
  pub every : All (λ y. (byte : ℕ) (mode : Mode) → modes y.0.now byte ≡ Some mode → Shows locks y.0.now byte mode) items

-- with the locks of one owner more, which comes after the others, they are those of one entry more
pub locks_of_more : (file : ℕ) (modes : ByteModes) (items : List Item) (x : Item) (old new : List Held) → AreLocksOf file modes items old
    → modes x.0.now ≡ modes_of x.1.now → All (λ y. IsBefore y.0.now x.0.now) items → AddsOwnerLocks file x.0.now (modes_of x.1.now) old new
    → AreLocksOf file modes (items ++ x ∷ []) new
locks_of_more file modes items x old new locks same before adds =
    let runs = adds.added in
    subst (λ (l : List Held). AreLocksOf file modes (items ++ x ∷ []) l) (sym adds.is) (record {
      in_order = AllPairs-append ComesBefore old runs locks.in_order
          (λ i j d earlier within.
          let one = adds.are.each i d (omega arith) in
          let other = adds.are.each j d within in
          inr (one.2 ∙ sym other.2, adds.are.rising i j d earlier within))
          (λ k d within l e inside.
          let line = adds.are.each l e inside in
          let known = All-at_Any (λ y. IsBefore y.0.now x.0.now) (λ y. y.0.now ≡ _) items before (locks.among k d within) in
          inl (IsBefore-same _ _ _ _ known.2 line.2 known.1));
      each = All-append (IsRunLine file modes) old runs locks.each
          (λ k d within.
          let line = adds.are.each k d within in
          (line.0, line.1, rw (line.2, same) line.3));
      ranges = All-append (λ y. IsByteRange y.span) old runs locks.ranges adds.are.ranges;
      among = All-append (λ y. Any (λ z. z.0.now ≡ y.owner) (items ++ x ∷ [])) old runs
          (All-weaker (λ y. Any (λ z. z.0.now ≡ y.owner) items) (λ y. Any (λ z. z.0.now ≡ y.owner) (items ++ x ∷ []))
          (λ y known. Any-append_left (λ z. z.0.now ≡ y.owner) items (x ∷ []) known) old locks.among)
          (λ k d within.
          let line = adds.are.each k d within in
          Any-push (λ z. z.0.now ≡ _) items x (sym line.2));
      every = All-push (λ y. (byte : ℕ) (mode : Mode) → modes y.0.now byte ≡ Some mode → Shows (old ++ runs) y.0.now byte mode) items x
          (All-weaker (λ y. (byte : ℕ) (mode : Mode) → modes y.0.now byte ≡ Some mode → Shows old y.0.now byte mode) (λ y. (byte : ℕ) (mode : Mode) → modes y.0.now byte ≡ Some mode → Shows (old ++ runs) y.0.now byte mode)
          (λ y shows byte mode has. Any-append_left (λ z. (z.owner ≡ y.0.now) × (z.mode ≡ mode) × Covers z.span byte) old runs (shows byte mode has)) items locks.every)
          (λ byte mode has.
          let has_mode : modes_of x.1.now byte ≡ Some mode = rw (← same) has in
          let shown = adds.are.every byte mode has_mode in
          Any-append_right (λ z. (z.owner ≡ x.0.now) × (z.mode ≡ mode) × Covers z.span byte) old runs
          (let line = adds.are.each shown.0 shown.1 shown.2 in
          (shown.0, shown.1, shown.2, shown.3, (ap (λ (h : Held). h.owner) (sym shown.3) ∙ line.2, shown.4.0, shown.4.1))));
    })

-- a mode of a book stands in a list
list_with : (list : Option OwnerRuns) (byte : ℕ) (mode : Mode) → modes_in_list list byte ≡ Some mode → (some : OwnerRuns) × (list ≡ Some some)
list_with None byte mode has = absurd (let h : None ≡ Some mode = has in cc)
list_with (Some list) byte mode has = (list, refl)

-- the locks of all entries are the byte locks
pub all_byte_locks : (book : Book) (file : ℕ) (items : List Item) (locks : List Held) → map deref_pair items ≡ book.owners
    → AreLocksOf file (byte_modes_of book) items locks → AreByteLocks file (byte_modes_of book) locks
unfolding byte_modes_of
all_byte_locks book file items locks whole are = record {
  in_order = are.in_order;
  each = are.each;
  every = λ owner byte mode has.
      let list = list_with (list_of book owner) byte mode has in
      owner_in book items (λ o. (b : ℕ) (m : Mode) → byte_modes_of book o b ≡ Some m → Shows locks o b m) whole are.every owner list.0 list.1 byte mode has;
}

-- the line shows the description's mode
abbrev pub ShowsFlock : List Held → ℕ → Mode → Type 0
ShowsFlock locks description mode = Any (λ x. (x.owner ≡ Description description) × (x.mode ≡ mode)) locks

-- these are the flock locks of the descriptions of these places
pub record AreFlocksOf (file : ℕ) (modes : FlockModes) (items : List Place) (locks : List Held) : Type 0 where
  pub in_order : AllPairs (λ x y. IsBefore x.owner y.owner) locks
  pub each : All (IsFlockLine file modes) locks
  pub among : All (λ x. Any (λ y. Description y.0.now ≡ x.owner) items) locks
  pub every : All (λ y. (mode : Mode) → y.1.now ≡ Some mode → ShowsFlock locks y.0.now mode) items

-- one empty place more
pub flocks_of_empty : (file : ℕ) (modes : FlockModes) (items : List Place) (x : Place) (locks : List Held) → AreFlocksOf file modes items locks
    → x.1.now ≡ None → AreFlocksOf file modes (items ++ x ∷ []) locks
flocks_of_empty file modes items x locks are empty = record {
  in_order = are.in_order;
  each = are.each;
  among = All-weaker (λ y. Any (λ z. Description z.0.now ≡ y.owner) items) (λ y. Any (λ z. Description z.0.now ≡ y.owner) (items ++ x ∷ []))
      (λ y known. Any-append_left (λ z. Description z.0.now ≡ y.owner) items (x ∷ []) known) locks are.among;
  every = All-push (λ y. (mode : Mode) → y.1.now ≡ Some mode → ShowsFlock locks y.0.now mode) items x are.every
      (λ mode has. absurd (let h : None ≡ Some mode = sym empty ∙ has in cc));
}

-- one place with a mode more, of a later description, and its line
pub flocks_of_more : (file : ℕ) (modes : FlockModes) (items : List Place) (x : Place) (mode : Mode) (locks : List Held) (line : Held)
    → AreFlocksOf file modes items locks → modes x.0.now ≡ x.1.now → x.1.now ≡ Some mode → All (λ y. y.0.now < x.0.now) items
    → line ≡ record { file = file; whole = true; owner = Description x.0.now; mode = mode; span = whole_file }
    → AreFlocksOf file modes (items ++ x ∷ []) (locks ++ line ∷ [])
flocks_of_more file modes items x mode locks line are same has earlier is =
    let owner : line.owner ≡ Description x.0.now = ap (λ (l : Held). l.owner) is in
    let line_mode : line.mode ≡ mode = ap (λ (l : Held). l.mode) is in
    record {
      in_order = all_pairs_push (λ y z. IsBefore y.owner z.owner) locks line are.in_order
          (λ k d within.
          let known = All-at_Any (λ y. y.0.now < x.0.now) (λ y. Description y.0.now ≡ _) items earlier (are.among k d within) in
          let lower : IsBefore (Description known.0.0.now) (Description x.0.now) = known.1 in
          IsBefore-same _ _ _ _ known.2 owner lower);
      each = All-push (IsFlockLine file modes) locks line are.each (record {
        same_file = ap (λ (l : Held). l.file) is;
        whole = ap (λ (l : Held). l.whole) is;
        span = ap (λ (l : Held). l.span) is;
        description = x.0.now;
        owner = owner;
        mode = same ∙ has ∙ ap (λ (m : Mode). Some m) (sym line_mode);
      });
      among = All-push (λ y. Any (λ z. Description z.0.now ≡ y.owner) (items ++ x ∷ [])) locks line
          (All-weaker (λ y. Any (λ z. Description z.0.now ≡ y.owner) items) (λ y. Any (λ z. Description z.0.now ≡ y.owner) (items ++ x ∷ []))
          (λ y known. Any-append_left (λ z. Description z.0.now ≡ y.owner) items (x ∷ []) known) locks are.among)
          (Any-push (λ z. Description z.0.now ≡ line.owner) items x (sym owner));
      every = All-push (λ y. (m : Mode) → y.1.now ≡ Some m → ShowsFlock (locks ++ line ∷ []) y.0.now m) items x
          (All-weaker (λ y. (m : Mode) → y.1.now ≡ Some m → ShowsFlock locks y.0.now m) (λ y. (m : Mode) → y.1.now ≡ Some m → ShowsFlock (locks ++ line ∷ []) y.0.now m)
          (λ y shows m held. Any-append_left (λ z. (z.owner ≡ Description y.0.now) × (z.mode ≡ m)) locks (line ∷ []) (shows m held)) items are.every)
          (λ m held.
          let modes_are : Some mode ≡ Some m = sym has ∙ held in
          let same_mode : mode ≡ m = cc in
          Any-push (λ z. (z.owner ≡ Description x.0.now) × (z.mode ≡ m)) locks line (owner, line_mode ∙ same_mode));
    }

-- the lines of all places are the flock locks
pub all_flock_locks : (book : Book) (file : ℕ) (items : List Place) (locks : List Held) → map deref_pair items ≡ book.flocks.places.entries
    → AreFlocksOf file (flock_modes_of book) items locks → AreFlockLocks file (flock_modes_of book) locks
all_flock_locks book file items locks whole are = record {
  in_order = are.in_order;
  each = are.each;
  every = λ description mode has.
      flock_in book items (λ d held. (m : Mode) → held ≡ Some m → ShowsFlock locks d m) whole are.every description mode has mode refl;
}
