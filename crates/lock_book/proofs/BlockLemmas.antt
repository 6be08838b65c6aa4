-- Who blocks a lock, read off the lists of owners: for `blocked`, `first_hit` and `process_blocks`.
use Rattle.lock_book.proofs.Common.{ℕ, ◌≡◌, ◌≢◌, ◌<◌, ◌≤◌, ◌∙◌, sym, ap, refl, subst, arith, true, false, Option, Some, None, List, [], ◌∷◌, ◌++◌, All, Any, map, common_steps, is_some, MatchOption, Bor, TakesFirst, deref_pair, Yields, lookup, Less, All-push, All-weaker, Mode, Span, OwnerRuns, Covers, HeldConflicts, Owner, Process, Book, is_same_owner, IsBefore, ByteModes, Blocks, list_of, byte_modes_of, AreFound, AreRising, modes_in_list, modes_of}
use Rattle.std.proofs.Common.{◌↔◌}
use Rattle.std.specs.Prelude.{nat_lt, IsTrue, IfSome, IfNone}
use Rattle.std.proofs.lemmas.Bool.{ltb-true, ltb-false}
use Rattle.std.proofs.lemmas.List.Elements.{All-get_or}
use Rattle.std.proofs.lemmas.List.Quantifiers.{Any-push}
use Rattle.range_core.specs.Ranges.{IsFirstHit}
use Rattle.lock_book.specs.Conflicts.{ByteConflict, ProcessBlocks, IsFirstBlocked}
use Rattle.lock_book.proofs.BookLemmas.{list_of-lookup, byte_modes_of-list}
use Rattle.lock_book.proofs.ListLemmas.{Any-append_left}
use Rattle.lock_book.proofs.LoopLemmas.{next_in_loop, earlier_in_loop, later_in_loop, found_in_loop, found_in_part}
use Rattle.lock_book.proofs.OwnerLemmas.{owner_cmp, sorted_from_rising, same_owner, IsBefore-asymmetric, IsBefore-from_less}

-- a process other than the owner blocks where its list has a hit
pub ProcessBlocks-hit : (modes : ByteModes) (process : ℕ) (owner : Owner) (span : Span) (wanted : Mode) (hit : Option ℕ) → Process process ≢ owner
    → IfSome hit (IsFirstHit (modes (Process process)) span wanted)
    → IfNone hit ((byte : ℕ) → Covers span byte → ¬ HeldConflicts (modes (Process process) byte) wanted)
    → IsTrue (is_some hit) ↔ ProcessBlocks modes process owner span wanted
ProcessBlocks-hit modes process owner span wanted hit h h2 h3 = grind (arith, common_steps)

-- one without a mode on any byte doesn't
pub ProcessBlocks-none : (modes : ByteModes) (process : ℕ) (owner : Owner) (span : Span) (wanted : Mode) → modes (Process process) ≡ (λ byte. None)
    → ¬ ProcessBlocks modes process owner span wanted
ProcessBlocks-none modes process owner span wanted none conflict = rw none at conflict.blocks.conflicts

-- an entry of a map of owners, as a loop over it gives it
abbrev pub Item : Type 0
Item = Bor Owner × Bor OwnerRuns

module _ (modes : ByteModes) (owner : Owner) (span : Span) (wanted : Mode) where
  -- the other owner blocks no byte of the range
  abbrev pub NeverBlocks : Owner → Type 0
  NeverBlocks other = (byte : ℕ) → Covers span byte → ¬ Blocks modes owner wanted byte other

  -- of these entries the owner is the least that blocks the least byte
  pub record IsLeast (items : List Item) (byte : ℕ) (other : Owner) : Type 0 where
    pub covered : Covers span byte
    pub blocks : Blocks modes owner wanted byte other
    pub among : Any (λ x. x.0.now ≡ other) items
    pub least_byte : All (λ x. (before : ℕ) → span.first ≤ before → before < byte → ¬ Blocks modes owner wanted before x.0.now) items
    pub least_owner : All (λ x. IsBefore x.0.now other → ¬ Blocks modes owner wanted byte x.0.now) items

  -- what is found among these entries
  abbrev pub IsLeastSoFar : List Item → Option (ℕ × Owner) → Type 0
  IsLeastSoFar items None = All (λ x. NeverBlocks x.0.now) items
  IsLeastSoFar items (Some hit) = IsLeast items hit.0 hit.1

  pub never_from_none : (other : Owner) → ((byte : ℕ) → Covers span byte → ¬ HeldConflicts (modes other byte) wanted) → NeverBlocks other
  never_from_none other none byte covered blocks = none byte covered blocks.conflicts

  pub never_without_modes : (other : Owner) → ((byte : ℕ) → modes other byte ≡ None) → NeverBlocks other
  never_without_modes other free byte covered blocks = rw (free byte) at blocks.conflicts

  pub never_itself : (other : Owner) → other ≡ owner → NeverBlocks other
  never_itself other same byte covered blocks = blocks.another same

  pub never_without_hit : (other : Owner) (hit : Option ℕ) → is_some hit ≡ false
      → IfNone hit ((byte : ℕ) → Covers span byte → ¬ HeldConflicts (modes other byte) wanted) → NeverBlocks other
  never_without_hit other None without none = never_from_none other none
  never_without_hit other (Some byte) without none = absurd (let h : true ≡ false = without in cc)

  -- another owner whose list has a hit is in the way
  pub conflict_from_hit : (other : Owner) (hit : Option ℕ) → other ≢ owner → is_some hit ≡ true → IfSome hit (IsFirstHit (modes other) span wanted)
      → ByteConflict modes owner span wanted
  conflict_from_hit other None different has some = absurd (let h : false ≡ true = has in cc)
  conflict_from_hit other (Some byte) different has some = record {
    byte = byte;
    covered = some.covered;
    other = other;
    blocks = record { another = different; conflicts = some.hit };
  }

  -- one more entry that blocks nothing
  pub least_skip : (items : List Item) (found : Option (ℕ × Owner)) (x : Item) → IsLeastSoFar items found → NeverBlocks x.0.now
      → IsLeastSoFar (items ++ x ∷ []) found
  least_skip items None x least never = All-push (λ y. NeverBlocks y.0.now) items x least never
  least_skip items (Some hit) x least never = record {
    covered = least.covered;
    blocks = least.blocks;
    among = Any-append_left (λ y. y.0.now ≡ hit.1) items (x ∷ []) least.among;
    least_byte = All-push (λ y. (before : ℕ) → span.first ≤ before → before < hit.0 → ¬ Blocks modes owner wanted before y.0.now) items x least.least_byte
        (λ before from below. never before (from, let h = least.covered.1 in omega arith));
    least_owner = All-push (λ y. IsBefore y.0.now hit.1 → ¬ Blocks modes owner wanted hit.0 y.0.now) items x least.least_owner
        (λ before. never hit.0 least.covered);
  }

  before_in : (byte before : ℕ) → Covers span byte → span.first ≤ before → before < byte → Covers span before
  before_in byte before covered from below = (from, let h = covered.1 in omega arith)

  -- the first entry that blocks
  pub least_first : (items : List Item) (x : Item) (byte : ℕ) → IsLeastSoFar items None → x.0.now ≢ owner
      → IsFirstHit (modes x.0.now) span wanted byte → IsLeast (items ++ x ∷ []) byte x.0.now
  least_first items x byte never different hit = record {
    covered = hit.covered;
    blocks = record { another = different; conflicts = hit.hit };
    among = Any-push (λ y. y.0.now ≡ x.0.now) items x refl;
    least_byte = All-push (λ y. (before : ℕ) → span.first ≤ before → before < byte → ¬ Blocks modes owner wanted before y.0.now) items x
        (All-weaker (λ y. NeverBlocks y.0.now) (λ y. (before : ℕ) → span.first ≤ before → before < byte → ¬ Blocks modes owner wanted before y.0.now)
        (λ y none before from below. none before (before_in byte before hit.covered from below)) items never)
        (λ before from below b. hit.least before from below b.conflicts);
    least_owner = All-push (λ y. IsBefore y.0.now x.0.now → ¬ Blocks modes owner wanted byte y.0.now) items x
        (All-weaker (λ y. NeverBlocks y.0.now) (λ y. IsBefore y.0.now x.0.now → ¬ Blocks modes owner wanted byte y.0.now)
        (λ y none earlier. none byte hit.covered) items never)
        (λ itself. absurd (IsBefore-asymmetric x.0.now x.0.now itself itself));
  }

  -- one that blocks a lower byte
  pub least_lower : (items : List Item) (found : ℕ × Owner) (x : Item) (byte : ℕ) → IsLeast items found.0 found.1 → x.0.now ≢ owner
      → IsFirstHit (modes x.0.now) span wanted byte → byte < found.0 → IsLeast (items ++ x ∷ []) byte x.0.now
  least_lower items found x byte least different hit lower = record {
    covered = hit.covered;
    blocks = record { another = different; conflicts = hit.hit };
    among = Any-push (λ y. y.0.now ≡ x.0.now) items x refl;
    least_byte = All-push (λ y. (before : ℕ) → span.first ≤ before → before < byte → ¬ Blocks modes owner wanted before y.0.now) items x
        (All-weaker (λ y. (before : ℕ) → span.first ≤ before → before < found.0 → ¬ Blocks modes owner wanted before y.0.now) (λ y. (before : ℕ) → span.first ≤ before → before < byte → ¬ Blocks modes owner wanted before y.0.now)
        (λ y none before from below. none before from (omega arith)) items least.least_byte)
        (λ before from below b. hit.least before from below b.conflicts);
    least_owner = All-push (λ y. IsBefore y.0.now x.0.now → ¬ Blocks modes owner wanted byte y.0.now) items x
        (All-weaker (λ y. (before : ℕ) → span.first ≤ before → before < found.0 → ¬ Blocks modes owner wanted before y.0.now) (λ y. IsBefore y.0.now x.0.now → ¬ Blocks modes owner wanted byte y.0.now)
        (λ y none earlier. none byte hit.covered.0 lower) items least.least_byte)
        (λ itself. absurd (IsBefore-asymmetric x.0.now x.0.now itself itself));
  }

  -- one that blocks no lower byte, of a later owner
  pub least_not_lower : (items : List Item) (found : ℕ × Owner) (x : Item) (byte : ℕ) → IsLeast items found.0 found.1
      → IsFirstHit (modes x.0.now) span wanted byte → found.0 ≤ byte → All (λ y. IsBefore y.0.now x.0.now) items → IsLeast (items ++ x ∷ []) found.0 found.1
  least_not_lower items found x byte least hit not_lower earlier = record {
    covered = least.covered;
    blocks = least.blocks;
    among = Any-append_left (λ y. y.0.now ≡ found.1) items (x ∷ []) least.among;
    least_byte = All-push (λ y. (before : ℕ) → span.first ≤ before → before < found.0 → ¬ Blocks modes owner wanted before y.0.now) items x least.least_byte
        (λ before from below b. hit.least before from (omega arith) b.conflicts);
    least_owner = All-push (λ y. IsBefore y.0.now found.1 → ¬ Blocks modes owner wanted found.0 y.0.now) items x least.least_owner
        (λ before_found. absurd (
        let found_is = least.among in
        let found_before : IsBefore found.1 x.0.now =
        subst (λ (o : Owner). IsBefore o x.0.now) (ap (λ (y : Item). y.0.now) found_is.3 ∙ found_is.4)
        (All-get_or (λ y. IsBefore y.0.now x.0.now) items found_is.0 found_is.1 found_is.2 earlier) in
        IsBefore-asymmetric found.1 x.0.now found_before before_found));
  }

  -- one that blocks before what is found so far, if anything is
  pub least_replaces : (items : List Item) (found : Option (ℕ × Owner)) (x : Item) (byte : ℕ) → IsLeastSoFar items found → x.0.now ≢ owner
      → IsFirstHit (modes x.0.now) span wanted byte → MatchOption found (IsTrue true) (λ hit. true ≡ nat_lt byte hit.0) → IsLeast (items ++ x ∷ []) byte x.0.now
  least_replaces items None x byte least different hit lower = least_first items x byte least different hit
  least_replaces items (Some found) x byte least different hit lower =
      least_lower items found x byte least different hit (ltb-true byte found.0 (sym lower))

  -- one that doesn't
  pub least_stays : (items : List Item) (found : Option (ℕ × Owner)) (x : Item) (byte : ℕ) → IsLeastSoFar items found
      → IsFirstHit (modes x.0.now) span wanted byte → All (λ y. IsBefore y.0.now x.0.now) items
      → MatchOption found (IsTrue false) (λ hit. false ≡ nat_lt byte hit.0) → IsLeastSoFar (items ++ x ∷ []) found
  least_stays items None x byte least hit earlier lower = absurd (let h : false ≡ true = lower in cc)
  least_stays items (Some found) x byte least hit earlier lower =
      least_not_lower items found x byte least hit (ltb-false byte found.0 (sym lower)) earlier

-- the next entry of a loop has its owner's modes
pub modes_in_loop : (book : Book) (items : List Item) (s t u : List (Owner × OwnerRuns)) (r : Option Item) (x : Item) → s ≡ book.owners
    → Yields (TakesFirst deref_pair) s items t → r ≡ Some x → TakesFirst deref_pair t r u
    → AreFound book.owners → byte_modes_of book x.0.now ≡ modes_of x.1.now
modes_in_loop book items s t u r x start yields is step all =
    byte_modes_of-list book x.0.now (Some x.1.now)
    (list_of-lookup book x.0.now ∙ next_in_loop (λ e. lookup (is_same_owner e.0) book.owners ≡ Some e.1) book.owners items s t u r x start yields is step all)

-- and comes after the entries so far
pub before_in_loop : (book : Book) (items : List Item) (s t u : List (Owner × OwnerRuns)) (r : Option Item) (x : Item) → s ≡ book.owners
    → Yields (TakesFirst deref_pair) s items t → r ≡ Some x → TakesFirst deref_pair t r u → AreRising book.owners
    → All (λ y. IsBefore y.0.now x.0.now) items
before_in_loop book items s t u r x start yields is step rising =
    All-weaker (λ y. owner_cmp y.0.now x.0.now ≡ Less) (λ y. IsBefore y.0.now x.0.now) (λ y less. IsBefore-from_less y.0.now x.0.now less) items
    (earlier_in_loop owner_cmp book.owners items s t u r x start yields is step (sorted_from_rising book.owners rising))

-- what holds of each entry's owner holds of each owner with a list
pub owner_in : (book : Book) (items : List Item) (P : Owner → Type 0) → map deref_pair items ≡ book.owners → All (λ x. P x.0.now) items
    → (other : Owner) (list : OwnerRuns) → list_of book other ≡ Some list → P other
unfolding list_of
owner_in book items P whole all other list found =
    let entry = found_in_loop (λ e. P e.0) book.owners items whole all (is_same_owner other) list found in
    subst P (sym (same_owner other entry.0 entry.1)) entry.2

-- and no owner has a mode where no entry's has
pub no_modes : (book : Book) (items : List Item) → map deref_pair items ≡ book.owners
    → All (λ x. (byte : ℕ) → byte_modes_of book x.0.now byte ≡ None) items → (owner : Owner) (byte : ℕ) → byte_modes_of book owner byte ≡ None
no_modes book items whole none owner byte = elim (list_of book owner) as (λ l. list_of book owner ≡ l → byte_modes_of book owner byte ≡ None) [
  | None ↦ λ is. ap (λ (modes : ℕ → Option Mode). modes byte) (byte_modes_of-list book owner None is)
  | Some list ↦ λ is. owner_in book items (λ o. (b : ℕ) → byte_modes_of book o b ≡ None) whole none owner list is byte
] refl

-- an owner whose mode conflicts has a list
pub list_in : (list : Option OwnerRuns) (byte : ℕ) (wanted : Mode) → HeldConflicts (modes_in_list list byte) wanted → (some : OwnerRuns) × (list ≡ Some some)
list_in None byte wanted conflicts = absurd conflicts
list_in (Some list) byte wanted conflicts = (list, refl)

pub blocked_in : (book : Book) (items : List Item) (P : Owner → Type 0) → map deref_pair items ≡ book.owners → All (λ x. P x.0.now) items
    → (owner other : Owner) (wanted : Mode) (byte : ℕ) → Blocks (byte_modes_of book) owner wanted byte other → P other
unfolding byte_modes_of
blocked_in book items P whole all owner other wanted byte b =
    let list = list_in (list_of book other) byte wanted b.conflicts in
    owner_in book items P whole all other list.0 list.1

-- where no entry blocks nothing does
pub least_none : (book : Book) (items : List Item) (owner : Owner) (span : Span) (wanted : Mode) → map deref_pair items ≡ book.owners
    → IsLeastSoFar (byte_modes_of book) owner span wanted items None → ¬ ByteConflict (byte_modes_of book) owner span wanted
least_none book items owner span wanted whole never conflict =
    blocked_in book items (NeverBlocks (byte_modes_of book) owner span wanted) whole never owner conflict.other wanted conflict.byte conflict.blocks
    conflict.byte conflict.covered conflict.blocks

-- the least of all entries is the first
least_some : (book : Book) (items : List Item) (owner : Owner) (span : Span) (wanted : Mode) (byte : ℕ) (other : Owner)
    → map deref_pair items ≡ book.owners → IsLeast (byte_modes_of book) owner span wanted items byte other
    → IsFirstBlocked (byte_modes_of book) owner span wanted byte other
least_some book items owner span wanted byte other whole least = record {
  covered = least.covered;
  blocks = least.blocks;
  least_byte = λ before any from below b.
      blocked_in book items (λ o. (before : ℕ) → span.first ≤ before → before < byte → ¬ Blocks (byte_modes_of book) owner wanted before o) whole least.least_byte owner any wanted before b
      before from below b;
  least_owner = λ any earlier b.
      blocked_in book items (λ o. IsBefore o other → ¬ Blocks (byte_modes_of book) owner wanted byte o) whole least.least_owner owner any wanted byte b
      earlier b;
}

-- what was found among all entries
pub none_from_least : (book : Book) (items : List Item) (owner : Owner) (span : Span) (wanted : Mode) (found : Option (ℕ × Owner))
    → map deref_pair items ≡ book.owners → IsLeastSoFar (byte_modes_of book) owner span wanted items found
    → IfNone found (¬ ByteConflict (byte_modes_of book) owner span wanted)
none_from_least book items owner span wanted None whole least = least_none book items owner span wanted whole least
none_from_least book items owner span wanted (Some hit) whole least = tt

pub first_from_least : (book : Book) (items : List Item) (owner : Owner) (span : Span) (wanted : Mode) (found : Option (ℕ × Owner))
    → map deref_pair items ≡ book.owners → IsLeastSoFar (byte_modes_of book) owner span wanted items found
    → IfSome found (λ hit. IsFirstBlocked (byte_modes_of book) owner span wanted hit.0 hit.1)
first_from_least book items owner span wanted None whole least = tt
first_from_least book items owner span wanted (Some hit) whole least = least_some book items owner span wanted hit.0 hit.1 whole least

-- the least of the entries so far at the first byte of the range is the first, since those that are left come later
pub first_at_start : (book : Book) (items : List Item) (s t u : List (Owner × OwnerRuns)) (r : Option Item) (x : Item) → s ≡ book.owners
    → Yields (TakesFirst deref_pair) s items t → r ≡ Some x → TakesFirst deref_pair t r u → AreRising book.owners
    → (owner : Owner) (span : Span) (wanted : Mode) (byte : ℕ) → byte ≡ span.first
    → IsLeast (byte_modes_of book) owner span wanted (items ++ x ∷ []) byte x.0.now → IsFirstBlocked (byte_modes_of book) owner span wanted byte x.0.now
unfolding byte_modes_of list_of
first_at_start book items s t u r x start yields is step rising owner span wanted byte at_start least = record {
  covered = least.covered;
  blocks = least.blocks;
  least_byte = λ before any from below. absurd (omega arith);
  least_owner = λ any earlier b.
      let P : Owner → Type 0 = λ o. IsBefore o x.0.now → ¬ Blocks (byte_modes_of book) owner wanted byte o in
      let later : All (λ e. P e.0) u =
      All-weaker (λ e. owner_cmp x.0.now e.0 ≡ Less) (λ e. P e.0) (λ e less before. absurd (IsBefore-asymmetric x.0.now e.0 (IsBefore-from_less x.0.now e.0 less) before)) u
      (later_in_loop owner_cmp book.owners items s t u r x start yields is step (sorted_from_rising book.owners rising)) in
      let list = list_in (list_of book any) byte wanted b.conflicts in
      let entry = found_in_part (λ e. P e.0) book.owners items s t u r x start yields is step least.least_owner later (is_same_owner any) list.0 list.1 in
      subst P (sym (same_owner any entry.0 entry.1)) entry.2 earlier b;
}
