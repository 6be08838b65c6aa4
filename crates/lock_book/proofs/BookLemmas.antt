-- What a change of one owner's list, or of one description's place, means to the whole book: for each call that sets, reserves or releases.
use Rattle.lock_book.proofs.Common.{common_steps, ℕ, ◌≡◌, ◌≢◌, ◌==◌, ◌∙◌, sym, ap, refl, subst, true, false, cond, Bool, arith, ◌≤◌, ◌+◌, Option, Some, None, Result, Ok, Err, inl, inr, List, if◌then◌else◌, is_some, nat_cmp, option_copied, option_copied_mut, get, Bor, cases_Bool, eqb-true, Mode, Span, OwnerRuns, modes_of, is_covered, Modes, IsByteRange, Owner, Book, is_same_owner, list_of, place_of, byte_modes_of, flock_modes_of, modes_in_list, IsIdle, PutsFor, mode_in_place, lookup, set_value}
use Rattle.std.specs.Prelude.{◌||◌, ◌↔◌, not, IsTrue, IsFalse, OnOk, OnErr, OnSome}
use Rattle.std.specs.Borrow.{MutBor}
use Rattle.range_core.specs.Changes.{SetsMode}
use Rattle.owner_runs.specs.Lists.{room_of}
use Rattle.lock_book.specs.Books.{room_in, has_flock_place, SameBook, SameButRoom, SetsOwnerMode, ReleasesOwner, ClearsOwner, SetsFlock, ReservesFlock, ReleasesFlock}
use Rattle.lock_book.specs.OwnerLists.{room_in_list, EachList}
use Rattle.lock_book.specs.declared.book.holders.FlockHolders.{FlockHolders}
use Rattle.lock_book.specs.Holders.{place_among, PutsAmong}
use Rattle.lock_book.proofs.LargestLemmas.{covers_by}
use Rattle.lock_book.proofs.OwnerLemmas.{lookup-nat_cmp, same_owner, is_same_owner-self}
use Rattle.lock_book.proofs.PutLemmas.{PutsFor-set}

-- what holds anyhow holds on a failure
pub OnErr-anyhow : {T E P : Type 0} (r : Result T E) → P → OnErr r P
OnErr-anyhow (Ok x) holds = tt
OnErr-anyhow (Err e) holds = holds

-- what a book keeps is what a look-up finds
pub list_of-lookup : (book : Book) (owner : Owner) → list_of book owner ≡ lookup (is_same_owner owner) book.owners
unfolding list_of
list_of-lookup book owner = refl

pub place_of-get : (book : Book) (description : ℕ) → place_of book description ≡ get nat_cmp book.flocks.places description
unfolding place_of
place_of-get book description = sym (lookup-nat_cmp description book.flocks.places.entries)

-- the mode that stands in a description's place is its flock mode
pub flock_modes_of-place : (book : Book) (description : ℕ) (mode : Option Mode) → place_of book description ≡ Some mode → flock_modes_of book description ≡ mode
unfolding flock_modes_of
flock_modes_of-place book description mode there = ap mode_in_place there

-- without a value a test says so
pub none_from_test : {A : Type 0} (o : Option A) → is_some o ≡ false → o ≡ None
none_from_test None test = refl
none_from_test (Some x) test = let h : true ≡ false = test in cc

-- a description has no place where its test says so
pub place_of-none : (book : Book) (description : ℕ) → has_flock_place book description ≡ false → place_of book description ≡ None
unfolding has_flock_place
place_of-none book description none = none_from_test (place_of book description) none

-- a test that fails tells two owners apart
pub different_owner : (owner other : Owner) → other ≢ owner → is_same_owner owner other ≡ false
different_owner owner other different = grind (arith, common_steps, cases_Bool, same_owner)

-- new keeps this list for the owner, and all else as old does
pub record PutsList (old new : Book) (owner : Owner) (list : Option OwnerRuns) : Type 0 where
  pub lists : (other : Owner) → list_of new other ≡ (if is_same_owner owner other then list else list_of old other)
  pub places : (description : ℕ) → place_of new description ≡ place_of old description

-- new keeps this place for the description, and all else as old does
pub record PutsPlace (old new : Book) (description : ℕ) (place : Option (Option Mode)) : Type 0 where
  pub lists : (owner : Owner) → list_of new owner ≡ list_of old owner
  pub places : (other : ℕ) → place_of new other ≡ (if description == other then place else place_of old other)

-- these owners have this list in the place of the owner's in a book
abbrev pub PutsAt : Book → List (Owner × OwnerRuns) → Owner → Option OwnerRuns → Type 0
PutsAt old owners owner list = (other : Owner) → lookup (is_same_owner other) owners ≡ (if is_same_owner owner other then list else list_of old other)

-- as a list that is put for the owner makes them
pub PutsAt-puts : (old : Book) (owners : List (Owner × OwnerRuns)) (owner : Owner) (list : Option OwnerRuns) → PutsFor old.owners owners owner list
    → PutsAt old owners owner list
unfolding list_of
PutsAt-puts old owners owner list puts other = puts other

-- also of those that are left where they lent nothing
pub PutsAt-adds : (old : Book) (was owners : List (Owner × OwnerRuns)) (owner : Owner) (list : Option OwnerRuns) → was ≡ old.owners
    → PutsFor was owners owner list → PutsAt old owners owner list
PutsAt-adds old was owners owner list same puts =
    PutsAt-puts old owners owner list (subst (λ (lists : List (Owner × OwnerRuns)). PutsFor lists owners owner list) same puts)

-- in a book with these owners
pub PutsList-puts : (old new : Book) (owner : Owner) (list : Option OwnerRuns) → new.flocks ≡ old.flocks → PutsAt old new.owners owner list
    → PutsList old new owner list
unfolding list_of place_of
PutsList-puts old new owner list same puts = grind (arith, common_steps)

-- the list that a map lends is the owner's
pub list_of-lent : (book : Book) (owner : Owner) (lent : Option (MutBor OwnerRuns)) (list : MutBor OwnerRuns)
    → option_copied_mut lent ≡ lookup (is_same_owner owner) book.owners → lent ≡ Some list → list_of book owner ≡ Some list.now
list_of-lent book owner lent list value is = list_of-lookup book owner ∙ sym value ∙ ap option_copied_mut is

pub list_of-not_lent : (book : Book) (owner : Owner) (lent : Option (MutBor OwnerRuns)) → option_copied_mut lent ≡ lookup (is_same_owner owner) book.owners
    → lent ≡ None → list_of book owner ≡ None
list_of-not_lent book owner lent value is = list_of-lookup book owner ∙ sym value ∙ ap option_copied_mut is

pub list_of-found : (book : Book) (owner : Owner) (found : Option (Bor OwnerRuns)) (list : Bor OwnerRuns)
    → option_copied found ≡ lookup (is_same_owner owner) book.owners → found ≡ Some list → list_of book owner ≡ Some list.now
list_of-found book owner found list value is = list_of-lookup book owner ∙ sym value ∙ ap option_copied is

pub list_of-not_found : (book : Book) (owner : Owner) (found : Option (Bor OwnerRuns)) → option_copied found ≡ lookup (is_same_owner owner) book.owners
    → found ≡ None → list_of book owner ≡ None
list_of-not_found book owner found value is = list_of-lookup book owner ∙ sym value ∙ ap option_copied is

-- the owner's modes are those of its list
pub byte_modes_of-list : (book : Book) (owner : Owner) (list : Option OwnerRuns) → list_of book owner ≡ list → byte_modes_of book owner ≡ modes_in_list list
unfolding byte_modes_of
byte_modes_of-list book owner list is = ap modes_in_list is

-- and a write through it puts a list in its place
pub PutsAt-sets : (old : Book) (owners : List (Owner × OwnerRuns)) (owner : Owner) (before list : OwnerRuns)
    → owners ≡ set_value (is_same_owner owner) old.owners list → list_of old owner ≡ Some before → PutsAt old owners owner (Some list)
PutsAt-sets old owners owner before list sets was =
    PutsAt-puts old owners owner (Some list)
    (subst (λ (lists : List (Owner × OwnerRuns)). PutsFor old.owners lists owner (Some list)) (sym sets)
    (PutsFor-set old.owners owner list (rw (sym (list_of-lookup old owner) ∙ was) refl)))

-- so it is where the owners lent the list
pub list_written : (book : Book) (owners : List (Owner × OwnerRuns)) (owner : Owner) (lent : Option (MutBor OwnerRuns)) (list : MutBor OwnerRuns)
    (after : OwnerRuns) → option_copied_mut lent ≡ lookup (is_same_owner owner) book.owners → lent ≡ Some list
    → OnSome lent (owners ≡ set_value (is_same_owner owner) book.owners after) → (list_of book owner ≡ Some list.now) × PutsAt book owners owner (Some after)
list_written book owners owner lent list after value is sets =
    let was = list_of-lent book owner lent list value is in (was, PutsAt-sets book owners owner list.now after (rw is at sets) was)

-- which a removal takes away
update_removed : (same : Bool) (list rest : Option OwnerRuns) → cond same None (cond same list rest) ≡ cond same None rest
update_removed true list rest = refl
update_removed false list rest = refl

pub PutsAt-removes : (old : Book) (owners removed : List (Owner × OwnerRuns)) (owner : Owner) (list : Option OwnerRuns)
    → PutsAt old owners owner list → PutsFor owners removed owner None → PutsAt old removed owner None
PutsAt-removes old owners removed owner list puts removes other =
    removes other
    ∙ ap (λ o. cond (is_same_owner owner other) None o) (puts other)
    ∙ update_removed (is_same_owner owner other) list (list_of old other)

-- what holds of each list still does, where it holds of the one that was put
pub EachList-puts : (P : OwnerRuns → Type 0) (old : Book) (owners : List (Owner × OwnerRuns)) (owner : Owner) (after : Option OwnerRuns)
    → EachList P old.owners → PutsAt old owners owner after → ((list : OwnerRuns) → after ≡ Some list → P list) → EachList P owners
unfolding list_of
EachList-puts P old owners owner after each puts holds other list found = elim (cases_Bool (is_same_owner owner other)) [
  | inl same ↦
      (let there : after ≡ Some list = ap (λ b. cond b after (list_of old other)) (sym same) ∙ sym (puts other) ∙ found in
      holds list there)
  | inr apart ↦
      (let there : list_of old other ≡ Some list = ap (λ b. cond b after (list_of old other)) (sym apart) ∙ sym (puts other) ∙ found in
      each other list there)
]

same_list : (one other : OwnerRuns) → Some one ≡ Some other → one ≡ other
same_list one other e = cc

pub EachList-list : (P : OwnerRuns → Type 0) (old : Book) (owners : List (Owner × OwnerRuns)) (owner : Owner) (list : OwnerRuns)
    → EachList P old.owners → PutsAt old owners owner (Some list) → P list → EachList P owners
EachList-list P old owners owner list each puts holds = EachList-puts P old owners owner (Some list) each puts (λ other e. subst P (same_list list other e) holds)

pub EachList-removed : (P : OwnerRuns → Type 0) (old : Book) (owners : List (Owner × OwnerRuns)) (owner : Owner) → EachList P old.owners
    → PutsAt old owners owner None → EachList P owners
EachList-removed P old owners owner each puts = EachList-puts P old owners owner None each puts (λ list e. absurd (let h : None ≡ Some list = e in cc))

-- owners that lent nothing are the same
pub EachList-left : (P : OwnerRuns → Type 0) (was owners : List (Owner × OwnerRuns)) → was ≡ owners → EachList P owners → EachList P was
EachList-left P was owners same each = subst (λ (lists : List (Owner × OwnerRuns)). EachList P lists) (sym same) each

-- also where an insertion may have been refused
pub EachList-insert : {T E : Type 0} (P : OwnerRuns
    → Type 0) (old : Book) (was owners : List (Owner × OwnerRuns)) (owner : Owner) (list : OwnerRuns) (r : Result T E)
    → EachList P old.owners → was ≡ old.owners → OnOk r (PutsFor was owners owner (Some list))
    → OnErr r (owners ≡ was) → P list → EachList P owners
EachList-insert P old was owners owner list (Ok x) each same puts kept holds =
    EachList-list P old owners owner list each (PutsAt-adds old was owners owner (Some list) same puts) holds
EachList-insert P old was owners owner list (Err e) each same puts kept holds =
    λ other there found. each other there (ap (λ (lists : List (Owner × OwnerRuns)). lookup (is_same_owner other) lists) (sym (kept ∙ same)) ∙ found)

-- a list of a book is in use, and so is one with no fewer modes and no less room
pub still_in_use : (book : Book) (owner : Owner) (before list : OwnerRuns) → list_of book owner ≡ Some before
    → ((byte : ℕ) → modes_of list byte ≡ modes_of before byte) → room_of before ≤ room_of list → ¬ IsIdle list
unfolding list_of
still_in_use book owner before list was modes room idle = grind (arith, common_steps)

-- one with room, or with a mode on some range, is in use
pub in_use_by_room : (list : OwnerRuns) → 1 ≤ room_of list → ¬ IsIdle list
in_use_by_room list room idle = let empty = idle.no_room in omega arith

pub in_use_by_mode : (old : Modes) (list : OwnerRuns) (span : Span) (mode : Option Mode) → IsByteRange span → is_some mode ≡ true
    → SetsMode old (modes_of list) span mode → ¬ IsIdle list
in_use_by_mode old list span None range some sets idle = let h : false ≡ true = some in cc
in_use_by_mode old list span (Some mode) range some sets idle =
    let covered : is_covered span span.first ≡ true = covers_by span span.first (omega arith) range.0 in
    let there : modes_of list span.first ≡ Some mode = sets span.first ∙ ap (λ b. cond b (Some mode) (old span.first)) covered in
    let h : None ≡ Some mode = sym (idle.free span.first) ∙ there in
    cc

-- so is an update of the places of flock locks
pub PutsPlace-puts : (old new : Book) (description : ℕ) (place : Option (Option Mode)) → new.owners ≡ old.owners
    → PutsAmong old.flocks.places.entries new.flocks.places.entries description place → PutsPlace old new description place
unfolding list_of place_of
PutsPlace-puts old new description place same puts = grind (arith, common_steps)

-- every other owner's list stays
list_apart : (old new : Book) (owner other : Owner) (list : Option OwnerRuns) → PutsList old new owner list → other ≢ owner
    → list_of new other ≡ list_of old other
list_apart old new owner other list puts different =
    puts.lists other ∙ ap (λ b. cond b list (list_of old other)) (different_owner owner other different)

-- the room of the owner is that of the list put there
pub room_in-puts : (old new : Book) (owner : Owner) (list : Option OwnerRuns) → PutsList old new owner list → room_in new owner ≡ room_in_list list
unfolding room_in
room_in-puts old new owner list puts =
    ap room_in_list (puts.lists owner ∙ ap (λ b. cond b list (list_of old owner)) (is_same_owner-self owner))

pub room_in-list : (book : Book) (owner : Owner) (list : Option OwnerRuns) → list_of book owner ≡ list → room_in book owner ≡ room_in_list list
unfolding room_in
room_in-list book owner list is = ap room_in_list is

-- the room that is left where a list was put
pub room_left : (old new : Book) (owner : Owner) (before after : Option OwnerRuns) (used : ℕ) → PutsList old new owner after
    → list_of old owner ≡ before → room_in_list before ≤ room_in_list after + used → room_in old owner ≤ room_in new owner + used
room_left old new owner before after used puts was room = grind (arith, common_steps, room_in-puts, room_in-list)

pub room_kept : (old new : Book) (owner : Owner) (before list : OwnerRuns) → PutsList old new owner (Some list) → list_of old owner ≡ Some before
    → room_of before ≤ room_of list → room_in old owner ≤ room_in new owner
room_kept old new owner before list puts was room = grind (arith, common_steps, room_in-puts, room_in-list)

pub room_held : (old new : Book) (owner : Owner) (list : OwnerRuns) (sets : ℕ) → PutsList old new owner (Some list) → sets ≤ room_of list
    → sets ≤ room_in new owner
room_held old new owner list sets puts room = rw (room_in-puts old new owner (Some list) puts) room

-- a list put for the owner that has the mode on just the range sets it in the book
pub SetsOwnerMode-puts : (old new : Book) (owner : Owner) (before after : Option OwnerRuns) (span : Span) (mode : Option Mode)
    → PutsList old new owner after → list_of old owner ≡ before → SetsMode (modes_in_list before) (modes_in_list after) span mode
    → SetsOwnerMode old new owner span mode
unfolding byte_modes_of room_in flock_modes_of has_flock_place
SetsOwnerMode-puts old new owner before after span mode puts was sets = grind (arith, common_steps, cases_Bool, same_owner, list_apart)

-- without a list there is nothing to unlock
sets_nothing : (book : Book) (owner : Owner) (span : Span) (mode : Option Mode) → list_of book owner ≡ None → mode ≡ None
    → SetsOwnerMode book book owner span mode
unfolding byte_modes_of
sets_nothing book owner span mode none unlock = grind (arith, common_steps, cases_Bool, same_owner)

-- a book with the same parts is the same for each definition
pub SetsOwnerMode-nothing : (old new : Book) (owner : Owner) (span : Span) (mode : Option Mode) → new.owners ≡ old.owners → new.flocks ≡ old.flocks
    → list_of old owner ≡ None → mode ≡ None → SetsOwnerMode old new owner span mode
unfolding byte_modes_of room_in flock_modes_of has_flock_place list_of place_of
SetsOwnerMode-nothing old new owner span mode owners flocks none unlock = grind (arith, common_steps, sets_nothing)

-- one with the same modes changes the owner's room alone
pub SameButRoom-puts : (old new : Book) (owner : Owner) (before : Option OwnerRuns) (list : OwnerRuns) → PutsList old new owner (Some list)
    → list_of old owner ≡ before → ((byte : ℕ) → modes_of list byte ≡ modes_in_list before byte) → SameButRoom old new owner
unfolding byte_modes_of room_in flock_modes_of has_flock_place
SameButRoom-puts old new owner before list puts was same_modes = grind (arith, common_steps, cases_Bool, same_owner, list_apart)

-- and one with the same room too changes nothing
pub SameBook-puts : (old new : Book) (owner : Owner) (before list : OwnerRuns) → PutsList old new owner (Some list) → list_of old owner ≡ Some before
    → ((byte : ℕ) → modes_of list byte ≡ modes_of before byte) → room_of list ≡ room_of before → SameBook old new
unfolding room_in
SameBook-puts old new owner before list puts was same_modes same_room = grind (arith, common_steps, SameButRoom-puts, cases_Bool, same_owner)

-- without a list the owner has nothing
ReleasesOwner-puts : (old new : Book) (owner : Owner) → PutsList old new owner None → ReleasesOwner old new owner
unfolding byte_modes_of room_in flock_modes_of has_flock_place
ReleasesOwner-puts old new owner puts = grind (arith, common_steps, cases_Bool)

-- a place put for the description with a mode sets it in the book, where there is a mode or the place was there
pub SetsFlock-puts : (old new : Book) (description : ℕ) (mode : Option Mode) → (is_some mode || has_flock_place old description) ≡ true
    → PutsPlace old new description (Some mode) → SetsFlock old new description mode
unfolding byte_modes_of room_in flock_modes_of has_flock_place
SetsFlock-puts old new description mode asked puts = grind (arith, common_steps, cases_Bool, eqb-true)

-- an empty place put for a description without one reserves it
pub ReservesFlock-puts : (old new : Book) (description : ℕ) → PutsPlace old new description (Some None) → place_of old description ≡ None
    → ReservesFlock old new description
unfolding byte_modes_of room_in flock_modes_of has_flock_place
ReservesFlock-puts old new description puts was = grind (arith, common_steps, cases_Bool, eqb-true)

-- without a place the description has nothing
ReleasesFlock-puts : (old new : Book) (description : ℕ) → PutsPlace old new description None → ReleasesFlock old new description
unfolding byte_modes_of room_in flock_modes_of has_flock_place
ReleasesFlock-puts old new description puts = grind (arith, common_steps, cases_Bool)

-- what a removal leaves
pub owner_released : (old new : Book) (owner : Owner) → new.flocks ≡ old.flocks → PutsFor old.owners new.owners owner None
    → ReleasesOwner old new owner
owner_released old new owner same puts = ReleasesOwner-puts _ _ _ (PutsList-puts old new owner None same (PutsAt-puts old new.owners owner None puts))

pub flock_released : (old new : Book) (description : ℕ) → new.owners ≡ old.owners
    → PutsAmong old.flocks.places.entries new.flocks.places.entries description None → ReleasesFlock old new description
flock_released old new description same puts = ReleasesFlock-puts _ _ _ (PutsPlace-puts old new description None same puts)

-- a list without a mode, with the room that there was, put for the owner clears it
pub ClearsOwner-puts : (old new : Book) (owner : Owner) (before after : Option OwnerRuns) → PutsList old new owner after → list_of old owner ≡ before
    → ((byte : ℕ) → modes_in_list after byte ≡ None) → room_in_list after ≡ room_in_list before → ClearsOwner old new owner
unfolding byte_modes_of room_in flock_modes_of has_flock_place
ClearsOwner-puts old new owner before after puts was free room = grind (arith, common_steps, cases_Bool, same_owner)

-- an owner without a list is clear
pub ClearsOwner-nothing : (old new : Book) (owner : Owner) → new.owners ≡ old.owners → new.flocks ≡ old.flocks → list_of old owner ≡ None
    → ClearsOwner old new owner
unfolding list_of place_of
ClearsOwner-nothing old new owner owners flocks none =
    ClearsOwner-puts old new owner None None
    (record {
      lists = λ other. elim (cases_Bool (is_same_owner owner other)) [
        | inl same ↦ rw same (ap (λ (lists : List (Owner × OwnerRuns)). lookup (is_same_owner other) lists) owners ∙ ap (list_of old) (sym (same_owner owner other same)) ∙ none)
        | inr apart ↦ rw apart (ap (λ (lists : List (Owner × OwnerRuns)). lookup (is_same_owner other) lists) owners)
      ];
      places = λ description. ap (λ (f : FlockHolders). place_among f.places.entries description) flocks;
    }) none (λ byte. refl) refl

holds_by : (P : Type 0) (test : Bool) → (IsTrue test ↔ P) → IsFalse (not test) ↔ P
holds_by P true told = (λ empty. told.0 refl, λ holds. refl)
holds_by P false told = (λ empty. absurd (let h : true ≡ false = empty in cc), λ holds. absurd (let h : false ≡ true = told.1 holds in cc))

-- an owner has had no byte lock just where the list that it had is empty
pub had_told : (book : Book) (owner : Owner) (list : OwnerRuns) (is_empty : Bool) → list_of book owner ≡ Some list → (IsTrue is_empty ↔ ((byte : ℕ) → modes_of list byte ≡ None))
    → IsFalse (not is_empty) ↔ ((byte : ℕ) → byte_modes_of book owner byte ≡ None)
unfolding byte_modes_of
had_told book owner list is_empty was told =
    subst (λ (l : Option OwnerRuns). IsFalse (not is_empty) ↔ ((byte : ℕ) → modes_in_list l byte ≡ None)) (sym was) (holds_by ((byte : ℕ) → modes_of list byte ≡ None) is_empty told)

none_by : (list : Option OwnerRuns) → not (is_some list) ≡ true → list ≡ None
none_by None lacks = refl
none_by (Some list) lacks = absurd (let h : false ≡ true = lacks in cc)

-- an owner whose list was added had none
pub none_listed : (book : Book) (owner : Owner) (is_new : Bool) → is_new ≡ not (is_some (lookup (is_same_owner owner) book.owners)) → is_new ≡ true → list_of book owner ≡ None
unfolding list_of
none_listed book owner is_new told new = none_by (lookup (is_same_owner owner) book.owners) (sym told ∙ new)
