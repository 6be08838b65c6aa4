-- What the loops of an export go over, and what they put of it.
use Rattle.lock_server.proofs.Common.{ℕ, suc, ◌≡◌, ◌<◌, ◌≤◌, ◌+◌, ◌*◌, ◌^◌, ◌∙◌, take, drop, sym, ap, subst, refl, arith, inl, inr, true, false, Option, Some, None, List, [], ◌∷◌, ◌++◌, All, length, map, get_or, common_steps, flat_map-append, AllPairs, IsTrue, is_some, get, Bor, flat_map, keys_of, lookup, deref_pair, nat_cmp, nat_tests, cases_lt, get_or_default, length-append, length-map, length-take-le, take-append-drop, take_at, all_pairs_push, AllPairs-cons, All-head, All-tail, All-weaker, Contains-append_left, Contains-push, Contains-push_cases}
use Rattle.lock_server.proofs.Common.{Mode, Span, OwnerRuns, modes_of, AreRuns, Covers, IsRun, Modes, Owner, Description, Book, byte_modes_of, is_same_owner, modes_in_list, FlockLock, Lock, Pending, Rules, LockFile, Files, Table, Waiter, Waiters, IsExport, family_word, file_words, flag_word, flock_words, listed, lock_words, mode_word, note_words, number_words, wait_words, file_state, state_at, entry_in, FileState, SameFile, untouched, AreByteLocks, AreFiles, AreJust, FileEntry, IsInventory, Note, SaysFile, entry_place, note_place, EndsBefore, IsByteLock, IsEarlier, IsFirstFrom, IsFlockLock, IsNextFrom, flock_place, lock_place, open_of, through_at, State, AreSwept, entry_of, table_state, crossed_of, waiter_of, Puts, PutsSome, bytes_of, greatest}
use Rattle.std.proofs.Common.{min}
use Rattle.std.specs.Prelude.{◌⊎◌, Any, Contains}
use Rattle.std.specs.BTreeMap.{IsOrdered}
use Rattle.std.specs.Global.{Box}
use Rattle.std.specs.Option.{option_map}
use Rattle.std.proofs.lemmas.List.{append-nil, drop_at, get_or-map}
use Rattle.std.proofs.lemmas.List.Folds.{flat_map-map}
use Rattle.std.proofs.lemmas.List.Elements.{All-map}
use Rattle.std.proofs.lemmas.Map.Views.{Contains-keys_from_lookup}
use Rattle.lock_book.specs.Owners.{IsBefore}
use Rattle.lock_book.specs.OwnerLists.{AreRising}
use Rattle.lock_server.specs.declared.openings.Openings.{Openings}
use Rattle.lock_server.specs.declared.openings.Seen.{Seen}
use Rattle.lock_server.specs.Bytes.{export_words, rules_words, version}
use Rattle.lock_server.specs.Inventory.{AreAllOf, AreLocksOf, IsEntryOf, IsFileEntry, Inventory}
use Rattle.lock_server.specs.OpeningsView.{open_in}
use Rattle.lock_server.specs.WaitersView.{crossed_in}
use Rattle.lock_server.proofs.ExportLaws.{entry_one, inventory_one}
use Rattle.lock_server.proofs.JustLemmas.{All-at, AllPairs-nil, Contains-cons, Contains-here, Contains-nil, Contains-there, IsPiece, just_along, just_joined, just_none, just_single}
use Rattle.lock_server.proofs.ListLemmas.{Any-nil, Any-here, Any-there, Any-cons}
use Rattle.lock_server.proofs.StateLemmas.{SameFile-itself}
use Rattle.lock_server.proofs.WalkLemmas.{Walked, key_there, walked_all, walked_just, walked_keys}
use Rattle.lock_server.proofs.WordLemmas.{length-bytes_of, puts_append, puts_none}

-- crossed owners

-- the owner alone, where it is crossed, and else none
abbrev pub IsCrossedPiece : Waiters → ℕ × List ℕ → Type 0
IsCrossedPiece waiters piece = IsPiece (λ (owner : ℕ). owner) (λ owner. owner ∷ []) (λ owner. IsTrue (crossed_of waiters owner)) piece

crossed_there : (waiters : Waiters) (owner : ℕ) (waiter : Waiter) → get nat_cmp waiters.owners owner ≡ Some waiter
    → crossed_of waiters owner ≡ waiter.crossed
unfolding crossed_of waiter_of
crossed_there waiters owner waiter there = ap crossed_in there

pub crossed_piece : (waiters : Waiters) (owner : ℕ) (waiter : Waiter) → get nat_cmp waiters.owners owner ≡ Some waiter
    → waiter.crossed ≡ true → IsCrossedPiece waiters (owner, owner ∷ [])
crossed_piece waiters owner waiter there crossed =
    just_single (λ n. n ∷ []) (λ n. (n ≡ owner) × IsTrue (crossed_of waiters n)) owner (refl, crossed_there waiters owner waiter there ∙ crossed)
    (λ other has. sym has.0)

pub uncrossed_piece : (waiters : Waiters) (owner : ℕ) (waiter : Waiter) → get nat_cmp waiters.owners owner ≡ Some waiter
    → waiter.crossed ≡ false → IsCrossedPiece waiters (owner, [])
uncrossed_piece waiters owner waiter there uncrossed =
    just_none (λ n. n ∷ []) (λ n. (n ≡ owner) × IsTrue (crossed_of waiters n))
    (λ other has.
    let here : crossed_of waiters owner ≡ true = subst (λ (n : ℕ). crossed_of waiters n ≡ true) has.0 has.1 in
    let missing = crossed_there waiters owner waiter there ∙ uncrossed in
    let h : true ≡ false = sym here ∙ missing in cc)

waiter_there : (waiters : Waiters) (owner : ℕ) → IsTrue (crossed_of waiters owner) → (waiter : Waiter) × (get nat_cmp waiters.owners owner ≡ Some waiter)
unfolding crossed_of waiter_of
waiter_there waiters owner crossed = there (get nat_cmp waiters.owners owner) crossed
  where
    there : (found : Option Waiter) → crossed_in found ≡ true → (waiter : Waiter) × (found ≡ Some waiter)
    there None is = absurd (let h : false ≡ true = is in cc)
    there (Some waiter) is = (waiter, refl)

pub all_crossed : (waiters : Waiters) (entries : List (Bor ℕ × Bor Waiter)) (spell : ℕ → List ℕ) (old new : List ℕ) (at next : ℕ) → IsOrdered nat_cmp waiters.owners
    → map deref_pair entries ≡ waiters.owners.entries → Walked (IsCrossedPiece waiters) spell entries old at new next
    → PutsSome (AreJust (λ owner. owner ∷ []) (λ owner. IsTrue (crossed_of waiters owner))) (flat_map spell) old at new next
all_crossed waiters entries spell old new at next ordered whole walked =
    walked_all waiters.owners (λ owner. owner) (λ owner. owner ∷ []) (λ owner. IsTrue (crossed_of waiters owner)) (IsCrossedPiece waiters) spell entries
    old new at next (λ x y first second less. inl less) (λ piece is. is) (waiter_there waiters) ordered whole walked

-- notes

-- the note is one of the file
abbrev pub IsSeen : Seen → ℕ → Note → Type 0
IsSeen seen file note = (note.file ≡ file) × (open_of seen note.owner ≡ Some note.open_file)

abbrev pub IsNoted : Openings → Note → Type 0
IsNoted openings note = through_at openings note.file note.owner ≡ Some note.open_file

-- the notes of one owner on one file
abbrev pub IsSeenPiece : Seen → ℕ → ℕ × List Note → Type 0
IsSeenPiece seen file piece = IsPiece (λ (note : Note). note.owner) note_place (IsSeen seen file) piece

-- and of one file
abbrev pub IsNotedPiece : Openings → ℕ × List Note → Type 0
IsNotedPiece openings piece = IsPiece (λ (note : Note). note.file) note_place (IsNoted openings) piece

some_same : {X : Type 0} (x y : X) (found : Option X) → found ≡ Some x → found ≡ Some y → x ≡ y
some_same {X} x y found first second = let h : Some x ≡ Some y = sym first ∙ second in cc

pub seen_piece : (seen : Seen) (file owner open_file : ℕ) → get nat_cmp seen.owners owner ≡ Some open_file
    → IsSeenPiece seen file (owner, record { file = file; owner = owner; open_file = open_file } ∷ [])
unfolding open_of
seen_piece seen file owner open_file there =
    just_single note_place (λ note. (note.owner ≡ owner) × IsSeen seen file note) (record { file = file; owner = owner; open_file = open_file })
    (refl, (refl, there))
    (λ other has.
    let through : get nat_cmp seen.owners owner ≡ Some other.open_file =
    subst (λ (n : ℕ). get nat_cmp seen.owners n ≡ Some other.open_file) has.0 has.1.1 in
    let same = some_same open_file other.open_file (get nat_cmp seen.owners owner) there through in
    λ i. record { file = sym has.1.0 i; owner = sym has.0 i; open_file = same i })

pub all_seen : (seen : Seen) (file : ℕ) (entries : List (Bor ℕ × Bor ℕ)) (spell : Note → List ℕ) (old new : List ℕ) (at next : ℕ)
    → IsOrdered nat_cmp seen.owners → map deref_pair entries ≡ seen.owners.entries → Walked (IsSeenPiece seen file) spell entries old at new next
    → PutsSome (AreJust note_place (IsSeen seen file)) (flat_map spell) old at new next
unfolding open_of
all_seen seen file entries spell old new at next ordered whole walked =
    walked_all seen.owners (λ note. note.owner) note_place (IsSeen seen file) (IsSeenPiece seen file) spell entries old new at next
    (λ x y first second less. inr (first.0 ∙ sym second.0, inl less)) (λ piece is. is) (λ note has. (note.open_file, has.1)) ordered whole walked

pub noted_piece : (openings : Openings) (file : ℕ) (seen : Seen) (notes : List Note) → get nat_cmp openings.files file ≡ Some seen
    → AreJust note_place (IsSeen seen file) notes → IsNotedPiece openings (file, notes)
unfolding through_at
noted_piece openings file seen notes there just =
    just_along note_place (IsSeen seen file) (λ note. (note.file ≡ file) × IsNoted openings note) notes
    (λ note. (
      λ has. (has.0, through note has.0 ∙ has.1),
      λ has. (has.0, sym (through note has.0) ∙ has.1),
    )) just
  where
    through : (note : Note) → note.file ≡ file → open_in (get nat_cmp openings.files note.file) note.owner ≡ open_of seen note.owner
    through note here =
        ap (λ (n : ℕ). open_in (get nat_cmp openings.files n) note.owner) here ∙ ap (λ (found : Option Seen). open_in found note.owner) there

seen_there : (openings : Openings) (note : Note) → IsNoted openings note → (seen : Seen) × (get nat_cmp openings.files note.file ≡ Some seen)
unfolding through_at
seen_there openings note noted = there (get nat_cmp openings.files note.file) noted
  where
    there : (found : Option Seen) → open_in found note.owner ≡ Some note.open_file → (seen : Seen) × (found ≡ Some seen)
    there None is = absurd (let h : None ≡ Some note.open_file = is in cc)
    there (Some seen) is = (seen, refl)

pub all_noted : (openings : Openings) (entries : List (Bor ℕ × Bor Seen)) (spell : Note → List ℕ) (old new : List ℕ) (at next : ℕ)
    → IsOrdered nat_cmp openings.files → map deref_pair entries ≡ openings.files.entries → Walked (IsNotedPiece openings) spell entries old at new next
    → PutsSome (AreJust note_place (IsNoted openings)) (flat_map spell) old at new next
all_noted openings entries spell old new at next ordered whole walked =
    walked_all openings.files (λ note. note.file) note_place (IsNoted openings) (IsNotedPiece openings) spell entries old new at next
    (λ x y first second less. inl less) (λ piece is. is) (seen_there openings) ordered whole walked

-- byte locks

-- the lock that a run is
abbrev pub lock_of : ℕ → Mode × Span → Lock
lock_of owner run = record { owner = owner; mode = run.0; span = run.1 }

Contains-map : {X Y : Type 0} (f : X → Y) (xs : List X) (x : X) → Contains xs x → Contains (map f xs) (f x)
Contains-map f [] x inside = absurd (Contains-nil x inside)
Contains-map f (y ∷ xs) x inside = elim (Contains-cons y xs x inside) [
  | inl is ↦ subst (λ z. Contains (f y ∷ map f xs) z) (ap f is) (Contains-here (f y) (map f xs))
  | inr there ↦ Contains-there (f y) (map f xs) (f x) (Contains-map f xs x there)
]

Contains-unmap : {X Y : Type 0} (f : X → Y) (xs : List X) (y : Y) → Contains (map f xs) y → (x : X) × Contains xs x × (f x ≡ y)
Contains-unmap f [] y inside = absurd (Contains-nil y inside)
Contains-unmap f (x ∷ xs) y inside = elim (Contains-cons (f x) (map f xs) y inside) [
  | inl is ↦ (x, Contains-here x xs, is)
  | inr there ↦ let found = Contains-unmap f xs y there in (found.0, Contains-there x xs found.0 found.1, found.2)
]

-- two runs of which the one has the first byte of the other are one
run_same : (modes : Modes) (mode : Mode) (run other : Span) → IsRun modes run.first mode run → IsRun modes other.first mode other
    → Covers run other.first → run ≡ other
run_same modes mode run other first second meets =
    let within = second.largest run meets first.constant in
    let around = first.largest other (within.0, omega (arith, within.1, first.covered.1)) second.constant in
    let begins : run.first ≡ other.first = omega (arith, within.0, around.0) in
    let ends : run.last ≡ other.last = omega (arith, within.1, around.1) in
    λ i. record { first = begins i; last = ends i }

run_along : (modes other : Modes) (byte : ℕ) (mode : Mode) (span : Span) → ((b : ℕ) → modes b ≡ other b) → IsRun modes byte mode span
    → IsRun other byte mode span
run_along modes other byte mode span same run = record {
  covered = run.covered;
  constant = λ b inside. sym (same b) ∙ run.constant b inside;
  largest = λ around covers constant. run.largest around covers (λ b inside. same b ∙ constant b inside);
}

-- a byte lock that an owner has is one of its runs
run_there : (F : FileState) (owner : ℕ) (runs : List (Mode × Span)) → AreRuns (F.bytes owner) runs → (lock : Lock) → lock.owner ≡ owner
    → IsByteLock F lock → Contains (map (lock_of owner) runs) lock
run_there F owner runs are lock of_owner is =
    let modes : Modes = F.bytes owner in
    let own : IsRun modes lock.span.first lock.mode lock.span =
    subst (λ (n : ℕ). IsRun (F.bytes n) lock.span.first lock.mode lock.span) of_owner is in
    let found = are.every lock.span.first lock.mode (own.constant lock.span.first own.covered) in
    let run = found.1 in
    let inside : Contains runs run = (found.0, found.2, found.3) in
    let its : IsRun modes run.1.first run.0 run.1 = All-at (λ r. IsRun modes r.1.first r.0 r.1) runs are.each run inside in
    let with_mode : IsRun modes run.1.first lock.mode run.1 = subst (λ (m : Mode). IsRun modes run.1.first m run.1) found.4.0 its in
    let span = run_same modes lock.mode run.1 lock.span with_mode own found.4.1 in
    let same : lock_of owner run ≡ lock = λ i. record { owner = sym of_owner i; mode = found.4.0 i; span = span i } in
    subst (λ (l : Lock). Contains (map (lock_of owner) runs) l) same (Contains-map (lock_of owner) runs run inside)

lock_is : (F : FileState) (owner : ℕ) (runs : List (Mode × Span)) → AreRuns (F.bytes owner) runs → (lock : Lock)
    → Contains (map (lock_of owner) runs) lock → (lock.owner ≡ owner) × IsByteLock F lock
lock_is F owner runs are lock inside =
    let found = Contains-unmap (lock_of owner) runs lock inside in
    let its = All-at (λ r. IsRun (F.bytes owner) r.1.first r.0 r.1) runs are.each found.0 found.1 in
    subst (λ (l : Lock). (l.owner ≡ owner) × IsByteLock F l) found.2 (refl, its)

-- the runs of an owner's list are its byte locks
pub runs_are : (F : FileState) (owner : ℕ) (modes : Modes) (runs : List (Mode × Span)) → ((byte : ℕ) → modes byte ≡ F.bytes owner byte)
    → AreRuns modes runs → AreLocksOf F owner (map (lock_of owner) runs)
runs_are F owner modes runs same told =
    let are : AreRuns (F.bytes owner) runs = record {
      rising = told.rising;
      each = All-weaker (λ r. IsRun modes r.1.first r.0 r.1) (λ r. IsRun (F.bytes owner) r.1.first r.0 r.1)
          (λ r run. run_along modes (F.bytes owner) r.1.first r.0 r.1 same run) runs told.each;
      every = λ byte mode has. told.every byte mode (same byte ∙ has);
    } in
    record {
      just = record {
        rising = λ i j d before within.
            let e : Mode × Span = (d.mode, d.span) in
            let inside : j < length runs = omega (arith, length-map runs (lock_of owner)) in
            let inside_first : i < length runs = omega (arith, length-map runs (lock_of owner)) in
            let apart = are.rising i j e before inside in
            let run = are.each i e inside_first in
            rw (get_or-map (lock_of owner) runs i e d inside_first, get_or-map (lock_of owner) runs j e d inside)
            (inr (refl, inl (omega (arith, apart, run.covered.1))));
        each = λ lock. (lock_is F owner runs are lock, λ has. run_there F owner runs are lock has.0 has.1);
      };
      all = λ byte mode has.
          let found = are.every byte mode has in
          let run = found.1 in
          let inside = Contains-map (lock_of owner) runs run (found.0, found.2, found.3) in
          (inside.0, lock_of owner run, inside.1, inside.2, (refl, found.4.0, found.4.1));
    }

-- the owners of lists rise with them
rising_owners : (lists : List (Owner × OwnerRuns)) → AreRising lists → AllPairs IsBefore (keys_of lists)
rising_owners [] rising = AllPairs-nil IsBefore
rising_owners (one ∷ lists) rising =
    AllPairs-cons IsBefore one.0 (keys_of lists)
    (All-map (IsBefore one.0) (λ (other : Owner × OwnerRuns). other.0) lists (λ k d within. rising 0 (suc k) d (omega arith) (omega arith)))
    (rising_owners lists (λ i j d less within. rising (suc i) (suc j) d (omega arith) (omega arith)))

same_owner : (one other : Owner) → is_same_owner one other ≡ true → one ≡ other
same_owner one other h = grind (arith, common_steps, nat_tests)

-- the lists of a book by owner have its modes
abbrev pub HaveModes : Book → List (Owner × OwnerRuns) → Type 0
HaveModes book lists = (owner : Owner) (byte : ℕ) → modes_in_list (lookup (is_same_owner owner) lists) byte ≡ byte_modes_of book owner byte

pub modes_there : (book : Book) (lists : List (Owner × OwnerRuns)) (owner : Owner) (list : OwnerRuns) → HaveModes book lists
    → lookup (is_same_owner owner) lists ≡ Some list → (byte : ℕ) → modes_of list byte ≡ byte_modes_of book owner byte
modes_there book lists owner list have there byte = ap (λ (o : Option OwnerRuns). modes_in_list o byte) (sym there) ∙ have owner byte

pub list_there : (book : Book) (lists : List (Owner × OwnerRuns)) (owner : Owner) → HaveModes book lists → (byte : ℕ) (mode : Mode)
    → byte_modes_of book owner byte ≡ Some mode → Contains (keys_of lists) owner
list_there book lists owner have byte mode has =
    there (lookup (is_same_owner owner) lists) refl (have owner byte ∙ has)
  where
    there : (found : Option OwnerRuns) → lookup (is_same_owner owner) lists ≡ found → modes_in_list found byte ≡ Some mode
        → Contains (keys_of lists) owner
    there None is held = absurd (let h : None ≡ Some mode = held in cc)
    there (Some list) is held =
        Contains-keys_from_lookup {eq = is_same_owner} same_owner owner lists (ap (λ (o : Option OwnerRuns). is_some o) is)

-- the locks of one owner; a process has none
pub record IsLockPiece (F : FileState) (locks : Owner × List Lock) : Type 0 where
  pub piece : IsPiece (λ (lock : Lock). Description lock.owner) lock_place (IsByteLock F) locks
  pub all : (owner : ℕ) → locks.0 ≡ Description owner → AreAllOf F owner locks.1

pub description_same : (a b : ℕ) → Description a ≡ Description b → a ≡ b
description_same a b same = cc

pub owner_piece : (F : FileState) (owner : ℕ) (locks : List Lock) → AreLocksOf F owner locks → IsLockPiece F (Description owner, locks)
owner_piece F owner locks are = record {
  piece = just_along lock_place (λ lock. (lock.owner ≡ owner) × IsByteLock F lock) (λ lock. (Description lock.owner ≡ Description owner) × IsByteLock F lock)
      locks (λ lock. (λ has. (ap (λ (n : ℕ). Description n) has.0, has.1), λ has. (description_same lock.owner owner has.0, has.1))) are.just;
  all = λ other is. subst (λ (n : ℕ). AreAllOf F n locks) (description_same owner other is) are.all;
}

-- of this owner
pub owner_piece_of : (F : FileState) (owner : Owner) (number : ℕ) (locks : List Lock) → owner ≡ Description number → AreLocksOf F number locks
    → IsLockPiece F (owner, locks)
owner_piece_of F owner number locks is are = subst (λ (o : Owner). IsLockPiece F (o, locks)) (sym is) (owner_piece F number locks are)

-- the list of an owner has its modes on the file
pub list_modes : (file : LockFile) (lists : List (Owner × OwnerRuns)) (owner : Owner) (number : ℕ) (list : OwnerRuns) → HaveModes file.book lists
    → owner ≡ Description number → lookup (is_same_owner owner) lists ≡ Some list → (byte : ℕ) → modes_of list byte ≡ (file_state file).bytes number byte
unfolding file_state
list_modes file lists owner number list have is there byte =
    modes_there file.book lists owner list have there byte ∙ ap (λ (o : Owner). byte_modes_of file.book o byte) is

-- the locks of one owner, put run by run
pub runs_put : (F : FileState) (owner : ℕ) (modes : Modes) (runs xs : List (Mode × Span)) (old new : List ℕ) (at next : ℕ)
    → ((byte : ℕ) → modes byte ≡ F.bytes owner byte) → AreRuns modes runs → xs ≡ runs
    → Puts (flat_map (λ run. lock_words (lock_of owner run)) xs) old at new next
    → PutsSome (AreLocksOf F owner) (flat_map lock_words) old at new next
runs_put F owner modes runs xs old new at next same are whole puts = record {
  what = map (lock_of owner) runs;
  is = runs_are F owner modes runs same are;
  puts = subst (λ (l : List ℕ). Puts l old at new next) (sym (flat_map-map lock_words (lock_of owner) runs))
      (subst (λ (l : List (Mode × Span)). Puts (flat_map (λ run. lock_words (lock_of owner run)) l) old at new next) whole puts);
}

-- a wait, of which some words were told
pub wait_put : (wait : Pending) (family mode detect : ℕ) (old mid new : List ℕ) (at then next : ℕ) → family ≡ family_word wait.family
    → mode ≡ mode_word wait.mode → detect ≡ flag_word wait.detect → Puts (wait.ticket ∷ wait.owner ∷ family ∷ []) old at mid then
    → Puts (wait.span.first ∷ wait.span.last ∷ mode ∷ detect ∷ []) mid then new next → Puts (wait_words wait) old at new next
wait_put wait family mode detect old mid new at then next families modes detects first second =
    let both = puts_append (wait.ticket ∷ wait.owner ∷ family ∷ []) (wait.span.first ∷ wait.span.last ∷ mode ∷ detect ∷ []) old mid new at then next first second in
    let same : wait.ticket ∷ wait.owner ∷ family ∷ wait.span.first ∷ wait.span.last ∷ mode ∷ detect ∷ [] ≡ wait_words wait =
    λ i. wait.ticket ∷ wait.owner ∷ families i ∷ wait.span.first ∷ wait.span.last ∷ modes i ∷ detects i ∷ [] in
    subst (λ (l : List ℕ). Puts l old at new next) same both

pub process_piece : (F : FileState) (owner : Owner) → ((number : ℕ) → owner ≡ Description number → ⊥) → IsLockPiece F (owner, [])
process_piece F owner process = record {
  piece = just_none lock_place (λ lock. (Description lock.owner ≡ owner) × IsByteLock F lock) (λ lock has. process lock.owner (sym has.0));
  all = λ other is. absurd (process other is);
}

Any-before : {X : Type 0} (P : X → Type 0) (xs ys : List X) → Any P ys → Any P (xs ++ ys)
Any-before P [] ys any = any
Any-before P (x ∷ xs) ys any = Any-there P x (xs ++ ys) (Any-before P xs ys any)

Any-behind : {X : Type 0} (P : X → Type 0) (xs ys : List X) → Any P xs → Any P (xs ++ ys)
Any-behind P [] ys any = absurd (Any-nil P any)
Any-behind P (x ∷ xs) ys any = elim (Any-cons P x xs any) [
  | inl here ↦ Any-here P x (xs ++ ys) here
  | inr there ↦ Any-there P x (xs ++ ys) (Any-behind P xs ys there)
]

lock_joined : (F : FileState) (owner byte : ℕ) (mode : Mode) (pieces : List (Owner × List Lock)) → All (IsLockPiece F) pieces
    → Contains (map (λ p. p.0) pieces) (Description owner) → F.bytes owner byte ≡ Some mode
    → Any (λ lock. (lock.owner ≡ owner) × (lock.mode ≡ mode) × Covers lock.span byte) (flat_map (λ p. p.1) pieces)
lock_joined F owner byte mode [] each known has = absurd (Contains-nil (Description owner) known)
lock_joined F owner byte mode (piece ∷ pieces) each known has =
    let Shows : Lock → Type 0 = λ lock. (lock.owner ≡ owner) × (lock.mode ≡ mode) × Covers lock.span byte in
    elim (Contains-cons piece.0 (map (λ p. p.0) pieces) (Description owner) known) [
      | inl here ↦ Any-behind Shows piece.1 (flat_map (λ p. p.1) pieces) ((All-head (IsLockPiece F) piece pieces each).all owner here byte mode has)
      | inr there ↦ Any-before Shows piece.1 (flat_map (λ p. p.1) pieces)
          (lock_joined F owner byte mode pieces (All-tail (IsLockPiece F) piece pieces each) there has)
    ]

-- a loop over the lists put just the byte locks
pub all_locks : (file : LockFile) (lists : List (Owner × OwnerRuns)) (entries : List (Bor Owner × Bor OwnerRuns)) (spell : Lock → List ℕ) (old new : List ℕ)
    (at next : ℕ) → HaveModes file.book lists → AreRising lists → map deref_pair entries ≡ lists
    → Walked (IsLockPiece (file_state file)) spell entries old at new next
    → PutsSome (AreByteLocks (file_state file)) (flat_map spell) old at new next
unfolding file_state
all_locks file lists entries spell old new at next have rising whole walked =
    let F : FileState = file_state file in
    let of_keys = walked_keys (IsLockPiece F) spell lists entries old new at next walked whole in
    let known : (owner byte : ℕ) (mode : Mode) → F.bytes owner byte ≡ Some mode → Contains (map (λ (p : Owner × List Lock). p.0) walked.pieces) (Description owner) =
    λ owner byte mode has. subst (λ (ks : List Owner). Contains ks (Description owner)) (sym of_keys)
    (list_there file.book lists (Description owner) have byte mode has) in
    let order : AllPairs IsBefore (map (λ (p : Owner × List Lock). p.0) walked.pieces) =
    subst (λ (ks : List Owner). AllPairs IsBefore ks) (sym of_keys) (rising_owners lists rising) in
    record {
      what = flat_map (λ (p : Owner × List Lock). p.1) walked.pieces;
      is = record {
        just = just_joined (λ (lock : Lock). Description lock.owner) lock_place (IsByteLock F) IsBefore
            (λ x y first second less. inl less) walked.pieces order
            (All-weaker (IsLockPiece F) (IsPiece (λ (lock : Lock). Description lock.owner) lock_place (IsByteLock F)) (λ p is. is.piece) walked.pieces walked.each)
            (λ lock is. known lock.owner lock.span.first lock.mode (is.constant lock.span.first is.covered));
        all = λ owner byte mode has. lock_joined F owner byte mode walked.pieces walked.each (known owner byte mode has) has;
      };
      puts = walked.puts;
    }

-- files

-- a file by itself
pub record IsFilePiece (S : State) (piece : ℕ × List FileEntry) : Type 0 where
  pub entry : FileEntry
  pub alone : piece.1 ≡ entry ∷ []
  pub number : entry.number ≡ piece.0
  pub is : IsFileEntry S entry

-- a box that the map has is the entry of its file
pub entry_held : (files : Files) (number : ℕ) (held : Box LockFile) → get nat_cmp files.by_number number ≡ Some held
    → entry_in files number ≡ Some held.value
unfolding entry_in
entry_held files number held there = ap (λ (found : Option (Box LockFile)). option_map (λ box. box.value) found) there

held_in : (found : Option (Box LockFile)) (file : LockFile) → option_map (λ held. held.value) found ≡ Some file
    → (held : Box LockFile) × (found ≡ Some held)
held_in None file is = absurd (let none : None ≡ Some file = is in cc)
held_in (Some held) file is = (held, refl)

-- and each entry is in one
held_there : (files : Files) (number : ℕ) (file : LockFile) → entry_in files number ≡ Some file
    → (held : Box LockFile) × (get nat_cmp files.by_number number ≡ Some held)
unfolding entry_in
held_there files number file there = held_in (get nat_cmp files.by_number number) file there

pub file_piece : (table : Table) (number : ℕ) (file : LockFile) (entry : FileEntry) → AreSwept table → entry_in table.files number ≡ Some file
    → IsEntryOf number (file_state file) entry → IsFilePiece (table_state table) (number, entry ∷ [])
unfolding table_state entry_of
file_piece table number file entry swept there says = record {
  entry = entry;
  alone = refl;
  number = says.number_is;
  is = record {
    used = λ idle. swept entry.number idle (record { entry = file; is = ap (λ (n : ℕ). entry_in table.files n) says.number_is ∙ there });
    says = subst (λ (F : FileState). SaysFile F entry)
        (sym (ap (λ (found : Option LockFile). state_at found) (ap (λ (n : ℕ). entry_in table.files n) says.number_is ∙ there))) says.says;
  };
}

file_alone : (S : State) (piece : ℕ × List FileEntry) → IsFilePiece S piece → IsPiece (λ (entry : FileEntry). entry.number) entry_place (IsFileEntry S) piece
file_alone S piece is =
    subst (λ (l : List FileEntry). AreJust entry_place (λ entry. (entry.number ≡ piece.0) × IsFileEntry S entry) l) (sym is.alone)
    (just_single entry_place (λ entry. (entry.number ≡ piece.0) × IsFileEntry S entry) is.entry (is.number, is.is)
    (λ other has.
    let same : is.entry.number ≡ other.number = is.number ∙ sym has.0 in
    entry_one (S.files other.number) is.entry other same (subst (λ (n : ℕ). SaysFile (S.files n) is.entry) same is.is.says) has.1.says))

one_each : (S : State) (pieces : List (ℕ × List FileEntry)) → All (IsFilePiece S) pieces → length (flat_map (λ p. p.1) pieces) ≡ length pieces
one_each S [] each = refl
one_each S (piece ∷ pieces) each =
    let first = All-head (IsFilePiece S) piece pieces each in
    let rest = one_each S pieces (All-tail (IsFilePiece S) piece pieces each) in
    let alone : length piece.1 ≡ 1 = ap (λ (l : List FileEntry). length l) first.alone in
    let both = length-append piece.1 (flat_map (λ (p : ℕ × List FileEntry). p.1) pieces) in
    omega arith

file_joined : (S : State) (file : ℕ) (pieces : List (ℕ × List FileEntry)) → All (IsFilePiece S) pieces → Contains (map (λ p. p.0) pieces) file
    → Any (λ entry. entry.number ≡ file) (flat_map (λ p. p.1) pieces)
file_joined S file [] each known = absurd (Contains-nil file known)
file_joined S file (piece ∷ pieces) each known =
    let Of : FileEntry → Type 0 = λ entry. entry.number ≡ file in
    let first = All-head (IsFilePiece S) piece pieces each in
    elim (Contains-cons piece.0 (map (λ p. p.0) pieces) file known) [
      | inl here ↦ Any-behind Of piece.1 (flat_map (λ p. p.1) pieces)
          (subst (λ (l : List FileEntry). Any Of l) (sym first.alone) (Any-here Of first.entry [] (first.number ∙ here)))
      | inr there ↦ Any-before Of piece.1 (flat_map (λ p. p.1) pieces) (file_joined S file pieces (All-tail (IsFilePiece S) piece pieces each) there)
    ]

-- a file without an entry is untouched
entry_or_idle : (found : Option LockFile) → ((file : LockFile) × (found ≡ Some file)) ⊎ SameFile (state_at found) untouched
entry_or_idle None = inr (SameFile-itself untouched)
entry_or_idle (Some file) = inl (file, refl)

used_there : (table : Table) (entry : FileEntry) → IsFileEntry (table_state table) entry → (file : LockFile) × (entry_in table.files entry.number ≡ Some file)
unfolding table_state entry_of
used_there table entry is = elim (entry_or_idle (entry_in table.files entry.number)) [
  | inl found ↦ found
  | inr idle ↦ absurd (is.used idle)
]

-- so there is a box with it, and its number is among the keys
box_used : (table : Table) (entry : FileEntry) → IsFileEntry (table_state table) entry
    → (held : Box LockFile) × (get nat_cmp table.files.by_number entry.number ≡ Some held)
box_used table entry is = let there = used_there table entry is in held_there table.files entry.number there.0 there.1

box_key : (files : Files) (number : ℕ) (file : LockFile) → entry_in files number ≡ Some file → Contains (keys_of files.by_number.entries) number
box_key files number file there = let held = held_there files number file there in key_there files.by_number number held.0 held.1

-- a loop over the files, behind their number
pub all_files : (table : Table) (entries : List (Bor ℕ × Bor (Box LockFile))) (count : ℕ) (old mid new : List ℕ) (at then next : ℕ)
    → count ≡ length table.files.by_number.entries → IsOrdered nat_cmp table.files.by_number → map deref_pair entries ≡ table.files.by_number.entries
    → Puts (count ∷ []) old at mid then → Walked (IsFilePiece (table_state table)) file_words entries mid then new next
    → PutsSome (AreFiles (table_state table)) (listed file_words) old at new next
unfolding table_state entry_of
all_files table entries count old mid new at then next counts ordered whole number walked =
    let S : State = table_state table in
    let boxes = table.files.by_number in
    let of_keys = walked_keys (IsFilePiece S) file_words boxes.entries entries mid new then next walked whole in
    let just = walked_just boxes (λ (entry : FileEntry). entry.number) entry_place (IsFileEntry S) (IsFilePiece S) file_words entries mid new then next
    (λ x y first second less. inl less) (file_alone S) (box_used table) ordered whole walked in
    let files : List FileEntry = flat_map (λ (p : ℕ × List FileEntry). p.1) walked.pieces in
    let right : count ≡ length files =
    counts ∙ sym (length-map boxes.entries (λ e. e.0)) ∙ ap (λ (l : List ℕ). length l) (sym of_keys)
    ∙ length-map walked.pieces (λ p. p.0) ∙ sym (one_each S walked.pieces walked.each) in
    record {
      what = files;
      is = record {
        just = just;
        others = λ file none. elim (entry_or_idle (entry_in table.files file)) [
          | inl found ↦ absurd (none (file_joined S file walked.pieces walked.each
              (subst (λ (ks : List ℕ). Contains ks file) (sym of_keys) (box_key table.files file found.0 found.1))))
          | inr idle ↦ idle
        ];
      };
      puts = subst (λ (n : ℕ). Puts (n ∷ flat_map file_words files) old at new next) right
          (puts_append (count ∷ []) (flat_map file_words files) old mid new at then next number walked.puts);
    }

-- the parts of one file
pub entry_put : (F : FileState) (number : ℕ) (old one two three new : List ℕ) (at a b c next : ℕ) → Puts (number ∷ []) old at one a
    → PutsSome (AreByteLocks F) (listed lock_words) one a two b → PutsSome (AreJust flock_place (IsFlockLock F)) (listed flock_words) two b three c
    → Puts (listed wait_words F.waits) three c new next → PutsSome (IsEntryOf number F) file_words old at new next
entry_put F number old one two three new at a b c next first locks flocks waits = record {
  what = record { number = number; locks = locks.what; flocks = flocks.what; waits = F.waits };
  is = record { number_is = refl; says = record { locks = locks.is; flocks = flocks.is; waits = refl } };
  puts = puts_append (number ∷ []) _ old one new at a next first
      (puts_append (listed lock_words locks.what) _ one two new a b next locks.puts
      (puts_append (listed flock_words flocks.what) (listed wait_words F.waits) two three new b c next flocks.puts waits));
}

-- flock locks

-- the flock locks of the owners below this one are put
pub record FlocksBelow (F : FileState) (below : ℕ) (old : List ℕ) (at : ℕ) (new : List ℕ) (next : ℕ) : Type 0 where
  pub locks : List FlockLock
  pub just : AreJust flock_place (λ lock. (lock.owner < below) × IsFlockLock F lock) locks
  pub puts : Puts (flat_map flock_words locks) old at new next

pub no_flock_below : (F : FileState) (old : List ℕ) (at : ℕ) → at < 2 ^ 64 → FlocksBelow F 0 old at old at
no_flock_below F old at small = record {
  locks = [];
  just = just_none flock_place (λ lock. (lock.owner < 0) × IsFlockLock F lock) (λ lock has. omega (arith, has.0));
  puts = puts_none old at (omega (arith, small));
}

pub flock_below : (F : FileState) (below : ℕ) (lock : FlockLock) (old mid new : List ℕ) (at then next : ℕ) → FlocksBelow F below old at mid then
    → IsFirstFrom flock_place (IsFlockLock F) (below ∷ []) lock → Puts (flock_words lock) mid then new next
    → FlocksBelow F (lock.owner + 1) old at new next
flock_below F below lock old mid new at then next put first puts =
    let from : below ≤ lock.owner = elim (cases_lt lock.owner below) [
      | inl less ↦ absurd (first.from_there (inl less))
      | inr above ↦ above
    ] in
    record {
      locks = put.locks ++ lock ∷ [];
      just = record {
        rising = all_pairs_push (λ x y. IsEarlier (flock_place x) (flock_place y)) put.locks lock put.just.rising
            (λ k d within.
            let is = (put.just.each (get_or put.locks k d)).0 (k, within, get_or_default put.locks k (get_or put.locks k d) d within) in
            inl (omega (arith, is.0, from)));
        each = λ other. (
          λ inside. elim (Contains-push_cases put.locks lock other inside) [
            | inl before ↦ let is = (put.just.each other).0 before in (omega (arith, is.0, from), is.1)
            | inr is ↦ (subst (λ (l : FlockLock). l.owner < lock.owner + 1) is (omega arith), subst (λ (l : FlockLock). IsFlockLock F l) is first.listed)
          ],
          λ has. elim (cases_lt other.owner below) [
            | inl less ↦ Contains-append_left put.locks (lock ∷ []) other ((put.just.each other).1 (less, has.1))
            | inr above ↦ elim (cases_lt other.owner lock.owner) [
              | inl less ↦ absurd (elim (first.first other has.1 (inl less)) [
                | inl lower ↦ (let h : other.owner < below = lower in omega (arith, h, above))
                | inr (same, nothing) ↦ nothing
              ])
              | inr beyond ↦
                  let owner : lock.owner ≡ other.owner = omega (arith, beyond, has.0) in
                  let held : F.flocks lock.owner ≡ Some other.mode = subst (λ (n : ℕ). F.flocks n ≡ Some other.mode) (sym owner) has.1 in
                  let mode = some_same lock.mode other.mode (F.flocks lock.owner) first.listed held in
                  let same : lock ≡ other = λ i. record { owner = owner i; mode = mode i } in
                  subst (λ (l : FlockLock). Contains (put.locks ++ lock ∷ []) l) same (Contains-push put.locks lock)
            ]
          ],
        );
      };
      puts = subst (λ (l : List ℕ). Puts l old at new next)
          (sym (flat_map-append flock_words put.locks (lock ∷ []) ∙ ap (λ (l : List ℕ). flat_map flock_words put.locks ++ l) (append-nil (flock_words lock))))
          (puts_append (flat_map flock_words put.locks) (flock_words lock) old mid new at then next put.puts puts);
    }

pub all_flocks : (F : FileState) (below : ℕ) (old new : List ℕ) (at next : ℕ) → FlocksBelow F below old at new next
    → EndsBefore flock_place (IsFlockLock F) (below ∷ [])
    → PutsSome (AreJust flock_place (IsFlockLock F)) (flat_map flock_words) old at new next
all_flocks F below old new at next put ends = record {
  what = put.locks;
  is = just_along flock_place (λ lock. (lock.owner < below) × IsFlockLock F lock) (IsFlockLock F) put.locks
      (λ lock. (λ has. has.1, λ has. (below_all lock has, has))) put.just;
  puts = put.puts;
}
  where
    below_all : (lock : FlockLock) → IsFlockLock F lock → lock.owner < below
    below_all lock has = elim (ends.earlier lock has) [
      | inl less ↦ less
      | inr (same, nothing) ↦ absurd nothing
    ]

-- where there is no next lock
pub no_next : (F : FileState) (below : ℕ) (found : Option FlockLock) → IsNextFrom flock_place (IsFlockLock F) (below ∷ []) found
    → ((lock : FlockLock) → found ≡ Some lock → ⊥) → EndsBefore flock_place (IsFlockLock F) (below ∷ [])
no_next F below None next none = next
no_next F below (Some lock) next none = absurd (none lock refl)

-- the whole

pub inventory_put : (rules : Rules) (S : State) (through : ℕ → ℕ → Option ℕ) (old one two three four new : List ℕ) (at a b c d next : ℕ)
    → Puts (version ∷ rules_words rules) old at one a → PutsSome (AreFiles S) (listed file_words) one a two b
    → Puts (listed number_words S.grants) two b three c
    → PutsSome (AreJust (λ owner. owner ∷ []) (λ owner. IsTrue (S.crossed owner))) (listed number_words) three c four d
    → PutsSome (AreJust note_place (λ note. through note.file note.owner ≡ Some note.open_file)) (listed note_words) four d new next
    → PutsSome (IsInventory S through) (export_words rules) old at new next
inventory_put rules S through old one two three four new at a b c d next went files grants crossed notes = record {
  what = record { files = files.what; grants = S.grants; crossed = crossed.what; notes = notes.what };
  is = record { files = files.is; grants = refl; crossed = crossed.is; notes = notes.is };
  puts = puts_append (version ∷ rules_words rules) _ old one new at a next went
      (puts_append (listed file_words files.what) _ one two new a b next files.puts
      (puts_append (listed number_words S.grants) _ two three new b c next grants
      (puts_append (listed number_words crossed.what) (listed note_words notes.what) three four new c d next crossed.puts notes.puts)));
}

-- all rounds put as much
size_one : (rules : Rules) (S : State) (through : ℕ → ℕ → Option ℕ) (old other new news : List ℕ) (at one next : ℕ)
    → PutsSome (IsInventory S through) (export_words rules) old at new one → PutsSome (IsInventory S through) (export_words rules) other at news next
    → next ≡ one
size_one rules S through old other new news at one next first second =
    second.puts.reaches
    ∙ ap (λ (i : Inventory). min (at + 8 * length (export_words rules i)) greatest) (inventory_one S through second.what first.what second.is first.is)
    ∙ sym first.puts.reaches

pub size_told : (rules : Rules) (S : State) (through : ℕ → ℕ → Option ℕ) (old new : List ℕ) (next : ℕ)
    → PutsSome (IsInventory S through) (export_words rules) old 0 new next → (bytes : List ℕ) → IsExport rules S through bytes
    → next ≡ min (length bytes) greatest
size_told rules S through old new next put bytes export =
    let long : length bytes ≡ 8 * length (export_words rules put.what) =
    ap (λ (l : List ℕ). length l) export.is ∙ length-bytes_of (export_words rules export.inventory)
    ∙ ap (λ (i : Inventory). 8 * length (export_words rules i)) (inventory_one S through export.inventory put.what export.is_inventory put.is) in
    let reached = put.puts.reaches in
    omega arith

-- what stands in the buffer
pub record IsWritten (rules : Rules) (S : State) (through : ℕ → ℕ → Option ℕ) (old new : List ℕ) (size : ℕ) : Type 0 where
  pub bytes : IsExport rules S through (take size new)
  pub behind : drop size new ≡ drop size old

written_told : (rules : Rules) (S : State) (through : ℕ → ℕ → Option ℕ) (old new : List ℕ) (next : ℕ)
    → PutsSome (IsInventory S through) (export_words rules) old 0 new next → next ≤ length old → next < greatest
    → IsWritten rules S through old new next
written_told rules S through old new next put fits small =
    let words = export_words rules put.what in
    let reached = put.puts.reaches in
    let exact : next ≡ 8 * length words = omega arith in
    let written = put.puts.writes [] (take next old) (drop next old) (sym (take-append-drop next old)) refl
    (length-take-le next old fits ∙ exact) (omega arith) in
    let long : length (bytes_of words) ≡ next = length-bytes_of words ∙ sym exact in
    let is : new ≡ bytes_of words ++ drop next old = written.1 in
    record {
      bytes = record {
        inventory = put.what;
        is_inventory = put.is;
        are_words = written.0;
        is = ap (λ (l : List ℕ). take next l) is ∙ take_at (bytes_of words) (drop next old) next long;
      };
      behind = ap (λ (l : List ℕ). drop next l) is ∙ drop_at (bytes_of words) (drop next old) next long;
    }

-- what stands there after a second round, once a first one told the size
pub sized_told : (rules : Rules) (S : State) (through : ℕ → ℕ → Option ℕ) (empty left old new : List ℕ) (size next : ℕ)
    → PutsSome (IsInventory S through) (export_words rules) empty 0 left size → PutsSome (IsInventory S through) (export_words rules) old 0 new next
    → size ≤ length old → size < greatest → IsWritten rules S through old new size
sized_told rules S through empty left old new size next first second fits small =
    let same : next ≡ size = size_one rules S through empty old left new 0 size next first second in
    subst (λ (n : ℕ). IsWritten rules S through old new n) same
    (written_told rules S through old new next second (omega arith) (omega arith))
