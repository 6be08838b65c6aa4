-- A state has one export, and an export is of one state: for `exports_tell_states`.
use Rattle.lock_server.proofs.Common.{ℕ, ◌≡◌, ◌∙◌, sym, ap, subst, refl, arith, inl, inr, Bool, true, false, Option, Some, None, List, [], ◌∷◌, ◌++◌, length, drop, append_assoc, ◌↔◌, IsTrue, flat_map, cases_eq}
use Rattle.lock_server.proofs.Common.{Mode, Read, Write, Span, Family, Bytes, Whole, Policy, Held, Queue, Conversion, Stepwise, Atomic, FlockLock, Lock, Rules, LockServer, IsExport, conversion_word, family_word, file_words, flag_word, flock_words, listed, lock_words, mode_word, note_words, number_words, policy_word, wait_words, IsExportOf, FileState, SameFile, untouched, AreFiles, AreByteLocks, AreJust, FileEntry, IsInventory, Note, SaysFile, entry_place, note_place, IsByteLock, IsFlockLock, flock_place, lock_place, SameOpenings, rules_of, state_of, through_of, State, SameState, bytes_of}
use Rattle.std.specs.Prelude.{◌⊎◌, Any, Contains}
use Rattle.lock_server.specs.Agreement.{SameServer}
use Rattle.lock_server.specs.Bytes.{export_words, inventory_words}
use Rattle.lock_server.specs.Inventory.{Inventory, IsFileEntry}
use Rattle.lock_server.proofs.JustLemmas.{Contains-here, Contains-there, just_one}
use Rattle.lock_server.proofs.ListLemmas.{Any-nil, Any-cons}
use Rattle.lock_server.proofs.StateLemmas.{SameFile-then, state_from_same}
use Rattle.lock_server.proofs.WordLemmas.{one_spelling}

-- a state has one inventory

itself : {X : Type 0} (P : X → Type 0) → (x : X) → P x ↔ P x
itself P x = (λ h. h, λ h. h)

pub byte_locks_one : (F : FileState) (locks others : List Lock) → AreByteLocks F locks → AreByteLocks F others → locks ≡ others
byte_locks_one F locks others first second =
    just_one lock_place (IsByteLock F) (IsByteLock F) locks others (itself (IsByteLock F)) first.just second.just

pub flocks_one : (F : FileState) (locks others : List FlockLock) → AreJust flock_place (IsFlockLock F) locks → AreJust flock_place (IsFlockLock F) others
    → locks ≡ others
flocks_one F locks others first second =
    just_one flock_place (IsFlockLock F) (IsFlockLock F) locks others (itself (IsFlockLock F)) first second

-- what is said of one file is one entry
pub entry_one : (F : FileState) (entry other : FileEntry) → entry.number ≡ other.number → SaysFile F entry → SaysFile F other → entry ≡ other
entry_one F entry other number first second =
    let locks = byte_locks_one F entry.locks other.locks first.locks second.locks in
    let flocks = flocks_one F entry.flocks other.flocks first.flocks second.flocks in
    let waits = first.waits ∙ sym second.waits in
    λ i. record { number = number i; locks = locks i; flocks = flocks i; waits = waits i }

files_one : (S : State) (files others : List FileEntry) → AreFiles S files → AreFiles S others → files ≡ others
files_one S files others first second =
    just_one entry_place (IsFileEntry S) (IsFileEntry S) files others (itself (IsFileEntry S)) first.just second.just

pub inventory_one : (S : State) (through : ℕ → ℕ → Option ℕ) (inventory other : Inventory) → IsInventory S through inventory
    → IsInventory S through other → inventory ≡ other
inventory_one S through inventory other first second =
    let files = files_one S inventory.files other.files first.files second.files in
    let grants = first.grants ∙ sym second.grants in
    let crossed = just_one number_words (λ owner. IsTrue (S.crossed owner)) (λ owner. IsTrue (S.crossed owner)) inventory.crossed other.crossed
    (itself (λ owner. IsTrue (S.crossed owner))) first.crossed second.crossed in
    let Noted : Note → Type 0 = λ note. through note.file note.owner ≡ Some note.open_file in
    let notes = just_one note_place Noted Noted inventory.notes other.notes (itself Noted) first.notes second.notes in
    λ i. record { files = files i; grants = grants i; crossed = crossed i; notes = notes i }

-- an inventory is of one state

option_same : {X : Type 0} (one other : Option X) → ((x : X) → one ≡ Some x → other ≡ Some x) → ((x : X) → other ≡ Some x → one ≡ Some x)
    → other ≡ one
option_same (Some x) other into back = into x refl
option_same None None into back = refl
option_same None (Some y) into back = sym (back y refl)

pub flag_same : (one other : Bool) → (IsTrue one → IsTrue other) → (IsTrue other → IsTrue one) → other ≡ one
flag_same true other into back = into refl
flag_same false true into back = sym (back refl)
flag_same false false into back = refl

-- the owner's mode on the byte, by the locks
bytes_told : (F G : FileState) (locks : List Lock) → AreByteLocks F locks → AreByteLocks G locks → (owner byte : ℕ) (mode : Mode)
    → F.bytes owner byte ≡ Some mode → G.bytes owner byte ≡ Some mode
bytes_told F G locks first second owner byte mode has =
    let found = first.all owner byte mode has in
    let lock = found.1 in
    let is = (second.just.each lock).0 (found.0, found.2, found.3) in
    let there : G.bytes lock.owner byte ≡ Some lock.mode = is.constant byte found.4.2 in
    subst (λ (o : ℕ). G.bytes o byte ≡ Some mode) found.4.0 (there ∙ ap (λ (m : Mode). Some m) found.4.1)

file_told : (F G : FileState) (entry : FileEntry) → SaysFile F entry → SaysFile G entry → SameFile F G
file_told F G entry first second = record {
  locks = record {
    bytes = λ owner byte. option_same (F.bytes owner byte) (G.bytes owner byte)
        (bytes_told F G entry.locks first.locks second.locks owner byte)
        (bytes_told G F entry.locks second.locks first.locks owner byte);
    flocks = λ owner. option_same (F.flocks owner) (G.flocks owner)
        (λ mode has. let lock : FlockLock = record { owner = owner; mode = mode } in (second.flocks.each lock).0 ((first.flocks.each lock).1 has))
        (λ mode has. let lock : FlockLock = record { owner = owner; mode = mode } in (first.flocks.each lock).0 ((second.flocks.each lock).1 has));
  };
  waits = sym second.waits ∙ first.waits;
}

-- whether one of the entries is of the file
has_entry : (file : ℕ) (files : List FileEntry)
    → ((entry : FileEntry) × Contains files entry × (entry.number ≡ file)) ⊎ (¬ Any (λ entry. entry.number ≡ file) files)
has_entry file [] = inr (λ any. Any-nil (λ entry. entry.number ≡ file) any)
has_entry file (entry ∷ files) = elim (cases_eq entry.number file) [
  | inl here ↦ inl (entry, Contains-here entry files, here)
  | inr differs ↦ elim (has_entry file files) [
    | inl found ↦ inl (found.0, Contains-there entry files found.0 found.1, found.2)
    | inr none ↦ inr (λ any. elim (Any-cons (λ e. e.number ≡ file) entry files any) [
      | inl here ↦ differs here
      | inr there ↦ none there
    ])
  ]
]

SameFile-back : (F G : FileState) → SameFile F G → SameFile G F
SameFile-back F G same = record {
  locks = record { bytes = λ owner byte. sym (same.locks.bytes owner byte); flocks = λ owner. sym (same.locks.flocks owner) };
  waits = sym same.waits;
}

files_told : (S T : State) (files : List FileEntry) → AreFiles S files → AreFiles T files → (file : ℕ) → SameFile (S.files file) (T.files file)
files_told S T files first second file = elim (has_entry file files) [
  | inl found ↦
      let entry = found.0 in
      let one = ((first.just.each entry).0 found.1).says in
      let two = ((second.just.each entry).0 found.1).says in
      subst (λ (n : ℕ). SameFile (S.files n) (T.files n)) found.2 (file_told (S.files entry.number) (T.files entry.number) entry one two)
  | inr none ↦
      SameFile-then (S.files file) untouched (T.files file) (first.others file none) (SameFile-back (T.files file) untouched (second.others file none))
]

pub state_told : (S T : State) (through next : ℕ → ℕ → Option ℕ) (inventory : Inventory) → IsInventory S through inventory
    → IsInventory T next inventory → SameState S T × SameOpenings through next
state_told S T through next inventory first second = (
  record {
    files = files_told S T inventory.files first.files second.files;
    grants = sym second.grants ∙ first.grants;
    crossed = λ owner. flag_same (S.crossed owner) (T.crossed owner)
        (λ is. (second.crossed.each owner).0 ((first.crossed.each owner).1 is))
        (λ is. (first.crossed.each owner).0 ((second.crossed.each owner).1 is));
  },
  record {
    through = λ file owner. option_same (through file owner) (next file owner)
        (λ open_file has. let note : Note = record { file = file; owner = owner; open_file = open_file } in (second.notes.each note).0 ((first.notes.each note).1 has))
        (λ open_file has. let note : Note = record { file = file; owner = owner; open_file = open_file } in (first.notes.each note).0 ((second.notes.each note).1 has));
  },
)

-- words are of one inventory

-- no words of one thing begin those of another
abbrev pub IsCode : {X : Type 0} → (X → List ℕ) → Type 0
IsCode {X} spell = (x y : X) (r s : List ℕ) → spell x ++ r ≡ spell y ++ s → (x ≡ y) × (r ≡ s)

abbrev head : List ℕ → ℕ
head [] = 0
head (word ∷ words) = word

heads : (words others : List ℕ) → words ≡ others → head words ≡ head others
heads words others same = ap head same

rests : (n : ℕ) (words others : List ℕ) → words ≡ others → drop n words ≡ drop n others
rests n words others same = ap (drop n) same

all_told : {X : Type 0} (spell : X → List ℕ) → IsCode spell → (xs ys : List X) (r s : List ℕ) → length xs ≡ length ys
    → flat_map spell xs ++ r ≡ flat_map spell ys ++ s → (xs ≡ ys) × (r ≡ s)
all_told spell code [] [] r s count same = (refl, same)
all_told spell code [] (y ∷ ys) r s count same = absurd (omega (arith, count))
all_told spell code (x ∷ xs) [] r s count same = absurd (omega (arith, count))
all_told spell code (x ∷ xs) (y ∷ ys) r s count same =
    let first = code x y (flat_map spell xs ++ r) (flat_map spell ys ++ s)
    (sym (append_assoc (spell x) (flat_map spell xs) r) ∙ same ∙ append_assoc (spell y) (flat_map spell ys) s) in
    let rest = all_told spell code xs ys r s (omega (arith, count)) first.1 in
    ((let one = first.0 in let more = rest.0 in cc), rest.1)

code_listed : {X : Type 0} (spell : X → List ℕ) → IsCode spell → IsCode (listed spell)
code_listed spell code xs ys r s same =
    all_told spell code xs ys r s (heads _ _ same) (rests 1 _ _ same)

pub mode_told : (one other : Mode) → mode_word one ≡ mode_word other → one ≡ other
mode_told Read Read same = refl
mode_told Read Write same = absurd (omega (arith, same))
mode_told Write Read same = absurd (omega (arith, same))
mode_told Write Write same = refl

pub family_told : (one other : Family) → family_word one ≡ family_word other → one ≡ other
family_told Bytes Bytes same = refl
family_told Bytes Whole same = absurd (omega (arith, same))
family_told Whole Bytes same = absurd (omega (arith, same))
family_told Whole Whole same = refl

pub flag_told : (one other : Bool) → flag_word one ≡ flag_word other → one ≡ other
flag_told false false same = refl
flag_told false true same = absurd (omega (arith, same))
flag_told true false same = absurd (omega (arith, same))
flag_told true true same = refl

pub policy_told : (one other : Policy) → policy_word one ≡ policy_word other → one ≡ other
policy_told Held Held same = refl
policy_told Held Queue same = absurd (omega (arith, same))
policy_told Queue Held same = absurd (omega (arith, same))
policy_told Queue Queue same = refl

pub conversion_told : (one other : Conversion) → conversion_word one ≡ conversion_word other → one ≡ other
conversion_told Stepwise Stepwise same = refl
conversion_told Stepwise Atomic same = absurd (omega (arith, same))
conversion_told Atomic Stepwise same = absurd (omega (arith, same))
conversion_told Atomic Atomic same = refl

span_told : (one other : Span) → one.first ≡ other.first → one.last ≡ other.last → one ≡ other
span_told one other first last i = record { first = first i; last = last i }

code_lock : IsCode lock_words
code_lock x y r s same =
    let owner : x.owner ≡ y.owner = heads _ _ same in
    let span = span_told x.span y.span (heads _ _ (rests 1 _ _ same)) (heads _ _ (rests 2 _ _ same)) in
    let mode = mode_told x.mode y.mode (heads _ _ (rests 3 _ _ same)) in
    (λ i. record { owner = owner i; mode = mode i; span = span i }, rests 4 _ _ same)

code_flock : IsCode flock_words
code_flock x y r s same =
    let owner : x.owner ≡ y.owner = heads _ _ same in
    let mode = mode_told x.mode y.mode (heads _ _ (rests 1 _ _ same)) in
    (λ i. record { owner = owner i; mode = mode i }, rests 2 _ _ same)

code_wait : IsCode wait_words
code_wait x y r s same =
    let ticket : x.ticket ≡ y.ticket = heads _ _ same in
    let owner : x.owner ≡ y.owner = heads _ _ (rests 1 _ _ same) in
    let family = family_told x.family y.family (heads _ _ (rests 2 _ _ same)) in
    let span = span_told x.span y.span (heads _ _ (rests 3 _ _ same)) (heads _ _ (rests 4 _ _ same)) in
    let mode = mode_told x.mode y.mode (heads _ _ (rests 5 _ _ same)) in
    let detect = flag_told x.detect y.detect (heads _ _ (rests 6 _ _ same)) in
    (λ i. record { ticket = ticket i; owner = owner i; family = family i; span = span i; mode = mode i; detect = detect i }, rests 7 _ _ same)

code_number : IsCode number_words
code_number x y r s same = (heads _ _ same, rests 1 _ _ same)

code_note : IsCode note_words
code_note x y r s same =
    let file : x.file ≡ y.file = heads _ _ same in
    let owner : x.owner ≡ y.owner = heads _ _ (rests 1 _ _ same) in
    let open_file : x.open_file ≡ y.open_file = heads _ _ (rests 2 _ _ same) in
    (λ i. record { file = file i; owner = owner i; open_file = open_file i }, rests 3 _ _ same)

-- words, and then more of them, and more
pub three : (a b c r : List ℕ) → (a ++ (b ++ c)) ++ r ≡ a ++ (b ++ (c ++ r))
three a b c r = append_assoc a (b ++ c) r ∙ ap (λ (l : List ℕ). a ++ l) (append_assoc b c r)

code_file : IsCode file_words
code_file x y r s same =
    let number : x.number ≡ y.number = heads _ _ same in
    let behind : (listed lock_words x.locks ++ (listed flock_words x.flocks ++ listed wait_words x.waits)) ++ r
    ≡ (listed lock_words y.locks ++ (listed flock_words y.flocks ++ listed wait_words y.waits)) ++ s = rests 1 _ _ same in
    let locks = code_listed lock_words code_lock x.locks y.locks _ _
    (sym (three (listed lock_words x.locks) (listed flock_words x.flocks) (listed wait_words x.waits) r) ∙ behind
    ∙ three (listed lock_words y.locks) (listed flock_words y.flocks) (listed wait_words y.waits) s) in
    let flocks = code_listed flock_words code_flock x.flocks y.flocks _ _ locks.1 in
    let waits = code_listed wait_words code_wait x.waits y.waits _ _ flocks.1 in
    (λ i. record { number = number i; locks = locks.0 i; flocks = flocks.0 i; waits = waits.0 i }, waits.1)

inventory_told : (one other : Inventory) → inventory_words one ≡ inventory_words other → one ≡ other
inventory_told one other same =
    let files = code_listed file_words code_file one.files other.files _ _ same in
    let grants = code_listed number_words code_number one.grants other.grants _ _ files.1 in
    let crossed = code_listed number_words code_number one.crossed other.crossed _ _ grants.1 in
    let ended : listed note_words one.notes ++ [] ≡ listed note_words other.notes ++ [] = ap (λ (l : List ℕ). l ++ []) crossed.1 in
    let notes = code_listed note_words code_note one.notes other.notes [] [] ended in
    λ i. record { files = files.0 i; grants = grants.0 i; crossed = crossed.0 i; notes = notes.0 i }

-- a state has one export
pub export_one : (rules : Rules) (S : State) (through : ℕ → ℕ → Option ℕ) (bytes others : List ℕ) → IsExport rules S through bytes
    → IsExport rules S through others → others ≡ bytes
export_one rules S through bytes others first second =
    second.is ∙ ap (λ (i : Inventory). bytes_of (export_words rules i)) (inventory_one S through second.inventory first.inventory second.is_inventory first.is_inventory)
    ∙ sym first.is

-- an export is of one state
export_told : (rules other : Rules) (S T : State) (through next : ℕ → ℕ → Option ℕ) (bytes others : List ℕ) → IsExport rules S through bytes
    → IsExport other T next others → others ≡ bytes → (other ≡ rules) × SameState S T × SameOpenings through next
export_told rules other S T through next bytes others first second same =
    let words = one_spelling (export_words other second.inventory) (export_words rules first.inventory) second.are_words first.are_words
    (sym second.is ∙ same ∙ first.is) in
    let inventory : second.inventory ≡ first.inventory = inventory_told second.inventory first.inventory (rests 3 _ _ words) in
    let told = state_told S T through next first.inventory first.is_inventory
    (subst (λ (i : Inventory). IsInventory T next i) inventory second.is_inventory) in
    let policy = policy_told other.policy rules.policy (heads _ _ (rests 1 _ _ words)) in
    let conversion = conversion_told other.conversion rules.conversion (heads _ _ (rests 2 _ _ words)) in
    ((λ i. record { policy = policy i; conversion = conversion i }), told.0, told.1)

pub servers_told : (one other : LockServer) (bytes others : List ℕ) → IsExportOf one bytes → IsExportOf other others
    → SameServer one other ↔ (others ≡ bytes)
servers_told one other bytes others first second = (
  λ same.
      let state : state_of other ≡ state_of one = state_from_same (state_of one) (state_of other) same.state in
      let through : through_of other ≡ through_of one = λ i file owner. same.openings.through file owner i in
      let by_rules = subst (λ (rules : Rules). IsExport rules (state_of other) (through_of other) others) same.rules second in
      let by_state = subst (λ (S : State). IsExport (rules_of one) S (through_of other) others) state by_rules in
      let by_notes = subst (λ (notes : ℕ → ℕ → Option ℕ). IsExport (rules_of one) (state_of one) notes others) through by_state in
      export_one (rules_of one) (state_of one) (through_of one) bytes others first by_notes,
  λ same.
      let told = export_told (rules_of one) (rules_of other) (state_of one) (state_of other) (through_of one) (through_of other) bytes others first second same in
      record { rules = told.0; state = told.1; openings = told.2 },
)
