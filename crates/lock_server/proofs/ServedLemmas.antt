-- What the parts of a server's export tell: for `LockServer::import`.
use Rattle.lock_server.proofs.Common.{ℕ, ◌≡◌, ◌∙◌, sym, ap, subst, refl, arith, inl, inr, true, false, All, Any, Option, Some, None, List, [], ◌∷◌, length, map, IsTrue}
use Rattle.lock_server.proofs.Common.{Mode, Covers, Description, FlockLock, Lock, Pending, LockFile, FilePart, Parts, Table, file_state, state_at, FileState, SameFile, untouched, AreNotesOf, AreOf, AreFiles, AreJust, FileEntry, IsInventory, Note, SaysFile, note_place, IsByteLock, MayLock, MayStand, MayWait, inventory_of, note_of, IsSafe, HasDetected, table_state}
use Rattle.std.specs.Prelude.{◌≢◌, Contains}
use Rattle.lock_server.specs.declared.import.parts.Note.{Note as NotePart}
use Rattle.lock_server.specs.Reading.{entry_of}
use Rattle.lock_server.specs.TableView.{entry_of as file_entry_of}
use Rattle.lock_server.proofs.JustLemmas.{All-from, Contains-cons, Contains-here, Contains-nil, Contains-there}
use Rattle.lock_server.proofs.ListLemmas.{Any-nil}
use Rattle.lock_server.proofs.OrderedLemmas.{Any-map, Contains-map, all_says, files_rise}
use Rattle.lock_server.proofs.TableMoves.{waiters_known, waits_in}
use Rattle.lock_server.proofs.WaiterMoves.{detected_somewhere}

-- no lock lies beyond the largest offset

may_lock : (entry : Option LockFile) (lock : Lock) → IsByteLock (state_at entry) lock → MayLock lock
unfolding file_state
may_lock None lock run = let h : None ≡ Some lock.mode = run.constant lock.span.first run.covered in absurd (cc)
may_lock (Some file) lock run =
    (run.covered.1, file.in_file.within (Description lock.owner) lock.span.last lock.mode (run.constant lock.span.last (run.covered.1, omega arith)))

may_wait : (entry : Option LockFile) → All MayWait (state_at entry).waits
unfolding file_state
may_wait None = λ k d within. absurd (omega (arith, within))
may_wait (Some file) = file.ranges

none_if : (held : Option Mode) → ((mode : Mode) → ¬ (held ≡ Some mode)) → None ≡ held
none_if None never = refl
none_if (Some mode) never = absurd (never mode refl)

empty : {X : Type 0} (xs : List X) → length xs ≡ 0 → xs ≡ []
empty [] none = refl
empty (x ∷ xs) none = absurd (omega (arith, none))

-- where nothing is said of a file, it is untouched
says_nothing : (F : FileState) (entry : FileEntry) → SaysFile F entry → length entry.locks ≡ 0 → length entry.flocks ≡ 0 → length entry.waits ≡ 0
    → SameFile F untouched
says_nothing F entry says no_locks no_flocks no_waits = record {
  locks = record {
    bytes = λ owner byte. none_if (F.bytes owner byte) (λ mode is.
        Any-nil (λ lock. (lock.owner ≡ owner) × (lock.mode ≡ mode) × Covers lock.span byte)
        (subst (λ (locks : List Lock). Any (λ lock. (lock.owner ≡ owner) × (lock.mode ≡ mode) × Covers lock.span byte) locks)
        (empty entry.locks no_locks) (says.locks.all owner byte mode is)));
    flocks = λ owner. none_if (F.flocks owner) (λ mode is.
        let lock : FlockLock = record { owner = owner; mode = mode } in
        Contains-nil lock (subst (λ (locks : List FlockLock). Contains locks lock) (empty entry.flocks no_flocks) ((says.flocks.each lock).1 is)));
  };
  waits = sym (empty entry.waits no_waits) ∙ says.waits;
}

-- each file of a table may stand in an export
pub all_may_stand : (table : Table) (files : List FileEntry) → AreFiles (table_state table) files → All MayStand files
unfolding table_state
all_may_stand table files are = All-from MayStand files (λ entry among.
    let is = (are.just.each entry).0 among in
    let file = file_entry_of table entry.number in
    record {
      locks = All-from MayLock entry.locks (λ lock there. may_lock file lock ((is.says.locks.just.each lock).0 there));
      waits = subst (λ (waits : List Pending). All MayWait waits) (sym is.says.waits) (may_wait file);
      used = λ no_locks no_flocks no_waits. is.used (says_nothing (state_at file) entry is.says no_locks no_flocks no_waits);
    })

-- a crossed owner has a detected wait
pub crossed_waits : (table : Table) (owner : ℕ) → IsTrue ((table_state table).crossed owner) → HasDetected (table_state table) owner
unfolding table_state file_entry_of
crossed_waits table owner is =
    let known = waiters_known table.files table.tickets table.waiters table.indexed in
    let there = detected_somewhere (waits_in table.files) table.waiters known owner
    (λ none. let no = known.crossed owner none in let h : false ≡ true = sym no ∙ is in absurd (cc)) in
    record { file = there.0; among = there.1 }

-- the parts of an inventory

part_note : (notes : List NotePart) (file owner open_file : ℕ) → Contains (map note_of notes) (record { file = file; owner = owner; open_file = open_file })
    → Contains notes (record { file = file; owner = owner; open_file = open_file })
part_note [] file owner open_file among = absurd (Contains-nil {A = Note} (record { file = file; owner = owner; open_file = open_file }) among)
part_note (note ∷ notes) file owner open_file among =
    let wanted : NotePart = record { file = file; owner = owner; open_file = open_file } in
    elim (Contains-cons (note_of note) (map note_of notes) (note_of wanted) among) [
      | inl is ↦
          let same : note ≡ wanted = λ i. record { file = (is i).file; owner = (is i).owner; open_file = (is i).open_file } in
          subst (λ (n : NotePart). Contains (note ∷ notes) n) same (Contains-here note notes)
      | inr there ↦ Contains-there note notes wanted (part_note notes file owner open_file there)
    ]

none_of : (files : List FilePart) (file : ℕ) → All (λ part. part.number ≢ file) files → ¬ Any (λ part. part.number ≡ file) files
none_of files file none (k, part, within, is, here) = none k part within (ap (λ (p : FilePart). p.number) is ∙ here)

pub notes_of : (through : ℕ → ℕ → Option ℕ) (notes : List NotePart)
    → AreJust note_place (λ note. through note.file note.owner ≡ Some note.open_file) (map note_of notes) → AreNotesOf through notes
notes_of through notes are = record {
  says = All-from (λ note. through note.file note.owner ≡ Some note.open_file) notes
      (λ note among. (are.each (note_of note)).0 (Contains-map note_of notes note among));
  each = λ file owner open_file is. part_note notes file owner open_file ((are.each (record { file = file; owner = owner; open_file = open_file })).1 is);
}

pub parts_of : (table : Table) (through : ℕ → ℕ → Option ℕ) (parts : Parts) → IsInventory (table_state table) through (inventory_of parts)
    → IsSafe parts.rules.policy (table_state table) → AreOf (table_state table) parts
parts_of table through parts is safe = record {
  files = record {
    rising = files_rise (table_state table) parts.files.items is.files;
    says = all_says (table_state table) parts.files.items is.files;
    others = λ file none. is.files.others file (λ any.
        none_of parts.files.items file none (Any-map entry_of (λ entry. entry.number ≡ file) parts.files.items any));
  };
  grants = is.grants;
  crossed = is.crossed.each;
  waiting = crossed_waits table;
  safe = safe;
}
