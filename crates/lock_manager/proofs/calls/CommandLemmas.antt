-- From what a lock command finds to what it comes to: for `Machine::get_reply`, `Machine::lock_command`, `Machine::range_command` and others.
use Rattle.lock_manager.proofs.Common.{arith, rules, ℕ, ◌≡◌, sym, subst, true, false, Some, List, [], ◌∷◌, Result, Ok, Err, IfOk, slice_get, common_steps, same_Some}
use Rattle.lock_manager.proofs.Common.{Memory, Mode, Span, resolution, Owner, Book, byte_modes_of, ByteModes, IsFirstBlocker, Look, Tables, Descriptors, look_at, StandFor, locks_of, byte_modes_at, Machine, Rules, Lock, LkCmd, Lk, Reply, Note, Answer, MayLock, State, Outcome, is_get, is_bad_argument, wanted_mode, wanted_lock, GetComesTo, Shows, Tells, machine_rules, machine_locks}
use Rattle.range_core.specs.declared.Kind.{Kind}
use Rattle.lock_book.specs.declared.Blocker.{Blocker}
use Rattle.lock_manager.specs.DescriptionLocks.{MayWait}
use Rattle.lock_manager.specs.LockWords.{held_reply, lock_owner}
use Rattle.lock_manager.specs.LockCommands.{GetTells, ModeComesTo, RangeComesTo}
use Rattle.lock_manager.proofs.calls.ReportLemmas.{same_locks}

-- what the book of the file tells
pub tells_at : (books : List Book) (file : ℕ) (book : Book) (owner : Owner) (span : Span) (mode : Mode) (told : Reply → Type 0)
    → slice_get books file ≡ Some book
    → GetTells (byte_modes_of book) owner span mode told → GetTells ((locks_of books).bytes file) owner span mode told
tells_at books file book owner span mode told was h =
    subst (λ e. GetTells (byte_modes_at e) owner span mode told) (sym was) h

-- the first lock that blocks is told
pub tells_blocker : (modes : ByteModes) (owner : Owner) (span : Span) (mode : Mode) (told : Reply → Type 0) (blocker : Blocker)
    → IsFirstBlocker modes owner span mode blocker → told (held_reply blocker) → GetTells modes owner span mode told
tells_blocker modes owner span mode told blocker h told_is = grind (arith, common_steps)

-- who looked at a descriptor may wait for a lock on its file, for the process and for the description
pub may_wait_looked : (tables : Tables) (p fd : ℕ) (cmd : LkCmd) (look : Look) → ((D : Descriptors) → StandFor tables D → Some look ≡ look_at D p fd)
    → MayWait tables p look.file (lock_owner cmd p look)
may_wait_looked tables p fd cmd look looks = grind (arith, common_steps, same_Some)

-- who may wait for a lock may have it
pub may_lock_waiting : (tables : Tables) (p file : ℕ) (owner : Owner) → MayWait tables p file owner → MayLock tables file owner
may_lock_waiting tables p file owner h = grind (arith, common_steps)

-- a get command asks
asks : (rules : Rules) (S : State) (cmd : LkCmd) (p n : ℕ) (look : Look) (span : Span) (mode : Mode) (outcome : Outcome) → is_get cmd ≡ true
    → GetComesTo S (wanted_lock cmd p n look span mode) outcome → ModeComesTo rules S p n cmd look span mode outcome
asks rules S cmd p n look span mode outcome h h2 = grind (arith, common_steps)

-- in each state that old shows the command comes to this note alone on the range, and new shows the state that it leaves
abbrev pub RangeTells : Machine → Machine → ℕ → ℕ → LkCmd → Kind → Look → Span → Note → Type 0
RangeTells old new p n cmd kind look span note =
    (S : State) → Shows old S →
    (T : State) × RangeComesTo (machine_rules old) S p n cmd kind look span (record { told = note ∷ []; after = T }) × Shows new T

-- a get command that was answered
pub asked : (old : Machine) (p n : ℕ) (cmd : LkCmd) (kind : Kind) (look : Look) (span : Span) (mode : Mode) (owner : Owner) (reply : Reply) (note : Note)
    → Some mode ≡ wanted_mode kind → is_get cmd ≡ true → owner ≡ lock_owner cmd p look → note ≡ Answer p n reply
    → GetTells ((machine_locks old).bytes look.file) owner span mode (λ told. reply ≡ told) → RangeTells old old p n cmd kind look span note
asked old p n cmd kind look span mode owner reply note h h2 h3 h4 h5 h6 h7 = grind (arith, common_steps, same_locks, asks)

-- a lock command on an open descriptor and a range comes to what it comes to on the range
on_range_tells : (old new : Machine) (p n fd : ℕ) (cmd : LkCmd) (lock : Lock) (look : Look) (span : Span) (note : Note)
    → ((D : Descriptors) → StandFor old.tables D → Some look ≡ look_at D p fd) → is_bad_argument cmd lock ≡ false
    → Ok span ≡ resolution lock.whence lock.start lock.len look.offset look.size
    → RangeTells old new p n cmd lock.kind look span note → Tells old new p n (Lk fd cmd lock) (note ∷ [])
on_range_tells old new p n fd cmd lock look span note h h2 h3 h4 h5 h6 = grind (arith, common_steps)

pub on_range : (old new : Machine) (p n fd : ℕ) (cmd : LkCmd) (lock : Lock) (look : Look) (span : Span) (result : Result Note Memory)
    → ((D : Descriptors) → StandFor old.tables D → Some look ≡ look_at D p fd) → is_bad_argument cmd lock ≡ false
    → Ok span ≡ resolution lock.whence lock.start lock.len look.offset look.size
    → IfOk result (RangeTells old new p n cmd lock.kind look span) → IfOk result (λ note. Tells old new p n (Lk fd cmd lock) (note ∷ []))
on_range old new p n fd cmd lock look span (Ok note) looks good resolves comes = on_range_tells old new p n fd cmd lock look span note looks good resolves comes
on_range old new p n fd cmd lock look span (Err memory) looks good resolves comes = tt
