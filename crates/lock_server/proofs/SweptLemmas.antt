-- A file without a lock and a wait has no entry: for `LockServer`'s fact `swept`, `Table::forget`, `flock_or_refuse` and `flock_or_wait`.
use Rattle.lock_server.proofs.Common.{arith, ℕ, ◌≡◌, ◌∙◌, inl, inr, sym, subst, refl, true, Bool, Option, Some, None, List, [], ◌∷◌, ◌++◌, common_steps, ◌↔◌, ◌&&◌, if◌then◌else◌, cases_eq, nat_tests}
use Rattle.lock_server.proofs.Common.{Mode, Span, IsByteRange, is_covered, Family, Policy, Pending, LockFile, Table, FileState, SameFile, SetsBytes, SetsFlock, SetsLock, untouched, state_at, Settles, SettlesFile, State, AreSwept, KeepsEntries, KeepsOthers, entry_of, table_state}
use Rattle.std.specs.Prelude.{◌==◌}
use Rattle.lock_server.specs.TableView.{HasEntry, IsSwept}
use Rattle.lock_server.proofs.ListLemmas.{no_place}
use Rattle.lock_server.proofs.StateLemmas.{SameFile-itself}

-- a file with the entry that it had, or none, is as it was
pub swept_still : (old new : Table) (file : ℕ) → entry_of new file ≡ entry_of old file → IsSwept old file → IsSwept new file
unfolding table_state
swept_still old new file same swept idle has =
    swept (subst (λ (entry : Option LockFile). SameFile (state_at entry) untouched) same idle) (record { entry = has.entry; is = sym same ∙ has.is })

pub all_swept : (old new : Table) → KeepsEntries old new → AreSwept old → AreSwept new
all_swept old new same swept file = swept_still old new file (same file) (swept file)

-- all files but one have the entries that they had, and the one is swept
pub all_swept_but : (old new : Table) (file : ℕ) → KeepsOthers old new file → IsSwept new file → AreSwept old → AreSwept new
all_swept_but old new file others here swept other = elim (cases_eq other file) [
  | inl same ↦ subst (λ (f : ℕ). IsSwept new f) (sym same) here
  | inr differs ↦ swept_still old new other (others other differs) (swept other)
]

-- nobody has a lock on the file
pub record HasNoLock (F : FileState) : Type 0 where
  pub bytes : (owner byte : ℕ) → F.bytes owner byte ≡ None
  pub flocks : (owner : ℕ) → F.flocks owner ≡ None

none_before : (test : Bool) (mode : Mode) (was : Option Mode) → (if test then Some mode else was) ≡ None → was ≡ None
none_before test mode was none = grind (arith, common_steps)

-- where a lock was set and nobody has one, nobody had one
no_lock_before : (family : Family) (F : FileState) (owner : ℕ) (span : Span) (mode : Mode) (G : FileState) → SetsLock family F owner span (Some mode) G
    → HasNoLock G → HasNoLock F
no_lock_before family F owner span mode G sets none = grind (arith, common_steps, none_before)

no_lock_at_first : (policy : Policy) (granted : List Pending) (F G : FileState) → Settles policy F granted G → HasNoLock G → HasNoLock F
no_lock_at_first policy [] F G settles none = grind (arith, common_steps)
no_lock_at_first policy (wait ∷ granted) F G (next, grants, settles) none =
    no_lock_before wait.family F wait.owner wait.span wait.mode next grants.gets (no_lock_at_first policy granted next G settles none)

-- a lock that is set is there
pub bytes_set : (F : FileState) (owner : ℕ) (span : Span) (mode : Mode) (G : FileState) → IsByteRange span → SetsBytes F owner span (Some mode) G
    → ¬ HasNoLock G
bytes_set F owner span mode G range sets none =
    let here : (owner == owner && is_covered span span.first) ≡ true = grind (arith, nat_tests) in
    let is : None ≡ Some mode = sym (none.bytes owner span.first) ∙ sets.bytes owner span.first ∙ rw here refl in cc

pub flock_set : (F : FileState) (owner : ℕ) (mode : Mode) (G : FileState) → SetsFlock F owner (Some mode) G → ¬ HasNoLock G
flock_set F owner mode G sets none =
    let here : (owner == owner) ≡ true = grind (arith, nat_tests) in
    let is : None ≡ Some mode = sym (none.flocks owner) ∙ sets.flocks owner ∙ rw here refl in cc

-- a file with a lock that was then settled has one
pub swept_with_lock : (policy : Policy) (S : State) (file : ℕ) (table : Table) → ¬ HasNoLock (S.files file) → SettlesFile policy S file (table_state table)
    → IsSwept table file
swept_with_lock policy S file table has settles idle =
    absurd (has (no_lock_at_first policy settles.granted (S.files file) ((table_state table).files file) settles.settles (grind (arith, common_steps))))

-- a file on which a wait has joined has one
pub swept_with_wait : (table : Table) (file : ℕ) (before : List Pending) (wait : Pending) → ((table_state table).files file).waits ≡ before ++ wait ∷ []
    → IsSwept table file
swept_with_wait table file before wait is idle = absurd (no_place before wait [] (idle.waits ∙ is))

entered : (table : Table) (file : ℕ) (found : Option LockFile) → entry_of table file ≡ found → ¬ SameFile ((table_state table).files file) untouched
    → HasEntry table file
unfolding table_state
entered table file None is busy = absurd (busy (subst (λ (entry : Option LockFile). SameFile (state_at entry) untouched) (sym is) (SameFile-itself untouched)))
entered table file (Some entry) is busy = record { entry = entry; is = is }

-- so a file has an entry just where it has a lock or a wait
pub kept_while_in_use : (table : Table) (file : ℕ) → AreSwept table → HasEntry table file ↔ (¬ SameFile ((table_state table).files file) untouched)
kept_while_in_use table file swept = (λ has idle. swept file idle has, entered table file (entry_of table file) refl)
