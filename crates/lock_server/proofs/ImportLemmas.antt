-- A table that was built up from the parts of an export: for `Parts::table`.
use Rattle.lock_server.proofs.Common.{arith, ℕ, ◌≡◌, ◌∙◌, ◌<◌, ◌+◌, inl, inr, sym, ap, subst, List, [], ◌∷◌, ◌++◌, length, get_or, take, cases_eq, take_all, take_more, ◌↔◌}
use Rattle.lock_server.proofs.Common.{Policy, Pending, FilePart, Table, SetsOn, Suspends, IsFreeOfCycles, FileState, SameLocks, JoinsAll, SetsAll, SetsOnFile, CrossesEach, JoinsEach, QueuesEach, SetsEach, IsCompatible, IsSafe, IsHeldBack, IsSettled, SameState, State, opening, table_state, LockServer, IsExportOf, rules_of, state_of, through_of, greatest}
use Rattle.lock_server.specs.Restoring.{AreCompatible, AreSettled}
use Rattle.lock_server.proofs.CompatibleLemmas.{compatible_fewer, compatible_gets}
use Rattle.lock_server.proofs.SafeLemmas.{safe_opening}
use Rattle.lock_server.proofs.StateLemmas.{SameState-itself, file_from_same, state_from_same}
use Rattle.lock_server.proofs.TakenLemmas.{tickets_once}
use Rattle.std.specs.Prelude.{Some, min}
use Rattle.lock_server.specs.Exports.{ExportComesTo}
use Rattle.lock_server.proofs.ExportLaws.{export_one}

-- the same locks conflict as little
compatible_same : (F G : FileState) → SameLocks F G → IsCompatible F → IsCompatible G
compatible_same F G same = compatible_fewer F G (record {
  bytes = λ owner byte mode is. sym (same.bytes owner byte) ∙ is;
  flocks = λ owner mode is. sym (same.flocks owner) ∙ is;
})

compatible_set : (S : State) (file : ℕ) (wanted : Pending) (T : State) → ¬ IsHeldBack (S.files file) wanted
    → SetsOn S file wanted.family wanted.owner wanted.span (Some wanted.mode) T → AreCompatible S → AreCompatible T
compatible_set S file wanted T free sets before other = elim (cases_eq other file) [
  | inl is ↦ subst (λ (f : ℕ). IsCompatible (T.files f)) (sym is) (compatible_gets (S.files file) wanted (before file) (T.files file) free sets.sets)
  | inr differs ↦ compatible_same (S.files other) (T.files other) (sets.changes.others other differs).locks (before other)
]

compatible_joined : (S : State) (file : ℕ) (wait : Pending) (T : State) → Suspends S file wait T → AreCompatible S → AreCompatible T
compatible_joined S file wait T suspends before other = elim (cases_eq other file) [
  | inl is ↦ subst (λ (f : ℕ). IsCompatible (T.files f)) (sym is) (compatible_same (S.files file) (T.files file) suspends.joins.locks (before file))
  | inr differs ↦ compatible_same (S.files other) (T.files other) (suspends.changes.others other differs).locks (before other)
]

at_same : (S T : State) → SameState S T → AreCompatible S → AreCompatible T
at_same S T same before = subst (λ (U : State). AreCompatible U) (sym (state_from_same S T same)) before

pub compatible_each : (S : State) (file : ℕ) (locks : List Pending) (T : State) → SetsEach S file locks T → AreCompatible S → AreCompatible T
compatible_each S file [] T same before = at_same S T same before
compatible_each S file (wanted ∷ locks) T (between, free, sets, more) before =
    compatible_each between file locks T more (compatible_set S file wanted between free sets before)

compatible_joins : (S : State) (file : ℕ) (waits : List Pending) (T : State) → JoinsEach S file waits T → AreCompatible S → AreCompatible T
compatible_joins S file [] T same before = at_same S T same before
compatible_joins S file (wait ∷ waits) T (between, free, suspends, more) before =
    compatible_joins between file waits T more (compatible_joined S file wait between suspends before)

-- the locks of all files were set
pub compatible_all : (S : State) (parts : List FilePart) (T : State) → SetsAll S parts T → AreCompatible S → AreCompatible T
compatible_all S [] T same before = at_same S T same before
compatible_all S (part ∷ parts) T (between, sets, more) before =
    compatible_all between parts T more
    (compatible_each sets.between part.number _ between sets.flocks (compatible_each S part.number _ sets.between sets.locks before))

-- and all waits have joined
pub compatible_all_joined : (S : State) (parts : List FilePart) (T : State) → JoinsAll S parts T → AreCompatible S → AreCompatible T
compatible_all_joined S [] T same before = at_same S T same before
compatible_all_joined S (part ∷ parts) T (between, joins, more) before =
    compatible_all_joined between parts T more (compatible_joins S part.number part.waits.items between joins before)

-- one file more
sets_push : (S : State) (parts : List FilePart) (M : State) (part : FilePart) (T : State) → SetsAll S parts M → SetsOnFile M part T → SetsAll S (parts ++ part ∷ []) T
sets_push S [] M part T same sets =
    (T, subst (λ (U : State). SetsOnFile U part T) (state_from_same S M same) sets, SameState-itself T)
sets_push S (first ∷ parts) M part T (between, one, more) sets = (between, one, sets_push between parts M part T more sets)

pub sets_next : (S : State) (parts : List FilePart) (i : ℕ) (d : FilePart) (M T : State) → i < length parts → SetsAll S (take i parts) M
    → SetsOnFile M (get_or parts i d) T → SetsAll S (take (i + 1) parts) T
sets_next S parts i d M T within before sets =
    subst (λ (l : List FilePart). SetsAll S l T) (sym (take_more parts i d within)) (sets_push S (take i parts) M (get_or parts i d) T before sets)

joins_push : (S : State) (parts : List FilePart) (M : State) (part : FilePart) (T : State) → JoinsAll S parts M
    → JoinsEach M part.number part.waits.items T → JoinsAll S (parts ++ part ∷ []) T
joins_push S [] M part T same joins =
    (T, subst (λ (U : State). JoinsEach U part.number part.waits.items T) (state_from_same S M same) joins, SameState-itself T)
joins_push S (first ∷ parts) M part T (between, one, more) joins = (between, one, joins_push between parts M part T more joins)

pub joins_next : (S : State) (parts : List FilePart) (i : ℕ) (d : FilePart) (M T : State) → i < length parts → JoinsAll S (take i parts) M
    → JoinsEach M (get_or parts i d).number (get_or parts i d).waits.items T → JoinsAll S (take (i + 1) parts) T
joins_next S parts i d M T within before joins =
    subst (λ (l : List FilePart). JoinsAll S l T) (sym (take_more parts i d within)) (joins_push S (take i parts) M (get_or parts i d) T before joins)

-- what was built up and tested is safe
pub safe_built : (policy : Policy) (start locked joined queued : State) (parts : List FilePart) (tickets owners : List ℕ) (table : Table)
    → SameState opening start → SetsAll start parts locked → JoinsAll locked parts joined → QueuesEach joined tickets queued
    → AreSettled policy queued → CrossesEach queued owners (table_state table) → IsFreeOfCycles policy (table_state table)
    → IsSafe policy (table_state table)
safe_built policy start locked joined queued parts tickets owners table opened sets joins queues settled crosses free = record {
  compatible = λ file.
      compatible_same (queued.files file) ((table_state table).files file) (crosses.files file).locks
      (compatible_same (joined.files file) (queued.files file) (queues.files file).locks
      (compatible_all_joined locked parts joined joins (compatible_all start parts locked sets (safe_opening policy start opened).compatible) file));
  settled = λ file. subst (λ (F : FileState). IsSettled policy F) (sym (file_from_same (queued.files file) ((table_state table).files file) (crosses.files file))) (settled file);
  free_of_cycles = free;
  once = tickets_once table;
}

-- whether the export of a server is these bytes, by what it wrote into as many
pub export_compared : (server : LockServer) (old new bytes : List ℕ) (size : ℕ) → ExportComesTo server old new size → length old ≡ length bytes
    → length new ≡ length old → length bytes < greatest → ((size ≡ length bytes) × (new ≡ bytes)) ↔ IsExportOf server bytes
export_compared server old new bytes size comes room kept small = (
  λ (fits, same).
      subst (λ (l : List ℕ). IsExportOf server l) (ap (take size) same ∙ take_all size bytes (omega (arith, fits)))
      (comes.bytes (omega (arith, fits, room)) (omega (arith, fits, small))),
  λ is.
      let least = comes.size_is bytes is in
      let fits : size ≡ length bytes = least ∙ min_small (length bytes) greatest small in
      let written = comes.bytes (omega (arith, fits, room)) (omega (arith, fits, small)) in (
        fits,
        sym (take_all size new (omega (arith, fits, room, kept)))
            ∙ export_one (rules_of server) (state_of server) (through_of server) bytes (take size new) is written,
      ),
)
  where
    min_small : (a b : ℕ) → a < b → min a b ≡ a
    min_small a b less = omega (arith, less)
