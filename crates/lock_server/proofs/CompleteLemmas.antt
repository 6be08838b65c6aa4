-- Where bytes are a server's export, they aren't refused: for `LockServer::import`.
use Rattle.lock_server.proofs.Common.{ℕ, ◌≡◌, sym, ap, subst, List, Option, Ok, Err, Result, Rules, Parts, LockServer, IsExport, IsExportOf, AreNotesOf, AreOf, IsInventory, SameOpenings, inventory_of, told_by, IsSafe, rules_of, state_of, through_of, SameState, State}
use Rattle.std.specs.Prelude.{IsErrAnd}
use Rattle.range_core.specs.declared.memory.Memory.{Memory as Wanting}
use Rattle.lock_server.specs.declared.ImportFault.{ImportFault}
use Rattle.lock_server.specs.declared.ImportFault.TheVariants.{Invalid, Memory}
use Rattle.lock_server.specs.Exports.{IsInvalid}
use Rattle.lock_server.specs.Ordered.{AreInOrder}
use Rattle.lock_server.specs.Reading.{MayBeTold, Succeeds, Told}
use Rattle.lock_server.proofs.OrderedLemmas.{in_order}
use Rattle.lock_server.proofs.ServedLemmas.{all_may_stand, notes_of, parts_of}
use Rattle.lock_server.proofs.StateLemmas.{state_from_same}

-- a call that succeeds, but for want of memory, refuses nothing
pub refutes : {X Y : Type 0} (fault : ImportFault) (result : Result Y ImportFault) (P : X → Type 0) → IsErrAnd result (λ told. told ≡ fault)
    → Succeeds (Err fault) P → IsInvalid result → ⊥
refutes fault (Ok y) P err fine invalid = invalid
refutes {Y = Y} (Memory memory) (Err told) P err fine invalid = subst (λ (other : ImportFault). IsInvalid {X = Y} (Err other)) err invalid
refutes (Invalid fault) (Err told) P err fine invalid = fine

-- what wants memory refuses nothing
pub refutes_wanting : {Y : Type 0} (result : Result Y ImportFault) (memory : Wanting) → IsErrAnd result (λ told. told ≡ Memory memory) → IsInvalid result → ⊥
refutes_wanting (Ok y) memory err invalid = invalid
refutes_wanting {Y = Y} (Err told) memory err invalid = subst (λ (other : ImportFault). IsInvalid {X = Y} (Err other)) err invalid

-- the same state has the same export
pub export_same : (rules other : Rules) (S T : State) (through next : ℕ → ℕ → Option ℕ) (bytes : List ℕ) → other ≡ rules → SameState S T
    → SameOpenings through next → IsExport rules S through bytes → IsExport other T next bytes
export_same rules other S T through next bytes of_rules of_state of_notes export =
    let now : next ≡ through = λ i file owner. of_notes.through file owner i in
    subst (λ (r : Rules). IsExport r T next bytes) (sym of_rules)
    (subst (λ (U : State). IsExport rules U next bytes) (sym (state_from_same S T of_state))
    (subst (λ (n : ℕ → ℕ → Option ℕ). IsExport rules S n bytes) (sym now) export))

-- what a server's export tells

module _ (server : LockServer) (bytes : List ℕ) (export : IsExportOf server bytes) where
  abbrev pub told_of : Told
  told_of = record { rules = rules_of server; inventory = export.inventory }

  pub may_be_told : MayBeTold told_of
  unfolding state_of
  may_be_told = all_may_stand server.table export.inventory.files export.is_inventory.files

  module _ (parts : Parts) (told : told_by parts ≡ told_of) where
    is_told : IsInventory (state_of server) (through_of server) (inventory_of parts)
    is_told = subst (λ (t : Told). IsInventory (state_of server) (through_of server) t.inventory) (sym told) export.is_inventory

    pub ordered : AreInOrder parts
    ordered = in_order (state_of server) (through_of server) parts is_told

    pub rules_told : parts.rules ≡ rules_of server
    rules_told = ap (λ (t : Told). t.rules) told

    pub are_of : IsSafe (rules_of server).policy (state_of server) → AreOf (state_of server) parts
    unfolding state_of
    are_of safe = parts_of server.table (through_of server) parts is_told
        (subst (λ (r : Rules). IsSafe r.policy (state_of server)) (sym rules_told) safe)

    pub notes_told : AreNotesOf (through_of server) parts.notes.items
    notes_told = notes_of (through_of server) parts.notes.items is_told.notes

    -- a server that was made in the same state, with the same notes, has this export
    pub made_has : (T : State) (next : ℕ → ℕ → Option ℕ) → SameState (state_of server) T → SameOpenings (through_of server) next
        → IsExport parts.rules T next bytes
    made_has T next of_state of_notes =
        export_same (rules_of server) parts.rules (state_of server) T (through_of server) next bytes rules_told of_state of_notes export
