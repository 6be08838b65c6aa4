-- On which bytes a search for a cycle looked for locks (the words are this project's choice).
use Rattle.std.specs.Prelude.{◌≡◌, ◌≢◌, ℕ, Some, Contains}
use Rattle.std.specs.BTreeMap.{get}
use Rattle.std.specs.Ordering.{nat_cmp}
use Rattle.range_core.specs.declared.Mode.{Mode}
use Rattle.range_core.specs.declared.Span.{Span}
use Rattle.range_core.specs.Changes.{SetsMode}
use Rattle.range_core.specs.Ranges.{HeldConflicts, Modes}
use Rattle.lock_book.specs.OwnerLists.{modes_in_list}
use Rattle.lock_server.specs.declared.table.Table.{Table}
use Rattle.lock_server.specs.declared.table.looked_at.LookedAt.{LookedAt}
use Rattle.lock_server.specs.declared.table.reached.Reached.{Reached}
use Rattle.lock_server.specs.Blockers.{AddsGoingOn, IsGoingOn}
use Rattle.lock_server.specs.Settling.{IsAtLeast}
use Rattle.lock_server.specs.TableView.{table_state}

-- on which bytes of the file a search looked, for the locks that conflict with which mode
abbrev pub looked_modes : LookedAt → ℕ → Modes
looked_modes looked file = modes_in_list (get nat_cmp looked.files file)

-- the search looked also on the span of the file, for the locks that conflict with this mode
pub record NotesLook (old new : LookedAt) (file : ℕ) (span : Span) (mode : Mode) : Type 0 where
  pub there : SetsMode (looked_modes old file) (looked_modes new file) span (Some mode)
  pub elsewhere : (other byte : ℕ) → other ≢ file → looked_modes new other byte ≡ looked_modes old other byte

-- of the locks on the bytes on which it looked each owner was reached, if it goes on
pub record AreTold (table : Table) (target : ℕ) (reached : Reached) : Type 0 where
  pub told : (file byte : ℕ) (mode : Mode) → IsAtLeast (looked_modes reached.looked_at file byte) mode → (other : ℕ)
      → HeldConflicts (((table_state table).files file).bytes other byte) mode → IsGoingOn table.waiters target other → Contains reached.owners.items other

-- the search reached of these owners those that go on
pub record Follows (table : Table) (target : ℕ) (Blocks : ℕ → Type 0) (old new : Reached) : Type 0 where
  pub adds : AddsGoingOn table.waiters target Blocks old.owners.items new.owners.items
  pub told : AreTold table target new
