-- The order of each file, as it stands where none is told yet.
use Rattle.std.specs.Prelude.{◌≡◌, ◌≢◌, ℕ, ◌⊎◌, Bool, true, Some, None, List}
use Rattle.std.specs.BTreeMap.{BTreeMap, get}
use Rattle.std.specs.Ordering.{nat_cmp}
use Rattle.history_core.specs.declared.file.FileHistory.{FileHistory}
use Rattle.history_core.specs.FileView as one_file
use Rattle.history_core.specs.Moments.{FileLine, World}
use Rattle.history_core.specs.Orders as one_file_orders
use Rattle.history_judge.specs.declared.order.FileOrder.{FileOrder}
use Rattle.history_judge.specs.declared.order.FileHappening.{FileHappening}
use Rattle.history_judge.specs.Merging.{left_in, lefts_in, merged}

-- the whole order of a file is left, and no line of it came
pub record IsOrderOf (history : FileHistory) (order : FileOrder) : Type 0 where
  pub none_came : order.lines ≡ 0
  pub is_order : (runs : Bool) (lines : List FileLine) → one_file.Knows runs history lines
      → (last : World) × one_file_orders.OrderTo runs lines (left_in order).told last

-- the file has its order, where one is kept, and the others are as they were
pub record PutsOrder (old new : BTreeMap ℕ FileOrder) (file : ℕ) (history : FileHistory) : Type 0 where
  pub puts : one_file.keeps_order history ≡ true → get nat_cmp new file ≢ None
  pub stays : get nat_cmp old file ≢ None → get nat_cmp new file ≢ None
  pub only : (order : FileOrder) → get nat_cmp new file ≡ Some order → (get nat_cmp old file ≡ Some order) ⊎ IsOrderOf history order
  pub others : (other : ℕ) → other ≢ file → get nat_cmp new other ≡ get nat_cmp old other

-- each is the order of a file
abbrev pub AreOf : BTreeMap ℕ FileHistory → BTreeMap ℕ FileOrder → Type 0
AreOf files orders =
    (file : ℕ) (order : FileOrder) → get nat_cmp orders file ≡ Some order → (history : FileHistory) × (get nat_cmp files file ≡ Some history)
    × IsOrderOf history order

-- each is the order of a file, and each file has its own, where one is kept
pub record AreOrders (files : BTreeMap ℕ FileHistory) (orders : BTreeMap ℕ FileOrder) : Type 0 where
  pub sound : AreOf files orders
  pub complete : (file : ℕ) (history : FileHistory) → get nat_cmp files file ≡ Some history → one_file.keeps_order history ≡ true
      → get nat_cmp orders file ≢ None

-- such orders, merged to one of lines that are of these files
abbrev pub AreMerged : BTreeMap ℕ FileHistory → List ℕ → List FileHappening → Type 0
AreMerged files line_files told = (orders : BTreeMap ℕ FileOrder) × AreOrders files orders × (told ≡ merged 0 (lefts_in orders) line_files)
