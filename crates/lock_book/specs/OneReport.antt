-- The report of the locks that are held is determined by them, of one file and of all.
use Rattle.std.specs.Prelude.{◌≡◌, ℕ, List}
use Rattle.lock_book.specs.declared.Held.{Held}
use Rattle.lock_book.specs.Conflicts.{ByteModes, FlockModes}
use Rattle.lock_book.specs.Reports.{IsFileReport, IsHeldReport}

-- two reports of the same locks of one file are equal
abbrev pub LocksHaveOneFileReport : Type 0
LocksHaveOneFileReport =
    (file : ℕ) (bytes : ByteModes) (flocks : FlockModes) (report other : List Held)
    → IsFileReport file bytes flocks report → IsFileReport file bytes flocks other → report ≡ other

-- two reports of the same locks of all files are equal
abbrev pub LocksHaveOneReport : Type 0
LocksHaveOneReport =
    (bytes : ℕ → ByteModes) (flocks : ℕ → FlockModes) (report other : List Held)
    → IsHeldReport bytes flocks report → IsHeldReport bytes flocks other → report ≡ other
