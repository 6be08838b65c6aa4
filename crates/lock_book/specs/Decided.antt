-- Whether a lock is blocked can be decided, however the locks are kept (the words are this project's choice).
use Rattle.std.specs.Prelude.{ℕ, ◌⊎◌}
use Rattle.range_core.specs.declared.Mode.{Mode}
use Rattle.range_core.specs.declared.Span.{Span}
use Rattle.lock_book.specs.declared.Owner.{Owner}
use Rattle.lock_book.specs.declared.book.Book.{Book}
use Rattle.lock_book.specs.Books.{byte_modes_of, flock_modes_of}
use Rattle.lock_book.specs.Conflicts.{ByteModes, ByteConflict, FlockConflict, ProcessBlocks}

-- the byte locks of a book block a lock, or they don't
abbrev pub ByteConflictIsDecided : Type 0
ByteConflictIsDecided =
    (book : Book) (owner : Owner) (span : Span) (wanted : Mode)
    → ByteConflict (byte_modes_of book) owner span wanted ⊎ ¬ ByteConflict (byte_modes_of book) owner span wanted

-- the flock locks of a book block a lock, or they don't
abbrev pub FlockConflictIsDecided : Type 0
FlockConflictIsDecided =
    (book : Book) (owner : Owner) (wanted : Mode)
    → FlockConflict (flock_modes_of book) owner wanted ⊎ ¬ FlockConflict (flock_modes_of book) owner wanted

-- the traditional locks of a process block a lock, or they don't
abbrev pub ProcessBlocksIsDecided : Type 0
ProcessBlocksIsDecided =
    (modes : ByteModes) (process : ℕ) (owner : Owner) (span : Span) (wanted : Mode)
    → ProcessBlocks modes process owner span wanted ⊎ ¬ ProcessBlocks modes process owner span wanted
