use Rattle.lock_manager.proofs.Common.{◌≡◌, take, vec_len, locks_of, ReleasesLocks, ReleasesRoom, SameWaits, StayKnown}
use Rattle.lock_manager.proofs.lock_releases.release.Given as goal

abbrev pub invariant-loop-file : goal.invariant-loop-file
invariant-loop-file l =
    (vec_len l.books ≡ 64)
    × ReleasesLocks (locks_of l.fn.books.items) (locks_of l.books.items) l.p (take l.file-index l.files) l.descriptions
    × ReleasesRoom l.fn.books.items l.books.items l.p (take l.file-index l.files) l.descriptions
    × SameWaits l.fn.waits l.waits
    × StayKnown l.fn.waits l.waits (locks_of l.fn.books.items) (locks_of l.books.items)
