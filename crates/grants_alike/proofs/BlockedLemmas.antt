-- A wait and the one that it is the same as: a lock blocks both or neither.
use Rattle.grants_alike.proofs.Common.{◌≡◌, ℕ, Some, sym, ap, subst, Mode, Owner, Process, Description, Family, Bytes, Whole, Wait, IsBlockedByLock, Pending, FileState, IsHeldBack, Numbers, TellsApart, SameLocks, SameWait}
use Rattle.range_core.specs.declared.Span.{Span}
use Rattle.lock_book.specs.Conflicts.{Blocks, ByteConflict, FlockConflict}
use Rattle.wait_core.specs.Locks.{Locks}
use Rattle.wait_core.specs.Blocking.{IsBlockedIn}
use Rattle.lock_server.specs.Files.{by_owner, locks_on}
use Rattle.lock_server.specs.Pendings.{as_wait}
use Rattle.grants_alike.specs.Alike.{IsKnownAs}
use Rattle.grants_alike.proofs.HolderLemmas.{another_number, another_holder, conflict_there, conflict_here}

-- the server's wait, with what the manager's has
abbrev pub as_asked : Wait → Pending → Pending
as_asked wait pending = record pending { family = wait.family; span = wait.span; mode = wait.mode }

pub as_asked_is : (numbers : Numbers) (wait : Wait) (pending : Pending) → SameWait numbers wait pending → as_asked wait pending ≡ pending
as_asked_is numbers wait pending same =
    λ i. record {
      ticket = pending.ticket;
      owner = pending.owner;
      family = same.family i;
      span = same.span i;
      mode = same.mode i;
      detect = pending.detect;
    }

number_is : (one other : ℕ) → Description one ≡ Description other → one ≡ other
number_is one other is = cc

module _ (numbers : Numbers) (file : ℕ) (locks : Locks) (F : FileState) (owners : TellsApart numbers.of_owner)
    (descriptions : TellsApart numbers.of_description) (same : SameLocks numbers locks file F) where
  bytes_there : (owner : Owner) (number : ℕ) (span : Span) (mode : Mode) → numbers.of_owner owner ≡ Some number
      → ByteConflict (locks.bytes file) owner span mode → ByteConflict (by_owner F.bytes) (Description number) span mode
  bytes_there owner number span mode known h =
      let found = conflict_there numbers.of_owner (λ (other : Owner). locks.bytes file other h.byte) (λ (other : ℕ). F.bytes other h.byte) h.other mode
      (same.bytes h.byte) h.blocks.conflicts in
      record {
        byte = h.byte;
        covered = h.covered;
        other = Description found.0;
        blocks = record {
          another = λ is. another_number numbers.of_owner h.other owner found.0 number owners found.1 known h.blocks.another (number_is found.0 number is);
          conflicts = found.2;
        };
      }

  blocks_here : (owner other : Owner) (number : ℕ) (span : Span) (mode : Mode) (byte : ℕ) → numbers.of_owner owner ≡ Some number
      → Blocks (by_owner F.bytes) (Description number) mode byte other → (another : Owner) × Blocks (locks.bytes file) owner mode byte another
  blocks_here owner (Process p) number span mode byte known blocks = absurd blocks.conflicts
  blocks_here owner (Description other) number span mode byte known blocks =
      let found = conflict_here numbers.of_owner (λ (o : Owner). locks.bytes file o byte) (λ (o : ℕ). F.bytes o byte) other mode (same.bytes byte)
      blocks.conflicts in (
        found.0,
        record {
          another = another_holder numbers.of_owner found.0 owner other number found.1 known (λ is. blocks.another (ap Description is));
          conflicts = found.2;
        },
      )

  bytes_here : (owner : Owner) (number : ℕ) (span : Span) (mode : Mode) → numbers.of_owner owner ≡ Some number
      → ByteConflict (by_owner F.bytes) (Description number) span mode → ByteConflict (locks.bytes file) owner span mode
  bytes_here owner number span mode known h =
      let found = blocks_here owner h.other number span mode h.byte known h.blocks in
      record { byte = h.byte; covered = h.covered; other = found.0; blocks = found.1 }

  flocks_there : (description number : ℕ) (mode : Mode) → numbers.of_description description ≡ Some number
      → FlockConflict (locks.flocks file) (Description description) mode → FlockConflict F.flocks (Description number) mode
  flocks_there description number mode known h =
      let found = conflict_there numbers.of_description (locks.flocks file) F.flocks h.description mode same.flocks h.conflicts in
      record {
        description = found.0;
        another = λ is. another_number numbers.of_description h.description description found.0 number descriptions found.1 known
            (λ one. h.another (ap Description one)) (number_is found.0 number is);
        conflicts = found.2;
      }

  flocks_here : (description number : ℕ) (mode : Mode) → numbers.of_description description ≡ Some number
      → FlockConflict F.flocks (Description number) mode → FlockConflict (locks.flocks file) (Description description) mode
  flocks_here description number mode known h =
      let found = conflict_here numbers.of_description (locks.flocks file) F.flocks h.description mode same.flocks h.conflicts in
      record {
        description = found.0;
        another = λ is. another_holder numbers.of_description found.0 description h.description number found.1 known
            (λ one. h.another (ap Description one)) (number_is found.0 description is);
        conflicts = found.2;
      }

  in_there : (family : Family) (wait : Wait) (owner : Owner) (pending : Pending) → IsKnownAs numbers family owner pending.owner
      → IsBlockedIn family locks (record wait { file = file; owner = owner })
      → IsBlockedIn family (locks_on F) (as_wait (record (as_asked wait pending) { family = family }))
  in_there Bytes wait owner pending known blocked = bytes_there owner pending.owner wait.span wait.mode known blocked
  in_there Whole wait (Description description) pending known blocked = flocks_there description pending.owner wait.mode known blocked
  in_there Whole wait (Process p) pending known blocked = absurd known

  in_here : (family : Family) (wait : Wait) (owner : Owner) (pending : Pending) → IsKnownAs numbers family owner pending.owner
      → IsBlockedIn family (locks_on F) (as_wait (record (as_asked wait pending) { family = family }))
      → IsBlockedIn family locks (record wait { file = file; owner = owner })
  in_here Bytes wait owner pending known blocked = bytes_here owner pending.owner wait.span wait.mode known blocked
  in_here Whole wait (Description description) pending known blocked = flocks_here description pending.owner wait.mode known blocked
  in_here Whole wait (Process p) pending known blocked = absurd known

  on_file : (wait : Wait) → wait.file ≡ file → record wait { file = file } ≡ wait
  on_file wait is = ap (λ (f : ℕ). record wait { file = f }) (sym is)

  pub blocked_there : (wait : Wait) (pending : Pending) → wait.file ≡ file → SameWait numbers wait pending → IsBlockedByLock locks wait → IsHeldBack F pending
  blocked_there wait pending is one blocked =
      subst (IsHeldBack F) (as_asked_is numbers wait pending one)
      (in_there wait.family wait wait.owner pending one.owner (subst (IsBlockedByLock locks) (sym (on_file wait is)) blocked))

  pub blocked_here : (wait : Wait) (pending : Pending) → wait.file ≡ file → SameWait numbers wait pending → IsHeldBack F pending → IsBlockedByLock locks wait
  blocked_here wait pending is one blocked =
      subst (IsBlockedByLock locks) (on_file wait is)
      (in_here wait.family wait wait.owner pending one.owner (subst (IsHeldBack F) (sym (as_asked_is numbers wait pending one)) blocked))
