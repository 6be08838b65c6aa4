-- The reader behind the writer: for `a_reader_follows_a_writer`.
use Rattle.grants_alike.proofs.Common.{◌≡◌, ℕ, ◌==◌, ◌&&◌, Bool, true, false, Option, Some, None, [], ◌∷◌, refl, sym, ap, ◌∙◌, subst, if◌then◌else◌, eqb-true, Mode, is_covered, Owner, Process, Description, FileState, locks_held, TellsApart, AreSameWaits, AreAlike}
use Rattle.std.proofs.Common.{arith, suc, ◌+◌}
use Rattle.std.proofs.lemmas.Option.{same_Some}
use Rattle.range_core.specs.declared.Mode.TheVariants.{Read, Write}
use Rattle.lock_book.specs.Owners.{is_same_owner}
use Rattle.lock_book.specs.Conflicts.{ByteConflict, FlockConflict}
use Rattle.range_core.specs.Ranges.{HeldConflicts}
use Rattle.lock_server.specs.Files.{SameFile, by_owner}
use Rattle.grants_alike.specs.Alike.{SameModes}
use Rattle.grants_alike.specs.ReaderAndWriter.{number_of, all_numbers, first_bytes, later_bytes, reader, pending_reader, flocker, pending_flocker, shared_by_6, manager_before, manager_unlocked, file_before, file_unlocked, file_after, AReaderFollowsAWriter}
use Rattle.grants_alike.proofs.HolderLemmas.{modes_set, modes_set_where, modes_stay}

apart : TellsApart number_of
apart (Process p) (Process q) number is is' = ap Process (let e : p + p ≡ q + q = same_Some (p + p) (q + q) (is ∙ sym is') in omega arith)
apart (Description d) (Description e) number is is' =
    ap Description (let same : suc (d + d) ≡ suc (e + e) = same_Some (suc (d + d)) (suc (e + e)) (is ∙ sym is') in omega arith)
apart (Process p) (Description e) number is is' = absurd (let same : p + p ≡ suc (e + e) = same_Some (p + p) (suc (e + e)) (is ∙ sym is') in omega arith)
apart (Description d) (Process q) number is is' = absurd (let same : suc (d + d) ≡ q + q = same_Some (suc (d + d)) (q + q) (is ∙ sym is') in omega arith)

apart_by_itself : TellsApart (λ (description : ℕ). Some description)
apart_by_itself one other number is is' = same_Some one other (is ∙ sym is')

-- nobody has a mode
nothing_held : {Holder : Type 0} (numbered : Holder → Option ℕ) → SameModes numbered (λ holder. None) (λ number. None)
nothing_held numbered =
    record { same = λ holder number is. refl; known = λ holder none. refl; owned = λ number held. absurd (held refl) }

-- ---- the locks

writer_is : (other : Owner) → is_same_owner (Process 1) other ≡ true → other ≡ Process 1
writer_is (Process q) is = ap Process (sym (eqb-true 1 q is))
writer_is (Description e) is = absurd (let bad : false ≡ true = is in cc)

-- description 6 has its lock by flock in both
shared : SameModes all_numbers.of_description ((locks_held manager_before).flocks 0) shared_by_6
shared =
    modes_set all_numbers.of_description (λ description. None) (λ number. None) (λ (other : ℕ). 6 == other) 6 6 Read apart_by_itself refl refl
    (λ other is. sym (eqb-true 6 other is)) (nothing_held all_numbers.of_description)

-- the waits
same_waits : AreSameWaits all_numbers (reader ∷ flocker ∷ []) (pending_reader ∷ pending_flocker ∷ [])
same_waits = (record { family = refl; owner = refl; span = refl; mode = refl }, (record { family = refl; owner = refl; span = refl; mode = refl }, tt))

-- before the unlock the writer has its lock in both
alike_before : AreAlike all_numbers 0 manager_before file_before
alike_before =
    record {
      owners = apart;
      descriptions = apart_by_itself;
      locks = record {
        bytes = λ byte. modes_set_where number_of (λ owner. None) (λ number. None) (is_same_owner (Process 1)) (Process 1) 2 Write apart refl refl writer_is
            (is_covered first_bytes byte) (nothing_held number_of);
        flocks = shared;
      };
      waits = same_waits;
    }

went : (b : Bool) → (if b then None else if b then Some Write else None) ≡ None
went true = refl
went false = refl

-- and behind it nobody has one
unlocked_byte : (owner : Owner) (byte : ℕ) → (locks_held manager_unlocked).bytes 0 owner byte ≡ None
unlocked_byte owner byte = went (is_same_owner (Process 1) owner && is_covered first_bytes byte)

alike_unlocked : AreAlike all_numbers 0 manager_unlocked file_unlocked
alike_unlocked =
    record {
      owners = apart;
      descriptions = apart_by_itself;
      locks = record {
        bytes = λ byte. modes_stay number_of (λ owner. None) _ (λ number. None) _ (λ owner. unlocked_byte owner byte) (λ number. refl) (nothing_held number_of);
        flocks = shared;
      };
      waits = same_waits;
    }

-- ---- who is blocked

blocked_by_writer : ByteConflict ((locks_held manager_before).bytes 0) (Process 2) later_bytes Read
blocked_by_writer =
    record { byte = 5; covered = (omega arith, omega arith); other = Process 1; blocks = record { another = λ is. cc; conflicts = tt } }

held_back_by_writer : ByteConflict (by_owner file_before.bytes) (Description 4) later_bytes Read
held_back_by_writer =
    record { byte = 5; covered = (omega arith, omega arith); other = Description 2; blocks = record { another = λ is. cc; conflicts = tt } }

blocked_by_flock : FlockConflict shared_by_6 (Description 5) Write
blocked_by_flock = record { description = 6; another = λ is. cc; conflicts = tt }

ready : ¬ ByteConflict ((locks_held manager_unlocked).bytes 0) (Process 2) later_bytes Read
ready h = subst (λ (mode : Option Mode). HeldConflicts mode Read) (unlocked_byte h.other h.byte) h.blocks.conflicts

ready_there : ¬ ByteConflict (by_owner file_unlocked.bytes) (Description 4) later_bytes Read
ready_there h = at h.other h.blocks.conflicts
  where
    at : (other : Owner) → ¬ HeldConflicts (by_owner file_unlocked.bytes other h.byte) Read
    at (Process p) conflicts = conflicts
    at (Description number) conflicts = conflicts

-- ---- the settlings

itself : (F : FileState) → SameFile F F
itself F = record { locks = record { bytes = λ owner byte. refl; flocks = λ owner. refl }; waits = refl }

pub reader_follows_writer : AReaderFollowsAWriter
reader_follows_writer =
    record {
      alike_before = alike_before;
      manager_waits = ((blocked_by_writer, (blocked_by_flock, tt)), refl);
      server_waits = ((held_back_by_writer, (blocked_by_flock, tt)), itself file_before);
      alike_unlocked = alike_unlocked;
      manager_grants = ([], reader, flocker ∷ [], record { place = refl; ready = ready; earliest = tt }, refl, ((blocked_by_flock, tt), refl));
      server_grants = (
        file_after,
        record {
          before = [];
          after = pending_flocker ∷ [];
          is_next = record { place = refl; ready = ready_there; earliest = tt };
          gets = record { bytes = λ other byte. refl; flocks = λ other. refl };
          waits = refl;
        },
        ((blocked_by_flock, tt), itself file_after),
      );
    }
