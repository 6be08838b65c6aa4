-- Each byte that is locked lies in a file, whatever changes: for what sets, releases and grants on one file.
use Rattle.lock_server.proofs.Common.{ℕ, ◌≡◌, ◌∙◌, sym, Owner, Book, byte_modes_of}
use Rattle.lock_server.specs.Locks.{AreInFile}

-- where the modes stay
pub in_file_kept : (old new : Book) → ((owner : Owner) (byte : ℕ) → byte_modes_of new owner byte ≡ byte_modes_of old owner byte)
    → AreInFile (byte_modes_of old) → AreInFile (byte_modes_of new)
in_file_kept old new same are = record { within = λ owner byte mode is. are.within owner byte mode (sym (same owner byte) ∙ is) }
