-- How a reply is told.
use Rattle.std.specs.Prelude.{◌≡◌, ℕ, Result, Ok, Err, List, [], ◌∷◌, ◌++◌}
use Rattle.range_core.specs.declared.Memory.{Memory}
use Rattle.lock_manager.specs.declared.request.Reply.{Reply}
use Rattle.lock_manager.specs.declared.request.Note.{Note}
use Rattle.lock_manager.specs.declared.request.Note.TheVariants.{Answer}

-- the process is told the reply to its request, behind what was told; want of memory is no reply
abbrev pub IsReplied : ℕ → ℕ → Result Reply Memory → Result (Unit {0}) Memory → List Note → List Note → Type 0
IsReplied p n (Ok reply) result before after = (result ≡ Ok tt) × (after ≡ before ++ Answer p n reply ∷ [])
IsReplied p n (Err memory) result before after = result ≡ Err memory
