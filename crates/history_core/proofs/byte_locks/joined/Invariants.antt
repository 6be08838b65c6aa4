use Rattle.history_core.proofs.Common.{◌↔◌, ℕ, ◌<◌, ◌^◌, take, Mode, AreRanges, Gives, HasByte}
use Rattle.std.proofs.Common.{◌⊎◌}
use Rattle.history_core.specs.ByteLists.{Within}
use Rattle.history_core.proofs.byte_locks.joined.Given as goal

abbrev pub invariant-loop-one : goal.invariant-loop-one
invariant-loop-one l = record {
  ranges : AreRanges l.runs.items;
  grown : Within l.lock.span l.span × (l.span.last < 2 ^ 64);
  gives : (owner byte : ℕ) (mode : Mode) → (HasByte (take l.one-index l.locks) owner byte mode ⊎ Gives l.lock owner byte mode)
      ↔ (HasByte l.runs.items owner byte mode ⊎ Gives (record l.lock { span = l.span }) owner byte mode);
}
