use Rattle.history_core.proofs.Common.{◌≡◌, ◌↔◌, ℕ, take, Mode, AreRanges, HasByte}
use Rattle.range_core.specs.Ranges.{Covers}
use Rattle.history_core.proofs.byte_locks.ByteLocks.outside.Given as goal

abbrev pub invariant-loop-lock : goal.invariant-loop-lock
invariant-loop-lock l = record {
  ranges : AreRanges l.rest.items;
  gives : (other byte : ℕ) (mode : Mode) → HasByte l.rest.items other byte mode
      ↔ (HasByte (take l.lock-index l.self.runs.items) other byte mode × ¬ ((other ≡ l.owner) × Covers l.span byte));
}
