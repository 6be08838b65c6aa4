use Rattle.history_core.proofs.Common.{refl, bytes_of}
use Rattle.history_core.proofs.ByteLemmas.{held_parts}
use Rattle.history_core.proofs.byte_locks.ByteLocks.holds.Goals as goal

pub returns : goal.returns
returns c =
    let parts = held_parts c.args.runs (bytes_of c.args.self.now) c.args.asked c.args.told in (
      λ whole. parts.0 (c.if-not-is_asked_for.ensures.0 refl, c.if-not-has_lock.ensures.0 refl, c.is_whole.ensures.0 whole),
      λ held. c.is_whole.ensures.1 (parts.1 held).2,
    )
