use Rattle.history_core.proofs.ByteLemmas.{blocks_by}
use Rattle.history_core.proofs.byte_locks.ByteLocks.blocks_range.Goals as goal

pub returns : goal.returns
returns c =
    let by = blocks_by c.args.self.now.runs.items c.args.owner c.args.mode c.args.span c.args.self.now.are_true c.requires in
    (λ holds. by.0 (c.has_in_the_way.ensures.0 holds), λ blocks. c.has_in_the_way.ensures.1 (by.1 blocks))
