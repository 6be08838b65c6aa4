use Rattle.history_core.proofs.Common.{bytes_in}
use Rattle.history_core.specs.Locks.{bytes_with}
use Rattle.history_core.proofs.ByteLemmas.{AreTrue-given, bytes_in-is, with_gives}
use Rattle.history_core.proofs.byte_locks.ByteLocks.with_range.Goals as goal

pub invariant_of-result : goal.invariant_of-result
invariant_of-result c =
    let old = c.args.self.now.runs.items in
    record {
      are_true = AreTrue-given c.in_ok-runs.runs.items (bytes_with (bytes_in old) c.args.owner c.args.span c.args.mode) c.in_ok-runs.ensures.ranges
          (with_gives old c.in_ok-rest.rest.items c.in_ok-runs.runs.items c.args.owner c.args.span c.args.mode c.args.self.now.are_true
          c.in_ok-rest.ensures.gives c.in_ok-runs.ensures.gives);
    }

pub returns : goal.returns
returns c =
    let old = c.args.self.now.runs.items in
    bytes_in-is c.in_ok-runs.runs.items (bytes_with (bytes_in old) c.args.owner c.args.span c.args.mode)
    (with_gives old c.in_ok-rest.rest.items c.in_ok-runs.runs.items c.args.owner c.args.span c.args.mode c.args.self.now.are_true
    c.in_ok-rest.ensures.gives c.in_ok-runs.ensures.gives)
