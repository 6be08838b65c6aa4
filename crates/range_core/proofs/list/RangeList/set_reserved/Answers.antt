use Rattle.range_core.specs.Changes.{modes_of}
use Rattle.range_core.proofs.ReplacingLemmas.{reads_after, set_at}
use Rattle.range_core.proofs.list.RangeList.set_reserved.Goals as goal

pub returns-clause-modes : goal.returns-clause-modes
unfolding modes_of
returns-clause-modes c =
    (set_at c.args.self.now.runs.items _ _ _ _ c.args.span c.args.mode _ _ c.args.self.now.ranges c.args.self.now.apart
    c.as_slice.ensures c.as_slice-2.ensures.value c.touched-start.ensures c.replacement-put.ensures c.splice.ensures.items).modes

pub invariant_of-self-clause-ranges : goal.invariant_of-self-clause-ranges
invariant_of-self-clause-ranges c =
    (set_at c.args.self.now.runs.items _ _ _ _ c.args.span c.args.mode _ _ c.args.self.now.ranges c.args.self.now.apart
    c.as_slice.ensures c.as_slice-2.ensures.value c.touched-start.ensures c.replacement-put.ensures c.splice.ensures.items).in_order.ranges

pub invariant_of-self-clause-apart : goal.invariant_of-self-clause-apart
invariant_of-self-clause-apart c =
    (set_at c.args.self.now.runs.items _ _ _ _ c.args.span c.args.mode _ _ c.args.self.now.ranges c.args.self.now.apart
    c.as_slice.ensures c.as_slice-2.ensures.value c.touched-start.ensures c.replacement-put.ensures c.splice.ensures.items).in_order.apart

pub invariant_of-self-clause-read : goal.invariant_of-self-clause-read
invariant_of-self-clause-read c only =
    let stay = c.stay_reads-self.ensures only in
    reads_after c.args.self.now.runs.items _ c.args.span c.args.mode
    (set_at c.args.self.now.runs.items _ _ _ _ c.args.span c.args.mode _ _ c.args.self.now.ranges c.args.self.now.apart
    c.as_slice.ensures c.as_slice-2.ensures.value c.touched-start.ensures c.replacement-put.ensures c.splice.ensures.items) (c.args.self.now.read stay.0) stay.1
