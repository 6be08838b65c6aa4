use Rattle.std.proofs.Common.{◌-◌, ◌<◌, length, arith, inl, inr}
use Rattle.std.proofs.lemmas.Bool.{cases_lt, false≢true}
use Rattle.range_core.specs.Changes.{modes_of}
use Rattle.range_core.proofs.ReplacingLemmas.{reads_after, set_at, splits_at}
use Rattle.range_core.proofs.list.RangeList.set.Goals as goal

pub returns-in_err-grow-clause-unlock : goal.returns-in_err-grow-clause-unlock
unfolding modes_of
returns-in_err-grow-clause-unlock c unlock whole =
    let put = c.replacement-left.result.items in
    let more : c.touched-start.result.1 - c.touched-start.result.0 < length put = elim (cases_lt (c.touched-start.result.1 - c.touched-start.result.0) (length put)) [
      | inl more ↦ more
      | inr few ↦ absurd (false≢true (c.in_err-grow.ensures.there (omega (arith, few, c.len.ensures.value))))
    ] in
    absurd (whole (splits_at c.args.self.now.runs.items _ put c.args.span c.args.mode _ _ c.args.self.now.apart c.as_slice.ensures c.touched-start.ensures c.replacement-left.ensures unlock more))

pub returns-clause-ok : goal.returns-clause-ok
unfolding modes_of
returns-clause-ok c =
    (set_at c.args.self.now.runs.items _ _ _ _ c.args.span c.args.mode _ _ c.args.self.now.ranges c.args.self.now.apart
    c.as_slice.ensures c.as_slice-2.ensures.value c.touched-start.ensures c.replacement-left.ensures (rw c.grow.ensures.runs at c.splice.ensures.items)).modes

pub invariant_of-self-clause-ranges : goal.invariant_of-self-clause-ranges
invariant_of-self-clause-ranges c =
    (set_at c.args.self.now.runs.items _ _ _ _ c.args.span c.args.mode _ _ c.args.self.now.ranges c.args.self.now.apart
    c.as_slice.ensures c.as_slice-2.ensures.value c.touched-start.ensures c.replacement-left.ensures (rw c.grow.ensures.runs at c.splice.ensures.items)).in_order.ranges

pub invariant_of-self-clause-apart : goal.invariant_of-self-clause-apart
invariant_of-self-clause-apart c =
    (set_at c.args.self.now.runs.items _ _ _ _ c.args.span c.args.mode _ _ c.args.self.now.ranges c.args.self.now.apart
    c.as_slice.ensures c.as_slice-2.ensures.value c.touched-start.ensures c.replacement-left.ensures (rw c.grow.ensures.runs at c.splice.ensures.items)).in_order.apart

pub invariant_of-self-clause-read : goal.invariant_of-self-clause-read
invariant_of-self-clause-read c only =
    let stay = c.stay_reads-self.ensures only in
    reads_after c.args.self.now.runs.items _ c.args.span c.args.mode
    (set_at c.args.self.now.runs.items _ _ _ _ c.args.span c.args.mode _ _ c.args.self.now.ranges c.args.self.now.apart
    c.as_slice.ensures c.as_slice-2.ensures.value c.touched-start.ensures c.replacement-left.ensures (rw c.grow.ensures.runs at c.splice.ensures.items)) (rw c.grow.ensures.runs at (c.grow.new.self.read stay.0)) stay.1
