use Rattle.std.proofs.Common.{◌<◌, ◌≤◌, length, get_or, sym, subst, arith}
use Rattle.range_core.specs.declared.Mode.{Mode}
use Rattle.range_core.specs.declared.Span.{Span}
use Rattle.range_core.specs.Ranges.{Covers, IsRun}
use Rattle.range_core.specs.Changes.{modes_of}
use Rattle.range_core.proofs.RunLemmas.{IsRun_at, mode_in_between}
use Rattle.range_core.proofs.list.RangeList.run_at.Goals as goal

pub returns-in-Some-clause-run : goal.returns-in-Some-clause-run
unfolding modes_of
returns-in-Some-clause-run c =
    let list = c.args.self.now in
    let place = c.ending_from.result in
    let run = c.in-Some.run'.now in
    let found = rw c.deref.ensures at c.in-Some.ensures.lookup in
    let within : place < length list.runs.items = found.3.0 in
    let is = found.3.1 run in
    let reaches = c.ending_from.ensures.parts.1 place run (omega arith) within in
    let covers : Covers (get_or list.runs.items place run).1 c.args.byte = (subst (λ (r : Mode × Span). r.1.first ≤ c.args.byte) is c.if-run-byte.true, reaches) in
    let at = IsRun_at list.runs.items place run c.args.byte list.ranges list.apart within covers in
    subst (λ (r : Mode × Span). IsRun (modes_of list) c.args.byte r.0 r.1) (sym is) at

pub returns-in_default-clause-none : goal.returns-in_default-clause-none
unfolding modes_of
returns-in_default-clause-none c =
    let list = c.args.self.now in
    let found = rw c.deref.ensures at c.in-Some.ensures.lookup in
    mode_in_between list.runs.items c.ending_from.result c.args.byte list.ranges list.apart c.ending_from.ensures.parts.0
    (λ d within. subst (λ (r : Mode × Span). c.args.byte < r.1.first) (found.3.1 d) c.if-run-byte.false)

pub returns-in_default-2-clause-none : goal.returns-in_default-2-clause-none
unfolding modes_of
returns-in_default-2-clause-none c =
    let list = c.args.self.now in
    let past = rw (c.in_default.is, c.deref.ensures) at c.get.ensures.lookup in
    mode_in_between list.runs.items c.ending_from.result c.args.byte list.ranges list.apart c.ending_from.ensures.parts.0
    (λ d within. absurd (omega (arith, past.3)))
