use Rattle.lock_book.proofs.Common.{◌≢◌, ◌||◌, true, None, sym, subst, List, All, All-head, All-tail, with_value, Mode, Span, IsRun, Run, modes_of, AreRunsWhere, as_holder, holder_modes, is_listed, is_outside}
use Rattle.std.specs.Prelude.{IfSome}
use Rattle.std.specs.List.{find}
use Rattle.range_core.specs.Ranges.{IsByteRange}
use Rattle.interval_index.specs.Contents.{RunContents}
use Rattle.interval_index.specs.Tests.{has_key}
use Rattle.lock_book.specs.Indexing.{run_by, without_left}
use Rattle.lock_book.proofs.IndexLemmas.{AreRunsWhere-puts, puts_first, puts_none}
use Rattle.lock_book.proofs.IndexedLemmas.{all_put, each_held, kept_new}
use Rattle.lock_book.proofs.TouchingLemmas.{all_touch, each_touching}
use Rattle.lock_book.proofs.book.index.OwnersIndex.put_in.Goals as goal

pub put_first-requires-clause-span : goal.put_first-requires-clause-span
put_first-requires-clause-span c =
    All-head (λ run. IsByteRange run.1) (c.in-Some-next.mode, c.in-Some-next.first) c.next.new.self
    (subst (All (λ run. IsByteRange run.1)) c.in-Some-next.ensures.steps c.touching-runs.ensures.ranges)

pub put_first-requires-clause-left : goal.put_first-requires-clause-left
put_first-requires-clause-left c =
    subst (λ (contents : RunContents). IfSome c.args.left (λ byte. find (has_key byte (as_holder c.args.owner)) contents.runs ≢ None)) (sym c.as_mut-index.ensures.value)
    (c.requires.left c.in-Some.index c.in-Some.is)

pub put_runs-requires : goal.put_runs-requires
put_runs-requires c =
    All-tail (λ run. IsByteRange run.1) (c.in-Some-next.mode, c.in-Some-next.first) c.next.new.self
    (subst (All (λ run. IsByteRange run.1)) c.in-Some-next.ensures.steps c.touching-runs.ensures.ranges)

pub returns-in_default-next : goal.returns-in_default-next
returns-in_default-next c modes same kept block is =
    let holder = as_holder c.args.owner in
    let outside = is_outside holder c.args.span in
    let runs = c.take_left.new.index.runs in
    let was = subst (λ (contents : RunContents). AreRunsWhere (holder_modes modes) outside (without_left holder c.args.left contents.runs)) (sym c.as_mut-index.ensures.value) (kept c.in-Some.index c.in-Some.is) in
    let now = subst (λ (left : List Run). AreRunsWhere (holder_modes modes) outside left) (sym c.take_left.ensures) was in
    kept_new (holder_modes modes) (λ run. true) (with_value c.in-Some.index c.take_left.new.index) block
    (all_put modes c.args.owner c.args.list.now same c.touching-runs.result c.touching-runs.ensures.runs.each c.args.span
    (all_touch (modes_of c.args.list.now) c.args.span c.touching-runs.result c.touching-runs.ensures.runs) (each_touching (modes_of c.args.list.now) c.args.span c.touching-runs.result c.touching-runs.ensures.runs)
    runs
    (subst (λ (listed : List (Mode × Span)). AreRunsWhere (holder_modes modes) (λ run. outside run || is_listed holder listed run) runs) (sym c.in_default-next.ensures.steps.0)
    (puts_none holder (holder_modes modes) outside runs now))) is

pub returns-else-not-put_runs : goal.returns-else-not-put_runs
returns-else-not-put_runs c modes same kept block is =
    let holder = as_holder c.args.owner in
    let all = holder_modes modes in
    let outside = is_outside holder c.args.span in
    let first : Mode × Span = (c.in-Some-next.mode, c.in-Some-next.first) in
    let rest = c.next.new.self in
    let run = run_by c.args.owner first.0 first.1 in
    let steps = c.in-Some-next.ensures.steps in
    let each = subst (All (λ listed. IsRun (all holder) listed.1.first listed.0 listed.1)) steps
    (each_held modes c.args.owner c.args.list.now same c.touching-runs.result c.touching-runs.ensures.runs.each) in
    let left = without_left holder c.args.left c.as_mut-index.result.now.runs in
    let was = subst (λ (contents : RunContents). AreRunsWhere all outside (without_left holder c.args.left contents.runs)) (sym c.as_mut-index.ensures.value) (kept c.in-Some.index c.in-Some.is) in
    let put = c.put_first.ensures c.if-not-put_first.false in
    let now = subst (λ (runs : List Run). AreRunsWhere all (λ other. outside other || has_key first.1.first holder other) runs) (sym put)
    (AreRunsWhere-puts all outside run left (All-head (λ listed. IsRun (all holder) listed.1.first listed.0 listed.1) first rest each) was) in
    let more = c.put_runs.ensures c.if-not-put_runs.false all (λ other. outside other || has_key first.1.first holder other)
    (All-tail (λ listed. IsRun (all holder) listed.1.first listed.0 listed.1) first rest each) now in
    let runs = c.put_runs.new.index.runs in
    kept_new all (λ other. true) (with_value c.in-Some.index c.put_runs.new.index) block
    (all_put modes c.args.owner c.args.list.now same c.touching-runs.result c.touching-runs.ensures.runs.each c.args.span
    (all_touch (modes_of c.args.list.now) c.args.span c.touching-runs.result c.touching-runs.ensures.runs) (each_touching (modes_of c.args.list.now) c.args.span c.touching-runs.result c.touching-runs.ensures.runs)
    runs
    (subst (λ (listed : List (Mode × Span)). AreRunsWhere all (λ other. outside other || is_listed holder listed other) runs) (sym steps)
    (puts_first holder all outside first rest runs more))) is
