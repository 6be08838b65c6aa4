use Rattle.lock_book.proofs.Common.{◌<◌, ◌≢◌, true, not, sym, ap, ◌∙◌, subst, arith, None, Some, List, All, All-head, All-weaker, with_value, Mode, Span, IsRun, Run, modes_of, AreRunsWhere, as_holder, holder_modes, is_listed, is_outside}
use Rattle.std.specs.List.{AllPairs, find}
use Rattle.range_core.specs.Ranges.{IsByteRange}
use Rattle.interval_index.specs.Tests.{has_key, without}
use Rattle.lock_book.specs.Indexing.{run_by}
use Rattle.lock_book.proofs.IndexLemmas.{is_found, takes_first, unlisted}
use Rattle.lock_book.proofs.IndexedLemmas.{each_held, in_box, kept_lent, kept_without, outside_taken}
use Rattle.lock_book.proofs.ReportLaws.{pairs_head}
use Rattle.lock_book.proofs.TouchingLemmas.{all_touch, each_touching}
use Rattle.lock_book.proofs.book.index.OwnersIndex.take_out.Goals as goal

pub returns-in_default-next-clause-kept : goal.returns-in_default-next-clause-kept
returns-in_default-next-clause-kept c modes same kept block is =
    let holder = as_holder c.args.owner in
    outside_taken modes c.args.owner c.args.list.now same c.touching-runs.result c.touching-runs.ensures.runs.each c.args.span
    (all_touch (modes_of c.args.list.now) c.args.span c.touching-runs.result c.touching-runs.ensures.runs) (each_touching (modes_of c.args.list.now) c.args.span c.touching-runs.result c.touching-runs.ensures.runs)
    block.value.runs
    (subst (λ (listed : List (Mode × Span)). AreRunsWhere (holder_modes modes) (λ run. not (is_listed holder listed run)) block.value.runs) (sym c.in_default-next.ensures.steps.0)
    (kept block (c.in-Some.is ∙ is)))

pub returns-clause-kept : goal.returns-clause-kept
returns-clause-kept c modes same kept block is =
    let holder = as_holder c.args.owner in
    let first : Mode × Span = (c.in-Some-next.field-0-0, c.in-Some-next.first) in
    let runs = without first.1.first holder c.take_runs.new.index.runs in
    let taken = c.take_runs.ensures (holder_modes modes) (λ run. true)
    (kept_lent (holder_modes modes) (λ run. true) c.in-Some.index c.as_mut.result.now c.as_mut.ensures.value (kept c.in-Some.index c.in-Some.is)) in
    let all = subst (λ (listed : List (Mode × Span)). AreRunsWhere (holder_modes modes) (λ run. not (is_listed holder listed run)) runs) (sym c.in-Some-next.ensures.steps)
    (takes_first holder (holder_modes modes) first c.next.new.self c.take_runs.new.index.runs taken) in
    kept_without (holder_modes modes) (is_outside holder c.args.span) holder (Some first.1.first) (with_value c.in-Some.index c.take_runs.new.index) block
    (outside_taken modes c.args.owner c.args.list.now same c.touching-runs.result c.touching-runs.ensures.runs.each c.args.span
    (all_touch (modes_of c.args.list.now) c.args.span c.touching-runs.result c.touching-runs.ensures.runs) (each_touching (modes_of c.args.list.now) c.args.span c.touching-runs.result c.touching-runs.ensures.runs)
    runs all) is

pub returns-clause-left : goal.returns-clause-left
returns-clause-left c modes same kept block is =
    let holder = as_holder c.args.owner in
    let first : Mode × Span = (c.in-Some-next.field-0-0, c.in-Some-next.first) in
    let rest = c.next.new.self in
    let runs = c.take_runs.new.index.runs in
    let steps = c.in-Some-next.ensures.steps in
    let taken = c.take_runs.ensures (holder_modes modes) (λ run. true)
    (kept_lent (holder_modes modes) (λ run. true) c.in-Some.index c.as_mut.result.now c.as_mut.ensures.value (kept c.in-Some.index c.in-Some.is)) in
    let each = subst (All (λ listed. IsRun (holder_modes modes holder) listed.1.first listed.0 listed.1)) steps
    (each_held modes c.args.owner c.args.list.now same c.touching-runs.result c.touching-runs.ensures.runs.each) in
    let range = All-head (λ run. IsByteRange run.1) first rest (subst (All (λ run. IsByteRange run.1)) steps c.touching-runs.ensures.ranges) in
    let begins = range.0 in
    let behind = pairs_head (λ r s. r.1.last < s.1.first) first rest (subst (AllPairs (λ r s. r.1.last < s.1.first)) steps c.touching-runs.ensures.runs.rising) in
    let later = All-weaker (λ other. first.1.last < other.1.first) (λ other. first.1.first < other.1.first) (λ other ends. omega arith) rest behind in
    let there = taken.every (run_by c.args.owner first.0 first.1)
    (All-head (λ listed. IsRun (holder_modes modes holder) listed.1.first listed.0 listed.1) first rest each)
    (ap not (unlisted holder (run_by c.args.owner first.0 first.1) rest later)) in
    in_box (λ (runs : List Run). find (has_key first.1.first holder) runs ≢ None) (with_value c.in-Some.index c.take_runs.new.index) block
    (is_found (has_key first.1.first holder) runs there) is
