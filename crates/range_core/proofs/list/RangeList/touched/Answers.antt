use Rattle.std.proofs.Common.{◌+◌, ◌<◌, arith}
use Rattle.range_core.specs.declared.Mode.{Mode}
use Rattle.range_core.specs.declared.Span.{Span}
use Rattle.range_core.specs.Replacing.{Touches}
use Rattle.range_core.proofs.ListLemmas.{All-take_within, All-between_within, All-drop_within}
use Rattle.range_core.proofs.RunLemmas.{start_before_end}
use Rattle.range_core.proofs.list.RangeList.touched.Goals as goal

pub returns : goal.returns
returns c =
    let list = c.args.self.now in
    let runs = list.runs.items in
    let span = c.args.span in
    let ends = c.ending_from-start.ensures.parts in
    let begins = c.beginning_after-end.ensures.parts in
    let low = c.saturating_sub.ensures in
    record {
      ordered = start_before_end runs c.ending_from-start.result c.beginning_after-end.result c.saturating_sub.result (span.last + 1) list.ranges c.ending_from-start.ensures.bound (omega (arith, c.requires.0)) ends.0 begins.1;
      within = c.beginning_after-end.ensures.bound;
      before = All-take_within (λ (run : Mode × Span). run.1.last + 1 < span.first) runs c.ending_from-start.result c.ending_from-start.ensures.bound
          (λ k d from less. omega (arith, ends.0 k d from less));
      between = All-between_within (Touches span) runs c.ending_from-start.result c.beginning_after-end.result c.beginning_after-end.ensures.bound
          (λ k d from less. (omega (arith, ends.1 k d from (omega arith)), begins.0 k d (omega arith) less));
      behind = All-drop_within (λ (run : Mode × Span). span.last + 1 < run.1.first) runs c.beginning_after-end.result begins.1;
    }
