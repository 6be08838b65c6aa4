use Rattle.interval_index.proofs.Common.{List, sym, ap, ◌∙◌, ◌&&◌, leb, find, Holder, Run, RunContents, beginning_by, blocks, reaches_lock}
use Rattle.summary_tree.specs.Cuts.{both}
use Rattle.interval_index.specs.Tests.{comes_behind, is_after}
use Rattle.interval_index.proofs.Blocking.{first_within, regrouped}
use Rattle.interval_index.proofs.Order.{cut_behind}
use Rattle.interval_index.proofs.index.RunIndex.next.Goals as goal

abbrev runs_of : RunContents → List Run
runs_of contents = contents.runs

pub first_where_from-requires : goal.first_where_from-requires
first_where_from-requires c = cut_behind c.args.run.now.span.first c.holder.result c.self.inside.runs.items c.self.invariant

pub returns : goal.returns
returns c =
    let after = comes_behind c.args.run.now.span.first c.holder.result in
    let reach = reaches_lock c.args.holder c.args.span.first c.args.wanted in
    let e = first_within (both after reach) c.args.span.last c.self.inside.runs.items c.self.invariant in
    let r = regrouped after reach (λ x. leb x.span.first c.args.span.last) c.self.inside.runs.items in
    let hit = blocks c.args.holder c.args.span c.args.wanted in
    let same = ap (λ (h : Holder). find (λ other. comes_behind c.args.run.now.span.first h other && hit other) c.self.inside.runs.items) c.holder.ensures in
    c.beginning_by.ensures ∙ (ap (beginning_by c.args.span.last) c.first_where_from.ensures ∙ (sym e ∙ (sym r ∙ (same ∙ ap (find (λ other. is_after c.args.run.now other && hit other)) (ap runs_of c.self.view_is)))))
