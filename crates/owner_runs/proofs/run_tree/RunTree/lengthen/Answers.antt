use Rattle.std.proofs.Common.{Some, List, refl, sym, ap, ◌∙◌, subst}
use Rattle.range_core.specs.declared.Mode.{Mode}
use Rattle.range_core.specs.declared.Span.{Span}
use Rattle.range_core.specs.Changes.{mode_in}
use Rattle.summary_tree.specs.Cuts.{with_first}
use Rattle.owner_runs.specs.Tests.{ends_from}
use Rattle.owner_runs.specs.Trees.{AreOrdered, IsSetOn}
use Rattle.owner_runs.proofs.ChangeLemmas.{longer_modes, longer_ordered}
use Rattle.owner_runs.proofs.CutLemmas.{cut_at}
use Rattle.owner_runs.proofs.RunLemmas.{found_whole}
use Rattle.owner_runs.proofs.Views.{runs_of}
use Rattle.owner_runs.proofs.run_tree.RunTree.lengthen.Goals as goal

pub replace-requires : goal.replace-requires
replace-requires c = cut_at c.args.run.1.last c.self.inside.runs.items c.self.invariant

pub invariant_of-self : goal.invariant_of-self
invariant_of-self c =
    let run = c.args.run in
    let longer : Mode × Span = (run.0, record { first = run.1.first; last = c.args.last }) in
    let old = c.args.self.now.items in
    let is = ap runs_of c.self.view_is in
    let ordered = subst AreOrdered is c.self.invariant in
    let items = c.replace.ensures.items ∙ ap (with_first (ends_from run.1.last) longer) is in
    subst AreOrdered (sym items)
    (longer_ordered (ends_from run.1.last) old run longer ordered (found_whole old run ordered c.requires.run.0 c.requires.run.1) refl refl c.requires.last.0 c.requires.last.1 c.requires.free c.requires.behind)

pub returns-clause-modes : goal.returns-clause-modes
returns-clause-modes c =
    let run = c.args.run in
    let longer : Mode × Span = (run.0, record { first = run.1.first; last = c.args.last }) in
    let old = c.args.self.now.items in
    let is = ap runs_of c.self.view_is in
    let ordered = subst AreOrdered is c.self.invariant in
    let items = c.replace.ensures.items ∙ ap (with_first (ends_from run.1.last) longer) is in
    subst (λ (new : List (Mode × Span)). IsSetOn (mode_in old) (mode_in new) longer.1 (Some longer.0)) (sym items)
    (longer_modes (ends_from run.1.last) old run longer ordered (found_whole old run ordered c.requires.run.0 c.requires.run.1) refl c.requires.last.0)
