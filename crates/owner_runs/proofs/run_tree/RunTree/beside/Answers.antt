use Rattle.std.proofs.Common.{None, sym, ap, ◌∙◌, subst}
use Rattle.std.specs.List.{find, last_or}
use Rattle.range_core.specs.Changes.{mode_in}
use Rattle.summary_tree.specs.Cuts.{before}
use Rattle.owner_runs.specs.Tests.{ends_from}
use Rattle.owner_runs.specs.Trees.{AreOrdered, IsPrior}
use Rattle.owner_runs.proofs.CutLemmas.{cut_at}
use Rattle.owner_runs.proofs.FindLemmas.{next_is, prior_is}
use Rattle.owner_runs.proofs.Views.{runs_of}
use Rattle.owner_runs.proofs.run_tree.RunTree.beside.Goals as goal

pub beside-requires : goal.beside-requires
beside-requires c = cut_at c.args.byte c.self.inside.runs.items c.self.invariant

pub returns-clause-before : goal.returns-clause-before
returns-clause-before c =
    let runs = c.args.self.now.items in
    let is = ap runs_of c.self.view_is in
    let found = c.beside.ensures.before ∙ ap (λ all. last_or None (before (ends_from c.args.byte) all)) is in
    subst (IsPrior (mode_in runs) c.args.byte) (sym found) (prior_is c.args.byte runs (subst AreOrdered is c.self.invariant))

pub returns-clause-behind : goal.returns-clause-behind
returns-clause-behind c =
    let is = ap runs_of c.self.view_is in
    next_is c.args.byte c.args.self.now.items c.beside.result.behind (subst AreOrdered is c.self.invariant) (c.beside.ensures.behind ∙ ap (find (ends_from c.args.byte)) is)
