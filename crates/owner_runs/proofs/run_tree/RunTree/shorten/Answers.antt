use Rattle.std.proofs.Common.{List, sym, ap, ◌∙◌, subst}
use Rattle.std.specs.List.{find}
use Rattle.std.specs.Option.{IfSome}
use Rattle.range_core.specs.declared.Mode.{Mode}
use Rattle.range_core.specs.declared.Span.{Span}
use Rattle.range_core.specs.Changes.{mode_in}
use Rattle.summary_tree.specs.Cuts.{with_first}
use Rattle.owner_runs.specs.Tests.{ends_from}
use Rattle.owner_runs.specs.Trees.{AreOrdered, IsPieceOf, IsShortened}
use Rattle.owner_runs.proofs.ChangeLemmas.{shortened_modes, shortened_ordered}
use Rattle.owner_runs.proofs.CutLemmas.{cut_at}
use Rattle.owner_runs.proofs.Views.{runs_of}
use Rattle.owner_runs.proofs.run_tree.RunTree.shorten.Goals as goal

pub replace-requires : goal.replace-requires
replace-requires c = cut_at c.args.byte c.self.inside.runs.items c.self.invariant

pub invariant_of-self : goal.invariant_of-self
invariant_of-self c =
    let is = ap runs_of c.self.view_is in
    let part = subst (λ (runs : List (Mode × Span)). IfSome (find (ends_from c.args.byte) runs) (λ run. IsPieceOf run c.args.piece)) (sym is) c.requires in
    subst AreOrdered (sym c.replace.ensures.items) (shortened_ordered (ends_from c.args.byte) c.self.inside.runs.items c.args.piece part c.self.invariant)

pub returns-clause-modes : goal.returns-clause-modes
returns-clause-modes c run found =
    let is = ap runs_of c.self.view_is in
    let old = c.args.self.now.items in
    let part = subst (λ o. IfSome o (λ run. IsPieceOf run c.args.piece)) found c.requires in
    let short = shortened_modes (ends_from c.args.byte) old run c.args.piece part (subst AreOrdered is c.self.invariant) found in
    let items = c.replace.ensures.items ∙ ap (with_first (ends_from c.args.byte) c.args.piece) is in
    subst (λ (new : List (Mode × Span)). IsShortened (mode_in old) (mode_in new) run.1 c.args.piece.1) (sym items) short
