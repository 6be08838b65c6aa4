use Rattle.std.proofs.Common.{Some, [], ◌∷◌, sym, ap, ◌∙◌, subst}
use Rattle.range_core.specs.Changes.{mode_in}
use Rattle.owner_runs.specs.Lone.{contents_of}
use Rattle.owner_runs.specs.Trees.{IsSetOn}
use Rattle.owner_runs.proofs.LoneLemmas.{joined_set}
use Rattle.owner_runs.proofs.Views.{runs_of}
use Rattle.owner_runs.proofs.lone_run.LoneRun.lock.Goals as goal

pub returns-in-Some-clause-yes : goal.returns-in-Some-clause-yes
returns-in-Some-clause-yes c set =
    let joined = c.in-Some.ensures in
    let all = c.in-Some.joined in
    let held = ap (λ place. (contents_of place).items) (sym c.in-Run.is) ∙ ap runs_of c.self.view_is in
    subst (λ items. IsSetOn (mode_in items) (mode_in ((c.args.mode, all) ∷ [])) c.args.span (Some c.args.mode)) held
    (joined_set c.in-Run.held c.in-Run.run' c.args.mode c.args.span all joined.inside joined.mode joined.outside)
