use Rattle.std.proofs.Common.{List, None, [], ◌∷◌, sym, subst}
use Rattle.range_core.specs.declared.Mode.{Mode}
use Rattle.range_core.specs.declared.Span.{Span}
use Rattle.range_core.specs.Changes.{mode_in}
use Rattle.owner_runs.specs.declared.lone_run.Place.{Place}
use Rattle.owner_runs.specs.Lone.{IsLeftOf, contents_of}
use Rattle.owner_runs.specs.Trees.{IsSetOn}
use Rattle.owner_runs.proofs.LoneLemmas.{nothing_set, piece_set}
use Rattle.owner_runs.proofs.lone_run.LoneRun.unlock.Goals as goal
use Rattle.owner_runs.proofs.lone_run.LoneRun.unlock.Goals.{in-Some-left, in-None}

pub returns-clause-yes : goal.returns-clause-yes
returns-clause-yes c set =
    let mode = c.in-Some.mode in
    let run = c.in-Some.run' in
    let span = c.args.span in
    let Sets : List (Mode × Span) → Place → Type 0 = λ runs place. IsSetOn (mode_in runs) (mode_in (contents_of place).items) span None in
    let had = sym c.in-Some.ensures.some.0 in
    elim c.match-left.branch [
      | in-Some-left w ↦
          let left = subst (IsLeftOf run span) w.in-Some-left.is c.in-Some-left_of.ensures.some in
          subst (Sets c.args.self.now.items) (sym w.self-is) (subst (λ runs. IsSetOn (mode_in runs) (mode_in ((mode, w.in-Some-left.left) ∷ [])) span None) had (piece_set mode run span w.in-Some-left.left left))
      | in-None w ↦
          let all = subst (IsLeftOf run span) w.in-None.is c.in-Some-left_of.ensures.some in
          subst (Sets c.args.self.now.items) (sym w.self-is) (subst (λ runs. IsSetOn (mode_in runs) (mode_in []) span None) had (nothing_set mode run span all))
    ]
