use Rattle.std.proofs.Common.{ℕ, ◌≡◌, List, refl}
use Rattle.range_core.specs.declared.Mode.{Mode}
use Rattle.range_core.specs.declared.Span.{Span}
use Rattle.range_core.specs.Changes.{mode_in, modes_of as list_modes_of}
use Rattle.owner_runs.specs.declared.owner_runs.Kept.TheVariants.{Few, Lone, Many}
use Rattle.owner_runs.specs.Lists.{kept_modes, modes_of}
use Rattle.owner_runs.proofs.laws.owners_stand_for_runs.Goals as goal

pub returns : goal.returns
unfolding modes_of list_modes_of
returns c = λ owner. elim owner.kept as (λ kept. (runs : List (Mode × Span)) × ((byte : ℕ) → kept_modes kept byte ≡ mode_in runs byte)) [
  | Lone lone ↦ (lone.items, λ byte. refl)
  | Few list ↦ (list.value.runs.items, λ byte. refl)
  | Many tree ↦ (tree.value.runs.items, λ byte. refl)
]
