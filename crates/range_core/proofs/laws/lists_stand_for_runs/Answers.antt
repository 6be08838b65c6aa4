use Rattle.std.proofs.Common.{refl}
use Rattle.range_core.specs.Changes.{modes_of}
use Rattle.range_core.proofs.laws.lists_stand_for_runs.Goals as goal

pub returns : goal.returns
unfolding modes_of
returns c = λ list. (list.runs.items, λ byte. refl)
