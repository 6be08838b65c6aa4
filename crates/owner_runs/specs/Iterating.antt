-- The runs that an iterator is still to hand out.
use Rattle.std.specs.Prelude.{List}
use Rattle.std.specs.List.{filter}
use Rattle.range_core.specs.declared.Mode.{Mode}
use Rattle.range_core.specs.declared.Span.{Span}
use Rattle.owner_runs.specs.declared.runs.Left.{Left}
use Rattle.owner_runs.specs.declared.runs.Left.TheVariants.{Few, Many}
use Rattle.owner_runs.specs.Tests.{meets}

-- those of a list, or those of a tree that end at the one byte or behind it and begin at the other or before it
abbrev pub runs_left : Left → List (Mode × Span)
runs_left (Few runs) = runs.now
runs_left (Many tree first last) = filter (meets first last) tree.now.items
