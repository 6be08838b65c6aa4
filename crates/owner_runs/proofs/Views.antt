-- What a tree of runs stands for.
use Rattle.std.specs.Prelude.{List}
use Rattle.range_core.specs.declared.Mode.{Mode}
use Rattle.range_core.specs.declared.Span.{Span}
use Rattle.summary_tree.specs.Contents.{Contents}

-- its runs
abbrev pub runs_of : Contents (Mode × Span) → List (Mode × Span)
runs_of contents = contents.items
