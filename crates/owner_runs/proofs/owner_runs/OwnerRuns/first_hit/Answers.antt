use Rattle.std.proofs.Common.{ℕ, sym, subst}
use Rattle.std.specs.Option.{IfNone}
use Rattle.range_core.specs.Changes.{modes_of as list_modes_of}
use Rattle.range_core.specs.Ranges.{Covers, HeldConflicts, Modes}
use Rattle.owner_runs.specs.Lists.{kept_modes, modes_of}
use Rattle.owner_runs.proofs.owner_runs.OwnerRuns.first_hit.Goals as goal

pub returns-in-Few-clause-none : goal.returns-in-Few-clause-none
unfolding modes_of
returns-in-Few-clause-none c =
    let None-hit : Modes → Type 0 = λ modes. IfNone c.first_hit-in-Few.result ((byte : ℕ) → Covers c.args.span byte → ¬ HeldConflicts (modes byte) c.args.against) in
    subst (λ kept. None-hit (kept_modes kept)) (sym c.in-Few.is) (subst (λ list. None-hit (list_modes_of list)) c.deref.ensures c.first_hit-in-Few.ensures.none)
