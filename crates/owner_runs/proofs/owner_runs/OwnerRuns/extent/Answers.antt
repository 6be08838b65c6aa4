use Rattle.std.proofs.Common.{Option, Some, None}
use Rattle.std.specs.Option.{IfSome}
use Rattle.range_core.specs.declared.Span.{Span}
use Rattle.range_core.specs.Ranges.{Modes}
use Rattle.owner_runs.specs.Lists.{IsExtent, modes_of}
use Rattle.owner_runs.proofs.owner_runs.OwnerRuns.extent.Goals as goal

-- what holds of each extent
each : (modes : Modes) (P : Span → Type 0) (extent : Option Span) → ((span : Span) → IsExtent modes span → P span) → IfSome extent (IsExtent modes) → IfSome extent P
each modes P None then is = tt
each modes P (Some span) then is = then span is

pub returns-in-Listed-clause-some : goal.returns-in-Listed-clause-some
returns-in-Listed-clause-some c =
    let modes = modes_of c.args.self.now in
    each modes _ c.extent_of.result (λ span is. is.outside) (c.extent_of.ensures.extent modes c.in-Listed.ensures.0)

pub returns-in-Listed-clause-ends : goal.returns-in-Listed-clause-ends
returns-in-Listed-clause-ends c =
    let modes = modes_of c.args.self.now in
    each modes _ c.extent_of.result (λ span is. (is.first, is.last)) (c.extent_of.ensures.extent modes c.in-Listed.ensures.0)

pub returns-in-Listed-clause-range : goal.returns-in-Listed-clause-range
returns-in-Listed-clause-range c =
    let modes = modes_of c.args.self.now in
    each modes _ c.extent_of.result (λ span is. is.range) (c.extent_of.ensures.extent modes c.in-Listed.ensures.0)
