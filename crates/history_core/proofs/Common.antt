-- The names that most proofs of this crate cite, passed on from one place. Declares nothing.
pub use Rattle.std.proofs.Common.{Bool, List, None, Option, Some, [], ap, arith, drop, false, get_or, inl, inr, length, map, refl, rules, subst, suc, sym, take, true, zero, ℕ, ◌++◌, ◌+◌, ◌<◌, ◌==◌, ◌^◌, ◌↔◌, ◌∙◌, ◌∷◌, ◌≡◌, ◌≢◌, ◌≤◌}
pub use Rattle.std.proofs.lemmas.Bool.{cases_Bool, eqb-true, false≢true, ltb-false, ltb-true}
pub use Rattle.std.proofs.lemmas.Grind.{common_steps}
pub use Rattle.std.proofs.lemmas.List.{get_or_read, take_all, take_more}
pub use Rattle.std.proofs.lemmas.List.Elements.{All-push}
pub use Rattle.std.proofs.lemmas.List.Quantifiers.{Any-push}
pub use Rattle.std.specs.List.{list_any}
pub use Rattle.std.specs.Prelude.{All, Any, MatchOption, filter, find, nat_lt, not, ◌⊎◌}
pub use Rattle.history_core.specs.ByteLists.{AreRanges, AreTrue, Gives, HasByte, bytes_in}
pub use Rattle.history_core.specs.ByteView.{bytes_of}
pub use Rattle.history_core.specs.Chains.{Chain, Never, Steps, is_met, requests_of}
pub use Rattle.history_core.specs.Moments.{AllWaitStill, Answered, FileLine, HasEffect, HasMore, IsAnswered, IsFree, IsOpen, Loses, Open, Reaches, Sent, World, beginning, behind_effect, closed, ended, ends, is_named, opened, with_effect, with_open}
pub use Rattle.history_core.specs.Permitted.{Effect, MayHave}
pub use Rattle.history_core.specs.PossibilityView.{effect_of, locks_of, open_of, world_of}
pub use Rattle.history_core.specs.Searching.{Adds, AreOf, Begins, CameFrom, GoesOn, HasEnd, IsFound, IsKept, IsOf, LeadsOn, Overflows, world_at}
pub use Rattle.history_core.specs.Traces.{AreTold, AreToldIn, Extends, IsBehind, IsKeptAt, IsPath, IsTold, LedTo, StaysTold}
pub use Rattle.history_core.specs.declared.byte_locks.ByteLock.{ByteLock}
pub use Rattle.history_core.specs.declared.file.FileHistory.{FileHistory}
pub use Rattle.history_core.specs.declared.order.Happening.{Happening}
pub use Rattle.history_core.specs.declared.order.Node.{Node}
pub use Rattle.history_core.specs.declared.possibility.Possibility.{Possibility}
pub use Rattle.history_core.specs.declared.request.Answer.{Answer}
pub use Rattle.history_core.specs.declared.request.Request.{Request}
pub use Rattle.history_core.specs.declared.search.Goal.{Goal}
pub use Rattle.history_core.specs.declared.search.Reached.{Reached}
pub use Rattle.range_core.specs.declared.Mode.{Mode}
