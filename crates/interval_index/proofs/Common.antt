-- The names that most proofs of this crate cite, passed on from one place. Declares nothing.
pub use Rattle.std.proofs.Common.{Bool, List, None, Option, Some, [], ap, arith, cond, false, leb, not, refl, subst, sym, true, ℕ, ◌&&◌, ◌++◌, ◌<◌, ◌||◌, ◌∙◌, ◌∷◌, ◌≡◌, ◌≢◌, ◌≤◌, ◌⊎◌}
pub use Rattle.std.proofs.lemmas.Bool.Decides.{nat_tests}
pub use Rattle.std.specs.List.{AllByRecursion, Any, find, list_any}
pub use Rattle.std.specs.Option.{is_some}
pub use Rattle.interval_index.specs.Contents.{RunContents}
pub use Rattle.interval_index.specs.Holders.{has_by, holder_of, is_by, is_same_holder}
pub use Rattle.interval_index.specs.Leasts.{IsLeastOf}
pub use Rattle.interval_index.specs.Runs.{AreOrdered, IsBefore}
pub use Rattle.interval_index.specs.Tests.{beginning_by, begins_after, blocks, conflicts_with, is_from, reaches_lock}
pub use Rattle.interval_index.specs.declared.Holder.{Holder}
pub use Rattle.interval_index.specs.declared.Run.{Run}
pub use Rattle.interval_index.specs.declared.queries.Reaching.{Reaching}
pub use Rattle.range_core.specs.Ranges.{Conflict}
pub use Rattle.range_core.specs.declared.Mode.{Mode}
pub use Rattle.range_core.specs.declared.Span.{Span}
