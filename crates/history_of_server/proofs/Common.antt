-- The names that most proofs of this crate cite, passed on from one place. Declares nothing.
pub use Rattle.std.proofs.Common.{Bool, List, None, Option, Some, [], ap, arith, eq-eqb, false, inl, inr, map, refl, subst, suc, sym, true, zero, ℕ, ◌++◌, ◌==◌, ◌∙◌, ◌∷◌, ◌≡◌, ◌≢◌, ◌≤◌}
pub use Rattle.std.proofs.lemmas.Bool.{cases_eq, eqb-true, false≢true, ne_eqb}
pub use Rattle.std.specs.Prelude.{Contains, filter, if◌then◌else◌, not, option_map, ◌&&◌, ◌⊎◌}
pub use Rattle.history_core.specs.Locks.{FileLocks}
pub use Rattle.history_core.specs.Moments.{IsFree, IsOpen, Open, World, behind_effect, closed, is_death, opened, with_open}
pub use Rattle.history_core.specs.Permitted.{Converts, Did, Effect, MayHave, MayTell, locks_behind}
pub use Rattle.history_core.specs.declared.request.Action.{Action}
pub use Rattle.history_core.specs.declared.request.Request.{Request}
pub use Rattle.history_judge.specs.Histories.{Answered, HistoryLine, Sent}
pub use Rattle.history_of_server.specs.ServerLines.{Names, all_bytes, exchange, request_of}
pub use Rattle.lock_server.specs.Calls.{WaitComesTo}
pub use Rattle.lock_server.specs.Files.{FileState, SameFile, SetsLock}
pub use Rattle.lock_server.specs.Settling.{Settles}
pub use Rattle.lock_server.specs.States.{State}
pub use Rattle.lock_server.specs.declared.Pending.{Pending}
pub use Rattle.range_core.specs.declared.Mode.{Mode}
pub use Rattle.range_core.specs.declared.Span.{Span}
pub use Rattle.range_core.specs.declared.TheConstants.{OFFMAX}
pub use Rattle.wait_core.specs.declared.Family.{Family}
pub use Rattle.wait_core.specs.declared.Family.TheVariants.{Bytes, Whole}
pub use Rattle.wait_core.specs.declared.Policy.{Policy}
