-- The names that most proofs of this crate cite, passed on from one place. Declares nothing.
pub use Rattle.std.proofs.Common.{All, Any, Bool, List, None, Option, Some, [], ap, append_assoc, arith, drop, false, get_or, inl, inr, length, not, refl, rules, subst, suc, sym, take, true, zero, ℕ, ◌++◌, ◌+◌, ◌<◌, ◌↔◌, ◌∙◌, ◌∷◌, ◌≡◌, ◌≢◌, ◌≤◌, ◌⊎◌}
pub use Rattle.std.proofs.Math.Logic.{∥∥₁_elim, ∥∥₁_map}
pub use Rattle.std.proofs.lemmas.Bool.{cases_Bool, cases_eq, cases_lt, eq-eqb, eqb-true, or_left, or_right}
pub use Rattle.std.proofs.lemmas.Bool.Decides.{nat_tests}
pub use Rattle.std.proofs.lemmas.Grind.{common_steps}
pub use Rattle.std.proofs.lemmas.Iterator.{cases_from_any}
pub use Rattle.std.proofs.lemmas.List.{get_or_default}
pub use Rattle.std.proofs.lemmas.List.Elements.{All-cons, All-head, All-nil, All-push, All-tail, All-weaker}
pub use Rattle.std.proofs.lemmas.Map.Iter.{iter_end}
pub use Rattle.std.proofs.lemmas.Map.Views.{All-turn}
pub use Rattle.std.proofs.lemmas.Option.{get_or_from_slice_get, slice_get-get_or}
pub use Rattle.std.specs.List.{AllPairs, filter}
pub use Rattle.std.specs.Map.Iter.{deref}
pub use Rattle.std.specs.Prelude.{IsFalse, IsTrue, if◌then◌else◌, slice_get, ◌==◌, ◌||◌}
pub use Rattle.lock_book.specs.Conflicts.{ByteModes, ProcessBlocks}
pub use Rattle.lock_book.specs.declared.Owner.{Owner}
pub use Rattle.lock_book.specs.declared.Owner.TheVariants.{Process}
unfoldable pub use Rattle.owner_runs.specs.Lists.{modes_of}
pub use Rattle.range_core.specs.declared.Mode.{Mode}
pub use Rattle.range_core.specs.declared.Span.{Span}
pub use Rattle.wait_core.specs.Blocking.{AllBlocked, IsBlocked, Meet, WaitsConflict}
pub use Rattle.wait_core.specs.Cycles.{IsBlockedByProcess, IsTraditional, WaitsFor}
unfoldable pub use Rattle.wait_core.specs.Files.{has_file}
pub use Rattle.wait_core.specs.Links.{IsLed, first_process, follow}
pub use Rattle.wait_core.specs.Locks.{Locks, byte_modes_at, locks_of}
pub use Rattle.wait_core.specs.Pairs.{IsBlockedWait, IsConflictOf, IsOff, IsOn}
pub use Rattle.wait_core.specs.PairsView.{TellsPair, TellsQueue, TellsWait}
unfoldable pub use Rattle.wait_core.specs.PairsView.{pair_in}
pub use Rattle.wait_core.specs.Processes.{AreThoseWaiting, no_process}
unfoldable pub use Rattle.wait_core.specs.Processes.{is_member}
pub use Rattle.wait_core.specs.Queues.{AreQueues, waits_on}
unfoldable pub use Rattle.wait_core.specs.Queues.{latest_on, links_in}
pub use Rattle.wait_core.specs.Settled.{AllBlockedElsewhere}
unfoldable pub use Rattle.wait_core.specs.Settled.{changed_files}
pub use Rattle.wait_core.specs.WaitsView.{AreTold, without_wait_of}
unfoldable pub use Rattle.wait_core.specs.WaitsView.{has_pair, policy_of, processes_of, waits_of}
pub use Rattle.wait_core.specs.WellFormed.{IsWellFormed}
pub use Rattle.wait_core.specs.declared.Family.TheVariants.{Bytes}
pub use Rattle.wait_core.specs.declared.Policy.{Policy}
pub use Rattle.wait_core.specs.declared.Policy.TheVariants.{Held, Queue}
pub use Rattle.wait_core.specs.declared.Wait.{Wait}
pub use Rattle.wait_core.specs.declared.processes.ProcessSet.{ProcessSet}
pub use Rattle.wait_core.specs.declared.waits.Waits.{Waits}
