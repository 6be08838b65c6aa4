-- The names that most proofs of this crate cite, passed on from one place. Declares nothing.
pub use Rattle.std.proofs.Common.{All, Any, Bool, Box, Err, Global, List, None, Ok, Option, Result, Some, [], ap, arith, cond, false, get_or, inl, inr, length, map, not, refl, rules, subst, suc, sym, take, true, zero, ℕ, ◌&&◌, ◌++◌, ◌+◌, ◌-◌, ◌<◌, ◌==◌, ◌||◌, ◌∙◌, ◌∷◌, ◌≡◌, ◌≢◌, ◌≤◌, ◌⊎◌}
pub use Rattle.std.proofs.lemmas.Bool.{cases_Bool, cases_lt, cond-false, eq-eqb, eqb-true, not-true}
pub use Rattle.std.proofs.lemmas.Bool.Decides.{nat_tests}
pub use Rattle.std.proofs.lemmas.Grind.{common_steps}
pub use Rattle.std.proofs.lemmas.List.Elements.{All-append, All-cons, All-head, All-nil, All-push, All-tail, All-weaker}
pub use Rattle.std.proofs.lemmas.Map.Iter.{iter_end}
pub use Rattle.std.specs.BTreeMap.{BTreeMap, get, is_at}
pub use Rattle.std.specs.Borrow.{Bor}
pub use Rattle.std.specs.Box.{with_value}
pub use Rattle.std.specs.Iterator.{Yields}
pub use Rattle.std.specs.List.{AllByRecursion, AllPairs, list_any}
unfoldable pub use Rattle.std.specs.List.Sorted.{IsStrictlySortedBy}
pub use Rattle.std.specs.Map.{keys_of, lookup, set_value}
pub use Rattle.std.specs.Map.Iter.{TakesFirst, deref_pair}
pub use Rattle.std.specs.Option.{option_copied, option_copied_mut, option_map}
pub use Rattle.std.specs.Ordering.{nat_cmp}
pub use Rattle.std.specs.Prelude.{MatchOption, if◌then◌else◌, is_some}
pub use Rattle.std.specs.declared.cmp.Ordering.TheVariants.{Less}
pub use Rattle.interval_index.specs.Holders.{holder_of}
pub use Rattle.interval_index.specs.Standing.{HolderConflict, HolderModes}
pub use Rattle.interval_index.specs.declared.Holder.{Holder}
pub use Rattle.interval_index.specs.declared.Run.{Run}
unfoldable pub use Rattle.lock_book.specs.Books.{byte_modes_of, flock_modes_of, list_of, place_of}
pub use Rattle.lock_book.specs.Conflicts.{Blocks, ByteModes}
pub use Rattle.lock_book.specs.Holders.{mode_in_place}
pub use Rattle.lock_book.specs.Indexing.{AreRunsWhere, as_holder, holder_modes, is_listed, is_outside, modes_among, touches}
pub use Rattle.lock_book.specs.Kept.{pair_of}
pub use Rattle.lock_book.specs.OwnerLists.{AreFound, AreRising, IsIdle, PutsFor, modes_in_list}
pub use Rattle.lock_book.specs.Owners.{IsBefore, is_same_owner}
pub use Rattle.lock_book.specs.declared.Held.{Held}
pub use Rattle.lock_book.specs.declared.Owner.{Owner}
pub use Rattle.lock_book.specs.declared.Owner.TheVariants.{Description, Process}
pub use Rattle.lock_book.specs.declared.book.Book.{Book}
unfoldable pub use Rattle.owner_runs.specs.Lists.{modes_of}
pub use Rattle.owner_runs.specs.Lists.{OwnersStandForRuns}
pub use Rattle.owner_runs.specs.declared.owner_runs.OwnerRuns.{OwnerRuns}
pub use Rattle.range_core.specs.Changes.{is_covered}
pub use Rattle.range_core.specs.Ranges.{AreRuns, Covers, HeldConflicts, IsByteRange, IsRun, Modes}
pub use Rattle.range_core.specs.declared.Mode.{Mode}
pub use Rattle.range_core.specs.declared.Mode.TheVariants.{Read, Write}
pub use Rattle.range_core.specs.declared.Span.{Span}
