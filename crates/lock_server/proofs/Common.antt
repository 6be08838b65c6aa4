-- The names that most proofs of this crate cite, passed on from one place. Declares nothing.
pub use Rattle.std.proofs.Common.{All, Any, Bool, Contains, List, None, Option, Some, [], add-suc, add-zero, ap, append-nil, append_assoc, arith, cond, drop, false, get_or, inl, inr, length, map, not, refl, rules, subst, suc, sym, take, true, zero, ℕ, ◌*◌, ◌++◌, ◌+◌, ◌-◌, ◌<◌, ◌==◌, ◌^◌, ◌∙◌, ◌∷◌, ◌≡◌, ◌≢◌, ◌≤◌, ◌⊎◌}
pub use Rattle.std.proofs.Math.Logic.{∥∥₁_elim, ∥∥₁_map}
pub use Rattle.std.proofs.lemmas.Bool.{cases_Bool, cases_eq, cases_lt, eq-eqb, eqb-true, ne_eqb}
pub use Rattle.std.proofs.lemmas.Bool.Decides.{nat_tests}
pub use Rattle.std.proofs.lemmas.Grind.{common_steps, flat_map-append}
pub use Rattle.std.proofs.lemmas.List.{get_or_append_left, get_or_default, length-append, length-map, length-take-le, map-append, take-append-drop, take_all, take_at, take_more}
pub use Rattle.std.proofs.lemmas.List.Elements.{All-append, All-cons, All-head, All-nil, All-push, All-tail, All-weaker, Contains-append_cases, Contains-append_left, Contains-append_right, Contains-get_or, Contains-push, Contains-push_cases}
pub use Rattle.std.proofs.lemmas.List.Kept.{AllPairs-cons}
pub use Rattle.std.proofs.lemmas.List.Quantifiers.{all_pairs_push}
pub use Rattle.std.proofs.lemmas.List.Sums.{sum_by-cons}
pub use Rattle.std.proofs.lemmas.Map.Iter.{iter_end}
pub use Rattle.std.proofs.lemmas.Option.{get_or_from_slice_get, same_Some, slice_get-get_or, slice_get_cases, slice_get_within}
pub use Rattle.std.proofs.lemmas.Result.{on_ok_weaker}
pub use Rattle.std.specs.BTreeMap.{UpdatesBy, get, is_at}
pub use Rattle.std.specs.BTreeMap.Range.{IsFromStart}
pub use Rattle.std.specs.BTreeSet.{contains}
pub use Rattle.std.specs.Borrow.{Bor, MutBor}
pub use Rattle.std.specs.Int.{from_le_bytes, w64}
pub use Rattle.std.specs.List.{flat_map, list_any}
pub use Rattle.std.specs.Map.{keys_of, lookup}
pub use Rattle.std.specs.Map.Iter.{deref_pair}
pub use Rattle.std.specs.Option.{option_copied, option_copied_mut}
pub use Rattle.std.specs.Ordering.{nat_cmp}
pub use Rattle.std.specs.Prelude.{AllPairs, Err, IfNone, IfSome, IsSome, IsTrue, Ok, OnErr, OnOk, Result, filter, if◌then◌else◌, is_some, slice_get, ◌&&◌, ◌||◌, ◌↔◌}
pub use Rattle.std.specs.declared.ops.Bound.{Bound}
pub use Rattle.arrival_list.specs.Places.{IsPlaceFrom}
unfoldable pub use Rattle.lock_book.specs.Books.{byte_modes_of, has_flock_place, room_in}
pub use Rattle.lock_book.specs.Changes.{whole_file}
pub use Rattle.lock_book.specs.Conflicts.{ByteModes}
pub use Rattle.lock_book.specs.OwnerLists.{modes_in_list}
pub use Rattle.lock_book.specs.Owners.{is_same_owner}
pub use Rattle.lock_book.specs.declared.Owner.{Owner}
pub use Rattle.lock_book.specs.declared.Owner.TheVariants.{Description, Process}
pub use Rattle.lock_book.specs.declared.book.Book.{Book}
pub use Rattle.lock_server.specs.Agreement.{Through}
pub use Rattle.lock_server.specs.Asking.{are_conflicting, is_among, is_of_kind, reaches}
pub use Rattle.lock_server.specs.Blockers.{AddsGoingOn, AddsOwners, BlocksBefore, BlocksOn, IsFlockHolder, IsGoingOn, IsNextDetected, IsNoneDetected}
pub use Rattle.lock_server.specs.Bytes.{IsExport, conversion_word, family_word, file_words, flag_word, flock_words, listed, lock_words, mode_word, note_words, number_words, policy_word, wait_words}
pub use Rattle.lock_server.specs.Calls.{FetchComesTo, FlockFrom, FlockWaitComesTo, FlockWaitFrom, ForgetsOn, IsRefused, IsStrangerOn, Releases, ReleasesOn, SetsOn, Suspends, WaitAtOnceComesTo, WaitComesTo, WaitConversionComesTo, byte_request, flock_request, given_by, is_other_wait, no_ticket}
pub use Rattle.lock_server.specs.Clients.{ForgetsFile, ForgetsOwners, HasByteLock, HasFlockLock, HaveLocks, HaveLocksOn, SettlesBelow, Strips, StripsFile, is_within}
pub use Rattle.lock_server.specs.Counting.{flock_locks_on, runs_of, runs_on, told, waits_on}
unfoldable pub use Rattle.lock_server.specs.Counting.{lock_of}
pub use Rattle.lock_server.specs.Deadlock.{BlocksIn, IsBlockedByOwner, IsFreeOfCycles, WaitsFor, WaitsForOn, WaitsUncrossed}
pub use Rattle.lock_server.specs.Exports.{IsExportOf}
pub use Rattle.lock_server.specs.FileView.{state_at}
unfoldable pub use Rattle.lock_server.specs.FileView.{file_state, keeps_place}
pub use Rattle.lock_server.specs.Files.{FileState, GetsLock, Leaves, SameFile, SameLocks, SetsBytes, SetsFlock, SetsLock, Unlocks, by_owner, locks_on, untouched}
pub use Rattle.lock_server.specs.FilesView.{PutsEntry}
unfoldable pub use Rattle.lock_server.specs.FilesView.{entry_in}
pub use Rattle.lock_server.specs.Freed.{AreBlockedBut, Frees, IsAmong, IsKnown, Reaches, SetFrees, TakesNothing}
pub use Rattle.lock_server.specs.Holding.{AreOfOthers, HasNoLock, HasNothing}
pub use Rattle.lock_server.specs.HoldingsView.{EntersOn, Keeps, LeavesFile, pair_cmp}
unfoldable pub use Rattle.lock_server.specs.HoldingsView.{keeps}
pub use Rattle.lock_server.specs.Importing.{AreNotesOf, AreOf, JoinsAll, SetsAll, SetsOnFile}
pub use Rattle.lock_server.specs.Index.{IsIndexed, detected_waits, state_in}
pub use Rattle.lock_server.specs.Inventory.{AreByteLocks, AreFiles, AreJust, FileEntry, IsInventory, Note, SaysFile, entry_place, note_place}
pub use Rattle.lock_server.specs.Lacking.{IsFirstPartLacking}
pub use Rattle.lock_server.specs.Leaving.{is_leaving}
pub use Rattle.lock_server.specs.Listing.{EndsBefore, IsByteLock, IsEarlier, IsFirstFrom, IsFlockLock, IsNextFrom, IsWaitUpTo, flock_place, lock_place, number_behind, wait_place}
pub use Rattle.lock_server.specs.LookedAt.{AreTold, Follows, looked_modes}
pub use Rattle.lock_server.specs.Openings.{SameOpenings, SeesOn}
unfoldable pub use Rattle.lock_server.specs.OpeningsView.{open_of, through_at}
pub use Rattle.lock_server.specs.Pendings.{as_wait, is_byte_wait, is_flock_wait, is_of_bytes, owners_of, tickets_of}
pub use Rattle.lock_server.specs.Reading.{Always, MayLock, MayStand, MayWait, inventory_of, itself, note_of, told_by}
pub use Rattle.lock_server.specs.Restoring.{CrossesEach, JoinsEach, QueuesEach, SetsEach, flock_lock_request, lock_request}
pub use Rattle.lock_server.specs.Room.{HasRoom}
pub use Rattle.lock_server.specs.Safety.{AreTicketsOnce, IsCompatible, IsSafe}
pub use Rattle.lock_server.specs.Searching.{IsAhead, IsSearchedInDepth}
unfoldable pub use Rattle.lock_server.specs.ServerView.{rules_of, state_of, through_of}
pub use Rattle.lock_server.specs.Settling.{AllBlocked, Grants, HasAlready, HasIn, IsAtLeast, IsBlockedUnless, IsHeldBack, IsSettled, IsWaitBlocked, PendingsConflict, Settles}
pub use Rattle.lock_server.specs.States.{ChangesFile, Crosses, HasDetected, IsDetectedOf, SameState, SettlesFile, State}
unfoldable pub use Rattle.lock_server.specs.States.{opening}
pub use Rattle.lock_server.specs.TableRoom.{KeepsRoomOn}
pub use Rattle.lock_server.specs.TableView.{AreSwept, KeepsEntries, KeepsOthers}
unfoldable pub use Rattle.lock_server.specs.TableView.{entry_of, table_state}
pub use Rattle.lock_server.specs.TicketsView.{SetsPlace}
unfoldable pub use Rattle.lock_server.specs.TicketsView.{grants_of, place_at}
pub use Rattle.lock_server.specs.WaitersView.{Ends, EndsIf, SameWaiters, times}
unfoldable pub use Rattle.lock_server.specs.WaitersView.{crossed_of, files_of, waiter_of}
pub use Rattle.lock_server.specs.Waiting.{IsReadyAt, IsReservedIn, LeavesAt}
pub use Rattle.lock_server.specs.Words.{Puts, PutsSome, bytes_of, greatest}
pub use Rattle.lock_server.specs.declared.Answer.{Answer}
pub use Rattle.lock_server.specs.declared.Conversion.{Conversion}
pub use Rattle.lock_server.specs.declared.Conversion.TheVariants.{Atomic, Stepwise}
pub use Rattle.lock_server.specs.declared.FlockLock.{FlockLock}
pub use Rattle.lock_server.specs.declared.Lock.{Lock}
pub use Rattle.lock_server.specs.declared.OwnerWait.{OwnerWait}
pub use Rattle.lock_server.specs.declared.Pending.{Pending}
pub use Rattle.lock_server.specs.declared.Rules.{Rules}
pub use Rattle.lock_server.specs.declared.WaitAnswer.{WaitAnswer}
pub use Rattle.lock_server.specs.declared.file.LockFile.{LockFile}
pub use Rattle.lock_server.specs.declared.files.Files.{Files}
pub use Rattle.lock_server.specs.declared.freed.Freed.{Freed}
pub use Rattle.lock_server.specs.declared.freed.Freed.TheVariants.{Meeting, Nobody, Of}
pub use Rattle.lock_server.specs.declared.freed.Reach.{Reach}
pub use Rattle.lock_server.specs.declared.holdings.Holdings.{Holdings}
pub use Rattle.lock_server.specs.declared.import.parts.FilePart.{FilePart}
pub use Rattle.lock_server.specs.declared.import.parts.Parts.{Parts}
pub use Rattle.lock_server.specs.declared.server.LockServer.{LockServer}
pub use Rattle.lock_server.specs.declared.table.Table.{Table}
pub use Rattle.lock_server.specs.declared.table.looked_at.LookedAt.{LookedAt}
pub use Rattle.lock_server.specs.declared.tickets.Place.{Place}
pub use Rattle.lock_server.specs.declared.tickets.Place.TheVariants.{Granted, Reserved, Waits}
pub use Rattle.lock_server.specs.declared.tickets.Tickets.{Tickets}
pub use Rattle.lock_server.specs.declared.waiters.Waiter.{Waiter}
pub use Rattle.lock_server.specs.declared.waiters.Waiters.{Waiters}
pub use Rattle.range_core.specs.Changes.{is_covered}
unfoldable pub use Rattle.owner_runs.specs.Lists.{modes_of}
pub use Rattle.range_core.specs.Ranges.{AreRuns, Conflict, Covers, HeldConflicts, IsByteRange, IsRun, Modes}
pub use Rattle.range_core.specs.declared.Mode.{Mode}
pub use Rattle.range_core.specs.declared.Mode.TheVariants.{Read, Write}
pub use Rattle.range_core.specs.declared.Span.{Span}
pub use Rattle.owner_runs.specs.declared.owner_runs.OwnerRuns.{OwnerRuns}
pub use Rattle.wait_core.specs.Blocking.{IsBlockedIn, WaitsConflict}
pub use Rattle.wait_core.specs.Cycles.{IsChain}
pub use Rattle.wait_core.specs.declared.Family.{Family}
pub use Rattle.wait_core.specs.declared.Family.TheVariants.{Bytes, Whole}
pub use Rattle.wait_core.specs.declared.Policy.{Policy}
pub use Rattle.wait_core.specs.declared.Policy.TheVariants.{Held, Queue}
pub use mathlib.Core.HLevel.{⊥_prop}
