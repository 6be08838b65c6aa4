-- The names that most proofs of this crate cite, passed on from one place. Declares nothing.
pub use Rattle.std.proofs.Common.{All, Bool, Contains, Err, FitsSigned, IfOk, IsFalse, IsSome, List, MatchBool, MatchOption, MatchResult, None, Ok, OnErr, OnOk, Option, Result, Some, [], ap, append-nil, append_assoc, arith, eq-eqb, false, get_or, if◌then◌else◌, inl, inr, length, length-append, nat_le, not, of_z, option_map, refl, rules, slice_get, slice_set, subst, suc, sym, take, to_z, to_z-of_z, true, vec_len, w64, zero, ℕ, ℤ, ◌&&◌, ◌++◌, ◌+◌, ◌-◌, ◌<◌, ◌==◌, ◌||◌, ◌∙◌, ◌∷◌, ◌≡◌, ◌≢◌, ◌≤◌, ◌⊎◌}
pub use Rattle.std.proofs.Math.Logic.{∥∥₁_elim, ∥∥₁_map}
pub use Rattle.std.proofs.lemmas.Bool.{and_parts, cases_Bool, cases_lt, eqb-true}
pub use Rattle.std.proofs.lemmas.Bool.Decides.{eqb_tells, nat_tests}
pub use Rattle.std.proofs.lemmas.Grind.{common_steps}
pub use Rattle.std.proofs.lemmas.List.Elements.{All-head, All-tail}
pub use Rattle.std.proofs.lemmas.List.Folds.{Any-from_list_any, list_any_at}
pub use Rattle.std.proofs.lemmas.Option.{same_Some, slice_get_cases, slice_get_within}
pub use Rattle.std.proofs.lemmas.Result.{on_err_weaker, on_ok_weaker}
pub use Rattle.std.specs.List.{list_any}
pub use Rattle.fd_table.specs.Calls.{CloseGives, DupGives, DupToGives, EndGives, ForkGives, HadMemory, OpenGives, ResizeGives, SeekGives}
pub use Rattle.fd_table.specs.Descriptors.{Descriptors, OpenFileDescription, SameDescriptors, description_numbered, look_at, with_descriptor, without_descriptors}
unfoldable pub use Rattle.fd_table.specs.Descriptors.{opening_descriptors}
pub use Rattle.fd_table.specs.Releases.{AreReleased, ClosesFile, Released, nothing}
pub use Rattle.fd_table.specs.TablesView.{StandFor, ever_alive}
unfoldable pub use Rattle.fd_table.specs.TablesView.{limits_of}
pub use Rattle.fd_table.specs.declared.Access.{Access}
pub use Rattle.fd_table.specs.declared.FdFault.{FdFault}
pub use Rattle.fd_table.specs.declared.FdFault.TheVariants.{BadFd, Invalid, Taken, TooMany}
pub use Rattle.fd_table.specs.declared.Limits.{Limits}
pub use Rattle.fd_table.specs.declared.tables.Look.{Look}
pub use Rattle.fd_table.specs.declared.tables.Tables.{Tables}
pub use Rattle.lock_book.specs.Books.{SameBook, SetsOwnerMode}
unfoldable pub use Rattle.lock_book.specs.Books.{byte_modes_of, flock_modes_of, room_in}
pub use Rattle.lock_book.specs.Changes.{Change, FlockChange, flock_mode_from, flock_mode_in, mode_from, mode_in, whole_file}
pub use Rattle.lock_book.specs.Conflicts.{ByteConflict, ByteModes, FlockModes, IsFirstBlocker}
pub use Rattle.lock_book.specs.Owners.{is_same_owner}
pub use Rattle.lock_book.specs.declared.Held.{Held}
pub use Rattle.lock_book.specs.declared.Owner.{Owner}
pub use Rattle.lock_book.specs.declared.Owner.TheVariants.{Description, Process}
pub use Rattle.lock_book.specs.declared.book.Book.{Book}
pub use Rattle.lock_manager.specs.DescriptionLocks.{AreOwned, AreWithinFiles, IsOpenOn, MayLock, MayWaitAs}
pub use Rattle.lock_manager.specs.DescriptorCalls.{with_released}
pub use Rattle.lock_manager.specs.FlockCalls.{FlockComesTo, FlockModeComesTo, FlockOpComesTo, FlockTestComesTo, wanted_flock}
pub use Rattle.lock_manager.specs.LockCommands.{CommandComesTo, GetComesTo, LockComesTo}
pub use Rattle.lock_manager.specs.LockReleases.{ReleasesInBook, ReleasesLocks, ReleasesRoom, is_one_of, is_released}
pub use Rattle.lock_manager.specs.LockWords.{is_bad_argument, is_get, permits, wanted_lock, wanted_mode}
pub use Rattle.lock_manager.specs.MachineView.{SameMachine, Shows, Tells}
unfoldable pub use Rattle.lock_manager.specs.MachineView.{machine_locks, machine_processes, machine_rules, machine_state, machine_waits}
unfoldable pub use Rattle.lock_manager.specs.ManagerView.{state_at}
pub use Rattle.lock_manager.specs.Opening.{HoldsNothing}
pub use Rattle.lock_manager.specs.Outcomes.{IsRefusal, Outcome, answered}
pub use Rattle.lock_manager.specs.ProcessCalls.{EndComesTo, KillOtherComesTo, SignalComesTo, without_wait}
pub use Rattle.lock_manager.specs.Safety.{AreCompatible}
pub use Rattle.lock_manager.specs.SeatView.{no_seat}
pub use Rattle.lock_manager.specs.Sections.{marked, may_enter, may_leave}
pub use Rattle.lock_manager.specs.SectionsView.{refused_in, visit_in}
unfoldable pub use Rattle.lock_manager.specs.SectionsView.{seat_in}
pub use Rattle.lock_manager.specs.Settling.{Settles, granted}
pub use Rattle.lock_manager.specs.SomeOutcome.{AreMade, IsWhole}
pub use Rattle.lock_manager.specs.State.{StandsSo, State, locks_held, state_numbered, with_byte_mode, with_flock_mode, with_lock, with_process}
unfoldable pub use Rattle.lock_manager.specs.State.{opening_state}
pub use Rattle.lock_manager.specs.Step.{ComesTo, Step}
pub use Rattle.lock_manager.specs.WaitsKept.{AreApart, AreKept, AreStanding, HaveRoom, IsSuspended, SameWaits, StayKnown, has_place_at, is_byte_wait, room_at}
pub use Rattle.lock_manager.specs.declared.machine.Machine.{Machine}
pub use Rattle.lock_manager.specs.declared.request.FlockOp.{FlockOp}
pub use Rattle.lock_manager.specs.declared.request.LkCmd.{LkCmd}
pub use Rattle.lock_manager.specs.declared.request.LkCmd.TheVariants.{GetLk, OGetLk, OSetLk, OSetLkW, SetLk, SetLkW}
pub use Rattle.lock_manager.specs.declared.request.Lock.{Lock}
pub use Rattle.lock_manager.specs.declared.request.Note.{Note}
pub use Rattle.lock_manager.specs.declared.request.Note.TheVariants.{Answer}
pub use Rattle.lock_manager.specs.declared.request.ProcState.{ProcState}
pub use Rattle.lock_manager.specs.declared.request.ProcState.TheVariants.{Ended, Live, Unborn, Waiting}
pub use Rattle.lock_manager.specs.declared.request.Reply.{Reply}
pub use Rattle.lock_manager.specs.declared.request.Request.{Request}
pub use Rattle.lock_manager.specs.declared.request.Request.TheVariants.{Bail, CloseFd, Dup, DupTo, Enter, Exit, Flock, Fork, Kill, Leave, Lk, OpenFile, Resize, Seek, Signal}
pub use Rattle.lock_manager.specs.declared.request.Rules.{Rules}
pub use Rattle.lock_manager.specs.declared.seat.Seat.{Seat}
pub use Rattle.lock_manager.specs.declared.sections.Sections.{Sections}
pub use Rattle.range_core.specs.Changes.{is_covered}
pub use Rattle.range_core.specs.Facts.{MatchFact}
pub use Rattle.range_core.specs.Ranges.{Covers, HeldConflicts}
pub use Rattle.range_core.specs.Resolving.{resolution}
pub use Rattle.range_core.specs.declared.Memory.{Memory}
pub use Rattle.range_core.specs.declared.Mode.{Mode}
pub use Rattle.range_core.specs.declared.Mode.TheVariants.{Read, Write}
pub use Rattle.range_core.specs.declared.Span.{Span}
pub use Rattle.range_core.specs.declared.TheConstants.{OFFMAX}
pub use Rattle.wait_core.specs.Blocking.{AllBlocked, IsBlocked, IsBlockedByLock, IsBlockedIn, IsNextBetween, IsQueued}
pub use Rattle.wait_core.specs.Cycles.{ClosesCycle, IsFreeOfCycles}
pub use Rattle.wait_core.specs.FreeOfCycles.{FreeWhenDescriptionLocksChange, FreeWhenLocksChange}
pub use Rattle.wait_core.specs.Locks.{Locks, byte_modes_at, flock_modes_at, locks_of}
pub use Rattle.wait_core.specs.Settled.{AreBlockedElsewhere}
pub use Rattle.wait_core.specs.WaitsView.{AreTold, wait_of, without_wait_of}
unfoldable pub use Rattle.wait_core.specs.WaitsView.{waits_of}
pub use Rattle.wait_core.specs.declared.Family.TheVariants.{Bytes, Whole}
pub use Rattle.wait_core.specs.declared.Policy.{Policy}
pub use Rattle.wait_core.specs.declared.Wait.{Wait}
pub use Rattle.wait_core.specs.declared.waits.Waits.{Waits}
