-- The names that most proofs of this crate cite, passed on from one place. Declares nothing.
pub use Rattle.std.proofs.Common.{All, Any, Bool, Err, IfSome, List, MatchBool, MatchOption, MatchResult, None, Ok, Option, Result, Some, [], ap, arith, drop, eq-eqb, false, get_or, inl, inr, length, length-append, ne_eqb, refl, rules, set, slice_get, subst, suc, sym, take, true, zero, ℕ, ⊎_elim, ◌++◌, ◌+◌, ◌-◌, ◌<◌, ◌∙◌, ◌∷◌, ◌≡◌, ◌≢◌, ◌≤◌, ◌⊎◌}
pub use Rattle.std.proofs.Math.Logic.{∥∥₁_map}
pub use Rattle.std.proofs.lemmas.Bool.{cases_eq, cases_lt}
pub use Rattle.std.proofs.lemmas.Grind.{common_steps}
pub use Rattle.std.proofs.lemmas.List.{append-nil, append_assoc, length-map, length-set, map-append}
pub use Rattle.std.proofs.lemmas.List.Elements.{All-contains, All-from_recursion, Contains-append_left, Contains-append_right, filter-append}
pub use Rattle.std.proofs.lemmas.Option.{IfSome_then}
pub use Rattle.std.specs.List.{Contains}
pub use Rattle.std.specs.Prelude.{IsFalse, IsNone, IsTrue, if◌then◌else◌, ◌==◌}
pub use Rattle.fd_table.specs.Descriptors.{look_at}
pub use Rattle.fd_table.specs.declared.FdFault.{FdFault}
pub use Rattle.fd_table.specs.declared.tables.Look.{Look}
pub use Rattle.lock_book.specs.Changes.{flock_mode_in}
pub use Rattle.lock_manager.specs.DescriptorCalls.{with_released}
pub use Rattle.lock_manager.specs.FlockCalls.{FlockComesTo, FlockModeComesTo, FlockOpComesTo, FlockTestComesTo, is_same_mode, wanted_flock}
pub use Rattle.lock_manager.specs.LockCommands.{CommandComesTo, LockComesTo}
pub use Rattle.lock_manager.specs.ManagerView.{StandsFor}
unfoldable pub use Rattle.lock_manager.specs.ManagerView.{processes_of, rules_of, state_at}
pub use Rattle.lock_manager.specs.OneOutcome.{StepHasOneOutcome}
pub use Rattle.lock_manager.specs.Outcomes.{IsRefusal, Outcome, answered, answered_then, refused, waits_then}
pub use Rattle.lock_manager.specs.ProcessCalls.{KillComesTo, without_wait}
pub use Rattle.lock_manager.specs.Settling.{Settles, granted}
pub use Rattle.lock_manager.specs.State.{State, with_flock_mode, with_lock, with_process}
unfoldable pub use Rattle.lock_manager.specs.State.{opening_state}
pub use Rattle.lock_manager.specs.Step.{ComesTo, Step}
pub use Rattle.lock_manager.specs.declared.manager.Manager.{Manager}
pub use Rattle.lock_manager.specs.declared.request.Errno.{Errno}
pub use Rattle.lock_manager.specs.declared.request.Errno.TheVariants.{EINTR}
pub use Rattle.lock_manager.specs.declared.request.FlockOp.{FlockOp}
pub use Rattle.lock_manager.specs.declared.request.FlockOp.TheVariants.{Ex, Sh, Un}
pub use Rattle.lock_manager.specs.declared.request.LkCmd.{LkCmd}
pub use Rattle.lock_manager.specs.declared.request.LkCmd.TheVariants.{GetLk, OGetLk, OSetLk, OSetLkW, SetLk, SetLkW}
pub use Rattle.lock_manager.specs.declared.request.Lock.{Lock}
pub use Rattle.lock_manager.specs.declared.request.Note.{Note}
pub use Rattle.lock_manager.specs.declared.request.Note.TheVariants.{Answer, Waits}
pub use Rattle.lock_manager.specs.declared.request.ProcState.{ProcState}
pub use Rattle.lock_manager.specs.declared.request.ProcState.TheVariants.{Ended, Live, Unborn, Waiting}
pub use Rattle.lock_manager.specs.declared.request.Reply.{Reply}
pub use Rattle.lock_manager.specs.declared.request.Request.{Request}
pub use Rattle.lock_manager.specs.declared.request.Request.TheVariants.{Bail, CloseFd, Dup, DupTo, Enter, Exit, Flock, Fork, Kill, Leave, Lk, OpenFile, Resize, Seek, Signal}
pub use Rattle.lock_manager.specs.declared.request.Rules.{Rules}
pub use Rattle.range_core.specs.declared.Mode.{Mode}
pub use Rattle.range_core.specs.declared.Mode.TheVariants.{Read, Write}
unfoldable pub use Rattle.session_core.specs.Checking.{HasRepeated}
pub use Rattle.session_core.specs.Deliveries.{HasRun}
pub use Rattle.session_core.specs.Draining.{IsDrained, IsNext, next_untaken}
pub use Rattle.session_core.specs.Event.{Event}
pub use Rattle.session_core.specs.Headline.{EndsProcess, Holds, IsEnded, IsWaiting, request_limit, told_process}
pub use Rattle.session_core.specs.LastAnswers.{AreLastAnswers, last_of, latest, processes_in}
pub use Rattle.session_core.specs.Mail.{answers_from, answers_in, answers_to, reply_among, requests_sent, requests_taken}
pub use Rattle.session_core.specs.Mailboxes.{IsEmptyMailbox, IsMailKept, mail_sent, mail_taken, mail_waiting, taken_in}
pub use Rattle.session_core.specs.QueuePolicy.{IsOver, WouldWaitAs}
pub use Rattle.session_core.specs.Runs.{IsRun, IsStep, Leads, events_of}
pub use Rattle.session_core.specs.SequencerView.{HasNoMail}
unfoldable pub use Rattle.session_core.specs.SequencerView.{HasTold, manager_in, sent_by, waiting_at}
unfoldable pub use Rattle.session_core.specs.SessionView.{events_in, manager_of, sent_of}
pub use Rattle.session_core.specs.Told.{AreTold}
pub use Rattle.session_core.specs.declared.mailbox.Mailbox.{Mailbox}
pub use Rattle.wait_core.specs.Blocking.{WaitsConflict}
pub use Rattle.wait_core.specs.WaitsView.{wait_of, without_wait_of}
pub use Rattle.wait_core.specs.declared.Policy.{Policy}
pub use Rattle.wait_core.specs.declared.Policy.TheVariants.{Queue}
pub use Rattle.wait_core.specs.declared.Wait.{Wait}
