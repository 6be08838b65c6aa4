-- The names that most proofs of this crate cite, passed on from one place. Declares nothing.
pub use Rattle.std.proofs.Common.{All, Any, Bool, Bor, Err, FitsSigned, IfSome, IsFalse, IsTrue, List, MatchBool, MatchOption, MatchResult, None, Ok, Option, Result, Some, [], add-one, ap, append-nil, append_assoc, ap₂, arith, bytes_eq, codes, cond, decimal, drop, eq-eqb, false, filter, flat_map, get_or, if◌then◌else◌, inl, inr, is_some, length, length-append, lit<, lit≤, map, nat_le, nat_lt, ne_eqb, not, option_map, option_to_list, pos, refl, rules, set, slice_get, slice_index, subst, suc, sym, take, true, w64, zero, ℕ, ℤ, ⊎_elim, ◌&&◌, ◌*◌, ◌++◌, ◌+◌, ◌-◌, ◌<◌, ◌==◌, ◌^◌, ◌||◌, ◌∙◌, ◌∷◌, ◌≡◌, ◌≢◌, ◌≤◌, ◌⊎◌}
pub use Rattle.std.proofs.Math.Seq.{drop-cons, take-append_seam}
pub use Rattle.std.proofs.lemmas.Bool.{and_from, and_parts, cases_Bool, cases_eq, cases_lt, eqb-true, false_from_ne_true, le-ltb}
pub use Rattle.std.proofs.lemmas.Bool.Decides.{nat_tests}
pub use Rattle.std.proofs.lemmas.Fmt.{decimal_digit, decimal_injective, decimal_is_IsNumeral, length-decimal-le}
pub use Rattle.std.proofs.lemmas.Grind.{common_steps}
pub use Rattle.std.proofs.lemmas.List.{length-take, length-take-le, take-append-drop, take_all}
pub use Rattle.std.proofs.lemmas.List.Elements.{All-append, All-from_recursion, All-head, All-nil, All-tail, filter-append, recursion_from_All}
pub use Rattle.std.proofs.lemmas.List.Splits.{slice_split_none}
pub use Rattle.std.proofs.lemmas.Option.{get_or_from_slice_get, same_Some, slice_get-get_or, slice_get_within}
pub use Rattle.std.proofs.lemmas.Result.{err_from_is_err_and}
pub use Rattle.std.specs.Fmt.{signed_decimal}
unfoldable pub use Rattle.std.specs.Fmt.{digits}
pub use Rattle.std.specs.List.{join_with_byte, list_all, list_any, onto_first, slice_split}
pub use Rattle.std.specs.Prelude.{option_and_then, ⊤}
pub use Rattle.fd_table.specs.Descriptors.{Descriptors, OpenFileDescription, SameDescriptors, description_limit, description_numbered, descriptor_limit, look_at, look_of, with_descriptor}
unfoldable pub use Rattle.fd_table.specs.Descriptors.{opening_descriptors}
pub use Rattle.fd_table.specs.Releases.{AreReleased, Released, nothing}
pub use Rattle.fd_table.specs.declared.Access.{Access}
pub use Rattle.fd_table.specs.declared.FdFault.{FdFault}
pub use Rattle.fd_table.specs.declared.Limits.{Limits}
pub use Rattle.fd_table.specs.declared.Limits.TheVariants.{Small}
pub use Rattle.fd_table.specs.declared.TheConstants.{FILES}
pub use Rattle.fd_table.specs.declared.tables.Look.{Look}
pub use Rattle.lock_book.specs.Changes.{Change, FlockChange, flock_mode_from, flock_mode_in, mode_from, mode_in, sets_byte, whole_file}
pub use Rattle.lock_book.specs.Conflicts.{ByteModes, FlockModes}
pub use Rattle.lock_book.specs.OneReport.{LocksHaveOneReport}
pub use Rattle.lock_book.specs.Owners.{is_same_owner}
pub use Rattle.lock_book.specs.Reports.{AreFileReports, AreFlockLocks, IsFileReport, IsFlockLine}
unfoldable pub use Rattle.lock_book.specs.Reports.{IsHeldReport}
pub use Rattle.lock_book.specs.declared.Held.{Held}
pub use Rattle.lock_book.specs.declared.Owner.{Owner}
pub use Rattle.lock_book.specs.declared.Owner.TheVariants.{Description, Process}
pub use Rattle.lock_manager.specs.Asking.{AsksFor}
pub use Rattle.lock_manager.specs.DescriptionLocks.{HasOpenOn}
pub use Rattle.lock_manager.specs.DescriptorCalls.{CloseComesTo, DupComesTo, DupToComesTo, OpenComesTo, ResizeComesTo, SeekComesTo, description_releases, flock_releases, process_releases, with_released}
pub use Rattle.lock_manager.specs.FlockCalls.{FlockModeComesTo, FlockOpComesTo, FlockTestComesTo}
pub use Rattle.lock_manager.specs.LockCommands.{CommandComesTo, DescribedComesTo, GetComesTo, ModeComesTo, SetComesTo}
pub use Rattle.lock_manager.specs.LockWords.{held_reply, is_bad_argument, is_get, lock_owner, permits, wanted_lock, wanted_mode}
pub use Rattle.lock_manager.specs.ManagerView.{StandsFor}
unfoldable pub use Rattle.lock_manager.specs.ManagerView.{processes_of, state_at}
pub use Rattle.lock_manager.specs.OneOutcome.{StepHasOneOutcome}
pub use Rattle.lock_manager.specs.Outcomes.{IsRefusal, Outcome, answered, answered_then, range_error, refused, waits_then}
pub use Rattle.lock_manager.specs.ProcessCalls.{EndComesTo, ForkComesTo, KillOtherComesTo, SignalComesTo, without_wait}
pub use Rattle.lock_manager.specs.Sections.{is_together, marked, may_enter, may_leave}
pub use Rattle.lock_manager.specs.Settling.{IsSettled, Settles, granted}
pub use Rattle.lock_manager.specs.State.{State, Visits, locks_held, with_byte_mode, with_flock_mode, with_lock, with_lock_of, with_process}
unfoldable pub use Rattle.lock_manager.specs.State.{opening_state}
pub use Rattle.lock_manager.specs.Step.{ComesTo, Step}
pub use Rattle.lock_manager.specs.declared.manager.Manager.{Manager}
pub use Rattle.lock_manager.specs.declared.request.Errno.{Errno}
pub use Rattle.lock_manager.specs.declared.request.Errno.TheVariants.{EBADF, EINVAL}
pub use Rattle.lock_manager.specs.declared.request.FlockOp.{FlockOp}
pub use Rattle.lock_manager.specs.declared.request.FlockOp.TheVariants.{Ex, Sh, Un}
pub use Rattle.lock_manager.specs.declared.request.InTheWay.{InTheWay}
pub use Rattle.lock_manager.specs.declared.request.LkCmd.{LkCmd}
pub use Rattle.lock_manager.specs.declared.request.LkCmd.TheVariants.{GetLk, OGetLk, OSetLk, OSetLkW, SetLk, SetLkW}
pub use Rattle.lock_manager.specs.declared.request.Lock.{Lock}
pub use Rattle.lock_manager.specs.declared.request.Note.{Note}
pub use Rattle.lock_manager.specs.declared.request.Note.TheVariants.{Answer}
pub use Rattle.lock_manager.specs.declared.request.ProcState.{ProcState}
pub use Rattle.lock_manager.specs.declared.request.ProcState.TheVariants.{Ended, Live, Unborn, Waiting}
pub use Rattle.lock_manager.specs.declared.request.Reply.{Reply}
pub use Rattle.lock_manager.specs.declared.request.Request.{Request}
pub use Rattle.lock_manager.specs.declared.request.Request.TheVariants.{Bail, CloseFd, Dup, DupTo, Enter, Exit, Flock, Fork, Kill, Leave, Lk, OpenFile, Resize, Seek, Signal}
pub use Rattle.lock_manager.specs.declared.request.Rules.{Rules}
pub use Rattle.lock_manager.specs.declared.request.Visit.{Visit}
pub use Rattle.range_core.specs.Ranges.{AreRuns, Covers, Modes}
pub use Rattle.range_core.specs.Resolving.{resolution}
pub use Rattle.range_core.specs.declared.Kind.{Kind}
pub use Rattle.range_core.specs.declared.Mode.{Mode}
pub use Rattle.range_core.specs.declared.RangeFault.{RangeFault}
pub use Rattle.range_core.specs.declared.Span.{Span}
pub use Rattle.range_core.specs.declared.TheConstants.{OFFMAX}
pub use Rattle.range_core.specs.declared.Whence.{Whence}
pub use Rattle.script_core.specs.Arguments.{AnyNumber, AreRefused, Argument, Command, ErrorWord, IsFirstBad, Spells, command_named, has_count}
pub use Rattle.script_core.specs.Deadlocks.{IsCycle, IsLockAgainst, IsWaitAgainst, LeadsInReport, TellsCycleIfAny, step_text}
unfoldable pub use Rattle.script_core.specs.Deadlocks.{next_step_text}
pub use Rattle.script_core.specs.EntryReading.{IsWritableEvent, IsWritableNote, IsWritableReply, NoteGives, NotesGive, ReplyGives, ReplyWordsGive, RequestIsTaken, TakenGives, ToldGives, WaitGives, entry_limit, pieces_of}
pub use Rattle.script_core.specs.EntryText.{entry_line, entry_text, note_text, reply_words, tag}
pub use Rattle.script_core.specs.Explaining.{Explains, ExplainsRun, deadlock_line, is_deadlock, loss_lines, more_text, obstacle_line, together_line, untaken_line}
unfoldable pub use Rattle.script_core.specs.Explaining.{together_lines, untaken_lines}
pub use Rattle.script_core.specs.Files.{IsWithinFiles}
pub use Rattle.script_core.specs.JournalReading.{AreLegal, HeadGives, IsBeforeReport, JournalGives, JournalLineGives, JournalReading, Legal, limits_at, processes_at, reading_behind, rules_at}
pub use Rattle.script_core.specs.JournalView.{AreLeft, TakesSaid}
pub use Rattle.script_core.specs.Losses.{byte_line, closed_by, closes, flock_line, is_alive, is_such, keeps, lost, stays_on}
unfoldable pub use Rattle.script_core.specs.Losses.{any_open, stays_open}
pub use Rattle.script_core.specs.Output.{Extends, processes_in}
pub use Rattle.script_core.specs.Reading.{AreSkipped, ArgumentsGive, ArrivalGives, CommandGives, IsOfScript, LineGives, LinesGive, ProcessGives, Reading, Reads, RequestGives, WordsGive, is_comment, is_empty, limits_of, meaning_of, reading_after}
pub use Rattle.script_core.specs.ReportReading.{AreReportLines, AreTextsOf, HasFewTaken, IsFirstDue, IsLineOf, MayBeLeftOut, first_due, line_text}
unfoldable pub use Rattle.script_core.specs.ReportReading.{lines_from}
pub use Rattle.script_core.specs.ReportText.{AreCounts, IsReport, counts_text, held_line, held_text, is_reported, line_of, process_text, reported_line, state_word, wait_line, wait_text}
unfoldable pub use Rattle.script_core.specs.ReportText.{process_lines}
pub use Rattle.script_core.specs.RequestText.{access_word, kind_word, lock_command_word, mode_word, nb_words, op_word, pid_words, request_text, request_words, visit_words, whence_word}
pub use Rattle.script_core.specs.ScriptText.{IsProcess, IsWritable, Meaning, Says}
pub use Rattle.script_core.specs.ScriptView.{reading_of}
unfoldable pub use Rattle.script_core.specs.ScriptView.{HasRead}
pub use Rattle.script_core.specs.StateText.{AreStateLines, IsChangesText, IsStateText, TellsState, marked_line}
pub use Rattle.script_core.specs.Words.{is_printable, line_limit, lines_of, script_limit, texts, without_empty_end, words_of}
pub use Rattle.script_core.specs.declared.deadlock.Link.{Link}
pub use Rattle.script_core.specs.declared.deadlock.Start.TheVariants.{Wanted}
pub use Rattle.script_core.specs.declared.entry.Taken.{Taken}
pub use Rattle.script_core.specs.declared.header.Header.{Header}
pub use Rattle.script_core.specs.declared.line.Line.{Line}
pub use Rattle.script_core.specs.declared.losses.Closing.{Closing}
pub use Rattle.script_core.specs.declared.losses.Closing.TheVariants.{AllOf, Nothing, OneOf}
pub use Rattle.script_core.specs.declared.place.JournalLine.{JournalLine}
pub use Rattle.script_core.specs.declared.place.Place.{Place}
pub use Rattle.script_core.specs.declared.place.Stage.{Stage}
pub use Rattle.script_core.specs.declared.report.ReportLine.{ReportLine}
pub use Rattle.script_core.specs.declared.report_text.ProcessLine.{ProcessLine}
pub use Rattle.script_core.specs.declared.script.Cause.{Cause}
pub use Rattle.script_core.specs.declared.script.Cause.TheVariants.{Byte, Count, TooLong, Word}
pub use Rattle.script_core.specs.declared.script.ScriptFault.{ScriptFault}
pub use Rattle.script_core.specs.declared.state_lines.StateLine.{StateLine}
pub use Rattle.script_core.specs.declared.states.States.{States}
pub use Rattle.session_core.specs.Event.{Event}
pub use Rattle.session_core.specs.Mail.{requests_sent}
pub use Rattle.session_core.specs.Runs.{AreNumbered, IsRun, IsStep, Leads, events_of}
unfoldable pub use Rattle.session_core.specs.SequencerView.{HasTold, manager_in}
pub use Rattle.wait_core.specs.Blocking.{IsBlocked}
pub use Rattle.wait_core.specs.Cycles.{IsTraditional}
pub use Rattle.wait_core.specs.Locks.{Locks}
pub use Rattle.wait_core.specs.declared.Family.{Family}
pub use Rattle.wait_core.specs.declared.Family.TheVariants.{Bytes, Whole}
pub use Rattle.wait_core.specs.declared.Policy.{Policy}
pub use Rattle.wait_core.specs.declared.Wait.{Wait}
