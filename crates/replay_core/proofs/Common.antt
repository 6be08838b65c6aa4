-- The names that most proofs of this crate cite, passed on from one place. Declares nothing.
pub use Rattle.std.proofs.Common.{All, Err, List, None, Ok, Option, Result, Some, [], ap, append-nil, append_assoc, arith, drop, false, flat_map, inl, inr, is_some, length, length-append, map, refl, rules, slice_get, subst, suc, sym, take, take-append-drop, true, vec_items, vec_len, zero, ℕ, ◌&&◌, ◌++◌, ◌+◌, ◌-◌, ◌<◌, ◌==◌, ◌∙◌, ◌∷◌, ◌≡◌, ◌≤◌}
pub use Rattle.std.proofs.lemmas.Grind.{common_steps}
pub use Rattle.std.proofs.lemmas.List.{length-map, map-append, nil_from_length}
pub use Rattle.std.proofs.lemmas.Option.{slice_get_within}
pub use Rattle.std.specs.Io.KnownBytes.{Appends}
pub use Rattle.std.specs.Vec.Iter.{into_iter_items}
unfoldable pub use Rattle.call_table.specs.Desks.{desk_view}
unfoldable pub use Rattle.call_table.specs.Shown.{client_view}
pub use Rattle.call_table.specs.declared.client.Client.{Client}
pub use Rattle.fd_table.specs.Descriptors.{process_limit}
unfoldable pub use Rattle.lock_manager.specs.ManagerView.{processes_of, state_at}
pub use Rattle.lock_manager.specs.declared.request.Reply.{Reply}
pub use Rattle.lock_manager.specs.declared.request.Request.{Request}
pub use Rattle.lock_manager.specs.declared.request.Rules.{Rules}
pub use Rattle.replay_core.specs.Callers.{AreOf, SameCaller}
pub use Rattle.replay_core.specs.Checks.{LinesCome, Verdict, journal_limit}
unfoldable pub use Rattle.replay_core.specs.Checks.{HasChecked}
pub use Rattle.replay_core.specs.Gathering.{AreGathered, AreToldOf}
pub use Rattle.replay_core.specs.Places.{IsFor, started}
pub use Rattle.replay_core.specs.declared.caller.Caller.{Caller}
pub use Rattle.replay_core.specs.declared.checking.Finding.{Finding}
pub use Rattle.script_core.specs.EntryText.{entry_line}
pub use Rattle.script_core.specs.JournalReading.{journal_start}
pub use Rattle.script_core.specs.Output.{processes_in}
pub use Rattle.script_core.specs.ReportText.{AreCounts, IsReport}
pub use Rattle.script_core.specs.ScriptText.{Meaning}
pub use Rattle.script_core.specs.Words.{lines_of}
pub use Rattle.script_core.specs.declared.TheConstants.{SCRIPT_MAX}
pub use Rattle.script_core.specs.declared.script.Cause.{Cause}
pub use Rattle.session_core.specs.Event.{Event}
pub use Rattle.session_core.specs.Mail.{IsPrefixOf, answers_to, requests_sent, requests_taken}
pub use Rattle.session_core.specs.Runs.{IsRun}
unfoldable pub use Rattle.session_core.specs.SessionView.{events_in, manager_of}
pub use Rattle.table_steps.specs.declared.client_view.ClientView.{ClientView}
