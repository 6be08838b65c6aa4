-- The names that most proofs of this crate cite, passed on from one place. Declares nothing.
pub use Rattle.std.proofs.Common.{List, Some, [], ap, arith, get_or, length, length-append, length-set, refl, rules, subst, suc, sym, take, zero, ℕ, ⊎_elim, ◌++◌, ◌+◌, ◌<◌, ◌∙◌, ◌∷◌, ◌≡◌, ◌≤◌}
pub use Rattle.std.proofs.lemmas.Grind.{common_steps}
pub use Rattle.std.proofs.lemmas.List.{length-take-le, take_all, take_more}
unfoldable pub use Rattle.call_table.specs.Desks.{desk_setup, desk_table, desk_view, session_in}
pub use Rattle.call_table.specs.Opened.{AreClients}
pub use Rattle.call_table.specs.Seats.{SitsAs}
pub use Rattle.call_table.specs.Serving.{HasAllTakenBelow, LooksUpTo}
unfoldable pub use Rattle.call_table.specs.Shown.{client_process, client_setup, client_table, client_view, hub_setup, hub_table}
pub use Rattle.lock_manager.specs.declared.request.Note.TheVariants.{Waits}
pub use Rattle.lock_manager.specs.declared.request.Reply.{Reply}
pub use Rattle.lock_manager.specs.declared.request.Request.{Request}
pub use Rattle.session_core.specs.Event.{Event}
pub use Rattle.session_core.specs.Mail.{answers_to, requests_taken}
unfoldable pub use Rattle.session_core.specs.SessionView.{events_in}
pub use Rattle.session_core.specs.declared.TheConstants.{N_MAX}
pub use Rattle.session_core.specs.declared.session.Session.{Session}
pub use Rattle.table_steps.specs.InTurn.{AreInTurn}
pub use Rattle.table_steps.specs.Places.{IsProcess}
unfoldable pub use Rattle.table_steps.specs.Shown.{client_at, client_knows, desk_at, desk_knows}
pub use Rattle.table_steps.specs.Views.{new_client, tally_at}
pub use Rattle.table_steps.specs.declared.client_view.ClientView.{ClientView}
pub use Rattle.table_steps.specs.declared.desk_view.DeskView.{DeskView}
pub use Rattle.table_steps.specs.declared.setup.Setup.{Setup}
