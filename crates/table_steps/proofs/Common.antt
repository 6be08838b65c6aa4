-- The names that most proofs of this crate cite, passed on from one place. Declares nothing.
pub use Rattle.std.proofs.Common.{Bool, List, [], ap, append-nil, append_assoc, arith, eq-eqb, false, get_or, length, length-append, length-set, refl, rules, set, subst, suc, sym, true, zero, ℕ, ⊎_elim, ◌%◌, ◌++◌, ◌+◌, ◌<◌, ◌∙◌, ◌∷◌, ◌≡◌, ◌≢◌, ◌≤◌, ◌⊎◌}
pub use Rattle.std.proofs.Math.Nat.{mod-lt}
pub use Rattle.std.proofs.lemmas.Grind.{common_steps}
pub use Rattle.std.proofs.lemmas.List.{set-get_or}
pub use Rattle.atomic_table.specs.Table.{Allows, State, Step, keeps}
pub use Rattle.lock_manager.specs.declared.request.Reply.{Reply}
pub use Rattle.lock_manager.specs.declared.request.Request.{Request}
pub use Rattle.session_core.specs.Event.{Event}
pub use Rattle.session_core.specs.Mail.{IsPrefixOf, answers_to, requests_taken}
pub use Rattle.session_core.specs.Runs.{IsRun}
pub use Rattle.table_steps.specs.InTurn.{AreInTurn}
pub use Rattle.table_steps.specs.Places.{IsPlace, IsProcess, Place, answer, answered, index_of, mark, owner_of, posted, request, taken, word_at, words_of}
pub use Rattle.table_steps.specs.Rule.{Agrees, AnswersAgree, CellHas, ClosingAgrees, Kept, RequestsAgree, answer_cell, mark_of, request_cell}
unfoldable pub use Rattle.table_steps.specs.Shown.{client_at, client_knows, desk_at, desk_knows, joined_at, joined_before, joined_client, joined_desk, words_setup, words_table}
pub use Rattle.table_steps.specs.Spelling.{ReplyFits, RequestFits, answer_spelled, request_spelled}
pub use Rattle.table_steps.specs.Steps.{HasClient, HasDesk, IsRunOf, Seated, before_meeting, client_posted, desk_looked, met_client, met_desk}
pub use Rattle.table_steps.specs.Views.{before_of, client_of, desk_of, new_client, tally_at}
pub use Rattle.table_steps.specs.declared.client_view.ClientView.{ClientView}
pub use Rattle.table_steps.specs.declared.desk_view.DeskView.{DeskView}
pub use Rattle.table_steps.specs.declared.setup.Setup.{Setup}
pub use Rattle.table_steps.specs.declared.tally.Tally.{Tally}
pub use Rattle.table_steps.specs.declared.view.View.{View}
pub use Rattle.table_steps.specs.declared.view.View.TheVariants.{Both, Client, Desk, Spent}
pub use mathlib.Core.Logic.{dite}
pub use mathlib.Core.Option.{none, some, some-injective, some-ne-none}
pub use native.Mathlib.Decide.{ℕ_discrete}
