-- What a client of a table has collected (the words are this project's choice).
use Rattle.std.specs.Prelude.{◌≡◌, ℕ, List, length, take}
use Rattle.lock_manager.specs.declared.request.Reply.{Reply}
use Rattle.session_core.specs.Mail.{answers_to}
use Rattle.table_steps.specs.declared.client_view.ClientView.{ClientView}

-- these are all that the client collected, in order: the first answers to it in the journal that it saw
pub record AreCollected (c : ClientView) (answers : List (ℕ × Reply × ℕ)) : Type 0 where
  pub in_order : answers ≡ take (length answers) (answers_to c.process c.seen)
  pub all : length answers ≡ c.collected
