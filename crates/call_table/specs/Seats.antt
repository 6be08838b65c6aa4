-- What the values of the clients and of the desk say of what their seats know.
use Rattle.std.specs.Prelude.{◌≡◌, ℕ, ◌+◌, ◌≤◌, Bool, [], length}
use Rattle.lock_manager.specs.ManagerView.{rules_of, processes_of}
use Rattle.session_core.specs.declared.session.Session.{Session}
use Rattle.session_core.specs.SessionView.{manager_of, events_in, sent_of}
use Rattle.session_core.specs.Mail.{events_of, answers_to}
use Rattle.session_core.specs.declared.TheConstants.{N_MAX}
use Rattle.table_steps.specs.declared.setup.Setup.{Setup}
use Rattle.table_steps.specs.declared.client_view.ClientView.{ClientView}
use Rattle.table_steps.specs.declared.desk_view.DeskView.{DeskView}
use Rattle.table_steps.specs.Places.{IsProcess, IsSetup}
use Rattle.table_steps.specs.Views.{tally_at}

-- between two calls the seat knows this of the client of this process, with so many requests posted and answers collected
pub record SitsAs (c : ClientView) (setup : Setup) (process posted collected : ℕ) : Type 0 where
  pub process_is : c.process ≡ process
  pub posted_is : length c.posted ≡ posted
  pub collected_is : c.collected ≡ collected
  pub filled_none : c.filled ≡ []
  pub read_none : c.read ≡ []
  pub sized : IsSetup setup
  pub is_process : IsProcess setup.processes process
  pub collected_most : collected ≤ posted
  pub room : posted ≤ collected + setup.depth
  pub few : posted ≤ N_MAX

-- between two calls the seat knows this of the desk, whose journal is the session's, all answers of which are published
pub record SitsAsDesk (d : DeskView) (setup : Setup) (closed : Bool) (session : Session) : Type 0 where
  pub setup_is : d.setup ≡ setup
  pub closed_is : d.closed ≡ closed
  pub journal_is : d.journal ≡ events_in session
  pub published : (p : ℕ) → IsProcess setup.processes p
      → (tally_at d.tallies p).published ≡ length (answers_to p (events_in session))
  pub filling_none : d.filling ≡ (0, [])
  pub rules_are : rules_of (manager_of session) ≡ setup.rules
  pub processes_are : processes_of (manager_of session) ≡ setup.processes
  pub mail_none : (p : ℕ) → length (sent_of session p) ≡ length (events_of p (events_in session))
  pub sized : IsSetup setup
