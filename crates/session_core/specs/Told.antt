-- What is kept of the events that were taken (the words are this project's choice).
use Rattle.std.specs.Prelude.{◌≡◌, ℕ, ◌+◌, List, [], ◌∷◌, ◌++◌, length}
use Rattle.lock_manager.specs.declared.request.Request.{Request}
use Rattle.lock_manager.specs.declared.manager.Manager.{Manager}
use Rattle.lock_manager.specs.State.{State}
use Rattle.lock_manager.specs.ManagerView.{StandsFor, IsSafeManager, rules_of, processes_of}
use Rattle.session_core.specs.declared.mailbox.Mailbox.{Mailbox}
use Rattle.session_core.specs.declared.answers.LastAnswers.{LastAnswers}
use Rattle.session_core.specs.Event.{Event}
use Rattle.session_core.specs.Runs.{IsStep, events_of}
use Rattle.session_core.specs.Mailboxes.{IsMailKept, mail_sent}
use Rattle.session_core.specs.LastAnswers.{AreLastAnswers}
use Rattle.session_core.specs.Headline.{Holds}

-- the events were taken out of these mailboxes by this manager, and these are the last answers: what holds of a session holds
pub record AreTold (manager : Manager) (mailboxes : List Mailbox) (answers : LastAnswers) (journal : List Event) : Type 0 where
  pub mail : IsMailKept (processes_of manager) mailboxes journal
  pub answered : AreLastAnswers (processes_of manager) answers journal
  pub holds : ∥ Holds manager (mail_sent mailboxes journal) journal ∥₁

-- behind these events the manager served this request of the process, by the step of the event, and these are the last answers then
pub record IsServed (old new : Manager) (answers : LastAnswers) (p : ℕ) (request : Request) (journal : List Event) (event : Event) : Type 0 where
  pub process : event.p ≡ p
  pub request_is : event.request ≡ request
  pub number : event.n ≡ length (events_of p journal) + 1
  pub step : (S : State) → StandsFor old S → (T : State) × IsStep (rules_of old) (processes_of old) S event T × StandsFor new T
  pub rules : rules_of new ≡ rules_of old
  pub processes : processes_of new ≡ processes_of old
  pub safe : IsSafeManager new
  pub answered : AreLastAnswers (processes_of new) answers (journal ++ event ∷ [])
