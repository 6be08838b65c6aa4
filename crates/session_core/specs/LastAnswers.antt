-- The last answer to each process (the words are this project's choice).
use Rattle.std.specs.Prelude.{◌≡◌, ◌≤◌, ℕ, zero, suc, Option, Some, None, List, [], ◌∷◌, length, slice_index_or}
use Rattle.lock_manager.specs.declared.request.Reply.{Reply}
use Rattle.session_core.specs.declared.answers.Answer.{Answer}
use Rattle.session_core.specs.declared.answers.LastAnswers.{LastAnswers}
use Rattle.session_core.specs.Event.{Event}
use Rattle.session_core.specs.Mail.{answers_to}

-- the last answer, where this one was known and then these were told: number, reply and place
abbrev pub latest : Option Answer → List (ℕ × Reply × ℕ) → Option Answer
latest known [] = known
latest known (answer ∷ answers) = latest (Some (record { n = answer.0; reply = answer.1 })) answers

-- for how many processes answers are taken down
abbrev pub processes_in : LastAnswers → ℕ
processes_in last = length last.answers.items

-- the last answer to a process: that to process p stands at place p - 1
abbrev pub last_of : LastAnswers → ℕ → Option Answer
last_of last zero = None
last_of last (suc place) = slice_index_or last.answers.items place None

-- of each of so many processes the last answer in the journal is taken down
pub record AreLastAnswers (processes : ℕ) (last : LastAnswers) (journal : List Event) : Type 0 where
  pub one_each : processes_in last ≡ processes
  pub latest_is : (p : ℕ) → 1 ≤ p → p ≤ processes → last_of last p ≡ latest None (answers_to p journal)
