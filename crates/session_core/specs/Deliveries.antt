-- What a sequencer does with arrivals (the words are this project's choice).
use Rattle.std.specs.Prelude.{◌≡◌, ℕ, List, [], ◌∷◌, ◌++◌}
use Rattle.lock_manager.specs.declared.request.Rules.{Rules}
use Rattle.lock_manager.specs.declared.request.Request.{Request}
use Rattle.lock_manager.specs.State.{State}
use Rattle.lock_manager.specs.ManagerView.{StandsFor, rules_of, processes_of}
use Rattle.session_core.specs.declared.sequencer.Sequencer.{Sequencer}
use Rattle.session_core.specs.Event.{Event}
use Rattle.session_core.specs.Mail.{requests_sent}
use Rattle.session_core.specs.Draining.{TakesMail, IsDrain}
use Rattle.session_core.specs.SequencerView.{manager_in, sent_by, sent_with, HasTold, HasNoMail, SameSequencer}

-- behind this journal so much more was taken, of all that was sent by then, and nothing else changed
pub record TakesOf (old new : Sequencer) (all : ℕ → List Request) (journal more : List Event) : Type 0 where
  pub told : HasTold new (journal ++ more)
  pub sent : (p : ℕ) → sent_by new (journal ++ more) p ≡ all p
  pub rules : rules_of (manager_in new) ≡ rules_of (manager_in old)
  pub processes : processes_of (manager_in new) ≡ processes_of (manager_in old)
  pub goes_on : (S : State) → StandsFor (manager_in old) S
      → (T : State) × TakesMail (rules_of (manager_in old)) (processes_of (manager_in old)) all journal S more T
      × StandsFor (manager_in new) T

-- what was taken so far, of all that was sent by then, stands behind the text that there was, whatever was taken before
pub record TellsTaken (old new : Sequencer) (all : List Event → ℕ → List Request) (before after : List Event) : Type 0 where
  pub more : List Event
  pub is : after ≡ before ++ more
  pub takes : (journal : List Event) → HasTold old journal → TakesOf old new (all journal) journal more

-- nothing was sent, and what was taken so far stands behind the text
abbrev pub TellsSome : Sequencer → Sequencer → List Event → List Event → Type 0
TellsSome old new before after = TellsTaken old new (sent_by old) before after

-- this request of this process came, and nothing else was sent; what was taken so far stands behind the text
abbrev pub Delivers : Sequencer → Sequencer → ℕ → Request → List Event → List Event → Type 0
Delivers old new p request before after = TellsTaken old new (λ journal. sent_with old journal p request) before after

-- all is as it was, the text too
abbrev pub DeliversNothing : Sequencer → Sequencer → List Event → List Event → Type 0
DeliversNothing old new before after = SameSequencer old new × (after ≡ before)

-- these arrivals were run, under these rules and with so many processes, and made this journal; nothing more can be taken
pub record HasRun (rules : Rules) (processes : ℕ) (arrivals : List (ℕ × Request)) (sequencer : Sequencer) (journal : List Event) : Type 0 where
  pub rules_are : rules_of (manager_in sequencer) ≡ rules
  pub processes_are : processes_of (manager_in sequencer) ≡ processes
  pub told : HasTold sequencer journal
  pub sent : (p : ℕ) → sent_by sequencer journal p ≡ requests_sent p arrivals
  pub state : State
  pub drained : IsDrain rules processes arrivals journal state
  pub stands : StandsFor (manager_in sequencer) state
  pub rest : HasNoMail sequencer

-- what was run, was run with one arrival more, and what that told stands behind what there was
pub record RunsOn (old new : Sequencer) (before after : List Event) (p : ℕ) (request : Request) : Type 0 where
  pub more : List Event
  pub is : after ≡ before ++ more
  pub runs : (rules : Rules) (processes : ℕ) (arrivals : List (ℕ × Request)) (journal : List Event) → HasRun rules processes arrivals old journal
      → HasRun rules processes (arrivals ++ (p, request) ∷ []) new (journal ++ more)
