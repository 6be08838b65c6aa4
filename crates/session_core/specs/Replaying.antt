-- What it is to make a run again (the words are this project's choice).
use Rattle.std.specs.Prelude.{◌≡◌, ◌≢◌, ◌+◌, ◌≤◌, ℕ, zero, suc, Option, List, [], ◌∷◌, ◌++◌, length, slice_index, MatchOption}
use Rattle.lock_manager.specs.declared.request.Rules.{Rules}
use Rattle.lock_manager.specs.declared.request.ProcState.TheVariants.{Live}
use Rattle.lock_manager.specs.ManagerView.{rules_of, processes_of, state_at}
use Rattle.session_core.specs.declared.check.Replay.{Replay}
use Rattle.session_core.specs.declared.check.Expected.{Expected}
use Rattle.session_core.specs.declared.check.Expected.TheVariants.{NoRequest, NumberAfter, Notes}
use Rattle.session_core.specs.Event.{Event}
use Rattle.session_core.specs.Runs.{events_of}
use Rattle.session_core.specs.Draining.{IsReplayed}
use Rattle.session_core.specs.LastAnswers.{AreLastAnswers}
use Rattle.session_core.specs.Legality.{IsIllegal}

-- how many requests were taken of a process: the count of process p stands at place p - 1
abbrev pub count_of : List ℕ → ℕ → ℕ
count_of counts zero = 0
count_of counts (suc place) = slice_index counts place

-- the replay made these events: they are a run of so many processes under these rules, its manager stands for the state that
-- they leave, its counts are those of the requests that were taken, and its answers the last ones
pub record HasMade (rules : Rules) (processes : ℕ) (replay : Replay) (events : List Event) : Type 0 where
  pub some : 1 ≤ processes
  pub rules_are : rules_of replay.manager ≡ rules
  pub processes_are : processes_of replay.manager ≡ processes
  pub replayed : IsReplayed replay.manager events
  pub counts : (p : ℕ) → count_of replay.taken.items p ≡ length (events_of p events)
  pub answered : AreLastAnswers processes replay.answers events

-- the process is one of the replay's, and live
pub record IsAble (replay : Replay) (p : ℕ) : Type 0 where
  pub low : 1 ≤ p
  pub high : p ≤ processes_of replay.manager
  pub live : state_at replay.manager p ≡ Live

-- the event's process is able, and its next request has the event's number
pub record IsNextOf (replay : Replay) (event : Event) : Type 0 where
  pub able : IsAble replay event.p
  pub number : event.n ≡ count_of replay.taken.items event.p + 1

-- the event isn't the next of its process, and this is expected: no request of it, where it stands so, or the number behind this one
abbrev pub IsOutOfTurn : Replay → Event → Expected → Type 0
IsOutOfTurn replay event (NoRequest state) = (state_at replay.manager event.p ≡ state) × (state ≢ Live)
IsOutOfTurn replay event (NumberAfter taken) =
    (state_at replay.manager event.p ≡ Live) × (taken ≡ count_of replay.taken.items event.p) × (event.n ≢ taken + 1)
IsOutOfTurn replay event (Notes notes) = ⊥

-- whatever run the old replay made, the new one made it too
abbrev pub Keeps : Replay → Replay → Type 0
Keeps old new = (rules : Rules) (processes : ℕ) (events : List Event) → HasMade rules processes old events → HasMade rules processes new events

-- whatever run the old replay made, the new one made it and then the event
abbrev pub Makes : Replay → Replay → Event → Type 0
Makes old new event =
    (rules : Rules) (processes : ℕ) (events : List Event) → HasMade rules processes old events
    → HasMade rules processes new (events ++ event ∷ [])

-- whatever run the old replay made, the new one made the event too, where nothing else is expected, and else the event is illegal
abbrev pub Repeats : Replay → Replay → Event → Option Expected → Type 0
Repeats old new event answer =
    (rules : Rules) (processes : ℕ) (events : List Event) → HasMade rules processes old events
    → MatchOption answer (HasMade rules processes new (events ++ event ∷ [])) (λ expected. IsIllegal rules processes events event expected)
