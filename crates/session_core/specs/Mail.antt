-- What a process sent, what was taken of it, and what it was answered (the words are this project's choice).
use Rattle.std.specs.Prelude.{◌≡◌, ℕ, ◌+◌, ◌==◌, ◌&&◌, if◌then◌else◌, Option, Some, None, List, [], ◌∷◌, ◌++◌, map, filter, find, option_map}
use Rattle.lock_manager.specs.declared.request.Request.{Request}
use Rattle.lock_manager.specs.declared.request.Reply.{Reply}
use Rattle.lock_manager.specs.declared.request.Note.{Note}
use Rattle.lock_manager.specs.declared.request.Note.TheVariants.{Answer, Waits}
use Rattle.session_core.specs.Event.{Event}
pub use Rattle.session_core.specs.Runs.{events_of}

-- the second list begins with the first
abbrev pub IsPrefixOf : {X : Type 0} → List X → List X → Type 0
IsPrefixOf {X} xs ys = (rest : List X) × (ys ≡ xs ++ rest)

-- the requests of one process among the arrivals, in order
abbrev pub requests_sent : ℕ → List (ℕ × Request) → List Request
requests_sent p arrivals = map (λ arrival. arrival.1) (filter (λ arrival. arrival.0 == p) arrivals)

-- the requests of one process that were taken, in order
abbrev pub requests_taken : ℕ → List Event → List Request
requests_taken p events = map (λ event. event.request) (events_of p events)

-- the answers to one process among the notes of the event at this place: number, reply and place (that it waits is no answer)
abbrev pub answers_in : ℕ → ℕ → List Note → List (ℕ × Reply × ℕ)
answers_in p place [] = []
answers_in p place (Answer q n reply ∷ notes) =
    if q == p then (n, reply, place) ∷ answers_in p place notes else answers_in p place notes
answers_in p place (Waits q n ∷ notes) = answers_in p place notes

-- the answers to one process in these events, of which the first stands at this place
abbrev pub answers_from : ℕ → ℕ → List Event → List (ℕ × Reply × ℕ)
answers_from p place [] = []
answers_from p place (event ∷ events) = answers_in p place event.notes ++ answers_from p (place + 1) events

-- the answers to one process, in order: the number of the request, the reply, and the place in the journal, from 1
abbrev pub answers_to : ℕ → List Event → List (ℕ × Reply × ℕ)
answers_to p events = answers_from p 1 events

-- the reply with this number among the answers, if there is one
abbrev pub reply_among : ℕ → List (ℕ × Reply × ℕ) → Option Reply
reply_among n answers = option_map (λ answer. answer.1) (find (λ answer. answer.0 == n) answers)

-- the reply to the request number n of the process, if it was answered
abbrev pub reply_to : ℕ → ℕ → List Event → Option Reply
reply_to p n events = reply_among n (answers_to p events)

-- the reply to the request number n of the process, if the note is that answer
abbrev pub reply_of : ℕ → ℕ → Note → Option Reply
reply_of p n (Answer q m reply) = if (q == p) && (m == n) then Some reply else None
reply_of p n (Waits q m) = None
