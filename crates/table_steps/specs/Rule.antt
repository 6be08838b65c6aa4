-- What holds of the table between any two steps.
use Rattle.std.specs.Prelude.{◌≡◌, ℕ, ◌+◌, ◌%◌, ◌<◌, ◌≤◌, Bool, true, false, List, length}
use mathlib.Core.Option.{some}
use lib.ListN.{get_elem?}
use Rattle.lock_manager.specs.declared.request.Request.{Request}
use Rattle.lock_manager.specs.declared.request.Reply.{Reply}
use Rattle.lock_manager.specs.State as manager
use Rattle.session_core.specs.declared.TheConstants.{N_MAX}
use Rattle.session_core.specs.Event.{Event}
use Rattle.session_core.specs.Runs.{IsRun}
use Rattle.session_core.specs.Mail.{IsPrefixOf, requests_taken, answers_to}
use Rattle.atomic_table.specs.Table as tables
use Rattle.table_steps.specs.InTurn.{AreInTurn}
use Rattle.table_steps.specs.declared.setup.Setup.{Setup}
use Rattle.table_steps.specs.declared.view.View.{View}
use Rattle.table_steps.specs.declared.view.View.TheVariants.{Spent, Client, Desk, Both}
use Rattle.table_steps.specs.declared.client_view.ClientView.{ClientView}
use Rattle.table_steps.specs.declared.before.Before.{Before}
use Rattle.table_steps.specs.declared.desk_view.DeskView.{DeskView}
use Rattle.table_steps.specs.Spelling.{request_spelled, answer_spelled, RequestFits, ReplyFits}
use Rattle.table_steps.specs.Places.{Place, mark, posted, taken, answered, request, answer, words_of, word_at}
use Rattle.table_steps.specs.Views.{tally_at, new_client}

-- the cell has these words, from its first on
abbrev pub CellHas : (Place → ℕ) → (ℕ → Place) → List ℕ → Type 0
CellHas at cell words = (i x : ℕ) → get_elem? words i ≡ some x → at (cell i) ≡ x

-- the cell of the request of process p that has so many requests before it
abbrev pub request_cell : ℕ → ℕ → ℕ → ℕ → Place
request_cell depth p before i = request p (before % depth) i

-- the cell of the answer to process p that has so many answers before it
abbrev pub answer_cell : ℕ → ℕ → ℕ → ℕ → Place
answer_cell depth p before i = answer p (before % depth) i

-- these words are the first of the spelling of that request
abbrev pub BeginsRequest : List ℕ → List Request → ℕ → Type 0
BeginsRequest words requests before = (r : Request) → get_elem? requests before ≡ some r → IsPrefixOf words (request_spelled r)

-- these words are the first of the spelling of that answer
abbrev pub BeginsAnswer : List ℕ → List (ℕ × Reply × ℕ) → ℕ → Type 0
BeginsAnswer words answers before =
    (a : ℕ × Reply × ℕ) → get_elem? answers before ≡ some a → IsPrefixOf words (answer_spelled a.1 a.2)

-- of one process: its requests, those that were taken, and the words that carry them
pub record RequestsAgree (depth p : ℕ) (at : Place → ℕ) (requests : List Request) (looked : ℕ) (reading : ℕ × List ℕ)
    (c : ClientView) : Type 0 where
  pub posted_word : at (posted p) ≡ length c.posted
  pub taken_word : at (taken p) ≡ length requests
  pub in_order : IsPrefixOf requests c.posted
  pub looked_least : length requests ≤ looked
  pub looked_most : looked ≤ length c.posted
  pub fit : (before : ℕ) (r : Request) → get_elem? c.posted before ≡ some r → RequestFits r
  pub cells : (before : ℕ) (r : Request) → length requests ≤ before → get_elem? c.posted before ≡ some r
      → CellHas at (request_cell depth p before) (request_spelled r)
  pub few : length c.posted ≤ N_MAX
  pub room : length c.posted ≤ c.collected + depth
  pub filled : CellHas at (request_cell depth p (length c.posted)) c.filled
  pub filled_most : length c.filled ≤ 6
  pub reads : reading.0 ≡ p → BeginsRequest reading.1 c.posted (length requests)
  pub reads_some : reading.0 ≡ p → 0 < length reading.1 → length requests < looked

-- of one process: its answers, those that were published, and the words that carry them
pub record AnswersAgree (depth p : ℕ) (at : Place → ℕ) (journal : List Event) (published : ℕ) (filling : ℕ × List ℕ)
    (c : ClientView) : Type 0 where
  pub answered_word : at (answered p) ≡ published
  pub collected_most : c.collected ≤ c.known
  pub known_most : c.known ≤ published
  pub published_most : published ≤ length (answers_to p journal)
  pub in_turn : AreInTurn p journal
  pub fit : (before : ℕ) (a : ℕ × Reply × ℕ) → before < published → get_elem? (answers_to p journal) before ≡ some a → ReplyFits a.1
  pub cells : (before : ℕ) (a : ℕ × Reply × ℕ) → c.collected ≤ before → before < published
      → get_elem? (answers_to p journal) before ≡ some a
      → CellHas at (answer_cell depth p before) (answer_spelled a.1 a.2)
  pub seen : IsPrefixOf c.seen journal
  pub seen_known : c.known ≤ length (answers_to p c.seen)
  pub reads : BeginsAnswer c.read (answers_to p journal) c.collected
  pub reads_known : 0 < length c.read → c.collected < c.known
  pub filled : filling.0 ≡ p → CellHas at (answer_cell depth p published) filling.1
  pub fills : filling.0 ≡ p → BeginsAnswer filling.1 (answers_to p journal) published
  pub filled_most : filling.0 ≡ p → length filling.1 ≤ 6
  pub fills_some : filling.0 ≡ p → published < length (answers_to p journal)

-- of one process: what is known of the end
pub record ClosingAgrees (p : ℕ) (journal : List Event) (published : ℕ) (closed : Bool) (c : ClientView) : Type 0 where
  pub all_published : closed ≡ true → published ≡ length (answers_to p journal)
  pub over_closed : c.over ≡ true → closed ≡ true
  pub drained_over : c.drained ≡ true → c.over ≡ true
  pub drained_all : c.drained ≡ true → c.collected ≡ length (answers_to p journal)

-- of one process: the words, the desk's view and the client's
pub record Agrees (depth p : ℕ) (at : Place → ℕ) (desk : DeskView) (c : ClientView) : Type 0 where
  pub requests : RequestsAgree depth p at (requests_taken p desk.journal) (tally_at desk.tallies p).looked desk.reading c
  pub answers : AnswersAgree depth p at desk.journal (tally_at desk.tallies p).published desk.filling c
  pub closing : ClosingAgrees p desk.journal (tally_at desk.tallies p).published desk.closed c

-- the seat has the view of its client, one of so many that were made
pub record ClientStands (setup : Setup) (made : ℕ) (clients : ℕ → ClientView) (seats : ℕ → ℕ) (id : ℕ) (c : ClientView)
    : Type 0 where
  pub seat_is : id ≡ seats c.process
  pub view_is : c ≡ clients c.process
  pub told : c.setup ≡ setup
  pub least : 1 ≤ c.process
  pub most : c.process ≤ made

-- the seat has the view of the desk
pub record DeskStands (desk : DeskView) (desk_seat id : ℕ) (d : DeskView) : Type 0 where
  pub seat_is : id ≡ desk_seat
  pub view_is : d ≡ desk

-- once they have met, the desk and the client know no less of each other than before
pub record Outgrows (d : DeskView) (c : ClientView) (before : Before) : Type 0 where
  pub looked : before.looked ≤ (tally_at d.tallies c.process).looked
  pub known : before.known ≤ c.known
  pub seen : IsPrefixOf before.seen c.seen

-- the seat has a view of the desk, of a client, of both or of nobody
abbrev pub Stands : DeskView → (ℕ → ClientView) → ℕ → (ℕ → ℕ) → ℕ → View → Type 0
Stands desk clients desk_seat seats id Spent = Unit {0}
Stands desk clients desk_seat seats id (Client c) = ClientStands desk.setup desk.made clients seats id c
Stands desk clients desk_seat seats id (Desk d) = DeskStands desk desk_seat id d
Stands desk clients desk_seat seats id (Both d c before) =
    DeskStands desk desk_seat id d × ClientStands desk.setup desk.made clients seats id c × Outgrows d c before

-- the closing mark: 1 exactly where the desk is closed
abbrev pub mark_of : Bool → ℕ
mark_of true = 1
mark_of false = 0

-- there are one desk and one client of each process, whose views the seats have. The journal is a run, and of each process
-- the words and the views agree
pub record Kept (setup : Setup) (s : tables.State (Unit {0}) View) : Type 0 where
  pub desk : DeskView
  pub clients : ℕ → ClientView
  pub desk_seat : ℕ
  pub seats : ℕ → ℕ
  pub stands : (id : ℕ) (v : View) → get_elem? s.views id ≡ some v → Stands desk clients desk_seat seats id v
  pub told : desk.setup ≡ setup
  pub made_most : desk.made ≤ setup.processes
  pub unmade : (p : ℕ) → desk.made < p → clients p ≡ new_client setup p
  pub wide : length s.words ≡ words_of setup.processes setup.depth
  pub deep : 1 ≤ setup.depth
  pub run : ∥ ((T : manager.State) × IsRun setup.rules setup.processes desk.journal T) ∥₁
  pub marked : word_at setup.processes setup.depth s.words mark ≡ mark_of desk.closed
  pub each : (p : ℕ) → 1 ≤ p → p ≤ setup.processes
      → Agrees setup.depth p (word_at setup.processes setup.depth s.words) desk (clients p)
