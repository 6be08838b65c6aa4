-- What each kind of step tells its caller.
use Rattle.std.specs.Prelude.{◌≡◌, ◌⊎◌, ℕ, ◌+◌, ◌<◌, ◌≤◌, ◌==◌, ◌||◌, ◌&&◌, true, List, [], ◌∷◌, ◌++◌, length}
use mathlib.Core.Option.{some}
use lib.ListN.{get_elem?}
use Rattle.lock_manager.specs.declared.request.Reply.{Reply}
use Rattle.lock_manager.specs.State as manager
use Rattle.session_core.specs.Runs.{IsRun}
use Rattle.lock_manager.specs.declared.request.Request.{Request}
use Rattle.session_core.specs.declared.TheConstants.{N_MAX}
use Rattle.session_core.specs.Event.{Event}
use Rattle.session_core.specs.Mail.{IsPrefixOf, requests_taken, answers_to}
use Rattle.atomic_table.specs.Table.{Step, Me}
use Rattle.table_steps.specs.InTurn.{AreInTurn}
use Rattle.table_steps.specs.declared.setup.Setup.{Setup}
use Rattle.table_steps.specs.declared.view.View.{View}
use Rattle.table_steps.specs.declared.view.View.TheVariants.{Spent, Client, Desk, Both}
use Rattle.table_steps.specs.declared.client_view.ClientView.{ClientView}
use Rattle.table_steps.specs.declared.before.Before.{Before}
use Rattle.table_steps.specs.declared.desk_view.DeskView.{DeskView}
use Rattle.table_steps.specs.Spelling.{request_spelled, answer_spelled, RequestFits, ReplyFits}
use Rattle.table_steps.specs.Views.{new_client, tally_at, with_tally}
use Rattle.table_steps.specs.Rule.{Outgrows}

-- a seat: its view, and the slots that it holds, which are none
abbrev pub Seated : Type 0
Seated = Me (Unit {0}) View

-- what a step tells of the seat before it, of the number that it loads or stores, and of the seat after it
abbrev pub Told : Type 1
Told = Step (Unit {0}) → Seated → ℕ → Seated → Type 0

-- the seat is a client's and has this view, and no slot
abbrev pub HasClient : ClientView → Seated → Type 0
HasClient c me = me ≡ (Client c, [])

-- the seat is the desk's and has this view, and no slot
abbrev pub HasDesk : DeskView → Seated → Type 0
HasDesk d me = me ≡ (Desk d, [])

-- the seat is the desk's and a client's, between their joining and their parting, and has no slot
abbrev pub HasBoth : DeskView → ClientView → Before → Seated → Type 0
HasBoth d c before me = me ≡ (Both d c before, [])

-- the client, with one more word filled in
abbrev pub client_filled : ClientView → ℕ → ClientView
client_filled c word = record c { filled = c.filled ++ word ∷ [] }

-- the client, with one more request posted
abbrev pub client_posted : ClientView → Request → ClientView
client_posted c r = record c { posted = c.posted ++ r ∷ []; filled = [] }

-- a word of the cell of the next request was stored
abbrev pub Fills : Told
Fills step me word after = (c : ClientView) → HasClient c me → HasClient (client_filled c word) after

-- the number of posted requests was stored: the request that the filled words spell is posted
abbrev pub Posts : Told
Posts step me number after =
    (c : ClientView) → HasClient c me
    → (r : Request) × RequestFits r × (request_spelled r ≡ c.filled) × HasClient (client_posted c r) after

-- the desk, which looked at a process and found so many requests posted
abbrev pub desk_looked : DeskView → ℕ → ℕ → DeskView
desk_looked d p found =
    let t = tally_at d.tallies p in
    record d { tallies = with_tally d.tallies p (record t { looked = found; probes = t.probes + 1 }); reading = (p, []) }

-- the number of posted requests of the process was loaded, whose word has its number
abbrev pub Looks : Told
Looks step me found after =
    (d : DeskView) → HasDesk d me → HasDesk (desk_looked d step.word found) after
    × ((tally_at d.tallies step.word).looked ≤ found) × (length (requests_taken step.word d.journal) ≤ found) × (found ≤ N_MAX)

-- the desk, which read one more word
abbrev pub desk_read : DeskView → ℕ → DeskView
desk_read d word = record d { reading = (d.reading.0, d.reading.1 ++ word ∷ []) }

-- a word of the next untaken request was loaded
abbrev pub Reads : Told
Reads step me found after =
    (d : DeskView) → HasDesk d me → HasDesk (desk_read d found) after
    × ((r : Request) × RequestFits r × IsPrefixOf (d.reading.1 ++ found ∷ []) (request_spelled r))

-- the desk, which took one request
abbrev pub desk_took : DeskView → Event → DeskView
desk_took d event = record d { journal = d.journal ++ event ∷ []; reading = (0, []) }

-- the number of taken requests was stored: this event was taken
abbrev pub Takes : Event → Told
Takes event step me number after = (d : DeskView) → HasDesk d me → HasDesk (desk_took d event) after

-- the client, which found so many answers published, when this was the journal
abbrev pub client_found : ClientView → List Event → ℕ → ClientView
client_found c journal found =
    record c { known = found; seen = journal; drained = c.drained || (c.over && (found == c.collected)); looks = c.looks + 1 }

-- what the journal is to a client that saw it
pub record IsSeen (c : ClientView) (journal : List Event) : Type 0 where
  pub run : ∥ ((T : manager.State) × IsRun c.setup.rules c.setup.processes journal T) ∥₁
  pub begins : IsPrefixOf c.seen journal
  pub taken_in_order : IsPrefixOf (requests_taken c.process journal) c.posted
  pub in_turn : AreInTurn c.process journal

-- the number of published answers was loaded
abbrev pub Finds : Told
Finds step me found after =
    (c : ClientView) → HasClient c me
    → (journal : List Event) × HasClient (client_found c journal found) after × IsSeen c journal
    × (c.known ≤ found) × (found ≤ length (answers_to c.process journal))
    × (c.over ≡ true → found ≡ length (answers_to c.process journal))
    × (c.collected ≤ c.known)

-- the client, which read one more word
abbrev pub client_read : ClientView → ℕ → ClientView
client_read c word = record c { read = c.read ++ word ∷ [] }

-- a word of the next answer was loaded, which is not its last
abbrev pub Gets : Told
Gets step me found after = (c : ClientView) → HasClient c me → HasClient (client_read c found) after

-- the client, which collected one more answer
abbrev pub client_collected : ClientView → ClientView
client_collected c = record c { collected = c.collected + 1; read = [] }

-- the last word of the next answer was loaded: the words that were read spell it, with its place
abbrev pub Collects : Told
Collects step me found after =
    (c : ClientView) → HasClient c me
    → HasClient (client_collected c) after
    × ((a : ℕ × Reply × ℕ) × (get_elem? (answers_to c.process c.seen) c.collected ≡ some a)
    × ReplyFits a.1 × (c.read ++ found ∷ [] ≡ answer_spelled a.1 a.2))
    × (c.collected < length c.posted)

-- the client, which found the mark so
abbrev pub client_marked : ClientView → ℕ → ClientView
client_marked c found = record c { over = found == 1; marks = c.marks + 1 }

-- the mark was loaded
abbrev pub Marks : Told
Marks step me found after =
    (c : ClientView) → HasClient c me → HasClient (client_marked c found) after × (c.over ≡ true → found ≡ 1)

-- the desk, with one more word filled in of the next answer to process p
abbrev pub desk_filled : DeskView → ℕ → ℕ → DeskView
desk_filled d p word = record d { filling = (p, d.filling.1 ++ word ∷ []) }

-- a word of the cell of the next answer to process p was stored
abbrev pub FillsAnswer : ℕ → Told
FillsAnswer p step me word after = (d : DeskView) → HasDesk d me → HasDesk (desk_filled d p word) after

-- the desk, which published one more answer to process p
abbrev pub desk_told : DeskView → ℕ → DeskView
desk_told d p =
    let t = tally_at d.tallies p in
    record d { tallies = with_tally d.tallies p (record t { published = t.published + 1 }); filling = (0, []) }

-- the desk, which published one more answer to the process whose cell it filled
abbrev pub desk_published : DeskView → DeskView
desk_published d = desk_told d d.filling.0

-- the number of published answers was stored
abbrev pub Publishes : Told
Publishes step me number after = (d : DeskView) → HasDesk d me → HasDesk (desk_published d) after

-- the mark was stored
abbrev pub Closes : Told
Closes step me number after = (d : DeskView) → HasDesk d me → HasDesk (record d { closed = true }) after

-- the desk, beside which one more client was made
abbrev pub desk_before : View → View
desk_before (Desk d) = Desk (record d { made = d.made + 1 })
desk_before Spent = Spent
desk_before (Client c) = Client c
desk_before (Both d c before) = Both d c before

-- the client that is made beside this desk
abbrev pub client_made : View → View
client_made (Desk d) = Client (new_client d.setup (d.made + 1))
client_made Spent = Spent
client_made (Client c) = Spent
client_made (Both d c before) = Spent

-- the desk, which met the client
abbrev pub met_desk : DeskView → ClientView → DeskView
met_desk d c =
    let t = tally_at d.tallies c.process in
    record d { tallies = with_tally d.tallies c.process (record t { looked = length c.posted }) }

-- the client, which met the desk
abbrev pub met_client : DeskView → ClientView → ClientView
met_client d c =
    let published = (tally_at d.tallies c.process).published in
    record c { known = published; seen = d.journal; drained = c.drained || (c.over && (published == c.collected)) }

-- what they knew of each other until then
abbrev pub before_meeting : DeskView → ClientView → Before
before_meeting d c = record { looked = (tally_at d.tallies c.process).looked; known = c.known; seen = c.seen }

-- what one seat knows after two were joined
abbrev pub joined : View → View → View
joined (Desk d) (Client c) = Both (met_desk d c) (met_client d c) (before_meeting d c)
joined (Desk d) Spent = Desk d
joined (Desk d) (Desk e) = Desk d
joined (Desk d) (Both e c before) = Desk d
joined Spent v = Spent
joined (Client c) v = Client c
joined (Both d c before) v = Both d c before

-- what the desk has when the two part
abbrev pub desk_parted : View → View
desk_parted (Both d c before) = Desk d
desk_parted Spent = Spent
desk_parted (Client c) = Client c
desk_parted (Desk d) = Desk d

-- what the client has when the two part
abbrev pub client_parted : View → View
client_parted (Both d c before) = Client c
client_parted Spent = Spent
client_parted (Client c) = Spent
client_parted (Desk d) = Spent

-- six words spell the next answer in what the client saw
abbrev pub IsNextAnswer : ClientView → List ℕ → Type 0
IsNextAnswer c words =
    (a : ℕ × Reply × ℕ) × (get_elem? (answers_to c.process c.seen) c.collected ≡ some a)
    × ReplyFits a.1 × (words ≡ answer_spelled a.1 a.2)

-- the journal is a run under these rules and with so many processes
abbrev pub IsRunOf : Setup → List Event → Type 0
IsRunOf setup journal = ∥ ((T : manager.State) × IsRun setup.rules setup.processes journal T) ∥₁

-- a joined seat loads a word, which changes nothing: what the desk has taken of the client is a prefix of what it posted, a drained
-- client has collected every answer, and neither knows less of the other than before they met
abbrev pub Compares : Told
Compares step me found after =
    (after ≡ me)
    × ((d : DeskView) (c : ClientView) (before : Before) → me ≡ (Both d c before, [])
    → IsPrefixOf (requests_taken c.process d.journal) c.posted
    × (c.drained ≡ true → c.collected ≡ length (answers_to c.process d.journal))
    × Outgrows d c before)

-- six words spell a request
abbrev pub AreRequestWords : List ℕ → Type 0
AreRequestWords words = (r : Request) × RequestFits r × (words ≡ request_spelled r)

-- the next answer to publish to process p is this
abbrev pub IsNextToTell : DeskView → ℕ → ℕ × Reply × ℕ → Type 0
IsNextToTell d p a = get_elem? (answers_to p d.journal) (tally_at d.tallies p).published ≡ some a

-- these words begin the spelling of some request
abbrev pub BeginsSomeRequest : List ℕ → Type 0
BeginsSomeRequest words = (r : Request) × RequestFits r × IsPrefixOf words (request_spelled r)

-- the client found so many answers published: it saw the journal, which answers no fewer, and just so many where it found the desk closed
pub record IsFound (c : ClientView) (found : ℕ) (now : ClientView) : Type 0 where
  pub journal : List Event
  pub view : now ≡ client_found c journal found
  pub seen : IsSeen c journal
  pub grows : c.known ≤ found
  pub most : found ≤ length (answers_to c.process journal)
  pub all : c.over ≡ true → found ≡ length (answers_to c.process journal)
  pub collected_most : c.collected ≤ c.known

-- the desk fills in the cell of the next answer to process p, and this word goes on with its spelling
pub record GoesOn (d : DeskView) (p word : ℕ) : Type 0 where
  pub answer : ℕ × Reply × ℕ
  pub next : IsNextToTell d p answer
  pub own : (d.filling.0 ≡ p) ⊎ (d.filling.1 ≡ [])
  pub begins : IsPrefixOf (d.filling.1 ++ word ∷ []) (answer_spelled answer.1 answer.2)

-- the desk filled in the cell of the next answer to process p
pub record IsFilled (d : DeskView) (p : ℕ) : Type 0 where
  pub answer : ℕ × Reply × ℕ
  pub next : IsNextToTell d p answer
  pub own : d.filling.0 ≡ p
  pub fits : ReplyFits answer.1
  pub spelled : d.filling.1 ≡ answer_spelled answer.1 answer.2

-- the desk and a client that met: what was taken of the client is a prefix of what it posted, a drained client has collected every answer,
-- and neither knows less of the other than before
pub record HaveMet (d : DeskView) (c : ClientView) (before : Before) : Type 0 where
  pub taken_in_order : IsPrefixOf (requests_taken c.process d.journal) c.posted
  pub drained_all : c.drained ≡ true → c.collected ≡ length (answers_to c.process d.journal)
  pub outgrows : Outgrows d c before
