-- What the seats know.
use Rattle.std.specs.Prelude.{ℕ, zero, suc, List, [], ◌∷◌, false}
use Rattle.fd_table.specs.declared.Limits.TheVariants.{Small}
use Rattle.wait_core.specs.declared.Policy.TheVariants.{Held}
use Rattle.lock_manager.specs.declared.request.Request.TheVariants.{Exit}
use Rattle.session_core.specs.Event.{Event}
use Rattle.table_steps.specs.declared.setup.Setup.{Setup}
use Rattle.table_steps.specs.declared.before.Before.{Before}
use Rattle.table_steps.specs.declared.view.View.{View}
use Rattle.table_steps.specs.declared.view.View.TheVariants.{Spent, Client, Desk, Both}
use Rattle.table_steps.specs.declared.client_view.ClientView.{ClientView}
use Rattle.table_steps.specs.declared.desk_view.DeskView.{DeskView}
use Rattle.table_steps.specs.declared.tally.Tally.{Tally}

-- of a process that the desk never looked at, and that was answered nothing
abbrev pub no_tally : Tally
no_tally = record { published = 0; looked = 0; probes = 0 }

-- the tally of one process: a place past the end counts as zeros
abbrev pub tally_at : List Tally → ℕ → Tally
tally_at [] p = no_tally
tally_at (t ∷ ts) zero = t
tally_at (t ∷ ts) (suc p) = tally_at ts p

-- the tallies, where process p has this one
abbrev pub with_tally : List Tally → ℕ → Tally → List Tally
with_tally [] zero t = t ∷ []
with_tally [] (suc p) t = no_tally ∷ with_tally [] p t
with_tally (u ∷ us) zero t = t ∷ us
with_tally (u ∷ us) (suc p) t = u ∷ with_tally us p t

-- a client of this process that did nothing yet
abbrev pub new_client : Setup → ℕ → ClientView
new_client setup p =
    record {
      setup = setup;
      process = p;
      posted = [];
      collected = 0;
      known = 0;
      seen = [];
      over = false;
      drained = false;
      filled = [];
      read = [];
      looks = 0;
      marks = 0;
    }

-- a desk that served nothing yet, beside which no client was made
abbrev pub new_desk : Setup → DeskView
new_desk setup =
    record { setup = setup; made = 0; journal = []; tallies = []; closed = false; reading = (0, []); filling = (0, []) }

-- what the first seat knows when the table is made
abbrev pub opening_view : Setup → View
opening_view setup = Desk (new_desk setup)

-- what a seat without a view counts as being told
abbrev pub no_setup : Setup
no_setup = record { processes = 0; depth = 0; rules = record { policy = Held; limits = Small } }

-- what a seat that joins nobody counts as remembering
abbrev pub no_before : Before
no_before = record { looked = 0; known = 0; seen = [] }

-- the client's view of a seat
abbrev pub client_of : View → ClientView
client_of Spent = new_client no_setup 0
client_of (Client c) = c
client_of (Desk d) = new_client no_setup 0
client_of (Both d c before) = c

-- the desk's view of a seat
abbrev pub desk_of : View → DeskView
desk_of Spent = new_desk no_setup
desk_of (Client c) = new_desk no_setup
desk_of (Desk d) = d
desk_of (Both d c before) = d

-- an event of no process
abbrev pub no_event : Event
no_event = record { p = 0; n = 0; request = Exit; notes = [] }

-- what the desk and a client of a joined seat knew before they met
abbrev pub before_of : View → Before
before_of Spent = no_before
before_of (Client c) = no_before
before_of (Desk d) = no_before
before_of (Both d c before) = before
