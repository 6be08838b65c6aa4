-- What contracts see of the words and of the seats.
use Rattle.std.specs.Prelude.{◌≡◌}
use Rattle.atomic_table.specs.Seated.{TableId}
use Rattle.table_steps.specs.declared.setup.Setup.{Setup}
use Rattle.table_steps.specs.declared.before.Before.{Before}
use Rattle.table_steps.specs.declared.client_view.ClientView.{ClientView}
use Rattle.table_steps.specs.declared.desk_view.DeskView.{DeskView}
use Rattle.table_steps.specs.declared.words.Words.{Words}
use Rattle.table_steps.specs.declared.client_seat.ClientSeat.{ClientSeat}
use Rattle.table_steps.specs.declared.desk_seat.DeskSeat.{DeskSeat}
use Rattle.table_steps.specs.declared.joined_seat.JoinedSeat.{JoinedSeat}
use Rattle.table_steps.specs.Views.{client_of, desk_of, before_of, new_desk}

-- which table the words are of
unfoldable pub words_table : Words → TableId
words_table words = words.table.shared.table_id

-- what it was made with
unfoldable pub words_setup : Words → Setup
words_setup words = words.setup

-- which table a client's seat is at
unfoldable pub client_at : ClientSeat → TableId
client_at client = client.seat.table_id

-- what it knows
unfoldable pub client_knows : ClientSeat → ClientView
client_knows client = client_of client.seat.me.0

-- which table the desk's seat is at
unfoldable pub desk_at : DeskSeat → TableId
desk_at desk = desk.seat.table_id

-- what it knows
unfoldable pub desk_knows : DeskSeat → DeskView
desk_knows desk = desk_of desk.seat.me.0

-- which table a joined seat is at
unfoldable pub joined_at : JoinedSeat → TableId
joined_at joined = joined.seat.table_id

-- what the desk knows in a joined seat
unfoldable pub joined_desk : JoinedSeat → DeskView
joined_desk joined = desk_of joined.seat.me.0

-- what the client knows in it
unfoldable pub joined_client : JoinedSeat → ClientView
joined_client joined = client_of joined.seat.me.0

-- what the two knew of each other before they met
unfoldable pub joined_before : JoinedSeat → Before
joined_before joined = before_of joined.seat.me.0

-- the words of a table that is made with this, and the seat of its desk, which knows nothing yet
pub record IsNewTable (setup : Setup) (words : Words) (desk : DeskSeat) : Type 0 where
  pub setup_is : words_setup words ≡ setup
  pub table : desk_at desk ≡ words_table words
  pub view : desk_knows desk ≡ new_desk setup
