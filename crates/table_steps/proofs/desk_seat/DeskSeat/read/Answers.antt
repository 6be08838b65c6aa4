use Rattle.table_steps.proofs.Common.{rules, none, DeskView, desk_of, words_table, words_setup, client_at, client_knows, desk_at, desk_knows}
use Rattle.atomic_table.specs.Table as tables
use Rattle.table_steps.specs.Steps.{desk_read}
use Rattle.table_steps.proofs.SeatLemmas.{desk_is, desk_own, read_as}
use Rattle.table_steps.proofs.desk_seat.DeskSeat.read.Goals as goal

pub load-requires : goal.load-requires
unfolding words_table words_setup client_at client_knows desk_at desk_knows
load-requires c =
    let w = c.args.words.now in (
      c.requires.table,
      search rules,
      read_as w.setup _ _ _ _ (tables.step w.table.shared.table_id.slots c.request_index-index.result 0 0 none) w.keyed (desk_of c.args.self.now.seat.me.0) c.args.process c.args.before c.args.at _
          c.requires.process.0 c.args.self.now.is c.requires.process.1 c.requires.next.0 c.requires.next.1 c.requires.word.0 c.requires.word.1
          c.request_index-index.ensures.value,
    )

pub invariant_of-self : goal.invariant_of-self
unfolding words_table words_setup client_at client_knows desk_at desk_knows
invariant_of-self c =
    let d : DeskView = desk_of c.args.self.now.seat.me.0 in
    record { is = desk_own (desk_read d c.load.result) c.load.new.seat.me (c.load.ensures.2 d c.args.self.now.is).0 }

pub returns-clause-view : goal.returns-clause-view
unfolding words_table words_setup client_at client_knows desk_at desk_knows
returns-clause-view c =
    let d : DeskView = desk_of c.args.self.now.seat.me.0 in
    desk_is (desk_read d c.load.result) c.load.new.seat.me (c.load.ensures.2 d c.args.self.now.is).0

pub returns-clause-begins : goal.returns-clause-begins
unfolding words_table words_setup client_at client_knows desk_at desk_knows
returns-clause-begins c =
    (c.load.ensures.2 (desk_of c.args.self.now.seat.me.0) c.args.self.now.is).1
