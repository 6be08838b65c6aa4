use Rattle.table_steps.proofs.Common.{rules, DeskView, desk_of, desk_looked, words_table, words_setup, client_at, client_knows, desk_at, desk_knows}
use Rattle.atomic_table.specs.Table as tables
use Rattle.table_steps.proofs.SeatLemmas.{desk_is, desk_own, look_as, looked_as}
use Rattle.table_steps.proofs.desk_seat.DeskSeat.look.Goals as goal

pub load-requires : goal.load-requires
unfolding words_table words_setup client_at client_knows desk_at desk_knows
load-requires c =
    let w = c.args.words.now in (
      c.requires.table,
      search rules,
      look_as w.setup _ _ _ _ w.keyed (desk_of c.args.self.now.seat.me.0) c.args.process _ c.requires.process c.args.self.now.is c.posted_index-index.ensures.value,
    )

pub invariant_of-self : goal.invariant_of-self
unfolding words_table words_setup client_at client_knows desk_at desk_knows
invariant_of-self c =
    let d : DeskView = desk_of c.args.self.now.seat.me.0 in
    record { is = desk_own (desk_looked d c.args.process c.load.result) c.load.new.seat.me (looked_as (desk_of c.args.self.now.seat.me.0) c.args.process c.posted_index-index.result c.args.words.now.table.shared.table_id.slots c.load.result c.args.self.now.seat.me c.load.new.seat.me c.posted_index-index.ensures.value c.args.self.now.is c.load.ensures.2).view }

pub returns-clause-view : goal.returns-clause-view
unfolding words_table words_setup client_at client_knows desk_at desk_knows
returns-clause-view c =
    let d : DeskView = desk_of c.args.self.now.seat.me.0 in
    desk_is (desk_looked d c.args.process c.load.result) c.load.new.seat.me (looked_as (desk_of c.args.self.now.seat.me.0) c.args.process c.posted_index-index.result c.args.words.now.table.shared.table_id.slots c.load.result c.args.self.now.seat.me c.load.new.seat.me c.posted_index-index.ensures.value c.args.self.now.is c.load.ensures.2).view

pub returns-clause-grows : goal.returns-clause-grows
unfolding words_table words_setup client_at client_knows desk_at desk_knows
returns-clause-grows c =
    (looked_as (desk_of c.args.self.now.seat.me.0) c.args.process c.posted_index-index.result c.args.words.now.table.shared.table_id.slots c.load.result c.args.self.now.seat.me c.load.new.seat.me c.posted_index-index.ensures.value c.args.self.now.is c.load.ensures.2).grows

pub returns-clause-taken : goal.returns-clause-taken
unfolding words_table words_setup client_at client_knows desk_at desk_knows
returns-clause-taken c =
    (looked_as (desk_of c.args.self.now.seat.me.0) c.args.process c.posted_index-index.result c.args.words.now.table.shared.table_id.slots c.load.result c.args.self.now.seat.me c.load.new.seat.me c.posted_index-index.ensures.value c.args.self.now.is c.load.ensures.2).taken

pub returns-clause-few : goal.returns-clause-few
unfolding words_table words_setup client_at client_knows desk_at desk_knows
returns-clause-few c =
    (looked_as (desk_of c.args.self.now.seat.me.0) c.args.process c.posted_index-index.result c.args.words.now.table.shared.table_id.slots c.load.result c.args.self.now.seat.me c.load.new.seat.me c.posted_index-index.ensures.value c.args.self.now.is c.load.ensures.2).few
