use Rattle.table_steps.proofs.Common.{rules, none, DeskView, desk_of, words_table, words_setup, client_at, client_knows, desk_at, desk_knows}
use Rattle.atomic_table.specs.Table as tables
use Rattle.table_steps.specs.Steps.{desk_told}
use Rattle.table_steps.proofs.SeatLemmas.{desk_is, desk_own, publish_answer_as, has_told}
use Rattle.table_steps.proofs.desk_seat.DeskSeat.publish.Goals as goal

pub store-requires : goal.store-requires
unfolding words_table words_setup client_at client_knows desk_at desk_knows
store-requires c =
    let w = c.args.words.now in (
      c.requires.table,
      search rules,
      publish_answer_as w.setup _ _ _ _ (tables.step w.table.shared.table_id.slots c.answered_index-index.result c.args.count 0 none) w.keyed (desk_of c.args.self.now.seat.me.0) c.args.process _ _
          c.requires.process c.args.self.now.is c.requires.filled c.requires.count c.answered_index-index.ensures.value,
    )

pub invariant_of-self : goal.invariant_of-self
unfolding words_table words_setup client_at client_knows desk_at desk_knows
invariant_of-self c =
    let d : DeskView = desk_of c.args.self.now.seat.me.0 in
    record { is = desk_own (desk_told d c.args.process) c.store.new.seat.me (has_told d c.args.process c.store.new.seat.me c.requires.filled (c.store.ensures.2 d c.args.self.now.is)) }

pub returns-clause-view : goal.returns-clause-view
unfolding words_table words_setup client_at client_knows desk_at desk_knows
returns-clause-view c =
    let d : DeskView = desk_of c.args.self.now.seat.me.0 in
    desk_is (desk_told d c.args.process) c.store.new.seat.me (has_told d c.args.process c.store.new.seat.me c.requires.filled (c.store.ensures.2 d c.args.self.now.is))
