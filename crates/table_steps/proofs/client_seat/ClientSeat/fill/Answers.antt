use Rattle.table_steps.proofs.Common.{rules, none, ClientView, client_of, words_table, words_setup, client_at, client_knows}
use Rattle.atomic_table.specs.Table as tables
use Rattle.table_steps.specs.Steps.{client_filled}
use Rattle.table_steps.proofs.SeatLemmas.{client_is, client_own, fill_as}
use Rattle.table_steps.proofs.client_seat.ClientSeat.fill.Goals as goal

pub store-requires : goal.store-requires
unfolding words_table words_setup client_at client_knows
store-requires c =
    let w = c.args.words.now in
    let c0 : ClientView = client_of c.args.self.now.seat.me.0 in (
      c.requires.table,
      search rules,
      fill_as w.setup _ _ _ _ (tables.step w.table.shared.table_id.slots c.request_index-index.result c.args.word 0 none) w.keyed c0 c.args.process c.args.before c.args.at _ c.args.word c.args.self.now.is c.requires.process.1 c.requires.next.0 c.requires.next.1 c.requires.room c.requires.next.2 c.request_index-index.ensures.value,
    )

pub invariant_of-self : goal.invariant_of-self
unfolding words_table words_setup client_at client_knows
invariant_of-self c =
    let c0 : ClientView = client_of c.args.self.now.seat.me.0 in
    record { is = client_own (client_filled c0 c.args.word) c.store.new.seat.me (c.store.ensures.2 c0 c.args.self.now.is) }

pub returns-clause-view : goal.returns-clause-view
unfolding words_table words_setup client_at client_knows
returns-clause-view c =
    let c0 : ClientView = client_of c.args.self.now.seat.me.0 in
    client_is (client_filled c0 c.args.word) c.store.new.seat.me (c.store.ensures.2 c0 c.args.self.now.is)
