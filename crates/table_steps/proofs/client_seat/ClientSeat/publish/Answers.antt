use Rattle.table_steps.proofs.Common.{rules, ◌+◌, refl, none, ClientView, client_of, client_posted, words_table, words_setup, client_at, client_knows}
use Rattle.atomic_table.specs.Table as tables
use Rattle.table_steps.proofs.SeatLemmas.{client_is, client_own, has_posted, publish_as}
use Rattle.table_steps.proofs.client_seat.ClientSeat.publish.Goals as goal

pub store-requires : goal.store-requires
unfolding words_table words_setup client_at client_knows
store-requires c =
    let w = c.args.words.now in
    let c0 : ClientView = client_of c.args.self.now.seat.me.0 in (
      c.requires.table,
      search rules,
      publish_as w.setup _ _ _ _ (tables.step w.table.shared.table_id.slots c.posted_index-index.result (c.args.before + 1) 0 none) w.keyed c0 c.args.request c.args.process c.args.before _ (c.args.before + 1) c.args.self.now.is c.requires.process.1 c.requires.next.0 c.requires.next.1 c.requires.room c.requires.filled.1 c.requires.filled.0 refl c.posted_index-index.ensures.value,
    )

pub invariant_of-self : goal.invariant_of-self
unfolding words_table words_setup client_at client_knows
invariant_of-self c =
    let c0 : ClientView = client_of c.args.self.now.seat.me.0 in
    record { is = client_own (client_posted c0 c.args.request) c.store.new.seat.me (has_posted c0 c.args.request c.store.new.seat.me c.requires.filled.1 c.requires.filled.0 (c.store.ensures.2 c0 c.args.self.now.is)) }

pub returns-clause-view : goal.returns-clause-view
unfolding words_table words_setup client_at client_knows
returns-clause-view c =
    let c0 : ClientView = client_of c.args.self.now.seat.me.0 in
    client_is (client_posted c0 c.args.request) c.store.new.seat.me (has_posted c0 c.args.request c.store.new.seat.me c.requires.filled.1 c.requires.filled.0 (c.store.ensures.2 c0 c.args.self.now.is))
