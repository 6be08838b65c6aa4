use Rattle.table_steps.proofs.Common.{rules, ℕ, ◌<◌, length, subst, none, ClientView, client_of, words_table, words_setup, client_at, client_knows}
use Rattle.atomic_table.specs.Table as tables
use Rattle.table_steps.specs.Steps.{client_collected}
use Rattle.table_steps.proofs.SeatLemmas.{client_is, client_own, collect_as}
use Rattle.table_steps.proofs.client_seat.ClientSeat.collect.Goals as goal

pub load-requires : goal.load-requires
unfolding words_table words_setup client_at client_knows
load-requires c =
    let w = c.args.words.now in
    let c0 : ClientView = client_of c.args.self.now.seat.me.0 in (
      c.requires.table,
      search rules,
      collect_as w.setup _ _ _ _ (tables.step w.table.shared.table_id.slots c.answer_index-index.result 0 0 none) w.keyed c0 c.args.process c.args.before _ c.args.self.now.is c.requires.process.1 c.requires.next.0 c.requires.next.1 c.requires.known c.answer_index-index.ensures.value,
    )

pub invariant_of-self : goal.invariant_of-self
unfolding words_table words_setup client_at client_knows
invariant_of-self c =
    let c0 : ClientView = client_of c.args.self.now.seat.me.0 in
    record { is = client_own (client_collected c0) c.load.new.seat.me (c.load.ensures.2 c0 c.args.self.now.is).0 }

pub returns-clause-view : goal.returns-clause-view
unfolding words_table words_setup client_at client_knows
returns-clause-view c =
    let c0 : ClientView = client_of c.args.self.now.seat.me.0 in
    client_is (client_collected c0) c.load.new.seat.me (c.load.ensures.2 c0 c.args.self.now.is).0

pub returns-clause-answer : goal.returns-clause-answer
unfolding words_table words_setup client_at client_knows
returns-clause-answer c =
    let c0 : ClientView = client_of c.args.self.now.seat.me.0 in
    (c.load.ensures.2 c0 c.args.self.now.is).1

pub returns-clause-below : goal.returns-clause-below
unfolding words_table words_setup client_at client_knows
returns-clause-below c =
    let c0 : ClientView = client_of c.args.self.now.seat.me.0 in
    subst (λ (n : ℕ). n < length c0.posted) c.requires.next.0 (c.load.ensures.2 c0 c.args.self.now.is).2
