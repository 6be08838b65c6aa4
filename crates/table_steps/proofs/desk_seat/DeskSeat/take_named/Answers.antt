use Rattle.table_steps.proofs.Common.{rules, subst, none, Event, DeskView, desk_of, HasDesk, words_table, words_setup, client_at, client_knows, desk_at, desk_knows}
use Rattle.atomic_table.specs.Table as tables
use Rattle.table_steps.specs.Steps.{desk_took}
use Rattle.table_steps.proofs.SeatLemmas.{desk_is, desk_own, take_as}
use Rattle.table_steps.proofs.desk_seat.DeskSeat.take_named.Goals as goal

pub store-requires : goal.store-requires
unfolding words_table words_setup client_at client_knows desk_at desk_knows
store-requires g c =
    let w = c.args.words.now in (
      c.requires.table,
      search rules,
      take_as w.setup _ _ _ _ (tables.step w.table.shared.table_id.slots c.taken_index-index.result c.args.count 0 none) w.keyed (desk_of c.args.self.now.seat.me.0) c.args.process _ _ c.args.entry.now _
          c.requires.named c.requires.process.0 c.args.self.now.is c.requires.«open» c.requires.read.0 c.requires.read.1 c.requires.process.1 c.requires.count c.requires.run
          c.requires.in_turn c.taken_index-index.ensures.value,
    )

pub invariant_of-self : goal.invariant_of-self
unfolding words_table words_setup client_at client_knows desk_at desk_knows
invariant_of-self g c =
    let d : DeskView = desk_of c.args.self.now.seat.me.0 in
    record { is = desk_own (desk_took d c.args.entry.now) c.store.new.seat.me (subst (λ (e : Event). HasDesk (desk_took d e) c.store.new.seat.me) c.requires.named (c.store.ensures.2 d c.args.self.now.is)) }

pub returns-clause-view : goal.returns-clause-view
unfolding words_table words_setup client_at client_knows desk_at desk_knows
returns-clause-view g c =
    let d : DeskView = desk_of c.args.self.now.seat.me.0 in
    desk_is (desk_took d c.args.entry.now) c.store.new.seat.me (subst (λ (e : Event). HasDesk (desk_took d e) c.store.new.seat.me) c.requires.named (c.store.ensures.2 d c.args.self.now.is))
