use Rattle.table_steps.proofs.Common.{rules, ℕ, subst, none, DeskView, desk_of, HasDesk, words_table, words_setup, client_at, client_knows, desk_at, desk_knows}
use Rattle.atomic_table.specs.Table as tables
use Rattle.table_steps.specs.Steps.{desk_filled}
use Rattle.table_steps.proofs.SeatLemmas.{desk_is, desk_own, fill_answer_as}
use Rattle.table_steps.proofs.desk_seat.DeskSeat.fill_named.Goals as goal

pub store-requires : goal.store-requires
unfolding words_table words_setup client_at client_knows desk_at desk_knows
store-requires g c =
    let w = c.args.words.now in (
      c.requires.table,
      search rules,
      fill_answer_as w.setup _ _ _ _ (tables.step w.table.shared.table_id.slots c.answer_index-index.result c.args.word 0 none) w.keyed (desk_of c.args.self.now.seat.me.0) c.args.process c.args.before
          c.args.at _ c.args.word g.B.Filling.process c.requires.named c.requires.process c.args.self.now.is c.requires.next.0 c.requires.next.1 c.requires.word
          c.answer_index-index.ensures.value,
    )

pub invariant_of-self : goal.invariant_of-self
unfolding words_table words_setup client_at client_knows desk_at desk_knows
invariant_of-self g c =
    let d : DeskView = desk_of c.args.self.now.seat.me.0 in
    record { is = desk_own (desk_filled d c.args.process c.args.word) c.store.new.seat.me (subst (λ (p : ℕ). HasDesk (desk_filled d p c.args.word) c.store.new.seat.me) c.requires.named (c.store.ensures.2 d c.args.self.now.is)) }

pub returns-clause-view : goal.returns-clause-view
unfolding words_table words_setup client_at client_knows desk_at desk_knows
returns-clause-view g c =
    let d : DeskView = desk_of c.args.self.now.seat.me.0 in
    desk_is (desk_filled d c.args.process c.args.word) c.store.new.seat.me (subst (λ (p : ℕ). HasDesk (desk_filled d p c.args.word) c.store.new.seat.me) c.requires.named (c.store.ensures.2 d c.args.self.now.is))
