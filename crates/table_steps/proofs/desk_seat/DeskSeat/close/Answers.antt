use Rattle.table_steps.proofs.Common.{ℕ, ◌<◌, true, sym, subst, none, Setup, DeskView, desk_of, mark, IsProcess, words_table, words_setup, client_at, client_knows, desk_at, desk_knows}
use Rattle.atomic_table.specs.Table as tables
use Rattle.table_steps.proofs.PlacesLaws.{inside}
use Rattle.table_steps.proofs.Publishing.{may_close}
use Rattle.table_steps.proofs.SeatLemmas.{desk_is, desk_own}
use Rattle.table_steps.proofs.desk_seat.DeskSeat.close.Goals as goal

pub store-requires : goal.store-requires
unfolding words_table words_setup client_at client_knows desk_at desk_knows
store-requires c =
    let w = c.args.words.now in (
      c.requires.table,
      subst (λ (n : ℕ). 0 < n) (sym w.wide) (inside w.setup.processes w.setup.depth mark tt),
      may_close _ _ _ _ (desk_of c.args.self.now.seat.me.0) (tables.step w.table.shared.table_id.slots 0 1 0 none) c.args.self.now.is
          (λ q l. c.requires.published q (subst (λ (s : Setup). IsProcess s.processes q) w.keyed l)),
    )

pub invariant_of-self : goal.invariant_of-self
unfolding words_table words_setup client_at client_knows desk_at desk_knows
invariant_of-self c =
    let d : DeskView = desk_of c.args.self.now.seat.me.0 in
    record { is = desk_own (record d { closed = true }) c.store.new.seat.me (c.store.ensures.2 d c.args.self.now.is) }

pub returns-clause-view : goal.returns-clause-view
unfolding words_table words_setup client_at client_knows desk_at desk_knows
returns-clause-view c =
    let d : DeskView = desk_of c.args.self.now.seat.me.0 in
    desk_is (record d { closed = true }) c.store.new.seat.me (c.store.ensures.2 d c.args.self.now.is)
