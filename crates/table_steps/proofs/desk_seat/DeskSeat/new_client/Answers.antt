use Rattle.table_steps.proofs.Common.{ℕ, ◌+◌, ◌<◌, sym, subst, DeskView, desk_of, mark, new_client, words_table, words_setup, client_at, client_knows, desk_at, desk_knows}
use Rattle.atomic_table.specs.Table as tables
use Rattle.table_steps.proofs.PlacesLaws.{inside}
use Rattle.table_steps.proofs.SeatLemmas.{client_is, client_own, client_next, desk_is, desk_own, desk_next, make_as}
use Rattle.table_steps.proofs.desk_seat.DeskSeat.new_client.Goals as goal

pub split_seat-seat-requires : goal.split_seat-seat-requires
unfolding words_table words_setup client_at client_knows desk_at desk_knows
split_seat-seat-requires c =
    let w = c.args.words.now in (
      c.requires.table,
      subst (λ (n : ℕ). 0 < n) (sym w.wide) (inside w.setup.processes w.setup.depth mark tt),
      make_as w.setup _ w.keyed _ _ (desk_of c.args.self.now.seat.me.0) c.args.self.now.is c.requires.some,
    )

pub invariant_of-self : goal.invariant_of-self
unfolding words_table words_setup client_at client_knows desk_at desk_knows
invariant_of-self c =
    let d : DeskView = desk_of c.args.self.now.seat.me.0 in
    record { is = desk_own (record d { made = d.made + 1 }) c.split_seat-seat.new.seat.me (desk_next d c.args.self.now.seat.me c.split_seat-seat.new.seat.me c.args.self.now.is c.split_seat-seat.ensures.2) }

pub invariant_of-result : goal.invariant_of-result
unfolding words_table words_setup client_at client_knows desk_at desk_knows
invariant_of-result c =
    let d : DeskView = desk_of c.args.self.now.seat.me.0 in
    record { is = client_own (new_client d.setup (d.made + 1)) c.split_seat-seat.result.me (client_next d c.args.self.now.seat.me c.split_seat-seat.result.me c.args.self.now.is c.split_seat-seat.ensures.4) }

pub returns-clause-view : goal.returns-clause-view
unfolding words_table words_setup client_at client_knows desk_at desk_knows
returns-clause-view c =
    let d : DeskView = desk_of c.args.self.now.seat.me.0 in
    desk_is (record d { made = d.made + 1 }) c.split_seat-seat.new.seat.me (desk_next d c.args.self.now.seat.me c.split_seat-seat.new.seat.me c.args.self.now.is c.split_seat-seat.ensures.2)

pub returns-clause-client : goal.returns-clause-client
unfolding words_table words_setup client_at client_knows desk_at desk_knows
returns-clause-client c =
    let d : DeskView = desk_of c.args.self.now.seat.me.0 in
    client_is (new_client d.setup (d.made + 1)) c.split_seat-seat.result.me (client_next d c.args.self.now.seat.me c.split_seat-seat.result.me c.args.self.now.is c.split_seat-seat.ensures.4)
