use Rattle.table_steps.proofs.Common.{ℕ, ◌<◌, sym, subst, none, ClientView, client_of, mark, words_table, words_setup, client_at, client_knows}
use Rattle.atomic_table.specs.Table as tables
use Rattle.table_steps.specs.Steps.{client_marked}
use Rattle.table_steps.proofs.PlacesLaws.{inside}
use Rattle.table_steps.proofs.Collecting.{may_mark}
use Rattle.table_steps.proofs.SeatLemmas.{client_is, client_own}
use Rattle.table_steps.proofs.client_seat.ClientSeat.mark.Goals as goal

pub load-requires : goal.load-requires
unfolding words_table words_setup client_at client_knows
load-requires c =
    let w = c.args.words.now in (
      c.requires,
      subst (λ (n : ℕ). 0 < n) (sym w.wide) (inside w.setup.processes w.setup.depth mark tt),
      may_mark _ _ _ _ (client_of c.args.self.now.seat.me.0) (tables.step w.table.shared.table_id.slots 0 0 0 none) c.args.self.now.is,
    )

pub invariant_of-self : goal.invariant_of-self
unfolding words_table words_setup client_at client_knows
invariant_of-self c =
    let c0 : ClientView = client_of c.args.self.now.seat.me.0 in
    record { is = client_own (client_marked c0 c.load.result) c.load.new.seat.me (c.load.ensures.2 c0 c.args.self.now.is).0 }

pub returns-clause-view : goal.returns-clause-view
unfolding words_table words_setup client_at client_knows
returns-clause-view c =
    let c0 : ClientView = client_of c.args.self.now.seat.me.0 in
    client_is (client_marked c0 c.load.result) c.load.new.seat.me (c.load.ensures.2 c0 c.args.self.now.is).0

pub returns-clause-stays : goal.returns-clause-stays
unfolding words_table words_setup client_at client_knows
returns-clause-stays c =
    let c0 : ClientView = client_of c.args.self.now.seat.me.0 in
    (c.load.ensures.2 c0 c.args.self.now.is).1
