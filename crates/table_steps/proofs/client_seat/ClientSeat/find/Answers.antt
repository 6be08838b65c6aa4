use Rattle.table_steps.proofs.Common.{rules, none, ClientView, client_of, words_table, words_setup, client_at, client_knows}
use Rattle.atomic_table.specs.Table as tables
use Rattle.table_steps.specs.Steps.{client_found}
use Rattle.table_steps.proofs.SeatLemmas.{client_is, client_own, find_as}
use Rattle.table_steps.proofs.client_seat.ClientSeat.find.Goals as goal

pub load-requires : goal.load-requires
unfolding words_table words_setup client_at client_knows
load-requires c =
    let w = c.args.words.now in
    let c0 : ClientView = client_of c.args.self.now.seat.me.0 in (
      c.requires.table,
      search rules,
      find_as w.setup _ _ _ _ (tables.step w.table.shared.table_id.slots c.answered_index-index.result 0 0 none) w.keyed c0 c.args.process _ c.args.self.now.is c.requires.process.1 c.answered_index-index.ensures.value,
    )

pub invariant_of-self : goal.invariant_of-self
unfolding words_table words_setup client_at client_knows
invariant_of-self c =
    let c0 : ClientView = client_of c.args.self.now.seat.me.0 in
    let told = c.load.ensures.2 c0 c.args.self.now.is in
    record { is = client_own (client_found c0 told.0 c.load.result) c.load.new.seat.me told.1 }

pub returns-clause-view : goal.returns-clause-view
unfolding words_table words_setup client_at client_knows
returns-clause-view c =
    let c0 : ClientView = client_of c.args.self.now.seat.me.0 in
    let told = c.load.ensures.2 c0 c.args.self.now.is in
    record {
      journal = told.0;
      view = client_is (client_found c0 told.0 c.load.result) c.load.new.seat.me told.1;
      seen = told.2;
      grows = told.3;
      most = told.4;
      all = told.5;
      collected_most = told.6;
    }
