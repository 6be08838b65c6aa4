use Rattle.table_steps.proofs.Common.{rules, ℕ, ◌<◌, sym, ap, subst, ClientView, DeskView, mark, desk_of, client_of, before_of, Seated, met_desk, met_client, before_meeting, words_table, client_at, client_knows, desk_at, desk_knows, joined_at, joined_desk, joined_client, joined_before}
use Rattle.atomic_table.specs.Table as tables
use Rattle.table_steps.proofs.PlacesLaws.{inside}
use Rattle.table_steps.proofs.SeatLemmas.{both_own, join_as, joined_is}
use Rattle.table_steps.proofs.joined_seat.JoinedSeat.join.Goals as goal

pub join_seat-requires : goal.join_seat-requires
unfolding words_table client_at client_knows desk_at desk_knows joined_at joined_desk joined_client joined_before
join_seat-requires c =
    let w = c.args.words.now in
    let me : Seated = c.args.desk.seat.me in let his : Seated = c.args.client.seat.me in
    let d : DeskView = desk_of me.0 in let u : ClientView = client_of his.0 in (
      c.requires.desk,
      search rules,
      ap (λ (m : Seated). m.1) c.args.client.is,
      subst (λ (n : ℕ). 0 < n) (sym w.wide) (inside w.setup.processes w.setup.depth mark tt),
      join_as _ _ _ me his d u c.args.desk.is c.args.client.is,
    )

pub invariant_of-result : goal.invariant_of-result
unfolding words_table client_at client_knows desk_at desk_knows joined_at joined_desk joined_client joined_before
invariant_of-result c =
    let me : Seated = c.args.desk.seat.me in let his : Seated = c.args.client.seat.me in
    let d : DeskView = desk_of me.0 in let u : ClientView = client_of his.0 in
    let is = joined_is me his c.join_seat.new.seat.me d u c.args.desk.is c.args.client.is c.join_seat.ensures.2 in
    record { is = both_own (met_desk d u) (met_client d u) (before_meeting d u) c.join_seat.new.seat.me is }

pub returns-clause-desk : goal.returns-clause-desk
unfolding words_table client_at client_knows desk_at desk_knows joined_at joined_desk joined_client joined_before
returns-clause-desk c =
    let me : Seated = c.args.desk.seat.me in let his : Seated = c.args.client.seat.me in
    let d : DeskView = desk_of me.0 in let u : ClientView = client_of his.0 in
    let is = joined_is me his c.join_seat.new.seat.me d u c.args.desk.is c.args.client.is c.join_seat.ensures.2 in
    ap (λ (m : Seated). desk_of m.0) is

pub returns-clause-client : goal.returns-clause-client
unfolding words_table client_at client_knows desk_at desk_knows joined_at joined_desk joined_client joined_before
returns-clause-client c =
    let me : Seated = c.args.desk.seat.me in let his : Seated = c.args.client.seat.me in
    let d : DeskView = desk_of me.0 in let u : ClientView = client_of his.0 in
    let is = joined_is me his c.join_seat.new.seat.me d u c.args.desk.is c.args.client.is c.join_seat.ensures.2 in
    ap (λ (m : Seated). client_of m.0) is

pub returns-clause-before : goal.returns-clause-before
unfolding words_table client_at client_knows desk_at desk_knows joined_at joined_desk joined_client joined_before
returns-clause-before c =
    let me : Seated = c.args.desk.seat.me in let his : Seated = c.args.client.seat.me in
    let d : DeskView = desk_of me.0 in let u : ClientView = client_of his.0 in
    let is = joined_is me his c.join_seat.new.seat.me d u c.args.desk.is c.args.client.is c.join_seat.ensures.2 in
    ap (λ (m : Seated). before_of m.0) is
