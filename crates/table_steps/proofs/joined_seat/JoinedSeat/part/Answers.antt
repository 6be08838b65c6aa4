use Rattle.table_steps.proofs.Common.{ℕ, ◌<◌, sym, subst, mark, desk_of, client_of, before_of, Seated, words_table, client_at, client_knows, desk_at, desk_knows, joined_at, joined_desk, joined_client, joined_before}
use Rattle.atomic_table.specs.Table as tables
use Rattle.table_steps.proofs.PlacesLaws.{inside}
use Rattle.table_steps.proofs.SeatLemmas.{client_is, desk_is, desk_own, part_as, parted_is, other_is}
use Rattle.table_steps.proofs.joined_seat.JoinedSeat.part.Goals as goal

pub split_seat-other-requires : goal.split_seat-other-requires
unfolding words_table client_at client_knows desk_at desk_knows joined_at joined_desk joined_client joined_before
split_seat-other-requires c =
    let w = c.args.words.now in
    let me : Seated = c.args.self.seat.me in (
      c.requires,
      subst (λ (n : ℕ). 0 < n) (sym w.wide) (inside w.setup.processes w.setup.depth mark tt),
      part_as _ _ me (desk_of me.0) (client_of me.0) (before_of me.0) c.args.self.is,
    )

pub invariant_of-result : goal.invariant_of-result
unfolding words_table client_at client_knows desk_at desk_knows joined_at joined_desk joined_client joined_before
invariant_of-result c =
    let me : Seated = c.args.self.seat.me in
    record { is = desk_own (desk_of me.0) c.split_seat-other.new.seat.me (parted_is me c.split_seat-other.new.seat.me (desk_of me.0) (client_of me.0) (before_of me.0) c.args.self.is c.split_seat-other.ensures.2) }

pub returns-clause-desk : goal.returns-clause-desk
unfolding words_table client_at client_knows desk_at desk_knows joined_at joined_desk joined_client joined_before
returns-clause-desk c =
    let me : Seated = c.args.self.seat.me in
    desk_is (desk_of me.0) c.split_seat-other.new.seat.me (parted_is me c.split_seat-other.new.seat.me (desk_of me.0) (client_of me.0) (before_of me.0) c.args.self.is c.split_seat-other.ensures.2)

pub returns-clause-client : goal.returns-clause-client
unfolding words_table client_at client_knows desk_at desk_knows joined_at joined_desk joined_client joined_before
returns-clause-client c =
    let me : Seated = c.args.self.seat.me in
    client_is (client_of me.0) c.split_seat-other.result.me (other_is me c.split_seat-other.result.me (desk_of me.0) (client_of me.0) (before_of me.0) c.args.self.is c.split_seat-other.ensures.4)
