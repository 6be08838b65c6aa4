use Rattle.table_steps.proofs.Common.{ℕ, ◌<◌, sym, ap, subst, none, mark, desk_of, client_of, before_of, Seated, words_table, client_at, client_knows, desk_at, desk_knows, joined_at, joined_desk, joined_client, joined_before}
use Rattle.atomic_table.specs.Table as tables
use Rattle.table_steps.specs.Steps.{HasBoth}
use Rattle.table_steps.proofs.PlacesLaws.{inside}
use Rattle.table_steps.proofs.Joining.{may_compare}
use Rattle.table_steps.proofs.joined_seat.JoinedSeat.compare.Goals as goal

pub load-requires : goal.load-requires
unfolding words_table client_at client_knows desk_at desk_knows joined_at joined_desk joined_client joined_before
load-requires c =
    let w = c.args.words.now in
    let me : Seated = c.args.self.now.seat.me in (
      c.requires,
      subst (λ (n : ℕ). 0 < n) (sym w.wide) (inside w.setup.processes w.setup.depth mark tt),
      may_compare _ _ _ _ (desk_of me.0) (client_of me.0) (before_of me.0) 0 (tables.step w.table.shared.table_id.slots 0 0 0 none) c.args.self.now.is,
    )

pub invariant_of-self : goal.invariant_of-self
unfolding words_table client_at client_knows desk_at desk_knows joined_at joined_desk joined_client joined_before
invariant_of-self c =
    record { is = subst (λ (m : Seated). HasBoth (desk_of m.0) (client_of m.0) (before_of m.0) m) (sym c.load.ensures.2.0) c.args.self.now.is }

pub returns-clause-desk : goal.returns-clause-desk
unfolding words_table client_at client_knows desk_at desk_knows joined_at joined_desk joined_client joined_before
returns-clause-desk c =
    ap (λ (m : Seated). desk_of m.0) c.load.ensures.2.0

pub returns-clause-client : goal.returns-clause-client
unfolding words_table client_at client_knows desk_at desk_knows joined_at joined_desk joined_client joined_before
returns-clause-client c =
    ap (λ (m : Seated). client_of m.0) c.load.ensures.2.0

pub returns-clause-before : goal.returns-clause-before
unfolding words_table client_at client_knows desk_at desk_knows joined_at joined_desk joined_client joined_before
returns-clause-before c =
    ap (λ (m : Seated). before_of m.0) c.load.ensures.2.0

pub returns-clause-met : goal.returns-clause-met
unfolding words_table client_at client_knows desk_at desk_knows joined_at joined_desk joined_client joined_before
returns-clause-met c =
    let me : Seated = c.args.self.now.seat.me in
    let told = c.load.ensures.2.1 (desk_of me.0) (client_of me.0) (before_of me.0) c.args.self.now.is in
    record { taken_in_order = told.0; drained_all = told.1; outgrows = told.2 }
