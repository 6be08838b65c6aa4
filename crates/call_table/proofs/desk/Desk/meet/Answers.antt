use Rattle.call_table.proofs.Common.{ap, ◌∙◌, sym, subst, ClientView, DeskView, client_knows, desk_knows, hub_table, hub_setup, client_view, client_table, client_setup, client_process, desk_view, session_in, desk_table, desk_setup}
use Rattle.table_steps.specs.declared.before.Before.{Before}
use Rattle.table_steps.specs.Steps.{HaveMet}
use Rattle.call_table.proofs.Meeting.{sits_met, client_met, is_met}
use Rattle.call_table.proofs.desk.Desk.meet.Goals as goal
use Rattle.call_table.specs.Desks.{IsMet}

pub of_parts-requires : goal.of_parts-requires
unfolding hub_table hub_setup client_view client_table client_setup client_process desk_view session_in desk_table desk_setup
of_parts-requires c =
    let parts = c.into_parts-process in
    client_met (desk_knows c.args.self.seat) (client_knows parts.result.4) (client_knows c.part-seat.result.1) parts.result.0
    parts.result.1 parts.result.2 parts.result.3 parts.ensures.sits
    (c.part-seat.ensures.client ∙ c.compare.ensures.client ∙ c.join-joined.ensures.client)

pub invariant_of-result : goal.invariant_of-result
unfolding hub_table hub_setup client_view client_table client_setup client_process desk_view session_in desk_table desk_setup
invariant_of-result c =
    record {
      sits = sits_met (desk_knows c.args.self.seat) (desk_knows c.part-seat.result.0) c.args.self.setup c.args.self.closed
          c.args.self.session (client_knows c.into_parts-process.result.4) c.args.self.sits
          (c.part-seat.ensures.desk ∙ c.compare.ensures.desk ∙ c.join-joined.ensures.desk);
    }

pub returns-clause-met : goal.returns-clause-met
unfolding hub_table hub_setup client_view client_table client_setup client_process desk_view session_in desk_table desk_setup
returns-clause-met c =
    let parts = c.into_parts-process in
    let d : DeskView = desk_knows c.args.self.seat in
    let u : ClientView = client_knows parts.result.4 in
    let told = subst (λ (y : DeskView × ClientView × Before). HaveMet y.0 y.1 y.2)
    (λ i. (c.join-joined.ensures.desk i, c.join-joined.ensures.client i, c.join-joined.ensures.before i)) c.compare.ensures.met in
    subst (λ (y : ClientView × ClientView). IsMet d y.0 (desk_knows c.part-seat.result.0) y.1)
    (λ i. (ap client_knows parts.ensures.parts.2 i, ap client_knows (sym c.of_parts.ensures.2) i))
    (is_met d (desk_knows c.part-seat.result.0) u (client_knows c.part-seat.result.1) told
    (c.part-seat.ensures.desk ∙ c.compare.ensures.desk ∙ c.join-joined.ensures.desk)
    (c.part-seat.ensures.client ∙ c.compare.ensures.client ∙ c.join-joined.ensures.client))
