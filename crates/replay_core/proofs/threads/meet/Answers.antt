use Rattle.replay_core.proofs.Common.{◌≡◌, ◌∙◌, ap, ℕ, List, subst, true, ◌&&◌, ◌==◌, Event, IsPrefixOf, requests_taken, answers_to, ClientView, Client, client_view, desk_view}
use Rattle.std.proofs.Common.{◌||◌}
use Rattle.table_steps.specs.declared.desk_view.DeskView.{DeskView}
use Rattle.table_steps.specs.Steps.{met_desk, met_client}
use Rattle.table_steps.specs.Views.{tally_at}
use Rattle.call_table.specs.Desks.{IsMet}
use Rattle.replay_core.proofs.CollectingLemmas.{met_all, met_taken}
use Rattle.replay_core.proofs.threads.meet.Goals as goal

pub returns-clause-gathered : goal.returns-clause-gathered
returns-clause-gathered c =
    let caller = c.args.caller in
    let d : DeskView = desk_view c.args.desk in
    let v : ClientView = client_view c.into_parts-client.result.0 in
    let is : c.into_parts-client.result.0 ≡ caller.client = c.into_parts-client.ensures.parts.0 in
    let met : IsMet d v (met_desk d v) (met_client d v) =
    subst (λ (x : DeskView). IsMet d v x (met_client d v)) c.meet-desk.ensures.desk
    (subst (λ (y : ClientView). IsMet d v (desk_view c.meet-desk.result.0) y) c.meet-desk.ensures.client c.meet-desk.ensures.met) in
    let process : v.process ≡ caller.process = ap (λ (x : Client). (client_view x).process) is ∙ caller.process_is in
    record {
      taken_in_order = subst (λ (p : ℕ). IsPrefixOf (requests_taken p d.journal) caller.requests.items) process
          (met_taken d v caller.requests.items caller.posted met (ap (λ (x : Client). (client_view x).posted) is ∙ caller.posted_is));
      all_answers = met_all d v c.into_parts-client.result.1.items met c.into_parts-client.ensures.collected
          (ap (λ (x : Client). (client_view x).drained) is ∙ c.requires.drained) ∙ ap (λ (p : ℕ). answers_to p d.journal) process;
    }

pub returns-clause-left : goal.returns-clause-left
returns-clause-left c =
    let caller = c.args.caller in
    let d : DeskView = desk_view c.args.desk in
    let v : ClientView = client_view c.into_parts-client.result.0 in
    let w : ClientView = client_view c.meet-desk.result.1 in
    let is : c.into_parts-client.result.0 ≡ caller.client = c.into_parts-client.ensures.parts.0 in
    let met : w ≡ met_client d v = c.meet-desk.ensures.client in
    let drained : v.drained ≡ true = ap (λ (x : Client). (client_view x).drained) is ∙ c.requires.drained in
    let published = (tally_at d.tallies v.process).published in
    let process : w.process ≡ caller.process =
    ap (λ (x : ClientView). x.process) met ∙ ap (λ (x : Client). (client_view x).process) is ∙ caller.process_is in
    let journal : (desk_view c.meet-desk.result.0).journal ≡ d.journal = ap (λ (x : DeskView). x.journal) c.meet-desk.ensures.desk in
    record {
      client = c.meet-desk.result.1;
      process = process;
      posted = ap (λ (x : ClientView). x.posted) met ∙ ap (λ (x : Client). (client_view x).posted) is;
      seen = ap (λ (x : ClientView). x.seen) met;
      drained = ap (λ (x : ClientView). x.drained) met ∙ ap (λ b. b || (v.over && (published == v.collected))) drained;
      taken = subst (λ (p : ℕ). IsPrefixOf (requests_taken p d.journal) w.posted) process
          (subst (λ (j : List Event). IsPrefixOf (requests_taken w.process j) w.posted) journal c.meet-desk.ensures.met.taken_in_order);
    }
