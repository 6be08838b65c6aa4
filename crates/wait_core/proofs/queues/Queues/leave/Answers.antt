use Rattle.wait_core.proofs.Common.{◌≡◌, ◌∙◌, ap, arith, List, Any, common_steps, Wait, latest_on, links_in}
use Rattle.wait_core.proofs.AnyLemmas.{Any-weaker}
use Rattle.wait_core.proofs.LinkLemmas.{first_left, lead_left}
use Rattle.wait_core.proofs.queues.Queues.leave.Goals as goal

has_own : (wait : Wait) (waits : List Wait) → Any (λ v. v ≡ wait) waits → Any (λ v. v.p ≡ wait.p) waits
has_own wait waits has = Any-weaker (λ v. v ≡ wait) (λ v. v.p ≡ wait.p) (λ v e. ap (λ (w : Wait). w.p) e) waits has

pub returns-then-is_none-clause-left : goal.returns-then-is_none-clause-left
unfolding latest_on links_in
returns-then-is_none-clause-left c queues are has =
    let wait = c.args.wait.now in
    let old = links_in c.args.self.now in
    let new = links_in c.take_out-before.new.self in
    let own = has_own wait (queues wait.file) has in record {
      latest = first_left old new queues wait.p wait.file _ c.take_out-before.ensures.left are.lead own
          (λ none. grind (arith, common_steps))
          (λ some. grind (arith, common_steps))
          (λ f other. grind (arith, common_steps));
      lead = lead_left old new queues wait.p wait.file c.take_out-before.ensures.left are.lead own;
    }

pub returns-else-is_none-clause-left : goal.returns-else-is_none-clause-left
unfolding latest_on links_in
returns-else-is_none-clause-left c queues are has =
    let wait = c.args.wait.now in
    let old = links_in c.args.self.now in
    let new = links_in c.take_out-before.new.self in
    let own = has_own wait (queues wait.file) has in record {
      latest = first_left old new queues wait.p wait.file _ c.take_out-before.ensures.left are.lead own
          (λ none. grind (arith, common_steps))
          (λ some. c.take_out-before.ensures.latest wait.file ∙ are.latest wait.file)
          (λ f other. c.take_out-before.ensures.latest f ∙ are.latest f);
      lead = lead_left old new queues wait.p wait.file c.take_out-before.ensures.left are.lead own;
    }
