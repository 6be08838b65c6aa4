use Rattle.wait_core.proofs.Common.{arith, nat_tests, common_steps, links_in}
use Rattle.wait_core.proofs.queues.Queues.take_out.Goals as goal

pub returns-clause-left : goal.returns-clause-left
unfolding links_in
returns-clause-left c = record {
  waits = λ q other. grind (arith, common_steps);
  before_next = λ q few is. grind (arith, common_steps, nat_tests);
  before = λ q few other. grind (arith, common_steps, nat_tests);
  after_last = λ q few is. grind (arith, common_steps, nat_tests);
  after = λ q few other. grind (arith, common_steps, nat_tests);
}
