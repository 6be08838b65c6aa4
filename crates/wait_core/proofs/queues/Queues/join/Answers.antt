use Rattle.wait_core.proofs.Common.{rules, ℕ, ◌≡◌, ◌∙◌, subst, arith, Option, Some, ◌==◌, if◌then◌else◌, nat_tests, common_steps, latest_on, links_in}
use Rattle.wait_core.proofs.LinkLemmas.{Joins, first_joined, lead_joined}
use Rattle.wait_core.proofs.queues.Queues.join.Goals as goal

joins : (c : goal.After-tie) → Joins (links_in c.args.self.now) (links_in c.tie.new.self) c.args.wait (latest_on c.args.self.now c.args.wait.file)
unfolding latest_on links_in
joins c = record {
  few = c.requires.wait.process;
  free = c.requires.free;
  itself = search rules;
  waits = λ p other. grind (arith, common_steps);
  before_itself = grind (arith, common_steps, nat_tests);
  before = λ p few other. grind (arith, common_steps, nat_tests);
  after_itself = λ other. grind (arith, common_steps, nat_tests);
  after_latest = λ p few is. grind (arith, common_steps, nat_tests);
  after = λ p few other not_latest. grind (arith, common_steps, nat_tests);
}

latest : (c : goal.After-tie) (file : ℕ) → latest_on c.tie.new.self file ≡ (if c.args.wait.file == file then Some c.args.wait.p else latest_on c.args.self.now file)
unfolding latest_on
latest c file = grind (arith, common_steps, nat_tests)

pub returns-clause-joined : goal.returns-clause-joined
returns-clause-joined c queues are =
    let wait = c.args.wait in
    let behind = queues wait.file in
    let joined = subst (λ (before : Option ℕ). Joins (links_in c.args.self.now) (links_in c.tie.new.self) wait before) (are.latest wait.file) (joins c) in
    record {
      latest = λ file. latest c file ∙ first_joined queues wait file (latest_on c.args.self.now file) (are.latest file);
      lead = λ file. lead_joined (links_in c.args.self.now) (links_in c.tie.new.self) queues wait joined are.lead file;
    }
