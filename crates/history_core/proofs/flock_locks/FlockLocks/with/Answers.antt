use Rattle.history_core.proofs.Common.{ap, ◌∙◌, ◌==◌, bytes_of}
use Rattle.std.proofs.Common.{if◌then◌else◌}
use Rattle.std.proofs.Math.Bool.{and-true}
use Rattle.history_core.specs.FlockView.{flocks_of}
use Rattle.history_core.proofs.ByteLemmas.{first_alone}
use Rattle.history_core.proofs.flock_locks.FlockLocks.with.Goals as goal

pub invariant_of-result : goal.invariant_of-result
invariant_of-result c = record {
  on_first = λ owner byte lt.
      ap (λ f. f owner byte) c.in_ok-with.ensures
      ∙ first_alone (bytes_of c.args.self.now.locks) c.args.owner c.args.mode owner byte lt (c.args.self.now.on_first owner byte lt);
}

pub returns : goal.returns
returns c =
    ap (λ bytes. λ owner. bytes owner 0) c.in_ok-with.ensures
    ∙ (λ i. λ other. if and-true (other == c.args.owner) i then c.args.mode else flocks_of c.args.self.now other)
