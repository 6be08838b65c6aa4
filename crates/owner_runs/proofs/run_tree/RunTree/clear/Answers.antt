use Rattle.std.proofs.Common.{inl, inr, ap, ◌∙◌, subst, arith}
use Rattle.std.proofs.lemmas.Bool.{cases_lt}
use Rattle.range_core.specs.declared.TheConstants.{OFFMAX}
use Rattle.owner_runs.specs.Trees.{AreOrdered}
use Rattle.owner_runs.proofs.OrderLemmas.{none_beyond}
use Rattle.owner_runs.proofs.Views.{runs_of}
use Rattle.owner_runs.proofs.run_tree.RunTree.clear.Goals as goal

pub returns-clause-modes : goal.returns-clause-modes
returns-clause-modes c byte =
    let ordered = subst AreOrdered (ap runs_of c.self.view_is) c.self.invariant in
    elim (cases_lt OFFMAX byte) [
      | inl beyond ↦ c.unlock.ensures.modes.above byte beyond ∙ none_beyond c.args.self.now.items byte ordered beyond
      | inr upto ↦ c.unlock.ensures.modes.inside byte (omega arith) upto
    ]
