use Rattle.std.proofs.Common.{◌≡◌, ◌==◌, ℕ, length, eqb-true, eq-eqb, sym, ap, ◌∙◌, subst}
use Rattle.range_core.specs.Changes.{mode_in}
use Rattle.owner_runs.specs.Trees.{AreOrdered}
use Rattle.owner_runs.proofs.RunLemmas.{are_runs, empty_if_free, free_if_empty, held_unless_empty}
use Rattle.owner_runs.proofs.Views.{runs_of}
use Rattle.owner_runs.proofs.run_tree.RunTree.is_empty.Goals as goal

pub returns-clause-free : goal.returns-clause-free
returns-clause-free c =
    let runs = c.args.self.now.items in
    let is = ap runs_of c.self.view_is in
    let are = are_runs runs (subst AreOrdered is c.self.invariant) in
    let count : c.len.result ≡ length runs = c.len.ensures ∙ ap length is in (
      λ none. free_if_empty (mode_in runs) runs are (sym count ∙ eqb-true c.len.result 0 none),
      λ free. eq-eqb c.len.result 0 (count ∙ empty_if_free (mode_in runs) runs are free),
    )

pub returns-clause-held : goal.returns-clause-held
returns-clause-held c some =
    let runs = c.args.self.now.items in
    let is = ap runs_of c.self.view_is in
    let are = are_runs runs (subst AreOrdered is c.self.invariant) in
    held_unless_empty (mode_in runs) runs are (ap (λ (n : ℕ). n == 0) (sym (c.len.ensures ∙ ap length is)) ∙ some)
