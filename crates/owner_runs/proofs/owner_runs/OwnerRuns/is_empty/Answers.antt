use Rattle.std.proofs.Common.{ℕ, ◌≡◌, None, Some, eqb-true, eq-eqb, length, sym, ◌∙◌, subst}
use Rattle.range_core.specs.declared.Mode.{Mode}
use Rattle.owner_runs.specs.Lists.{modes_of}
use Rattle.owner_runs.proofs.RunLemmas.{empty_if_free, free_if_empty, held_unless_empty}
use Rattle.owner_runs.proofs.owner_runs.OwnerRuns.is_empty.Goals as goal

pub returns-in-Listed-clause-free : goal.returns-in-Listed-clause-free
returns-in-Listed-clause-free c =
    let modes = modes_of c.args.self.now in
    let runs = c.in-Listed.runs.now in
    let are = c.in-Listed.ensures.0 in (
      λ none. free_if_empty modes runs are (eqb-true (length runs) 0 (sym c.is_empty.ensures ∙ none)),
      λ free. c.is_empty.ensures ∙ eq-eqb (length runs) 0 (empty_if_free modes runs are free),
    )

pub returns-in-InTree-clause-free : goal.returns-in-InTree-clause-free
returns-in-InTree-clause-free c = (
  λ none. subst (λ modes. (byte : ℕ) → modes byte ≡ None) (sym c.in-InTree.ensures) (c.is_empty-in-InTree.ensures.free.0 none),
  λ free. c.is_empty-in-InTree.ensures.free.1 (subst (λ modes. (byte : ℕ) → modes byte ≡ None) c.in-InTree.ensures free),
)

pub returns-in-Listed-clause-held : goal.returns-in-Listed-clause-held
returns-in-Listed-clause-held c some =
    held_unless_empty (modes_of c.args.self.now) c.in-Listed.runs.now c.in-Listed.ensures.0 (sym c.is_empty.ensures ∙ some)

pub returns-in-InTree-clause-held : goal.returns-in-InTree-clause-held
returns-in-InTree-clause-held c some =
    subst (λ modes. (byte : ℕ) × (mode : Mode) × (modes byte ≡ Some mode)) (sym c.in-InTree.ensures) (c.is_empty-in-InTree.ensures.held some)
