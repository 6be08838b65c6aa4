use Rattle.std.proofs.Common.{ℕ, ◌≡◌, ◌∙◌, sym, subst}
use Rattle.std.proofs.lemmas.Bool.{false≢true}
use Rattle.range_core.specs.Changes.{mode_in, modes_of as list_modes_of}
use Rattle.owner_runs.specs.Lists.{kept_modes, modes_of}
use Rattle.owner_runs.proofs.PieceLemmas.{splits_alike}
use Rattle.owner_runs.proofs.owner_runs.OwnerRuns.set.Goals as goal

pub returns-in-Few-clause-unlock : goal.returns-in-Few-clause-unlock
unfolding modes_of
returns-in-Few-clause-unlock c unlock whole =
    let old = modes_of c.args.self.now in
    let kept = subst (λ kept. (byte : ℕ) → kept_modes kept byte ≡ old byte) c.in-Few.is c.ready.ensures.modes in
    let same = subst (λ list. (byte : ℕ) → list_modes_of list byte ≡ old byte) (sym c.as_mut.ensures.value) kept in
    c.set_listed.ensures.unlock unlock (λ splits. whole (splits_alike old (list_modes_of c.as_mut.result.now) c.args.span same splits))

pub returns-in-Few-clause-again : goal.returns-in-Few-clause-again
unfolding modes_of
returns-in-Few-clause-again c wanted is constant =
    let old = modes_of c.args.self.now in
    let kept = subst (λ kept. (byte : ℕ) → kept_modes kept byte ≡ old byte) c.in-Few.is c.ready.ensures.modes in
    let same = subst (λ list. (byte : ℕ) → list_modes_of list byte ≡ old byte) (sym c.as_mut.ensures.value) kept in
    c.set_listed.ensures.again wanted is (λ byte covers. same byte ∙ constant byte covers)

pub returns-in-Many-clause-again : goal.returns-in-Many-clause-again
unfolding modes_of
returns-in-Many-clause-again c wanted is constant =
    let old = modes_of c.args.self.now in
    let kept = subst (λ kept. (byte : ℕ) → kept_modes kept byte ≡ old byte) c.in-Many.is c.ready.ensures.modes in
    let same = subst (λ tree. (byte : ℕ) → mode_in tree.runs.items byte ≡ old byte) (sym c.deref_mut.ensures.value) kept in
    c.set-in-Many.ensures.again wanted is (λ byte covers. same byte ∙ constant byte covers)

pub returns-in_err-list_with-in-Lone-clause-again : goal.returns-in_err-list_with-in-Lone-clause-again
unfolding modes_of
returns-in_err-list_with-in-Lone-clause-again c wanted is constant =
    let old = modes_of c.args.self.now in
    let same = subst (λ kept. (byte : ℕ) → kept_modes kept byte ≡ old byte) c.in-Lone.is c.ready.ensures.modes in
    absurd (false≢true (c.if-not-set.ensures.again wanted is (λ byte covers. same byte ∙ constant byte covers)))
