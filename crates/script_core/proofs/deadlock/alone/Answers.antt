use Rattle.script_core.proofs.Common.{◌≡◌, ◌<◌, arith, subst, sym, ℕ}
use Rattle.script_core.proofs.DeadlockLemmas.{only_one}
use Rattle.script_core.proofs.deadlock.alone.Goals as goal

pub returns : goal.returns
returns c q =
    let within : c.from.result < 256 = omega arith in
    let one = only_one 256 c.from.result q within in (
      λ is_in. subst (λ (n : ℕ). q ≡ n) c.from.ensures (one.0 is_in),
      λ same. one.1 (subst (λ (n : ℕ). q ≡ n) (sym c.from.ensures) same),
    )
