use Rattle.wait_core.proofs.Common.{rules, ℕ, ◌≡◌, ◌∙◌, ap, sym, subst, Option, Some, ◌∷◌, length, IsLed, follow}
use Rattle.std.specs.Option.{option_copied}
use Rattle.wait_core.specs.Links.{row_at}
use Rattle.wait_core.proofs.LinkLemmas.{led_step}
use Rattle.wait_core.proofs.queues.FileWaitsIterator.next.Goals as goal

-- the wait that is next is followed, and the process before it is led to
step : (c : goal.After-unwrap) → IsLed (row_at c.self.inside.waits.now) (row_at c.self.inside.before.now) 64 (row_at c.self.inside.before.now c.from-process.result)
    × (c.args.self.now ≡ c.unwrap.result.now
    ∷ follow (row_at c.self.inside.waits.now) (row_at c.self.inside.before.now) 64 (row_at c.self.inside.before.now c.from-process.result))
step c =
    let waits = row_at c.self.inside.waits.now in
    let before = row_at c.self.inside.before.now in
    let is : c.self.inside.next ≡ Some c.from-process.result = c.in_ok-self.was ∙ ap (λ (p : ℕ). Some p) (sym c.from-process.ensures) in
    let known : IsLed waits before 64 (Some c.from-process.result) = subst (λ (next : Option ℕ). IsLed waits before 64 next) is c.self.invariant.2 in
    let there : waits c.from-process.result ≡ Some c.unwrap.result.now = sym c.as_ref.ensures.value ∙ ap option_copied c.unwrap.ensures in
    let (led, followed) = led_step waits before 63 c.from-process.result c.unwrap.result.now known there in
    (led, sym c.self.view_is ∙ ap (λ (next : Option ℕ). follow waits before 64 next) is ∙ followed)

pub invariant_of-self : goal.invariant_of-self
invariant_of-self c = (c.self.invariant.0, c.self.invariant.1, (step c).0)

pub returns-clause-steps : goal.returns-clause-steps
returns-clause-steps c = (step c).1

pub returns-clause-goes : goal.returns-clause-goes
returns-clause-goes c =
    let is = ap length (step c).1 in search rules
