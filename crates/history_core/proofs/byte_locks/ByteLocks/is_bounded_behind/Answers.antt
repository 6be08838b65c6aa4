use Rattle.history_core.proofs.Common.{rules, ◌≤◌, ◌+◌, ◌^◌, arith, common_steps}
use Rattle.history_core.proofs.ByteLemmas.{bytes_in-past}
use Rattle.history_core.proofs.byte_locks.ByteLocks.is_bounded_behind.Goals as goal

pub returns-then-told-eq18446744073709551615 : goal.returns-then-told-eq18446744073709551615
returns-then-told-eq18446744073709551615 c =
    let last = c.if-told-eq18446744073709551615.true in
    let past : 2 ^ 64 ≤ c.args.told.span.last + 1 = omega (arith, last) in
    let none = bytes_in-past c.args.self.now.runs.items c.args.told.owner (c.args.told.span.last + 1) c.args.self.now.are_true past in
    (λ h same. grind (arith, common_steps, none, same), λ h. search (rules, last))
