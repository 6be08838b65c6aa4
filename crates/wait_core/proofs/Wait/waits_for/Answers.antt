use Rattle.wait_core.proofs.Common.{refl}
use Rattle.wait_core.proofs.Wait.waits_for.Goals as goal

pub returns-then-is_traditional : goal.returns-then-is_traditional
returns-then-is_traditional c locks same =
    let blocks = c.is_blocked_by_list.ensures (locks.bytes c.args.self.now.file) same in (
      λ yes. record { of_p = refl; traditional = c.is_traditional.ensures.0 c.if-is_traditional.true; blocked = blocks.0 yes },
      λ is. blocks.1 is.blocked,
    )
