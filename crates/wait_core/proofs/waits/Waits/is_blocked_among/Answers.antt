use Rattle.wait_core.proofs.Common.{◌≡◌, ◌∙◌, [], arith, false, get_or, subst, sym, common_steps, get_or_default, get_or_from_slice_get, locks_of, waits_of, policy_of}
use Rattle.wait_core.specs.Settled.{IsKnown}
use Rattle.wait_core.proofs.DecideLemmas.{blocked_known}
use Rattle.wait_core.proofs.SettledLemmas.{blocked_at}
use Rattle.wait_core.proofs.waits.Waits.is_blocked_among.Goals as goal
use Rattle.wait_core.proofs.waits.Waits.is_blocked_among.Goals.{then-not-all, else-not-all}

pub returns-then-is_known_blocked : goal.returns-then-is_known_blocked
unfolding waits_of policy_of
returns-then-is_known_blocked c wait there = elim c.if-not-all.branch [
  | then-not-all w ↦
      (let self = c.args.self.now in
      let laws = c.conflicts_are_decided.ensures in
      let is : get_or self.waits.items c.args.i wait ≡ wait = get_or_from_slice_get self.waits.items c.args.i wait wait there in
      let here : w.index.result.now ≡ wait = w.index.ensures ∙ get_or_default self.waits.items c.args.i w.index.result.now wait c.requires.place ∙ is in
      let known = subst (IsKnown self) here (w.is_known_blocked.ensures (sym w.value-is ∙ c.if-is_known_blocked.true)) in
      let not_all : c.args.all ≡ false = grind (arith, common_steps) in (
        λ _. blocked_at (IsKnown self) self.policy (locks_of c.args.books.now) [] self.waits.items c.args.i wait c.requires.place is known
            (blocked_known laws.bytes laws.flocks (IsKnown self) self.policy c.args.books.now [] self.waits.items (c.requires.others not_all)),
        λ _. c.if-is_known_blocked.true,
      ))
  | else-not-all w ↦ absurd (grind (arith, common_steps))
]
