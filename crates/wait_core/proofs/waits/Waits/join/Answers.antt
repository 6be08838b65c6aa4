use Rattle.wait_core.proofs.Common.{◌≡◌, ◌∙◌, [], true, false, subst, sym, waits_of, policy_of, AllBlockedElsewhere, changed_files}
use Rattle.wait_core.proofs.SettledLemmas.{among_more, elsewhere_joined, elsewhere_more}
use Rattle.wait_core.proofs.waits.Waits.join.Goals as goal

pub returns-clause-blocked : goal.returns-clause-blocked
unfolding waits_of policy_of changed_files
returns-clause-blocked c locks was =
    let self = c.args.self.now in
    let more = c.with-self.result in
    let file = c.args.wait.file in
    let members = rw c.push.ensures.changed at c.with-self.ensures in
    record {
      blocked = rw c.push.ensures.policy (subst (AllBlockedElsewhere more self.policy locks []) (sym c.push.ensures.last)
          (elsewhere_joined more self.policy locks [] self.waits.items c.args.wait
          (λ elsewhere. absurd (let e : true ≡ false = sym (among_more self.changed more file members) ∙ elsewhere in cc))
          (elsewhere_more self.changed more self.policy locks file members self.waits.items was.blocked)));
    }
