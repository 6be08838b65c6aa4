use Rattle.wait_core.proofs.Common.{[], inl, inr, get_or, IsFalse, ∥∥₁_map, get_or_default, Wait, has_file, locks_of, changed_files, waits_of, policy_of}
use Rattle.wait_core.specs.Settled.{IsKnown}
use Rattle.wait_core.proofs.DecideLemmas.{blocked_known, told_known}
use Rattle.wait_core.proofs.SettledLemmas.{all_where, blocked_more, told_blocked}
use Rattle.wait_core.proofs.waits.Waits.next_ready_on_changed.Goals as goal

pub returns-then-is_empty-clause-settled : goal.returns-then-is_empty-clause-settled
unfolding waits_of policy_of changed_files
returns-then-is_empty-clause-settled c =
    let self = c.args.self.now in
    let laws = c.conflicts_are_decided.ensures in
    all_where (λ wait. IsFalse (has_file self.changed wait.file)) self.policy (locks_of c.args.books.now) (λ wait. c.is_empty.ensures.none c.if-is_empty.true wait.file) [] self.waits.items
    (blocked_known laws.bytes laws.flocks (λ wait. IsFalse (has_file self.changed wait.file)) self.policy c.args.books.now [] self.waits.items (∥∥₁_map c.requires.blocked (λ known. known.blocked)))

pub next_ready_among-requires-clause-others : goal.next_ready_among-requires-clause-others
unfolding waits_of policy_of changed_files
next_ready_among-requires-clause-others c =
    let self = c.args.self.now in
    let locks = locks_of c.args.books.now in
    let waits = self.waits.items in
    let told = told_known c.conflicts_are_decided.ensures.processes self locks c.requires.told in
    let Elsewhere : Wait → Type 0 = λ wait. IsFalse (has_file self.changed wait.file) in
    λ _. ∥∥₁_map c.requires.blocked (λ known.
    blocked_more (IsKnown self) Elsewhere self.policy locks [] waits
    (λ k d within one. elim one [
      | inl elsewhere ↦ inl elsewhere
      | inr is_told ↦ inr (told_blocked self locks self.processes k (get_or waits k d) self.few self.well_formed self.apart told within
          (get_or_default waits k (get_or waits k d) d within) is_told)
    ]) known.blocked)
