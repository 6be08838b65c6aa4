use Rattle.history_core.proofs.Common.{◌∙◌, sym, subst, false≢true, bytes_in}
use Rattle.history_core.proofs.ByteLemmas.{AreHad, had_same, same_bytes}
use Rattle.history_core.proofs.byte_locks.ByteLocks.gives_same.Goals as goal

pub returns-then-has_locks : goal.returns-then-has_locks
returns-then-has_locks c =
    let one = c.args.self.now.runs.items in
    let other = c.args.other.now.runs.items in
    let first : AreHad (bytes_in one) other = subst (AreHad (bytes_in one)) c.deref.ensures.value (c.has_locks.ensures.0 c.if-has_locks.true) in
    let second = c.has_locks-then-has_locks.ensures in
    let back = c.deref-then-has_locks.ensures.value in (
      λ holds. same_bytes one other first (subst (AreHad (bytes_in other)) back (second.0 holds)),
      λ same. second.1 (subst (AreHad (bytes_in other)) (sym back) (had_same other one c.args.self.now.are_true (sym same))),
    )

pub returns-else-has_locks : goal.returns-else-has_locks
returns-else-has_locks c =
    let one = c.args.self.now.runs.items in
    let other = c.args.other.now.runs.items in (
      λ holds. absurd (false≢true (sym c.if-has_locks.false ∙ holds)),
      λ same. absurd (false≢true (sym c.if-has_locks.false
          ∙ c.has_locks.ensures.1 (subst (AreHad (bytes_in one)) (sym c.deref.ensures.value) (had_same one other c.args.other.now.are_true same)))),
    )
