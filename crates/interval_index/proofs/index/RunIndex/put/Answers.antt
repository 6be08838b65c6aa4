use Rattle.interval_index.proofs.Common.{◌≡◌, ◌≢◌, None, sym, subst, find, Holder}
use Rattle.interval_index.specs.Tests.{has_key}
use Rattle.interval_index.proofs.index.RunIndex.put.Goals as goal

pub replace-requires-clause-held : goal.replace-requires-clause-held
replace-requires-clause-held c =
    subst (λ (h : Holder). find (has_key c.args.run.span.first h) c.args.self.now.runs ≢ None) c.holder.ensures (c.has.ensures.yes c.if-has.true)

pub add-requires-clause-new : goal.add-requires-clause-new
add-requires-clause-new c =
    subst (λ (h : Holder). find (has_key c.args.run.span.first h) c.args.self.now.runs ≡ None) c.holder.ensures (c.has.ensures.no c.if-has.false)

pub returns-then-has-clause-added : goal.returns-then-has-clause-added
returns-then-has-clause-added c none =
    absurd (c.has.ensures.yes c.if-has.true (subst (λ (h : Holder). find (has_key c.args.run.span.first h) c.args.self.now.runs ≡ None) (sym c.holder.ensures) none))

pub returns-else-has-clause-replaced : goal.returns-else-has-clause-replaced
returns-else-has-clause-replaced c some =
    absurd (some (subst (λ (h : Holder). find (has_key c.args.run.span.first h) c.args.self.now.runs ≡ None) c.holder.ensures (c.has.ensures.no c.if-has.false)))
