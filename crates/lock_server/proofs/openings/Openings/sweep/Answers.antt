use Rattle.lock_server.proofs.Common.{ℕ, ◌≡◌, ◌∙◌, ap, sym, true, false, None, Some, Option, get, option_copied, nat_cmp, open_of, through_at}
use Rattle.lock_server.specs.declared.openings.Seen.{Seen}
use Rattle.lock_server.specs.OpeningsView.{open_in}
use Rattle.lock_server.proofs.openings.Openings.sweep.Goals as goal

pub returns-else-is_empty-clause-gone : goal.returns-else-is_empty-clause-gone
unfolding through_at
returns-else-is_empty-clause-gone c = λ unseen has.
    let seen = c.in-Some.seen.now in
    let was : get nat_cmp c.args.self.now.files c.args.file ≡ Some seen = sym c.get.ensures.value ∙ ap option_copied c.in-Some.is in
    let known : (owner : ℕ) → open_of seen owner ≡ None = λ owner. sym (ap (λ (found : Option Seen). open_in found owner) was) ∙ unseen owner in
    let is = c.is_empty.ensures.1 known in
    let isnt = c.if-is_empty.false in
    let h : true ≡ false = sym is ∙ isnt in cc
