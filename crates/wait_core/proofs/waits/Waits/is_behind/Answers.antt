use borrow.Author.Tests.{tests}
use Rattle.wait_core.proofs.Common.{rules, ◌≡◌, ◌∙◌, ◌↔◌, ap, sym, subst, true, false, Any, take, get_or, IsTrue, cases_from_any, get_or_default, get_or_from_slice_get, Wait, WaitsConflict, is_member, waits_of, policy_of}
use Rattle.std.proofs.lemmas.Iterator.{YieldsList-from_slice}
use Rattle.wait_core.proofs.BehindLemmas.{behind_none_at}
use Rattle.wait_core.proofs.FileLemmas.{any_from_cases}
use Rattle.wait_core.proofs.waits.Waits.is_behind.Goals as goal

pub returns-then-has : goal.returns-then-has
unfolding waits_of
returns-then-has c wait there =
    let self = c.args.self.now in
    let here : c.index-wait.result.now ≡ wait =
    c.index-wait.ensures ∙ get_or_default self.waits.items c.args.i c.index-wait.result.now wait c.requires.place
    ∙ get_or_from_slice_get self.waits.items c.args.i wait wait there in
    let Conflicts = λ (v : Wait). WaitsConflict v c.index-wait.result.now in
    let earlier = any_from_cases Conflicts (take c.args.i self.waits.items) c.any.result
    (cases_from_any _ _ _ Conflicts (λ v. ¬ Conflicts v) c.any.ensures.ran (YieldsList-from_slice (take c.args.i self.waits.items) cc)
    (λ x q k. search (rules, tests)) (λ x q k. search (rules, tests))) in
    subst (λ (w : Wait). IsTrue c.any.result ↔ Any (λ v. WaitsConflict v w) (take c.args.i self.waits.items)) here earlier

pub returns-else-has : goal.returns-else-has
unfolding waits_of policy_of
returns-else-has c wait there =
    let self = c.args.self.now in
    let is : get_or self.waits.items c.args.i wait ≡ wait = get_or_from_slice_get self.waits.items c.args.i wait wait there in
    let here : c.index-wait.result.now ≡ wait = c.index-wait.ensures ∙ get_or_default self.waits.items c.args.i c.index-wait.result.now wait c.requires.place ∙ is in
    let out : is_member self.behind wait.p ≡ false = sym (ap (λ (w : Wait). is_member self.behind w.p) here) ∙ sym c.has.ensures ∙ c.if-has.false in (
      λ yes. absurd (let no = c.if-has.false in let e : true ≡ false = sym yes ∙ no in cc),
      λ some. absurd (behind_none_at self.behind self.waits.items c.args.i wait (self.behind_none c.requires.policy) c.requires.place is out some),
    )
