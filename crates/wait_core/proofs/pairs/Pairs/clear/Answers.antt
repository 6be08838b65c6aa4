use Rattle.wait_core.proofs.Common.{common_steps, ◌≡◌, ◌∙◌, ap, sym, subst, arith, false, List, length, get_or, ◌==◌, if◌then◌else◌, ProcessSet, pair_in, is_member, no_process}
use Rattle.std.specs.Vec.{vec_len}
use Rattle.std.proofs.lemmas.List.{with_items_is}
use Rattle.wait_core.proofs.PairLemmas.{cleared_all, cleared_more, left_more}
use Rattle.wait_core.proofs.pairs.Pairs.clear.Goals as goal

pub loop-row-init : goal.loop-row-init
loop-row-init c = grind (arith, common_steps)

pub loop-row-preserved : goal.loop-row-preserved
loop-row-preserved c = grind (arith, common_steps, cleared_more, left_more)

pub returns : goal.returns
unfolding pair_in
returns c p q few =
    let rows = c.args.self.now.rows in
    let was = c.deref_mut-row-items.result.now in
    let now = c.loop-row.row-items in
    let count : vec_len rows ≡ length rows.items = rows.ok.0 in
    let long : length now ≡ vec_len rows = c.loop-row.auto.row-items ∙ ap (λ (l : List ProcessSet). length l) c.deref_mut-row-items.ensures.value ∙ sym count in
    let Cleared : List ProcessSet → List ProcessSet → Type 0 =
    λ before after. is_member (get_or after p no_process) q ≡ (if q == c.args.process then false else is_member (get_or before p no_process) q) in
    subst (Cleared rows.items) (sym (with_items_is rows now long))
    (subst (λ (l : List ProcessSet). Cleared l now) c.deref_mut-row-items.ensures.value
    (cleared_all was now c.args.process c.loop-row.row-index c.loop-row.auto.row-items c.loop-row-test.false c.loop-row.invariant.cleared p q few))
