use Rattle.wait_core.proofs.Common.{◌≡◌, ◌∙◌, ap, sym, subst, get_or, List, IsTrue, ProcessSet, pair_in, is_member, no_process}
use Rattle.std.proofs.Common.{replicate}
use Rattle.wait_core.proofs.PairLemmas.{none_in_rows}
use Rattle.wait_core.proofs.pairs.Pairs.new.Goals as goal

pub returns : goal.returns
unfolding pair_in
returns c p q =
    let rows : c.in_ok-rows.rows.items ≡ replicate 65 no_process =
    c.in_ok-rows.ensures.items_if_clones_equal (λ row clone. clone) ∙ ap (λ (row : ProcessSet). replicate 65 row) c.empty.ensures in
    subst (λ (items : List ProcessSet). ¬ IsTrue (is_member (get_or items p no_process) q)) (sym rows) (none_in_rows 65 p q)
