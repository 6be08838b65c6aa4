use Rattle.summary_tree.proofs.ListLemmas.{last_got}
use Rattle.summary_tree.proofs.slices.last.Goals as goal

pub returns : goal.returns
returns g c =
    let got = last_got c.args.items.now in
    (cc)
