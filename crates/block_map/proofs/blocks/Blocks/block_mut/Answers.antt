use Rattle.std.proofs.Common.{refl, sym, ap, subst, ◌∙◌}
use Rattle.block_map.specs.Kept.{block_at, SetsBlock}
use Rattle.block_map.specs.declared.blocks.Blocks.{Blocks}
use Rattle.block_map.proofs.Kept.{lent_so}
use Rattle.block_map.proofs.blocks.Blocks.block_mut.Goals as goal

pub returns-in-Some : goal.returns-in-Some
returns-in-Some g c =
    let cmp = g.K.Ord.cmp in
    let old = c.args.self.now in (
      (
        refl,
        (λ w.
            let end : Blocks g.row.K.Denot g.row.V.Denot = record { first = old.first; others = c.get_mut.follows.lender w; alloc = old.alloc } in
            lent_so c.get_mut.result (λ sets. subst (λ b. SetsBlock cmp b old end w) (sym c.in-Some.is) (refl, sets)) (c.get_mut.follows.holds w)),
        (refl, c.get_mut.follows.holds-at-none),
      ),
      record { lends = tt; value = c.get_mut.ensures.value ∙ ap (λ b. block_at cmp b old) (sym c.in-Some.is) },
    )
