use Rattle.std.proofs.Common.{None, Some, refl, subst, ◌∙◌}
use Rattle.block_map.specs.Kept.{SetsBlock}
use Rattle.block_map.specs.declared.blocks.Blocks.{Blocks}
use Rattle.block_map.proofs.Kept.{lent_so, placed}
use Rattle.block_map.proofs.Placed.{last_within}
use Rattle.block_map.proofs.blocks.Blocks.block_for_mut.Goals as goal

pub at_mut-requires : goal.at_mut-requires
at_mut-requires g c = (c.in-Some.field-0-0, c.in-Some.ensures.place)

pub returns-in-Some : goal.returns-in-Some
returns-in-Some g c =
    let o = g.met.K.Ord.total in
    let old = c.args.self.now in
    let bound = c.in-Some.field-0-0 in
    let found = c.in-Some.ensures.place in
    let last = c.in-Some.ensures.bound ∙ last_within o c.args.key old.first old.others.entries c.requires.1 in (
      (
        refl,
        (λ w.
            let end : Blocks g.row.K.Denot g.row.V.Denot = record { first = old.first; others = c.at_mut.follows.lender w; alloc = old.alloc } in
            lent_so c.at_mut.result (λ sets. subst (λ b. SetsBlock g.K.Ord.cmp b old end w) last (refl, sets bound found)) (c.at_mut.follows.holds w)),
        (refl, c.at_mut.follows.holds-at-none),
      ),
      record { lends = tt; value = c.at_mut.ensures.value bound found ∙ placed o c.args.key old (Some bound) c.requires.1 last },
    )

pub returns-in-None : goal.returns-in-None
returns-in-None g c =
    let o = g.met.K.Ord.total in
    let old = c.args.self.now in
    let none = c.in-None.ensures.bound ∙ last_within o c.args.key old.first old.others.entries c.requires.1 in (
      (
        refl,
        (λ w.
            let end : Blocks g.row.K.Denot g.row.V.Denot = record { first = w; others = old.others; alloc = old.alloc } in
            subst (λ b. SetsBlock g.K.Ord.cmp b old end w) none (refl, refl)),
        (refl, refl),
      ),
      record { lends = tt; value = placed o c.args.key old None c.requires.1 none },
    )
