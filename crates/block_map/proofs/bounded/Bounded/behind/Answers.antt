use Rattle.std.proofs.Common.{◌≡◌, sym, ap, ◌∙◌}
use Rattle.std.specs.BTreeMap.Range.{entries_between, range_contains}
use Rattle.std.specs.declared.ops.Bound.TheVariants.{Unbounded}
use Rattle.block_map.specs.Places.{behind_bound, blocks_at}
use Rattle.block_map.proofs.Places.{some_blocks}
use Rattle.block_map.proofs.bounded.Bounded.behind.Goals as goal
use Rattle.block_map.proofs.bounded.Bounded.behind.Goals.{in-None, in-Some}

pub returns : goal.returns
returns g c =
    let cmp = g.K.Ord.cmp in
    let from = c.match-bound.from in
    let slab = c.self.inside.blocks in
    let is : from ≡ behind_bound c.args.bound = elim c.match-bound.branch [
      | in-None w ↦ w.from-is ∙ ap behind_bound (sym w.in-None.is)
      | in-Some w ↦ w.from-is ∙ ap behind_bound (sym w.in-Some.is)
    ]
    in
    ap (λ places. blocks_at places slab) (c.range.ensures.between tt)
    ∙ (sym (some_blocks (range_contains cmp from Unbounded) c.self.inside.places.entries slab)
    ∙ (ap (λ bs. entries_between cmp from Unbounded bs.entries) c.self.view_is ∙ ap (λ b. entries_between cmp b Unbounded c.args.self.now.entries) is))
