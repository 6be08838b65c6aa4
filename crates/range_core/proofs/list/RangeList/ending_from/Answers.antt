use Rattle.std.proofs.Common.{ltb, ltb-true, ltb-false, rules}
use Rattle.std.proofs.lemmas.List.Sorted.{IsPartitionPoint-from_clause, IsPartitionedBy-ltb}
use Rattle.range_core.specs.declared.Mode.{Mode}
use Rattle.range_core.specs.declared.Span.{Span}
use Rattle.range_core.proofs.RunLemmas.{lasts_rise}
use Rattle.range_core.proofs.list.RangeList.ending_from.Goals as goal

pub returns-clause-parts : goal.returns-clause-parts
returns-clause-parts c =
    let list = c.args.self.now in
    let rise = rw (← c.as_slice.ensures) at (lasts_rise list.runs.items list.ranges list.apart) in
    let parted = IsPartitionedBy-ltb (λ (run : Mode × Span). run.1.last) _ c.args.byte rise in
    let point = IsPartitionPoint-from_clause (λ (run : Mode × Span). ltb run.1.last c.args.byte) _ _ c.partition_point.ensures.partitioned parted (λ a r q k. search rules) in
    rw (← c.as_slice.ensures) (
      λ k d low high. ltb-true _ _ (point.0 k d low high),
      λ k d low high. ltb-false _ _ (point.1 k d low high),
    )
