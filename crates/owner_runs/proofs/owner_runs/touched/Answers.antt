use Rattle.std.proofs.Common.{◌+◌, ltb, leb, ltb-true, ltb-false, leb-true, leb-false, rules}
use Rattle.std.proofs.lemmas.List.Sorted.{IsPartitionPoint-from_clause, IsPartitionedBy-leb, IsPartitionedBy-ltb}
use Rattle.range_core.specs.declared.Mode.{Mode}
use Rattle.range_core.specs.declared.Span.{Span}
use Rattle.owner_runs.proofs.TouchingLemmas.{are_touched, firsts_rise, lasts_rise}
use Rattle.owner_runs.proofs.owner_runs.touched.Goals as goal

pub returns : goal.returns
returns c =
    let runs = c.args.runs.now in
    let rising = c.requires.rising in
    let ranges = c.requires.ranges in
    let before = c.saturating_sub-before.result in
    let behind = c.args.span.last + 1 in
    let first = IsPartitionPoint-from_clause (λ (run : Mode × Span). ltb run.1.last before) _ _ c.partition_point-start.ensures.partitioned
    (IsPartitionedBy-ltb (λ (run : Mode × Span). run.1.last) runs before (lasts_rise runs rising ranges)) (λ a r q k. search rules) in
    let second = IsPartitionPoint-from_clause (λ (run : Mode × Span). leb run.1.first behind) _ _ c.partition_point-end.ensures.partitioned
    (IsPartitionedBy-leb (λ (run : Mode × Span). run.1.first) runs behind (firsts_rise runs rising ranges)) (λ a r q k. search rules) in
    are_touched runs rising ranges c.args.span before c.partition_point-start.result c.partition_point-end.result c.saturating_sub-before.ensures c.requires.span.0
    c.partition_point-end.ensures.bound c.partition_point-start.ensures.bound
    (λ k d low high. ltb-true _ _ (first.0 k d low high)) (λ k d low high. ltb-false _ _ (first.1 k d low high))
    (λ k d low high. leb-true _ _ (second.0 k d low high)) (λ k d low high. leb-false _ _ (second.1 k d low high))
