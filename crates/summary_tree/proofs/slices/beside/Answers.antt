use Rattle.std.proofs.Common.{None, take, drop, ap, ◌∙◌}
use Rattle.std.specs.List.{last_or, slice_get}
use Rattle.std.proofs.lemmas.List.{take_rest}
use Rattle.summary_tree.proofs.BesideLemmas.{before_at_place, found_at_place}
use Rattle.summary_tree.proofs.slices.beside.Goals as goal

pub returns-clause-before : goal.returns-clause-before
returns-clause-before g c =
    let p = g.C.Cut.is_behind c.args.cut.now in
    c.last.ensures ∙ (ap (λ n. last_or None (take n c.args.items.now)) c.place_of-place.ensures ∙ ap (last_or None) (before_at_place p c.args.items.now))

pub returns-clause-behind : goal.returns-clause-behind
returns-clause-behind g c =
    let p = g.C.Cut.is_behind c.args.cut.now in
    c.first.ensures ∙ (ap (λ xs. slice_get xs 0) (take_rest c.args.items.now c.place_of-place.result) ∙ (ap (λ n. slice_get (drop n c.args.items.now) 0) c.place_of-place.ensures ∙ found_at_place p c.args.items.now))
