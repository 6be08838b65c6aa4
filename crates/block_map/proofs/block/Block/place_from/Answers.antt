use Rattle.std.proofs.Common.{true, false, sym, ap, ◌∙◌, drop}
use native.Mathlib.Omega.{arith}
use Rattle.std.proofs.Math.Numerals.{suc-eq-add-one}
use Rattle.std.specs.BTreeMap.Range.{range_contains}
use Rattle.std.specs.declared.ops.Bound.TheVariants.{Excluded, Included, Unbounded}
use Rattle.block_map.proofs.Ranges.{all_from_start, excluded, from_found, from_missing, included, past_found}
use Rattle.block_map.proofs.block.Block.place_from.Goals as goal

pub overflow_add-result : goal.overflow_add-result
overflow_add-result g c = omega (arith, c.in-Ok-place_of.ensures.within, c.place_of-in-Excluded.ensures.fits)

pub returns-in-Unbounded-clause-entries : goal.returns-in-Unbounded-clause-entries
returns-in-Unbounded-clause-entries g c = rw c.in-Unbounded.is (sym (all_from_start g.K.Ord.cmp c.args.self.now))

pub returns-in-Ok-clause-entries : goal.returns-in-Ok-clause-entries
returns-in-Ok-clause-entries g c =
    let key = c.in-Included.key in
    rw c.in-Included.is (from_found g.met.K.Ord.total key (range_contains g.K.Ord.cmp (Included key) Unbounded) (included g.met.K.Ord.total key) c.args.self.now c.in-Ok.place c.in-Ok.ensures.rising c.in-Ok.ensures.place)

pub returns-in-Err-clause-entries : goal.returns-in-Err-clause-entries
returns-in-Err-clause-entries g c =
    let key = c.in-Included.key in
    rw c.in-Included.is (from_missing g.met.K.Ord.total key true (range_contains g.K.Ord.cmp (Included key) Unbounded) (included g.met.K.Ord.total key) c.args.self.now c.in-Err.place c.in-Err.ensures.place)

pub returns-in-Ok-place_of-clause-entries : goal.returns-in-Ok-place_of-clause-entries
returns-in-Ok-place_of-clause-entries g c =
    let key = c.in-Excluded.key in
    rw c.in-Excluded.is (ap (λ n. drop n c.args.self.now) (sym (suc-eq-add-one c.in-Ok-place_of.place)) ∙ past_found g.met.K.Ord.total key (range_contains g.K.Ord.cmp (Excluded key) Unbounded) (excluded g.met.K.Ord.total key) c.args.self.now c.in-Ok-place_of.place c.in-Ok-place_of.ensures.rising c.in-Ok-place_of.ensures.place)

pub returns-in-Err-place_of-clause-entries : goal.returns-in-Err-place_of-clause-entries
returns-in-Err-place_of-clause-entries g c =
    let key = c.in-Excluded.key in
    rw c.in-Excluded.is (from_missing g.met.K.Ord.total key false (range_contains g.K.Ord.cmp (Excluded key) Unbounded) (excluded g.met.K.Ord.total key) c.args.self.now c.in-Err-place_of.place c.in-Err-place_of.ensures.place)
