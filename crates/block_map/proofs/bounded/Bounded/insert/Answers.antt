use Rattle.std.proofs.Common.{◌≡◌, ◌+◌, Option, Some, length, if◌then◌else◌, is_some, sym, ap, subst, ◌∙◌}
use Rattle.std.specs.Map.{lookup}
use Rattle.std.specs.BTreeMap.{insert_entry, is_at}
use Rattle.slab.specs.Slab.{Updates}
use Rattle.block_map.specs.Places.{ArePlaced, blocks_at}
use Rattle.block_map.proofs.Places.{insert_placed, insert_there, kept_placed, no_place}
use Rattle.block_map.proofs.bounded.Bounded.insert.Goals as goal

pub invariant_of-self-2 : goal.invariant_of-self-2
invariant_of-self-2 g c =
    let cmp = g.K.Ord.cmp in
    let bound = c.args.bound in
    let test = is_at (cmp bound) in
    let places = c.self.inside.places.entries in
    let mid = c.reserve.new.self in
    let end = c.insert_reserved.new.self in
    let place = c.vacant_key-place.result in
    let same : c.insert_reserved.result ≡ place = c.insert_reserved.ensures.key ∙ sym c.vacant_key-place.ensures.value in
    let none = no_place test places c.self.inside.blocks (ap (λ bs. lookup test bs.entries) c.self.view_is ∙ c.requires) in
    let entries = c.in_ok-insert.ensures.entries in
    subst (λ ps. ArePlaced ps end) (sym entries)
    (insert_placed cmp places mid end bound place c.args.block (kept_placed places c.self.inside.blocks mid c.reserve.ensures.rest_kept c.self.invariant) c.vacant_key-place.ensures.vacant
    (subst (λ p. Updates mid end p (Some c.args.block)) same c.insert_reserved.ensures.updates) c.insert_reserved.ensures.len
    (ap length (sym entries) ∙ (c.in_ok-insert.ensures.len ∙ ap (λ (old : Option _). length places + (if is_some old then 0 else 1)) (c.in_ok-insert.ensures.old ∙ none))))

pub returns-clause-ok : goal.returns-clause-ok
returns-clause-ok g c =
    let cmp = g.K.Ord.cmp in
    let bound = c.args.bound in
    let places = c.self.inside.places.entries in
    let mid = c.reserve.new.self in
    let end = c.insert_reserved.new.self in
    let place = c.vacant_key-place.result in
    let same : c.insert_reserved.result ≡ place = c.insert_reserved.ensures.key ∙ sym c.vacant_key-place.ensures.value in
    ap (λ ps. blocks_at ps end) c.in_ok-insert.ensures.entries
    ∙ (insert_there cmp places mid end bound place c.args.block (kept_placed places c.self.inside.blocks mid c.reserve.ensures.rest_kept c.self.invariant) c.vacant_key-place.ensures.vacant
    (subst (λ p. Updates mid end p (Some c.args.block)) same c.insert_reserved.ensures.updates)
    ∙ ap (λ bs. insert_entry cmp bs bound c.args.block) (ap (blocks_at places) c.reserve.ensures.rest_kept ∙ ap (λ bs. bs.entries) c.self.view_is))
