use Rattle.std.proofs.Common.{◌+◌, Option, length, if◌then◌else◌, is_some, sym, ap, subst, ◌∙◌}
use Rattle.std.specs.Map.{remove_entry}
use Rattle.std.specs.BTreeMap.{is_at}
use Rattle.block_map.specs.Places.{ArePlaced, blocks_at}
use Rattle.block_map.proofs.Places.{is_block, no_block, none_goes, remove_placed, remove_there}
use Rattle.block_map.proofs.bounded.Bounded.remove.Goals as goal

pub remove-requires-in-Some : goal.remove-requires-in-Some
remove-requires-in-Some g c =
    is_block (is_at (g.K.Ord.cmp c.args.bound)) c.self.inside.places.entries c.self.inside.blocks c.in-Some.place c.self.invariant (sym c.remove.ensures.value ∙ c.in-Some.is)

pub invariant_of-self : goal.invariant_of-self
invariant_of-self g c =
    let entries = c.remove.ensures.entries in
    subst (λ ps. ArePlaced ps c.remove-in-Some.new.self) (sym entries)
    (remove_placed (is_at (g.K.Ord.cmp c.args.bound)) c.self.inside.places.entries c.self.inside.blocks c.remove-in-Some.new.self c.in-Some.place c.self.invariant (sym c.remove.ensures.value ∙ c.in-Some.is)
    c.remove-in-Some.ensures.updates c.remove-in-Some.ensures.len
    (ap (λ ps. length ps + 1) (sym entries) ∙ (ap (λ (gone : Option _). length c.remove.new.self.entries + (if is_some gone then 1 else 0)) (sym c.in-Some.is) ∙ c.remove.ensures.len)))

pub returns-in-Some : goal.returns-in-Some
returns-in-Some g c =
    let test = is_at (g.K.Ord.cmp c.args.bound) in
    ap (λ ps. blocks_at ps c.remove-in-Some.new.self) c.remove.ensures.entries
    ∙ (remove_there test c.self.inside.places.entries c.self.inside.blocks c.remove-in-Some.new.self c.in-Some.place c.self.invariant.apart (sym c.remove.ensures.value ∙ c.in-Some.is) c.remove-in-Some.ensures.updates
    ∙ ap (λ bs. remove_entry test bs.entries) c.self.view_is)

pub returns-in_default : goal.returns-in_default
returns-in_default g c =
    let test = is_at (g.K.Ord.cmp c.args.bound) in
    let places = c.self.inside.places.entries in
    let slab = c.self.inside.blocks in
    let none = sym c.remove.ensures.value ∙ c.in_default.is in
    ap (λ ps. blocks_at ps slab) (c.remove.ensures.entries ∙ none_goes test places none)
    ∙ (sym (none_goes test (blocks_at places slab) (no_block test places slab none)) ∙ ap (λ bs. remove_entry test bs.entries) c.self.view_is)
