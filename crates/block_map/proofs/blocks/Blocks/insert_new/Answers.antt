use Rattle.std.proofs.Common.{◌≡◌, false, true, is_some, Some, refl, sym, ap, subst, ◌∙◌}
use Rattle.block_map.specs.Kept.{HasPlace}
use Rattle.block_map.proofs.Kept.{insert_keyed, inserted_then, kept_keyed, lent_is, looked_there, on_any_err, same_entries, same_keyed, same_order, told}
use Rattle.block_map.proofs.blocks.Blocks.insert_new.Goals as goal

pub returns-in_default : goal.returns-in_default
returns-in_default g c =
    let o = g.met.K.Ord.total in
    let old = c.args.self.now in
    let lent = c.unwrap-block.result in
    let its = lent_is c.block_for_mut.result lent _ c.block_for_mut.ensures.value c.unwrap-block.ensures in
    let sets = told c.block_for_mut.result lent c.unwrap-block.ensures (c.block_for_mut.follows.holds c.insert_new.new.self) in
    let done =
    insert_keyed o c.args.key c.args.value old (c.block_for_mut.follows.lender c.insert_new.new.self) lent.now c.insert_new.new.self c.insert_new.result c.requires its sets
    c.insert_new.ensures.told c.insert_new.ensures.ok c.insert_new.ensures.there c.insert_new.ensures.err
    in
    record { told = done.told; ok = done.ok; there = done.there; err = done.err; parted = done.parted }

pub make_room-requires-clause-parted : goal.make_room-requires-clause-parted
make_room-requires-clause-parted g c =
    let o = g.met.K.Ord.total in
    let old = c.args.self.now in
    let lent = c.unwrap-block.result in
    let its = lent_is c.block_for_mut.result lent _ c.block_for_mut.ensures.value c.unwrap-block.ensures in
    let mid = c.block_for_mut.follows.lender lent.now in
    let same = same_keyed o c.args.key old mid lent.now lent.now c.requires its (told c.block_for_mut.result lent c.unwrap-block.ensures (c.block_for_mut.follows.holds lent.now)) refl in
    same_order o old mid same c.requires

pub make_room-requires-clause-place : goal.make_room-requires-clause-place
make_room-requires-clause-place g c =
    let o = g.met.K.Ord.total in
    let old = c.args.self.now in
    let lent = c.unwrap-block.result in
    let its = lent_is c.block_for_mut.result lent _ c.block_for_mut.ensures.value c.unwrap-block.ensures in
    let mid = c.block_for_mut.follows.lender lent.now in
    let same = same_keyed o c.args.key old mid lent.now lent.now c.requires its (told c.block_for_mut.result lent c.unwrap-block.ensures (c.block_for_mut.follows.holds lent.now)) refl in
    subst (λ block. HasPlace (Some block) c.in-Some.place) (kept_keyed o c.args.key old mid lent.now its same) c.in-Some.ensures.some

pub returns-in_err-make_room-clause-there : goal.returns-in_err-make_room-clause-there
returns-in_err-make_room-clause-there g c there =
    let lent = c.unwrap-block.result in
    let its = lent_is c.block_for_mut.result lent _ c.block_for_mut.ensures.value c.unwrap-block.ensures in
    absurd (let no : false ≡ true = sym (ap is_some (sym (looked_there g.met.K.Ord.total c.args.key c.args.self.now lent.now c.requires its) ∙ c.in-Some.ensures.missing)) ∙ there in cc)

pub returns-in_err-make_room-clause-err : goal.returns-in_err-make_room-clause-err
returns-in_err-make_room-clause-err g c =
    let o = g.met.K.Ord.total in
    let old = c.args.self.now in
    let lent = c.unwrap-block.result in
    let its = lent_is c.block_for_mut.result lent _ c.block_for_mut.ensures.value c.unwrap-block.ensures in
    let mid = c.block_for_mut.follows.lender lent.now in
    let same = same_keyed o c.args.key old mid lent.now lent.now c.requires its (told c.block_for_mut.result lent c.unwrap-block.ensures (c.block_for_mut.follows.holds lent.now)) refl in
    on_any_err c.from_residual.result (c.make_room.ensures.0 ∙ same_entries o old mid same)

pub returns : goal.returns
returns g c =
    let o = g.met.K.Ord.total in
    let old = c.args.self.now in
    let lent = c.unwrap-block.result in
    let its = lent_is c.block_for_mut.result lent _ c.block_for_mut.ensures.value c.unwrap-block.ensures in
    let mid = c.block_for_mut.follows.lender lent.now in
    let same = same_keyed o c.args.key old mid lent.now lent.now c.requires its (told c.block_for_mut.result lent c.unwrap-block.ensures (c.block_for_mut.follows.holds lent.now)) refl in
    let room = c.make_room.new.self in
    let again = c.unwrap.result in
    let end = c.block_for_mut-2.follows.lender c.insert_new-2.new.self in
    let done =
    inserted_then o c.args.key c.args.value old room end c.insert_new-2.result (c.make_room.ensures.0 ∙ same_entries o old mid same)
    (insert_keyed o c.args.key c.args.value room end again.now c.insert_new-2.new.self c.insert_new-2.result c.make_room.ensures.1
    (lent_is c.block_for_mut-2.result again _ c.block_for_mut-2.ensures.value c.unwrap.ensures)
    (told c.block_for_mut-2.result again c.unwrap.ensures (c.block_for_mut-2.follows.holds c.insert_new-2.new.self)) c.insert_new-2.ensures.told c.insert_new-2.ensures.ok c.insert_new-2.ensures.there c.insert_new-2.ensures.err)
    in
    record { told = done.told; ok = done.ok; there = done.there; err = done.err; parted = done.parted }
