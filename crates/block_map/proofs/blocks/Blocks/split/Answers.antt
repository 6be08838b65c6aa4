use Rattle.std.proofs.Common.{◌≡◌, None, Some, [], refl, sym, ap, subst, ◌∙◌, take, drop}
use Rattle.std.specs.Map.{set_value}
use Rattle.std.specs.BTreeMap.{insert_entry, is_at}
use Rattle.std.specs.Option.{option_copied, option_copied_mut}
use Rattle.block_map.specs.Kept.{SetsBlock}
use Rattle.block_map.specs.declared.blocks.Blocks.{Blocks}
use Rattle.block_map.proofs.Kept.{is_lent_mut, lent_there, same_entries, same_order, told}
use Rattle.block_map.proofs.Splits.{empty_there, no_bound, place_within, same_block, split_in, Splits, still_there, unsplit_in}
use Rattle.block_map.proofs.blocks.Blocks.split.Goals as goal

pub insert-requires : goal.insert-requires
insert-requires g c =
    let old = c.args.self.now in
    let others = record old.others { entries = insert_entry g.K.Ord.cmp old.others.entries c.key_at-behind.result [] } in
    let mid : Blocks g.row.K.Denot g.row.V.Denot = record old { others = others } in
    no_bound g.met.K.Ord.total c.args.bound c.key_at-behind.result c.args.place c.unwrap.result.now old mid (record {
      order = c.requires.parted;
      block = sym c.block.ensures ∙ ap option_copied c.unwrap.ensures;
      inside = c.requires.place;
      key = c.key_at-behind.ensures.key;
      rising = c.key_at-behind.ensures.rising;
      first = refl;
      others = refl;
    })

pub unwrap-requires-2 : goal.unwrap-requires-2
unwrap-requires-2 g c =
    let old = c.args.self.now in
    let mid : Blocks g.row.K.Denot g.row.V.Denot = record { first = old.first; others = c.insert.new.self; alloc = c.args.self.now.alloc } in
    lent_there c.block_mut.result c.unwrap.result.now (c.block_mut.ensures.value ∙ still_there g.met.K.Ord.total c.args.bound c.key_at-behind.result c.args.place c.unwrap.result.now old mid (record {
      order = c.requires.parted;
      block = sym c.block.ensures ∙ ap option_copied c.unwrap.ensures;
      inside = c.requires.place;
      key = c.key_at-behind.ensures.key;
      rising = c.key_at-behind.ensures.rising;
      first = refl;
      others = c.in_ok-insert.ensures.ok ∙ ap (insert_entry g.K.Ord.cmp old.others.entries c.key_at-behind.result) c.new.ensures;
    }))

pub split_off-requires : goal.split_off-requires
split_off-requires g c =
    let old = c.args.self.now in
    let mid : Blocks g.row.K.Denot g.row.V.Denot = record { first = old.first; others = c.insert.new.self; alloc = c.args.self.now.alloc } in
    let s : Splits g.met.K.Ord.total c.args.bound c.key_at-behind.result c.args.place c.unwrap.result.now old mid = record {
      order = c.requires.parted;
      block = sym c.block.ensures ∙ ap option_copied c.unwrap.ensures;
      inside = c.requires.place;
      key = c.key_at-behind.ensures.key;
      rising = c.key_at-behind.ensures.rising;
      first = refl;
      others = c.in_ok-insert.ensures.ok ∙ ap (insert_entry g.K.Ord.cmp old.others.entries c.key_at-behind.result) c.new.ensures;
    }
    in
    place_within g.met.K.Ord.total c.args.bound c.key_at-behind.result c.args.place c.unwrap.result.now c.unwrap-2.result.now old mid s (sym c.block_mut.ensures.value ∙ ap option_copied_mut c.unwrap-2.ensures)

pub unwrap-requires-in-Ok : goal.unwrap-requires-in-Ok
unwrap-requires-in-Ok g c =
    let old = c.args.self.now in
    let mid : Blocks g.row.K.Denot g.row.V.Denot = record { first = old.first; others = c.insert.new.self; alloc = c.args.self.now.alloc } in
    let s : Splits g.met.K.Ord.total c.args.bound c.key_at-behind.result c.args.place c.unwrap.result.now old mid = record {
      order = c.requires.parted;
      block = sym c.block.ensures ∙ ap option_copied c.unwrap.ensures;
      inside = c.requires.place;
      key = c.key_at-behind.ensures.key;
      rising = c.key_at-behind.ensures.rising;
      first = refl;
      others = c.in_ok-insert.ensures.ok ∙ ap (insert_entry g.K.Ord.cmp old.others.entries c.key_at-behind.result) c.new.ensures;
    }
    in
    let sets = told c.block_mut.result c.unwrap-2.result c.unwrap-2.ensures (c.block_mut.follows.holds c.split_off.new.self) in
    let there = empty_there g.met.K.Ord.total c.args.bound c.key_at-behind.result c.args.place c.unwrap.result.now c.split_off.new.self old mid (c.block_mut.follows.lender c.split_off.new.self) s sets in
    is_lent_mut c.get_mut.result _ c.get_mut.ensures.value (λ none. let no : None ≡ Some [] = sym none ∙ there in cc)

pub returns-in-Ok : goal.returns-in-Ok
returns-in-Ok g c =
    let old = c.args.self.now in
    let mid : Blocks g.row.K.Denot g.row.V.Denot = record { first = old.first; others = c.insert.new.self; alloc = c.args.self.now.alloc } in
    let s : Splits g.met.K.Ord.total c.args.bound c.key_at-behind.result c.args.place c.unwrap.result.now old mid = record {
      order = c.requires.parted;
      block = sym c.block.ensures ∙ ap option_copied c.unwrap.ensures;
      inside = c.requires.place;
      key = c.key_at-behind.ensures.key;
      rising = c.key_at-behind.ensures.rising;
      first = refl;
      others = c.in_ok-insert.ensures.ok ∙ ap (insert_entry g.K.Ord.cmp old.others.entries c.key_at-behind.result) c.new.ensures;
    }
    in
    let same = same_block g.met.K.Ord.total c.args.bound c.key_at-behind.result c.args.place c.unwrap.result.now c.unwrap-2.result.now old mid s (sym c.block_mut.ensures.value ∙ ap option_copied_mut c.unwrap-2.ensures) in
    let cut = c.block_mut.follows.lender c.split_off.new.self in
    let sets = told c.block_mut.result c.unwrap-2.result c.unwrap-2.ensures (c.block_mut.follows.holds c.split_off.new.self) in
    let end : Blocks g.row.K.Denot g.row.V.Denot = record { first = cut.first; others = c.get_mut.follows.lender c.in-Ok.tail; alloc = c.args.self.now.alloc } in
    split_in g.met.K.Ord.total c.args.bound c.key_at-behind.result c.args.place c.unwrap.result.now old mid cut end s
    (subst (SetsBlock g.K.Ord.cmp c.args.bound mid cut) (c.in-Ok.ensures.ok ∙ ap (take c.args.place) same) sets) refl
    (told c.get_mut.result c.unwrap-in-Ok.result c.unwrap-in-Ok.ensures (c.get_mut.follows.holds c.in-Ok.tail) ∙ ap (set_value (is_at (g.K.Ord.cmp c.key_at-behind.result)) cut.others.entries) (c.in-Ok.ensures.tail ∙ ap (drop c.args.place) same))

pub returns-in-Err : goal.returns-in-Err
returns-in-Err g c =
    let old = c.args.self.now in
    let mid : Blocks g.row.K.Denot g.row.V.Denot = record { first = old.first; others = c.insert.new.self; alloc = c.args.self.now.alloc } in
    let s : Splits g.met.K.Ord.total c.args.bound c.key_at-behind.result c.args.place c.unwrap.result.now old mid = record {
      order = c.requires.parted;
      block = sym c.block.ensures ∙ ap option_copied c.unwrap.ensures;
      inside = c.requires.place;
      key = c.key_at-behind.ensures.key;
      rising = c.key_at-behind.ensures.rising;
      first = refl;
      others = c.in_ok-insert.ensures.ok ∙ ap (insert_entry g.K.Ord.cmp old.others.entries c.key_at-behind.result) c.new.ensures;
    }
    in
    let same = same_block g.met.K.Ord.total c.args.bound c.key_at-behind.result c.args.place c.unwrap.result.now c.unwrap-2.result.now old mid s (sym c.block_mut.ensures.value ∙ ap option_copied_mut c.unwrap-2.ensures) in
    let cut = c.block_mut.follows.lender c.split_off.new.self in
    let sets = told c.block_mut.result c.unwrap-2.result c.unwrap-2.ensures (c.block_mut.follows.holds c.split_off.new.self) in
    let end : Blocks g.row.K.Denot g.row.V.Denot = record { first = cut.first; others = c.remove.new.self; alloc = c.args.self.now.alloc } in
    let all = unsplit_in g.met.K.Ord.total c.args.bound c.key_at-behind.result c.args.place c.unwrap.result.now old mid cut end s
    (subst (SetsBlock g.K.Ord.cmp c.args.bound mid cut) (c.in-Err.ensures.err ∙ same) sets) refl c.remove.ensures
    in
    (same_entries g.met.K.Ord.total old end all, same_order g.met.K.Ord.total old end all c.requires.parted)
