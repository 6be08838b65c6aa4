use Rattle.std.proofs.Common.{refl, sym, ap, ◌∙◌}
use Rattle.std.specs.List.{zip}
use Rattle.std.specs.Map.{lookup}
use Rattle.std.specs.BTreeMap.{is_at}
use Rattle.block_map.proofs.Found.{missing_value}
use Rattle.block_map.proofs.Kept.{set_none}
use Rattle.block_map.proofs.Zipped.{set_is, set_kept, value_is}
use Rattle.block_map.proofs.block.Block.get_mut.Goals as goal

pub invariant_of-self-lent : goal.invariant_of-self-lent
invariant_of-self-lent g c = λ w. set_kept g.K.Ord.cmp c.self.inside.keys.items c.self.inside.values.items c.in-Ok.place w c.self.invariant

pub returns-in-Ok : goal.returns-in-Ok
returns-in-Ok g c =
    let o = g.met.K.Ord.total in
    let ks = c.self.inside.keys.items in
    let vs = c.self.inside.values.items in (
      (refl, (λ w. rw (← c.self.view_is) (set_is o c.args.key ks vs c.in-Ok.place c.self.invariant w c.in-Ok.ensures.place).1), refl),
      record { lends = tt; value = rw (← c.self.view_is) (value_is o c.args.key ks vs c.in-Ok.place c.self.invariant c.index_mut.result.now c.in-Ok.ensures.place c.index_mut.ensures.value) },
    )

pub returns-in-Err : goal.returns-in-Err
returns-in-Err g c =
    let test = is_at (g.K.Ord.cmp c.args.key) in
    let none = sym (ap (lookup test) c.self.view_is) ∙ missing_value g.met.K.Ord.total c.args.key (zip c.self.inside.keys.items c.self.inside.values.items) c.in-Err.field-0 c.in-Err.ensures.place in (
      (refl, (λ w. c.self.view_is ∙ sym (set_none test c.args.self.now w none)), c.self.view_is),
      record { lends = tt; value = sym none },
    )
