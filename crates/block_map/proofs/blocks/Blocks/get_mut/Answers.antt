use Rattle.std.proofs.Common.{◌≡◌, None, Some, refl, sym, ap, subst, ◌∙◌}
use Rattle.std.specs.Option.{option_copied_mut}
use Rattle.block_map.specs.Blocks.{bound_for}
use Rattle.block_map.specs.Kept.{SetsBlock}
use Rattle.block_map.proofs.Kept.{at_its_bound, lent_is, looked_there, same_keyed, set_in, told}
use Rattle.block_map.proofs.blocks.Blocks.get_mut.Goals as goal

pub returns-in_err-block_for_mut : goal.returns-in_err-block_for_mut
returns-in_err-block_for_mut g c = absurd (let no : None ≡ Some _ = sym (ap option_copied_mut c.in_err-block_for_mut.was) ∙ c.block_for_mut.ensures.value in cc)

pub returns : goal.returns
returns g c =
    let o = g.met.K.Ord.total in
    let cmp = g.K.Ord.cmp in
    let old = c.args.self.now in
    let bound = bound_for cmp c.args.key old.others.entries in
    let lent = c.in_ok-block_for_mut.field-0 in
    let its = lent_is c.block_for_mut.result lent _ c.block_for_mut.ensures.value c.in_ok-block_for_mut.was in (
      (
        refl,
        (λ w. let end = c.block_for_mut.follows.lender (c.get_mut.follows.lender w) in
            let sets = told c.block_for_mut.result lent c.in_ok-block_for_mut.was (c.block_for_mut.follows.holds (c.get_mut.follows.lender w)) in
            set_in o c.args.key w old end bound lent.now c.requires refl (at_its_bound o c.args.key old lent.now c.requires its) (subst (SetsBlock cmp bound old end) (c.get_mut.follows.holds w) sets)),
        let end = c.block_for_mut.follows.lender c.get_mut.follows.lender-at-none in
            let sets = told c.block_for_mut.result lent c.in_ok-block_for_mut.was (c.block_for_mut.follows.holds c.get_mut.follows.lender-at-none) in
            same_keyed o c.args.key old end lent.now c.get_mut.follows.lender-at-none c.requires its sets c.get_mut.follows.holds-at-none,
      ),
      record { lends = tt; value = c.get_mut.ensures.value ∙ looked_there o c.args.key old lent.now c.requires its },
    )
