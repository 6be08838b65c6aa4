use Rattle.std.proofs.Common.{cond, is_some, Some, ap, subst, sym, ◌∙◌}
use Rattle.std.specs.Option.{option_copied_mut}
use Rattle.std.specs.Map.{set_value}
use Rattle.std.specs.BTreeMap.{insert_entry, is_at}
use Rattle.block_map.specs.Blocks.{with_new}
use Rattle.block_map.specs.Kept.{entries_in}
use Rattle.block_map.specs.Updates.{Updates}
use Rattle.block_map.proofs.Edits.{set_inserts}
use Rattle.block_map.proofs.Kept.{same_entries}
use Rattle.block_map.proofs.Updates.{insert_updates}
use Rattle.block_map.proofs.map.BlockMap.insert.Goals as goal

pub returns-in-Some-clause-ok : goal.returns-in-Some-clause-ok
returns-in-Some-clause-ok g c =
    let es = entries_in c.self.inside.blocks in
    let found = sym c.get_mut.ensures.value ∙ ap option_copied_mut c.in-Some.is in
    let set = (c.get_mut.follows.holds c.replace.new.dest).0 ∙ ap (λ v. set_value (is_at (g.K.Ord.cmp c.args.key)) es v) c.replace.ensures.after in
    rw (← c.self.view_is) (set ∙ set_inserts g.met.K.Ord.total c.args.key c.args.value c.in-Some.kept.now es c.self.invariant.0 found)

pub returns-in-Some-clause-updates : goal.returns-in-Some-clause-updates
returns-in-Some-clause-updates g c =
    let o = g.met.K.Ord.total in
    let es = entries_in c.self.inside.blocks in
    let found = sym c.get_mut.ensures.value ∙ ap option_copied_mut c.in-Some.is in
    let set = (c.get_mut.follows.holds c.replace.new.dest).0 ∙ ap (λ v. set_value (is_at (g.K.Ord.cmp c.args.key)) es v) c.replace.ensures.after in
    let comes = set ∙ set_inserts o c.args.key c.args.value c.in-Some.kept.now es c.self.invariant.0 found in
    rw (← c.self.view_is) (subst (λ new. Updates g.K.Ord.cmp es new c.args.key (Some c.args.value)) (sym comes) (insert_updates o c.args.key c.args.value es))

pub returns-clause-updates : goal.returns-clause-updates
returns-clause-updates g c =
    let es = entries_in c.self.inside.blocks in
    let none = sym c.get_mut.ensures.value ∙ ap option_copied_mut c.in_default.is in
    let same = same_entries g.met.K.Ord.total c.self.inside.blocks c.get_mut.follows.lender-at-none c.get_mut.follows.holds-at-none in
    let comes = c.in_ok-insert_new.ensures.ok ∙ (ap (λ kept. with_new g.K.Ord.cmp kept c.args.key c.args.value) same
    ∙ ap (λ found. cond (is_some found) es (insert_entry g.K.Ord.cmp es c.args.key c.args.value)) none) in
    rw (← c.self.view_is) (subst (λ new. Updates g.K.Ord.cmp es new c.args.key (Some c.args.value)) (sym comes) (insert_updates g.met.K.Ord.total c.args.key c.args.value es))
