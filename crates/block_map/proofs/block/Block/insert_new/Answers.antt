use Rattle.std.proofs.Common.{◌≡◌, Result, false, true, cond, is_ok, is_some, not, if◌then◌else◌, sym, ap, ◌∙◌}
use Rattle.std.specs.List.{insert}
use Rattle.std.specs.BTreeMap.{insert_entry}
use Rattle.block_map.proofs.Found.{found_there, missing_value}
use Rattle.block_map.proofs.Zipped.{inserted}
use Rattle.block_map.proofs.block.Block.insert_new.Goals as goal

pub returns-in_default-clause-told : goal.returns-in_default-clause-told
returns-in_default-clause-told g c =
    sym (ap not (found_there g.met.K.Ord.total c.args.key c.args.self.now c.place_of.result c.place_of.ensures.place (ap is_ok c.in_default.is)))

pub returns-in_default-clause-ok : goal.returns-in_default-clause-ok
returns-in_default-clause-ok g c =
    let es = c.args.self.now in
    let has = found_there g.met.K.Ord.total c.args.key es c.place_of.result c.place_of.ensures.place (ap is_ok c.in_default.is) in
    sym (ap (λ b. cond b es (insert_entry g.K.Ord.cmp es c.args.key c.args.value)) has)

pub returns-in_err-reserve-clause-there : goal.returns-in_err-reserve-clause-there
returns-in_err-reserve-clause-there g c there =
    absurd (let no : false ≡ true = sym (ap is_some (missing_value g.met.K.Ord.total c.args.key c.args.self.now c.in-Err.place c.in-Err.ensures.place)) ∙ there in cc)

pub returns-in_err-insert-clause-there : goal.returns-in_err-insert-clause-there
returns-in_err-insert-clause-there g c there =
    absurd (let no : false ≡ true = sym (ap is_some (missing_value g.met.K.Ord.total c.args.key c.args.self.now c.in-Err.place c.in-Err.ensures.place)) ∙ there in cc)

pub invariant_of-self-2 : goal.invariant_of-self-2
invariant_of-self-2 g c =
    let missing = rw (← c.self.view_is) at c.in-Err.ensures.place in
    let keys = c.insert-2.ensures.items
    ∙ (ap (λ (r : Result _ _). if is_ok r then insert c.reserve.new.self.items c.in-Err.place c.args.key else c.reserve.new.self.items) c.unwrap.ensures
    ∙ ap (λ xs. insert xs c.in-Err.place c.args.key) c.in_ok-reserve.ensures.items) in
    let ks = c.self.inside.keys.items in
    let vs = c.self.inside.values.items in
    rw (keys, c.in_ok-insert.ensures.items) (inserted g.met.K.Ord.total c.args.key ks vs c.in-Err.place c.self.invariant c.args.value missing).0

pub returns-clause-told : goal.returns-clause-told
returns-clause-told g c = sym (ap (λ found. not (is_some found)) (missing_value g.met.K.Ord.total c.args.key c.args.self.now c.in-Err.place c.in-Err.ensures.place))

pub returns-clause-ok : goal.returns-clause-ok
returns-clause-ok g c =
    let missing = rw (← c.self.view_is) at c.in-Err.ensures.place in
    let keys = c.insert-2.ensures.items
    ∙ (ap (λ (r : Result _ _). if is_ok r then insert c.reserve.new.self.items c.in-Err.place c.args.key else c.reserve.new.self.items) c.unwrap.ensures
    ∙ ap (λ xs. insert xs c.in-Err.place c.args.key) c.in_ok-reserve.ensures.items) in
    let ks = c.self.inside.keys.items in
    let vs = c.self.inside.values.items in
    rw (← c.self.view_is, keys, c.in_ok-insert.ensures.items) (inserted g.met.K.Ord.total c.args.key ks vs c.in-Err.place c.self.invariant c.args.value missing).1
