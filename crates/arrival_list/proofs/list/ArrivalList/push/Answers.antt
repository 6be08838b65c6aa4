use Rattle.std.proofs.Common.{◌+◌, ◌∷◌, [], ◌++◌, List, ap, ◌∙◌, sym, refl, subst, arith}
use Rattle.std.proofs.lemmas.Grind.{common_steps}
use Rattle.std.proofs.lemmas.List.{map-append}
use Rattle.summary_tree.specs.Contents.{Contents}
use Rattle.arrival_list.specs.declared.arrived.Arrived.{Arrived}
use Rattle.arrival_list.specs.Arrivals.{AreRisingTo, items_of}
use Rattle.arrival_list.proofs.Line.{cut_at, put_last, rising_with}
use Rattle.arrival_list.proofs.list.ArrivalList.push.Goals as goal

abbrev items_in : {T : Type 0} → Contents T → List T
items_in contents = contents.items

pub put-requires-clause-cut : goal.put-requires-clause-cut
put-requires-clause-cut g c = cut_at c.self.inside.next c.self.inside.next c.self.inside.arrived.items c.self.invariant.0

pub invariant_of-self : goal.invariant_of-self
invariant_of-self g c =
    let x : Arrived g.row.T.Denot = record { item = c.args.item; arrival = c.self.inside.next } in
    let more = c.put.ensures.items ∙ put_last c.self.inside.next x c.self.inside.arrived.items c.self.invariant.0 in (
      subst (AreRisingTo (c.self.inside.next + 1)) (sym more) (rising_with c.self.inside.next x c.self.inside.arrived.items refl c.self.invariant.0),
      (let held = c.self.invariant.1 in let used = c.put.ensures.room in omega (arith, held, used)),
      (let below = c.self.invariant.2 in let held = c.requires in let is = c.self.view_is in grind (arith, common_steps)),
    )

pub returns-clause-items : goal.returns-clause-items
returns-clause-items g c =
    let x : Arrived g.row.T.Denot = record { item = c.args.item; arrival = c.self.inside.next } in
    let more = c.put.ensures.items ∙ put_last c.self.inside.next x c.self.inside.arrived.items c.self.invariant.0 in
    ap items_of more ∙ (map-append _ c.self.inside.arrived.items (x ∷ []) ∙ ap (λ l. l ++ c.args.item ∷ []) (ap items_in c.self.view_is))
