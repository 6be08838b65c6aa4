use Rattle.std.proofs.Common.{◌≡◌, List, Some, ap, ◌∙◌, sym, subst, arith}
use Rattle.std.proofs.lemmas.Grind.{common_steps}
use Rattle.std.proofs.lemmas.Option.{slice_get-map}
use Rattle.std.specs.Prelude.{slice_get}
use Rattle.std.specs.List.{remove}
use Rattle.std.specs.Option.{option_map}
use Rattle.summary_tree.specs.Contents.{Contents}
use Rattle.arrival_list.specs.declared.arrived.Arrived.{Arrived}
use Rattle.arrival_list.specs.Arrivals.{AreRisingTo, is_from, items_of}
use Rattle.arrival_list.proofs.Line.{cut_at, items_without, none_goes, rising_without, taken_at}
use Rattle.arrival_list.proofs.list.ArrivalList.take.Goals as goal

abbrev items_in : {T : Type 0} → Contents T → List T
items_in contents = contents.items

abbrev item_in : {T : Type 0} → Arrived T → T
item_in arrived = arrived.item

pub returns-in_err-arrived-clause-rest : goal.returns-in_err-arrived-clause-rest
returns-in_err-arrived-clause-rest g c = sym (none_goes c.args.self.now.items c.args.place (grind (arith, common_steps, slice_get-map)))

pub take-requires : goal.take-requires
take-requires g c = cut_at c.in_ok-arrived.arrived.arrival c.self.inside.next c.self.inside.arrived.items c.self.invariant.0

pub invariant_of-self : goal.invariant_of-self
invariant_of-self g c = (
  subst (AreRisingTo c.self.inside.next) (sym c.take.ensures.rest) (rising_without c.self.inside.next (is_from c.in_ok-arrived.arrived.arrival) c.self.inside.arrived.items c.self.invariant.0),
  (let held = c.self.invariant.1 in let kept = c.take.ensures.room in omega (arith, held, kept)),
  c.self.invariant.2,
)

pub returns-clause-item : goal.returns-clause-item
returns-clause-item g c =
    let there : slice_get c.self.inside.arrived.items c.args.place ≡ Some c.in_ok-arrived.arrived = grind (arith, common_steps) in
    sym (ap (λ l. slice_get l c.args.place) (sym (ap items_in c.self.view_is)) ∙ (slice_get-map item_in c.self.inside.arrived.items c.args.place ∙ ap (option_map item_in) there))

pub returns-clause-rest : goal.returns-clause-rest
returns-clause-rest g c =
    let there : slice_get c.self.inside.arrived.items c.args.place ≡ Some c.in_ok-arrived.arrived = grind (arith, common_steps) in
    let left = c.take.ensures.rest ∙ taken_at c.self.inside.next c.args.place c.in_ok-arrived.arrived c.self.inside.arrived.items c.self.invariant.0 there in
    ap items_of left ∙ (items_without c.self.inside.arrived.items c.args.place ∙ ap (λ l. remove l c.args.place) (ap items_in c.self.view_is))
