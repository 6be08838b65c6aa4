-- A loop over `Runs`, whose value is the list of what is left: for those who go through the runs of an owner.
use Rattle.std.proofs.Common.{◌≡◌, sym, ◌∙◌, subst, Option, None, Some, List, length}
use Rattle.std.specs.Iterator.{Yields}
use Rattle.std.specs.List.{All}
use Rattle.std.specs.Map.Iter.{TakesFirst}
use Rattle.std.proofs.lemmas.List.{map-id}
use Rattle.std.proofs.lemmas.List.Elements.{All-get_or}
use Rattle.std.proofs.lemmas.Map.Iter.{iter_end, iter_turn}
use Rattle.std.proofs.lemmas.Option.{get_or_from_slice_get}

module _ {X : Type 0} (all xs s t u : List X) (r : Option X) (start : s ≡ all) (yields : Yields (TakesFirst (λ y. y)) s xs t) (step : TakesFirst (λ y. y) t r u) where
  -- what holds of each holds of the next one
  pub next_item : (P : X → Type 0) (x : X) → r ≡ Some x → All P all → P x
  next_item P x is each =
      let turn = iter_turn (λ y. y) all xs s t u r start yields x is step in
      subst P (get_or_from_slice_get all (length xs) x x turn.1) (All-get_or P all (length xs) x turn.0 each)

  -- and where none is left they all came
  pub all_came : r ≡ None → xs ≡ all
  all_came is = sym (map-id xs) ∙ (iter_end (λ y. y) all xs s t u r start yields is step).0
