use Rattle.std.proofs.Common.{◌≡◌, ◌∙◌, ◌==◌, ℕ, List, Option, None, ap, filter, length, lit<, map}
use Rattle.std.specs.Prelude.{not}
use Rattle.std.specs.Iterator.{Yields}
use Rattle.std.proofs.lemmas.Iterator.{YieldsList}
use Rattle.std.proofs.lemmas.Iterator.Consumers.{YieldsList-at, YieldsList-end}
use Rattle.std.proofs.lemmas.Iterator.Splits.{YieldsList-from_str_split}
use Rattle.expectations.proofs.expectation.words_of.Goals as goal

end_of : {S A B : Type 0} {steps : S → Option A → S → Type 0} {s : S} (xs : List A) (t : S) (y : Yields steps s xs t) → (r : Option A) (u : S)
    → r ≡ None → steps t r u
    → (v : A → B) (all : List B) → YieldsList steps v s all → map v xs ≡ all
end_of xs t y r u is step v all road = (YieldsList-end road xs t y r u is step).0

pub returns : goal.returns
returns c =
    let all = end_of c.loop-piece.yielded _ c.loop-piece.yielded_by _ _ c.in-None.is c.next.ensures.steps _ _
    (YieldsList-at c.into_iter-piece-iterator.ensures.into_iter_gives
    (YieldsList-from_str_split 32 c.args.line.now (lit< tt) c.split-piece-items.ensures.text c.split-piece-items.ensures.has_more c.split-piece-items.ensures.pattern)) in
    c.loop-piece.invariant ∙ ap (λ (l : List (List ℕ)). filter (λ word. not (length word == 0)) l) all
