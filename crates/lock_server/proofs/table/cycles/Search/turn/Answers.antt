use Rattle.lock_server.proofs.Common.{◌∙◌, arith, get_or, inl, inr, subst, sym, List, ℕ, Contains, true, false, ◌≡◌, get_or_default, IsAhead}
use Rattle.std.proofs.Common.{below_more}
use Rattle.lock_server.proofs.SearchInDepthLemmas.{among_found}
use Rattle.lock_server.proofs.table.cycles.Search.turn.Goals as goal

pub loop-owner-preserved : goal.loop-owner-preserved
loop-owner-preserved c = below_more _ _ c.loop-owner.invariant (λ ahead. elim ahead [
  | inl untried ↦ (let is = c.contains-in-loop-owner.ensures in let no = c.if-contains-2.false in let h : true ≡ false = sym untried ∙ sym is ∙ no in cc)
  | inr among ↦
      (let x = get_or c.args.owners.now c.loop-owner.owner-index 0 in
      let here = among_found c.deref.result.now x (subst (λ (l : List ℕ). Contains l x) (sym c.deref.ensures.value) among) in
      let no = c.if-contains.false in let h : true ≡ false = sym here ∙ sym c.contains.ensures.value ∙ no in cc)
])

pub returns : goal.returns
returns c = λ owner (place, within, is) ahead.
    c.loop-owner.invariant place (let past = c.loop-owner-test.false in omega (arith, within, past))
    (subst (λ (n : ℕ). IsAhead c.args.self.now n) (sym (get_or_default c.args.owners.now place 0 owner within ∙ is)) ahead)
