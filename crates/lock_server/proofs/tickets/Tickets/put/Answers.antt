use Rattle.lock_server.proofs.Common.{rules, [], ◌∷◌, length, subst, ℕ, number_words, grants_of, Puts}
use Rattle.lock_server.proofs.WordLemmas.{items_more}
use Rattle.lock_server.proofs.tickets.Tickets.put.Goals as goal

pub loop-i-preserved : goal.loop-i-preserved
unfolding grants_of
loop-i-preserved c =
    let grants = c.args.self.now.granted.items in
    items_more number_words (length grants ∷ []) grants c.loop-i.i c.index.result.now _ _ _ _ _ _ (search rules) c.loop-i.invariant
    (subst (λ (n : ℕ). Puts (n ∷ []) c.loop-i.out c.loop-i.behind c.put-behind-in-loop-i.new.out c.put-behind-in-loop-i.result) c.index.ensures c.put-behind-in-loop-i.ensures)
