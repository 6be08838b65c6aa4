use Rattle.lock_server.proofs.Common.{arith, refl, [], ◌∷◌, IsTrue, number_words, AreJust, crossed_of}
use Rattle.lock_server.proofs.JustLemmas.{just_alone}
use Rattle.lock_server.proofs.WordLemmas.{counted}
use Rattle.lock_server.proofs.waiters.Waiters.put.Goals as goal

pub returns : goal.returns
returns c =
    counted (AreJust (λ owner. owner ∷ []) (λ owner. IsTrue (crossed_of c.args.self.now owner)))
    (just_alone (λ owner. owner ∷ []) (λ owner. IsTrue (crossed_of c.args.self.now owner))) number_words 1 (λ owner. refl) _ _ _ _ _ _ _ _ _ _
    c.put_each-size.ensures (λ n is. omega (arith, is)) c.put-at.ensures c.put_each.ensures
