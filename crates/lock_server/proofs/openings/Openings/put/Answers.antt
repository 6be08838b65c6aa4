use Rattle.lock_server.proofs.Common.{arith, refl, note_words, AreJust, note_place}
use Rattle.lock_server.proofs.ExportLemmas.{IsNoted}
use Rattle.lock_server.proofs.JustLemmas.{just_alone}
use Rattle.lock_server.proofs.WordLemmas.{counted}
use Rattle.lock_server.proofs.openings.Openings.put.Goals as goal

pub returns : goal.returns
returns c =
    counted (AreJust note_place (IsNoted c.args.self.now)) (just_alone note_place (IsNoted c.args.self.now)) note_words 3 (λ note. refl)
    _ _ _ _ _ _ _ _ _ _ c.put_each-size.ensures (λ n is. omega (arith, is)) c.put-at.ensures c.put_each.ensures
