use Rattle.history_judge.proofs.Common.{◌≡◌, ◌≢◌, true, None, get, nat_cmp, All, keeps_order}
use Rattle.history_judge.specs.FileOrders.{AreOf}
use Rattle.history_judge.proofs.files.Files.orders.Given as goal

abbrev pub invariant-loop-file : goal.invariant-loop-file
invariant-loop-file l = record {
  sound : AreOf l.self.files l.orders;
  complete : All (λ p. keeps_order p.1.now ≡ true → get nat_cmp l.orders p.0.now ≢ None) l.yielded;
}
