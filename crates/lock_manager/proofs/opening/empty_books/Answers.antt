use Rattle.lock_manager.proofs.Common.{arith, common_steps}
use Rattle.std.proofs.lemmas.List.Elements.{All-push}
use Rattle.lock_manager.proofs.opening.empty_books.Goals as goal

pub loop-preserved : goal.loop-preserved
loop-preserved c = grind (arith, common_steps, All-push)
