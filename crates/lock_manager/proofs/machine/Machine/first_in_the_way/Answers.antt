use Rattle.lock_manager.proofs.Common.{◌≡◌, Some, None, rules, MatchOption}
use Rattle.lock_manager.specs.declared.request.InTheWay.TheVariants as obstacles
use Rattle.lock_manager.proofs.calls.AskingLemmas.{wait_in_the_way}
use Rattle.lock_manager.proofs.machine.Machine.first_in_the_way.Goals as goal

pub returns-in-None : goal.returns-in-None
returns-in-None c =
    let mapped : MatchOption c.first_queued.result (c.map.result ≡ None) (λ other. c.map.result ≡ Some (obstacles.Wait other)) = search rules in
    record {
      first = λ S h. wait_in_the_way c.args.self.now c.args.wait.now c.first_queued.result c.map.result S h (rw c.in-None.is at c.in_ok-held.ensures) c.first_queued.ensures mapped;
    }
