use Rattle.lock_server.proofs.CollectedLemmas.{not_before}
use Rattle.lock_server.proofs.holdings.Holdings.of.Goals as goal

pub returns : goal.returns
returns c = record {
  gone = λ owner file unkept. record {
    nothing = c.in_ok-enter_holders.ensures.rest owner file (not_before _ _ (c.in_ok-enter_noted.ensures.more owner file) unkept);
    unseen = c.in_ok-enter_noted.ensures.rest owner file unkept;
  };
}
