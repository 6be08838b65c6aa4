-- what is entered is there, and all else stays
use Rattle.lock_server.proofs.Common.{keeps}
use Rattle.lock_server.proofs.PairLemmas.{entered, pair_elsewhere, pair_of_other}
use Rattle.lock_server.proofs.holdings.Holdings.enter.Goals as goal

pub returns-clause-ok : goal.returns-clause-ok
unfolding keeps
returns-clause-ok c =
    let put = c.in_ok-insert_new.ensures in
    let done = entered c.args.self.now.pairs c.insert_new.new.self c.args.owner c.args.file tt c.in_ok-insert_new.field-0 put.told put.updates put.same in
    record {
      here = done.0;
      apart = record {
        others = λ other any differs. done.1 other any (pair_of_other c.args.owner c.args.file other any differs);
        elsewhere = λ other any differs. done.1 other any (pair_elsewhere c.args.owner c.args.file other any differs);
      };
    }
