use Rattle.history_judge.proofs.FilesLemmas.{rewrites_lent}
use Rattle.history_judge.proofs.held_files.apply_on.Goals as goal

pub returns : goal.returns
returns c =
    rewrites_lent c.args.files.now (c.get_mut.follows.lender c.apply.new.self) c.args.happening.file c.get_mut.result c.unwrap-held.result c.apply.new.self _
    c.get_mut.ensures.value c.unwrap-held.ensures (c.get_mut.follows.holds c.apply.new.self) (
    record {
      leaves = c.apply.ensures.leaves;
      may_not = c.apply.ensures.may_not;
      stays = c.apply.ensures.stays;
      err = c.apply.ensures.err;
    }
    )
