use Rattle.history_judge.proofs.FilesLemmas.{rewrites_lent}
use Rattle.history_judge.proofs.files.answer_on.Goals as goal

pub returns : goal.returns
returns c =
    rewrites_lent c.args.files.now (c.get_mut.follows.lender c.answer-answered.new.self) c.args.file c.get_mut.result c.unwrap-history.result c.answer-answered.new.self _
    c.get_mut.ensures.value c.unwrap-history.ensures (c.get_mut.follows.holds c.answer-answered.new.self) (
      record {
        legal = c.answer-answered.ensures.legal;
        illegal = c.answer-answered.ensures.illegal;
        stays = c.answer-answered.ensures.stays;
        full = c.answer-answered.ensures.limit;
        err = c.answer-answered.ensures.err;
        keeps = c.answer-answered.ensures.order;
      },
      c.count.ensures,
    )
