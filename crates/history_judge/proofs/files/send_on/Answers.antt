use Rattle.history_judge.proofs.FilesLemmas.{rewrites_lent}
use Rattle.history_judge.proofs.files.send_on.Goals as goal

pub returns : goal.returns
returns c =
    rewrites_lent c.args.files.now (c.get_mut.follows.lender c.send-sent.new.self) c.args.file c.get_mut.result c.unwrap-history.result c.send-sent.new.self _
    c.get_mut.ensures.value c.unwrap-history.ensures (c.get_mut.follows.holds c.send-sent.new.self) (record { ok = c.send-sent.ensures.ok; full = c.send-sent.ensures.limit; err = c.send-sent.ensures.err; keeps = c.send-sent.ensures.order }, c.count.ensures)
