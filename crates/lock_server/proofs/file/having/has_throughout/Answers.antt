use Rattle.lock_server.proofs.Common.{modes_of}
use Rattle.lock_server.proofs.HavingLemmas.{none_lacking}
use Rattle.lock_server.proofs.file.having.has_throughout.Goals as goal

pub returns : goal.returns
returns c =
    none_lacking (modes_of c.args.list.now) c.args.span c.args.mode c.first_lacking.result c.is_none.result c.is_none.ensures c.first_lacking.ensures.some
    c.first_lacking.ensures.none
