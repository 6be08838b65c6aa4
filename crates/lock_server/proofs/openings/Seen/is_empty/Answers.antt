use Rattle.lock_server.proofs.Common.{open_of}
use Rattle.lock_server.proofs.OpeningsLemmas.{empty_if_unknown, unknown_if_empty}
use Rattle.lock_server.proofs.openings.Seen.is_empty.Goals as goal

pub returns : goal.returns
unfolding open_of
returns c = (
  λ empty. unknown_if_empty c.args.self.now.owners (c.is_empty.ensures.0 empty),
  λ none. c.is_empty.ensures.1 (empty_if_unknown c.args.self.now.owners none),
)
