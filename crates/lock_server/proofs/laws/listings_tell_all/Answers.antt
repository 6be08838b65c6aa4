use Rattle.lock_server.proofs.TellingLaws.{told_all_there_are}
use Rattle.lock_server.proofs.laws.listings_tell_all.Goals as goal

pub returns : goal.returns
returns c = told_all_there_are
