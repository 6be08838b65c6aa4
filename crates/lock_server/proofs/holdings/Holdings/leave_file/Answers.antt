use Rattle.lock_server.proofs.CollectedLemmas.{leaves_then}
use Rattle.lock_server.proofs.holdings.Holdings.leave_file.Goals as goal

pub returns : goal.returns
returns c = leaves_then c.args.self.now c.leave_known.new.self c.leave_noted.new.self c.args.file c.leave_known.ensures c.leave_noted.ensures
