use Rattle.lock_server.proofs.Common.{rules_of, state_of, through_of}
use Rattle.lock_server.proofs.ExportLemmas.{size_told}
use Rattle.lock_server.proofs.server.LockServer.export_size.Goals as goal

pub returns : goal.returns
returns c = size_told (rules_of c.args.self.now) (state_of c.args.self.now) (through_of c.args.self.now) _ _ _ c.put.ensures
