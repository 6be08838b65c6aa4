use Rattle.lock_server.proofs.Common.{rules_of, state_of, through_of}
use Rattle.lock_server.proofs.ExportLemmas.{inventory_put}
use Rattle.lock_server.proofs.server.LockServer.put.Goals as goal

pub returns : goal.returns
unfolding rules_of state_of through_of
returns c =
    inventory_put (rules_of c.args.self.now) (state_of c.args.self.now) (through_of c.args.self.now) _ _ _ _ _ _ _ _ _ _ _ _
    c.put_rules-at.ensures c.put_files-at.ensures c.put_grants-at.ensures c.put_crossed-at.ensures c.put.ensures
