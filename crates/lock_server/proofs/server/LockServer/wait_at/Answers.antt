use Rattle.lock_server.proofs.Common.{∥∥₁_map}
use Rattle.lock_server.proofs.server.LockServer.wait_at.Goals as goal

pub wait_at-requires : goal.wait_at-requires
wait_at-requires c = ∥∥₁_map c.args.self.now.safe (λ safe. safe.settled c.args.file)
