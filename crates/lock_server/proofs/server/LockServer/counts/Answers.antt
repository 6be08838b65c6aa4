use Rattle.lock_server.proofs.server.LockServer.counts.Goals as goal

pub counts-requires : goal.counts-requires
counts-requires c = record { nothing = λ owner file unkept. (c.args.self.now.kept.gone owner file unkept).nothing }
