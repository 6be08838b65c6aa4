use Rattle.lock_server.proofs.Common.{table_state}
use Rattle.lock_server.proofs.HolderLemmas.{settled_still}
use Rattle.lock_server.proofs.table.Table.forget_owners.Goals as goal

pub settle_all-requires : goal.settle_all-requires
settle_all-requires c file unkept =
    settled_still c.args.policy ((table_state c.args.self.now).files file) ((table_state c.strip_all.new.self).files file) c.args.owners.first c.args.owners.last
    (λ owner within. c.requires.kept.nothing owner file (unkept owner within)) (c.strip_all.ensures.strips.files file) (c.requires.settled file)
