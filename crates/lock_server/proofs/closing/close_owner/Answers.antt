use Rattle.lock_server.proofs.Common.{◌∙◌, sym, table_state}
use Rattle.lock_server.proofs.ClosingLemmas.{closed_owner, spared_owner}
use Rattle.lock_server.proofs.GrantedMoves.{crosses_itself}
use Rattle.lock_server.proofs.closing.close_owner.Goals as goal

pub returns-then-is_through-clause-closes : goal.returns-then-is_through-clause-closes
returns-then-is_through-clause-closes c =
    closed_owner (table_state c.args.table.now) c.args.file c.args.owner _ (table_state c.release.new.self) (sym c.is_through.ensures ∙ c.if-is_through.true) c.release.ensures.releases

pub returns-else-is_through-clause-closes : goal.returns-else-is_through-clause-closes
returns-else-is_through-clause-closes c =
    spared_owner (table_state c.args.table.now) c.args.file c.args.owner _ (sym c.is_through.ensures ∙ c.if-is_through.false) (crosses_itself c.args.table.now)
