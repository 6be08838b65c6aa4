use Rattle.lock_server.proofs.Common.{◌≡◌, ◌∙◌, ap, sym, None, Some, Option, option_copied, LockFile, state_at, entry_in}
use Rattle.lock_server.proofs.EntryMoves.{put_indexed}
use Rattle.lock_server.proofs.table.Table.sweep.Goals as goal

pub invariant_of-self : goal.invariant_of-self
invariant_of-self c =
    let table = c.args.self.now in
    let was : entry_in table.files c.args.file ≡ Some c.in-Some.locks.now = sym c.get.ensures.value ∙ ap option_copied c.in-Some.is in
    let same = c.is_untouched.ensures.0 c.if-is_untouched.true in record {
      indexed = put_indexed table.files c.remove.new.self table.tickets table.waiters c.args.file None c.remove.ensures
          (same.waits ∙ sym (ap (λ (found : Option LockFile). (state_at found).waits) was)) table.indexed;
    }
