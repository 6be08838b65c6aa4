use Rattle.lock_server.proofs.Common.{arith, ◌≡◌, Option, None, [], ◌∷◌, sym, subst, common_steps, Lock, LockFile, EndsBefore, IsByteLock, IsNextFrom, lock_place, state_at, entry_in, entry_of, table_state}
use Rattle.lock_server.proofs.NextLockLemmas.{none_listed}
use Rattle.lock_server.proofs.table.Table.next_lock.Goals as goal

pub returns-in_err-get : goal.returns-in_err-get
unfolding table_state entry_of entry_in
returns-in_err-get c =
    let from = c.args.owner ∷ c.args.byte ∷ [] in
    let none : entry_of c.args.self.now c.args.file ≡ None = grind (arith, common_steps) in
    let told : c.from_residual.result ≡ None = cc in
    let gone = subst (λ (entry : Option LockFile). EndsBefore lock_place (IsByteLock (state_at entry)) from) (sym none) (none_listed c.args.owner c.args.byte) in
    subst (λ (found : Option Lock). IsNextFrom lock_place (IsByteLock (state_at (entry_of c.args.self.now c.args.file))) from found) (sym told) gone
