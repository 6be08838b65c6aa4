use Rattle.history_core.proofs.Common.{List, sym, subst, ap, ◌∙◌, ByteLock, AreTrue, bytes_in}
use Rattle.history_core.specs.Locks.{bytes_without}
use Rattle.history_core.proofs.ByteLemmas.{AreTrue-given, bytes_in-is, without_gives, AreRanges-others}
use Rattle.history_core.proofs.byte_locks.ByteLocks.without.Goals as goal

pub invariant_of-result : goal.invariant_of-result
invariant_of-result c =
    let old = c.args.self.now.runs.items in
    let are = c.args.self.now.are_true in
    let P : List ByteLock → Type 0 = AreTrue in
    record {
      are_true = subst P (sym c.in_ok-of_others.ensures)
          (AreTrue-given _ (bytes_without (bytes_in old) c.args.owner) (AreRanges-others old c.args.owner are) (without_gives old c.args.owner are));
    }

pub returns : goal.returns
returns c =
    let old = c.args.self.now.runs.items in
    ap bytes_in c.in_ok-of_others.ensures
    ∙ bytes_in-is _ (bytes_without (bytes_in old) c.args.owner) (without_gives old c.args.owner c.args.self.now.are_true)
