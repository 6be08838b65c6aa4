-- what leaves is gone, and all else stays
use Rattle.lock_server.proofs.Common.{arith, None, ◌≡◌, ◌∙◌, ap, subst, keeps}
use Rattle.std.proofs.Common.{◌+◌, length}
use Rattle.std.specs.Prelude.{is_some, if◌then◌else◌}
use Rattle.lock_server.specs.HoldingsView.{size}
use Rattle.lock_server.proofs.PairLemmas.{pair_elsewhere, pair_kept, pair_left, pair_of_other}
use Rattle.lock_server.proofs.holdings.Holdings.leave.Goals as goal

pub returns-clause-keeps : goal.returns-clause-keeps
unfolding keeps
returns-clause-keeps c =
    let old = c.args.self.now.pairs in
    let left = pair_left old c.remove.new.self c.args.owner c.args.file None c.remove.ensures.updates in
    record {
      here = pair_kept old c.remove.new.self c.args.owner c.args.file None c.remove.ensures.updates;
      apart = record {
        others = λ other any differs. left other any (pair_of_other c.args.owner c.args.file other any differs);
        elsewhere = λ other any differs. left other any (pair_elsewhere c.args.owner c.args.file other any differs);
      };
    }

pub returns-clause-fewer : goal.returns-clause-fewer
unfolding keeps size
returns-clause-fewer c kept =
    let some = ap is_some c.remove.ensures.value ∙ kept in
    let one = subst (λ b. length c.remove.new.self + (if b then 1 else 0) ≡ length c.args.self.now.pairs) some c.remove.ensures.len in
    omega (arith, one)
