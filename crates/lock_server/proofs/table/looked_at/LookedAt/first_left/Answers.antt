use Rattle.lock_server.proofs.Common.{ℕ, subst, IfNone, IfSome, Covers, Modes, IsFirstPartLacking, looked_modes, IsAtLeast}
use Rattle.lock_server.proofs.LookedLemmas.{found_looked, not_looked, whole_left}
use Rattle.lock_server.proofs.table.looked_at.LookedAt.first_left.Goals as goal

pub returns-in-Some : goal.returns-in-Some
returns-in-Some c =
    let same = found_looked c.args.self.now c.args.file c.get.result c.in-Some.looked c.get.ensures.value c.in-Some.is in
    let part = c.first_part_lacking.result in
    record {
      some = subst (λ (modes : Modes). IfSome part (IsFirstPartLacking modes c.args.span c.args.mode)) same c.first_part_lacking.ensures.some;
      none = subst (λ (modes : Modes). IfNone part ((byte : ℕ) → Covers c.args.span byte → IsAtLeast (modes byte) c.args.mode)) same
          c.first_part_lacking.ensures.none;
    }

pub returns-in-None : goal.returns-in-None
returns-in-None c = record {
  some = whole_left (looked_modes c.args.self.now c.args.file) c.args.span c.args.mode c.requires
      (not_looked c.args.self.now c.args.file c.get.result c.get.ensures.value c.in-None.is);
  none = tt;
}
