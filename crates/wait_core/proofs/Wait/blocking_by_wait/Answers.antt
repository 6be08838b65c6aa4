use Rattle.wait_core.proofs.Common.{ℕ, ◌≤◌, ◌↔◌, sym, subst, arith, Any, length, take, deref, IsTrue, common_steps, iter_end, All-turn, IsConflictOf, is_member, IsWellFormed}
use Rattle.std.proofs.lemmas.List.{take_all}
use Rattle.wait_core.proofs.AnyLemmas.{Any-nil}
use Rattle.wait_core.proofs.BlockingLemmas.{conflicts_more, skipped}
use Rattle.wait_core.proofs.FileLemmas.{turn}
use Rattle.wait_core.proofs.ProcessLemmas.{none_in}
use Rattle.wait_core.proofs.Wait.blocking_by_wait.Goals as goal
use Rattle.wait_core.proofs.Wait.blocking_by_wait.Goals.{else-conflicts_with-via-then-conflicts_with+else-is_traditional, else-conflicts_with-via-else-conflicts_with}

pub loop-other-init : goal.loop-other-init
loop-other-init c = record { can_next = tt; is_finite = tt; told = λ q. grind (arith, common_steps, none_in, Any-nil) }

well_formed : (c : goal.Then-is_traditional) → IsWellFormed 64 c.in-Some.other.now
well_formed c =
    All-turn deref (IsWellFormed 64) c.args.earlier c.loop-other.yielded _ _ _ _ c.in-Some.other c.requires
    c.into_iter-other-iterator.ensures.into_iter_gives c.loop-other.yielded_by c.in-Some.is c.next.ensures.steps

pub with-blocking-requires-clause-from_one : goal.with-blocking-requires-clause-from_one
with-blocking-requires-clause-from_one c = (well_formed c).from_one

pub with-blocking-requires-clause-few : goal.with-blocking-requires-clause-few
with-blocking-requires-clause-few c = (well_formed c).process

pub loop-other-preserved-then-is_traditional : goal.loop-other-preserved-then-is_traditional
loop-other-preserved-then-is_traditional c =
    let wait = c.args.self.now in
    let waits = c.args.earlier in
    let here = turn waits c.loop-other.yielded _ _ _ _ c.in-Some.other c.into_iter-other-iterator.ensures.into_iter_gives c.loop-other.yielded_by c.in-Some.is c.next.ensures.steps in
    record {
      can_next = tt;
      is_finite = tt;
      told = subst (λ (n : ℕ). (q : ℕ) → IsTrue (is_member c.with-blocking.result q) ↔ Any (IsConflictOf q wait) (take n waits)) (sym here.more)
          (conflicts_more wait waits (length c.loop-other.yielded) c.in-Some.other.now here.within here.item c.loop-other.blocking c.with-blocking.result
          (c.is_traditional.ensures.0 c.if-is_traditional.true) (c.conflicts_with.ensures.0 c.if-conflicts_with.true) c.with-blocking.ensures.members c.loop-other.invariant.told);
    }

pub loop-other-preserved : goal.loop-other-preserved
loop-other-preserved c =
    let wait = c.args.self.now in
    let waits = c.args.earlier in
    let here = turn waits c.loop-other.yielded _ _ _ _ c.in-Some.other c.into_iter-other-iterator.ensures.into_iter_gives c.loop-other.yielded_by c.in-Some.is c.next.ensures.steps in
    record {
      can_next = tt;
      is_finite = tt;
      told = subst (λ (n : ℕ). (q : ℕ) → IsTrue (is_member c.loop-other.blocking q) ↔ Any (IsConflictOf q wait) (take n waits)) (sym here.more)
          (skipped wait waits (length c.loop-other.yielded) c.in-Some.other.now here.within here.item c.loop-other.blocking
          (λ both. elim c.else-conflicts_with.branch [
            | else-conflicts_with-via-then-conflicts_with+else-is_traditional w ↦ (let yes = w.is_traditional.ensures.1 both.0 in let no = w.if-is_traditional.false in cc)
            | else-conflicts_with-via-else-conflicts_with w ↦ (let yes = c.conflicts_with.ensures.1 both.1 in let no = w.if-conflicts_with.false in cc)
          ])
          c.loop-other.invariant.told);
    }

pub returns : goal.returns
returns c q =
    let (whole, all) = iter_end deref c.args.earlier c.loop-other.yielded _ _ _ _ c.into_iter-other-iterator.ensures.into_iter_gives c.loop-other.yielded_by c.in-None.is c.next.ensures.steps in
    let told = c.loop-other.invariant.told q in
    subst (λ waits. IsTrue (is_member c.loop-other.blocking q) ↔ Any (IsConflictOf q c.args.self.now) waits)
    (take_all (length c.loop-other.yielded) c.args.earlier (subst (λ (n : ℕ). length c.args.earlier ≤ n) (sym all) (omega arith))) told
