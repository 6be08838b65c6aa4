use Rattle.wait_core.proofs.Common.{ℕ, ◌≡◌, ◌≢◌, ◌∙◌, refl, sym, subst, length, deref, iter_end, All-turn, Wait, locks_of, TellsWait, IsWellFormed}
use Rattle.wait_core.proofs.FileLemmas.{turn}
use Rattle.wait_core.proofs.PairLemmas.{Before, before_more, before_all, tells_still}
use Rattle.wait_core.proofs.pairs.Pairs.tell_all.Goals as goal

pub tell-requires-clause-wait : goal.tell-requires-clause-wait
tell-requires-clause-wait c =
    All-turn deref (IsWellFormed 64) c.args.waits c.loop-wait.yielded _ _ _ _ c.in-Some.wait c.requires.waits
    c.into_iter-wait-iterator.ensures.into_iter_gives c.loop-wait.yielded_by c.in-Some.is c.next.ensures.steps

pub loop-wait-preserved : goal.loop-wait-preserved
loop-wait-preserved c =
    let locks = locks_of c.args.books.now in
    let waits = c.args.waits in
    let wait = c.in-Some.wait.now in
    let here = turn waits c.loop-wait.yielded _ _ _ _ c.in-Some.wait c.into_iter-wait-iterator.ensures.into_iter_gives c.loop-wait.yielded_by c.in-Some.is c.next.ensures.steps in
    record {
      can_next = tt;
      is_finite = tt;
      told = subst (λ (n : ℕ). Before (TellsWait c.tell.new.self locks) (λ w. w.p ≡ w.p) waits n) (sym here.more)
          (before_more (TellsWait c.loop-wait.self locks) (TellsWait c.tell.new.self locks) (λ w. w.p ≡ w.p) (length c.loop-wait.yielded) waits wait c.requires.apart
          here.within here.item c.loop-wait.invariant.told c.tell.ensures.told
          (λ v another was q one few. tells_still c.loop-wait.self c.tell.new.self locks q v (c.tell.ensures.others v.p q another) (was q one few)));
      others = λ p q none. c.tell.ensures.others p q
          (λ same. subst (λ (w : Wait). w.p ≢ p) here.item (none (length c.loop-wait.yielded) wait here.within) (sym same)) ∙ c.loop-wait.invariant.others p q none;
    }

pub returns-clause-told : goal.returns-clause-told
returns-clause-told c =
    let (whole, all) = iter_end deref c.args.waits c.loop-wait.yielded _ _ _ _ c.into_iter-wait-iterator.ensures.into_iter_gives c.loop-wait.yielded_by c.in-None.is c.next.ensures.steps in
    λ k d within. before_all (TellsWait c.loop-wait.self (locks_of c.args.books.now)) (λ w. w.p ≡ w.p) c.args.waits
    (subst (λ (n : ℕ). Before (TellsWait c.loop-wait.self (locks_of c.args.books.now)) (λ w. w.p ≡ w.p) c.args.waits n) all c.loop-wait.invariant.told) k d within refl
