use Rattle.wait_core.proofs.Common.{common_steps, ℕ, ◌≤◌, ◌∙◌, inl, inr, sym, subst, arith, IsTrue, ◌==◌, eqb-true, or_left, or_right, locks_of, WaitsFor, is_member, waits_of, policy_of, processes_of}
use Rattle.wait_core.proofs.DecideLemmas.{told_known}
use Rattle.wait_core.proofs.ProcessLemmas.{none_in, or_cases}
use Rattle.wait_core.proofs.ReachLemmas.{blocked_reached, reach_step, reached_closes, closes_reached}
use Rattle.wait_core.proofs.waits.Waits.is_led_back.Goals as goal

pub loop-next-init : goal.loop-next-init
loop-next-init c = grind (arith, common_steps, blocked_reached, none_in)

pub loop-next-preserved : goal.loop-next-preserved
loop-next-preserved c =
    let self = c.args.self.now in
    let locks = locks_of c.args.books.now in
    let wait = c.args.wait.now in
    let told = told_known c.conflicts_are_decided.ensures.processes self locks c.requires.told in
    let next = c.in-Some.next in
    let beyond = c.in-Some.ensures.some in
    let more = λ (q : ℕ) (known : IsTrue (is_member c.loop-next.reached q)).
    c.union-reached.ensures q ∙ or_left (is_member c.loop-next.reached q) (is_member c.waited_for.result q) known in
    record {
      blockers = λ q one few blocked. more q (c.loop-next.invariant.blockers q one few blocked);
      reached = λ q one few known. elim (or_cases (is_member c.loop-next.reached q) (is_member c.waited_for.result q) (sym (c.union-reached.ensures q) ∙ known)) [
        | inl old ↦ c.loop-next.invariant.reached q one few old
        | inr new ↦ reach_step (policy_of self) locks (waits_of self) wait next q
            (c.loop-next.invariant.reached next beyond.from_one beyond.few beyond.known) ((c.waited_for.ensures q one few locks told).0 new)
      ];
      followed = λ p p_few known q one few leads. elim (or_cases (p == next) (is_member c.loop-next.followed p) (sym (c.with-followed.ensures.members p) ∙ known)) [
        | inl last ↦ c.union-reached.ensures q ∙ or_right (is_member c.loop-next.reached q) (is_member c.waited_for.result q)
            ((c.waited_for.ensures q one few locks told).1 (subst (λ (n : ℕ). WaitsFor (policy_of self) locks (waits_of self) n q) (eqb-true p next last) leads))
        | inr earlier ↦ more q (c.loop-next.invariant.followed p p_few earlier q one few leads)
      ];
    }

pub loop-next-smaller : goal.loop-next-smaller
loop-next-smaller c = c.with-followed.ensures.fewer c.in-Some.ensures.some.beyond

pub returns : goal.returns
unfolding waits_of processes_of
returns c =
    let self = c.args.self.now in
    let wait = c.args.wait.now in
    let locks = locks_of c.args.books.now in
    let one : 1 ≤ wait.p = c.requires.well_formed.from_one in
    let few : wait.p ≤ 64 = (let known = c.requires.well_formed.process in let all : self.processes ≤ 64 = self.few in omega arith) in (
      λ yes. reached_closes (policy_of self) locks (waits_of self) wait c.requires.traditional (c.loop-next.invariant.reached wait.p one few (sym c.has.ensures ∙ yes)),
      λ cycle. c.has.ensures ∙ closes_reached (policy_of self) locks (waits_of self) wait c.loop-next.reached self.processes self.few self.well_formed
          one c.requires.well_formed.process c.loop-next.invariant.blockers
          (λ p p_few known. c.loop-next.invariant.followed p p_few (c.in_default.ensures.none p p_few known)) cycle,
    )
