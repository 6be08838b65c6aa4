use Rattle.wait_core.proofs.Common.{◌≡◌, ◌≤◌, arith, true, false, IsTrue, ∥∥₁_elim, locks_of, WaitsFor, is_member, waits_of, policy_of, processes_of}
use Rattle.wait_core.proofs.ReachLemmas.{chain_end}
use Rattle.wait_core.proofs.waits.Waits.would_cycle.Goals as goal

pub returns-then-not-has : goal.returns-then-not-has
unfolding processes_of
returns-then-not-has c =
    let self = c.args.self.now in
    let wait = c.args.wait.now in
    let locks = locks_of c.args.books.now in
    let one : 1 ≤ wait.p = c.requires.well_formed.from_one in
    let few : wait.p ≤ 64 = (let known = c.requires.well_formed.process in let all : self.processes ≤ 64 = self.few in omega arith) in (
      λ yes. absurd (let wrong : false ≡ true = yes in cc),
      λ cycle. absurd (∥∥₁_elim c.requires.told (λ x y. absurd x) (λ told.
          let last = chain_end (WaitsFor (policy_of self) locks (waits_of self)) cycle.blocker cycle.led.0 wait.p cycle.led.1 in
          let known : IsTrue (is_member c.all_waited_for.result wait.p) = c.all_waited_for.ensures last.0 wait.p one few locks told last.1 in
          let missing = c.if-not-has.true in
          let is = c.has.ensures in
          cc)),
    )
