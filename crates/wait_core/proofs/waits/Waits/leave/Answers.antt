use Rattle.wait_core.proofs.Common.{◌≢◌, ◌≤◌, ◌∙◌, inl, inr, [], List, ap, arith, length, not, refl, subst, sym, cases_eq, common_steps, ◌==◌, ∥∥₁_map, Wait, TellsQueue, IsWellFormed, AreQueues, links_in, waits_on, AreThoseWaiting, waits_of, policy_of, has_pair, AllBlockedElsewhere, changed_files}
use Rattle.std.specs.Vec.{vec_capacity}
use Rattle.std.proofs.lemmas.List.Elements.{All-filter}
use Rattle.std.proofs.lemmas.List.Quantifiers.{position-Some}
use Rattle.std.proofs.lemmas.List.Kept.{AllPairs-filter}
use Rattle.wait_core.specs.Pairs.{IsBehindNone}
use Rattle.wait_core.proofs.FileLemmas.{fewer_left, none_left, queues_left}
use Rattle.wait_core.proofs.ListLemmas.{no_wait, none_taken, taken_at}
use Rattle.wait_core.proofs.PairLemmas.{told-leave}
use Rattle.wait_core.proofs.SettledLemmas.{elsewhere_without}
use Rattle.wait_core.proofs.WaitingLemmas.{waiting_left}
use Rattle.wait_core.proofs.waits.Waits.leave.Goals as goal

pub returns-in_err-place-clause-found : goal.returns-in_err-place-clause-found
unfolding waits_of
returns-in_err-place-clause-found c = grind (arith, common_steps, no_wait)

pub returns-in_err-place-clause-rest : goal.returns-in_err-place-clause-rest
unfolding waits_of
returns-in_err-place-clause-rest c = none_taken c.args.self.now.waits.items c.args.p c.in_err-place.ensures

pub without-self-requires-clause-from_one : goal.without-self-requires-clause-from_one
unfolding waits_of
without-self-requires-clause-from_one c =
    let self = c.args.self.now in
    let taken = taken_at self.processes self.waits.items c.remove-wait.new.self.items c.args.p c.in_ok-place.place
    c.remove-wait.result self.well_formed self.apart
    c.in_ok-place.ensures c.remove-wait.ensures.value c.remove-wait.ensures.items in
    let from_one = taken.1.from_one in
    let own = taken.0 in omega arith

pub without-self-requires-clause-few : goal.without-self-requires-clause-few
unfolding waits_of
without-self-requires-clause-few c =
    let self = c.args.self.now in
    let taken = taken_at self.processes self.waits.items c.remove-wait.new.self.items c.args.p c.in_ok-place.place
    c.remove-wait.result self.well_formed self.apart
    c.in_ok-place.ensures c.remove-wait.ensures.value c.remove-wait.ensures.items in
    let process = taken.1.process in
    let few = self.few in
    let own = taken.0 in omega arith

pub invariant_of-self : goal.invariant_of-self
unfolding waits_of
invariant_of-self c =
    let self = c.args.self.now in
    let taken = taken_at self.processes self.waits.items c.remove-wait.new.self.items c.args.p c.in_ok-place.place
    c.remove-wait.result self.well_formed self.apart
    c.in_ok-place.ensures c.remove-wait.ensures.value c.remove-wait.ensures.items in
    let rest = taken.3 in
    record {
      few = self.few;
      room = (let room : self.processes ≤ vec_capacity c.remove-wait.new.self = rw c.remove-wait.ensures.capacity self.room in room);
      well_formed = (λ k d within. rw rest (All-filter (λ (wait : Wait). not (wait.p == c.args.p)) (IsWellFormed self.processes) self.waits.items self.well_formed k d (rw rest at within)));
      apart = (λ i j d before within. rw rest (AllPairs-filter (λ (v w : Wait). v.p ≢ w.p) (λ (wait : Wait). not (wait.p == c.args.p)) self.waits.items self.apart i j d before (rw rest at within)));
      short = (let most = self.short in let fewer = fewer_left c.args.p self.waits.items in
          subst (λ (ws : List Wait). length ws ≤ 64) (sym rest) (omega (arith, most, fewer)));
      linked = subst (λ (ws : List Wait). AreQueues c.leave.new.self (waits_on ws)) (sym rest)
          (queues_left self.queues c.leave.new.self self.waits.items c.remove-wait.result c.args.p c.leave.ensures.left taken.0
          (c.in_ok-place.place, c.remove-wait.result, (position-Some (λ w. w.p == c.args.p) self.waits.items c.in_ok-place.place c.remove-wait.result (sym c.in_ok-place.ensures)).0, sym c.remove-wait.ensures.value, refl) self.linked);
      free = λ q none. elim (cases_eq q c.remove-wait.result.p) [
        | inl own ↦ ap (links_in c.leave.new.self).waits own ∙ c.leave.ensures.free
        | inr other ↦ c.leave.ensures.others q (self.free q (none_left self.waits.items c.args.p q (λ same. other (same ∙ sym taken.0)) (rw rest at none)))
      ];
      known = subst (AreThoseWaiting c.without-self.result) (sym rest)
          (waiting_left self.waiting c.without-self.result self.waits.items c.args.p c.without-self.ensures self.known);
      behind_none = (λ queue i j d before within. rw rest (AllPairs-filter (IsBehindNone self.behind) (λ (wait : Wait). not (wait.p == c.args.p)) self.waits.items (self.behind_none queue) i j d before (rw rest at within)));
      ahead_told = (λ queue. ∥∥₁_map (self.ahead_told queue) (λ told. subst (TellsQueue c.forget_ahead.new.ahead) (sym rest)
          (c.forget_ahead.ensures queue self.waits.items told)));
    }

pub returns-clause-found : goal.returns-clause-found
unfolding waits_of
returns-clause-found c =
    let self = c.args.self.now in
    let taken = taken_at self.processes self.waits.items c.remove-wait.new.self.items c.args.p c.in_ok-place.place
    c.remove-wait.result self.well_formed self.apart
    c.in_ok-place.ensures c.remove-wait.ensures.value c.remove-wait.ensures.items in
    sym taken.2

pub returns-clause-rest : goal.returns-clause-rest
unfolding waits_of
returns-clause-rest c =
    let self = c.args.self.now in
    let taken = taken_at self.processes self.waits.items c.remove-wait.new.self.items c.args.p c.in_ok-place.place
    c.remove-wait.result self.well_formed self.apart
    c.in_ok-place.ensures c.remove-wait.ensures.value c.remove-wait.ensures.items in
    taken.3

pub returns-clause-told : goal.returns-clause-told
unfolding waits_of has_pair
returns-clause-told c locks was =
    told-leave c.args.self.now _ locks c.args.p (returns-clause-rest c) c.forget.ensures.forgotten c.forget.ensures.others was

pub returns-clause-blocked : goal.returns-clause-blocked
unfolding waits_of policy_of changed_files
returns-clause-blocked c locks was =
    let self = c.args.self.now in
    let taken = taken_at self.processes self.waits.items c.remove-wait.new.self.items c.args.p c.in_ok-place.place
    c.remove-wait.result self.well_formed self.apart
    c.in_ok-place.ensures c.remove-wait.ensures.value c.remove-wait.ensures.items in
    record {
      blocked = subst (AllBlockedElsewhere c.with-self.result self.policy locks []) (sym taken.3)
          (elsewhere_without self.changed c.with-self.result self.policy locks self.waits.items c.args.p c.remove-wait.result self.apart taken.2
          c.with-self.ensures was.blocked);
    }
