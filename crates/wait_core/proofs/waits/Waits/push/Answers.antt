use Rattle.wait_core.proofs.Common.{◌≡◌, ◌≢◌, ◌<◌, ◌≤◌, [], ◌∷◌, List, All, subst, sym, arith, length, ∥∥₁_map, All-push, Wait, locks_of, TellsQueue, IsWellFormed, AreQueues, waits_on, AreThoseWaiting, waits_of, policy_of, processes_of, has_pair}
use Rattle.std.proofs.Common.{length-append}
use Rattle.std.specs.Vec.{vec_len, vec_capacity}
use Rattle.std.proofs.lemmas.List.Quantifiers.{all_pairs_push}
use Rattle.wait_core.proofs.BehindLemmas.{behind_joined}
use Rattle.wait_core.proofs.FileLemmas.{none_before, queues_joined}
use Rattle.wait_core.proofs.ListLemmas.{none_of, room_for}
use Rattle.wait_core.proofs.PairLemmas.{told-join}
use Rattle.wait_core.proofs.QueueLemmas.{queue_joined}
use Rattle.wait_core.proofs.WaitingLemmas.{waiting_joined}
use Rattle.wait_core.proofs.waits.Waits.push.Goals as goal

pub push_reserved-requires : goal.push_reserved-requires
unfolding waits_of processes_of
push_reserved-requires c =
    let self = c.args.self.now in
    let few : length self.waits.items < self.processes =
    room_for self.processes self.waits.items c.args.wait.p self.well_formed self.apart c.requires.well_formed.from_one c.requires.well_formed.process c.requires.none in
    let room : self.processes ≤ vec_capacity self.waits = self.room in
    let len : vec_len self.waits ≡ length self.waits.items = self.waits.ok.0 in
    omega arith

pub join-requires-clause-free : goal.join-requires-clause-free
unfolding waits_of
join-requires-clause-free c =
    let self = c.args.self.now in
    self.free c.args.wait.p (none_of self.waits.items c.args.wait.p c.requires.none)

pub invariant_of-self : goal.invariant_of-self
unfolding waits_of policy_of processes_of
invariant_of-self c =
    let self = c.args.self.now in record {
      few = self.few;
      room = (let room : self.processes ≤ vec_capacity c.push_reserved.new.self = rw c.push_reserved.ensures.capacity self.room in room);
      well_formed = (λ k d within. let items = c.push_reserved.ensures.items in
          let all = All-push (IsWellFormed self.processes) self.waits.items c.args.wait self.well_formed c.requires.well_formed in
          rw items (all k d (rw items at within)));
      apart = (λ i j d before within. let items = c.push_reserved.ensures.items in
          let all = all_pairs_push (λ (v w : Wait). v.p ≢ w.p) self.waits.items c.args.wait self.apart
          (λ k e inside. none_of self.waits.items c.args.wait.p c.requires.none k e inside) in
          rw items (all i j d before (rw items at within)));
      short = (let few = self.few in
          let room = room_for self.processes self.waits.items c.args.wait.p self.well_formed self.apart c.requires.well_formed.from_one c.requires.well_formed.process c.requires.none in
          let sum = length-append self.waits.items (c.args.wait ∷ []) in
          subst (λ (ws : List Wait). length ws ≤ 64) (sym c.push_reserved.ensures.items) (omega arith));
      linked = subst (λ (ws : List Wait). AreQueues c.join.new.self (waits_on ws)) (sym c.push_reserved.ensures.items)
          (queues_joined self.queues c.join.new.self self.waits.items c.args.wait c.join.ensures.joined self.linked);
      free = λ p none.
          let (others, own) = none_before self.waits.items c.args.wait p (subst (λ (ws : List Wait). All (λ v. v.p ≢ p) ws) c.push_reserved.ensures.items none) in
          c.join.ensures.others p (λ same. own (sym same)) (self.free p others);
      known = subst (AreThoseWaiting c.with-self.result) (sym c.push_reserved.ensures.items)
          (waiting_joined self.waiting c.with-self.result self.waits.items c.args.wait c.with-self.ensures.members self.known);
      behind_none = (λ queue i j d before within. let items = c.push_reserved.ensures.items in
          let all = behind_joined self.behind c.put-self.result self.processes self.waits.items c.args.wait c.queued.result self.policy self.few self.well_formed
          c.requires.well_formed.process (none_of self.waits.items c.args.wait.p c.requires.none) c.put-self.ensures queue c.queued.ensures (self.behind_none queue) in
          rw items (all i j d before (rw items at within)));
      ahead_told = (λ queue. ∥∥₁_map (self.ahead_told queue) (λ told. subst (TellsQueue c.tell_row.new.self) (sym c.push_reserved.ensures.items)
          (queue_joined self.ahead c.tell_row.new.self self.waits.items c.args.wait c.queued_behind-ahead.result (none_of self.waits.items c.args.wait.p c.requires.none)
          (c.queued_behind-ahead.ensures queue) c.tell_row.ensures.told c.tell_row.ensures.others told)));
    }

pub returns-clause-told : goal.returns-clause-told
unfolding waits_of has_pair
returns-clause-told c was =
    let self = c.args.self.now in
    told-join self _ (locks_of c.args.books.now) c.args.wait c.push_reserved.ensures.items
    (none_of self.waits.items c.args.wait.p c.requires.none) c.tell.ensures.told c.tell.ensures.others was
