use Rattle.lock_manager.proofs.Common.{arith, ◌≡◌, ◌∙◌, sym, subst, true, slice_get, common_steps, waits_of, state_numbered, Live, AreApart, IsSuspended, has_place_at, machine_state, machine_waits}
use Rattle.lock_manager.proofs.kept.GrantLemmas.{may_lock_granted}
use Rattle.lock_manager.proofs.calls.ProcessCallLemmas.{found_holds}
use Rattle.lock_manager.proofs.calls.FlockCallLemmas.{found_asks, is_its_own_flock, shows_granted_flock}
use Rattle.lock_manager.proofs.machine.Machine.grant_flock.Goals as goal

pub interrupt-requires : goal.interrupt-requires
unfolding machine_state machine_waits
interrupt-requires c =
    let machine = c.args.self.now in
    (found_holds (IsSuspended machine.tables machine.states.items) (waits_of machine.waits) c.args.wait.p c.args.wait c.requires.grantable.waits machine.standing.suspended).waiting

pub change_flock-requires-clause-owner : goal.change_flock-requires-clause-owner
unfolding machine_waits
change_flock-requires-clause-owner c = grind (arith, common_steps, may_lock_granted)

pub change_flock-requires-clause-place : goal.change_flock-requires-clause-place
unfolding machine_waits
change_flock-requires-clause-place c m e = grind (arith, common_steps, found_asks, is_its_own_flock)

pub returns : goal.returns
unfolding machine_waits machine_state
returns c = record {
  shows = λ S before after h place.
      shows_granted_flock _ S before c.args.wait after c.args.description c.requires.family c.requires.owner (subst AreApart h.waits c.args.self.now.kept.apart) place
      (c.change_flock.ensures.shows _ (c.interrupt.ensures.shows S h));
  fewer = rw c.change_flock.ensures.waits c.interrupt.ensures.fewer;
  lives = λ q live. subst (λ st. state_numbered st.items q ≡ Live) (sym c.change_flock.ensures.states) (c.interrupt.ensures.others q live);
  places = λ f d there. c.change_flock.ensures.places f d (subst (λ bs. has_place_at (slice_get bs.items f) d ≡ true) (sym c.interrupt.ensures.books) there);
  tables = c.change_flock.ensures.tables ∙ c.interrupt.ensures.tables;
  same_rules = record {
    rules = c.change_flock.ensures.same_rules.rules ∙ c.interrupt.ensures.same_rules.rules;
    processes = c.change_flock.ensures.same_rules.processes ∙ c.interrupt.ensures.same_rules.processes;
  };
}
