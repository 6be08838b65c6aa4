-- From the machine to the manager: for `Manager::new` and `Manager::take`.
use Rattle.lock_manager.proofs.Common.{arith, ℕ, ◌≡◌, List, [], ◌∷◌, ◌++◌, sym, ap, ◌∙◌, subst, common_steps, Settles, granted, Machine, Sections, Rules, Request, Note, ProcState, Live, Policy, Wait, AllBlocked, State, opening_state, state_numbered, Outcome, marked, seat_in, visit_in, refused_in, Seat, no_seat, Step, Shows, machine_rules, machine_state, machine_locks, machine_waits, state_at}
use Rattle.lock_manager.specs.declared.manager.Manager.{Manager}
use Rattle.lock_manager.specs.State.{Visits}
use Rattle.lock_manager.specs.Sections.{visits_left, visits_behind, refused_behind}
use Rattle.lock_manager.specs.SectionsView.{AreOf}
use Rattle.lock_manager.specs.SeatView.{visit_of}
use Rattle.lock_manager.proofs.SectionLemmas.{no_visit}
use Rattle.lock_manager.specs.Safety.{IsSafe}
use Rattle.lock_manager.specs.MachineView.{TellsBy}
use Rattle.lock_manager.specs.ManagerView.{StandsFor, rules_of, processes_of, locks_in_books, waits_of, visit_at, refused_at}

-- the manager stands for what its machine shows and its sections say
pub stands_for : (manager : Manager) (S : State) → Shows manager.machine S → AreOf manager.sections S → StandsFor manager S
unfolding locks_in_books state_at waits_of visit_at refused_at
stands_for manager S h are = record {
  bytes = h.bytes;
  flocks = h.flocks;
  descriptors = h.descriptors;
  waits = h.waits;
  states = h.states;
  visits = are.visits;
  refused = are.refused;
}

-- and for nothing else
pub shows : (manager : Manager) (S : State) → StandsFor manager S → Shows manager.machine S
unfolding locks_in_books state_at waits_of
shows manager S h = record { bytes = h.bytes; flocks = h.flocks; descriptors = h.descriptors; waits = h.waits; states = h.states }

pub says : (manager : Manager) (S : State) → StandsFor manager S → AreOf manager.sections S
unfolding visit_at refused_at
says manager S h = record { visits = h.visits; refused = h.refused }

-- where each wait is blocked the machine is safe
pub safe_machine : (machine : Machine) → AllBlocked (machine_rules machine).policy (machine_locks machine) [] (machine_waits machine)
    → IsSafe (machine_rules machine).policy (machine_locks machine) (machine_waits machine)
unfolding machine_rules machine_locks machine_waits
safe_machine machine blocked = record { compatible = machine.kept.compatible; settled = blocked; free_of_cycles = machine.kept.free_of_cycles }

-- at the opening nobody is in a section, and nobody was refused
pub opening_says : (sections : Sections) → ((p : ℕ) → seat_in sections p ≡ no_seat) → AreOf sections opening_state
unfolding opening_state
opening_says sections nobody = record {
  visits = λ p section. ap (λ (seat : Seat). visit_of seat section) (nobody p) ∙ no_visit section;
  refused = λ p. ap (λ (seat : Seat). seat.refused) (nobody p);
}

-- the machine shows the state with the marks too, which are none of its own
marked_shows : (machine : Machine) (S : State) (p : ℕ) (request : Request) (outcome : Outcome) → Shows machine outcome.after
    → Shows machine (marked S p request outcome)
marked_shows machine S p request outcome h =
    record { bytes = h.bytes; flocks = h.flocks; descriptors = h.descriptors; waits = h.waits; states = h.states }

-- where who is in which section is the same, it is so behind a request
behind_same : (one other : Visits) (p : ℕ) (request : Request) → ((q section : ℕ) → one q section ≡ other q section)
    → (q section : ℕ) → visits_behind one p request q section ≡ visits_behind other p request q section
behind_same one other p request same q section = grind (arith, common_steps)

-- new says what old does behind the request that told these answers, where the machine shows how the processes stand
pub record AreMarked (old new : Sections) (machine : Machine) (p : ℕ) (request : Request) (told : List Note) : Type 0 where
  pub visits : (q section : ℕ) → visit_in new q section ≡ visits_left (machine_state machine) (visits_behind (visit_in old) p request) q section
  pub refused : (q : ℕ) → refused_in new q ≡ refused_behind (machine_state machine) told (refused_in old) q

-- it is so where the table was marked behind what was told, and how the processes stand
pub are_marked : (old new : Sections) (machine : Machine) (p : ℕ) (request : Request) (told heard : List Note) (states : List ProcState)
    → heard ≡ told → states ≡ machine.states.items
    → ((q section : ℕ) → visit_in new q section ≡ visits_left (state_numbered states) (visits_behind (visit_in old) p request) q section)
    → ((q : ℕ) → refused_in new q ≡ refused_behind (state_numbered states) heard (refused_in old) q)
    → AreMarked old new machine p request told
unfolding machine_state
are_marked old new machine p request told heard states same is visits refused =
    record {
      visits = λ q section. visits q section ∙ ap (λ (xs : List ProcState). visits_left (state_numbered xs) (visits_behind (visit_in old) p request) q section) is;
      refused = λ q. refused q ∙ ap (λ (notes : List Note). refused_behind (state_numbered states) notes (refused_in old) q) same
          ∙ ap (λ (xs : List ProcState). refused_behind (state_numbered xs) told (refused_in old) q) is;
    }

-- so it says the marks
marked_says : (old new : Sections) (machine : Machine) (S : State) (p : ℕ) (request : Request) (outcome : Outcome) → AreOf old S
    → AreMarked old new machine p request outcome.told → Shows machine outcome.after → AreOf new (marked S p request outcome)
marked_says old new machine S p request outcome are marks h = record {
  visits = λ q section. grind (arith, common_steps, marks.visits q section, h.states q, behind_same (visit_in old) S.visits p request are.visits q section);
  refused = λ q. grind (arith, common_steps, marks.refused q, h.states q, are.refused q);
}

-- a grant moves nobody
granted_says : (sections : Sections) (S : State) (before : List Wait) (wait : Wait) (after : List Wait) → AreOf sections S
    → AreOf sections (granted S before wait after)
granted_says sections S before wait after are = grind (arith, common_steps)

-- settling leaves them
settled_says : (sections : Sections) (policy : Policy) (S : State) (grants : List Note) (T : State) → Settles policy S grants T → AreOf sections S
    → AreOf sections T
settled_says sections policy S [] T settles are = subst (AreOf sections) (sym settles.1) are
settled_says sections policy S (grant ∷ grants) T settles are =
    settled_says sections policy (granted S settles.0 settles.1 settles.2) grants T settles.5 (granted_says sections S settles.0 settles.1 settles.2 are)

-- what a request of a live process tells, and then the grants of the settling, are what its step makes
pub one_step : (old new : Manager) (middle : Machine) (p n : ℕ) (request : Request) (told grants notes : List Note)
    → state_at old p ≡ Live → TellsBy old.sections old.machine middle p n request told → machine_rules middle ≡ machine_rules old.machine
    → AreMarked old.sections new.sections middle p request told
    → ((S : State) → Shows middle S → (T : State) × Settles (machine_rules middle).policy S grants T × Shows new.machine T)
    → notes ≡ told ++ grants
    → (S : State) → StandsFor old S → (T : State) × Step (rules_of old) (processes_of old) S p n request notes T × StandsFor new T
unfolding rules_of processes_of state_at
one_step old new middle p n request told grants notes live tells same are settles is S stands =
    let come = tells S (shows old S stands) (says old S stands) in
    let outcome : Outcome = record { told = told; after = come.0 } in
    let end = settles (marked S p request outcome) (marked_shows middle S p request outcome come.2) in (
      end.0,
      record {
        live = sym (stands.states p) ∙ live;
        outcome = outcome;
        comes_to = come.1;
        grants = grants;
        settles = subst (λ (rs : Rules). Settles rs.policy (marked S p request outcome) grants end.0) same end.1;
        are_notes = is;
      },
      stands_for new end.0 end.2
          (settled_says new.sections _ _ _ _ end.1 (marked_says old.sections new.sections middle S p request outcome (says old S stands) are come.2)),
    )
