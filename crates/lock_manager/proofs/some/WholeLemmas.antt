-- A state that a manager stands for has what a step needs.
use Rattle.lock_manager.proofs.Common.{rules, arith, ◌≡◌, ℕ, Option, Some, IsSome, common_steps, same_Some, Tables, Descriptors, description_numbered, StandFor, State, machine_state, machine_waits, state_at, AreMade, IsWhole}
use Rattle.fd_table.specs.TablesView.{Numbered, IsSeen, view_of}
use Rattle.lock_manager.specs.declared.manager.Manager.{Manager}
use Rattle.lock_manager.specs.ManagerView.{StandsFor, waits_of}
use Rattle.lock_manager.specs.SomeOutcome.{StepHasSomeOutcome}
use Rattle.lock_manager.proofs.some.SomeOutcomeLaws.{Step-some}
use Rattle.lock_manager.proofs.some.StaysWholeLemmas.{whole_opening, step_whole}

-- what is seen was made
seen_made : (D : Descriptors) (p fd number : ℕ) (seen : Option Numbered) → IsSeen seen D p fd → D.description_of p fd ≡ Some number
    → IsSome (description_numbered D.descriptions number)
seen_made D p fd number seen h h2 = grind (arith, common_steps, same_Some)

stood_made : (tables : Tables) (D : Descriptors) → StandFor tables D → AreMade D
stood_made tables D h p fd number refers = seen_made D p fd number ((view_of tables).seen p fd) (h.seen p fd) refers

whole : (manager : Manager) (S : State) → StandsFor manager S → IsWhole S
unfolding state_at waits_of machine_state machine_waits
whole manager S h = grind (arith, common_steps, stood_made)

-- so is each state that steps from the opening lead to, and from each there is a step
pub some_step : StepHasSomeOutcome
some_step = search (rules, whole_opening, step_whole, whole, Step-some)
