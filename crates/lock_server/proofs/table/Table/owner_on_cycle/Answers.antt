use Rattle.lock_server.proofs.Common.{◌≡◌, ◌∙◌, ℕ, List, Contains, refl, subst, sym, true, false, WaitsFor, IsSearchedInDepth, table_state}
use Rattle.lock_server.specs.Searching.{ComesTo}
use Rattle.lock_server.proofs.ReachedLemmas.{gathered_from_none}
use Rattle.lock_server.proofs.SearchInDepthLemmas.{searched_back, searched_closed, searched_come, searched_none, searched_on, popped, searched_through, step_from}
use Rattle.lock_server.proofs.table.Table.owner_on_cycle.Goals as goal
use Rattle.lock_server.proofs.table.Table.owner_on_cycle.Goals.{After-turn, in-On+in_ok-go_on-in-On, in-Back}

pub loop-search-init : goal.loop-search-init
unfolding table_state
loop-search-init c =
    let table = c.args.self.now in
    searched_none c.args.policy (table_state table) _ c.new.ensures.items
    (λ owner untried crossed. let no = c.in_ok-uncrossed.ensures.none_crossed owner untried in let h : true ≡ false = sym crossed ∙ no in cc)
    (λ owner next step. c.in_ok-uncrossed.ensures.all owner (step_from c.args.policy table owner next step).0 (step_from c.args.policy table owner next step).1)

-- those for which the owner waits, of the owners that were gathered
steps : (c : After-turn) → (other : ℕ) → WaitsFor c.args.policy (table_state c.args.self.now) c.in-Some.owner other → Contains c.deref.result.now other
steps c other step =
    subst (λ (xs : List ℕ). Contains xs other) (sym c.deref.ensures.value)
    ((gathered_from_none c.new-owners.result.items c.add_steps.new.owners.items (WaitsFor c.args.policy (table_state c.args.self.now) c.in-Some.owner) c.new-owners.ensures.items c.in_ok-add_steps.ensures other).1 step)

gathered : (c : After-turn) → (other : ℕ) → Contains c.deref.result.now other → WaitsFor c.args.policy (table_state c.args.self.now) c.in-Some.owner other
gathered c other among =
    (gathered_from_none c.new-owners.result.items c.add_steps.new.owners.items (WaitsFor c.args.policy (table_state c.args.self.now) c.in-Some.owner) c.new-owners.ensures.items c.in_ok-add_steps.ensures other).0
    (subst (λ (xs : List ℕ). Contains xs other) c.deref.ensures.value among)

-- the search after it came to an owner
come : (c : After-turn) → IsSearchedInDepth c.args.policy (table_state c.args.self.now) c.current.new.self
come c =
    searched_come c.args.policy (table_state c.args.self.now) c.loop-search.search c.current.new.self c.in-Some.owner c.loop-search.invariant
    (rw c.in-Some.is at c.in_ok-owner.ensures.some)

pub returns-in-Closed : goal.returns-in-Closed
returns-in-Closed c =
    let at = goal.at.returns-in-Closed c in
    let table = c.args.self.now in
    let comes : ComesTo c.loop-search.search c.current.new.self c.in-Some.owner = rw c.in-Some.is at c.in_ok-owner.ensures.some in
    searched_closed c.args.policy (table_state table) c.current.new.self comes.before c.in-Some.owner (come at.After-turn) comes.path
    c.in-Closed.owner (gathered at.After-turn c.in-Closed.owner c.in-Closed.ensures.0) c.in-Closed.ensures.1

pub loop-search-preserved : goal.loop-search-preserved
loop-search-preserved c =
    let at = goal.at.loop-search-preserved c in
    let table = c.args.self.now in
    let comes : ComesTo c.loop-search.search c.current.new.self c.in-Some.owner = rw c.in-Some.is at c.in_ok-owner.ensures.some in
    elim c.match-turn.branch [
      | in-On+in_ok-go_on-in-On w ↦
          rw w.search-is
          (searched_on c.args.policy (table_state table) c.current.new.self comes.before c.in-Some.owner (come at.After-turn) comes.path
          w.go_on.new.self w.in-On.next (gathered at.After-turn w.in-On.next w.in-On.ensures.0) w.in_ok-go_on-in-On.ensures)
      | in-Back w ↦
          rw w.search-is
          (searched_back c.args.policy (table_state table) c.current.new.self comes.before c.in-Some.owner (come at.After-turn) comes.path
          _ (λ next step. w.in-Back.ensures next (steps at.After-turn next step)) refl
          (popped c.current.new.self.path.items _ comes.before c.in-Some.owner w.pop.result _ comes.path w.pop.ensures.items w.pop.ensures.variant c.current.new.self.path.ok.0))
    ]

pub returns : goal.returns
returns c =
    searched_through c.args.policy (table_state c.args.self.now) c.loop-search.search c.loop-search.invariant
    (rw c.in_default.is at c.in_ok-owner.ensures.none)
