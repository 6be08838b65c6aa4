use Rattle.lock_server.proofs.Common.{ℕ, ◌≡◌, ◌++◌, ◌∙◌, ◌⊎◌, arith, inl, inr, sym, subst, refl, true, false, Contains, List, IsGoingOn, WaitsFor, Follows, table_state}
use Rattle.lock_server.proofs.ReachedLemmas.{read_at, read_past, step_goes_on}
use Rattle.lock_server.proofs.SearchLemmas.{searched_all, searched_found, searched_more}
use Rattle.lock_server.proofs.table.Table.leads_to.Goals as goal

pub returns-then-owner-target : goal.returns-then-owner-target
returns-then-owner-target c =
    let table = c.args.self.now in
    let reached = c.loop-owner.reached.owners.items in
    let here = read_at reached c.loop-owner.looked_at c.in-Some.owner (sym c.get.ensures ∙ c.in-Some.is) in
    let among : Contains reached c.in-Some.owner = (c.loop-owner.looked_at, here.0, sym here.1) in
    let found = searched_found (WaitsFor c.args.policy (table_state table)) (IsGoingOn table.waiters c.args.target) c.args.target c.args.reached.owners.items reached
    c.loop-owner.looked_at c.loop-owner.invariant.searched (subst (λ (n : ℕ). Contains reached n) c.if-owner-target.true among) in
    (λ yes. record { owner = found.0; among = found.1; leads = found.2 }, λ some. refl)

pub follow-requires : goal.follow-requires
follow-requires c =
    let here = read_at c.loop-owner.reached.owners.items c.loop-owner.looked_at c.in-Some.owner (sym c.get.ensures ∙ c.in-Some.is) in
    record { told = c.loop-owner.invariant.told; among = (c.loop-owner.looked_at, here.0, sym here.1) }

pub loop-owner-preserved : goal.loop-owner-preserved
loop-owner-preserved c =
    let table = c.args.self.now in
    let reached = c.loop-owner.reached.owners.items in
    let here = read_at reached c.loop-owner.looked_at c.in-Some.owner (sym c.get.ensures ∙ c.in-Some.is) in
    let R = WaitsFor c.args.policy (table_state table) in
    let follows : Follows table c.args.target (R c.in-Some.owner) c.loop-owner.reached c.follow.new.reached = c.in_ok-follow.ensures in
    let going = follows.adds in
    let only : (other : ℕ) → Contains (reached ++ going.more) other → Contains reached other ⊎ R c.in-Some.owner other =
    λ other among. elim (going.adds.only other (subst (λ (xs : List ℕ). Contains xs other) (sym going.is) among)) [ inl old ↦ inl old | inr new ↦ inr new.0 ] in
    record {
      searched = rw going.is
          (searched_more R (IsGoingOn table.waiters c.args.target) c.args.target c.args.reached.owners.items reached going.more c.loop-owner.looked_at c.in-Some.owner
          c.loop-owner.invariant.searched here.0 here.1 c.if-owner-target.false only
          (λ other step goes. subst (λ (xs : List ℕ). Contains xs other) going.is (going.adds.added other (step, goes))));
      told = follows.told;
    }

pub returns : goal.returns
returns c =
    let table = c.args.self.now in
    let past = read_past c.loop-owner.reached.owners.items c.loop-owner.looked_at (sym c.get.ensures ∙ c.in_default.is) in (
      λ yes. absurd (let h : false ≡ true = yes in cc),
      λ some.
          absurd (searched_all (WaitsFor c.args.policy (table_state table)) (IsGoingOn table.waiters c.args.target) c.args.target c.args.reached.owners.items c.loop-owner.reached.owners.items
          c.loop-owner.looked_at (inl refl) (λ p q step. step_goes_on c.args.policy table c.args.target p q step) c.loop-owner.invariant.searched (omega arith) some.owner some.among some.leads),
    )
