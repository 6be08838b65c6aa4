-- The grants of a settling, one after another: for `Machine::rest` and `Machine::settle`.
use Rattle.lock_manager.proofs.Common.{◌≡◌, refl, sym, ◌∙◌, subst, List, [], ◌∷◌, ◌++◌, append-nil, append_assoc, arith, common_steps, ∥∥₁_map}
use Rattle.lock_manager.proofs.Common.{Policy, Wait, Waits, IsFreeOfCycles, Locks, locks_of, AreBlockedElsewhere, waits_of, AreTold, AreOwned, AreKept, AreApart, HaveRoom, AllBlocked, IsBlockedByLock, IsNextBetween, Machine, Note, Answer, State, locks_held, Settles, granted, Shows, machine_rules, machine_locks, machine_waits}
use Rattle.wait_core.specs.Blocking.{IsNextReady}
use Rattle.lock_manager.specs.declared.request.Reply.TheVariants as replies
use Rattle.lock_manager.proofs.calls.ReportLemmas.{same_locks}

-- from what old shows these grants lead to what new shows, whatever is granted after them
abbrev pub LeadsOn : Machine → Machine → List Note → Type 0
LeadsOn old new grants =
    (S : State) → Shows old S →
    (T : State) × Shows new T
    × ((rest : List Note) (U : State) → Settles (machine_rules old).policy T rest U → Settles (machine_rules old).policy S (grants ++ rest) U)

-- no grant leads nowhere
pub leads_nowhere : (machine : Machine) → LeadsOn machine machine []
leads_nowhere machine S h = (S, h, λ rest U settles. settles)

-- whoever is next isn't blocked by a lock
pub next_is_free : (policy : Policy) (locks : Locks) (waits : List Wait) (wait : Wait) → IsNextReady policy locks waits wait → ¬ IsBlockedByLock locks wait
next_is_free policy locks waits wait next blocked = grind (arith, common_steps)

-- one grant more
pub leads_on : (old middle new : Machine) (grants : List Note) (wait : Wait) → machine_rules middle ≡ machine_rules old
    → IsNextReady (machine_rules middle).policy (machine_locks middle) (machine_waits middle) wait
    → ((S : State) (before after : List Wait) → Shows middle S → S.waits ≡ before ++ wait ∷ after → Shows new (granted S before wait after))
    → LeadsOn old middle grants → LeadsOn old new (grants ++ Answer wait.p wait.n replies.Ok ∷ [])
leads_on old middle new grants wait rules next grant leads S h =
    let given = leads S h in
    let T : State = given.0 in
    let before = next.before in
    let after = next.after in
    let place : T.waits ≡ before ++ wait ∷ after = sym given.1.waits ∙ next.is_next.place in
    let is_next : IsNextBetween (machine_rules old).policy (locks_held T) T.waits before wait after =
    subst (λ (locks : Locks). IsNextBetween (machine_rules old).policy locks T.waits before wait after) (same_locks middle T given.1)
    (subst (λ ws. IsNextBetween (machine_rules old).policy (machine_locks middle) ws before wait after) given.1.waits
    (subst (λ rs. IsNextBetween rs.policy (machine_locks middle) (machine_waits middle) before wait after) rules next.is_next)) in (
      granted T before wait after,
      grant T before after given.1 place,
      λ rest U settles.
          subst (λ notes. Settles (machine_rules old).policy S notes U) (sym (append_assoc grants (Answer wait.p wait.n replies.Ok ∷ []) rest))
          (given.2 (Answer wait.p wait.n replies.Ok ∷ rest) U (before, wait, after, is_next, refl, settles)),
    )

-- where every wait is blocked the settling has come to its end
pub settled_here : (old new : Machine) (grants : List Note) → machine_rules new ≡ machine_rules old
    → AllBlocked (machine_rules new).policy (machine_locks new) [] (machine_waits new) → LeadsOn old new grants
    → (S : State) → Shows old S → (T : State) × Settles (machine_rules old).policy S grants T × Shows new T
settled_here old new grants rules blocked leads S h =
    let given = leads S h in
    let T : State = given.0 in
    let all : AllBlocked (machine_rules old).policy (locks_held T) [] T.waits =
    subst (λ (locks : Locks). AllBlocked (machine_rules old).policy locks [] T.waits) (same_locks new T given.1)
    (subst (λ ws. AllBlocked (machine_rules old).policy (machine_locks new) [] ws) given.1.waits
    (subst (λ rs. AllBlocked rs.policy (machine_locks new) [] (machine_waits new)) rules blocked)) in
    (T, subst (λ notes. Settles (machine_rules old).policy S notes T) (append-nil grants) (given.2 [] T (all, refl)), given.1)

-- what is kept stays where each wait is blocked, and no file counts as changed any more
pub kept_at_rest : (m : Machine) (waits : Waits) → waits_of waits ≡ waits_of m.waits
    → (AreTold m.waits (locks_of m.books.items) → AreTold waits (locks_of m.books.items))
    → AreBlockedElsewhere waits (locks_of m.books.items) → AreKept m.rules.policy m.tables m.books.items waits
kept_at_rest m waits same told blocked =
    let locks = locks_of m.books.items in
    record {
      compatible = m.kept.compatible;
      owned = subst (AreOwned m.tables locks) (sym same) m.kept.owned;
      within = m.kept.within;
      told = ∥∥₁_map m.kept.told told;
      blocked = ∣ blocked ∣₁;
      apart = subst AreApart (sym same) m.kept.apart;
      room = subst (HaveRoom m.books.items) (sym same) m.kept.room;
      free_of_cycles = subst (IsFreeOfCycles m.rules.policy locks) (sym same) m.kept.free_of_cycles;
    }
