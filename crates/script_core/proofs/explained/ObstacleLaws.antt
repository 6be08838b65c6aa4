-- What is the first in the way of an event's request is determined.
use Rattle.script_core.proofs.Common.{arith, rules, ◌≡◌, ℕ, ◌≤◌, inl, inr, Option, Some, None, List, refl, sym, ap, ◌∙◌, subst, common_steps, same_Some, Mode, Span, Modes, Held, Owner, ByteModes, FlockModes, Family, Bytes, Whole, Policy, Wait, IsBlocked, Locks, InTheWay, Rules, State, locks_held, Event}
use Rattle.std.proofs.lemmas.Bool.{cases_order}
use Rattle.range_core.specs.Ranges.{IsRun, HeldConflicts}
use Rattle.lock_book.specs.declared.Blocker.{Blocker}
use Rattle.lock_book.specs.Conflicts.{IsFirstBlocked, IsFirstBlocker}
use Rattle.wait_core.specs.declared.Policy.TheVariants as policies
use Rattle.wait_core.specs.Blocking.{IsBlockedIn, WaitsConflict}
use Rattle.lock_manager.specs.declared.request.InTheWay.TheVariants as obstacles
use Rattle.lock_manager.specs.Asking.{IsFirstByteLock, IsFirstFlock, IsFirstLockOf, IsFirstInTheWay}
use Rattle.script_core.specs.Explaining.{StandsInTheWay}
use Rattle.script_core.proofs.DeadlockLemmas.{first_any}
use Rattle.script_core.proofs.ExplainLemmas.{asks_once}
use Rattle.script_core.proofs.explained.CycleLaws.{IsFirstOf-unique}

-- ---- the first byte lock

one_byte : (modes : ByteModes) (owner : Owner) (span : Span) (wanted : Mode) (b c : ℕ) (one other : Owner)
    → IsFirstBlocked modes owner span wanted b one → IsFirstBlocked modes owner span wanted c other → b ≡ c
one_byte modes owner span wanted b c one other h k = grind (arith, common_steps, cases_order)

one_owner : (modes : ByteModes) (owner : Owner) (span : Span) (wanted : Mode) (b : ℕ) (one other : Owner)
    → IsFirstBlocked modes owner span wanted b one → IsFirstBlocked modes owner span wanted b other → one ≡ other
one_owner modes owner span wanted b one other h k = grind (arith, common_steps, cases_order)

one_mode : (modes : Modes) (byte : ℕ) (m k : Mode) (s t : Span) → IsRun modes byte m s → IsRun modes byte k t → m ≡ k
one_mode modes byte m k s t one other = same_Some m k (sym (one.constant byte one.covered) ∙ other.constant byte other.covered)

one_range : (modes : Modes) (byte : ℕ) (mode : Mode) (s t : Span) → IsRun modes byte mode s → IsRun modes byte mode t → s ≡ t
one_range modes byte mode s t one other = grind (arith, common_steps)

IsFirstBlocker-unique : (modes : ByteModes) (owner : Owner) (span : Span) (wanted : Mode) (x y : Blocker) → IsFirstBlocker modes owner span wanted x
    → IsFirstBlocker modes owner span wanted y → x ≡ y
IsFirstBlocker-unique modes owner span wanted x y h k = grind (arith, common_steps, one_byte, one_owner, one_mode, one_range)

IsFirstByteLock-unique : (modes : ByteModes) (wait : Wait) (one other : Held) → IsFirstByteLock modes wait one → IsFirstByteLock modes wait other
    → one ≡ other
IsFirstByteLock-unique modes wait one other h k =
    let same = IsFirstBlocker-unique modes wait.owner wait.span wait.mode h.blocker k.blocker h.first k.first in
    h.is ∙ ap (λ (b : Blocker). record { file = wait.file; whole = _; owner = b.owner; mode = b.mode; span = b.span }) same ∙ sym k.is

-- ---- the first flock lock

least_flock : (flocks : FlockModes) (wait : Wait) (one other : Held) → (h : IsFirstFlock flocks wait one) → (k : IsFirstFlock flocks wait other)
    → h.description ≤ k.description
least_flock flocks wait one other h k =
    h.least k.description k.another (subst (λ (m : Option Mode). HeldConflicts m wait.mode) (sym k.holds) k.conflicts)

IsFirstFlock-unique : (flocks : FlockModes) (wait : Wait) (one other : Held) → IsFirstFlock flocks wait one → IsFirstFlock flocks wait other → one ≡ other
IsFirstFlock-unique flocks wait one other h k =
    let up = least_flock flocks wait one other h k in
    let down = least_flock flocks wait other one k h in
    let same : h.description ≡ k.description = omega (arith, up, down) in
    let mode : h.mode ≡ k.mode = same_Some h.mode k.mode (sym h.holds ∙ ap flocks same ∙ k.holds) in
    grind (arith, common_steps)

-- ---- the first of all

IsFirstLockOf-unique : (family : Family) (locks : Locks) (wait : Wait) (one other : Held) → IsFirstLockOf family locks wait one
    → IsFirstLockOf family locks wait other → one ≡ other
IsFirstLockOf-unique Bytes locks wait one other h k = IsFirstByteLock-unique (locks.bytes wait.file) wait one other h k
IsFirstLockOf-unique Whole locks wait one other h k = IsFirstFlock-unique (locks.flocks wait.file) wait one other h k

first_blocks : (family : Family) (locks : Locks) (wait : Wait) (held : Held) → IsFirstLockOf family locks wait held → IsBlockedIn family locks wait
first_blocks Bytes locks wait held h =
    record { byte = h.first.byte; covered = h.first.first.covered; other = h.blocker.owner; blocks = h.first.first.blocks }
first_blocks Whole locks wait held h = record {
  description = h.description;
  another = h.another;
  conflicts = subst (λ (m : Option Mode). HeldConflicts m wait.mode) (sym h.holds) h.conflicts;
}

IsFirstInTheWay-unique : (policy : Policy) (locks : Locks) (waits : List Wait) (wait : Wait) (one other : InTheWay)
    → IsFirstInTheWay policy locks waits wait one → IsFirstInTheWay policy locks waits wait other → one ≡ other
IsFirstInTheWay-unique policy locks waits wait (obstacles.Lock held) (obstacles.Lock other) h k =
    ap obstacles.Lock (IsFirstLockOf-unique wait.family locks wait held other h k)
IsFirstInTheWay-unique policy locks waits wait (obstacles.Wait v) (obstacles.Wait w) h k =
    ap obstacles.Wait (IsFirstOf-unique (λ x. WaitsConflict x wait) waits v w h.2 k.2)
IsFirstInTheWay-unique policy locks waits wait (obstacles.Lock held) (obstacles.Wait w) h k = absurd (k.1 (first_blocks wait.family locks wait held h))
IsFirstInTheWay-unique policy locks waits wait (obstacles.Wait v) (obstacles.Lock held) h k = absurd (h.1 (first_blocks wait.family locks wait held k))

way_blocks : (policy : Policy) (locks : Locks) (waits : List Wait) (wait : Wait) (obstacle : InTheWay) → IsFirstInTheWay policy locks waits wait obstacle
    → IsBlocked policy locks waits wait
way_blocks policies.Held locks waits wait (obstacles.Lock held) h = first_blocks wait.family locks wait held h
way_blocks policies.Queue locks waits wait (obstacles.Lock held) h = inl (first_blocks wait.family locks wait held h)
way_blocks policies.Held locks waits wait (obstacles.Wait v) h = absurd (let no = h.0 in cc)
way_blocks policies.Queue locks waits wait (obstacles.Wait v) h = inr (first_any (λ x. WaitsConflict x wait) waits v h.2)

-- what is in the way of the request, or that nothing is
pub StandsInTheWay-unique : (rules : Rules) (T : State) (event : Event) (one other : Option InTheWay) → StandsInTheWay rules T event one
    → StandsInTheWay rules T event other → one ≡ other
StandsInTheWay-unique rules T event None None h k = refl
StandsInTheWay-unique rules T event None (Some other) h k =
    absurd (h k.0 k.1 k.2 (way_blocks rules.policy (locks_held T) T.waits k.1 other k.3))
StandsInTheWay-unique rules T event (Some one) None h k = absurd (k h.0 h.1 h.2 (way_blocks rules.policy (locks_held T) T.waits h.1 one h.3))
StandsInTheWay-unique rules T event (Some one) (Some other) h k =
    let same : h.1 ≡ k.1 = asks_once T event.p event.n event.request h.1 k.1 h.2 k.2 in
    ap Some (IsFirstInTheWay-unique rules.policy (locks_held T) T.waits k.1 one other
    (subst (λ (w : Wait). IsFirstInTheWay rules.policy (locks_held T) T.waits w one) same h.3) k.3)
