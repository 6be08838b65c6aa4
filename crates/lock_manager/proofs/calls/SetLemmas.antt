-- What a set command comes to: at once, refused, or later; for `Machine::set_command` and `Machine::test_flock`.
use Rattle.lock_manager.proofs.Common.{arith, ◌≡◌, refl, sym, ap, subst, true, false, Some, List, [], ◌∷◌, ◌++◌, inl, inr, ◌⊎◌, IsFalse, common_steps}
use Rattle.lock_manager.proofs.Common.{Bytes, Policy, Wait, Locks, IsBlockedByLock, IsBlocked, IsQueued, ClosesCycle, Machine, Rules, LkCmd, GetLk, SetLk, SetLkW, OGetLk, OSetLk, OSetLkW, Note, Answer, Waiting, State, locks_held, with_byte_mode, with_lock, with_process, Outcome, is_get, CommandComesTo, Shows, machine_rules, machine_locks, machine_waits}
use Rattle.std.proofs.Common.{IsTrue}
use Rattle.lock_manager.specs.declared.request.Errno.TheVariants.{EDEADLK}
use Rattle.lock_manager.specs.declared.request.Reply.TheVariants as replies
use Rattle.lock_manager.specs.declared.request.Note.TheVariants.{Waits}
use Rattle.lock_manager.specs.State.{with_lock_of}
use Rattle.lock_manager.specs.Outcomes.{refused, waits_then}
use Rattle.lock_manager.specs.LockWords.{is_ofd, may_wait}
use Rattle.lock_manager.specs.LockCommands.{IsLocked}
use Rattle.lock_manager.proofs.calls.ReportLemmas.{same_locks}

-- in each state that old shows the set command comes to this note alone, and new shows the state that it leaves
abbrev pub CommandTells : Machine → Machine → LkCmd → Wait → Note → Type 0
CommandTells old new cmd wanted note =
    (S : State) → Shows old S → (T : State) × CommandComesTo (machine_rules old) S cmd wanted (record { told = note ∷ []; after = T }) × Shows new T

-- what holds of the machine's locks and waits holds of those of each state that it shows
pub at_state : (m : Machine) (S : State) (P : Locks → List Wait → Type 0) → Shows m S → P (machine_locks m) (machine_waits m) → P (locks_held S) S.waits
at_state m S P h given = subst (P (locks_held S)) h.waits (subst (λ locks. P locks (machine_waits m)) (same_locks m S h) given)

-- a wait is blocked by a held lock, or in the queue
pub is_blocked : (policy : Policy) (locks : Locks) (waits : List Wait) (wanted : Wait) → IsBlockedByLock locks wanted ⊎ IsQueued policy waits wanted
    → IsBlocked policy locks waits wanted
is_blocked policy locks waits wanted h = grind (arith, common_steps)

pub not_blocked : (policy : Policy) (locks : Locks) (waits : List Wait) (wanted : Wait) → ¬ IsBlockedByLock locks wanted
    → ¬ IsQueued policy waits wanted → ¬ IsBlocked policy locks waits wanted
not_blocked policy locks waits wanted h h2 h3 = grind (arith, common_steps)

-- the command finds its way blocked: where it would wait, as a wait is
abbrev pub IsCommandBlocked : Rules → LkCmd → Wait → Locks → List Wait → Type 0
IsCommandBlocked rules cmd wanted locks waits = IsBlockedByLock locks wanted ⊎ (IsTrue (may_wait cmd) × IsQueued rules.policy waits wanted)

-- nothing blocks it
comes_free : (rules : Rules) (S : State) (cmd : LkCmd) (wanted : Wait) (outcome : Outcome) → is_get cmd ≡ false
    → ¬ IsCommandBlocked rules cmd wanted (locks_held S) S.waits → IsLocked S wanted outcome → CommandComesTo rules S cmd wanted outcome
comes_free rules S GetLk wanted outcome set free done = absurd (cc)
comes_free rules S OGetLk wanted outcome set free done = absurd (cc)
comes_free rules S SetLk wanted outcome set free done = inr (λ h. free (inl h), done)
comes_free rules S OSetLk wanted outcome set free done = inr (λ h. free (inl h), done)
comes_free rules S SetLkW wanted outcome set free done =
    inr (not_blocked rules.policy (locks_held S) S.waits wanted (λ h. free (inl h)) (λ h. free (inr (refl, h))), done)
comes_free rules S OSetLkW wanted outcome set free done =
    inr (not_blocked rules.policy (locks_held S) S.waits wanted (λ h. free (inl h)) (λ h. free (inr (refl, h))), done)

-- it would wait, and close a cycle
comes_deadlock : (rules : Rules) (S : State) (cmd : LkCmd) (wanted : Wait) → is_get cmd ≡ false → may_wait cmd ≡ true → IsFalse (is_ofd cmd)
    → IsCommandBlocked rules cmd wanted (locks_held S) S.waits → ClosesCycle rules.policy (locks_held S) S.waits wanted
    → CommandComesTo rules S cmd wanted (refused S wanted.p wanted.n EDEADLK)
comes_deadlock rules S cmd wanted h h2 h3 h4 h5 = grind (arith, common_steps, is_blocked)

-- it waits
comes_waiting : (rules : Rules) (S : State) (cmd : LkCmd) (wanted : Wait) → is_get cmd ≡ false → may_wait cmd ≡ true
    → IsCommandBlocked rules cmd wanted (locks_held S) S.waits → ¬ (IsFalse (is_ofd cmd) × ClosesCycle rules.policy (locks_held S) S.waits wanted)
    → CommandComesTo rules S cmd wanted (waits_then S wanted [])
comes_waiting rules S cmd wanted h h2 h3 h4 = grind (arith, common_steps, is_blocked)

-- a lock that was set
pub locked : (old new : Machine) (cmd : LkCmd) (wanted : Wait) (note : Note) → is_get cmd ≡ false → wanted.family ≡ Bytes
    → note ≡ Answer wanted.p wanted.n replies.Ok
    → ¬ IsCommandBlocked (machine_rules old) cmd wanted (machine_locks old) (machine_waits old)
    → ((S : State) → Shows old S → Shows new (with_byte_mode S wanted.file wanted.owner wanted.span (Some wanted.mode))) → CommandTells old new cmd wanted note
locked old new cmd wanted note set family note_is free stands S h =
    let T = with_lock S wanted in (
      T,
      comes_free (machine_rules old) S cmd wanted (record { told = note ∷ []; after = T }) set
          (at_state old S (λ locks waits. ¬ IsCommandBlocked (machine_rules old) cmd wanted locks waits) h free)
          (ap (λ k. record { told = k ∷ []; after = T }) note_is),
      subst (λ f. Shows new (with_lock_of f wanted.owner S wanted)) (sym family) (stands S h),
    )

-- a command that was refused because of a cycle
pub deadlocked : (old : Machine) (cmd : LkCmd) (wanted : Wait) (note : Note) → is_get cmd ≡ false → may_wait cmd ≡ true
    → note ≡ Answer wanted.p wanted.n (replies.Err EDEADLK)
    → IsCommandBlocked (machine_rules old) cmd wanted (machine_locks old) (machine_waits old)
    → IsFalse (is_ofd cmd) × ClosesCycle (machine_rules old).policy (machine_locks old) (machine_waits old) wanted → CommandTells old old cmd wanted note
deadlocked old cmd wanted note set waits note_is blocked cycle S h = (
  S,
  subst (λ k. CommandComesTo (machine_rules old) S cmd wanted (record { told = k ∷ []; after = S })) (sym note_is)
      (comes_deadlock (machine_rules old) S cmd wanted set waits cycle.0 (at_state old S (IsCommandBlocked (machine_rules old) cmd wanted) h blocked)
      (at_state old S (λ locks ws. ClosesCycle (machine_rules old).policy locks ws wanted) h cycle.1)),
  h,
)

-- a command that waits
pub waiting : (old new : Machine) (cmd : LkCmd) (wanted : Wait) → is_get cmd ≡ false → may_wait cmd ≡ true
    → IsCommandBlocked (machine_rules old) cmd wanted (machine_locks old) (machine_waits old)
    → ¬ (IsFalse (is_ofd cmd) × ClosesCycle (machine_rules old).policy (machine_locks old) (machine_waits old) wanted)
    → ((S : State) → Shows old S → Shows new (with_process (record S { waits = S.waits ++ wanted ∷ [] }) wanted.p Waiting))
    → CommandTells old new cmd wanted (Waits wanted.p wanted.n)
waiting old new cmd wanted set waits blocked free stands S h = (
  with_process (record S { waits = S.waits ++ wanted ∷ [] }) wanted.p Waiting,
  comes_waiting (machine_rules old) S cmd wanted set waits (at_state old S (IsCommandBlocked (machine_rules old) cmd wanted) h blocked)
      (at_state old S (λ locks ws. ¬ (IsFalse (is_ofd cmd) × ClosesCycle (machine_rules old).policy locks ws wanted)) h free),
  stands S h,
)
