-- That the queue policy keeps the order of arrival: for `queue_is_kept`.
use Rattle.lock_server.proofs.Common.{ℕ, ◌≡◌, ◌≢◌, inl, inr, refl, sym, ap, subst, Option, Some, None, List, [], ◌∷◌, ◌++◌, Any, ∥∥₁_elim, ⊥_prop}
use Rattle.lock_server.proofs.Common.{Mode, Read, Write, Conflict, HeldConflicts, Owner, Process, Description, Family, Bytes, Whole, Policy, Held, Queue, IsBlockedIn, Pending, WaitAtOnceComesTo, WaitComesTo, LockServer, FileState, by_owner, locks_on, as_wait, IsCompatible, state_of, table_state, AllBlocked, HasAlready, HasIn, IsAtLeast, IsBlockedUnless, IsWaitBlocked, PendingsConflict, State}
use Rattle.lock_server.specs.declared.WaitAnswer.TheVariants.{Done, Waits, Deadlock}
use Rattle.lock_server.specs.Queueing.{QueueIsKept}
use Rattle.lock_server.proofs.OutcomeLaws.{blocked_at}

-- what an owner has is decided, byte by byte
at_least_or_not : (held : Option Mode) (wanted : Mode) → (¬ ¬ IsAtLeast held wanted) → IsAtLeast held wanted
at_least_or_not None wanted h = h (λ k. k)
at_least_or_not (Some Read) Read h = tt
at_least_or_not (Some Read) Write h = h (λ k. k)
at_least_or_not (Some Write) wanted h = tt

has_or_not : (family : Family) (F : FileState) (wait : Pending) → (¬ ¬ HasIn family F wait) → HasIn family F wait
has_or_not Bytes F wait h = λ byte covered. at_least_or_not (F.bytes wait.owner byte) wait.mode (λ lacks. h (λ has. lacks (has byte covered)))
has_or_not Whole F wait h = at_least_or_not (F.flocks wait.owner) wait.mode h

-- what isn't blocked though an earlier wait conflicts is for what its owner had
had_it : (F G : FileState) (earlier : List Pending) (wait : Pending) → ¬ IsBlockedUnless Queue F earlier wait (HasAlready G wait)
    → Any (λ v. PendingsConflict v wait) earlier → HasAlready G wait
had_it F G earlier wait ready conflicts = has_or_not wait.family G wait (λ lacks. ready (inr (conflicts, lacks)))

done_request : (S : State) (file : ℕ) (wanted : Pending) (T : State) → WaitComesTo Queue S file wanted Done T
    → Any (λ v. PendingsConflict v wanted) (S.files file).waits → HasAlready (S.files file) wanted
done_request S file wanted T (inl (blocked, inl (refused, told))) conflicts = (let h : Done ≡ Deadlock = told.0 in absurd (cc))
done_request S file wanted T (inl (blocked, inr (passed, told))) conflicts = (let h : Done ≡ Waits = told.0 in absurd (cc))
done_request S file wanted T (inr (ready, done)) conflicts = had_it (S.files file) (S.files file) (S.files file).waits wanted ready conflicts

done_conversion : (S between : State) (file : ℕ) (wanted : Pending) (T : State)
    → WaitAtOnceComesTo Queue (HasAlready (S.files file) wanted) between file wanted Done T
    → Any (λ v. PendingsConflict v wanted) (between.files file).waits → HasAlready (S.files file) wanted
done_conversion S between file wanted T (inl (blocked, told)) conflicts = (let h : Done ≡ Waits = told.0 in absurd (cc))
done_conversion S between file wanted T (inr (ready, done)) conflicts =
    had_it (between.files file) (S.files file) (between.files file).waits wanted ready conflicts

-- an owner that has what a wait is for is in the way of all that could hold the wait back by a lock
at_least_conflicts : (held other : Option Mode) (wanted : Mode) → IsAtLeast held wanted → HeldConflicts other wanted
    → (m : Mode) × (k : Mode) × (held ≡ Some m) × (other ≡ Some k) × Conflict m k
at_least_conflicts None other wanted enough conflicts = absurd enough
at_least_conflicts (Some m) None wanted enough conflicts = absurd conflicts
at_least_conflicts (Some Read) (Some Read) Read enough conflicts = absurd conflicts
at_least_conflicts (Some Read) (Some Write) Read enough conflicts = (Read, Write, refl, refl, tt)
at_least_conflicts (Some Read) (Some k) Write enough conflicts = absurd enough
at_least_conflicts (Some Write) (Some Read) wanted enough conflicts = (Write, Read, refl, refl, tt)
at_least_conflicts (Some Write) (Some Write) wanted enough conflicts = (Write, Write, refl, refl, tt)

lacks_in : (family : Family) (F : FileState) (wait : Pending) → IsCompatible F → HasIn family F wait → ¬ IsBlockedIn family (locks_on F) (as_wait wait)
lacks_in Bytes F wait apart has conflict = by_bytes conflict.other conflict.blocks.another conflict.blocks.conflicts
  where
    by_bytes : (other : Owner) → other ≢ Description wait.owner → ¬ HeldConflicts (by_owner F.bytes other conflict.byte) wait.mode
    by_bytes (Process number) another conflicts = conflicts
    by_bytes (Description number) another conflicts =
        let both = at_least_conflicts (F.bytes wait.owner conflict.byte) (F.bytes number conflict.byte) wait.mode (has conflict.byte conflict.covered) conflicts in
        apart.bytes conflict.byte wait.owner number both.0 both.1 (λ same. another (ap Description (sym same))) both.2 both.3 both.4
lacks_in Whole F wait apart has conflict =
    let both = at_least_conflicts (F.flocks wait.owner) (F.flocks conflict.description) wait.mode has conflict.conflicts in
    apart.flocks wait.owner conflict.description both.0 both.1 (λ same. conflict.another (ap Description (sym same))) both.2 both.3 both.4

-- so a wait that is blocked is for more than its owner has
blocked_lacks : (policy : Policy) (F : FileState) (earlier : List Pending) (wait : Pending) → IsCompatible F → IsWaitBlocked policy F earlier wait
    → ¬ HasAlready F wait
blocked_lacks Held F earlier wait apart held has = lacks_in wait.family F wait apart has held
blocked_lacks Queue F earlier wait apart (inl held) has = lacks_in wait.family F wait apart has held
blocked_lacks Queue F earlier wait apart (inr behind) has = behind.1 has

waits_lack : (server : LockServer) (file : ℕ) (before : List Pending) (wait : Pending) (after : List Pending)
    → ((state_of server).files file).waits ≡ before ++ wait ∷ after → ¬ HasAlready ((state_of server).files file) wait
unfolding state_of
waits_lack server file before wait after place has = ∥∥₁_elim server.safe ⊥_prop
    (λ safe. let F = (table_state server.table).files file in let policy = server.rules.policy in
    blocked_lacks policy F before wait (safe.compatible file)
    (blocked_at policy F [] before wait after (subst (λ (ws : List Pending). AllBlocked policy F [] ws) place (safe.settled file))) has)

pub queue_kept : QueueIsKept
queue_kept = record {
  requests = done_request;
  conversions = done_conversion;
  waits = λ F wait G grants conflicts. had_it F F grants.before wait grants.is_next.ready conflicts;
  lacks = waits_lack;
}
