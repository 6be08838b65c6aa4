-- The locks on all files that happenings leave.
use Rattle.history_judge.proofs.Common.{inl, inr, ℕ, ◌≡◌, ◌≢◌, ◌∙◌, sym, ap, subst, refl, true, false, Bool, Some, None, Err, BTreeMap, UpdatesBy, get, nat_cmp, Request, FileHappening}
use Rattle.std.proofs.Common.{Result, Ok, IfOk, OnErr}
use Rattle.range_core.specs.declared.memory.Memory.{Memory}
use Rattle.history_core.specs.declared.held_locks.HeldLocks.{HeldLocks}
use Rattle.history_core.specs.declared.order.Deed.{Deed}
use Rattle.history_core.specs.declared.order.Deed.TheVariants.{Effect, LetGo}
use Rattle.history_core.specs.declared.request.Action.{Action}
use Rattle.history_core.specs.declared.request.Action.TheVariants.{Set, Wait, Get, Unlock, Flock, FlockWait, FlockUnlock, Close, Gone}
use Rattle.history_core.specs.HeldView.{locks_in}
use Rattle.history_core.specs.Locks.{FileLocks}
use Rattle.history_core.specs.Locks as one_file_locks
use Rattle.history_core.specs.Orders.{MayDo}
use Rattle.history_core.specs.Permitted.{Did, FlockWaitMay, GetMay, MayHave, NotYet, RemovalMay, Saw, WaitMay, WasBlocked, locks_behind}
use Rattle.history_core.specs.Permitted as permitted
use Rattle.history_judge.specs.declared.held_files.HeldFiles.{HeldFiles}
use Rattle.history_judge.specs.Entries.{Rewrites}
use Rattle.history_judge.specs.HeldView.{Happens, held_on, locks_on}
use Rattle.history_judge.specs.HistoryOrders.{MayHappen}
use Rattle.history_judge.proofs.FilesLemmas.{is_at-other}
use Rattle.history_judge.proofs.NameLemmas.{decide}

-- ---- what happens leaves one thing

-- a removal is done
removes : (one : permitted.Effect) → RemovalMay one → one ≡ Did
removes Did may = refl
removes NotYet may = absurd may
removes WasBlocked may = absurd may
removes (Saw seen) may = absurd may

-- the effects that a request may have under the same locks leave the same
same_effect : (locks : FileLocks) (owner : ℕ) (action : Action) (one other : permitted.Effect) → MayHave locks owner action one → MayHave locks owner action other
    → locks_behind locks owner action one ≡ locks_behind locks owner action other
same_effect locks owner (Set mode span) Did Did may again = refl
same_effect locks owner (Set mode span) Did WasBlocked may again = absurd (may again)
same_effect locks owner (Set mode span) Did NotYet may again = absurd again
same_effect locks owner (Set mode span) Did (Saw seen) may again = absurd again
same_effect locks owner (Set mode span) WasBlocked Did may again = absurd (again may)
same_effect locks owner (Set mode span) WasBlocked WasBlocked may again = refl
same_effect locks owner (Set mode span) WasBlocked NotYet may again = absurd again
same_effect locks owner (Set mode span) WasBlocked (Saw seen) may again = absurd again
same_effect locks owner (Set mode span) NotYet other may again = absurd may
same_effect locks owner (Set mode span) (Saw seen) other may again = absurd may
same_effect locks owner (Flock mode) Did Did may again = refl
same_effect locks owner (Flock mode) Did WasBlocked may again = absurd (may again.0)
same_effect locks owner (Flock mode) Did NotYet may again = absurd again
same_effect locks owner (Flock mode) Did (Saw seen) may again = absurd again
same_effect locks owner (Flock mode) WasBlocked Did may again = absurd (again may.0)
same_effect locks owner (Flock mode) WasBlocked WasBlocked may again = refl
same_effect locks owner (Flock mode) WasBlocked NotYet may again = absurd again
same_effect locks owner (Flock mode) WasBlocked (Saw seen) may again = absurd again
same_effect locks owner (Flock mode) NotYet other may again = absurd may
same_effect locks owner (Flock mode) (Saw seen) other may again = absurd may
same_effect locks owner (Wait mode span) one other may again =
    ap (locks_behind locks owner (Wait mode span)) (waits one may ∙ sym (waits other again))
  where
    waits : (one : permitted.Effect) → WaitMay locks owner mode span one → one ≡ Did
    waits Did may = refl
    waits NotYet may = absurd may
    waits WasBlocked may = absurd may
    waits (Saw seen) may = absurd may
same_effect locks owner (FlockWait mode) one other may again =
    ap (locks_behind locks owner (FlockWait mode)) (waits one may ∙ sym (waits other again))
  where
    waits : (one : permitted.Effect) → FlockWaitMay locks owner mode one → one ≡ Did
    waits Did may = refl
    waits NotYet may = absurd may
    waits WasBlocked may = absurd may
    waits (Saw seen) may = absurd may
same_effect locks owner (Get mode span) one other may again = sees one may ∙ sym (sees other again)
  where
    sees : (one : permitted.Effect) → GetMay locks owner one → locks_behind locks owner (Get mode span) one ≡ locks
    sees (Saw seen) may = refl
    sees Did may = absurd may
    sees NotYet may = absurd may
    sees WasBlocked may = absurd may
same_effect locks owner (Unlock span) one other may again = ap (locks_behind locks owner (Unlock span)) (removes one may ∙ sym (removes other again))
same_effect locks owner FlockUnlock one other may again = ap (locks_behind locks owner FlockUnlock) (removes one may ∙ sym (removes other again))
same_effect locks owner Close one other may again = ap (locks_behind locks owner Close) (removes one may ∙ sym (removes other again))
same_effect locks owner Gone one other may again = ap (locks_behind locks owner Gone) (removes one may ∙ sym (removes other again))

same_done : (deed : Deed) (locks : FileLocks) (request : Request) (one other : FileLocks) → MayDo deed locks request one → MayDo deed locks request other
    → one ≡ other
same_done Effect locks request one other may again =
    may.2 ∙ same_effect locks request.owner request.action may.0 again.0 may.1 again.1 ∙ sym again.2
same_done LetGo locks request one other may again = may.1 ∙ sym again.1

-- what may happen leaves the same locks on each file
pub same_left : (locks : ℕ → FileLocks) (happening : FileHappening) (one other : ℕ → FileLocks) → MayHappen locks happening one → MayHappen locks happening other
    → one ≡ other
same_left locks happening one other may again = λ i. λ file. each file i
  where
    each : (file : ℕ) → one file ≡ other file
    each file = elim (decide file happening.file) [
      | inl here ↦ subst (λ f. one f ≡ other f) (sym here)
          (same_done happening.deed (locks happening.file) happening.request (one happening.file) (other happening.file) may.may_do again.may_do)
      | inr off ↦ may.others file off ∙ sym (again.others file off)
    ]

-- ---- what is held

-- a fresh entry has no locks
pub entered : (old new : BTreeMap ℕ HeldLocks) (file : ℕ) (held : HeldLocks) → get nat_cmp old file ≡ None → UpdatesBy nat_cmp (nat_cmp file) old new (Some held)
    → locks_in held ≡ one_file_locks.no_locks → (other : ℕ) → held_on (get nat_cmp new other) ≡ held_on (get nat_cmp old other)
entered old new file held none updates is other = elim (decide other file) [
  | inl here ↦ subst (λ f. held_on (get nat_cmp new f) ≡ held_on (get nat_cmp old f)) (sym here) (ap held_on updates.1 ∙ is ∙ sym (ap held_on none))
  | inr off ↦ ap held_on (updates.2 other (is_at-other file other off))
]

-- what happens on a file
module _ (old entered new : HeldFiles) (happening : FileHappening) (same : (other : ℕ) → locks_on entered other ≡ locks_on old other) where
  before_is : (result : Result Bool Memory) (r : Rewrites entered.files new.files happening.file (λ a b. Happens (locks_in a) happening result (locks_in b)))
      → locks_in r.before ≡ locks_on old happening.file
  before_is result r = sym (ap held_on r.was) ∙ same happening.file

  pub left_by : (result : Result Bool Memory) → Rewrites entered.files new.files happening.file (λ a b. Happens (locks_in a) happening result (locks_in b))
      → IfOk result (λ may. may ≡ true → MayHappen (locks_on old) happening (locks_on new))
  left_by (Ok may) r = λ yes. record {
    may_do = subst (λ l. MayDo happening.deed l happening.request (locks_on new happening.file)) (before_is (Ok may) r)
        (subst (λ o. MayDo happening.deed (locks_in r.before) happening.request (held_on o)) (sym r.here) (r.step.leaves yes));
    others = λ other off. ap held_on (r.others other off) ∙ same other;
  }
  left_by (Err error) r = tt

  pub left_not : (result : Result Bool Memory) → Rewrites entered.files new.files happening.file (λ a b. Happens (locks_in a) happening result (locks_in b))
      → IfOk result (λ may. may ≡ false → (after : ℕ → FileLocks) → ¬ MayHappen (locks_on old) happening after)
  left_not (Ok may) r = λ refused after happens. r.step.may_not refused (after happening.file)
      (subst (λ l. MayDo happening.deed l happening.request (after happening.file)) (sym (before_is (Ok may) r)) happens.may_do)
  left_not (Err error) r = tt

  still_on : (r_before r_after : HeldLocks) → get nat_cmp entered.files happening.file ≡ Some r_before → get nat_cmp new.files happening.file ≡ Some r_after
      → ((other : ℕ) → other ≢ happening.file → get nat_cmp new.files other ≡ get nat_cmp entered.files other) → locks_in r_after ≡ locks_in r_before
      → (file : ℕ) → locks_on new file ≡ locks_on old file
  still_on r_before r_after was here others is file = elim (decide file happening.file) [
    | inl at ↦ subst (λ f. locks_on new f ≡ locks_on old f) (sym at) (ap held_on here ∙ is ∙ sym (ap held_on was) ∙ same happening.file)
    | inr off ↦ ap held_on (others file off) ∙ same file
  ]

  pub left_still : (result : Result Bool Memory) → Rewrites entered.files new.files happening.file (λ a b. Happens (locks_in a) happening result (locks_in b))
      → IfOk result (λ may. may ≡ false → (file : ℕ) → locks_on new file ≡ locks_on old file)
  left_still (Ok may) r = λ refused. still_on r.before r.after r.was r.here r.others (r.step.stays refused)
  left_still (Err error) r = tt

  pub left_err : (result : Result Bool Memory) → Rewrites entered.files new.files happening.file (λ a b. Happens (locks_in a) happening result (locks_in b))
      → OnErr result ((file : ℕ) → locks_on new file ≡ locks_on old file)
  left_err (Ok may) r = tt
  left_err (Err error) r = still_on r.before r.after r.was r.here r.others r.step.err
