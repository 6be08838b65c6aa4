-- What holds of each case of a choice holds of the choice. Which predicates it holds of is the relation R: that at most one value meets them, or that
-- some value does; for `step_has_one_outcome`.
use Rattle.lock_manager.proofs.Common.{◌≡◌, ℕ, ◌||◌, Bool, true, false, Option, Some, None, Result, Ok, Err, MatchBool, MatchOption, MatchResult, resolution, Mode, Read, Write, flock_mode_in, Look, look_at, Wait, Rules, Lock, LkCmd, FlockOp, State, Outcome, is_get, is_bad_argument, wanted_mode, permits, wanted_lock, CommandComesTo, LockComesTo, FlockModeComesTo, FlockOpComesTo, FlockComesTo, wanted_flock}
use Rattle.lock_manager.specs.declared.request.FlockOp.TheVariants.{Sh, Ex, Un}

pub MatchBool-by : {A : Type 0} (R : (A → Type 0) → Type 0) (b : Bool) (P Q : A → Type 0) → R P → R Q → R (λ x. MatchBool b (P x) (Q x))
MatchBool-by R true P Q p q = p
MatchBool-by R false P Q p q = q

pub MatchOption-by : {A X : Type 0} (R : (A → Type 0) → Type 0) (o : Option X) (P : A → Type 0) (Q : X → A → Type 0) → R P
    → ((v : X) → R (Q v)) → R (λ x. MatchOption o (P x) (λ v. Q v x))
MatchOption-by R None P Q p q = p
MatchOption-by R (Some v) P Q p q = q v

pub MatchResult-by : {A X E : Type 0} (R : (A → Type 0) → Type 0) (r : Result X E) (P : X → A → Type 0) (Q : E → A → Type 0)
    → ((v : X) → R (P v)) → ((e : E) → R (Q e)) → R (λ x. MatchResult r (λ v. P v x) (λ e. Q e x))
MatchResult-by R (Ok v) P Q p q = p v
MatchResult-by R (Err e) P Q p q = q e

-- of a lock command it is enough to know what it comes to on a range, with a mode
pub LockComesTo-by : (R : (Outcome → Type 0) → Type 0) → ((given : Outcome) → R (λ outcome. outcome ≡ given)) → (rules : Rules) (S : State)
    (p n fd : ℕ) (cmd : LkCmd) (lock : Lock) → ((wanted : Wait) → R (CommandComesTo rules S cmd wanted)) → R (LockComesTo rules S p n fd cmd lock)
LockComesTo-by R one rules S p n fd cmd lock command =
    MatchOption-by R (look_at S.descriptors p fd) _ _ (one _)
    (λ look.
    MatchBool-by R (is_bad_argument cmd lock) _ _ (one _)
    (MatchResult-by R (resolution lock.whence lock.start lock.len look.offset look.size) _ _
    (λ span.
    MatchOption-by R (wanted_mode lock.kind) _ _ (one _)
    (λ mode. MatchBool-by R (is_get cmd || permits look.access mode) _ _ (command (wanted_lock cmd p n look span mode)) (one _)))
    (λ fault. one _)))

-- and of flock, what it comes to for another mode than the one held
pub FlockComesTo-by : (R : (Outcome → Type 0) → Type 0) → ((given : Outcome) → R (λ outcome. outcome ≡ given)) → (rules : Rules) (S : State)
    (p n fd : ℕ) (op : FlockOp) (nb : Bool) → ((look : Look) (wanted : Wait) (held : Option Mode) → R (FlockModeComesTo rules S look nb wanted held))
    → R (FlockComesTo rules S p n fd op nb)
FlockComesTo-by R one rules S p n fd op nb mode = MatchOption-by R (look_at S.descriptors p fd) _ _ (one _) (λ look. by_op look op)
  where
    by_op : (look : Look) (op : FlockOp) → R (FlockOpComesTo rules S p n look op nb)
    by_op look Un = one _
    by_op look Sh = mode look (wanted_flock p n look Read) (flock_mode_in S.flock_changes look.file look.desc)
    by_op look Ex = mode look (wanted_flock p n look Write) (flock_mode_in S.flock_changes look.file look.desc)
