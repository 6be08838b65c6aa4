-- What the calls on descriptors come to.
use Rattle.session_core.proofs.Common.{arith, ℕ, ◌≡◌, refl, Result, Ok, Err, MatchResult, common_steps, FdFault, Rules, Reply, State, Outcome, IsRefusal, answered, with_released}
use Rattle.std.proofs.Common.{ℤ, OnOk}
use Rattle.fd_table.specs.declared.Limits.{Limits}
use Rattle.fd_table.specs.declared.Access.{Access}
use Rattle.fd_table.specs.Releases.{Released}
use Rattle.fd_table.specs.Descriptors.{Descriptors}
use Rattle.fd_table.specs.Calls.{OpenGives, DupGives, DupToGives, CloseGives, SeekGives, ResizeGives}
use Rattle.lock_manager.specs.declared.request.Reply.TheVariants as replies
use Rattle.lock_manager.specs.DescriptorCalls.{OpenComesTo, DupComesTo, DupToComesTo, CloseComesTo, SeekComesTo, ResizeComesTo}
use Rattle.session_core.proofs.tallies.OutcomeLaws.{IsAtHand, IsTold, told_answer, told_refusal, cases_bool}

-- the same processes are alive
abbrev pub SameAlive : Descriptors → Descriptors → Type 0
SameAlive new old = (q : ℕ) → new.ever_alive q ≡ old.ever_alive q

-- no call on descriptors that succeeds begins or ends a process
OpenGives-alive : (limits : Limits) (old : Descriptors) (p file : ℕ) (access : Access) (result : Result ℕ FdFault) (new : Descriptors)
    → OpenGives limits old p file access result new → OnOk result (SameAlive new old)
OpenGives-alive limits old p file access (Ok fd) new h = h.3.ever_alive
OpenGives-alive limits old p file access (Err fault) new h = tt

DupGives-alive : (limits : Limits) (old : Descriptors) (p fd : ℕ) (result : Result ℕ FdFault) (new : Descriptors)
    → DupGives limits old p fd result new → OnOk result (SameAlive new old)
DupGives-alive limits old p fd (Ok free) new h = h.3.ever_alive
DupGives-alive limits old p fd (Err fault) new h = tt

DupToGives-alive : (limits : Limits) (old : Descriptors) (p fd to : ℕ) (result : Result (ℕ × Released) FdFault) (new : Descriptors)
    → DupToGives limits old p fd to result new → OnOk result (SameAlive new old)
DupToGives-alive limits old p fd to result new h = grind (arith, common_steps, cases_bool)

CloseGives-alive : (old : Descriptors) (p fd : ℕ) (result : Result Released FdFault) (new : Descriptors)
    → CloseGives old p fd result new → OnOk result (SameAlive new old)
CloseGives-alive old p fd (Ok released) new h = h.1.ever_alive
CloseGives-alive old p fd (Err fault) new h = tt

SeekGives-alive : (old : Descriptors) (p fd : ℕ) (offset : ℤ) (result : Result (Unit {0}) FdFault) (new : Descriptors)
    → SeekGives old p fd offset result new → OnOk result (SameAlive new old)
SeekGives-alive old p fd offset (Ok done) new h = h.4.ever_alive
SeekGives-alive old p fd offset (Err fault) new h = tt

ResizeGives-alive : (old : Descriptors) (p fd : ℕ) (size : ℤ) (result : Result (Unit {0}) FdFault) (new : Descriptors)
    → ResizeGives old p fd size result new → OnOk result (SameAlive new old)
ResizeGives-alive old p fd size (Ok done) new h = h.4.ever_alive
ResizeGives-alive old p fd size (Err fault) new h = tt

module _ (processes : ℕ) (S : State) (taken counts : ℕ → ℕ) (p n : ℕ) (outcome : Outcome) (h : IsAtHand processes S taken counts p n) where
  -- a call that leaves other descriptors
  told_call : {X : Type 0} (reply : X → Reply) (result : Result X FdFault) (descriptors : Descriptors)
      → OnOk result (SameAlive descriptors S.descriptors)
      → MatchResult result (λ x. outcome ≡ answered (record S { descriptors = descriptors }) p n (reply x)) (λ fault. IsRefusal S p n fault outcome)
      → IsTold processes S taken counts p outcome
  told_call reply (Ok x) descriptors alive is =
      told_answer processes S taken counts p n outcome h (record S { descriptors = descriptors }) (reply x)
      (record { states = refl; waits = refl; alive = alive }) is
  told_call reply (Err fault) descriptors alive is = told_refusal processes S taken counts p n outcome h fault is

  -- a call that leaves other descriptors, and releases locks
  told_release : {X : Type 0} (reply : X → Reply) (released : X → Released) (result : Result X FdFault) (descriptors : Descriptors)
      → OnOk result (SameAlive descriptors S.descriptors)
      → MatchResult result (λ x. outcome ≡ answered (with_released S descriptors p (released x)) p n (reply x)) (λ fault. IsRefusal S p n fault outcome)
      → IsTold processes S taken counts p outcome
  told_release reply released (Ok x) descriptors alive is =
      told_answer processes S taken counts p n outcome h (with_released S descriptors p (released x)) (reply x)
      (record { states = refl; waits = refl; alive = alive }) is
  told_release reply released (Err fault) descriptors alive is = told_refusal processes S taken counts p n outcome h fault is

  pub told_open : (rules : Rules) (file : ℕ) (access : Access) → OpenComesTo rules S p n file access outcome → IsTold processes S taken counts p outcome
  told_open rules file access is =
      told_call (λ fd. replies.Fd fd) is.0 is.1 (OpenGives-alive rules.limits S.descriptors p file access is.0 is.1 is.2) is.3

  pub told_dup : (rules : Rules) (fd : ℕ) → DupComesTo rules S p n fd outcome → IsTold processes S taken counts p outcome
  told_dup rules fd is = told_call (λ free. replies.Fd free) is.0 is.1 (DupGives-alive rules.limits S.descriptors p fd is.0 is.1 is.2) is.3

  pub told_dup_to : (rules : Rules) (fd to : ℕ) → DupToComesTo rules S p n fd to outcome → IsTold processes S taken counts p outcome
  told_dup_to rules fd to is =
      told_release (λ answer. replies.Fd answer.0) (λ answer. answer.1) is.0 is.1
      (DupToGives-alive rules.limits S.descriptors p fd to is.0 is.1 is.2) is.3

  pub told_close : (fd : ℕ) → CloseComesTo S p n fd outcome → IsTold processes S taken counts p outcome
  told_close fd is =
      told_release (λ released. replies.Ok) (λ released. released) is.0 is.1 (CloseGives-alive S.descriptors p fd is.0 is.1 is.2) is.3

  pub told_seek : (fd : ℕ) (offset : ℤ) → SeekComesTo S p n fd offset outcome → IsTold processes S taken counts p outcome
  told_seek fd offset is = told_call (λ done. replies.Ok) is.0 is.1 (SeekGives-alive S.descriptors p fd offset is.0 is.1 is.2) is.3

  pub told_resize : (fd : ℕ) (size : ℤ) → ResizeComesTo S p n fd size outcome → IsTold processes S taken counts p outcome
  told_resize fd size is = told_call (λ done. replies.Ok) is.0 is.1 (ResizeGives-alive S.descriptors p fd size is.0 is.1 is.2) is.3
