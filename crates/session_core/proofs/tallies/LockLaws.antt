-- What the lock commands of fcntl come to.
use Rattle.session_core.proofs.Common.{ℕ, ◌≡◌, refl, Bool, true, false, [], ⊎_elim, None, Mode, Look, look_at, Wait, Rules, Lock, LkCmd, GetLk, SetLk, SetLkW, OGetLk, OSetLk, OSetLkW, State, Outcome, refused, LockComesTo, CommandComesTo, FlockTestComesTo}
use Rattle.std.specs.Prelude.{◌||◌}
use Rattle.range_core.specs.declared.Kind.{Kind}
use Rattle.range_core.specs.declared.Span.{Span}
use Rattle.range_core.specs.Resolving.{resolution}
use Rattle.lock_manager.specs.declared.request.Reply.TheVariants as replies
use Rattle.lock_manager.specs.State.{with_byte_mode}
use Rattle.lock_manager.specs.LockWords.{is_get, is_bad_argument, wanted_mode, permits, held_reply, lock_owner, wanted_lock}
use Rattle.lock_manager.specs.Outcomes.{range_error}
use Rattle.lock_manager.specs.LockCommands.{DescribedComesTo, RangeComesTo, ModeComesTo, GetComesTo}
use Rattle.session_core.proofs.tallies.OutcomeLaws.{IsAtHand, IsTold, told_answer, told_here, cases_fact, cases_bool, cases_option, cases_result}
use Rattle.session_core.proofs.tallies.FlockLaws.{no_grants, told_waits, told_locked, told_test}

module _ (rules : Rules) (processes : ℕ) (S : State) (taken counts : ℕ → ℕ) (wanted : Wait) (outcome : Outcome)
    (h : IsAtHand processes S taken counts wanted.p wanted.n) where
  -- a get command tells the first lock that blocks, or that there is none
  told_get : GetComesTo S wanted outcome → IsTold processes S taken counts wanted.p outcome
  told_get is =
      ⊎_elim (λ held. told_here processes S taken counts wanted.p wanted.n outcome h (held_reply held.0) held.2)
      (λ free. told_here processes S taken counts wanted.p wanted.n outcome h replies.Free free) (cases_fact is)

  -- a set command is tested as a flock request is, behind no grants
  told_set : (nb : Bool) → FlockTestComesTo rules S nb wanted [] outcome → IsTold processes S taken counts wanted.p outcome
  told_set nb is = told_test rules processes S taken counts wanted outcome h nb S [] (no_grants processes S wanted.p h.live) is

  -- a command on a range, with a mode
  told_command : (cmd : LkCmd) → CommandComesTo rules S cmd wanted outcome → IsTold processes S taken counts wanted.p outcome
  told_command GetLk is = told_get is
  told_command OGetLk is = told_get is
  told_command SetLk is = told_set true is
  told_command OSetLk is = told_set true is
  told_command OSetLkW is = told_set false is
  told_command SetLkW is =
      let none = no_grants processes S wanted.p h.live in
      ⊎_elim
      (λ blocked.
      ⊎_elim (λ no. told_here processes S taken counts wanted.p wanted.n outcome h _ no)
      (λ waits. told_waits rules processes S taken counts wanted outcome h S [] none waits) (cases_fact blocked))
      (λ yes. told_locked rules processes S taken counts wanted outcome h S [] none yes) (cases_fact is)

module _ (rules : Rules) (processes : ℕ) (S : State) (taken counts : ℕ → ℕ) (p n : ℕ) (outcome : Outcome) (h : IsAtHand processes S taken counts p n) where
  told_mode : (cmd : LkCmd) (look : Look) (span : Span) (mode : Mode) → ModeComesTo rules S p n cmd look span mode outcome
      → IsTold processes S taken counts p outcome
  told_mode cmd look span mode is =
      ⊎_elim (λ yes. told_command rules processes S taken counts (wanted_lock cmd p n look span mode) outcome h cmd yes)
      (λ no. told_here processes S taken counts p n outcome h _ no) (cases_bool (is_get cmd || permits look.access mode) is)

  told_range : (cmd : LkCmd) (kind : Kind) (look : Look) (span : Span) → RangeComesTo rules S p n cmd kind look span outcome
      → IsTold processes S taken counts p outcome
  told_range cmd kind look span is =
      ⊎_elim
      (λ unlocked.
      told_answer processes S taken counts p n outcome h (with_byte_mode S look.file (lock_owner cmd p look) span None) replies.Ok
      (record { states = refl; waits = refl; alive = λ q. refl }) unlocked)
      (λ moded. told_mode cmd look span moded.0 moded.1)
      (cases_option (λ mode. ModeComesTo rules S p n cmd look span mode outcome) (wanted_mode kind) is)

  told_described : (cmd : LkCmd) (lock : Lock) (look : Look) → DescribedComesTo rules S p n cmd lock look outcome
      → IsTold processes S taken counts p outcome
  told_described cmd lock look is =
      ⊎_elim (λ no. told_here processes S taken counts p n outcome h _ no)
      (λ good.
      ⊎_elim (λ ranged. told_range cmd lock.kind look ranged.0 ranged.1)
      (λ no. told_here processes S taken counts p n outcome h (replies.Err (range_error no.0)) no.1)
      (cases_result (λ span. RangeComesTo rules S p n cmd lock.kind look span outcome) (λ fault. outcome ≡ refused S p n (range_error fault))
      (resolution lock.whence lock.start lock.len look.offset look.size) good))
      (cases_bool (is_bad_argument cmd lock) is)

  pub told_lock : (fd : ℕ) (cmd : LkCmd) (lock : Lock) → LockComesTo rules S p n fd cmd lock outcome → IsTold processes S taken counts p outcome
  told_lock fd cmd lock is =
      ⊎_elim (λ no. told_here processes S taken counts p n outcome h _ no) (λ opened. told_described cmd lock opened.0 opened.1)
      (cases_option (λ look. DescribedComesTo rules S p n cmd lock look outcome) (look_at S.descriptors p fd) is)
