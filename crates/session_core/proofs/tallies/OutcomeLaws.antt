-- What the outcomes of requests tell, whatever the request.
use Rattle.session_core.proofs.Common.{ℕ, ◌≡◌, ◌+◌, ◌⊎◌, inl, inr, sym, subst, Bool, true, false, [], ◌∷◌, ⊎_elim, Option, Some, None, Result, Ok, Err, MatchBool, MatchOption, MatchResult, FdFault, Answer, Reply, Live, State, Outcome, answered, IsRefusal}
use Rattle.range_core.specs.Facts.{MatchFact}
use Rattle.fd_table.specs.declared.FdFault.TheVariants as faults
use Rattle.session_core.proofs.tallies.Tally.{Tallies, Tells, MovesOne-tells, one_more}
use Rattle.session_core.proofs.tallies.Moves.{SameProcesses, SameProcesses-refl, answer_moves}

-- a live process, the number of its next request, and the tallies before it
pub record IsAtHand (processes : ℕ) (S : State) (taken counts : ℕ → ℕ) (p n : ℕ) : Type 0 where
  pub tallies : Tallies processes S taken counts
  pub live : S.states p ≡ Live
  pub number : n ≡ taken p + 1

-- the outcome tells what it should, with one more request taken of the process
abbrev pub IsTold : ℕ → State → (ℕ → ℕ) → (ℕ → ℕ) → ℕ → Outcome → Type 0
IsTold processes S taken counts p outcome = Tells processes S.states counts outcome.told outcome.after (one_more p taken)

module _ (processes : ℕ) (S : State) (taken counts : ℕ → ℕ) (p n : ℕ) (outcome : Outcome) (h : IsAtHand processes S taken counts p n) where
  -- the caller is answered, and no process moves
  pub told_answer : (T : State) (reply : Reply) → SameProcesses S T → outcome ≡ answered T p n reply → IsTold processes S taken counts p outcome
  told_answer T reply same is =
      subst (IsTold processes S taken counts p) (sym is)
      (MovesOne-tells processes S taken counts p (Answer p n reply ∷ []) T (one_more p taken) h.tallies
      (answer_moves processes S T taken counts p n reply h.tallies h.live h.number same))

  -- the caller is answered or refused, and the state stays
  pub told_here : (reply : Reply) → outcome ≡ answered S p n reply → IsTold processes S taken counts p outcome
  told_here reply is = told_answer S reply (SameProcesses-refl S) is

  -- the caller is refused as a call on descriptors was
  pub told_refusal : (fault : FdFault) → IsRefusal S p n fault outcome → IsTold processes S taken counts p outcome
  told_refusal faults.BadFd is = told_here _ is
  told_refusal faults.TooMany is = told_here _ is
  told_refusal faults.Invalid is = told_here _ is
  told_refusal faults.Taken is = told_here _ is
  told_refusal (faults.Memory memory) is = absurd is

-- one of the two facts that are chosen between holds
pub cases_fact : {Fact Yes No : Type 0} → MatchFact Fact Yes No → Yes ⊎ No
cases_fact h = ⊎_elim (λ yes. inl yes.1) (λ no. inr no.1) h

pub cases_bool : {Yes No : Type 0} (b : Bool) → MatchBool b Yes No → Yes ⊎ No
cases_bool true h = inl h
cases_bool false h = inr h

pub cases_option : {X : Type 0} {None' : Type 0} (Some' : X → Type 0) (o : Option X) → MatchOption o None' Some' → None' ⊎ ((x : X) × Some' x)
cases_option Some' None h = inl h
cases_option Some' (Some x) h = inr (x, h)

pub cases_result : {X E : Type 0} (Ok' : X → Type 0) (Err' : E → Type 0) (r : Result X E) → MatchResult r Ok' Err'
    → ((x : X) × Ok' x) ⊎ ((e : E) × Err' e)
cases_result Ok' Err' (Ok x) h = inl (x, h)
cases_result Ok' Err' (Err e) h = inr (e, h)
