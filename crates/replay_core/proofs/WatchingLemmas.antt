-- What a watch was told of the callers, one after another and all together: for `Caller::converse`, `gather_all` and `replay_threads`.
use Rattle.replay_core.proofs.Common.{◌≡◌, ◌∙◌, inl, inr, sym, subst, ℕ, ◌-◌, List, [], ◌∷◌, ◌++◌, length, arith, Event, IsPrefixOf, requests_taken, Request, client_view, Meaning, processes_in, Caller, SameCaller, AreOf, AreToldOf}
use Rattle.replay_core.specs.Callers.{WasTold}
use Rattle.replay_core.specs.Gathering.{HasLeft}
use Rattle.replay_core.specs.Watching.{IsToldOf, IsWatched, AreWatched}
use Rattle.replay_core.proofs.ListLemmas.{item_of_grown}
use Rattle.replay_core.proofs.GatheringLemmas.{some_at}

-- the client of a caller at its end was watched, and so it is of the caller before
pub watched_before : (told : ℕ → ℕ → Type 0) (journal : List Event) (old new : Caller) → SameCaller old new → WasTold told new
    → HasLeft journal new → IsWatched told old.process journal
watched_before told journal old new same all left = record {
  client = left.client;
  process = left.process ∙ same.process;
  seen = left.seen;
  drained = left.drained;
  taken = subst (λ (p : ℕ). IsPrefixOf (requests_taken p journal) (client_view left.client).posted) same.process left.taken;
  all_told = subst (λ (p : ℕ). IsToldOf told p (length (client_view left.client).posted)) same.process
      (subst (λ (posted : List Request). IsToldOf told new.process (length posted)) (sym left.posted) all);
}

-- one more caller, whose process' client was watched
pub told_more : (told : ℕ → ℕ → Type 0) (journal : List Event) (done : List Caller) (caller : Caller) → AreToldOf told journal done
    → IsWatched told caller.process journal → AreToldOf told journal (done ++ caller ∷ [])
told_more told journal done caller before one = λ i c here. elim (item_of_grown done caller c i here) [
  | inl old ↦ before i c old
  | inr new ↦ subst (λ (x : Caller). IsWatched told x.process journal) (sym new.1) one
]

-- the callers are those of all processes of the script
pub all_watched : (told : ℕ → ℕ → Type 0) (script : Meaning) (callers : List Caller) (journal : List Event)
    → length callers ≡ processes_in script → AreOf script.arrivals callers → AreToldOf told journal callers → AreWatched told script journal
all_watched told script callers journal all each watched p range =
    let here = some_at callers (p - 1) (omega (arith, range.0, range.1, all)) in
    let process : here.0.process ≡ p = (each (p - 1) here.0 here.1).process ∙ omega (arith, range.0) in
    subst (λ (q : ℕ). IsWatched told q journal) process (watched (p - 1) here.0 here.1)
