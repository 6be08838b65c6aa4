use Rattle.script_core.proofs.Common.{◌≡◌, ℕ, ◌≤◌, ◌++◌, ◌∷◌, [], List, length, Request, HasRead}
use Rattle.script_core.specs.ScriptView.{unread_in, rules_in}
use Rattle.script_core.proofs.reader.ScriptReader.next_arrival.Given as goal

-- no arrival came
abbrev pub invariant-loop-self : goal.invariant-loop-self
invariant-loop-self l = record {
  read : (bytes : List ℕ) (arrivals : List (ℕ × Request)) → HasRead bytes l.initial.self arrivals → HasRead bytes l.self arrivals;
  rules : (bytes : List ℕ) (arrivals : List (ℕ × Request)) (arrival : ℕ × Request) → HasRead bytes l.initial.self (arrivals ++ arrival ∷ [])
      → rules_in l.self ≡ rules_in l.initial.self;
  within : unread_in l.self ≤ unread_in l.initial.self;
}

abbrev pub decreases-loop-self : goal.decreases-loop-self
decreases-loop-self l = length l.self.rest.now
