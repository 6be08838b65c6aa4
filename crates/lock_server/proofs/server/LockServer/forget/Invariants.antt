use Rattle.lock_server.proofs.Common.{ℕ, ◌≡◌, ◌≢◌, ◌-◌, ◌<◌, ◌^◌, None, rules_of, state_of, through_of}
use Rattle.lock_server.proofs.ForgetLemmas.{IsForgetting, next_of}
use Rattle.lock_server.proofs.server.LockServer.forget.Given as goal

-- the owner is forgotten on the files up to the last one
abbrev pub invariant-loop-file : goal.invariant-loop-file
invariant-loop-file l = record {
  forgetting : IsForgetting (rules_of l.initial.self).policy (state_of l.initial.self) l.owner (next_of l.above) (state_of l.self);
  rules : rules_of l.self ≡ rules_of l.initial.self;
  none : (file : ℕ) → file < next_of l.above → through_of l.self file l.owner ≡ None;
  others : (file other : ℕ) → other ≢ l.owner → through_of l.self file other ≡ through_of l.initial.self file other;
}

-- each file is above the one before
abbrev pub decreases-loop-file : goal.decreases-loop-file
decreases-loop-file l = 2 ^ 64 - next_of l.above
