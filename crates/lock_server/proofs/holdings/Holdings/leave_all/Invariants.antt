use Rattle.lock_server.proofs.Common.{◌≡◌, ℕ, None, false, is_within, keeps, through_at}
use Rattle.lock_server.specs.HoldingsView.{size}
use Rattle.lock_server.proofs.holdings.Holdings.leave_all.Given as goal

-- no other owner has left, and whoever isn't kept with a file isn't noted there
abbrev pub invariant-loop-owner : goal.invariant-loop-owner
invariant-loop-owner l = record {
  others : (owner file : ℕ) → is_within l.owners.first l.owners.last owner ≡ false → keeps l.self owner file ≡ keeps l.initial.self owner file;
  noted : (owner file : ℕ) → keeps l.self owner file ≡ false → through_at l.openings file owner ≡ None;
  seen : (owner file : ℕ) → is_within l.owners.first l.owners.last owner ≡ false → through_at l.openings file owner ≡ through_at l.initial.openings file owner;
}

-- one pair less
abbrev pub decreases-loop-owner : goal.decreases-loop-owner
decreases-loop-owner l = size l.self
