-- The byte locks of an owner on a file: set, and then crossed.
use Rattle.lock_server.proofs.Common.{ℕ, ◌∙◌, ◌⊎◌, ◌↔◌, sym, subst, Bool, Option, IsTrue, Contains, Mode, Span, Bytes, FileState, SetsBytes, SetsOn, State, given_by}
use Rattle.lock_server.specs.Calls.{CrossesOwners, SetsUncrossed}
use Rattle.lock_server.specs.States.{HasDetected}
use Rattle.lock_server.proofs.StateLemmas.{SameFile-then, file_from_same}

-- what is set and then crossed is set
pub set_and_crossed : (S M T : State) (file owner : ℕ) (span : Span) (mode : Option Mode) → SetsUncrossed S file owner span mode M → CrossesOwners M (given_by owner mode) T
    → SetsOn S file Bytes owner span mode T
set_and_crossed S M T file owner span mode sets crosses = record {
  sets = subst (λ (F : FileState). SetsBytes (S.files file) owner span mode F) (sym (file_from_same (M.files file) (T.files file) (crosses.files file))) sets.sets;
  waits = (crosses.files file).waits ∙ sets.waits;
  changes = record {
    others = λ other differs. SameFile-then (S.files other) (M.files other) (T.files other) (sets.others other differs) (crosses.files other);
    grants = crosses.grants ∙ sets.grants;
    crossed = λ any. subst (λ (b : Bool). IsTrue (T.crossed any) ↔ (HasDetected T any × (IsTrue b ⊎ Contains (given_by owner mode) any))) (sets.crossed any) (crosses.crossed any);
  };
}
