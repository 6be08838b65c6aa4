-- Numbers that are written one after the other, for `write_parts` and `cluster_view_presences`.
use Rattle.std.proofs.Common.{◌≢◌, ℕ, ◌+◌, ◌<◌, List, length, get_or, set, false, arith, subst, get_or-set_other, get_or-set_same, below_more}
use Rattle.std.proofs.lemmas.List.{get_or_default}
use Rattle.cluster_view.specs.declared.absence.Seat.{Seat}
use Rattle.cluster_view.specs.declared.hello.Hello.{Hello}

-- what a slice of HELLOs, or of seats, is read with past its end

abbrev pub blank_hello : Hello
blank_hello = record {
  state = record {
    view = record { ring = 0; count = 0 };
    log = record { length = 0; digest = 0 };
    applied = record { length = 0; digest = 0 };
    electorate = record { digest = 0; expected = 0 };
  };
  known = record { ring = 0; count = 0 };
  electorate = record { digest = 0; expected = 0 };
  versions = record { table = 0; protocol = 0 };
  votes = 0;
  node = 0;
  has_state = false;
}

abbrev pub blank_seat : Seat
blank_seat = record { node = 0; in_ring = false }

-- what holds of each element and the number in its place holds with one number more
pub written_more : {X : Type 0} (W : X → ℕ → Type 0) (xs : List X) (numbers : List ℕ) (i n : ℕ) (e : X) → i < length numbers → i < length xs
    → ((k : ℕ) (d : X) → k < i → W (get_or xs k d) (get_or numbers k 0)) → W (get_or xs i e) n
    → (k : ℕ) (d : X) → k < i + 1 → W (get_or xs k d) (get_or (set numbers i n) k 0)
written_more {X} W xs numbers i n e room lt old here =
    let all : (k : ℕ) → k < i + 1 → (d : X) → W (get_or xs k d) (get_or (set numbers i n) k 0) =
    below_more (λ (k : ℕ). (d : X) → W (get_or xs k d) (get_or (set numbers i n) k 0)) i
    (λ k below d. let other : k ≢ i = omega arith in rw get_or-set_other (old k d below))
    (λ d. rw get_or-set_same (subst (λ (x : X). W x n) (get_or_default xs i e d lt) here)) in
    λ k d below. all k below d
