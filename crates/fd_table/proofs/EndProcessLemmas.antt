-- The closing of the descriptors of a process one after the other, and what it releases: for `Tables::end_process`.
use Rattle.fd_table.proofs.Common.{rules, ◌≡◌, ◌≢◌, ◌⊎◌, ℕ, ◌+◌, ◌<◌, ◌≤◌, Bool, true, false, cond, eqb, List, [], ◌∷◌, ◌++◌, length, set, Some, None, refl, sym, ap, subst, ◌∙◌, inl, inr, arith, Contains, common_steps, option_map, IsStrictlyIncreasing, cases_eq, cases_lt, eq-eqb, ne_eqb, lt-ltb, get_or-set_same, get_or-set_other, get_or_past, same_Some, none-some, Released, AreExactly, without_one, ClosesOne, IsMarked, Descriptors, SameDescriptors, description_numbered, without_descriptors}
use Rattle.std.proofs.Common.{◌↔◌, ◌&&◌, ltb, replicate}
use Rattle.std.specs.List.{IsDistinct}
use Rattle.std.proofs.lemmas.Bool.{le-ltb, ltb-true, and_left, false≢true}
use Rattle.std.proofs.lemmas.List.{get_or-replicate, length-replicate}
use Rattle.std.proofs.lemmas.List.Elements.{Contains-append_left, Contains-push, Contains-push_cases}
use Rattle.std.proofs.lemmas.Map.Keys.{IsDistinct-from_apart}
use Rattle.fd_table.specs.declared.releases.Closed.{Closed}
use Rattle.fd_table.specs.Releases.{ClosesFile, ClosesDescription, TellsLastClose, IsClosing}
use Rattle.fd_table.specs.Descriptors.{IsOpen}
use Rattle.fd_table.specs.Calls.{EndGives}
use Rattle.fd_table.proofs.CallLemmas.{same as same_descriptors}
use Rattle.fd_table.proofs.ListLemmas.{distinct_push}
use Rattle.fd_table.proofs.ReleasedLemmas.{open_before, open_after, contains_none}

-- the numbers below this one
abbrev pub below : ℕ → ℕ → Bool
below n k = ltb k n

-- the descriptors below this number are closed
abbrev pub closed_below : Descriptors → ℕ → ℕ → Descriptors
closed_below D p n = without_descriptors D p (below n)

-- what the closing of the descriptors below this number releases is marked, and listed
pub record IsGathered (D : Descriptors) (p n : ℕ) (marks : List Bool) (numbers : List ℕ) : Type 0 where
  pub marked : (file : ℕ) → IsMarked marks file ↔ ClosesFile D p (below n) file
  pub listed : (x : ℕ) → Contains numbers x ↔ ClosesDescription D (closed_below D p n) x
  pub distinct : IsDistinct eqb numbers

-- a descriptor that isn't closed refers to what it referred to
kept : (D : Descriptors) (p : ℕ) (closed : ℕ → Bool) (q k : ℕ) → ((q ≡ p) → closed k ≡ false)
    → (without_descriptors D p closed).description_of q k ≡ D.description_of q k
kept D p closed q k apart = grind (arith, common_steps, cases_eq, eq-eqb, and_left, ne_eqb)

-- a descriptor that is closed refers to nothing
gone : (D : Descriptors) (p : ℕ) (closed : ℕ → Bool) (q k : ℕ) → q ≡ p → closed k ≡ true → (without_descriptors D p closed).description_of q k ≡ None
gone D p closed q k same is = ap (λ b. cond b None (D.description_of q k)) (ap (λ b. b && closed k) (eq-eqb q p same) ∙ is)

-- where two tests agree on each open descriptor, the same descriptors are left
pub same_closing : (D : Descriptors) (p : ℕ) (f g : ℕ → Bool) → ((k : ℕ) → (f k ≡ g k) ⊎ (D.description_of p k ≡ None))
    → SameDescriptors (without_descriptors D p f) (without_descriptors D p g)
same_closing D p f g agree = grind (arith, common_steps, cases_eq, kept)

-- what agrees agrees both ways
pub flip : {D E : Descriptors} → SameDescriptors E D → SameDescriptors D E
flip same = grind (arith, common_steps)

-- what is open stays so in the same descriptors
pub open_same : (D E : Descriptors) (x : ℕ) → SameDescriptors E D → IsOpen D x → IsOpen E x
open_same D E x same h = record { process = h.process; fd = h.fd; refers = same.description_of h.process h.fd ∙ h.refers }

-- one more number is closed
below_more : (n k : ℕ) → k ≢ n → below (n + 1) k ≡ below n k
below_more n k differs = grind (arith, common_steps, cases_lt, lt-ltb, le-ltb)

pub next_closed : (D : Descriptors) (p n : ℕ) → SameDescriptors (closed_below D p (n + 1)) (without_one (closed_below D p n) p n)
next_closed D p n = grind (arith, common_steps, cases_eq, gone, lt-ltb, eq-eqb, below_more, kept, ne_eqb)

-- the next descriptor isn't closed yet
next_open : (D : Descriptors) (p n : ℕ) → (closed_below D p n).description_of p n ≡ D.description_of p n
next_open D p n = kept D p (below n) p n (λ _. le-ltb n n (omega arith))

-- no descriptor is closed at first
pub first_closed : (D : Descriptors) (p : ℕ) → SameDescriptors (closed_below D p 0) D
first_closed D p = grind (arith, common_steps, kept, le-ltb)

unmarked : (count x : ℕ) → IsMarked (replicate count false) x → ⊥
unmarked count x marked = grind (arith, common_steps, cases_lt, false≢true, get_or-replicate, get_or_past, length-replicate)

-- at first nothing is released
pub gathered_none : (D : Descriptors) (p count : ℕ) (marks : List Bool) → marks ≡ replicate count false → IsGathered D p 0 marks []
gathered_none D p count marks is = grind (arith, common_steps, unmarked, false≢true, le-ltb, contains_none, open_same, first_closed, IsDistinct-from_apart)

-- what is closed below this number is closed below the next
closes_more : (D : Descriptors) (p n file : ℕ) → ClosesFile D p (below n) file → ClosesFile D p (below (n + 1)) file
closes_more D p n file h =
    record { fd = h.fd; is_closed = lt-ltb h.fd (n + 1) (omega (arith, ltb-true h.fd n h.is_closed)); description = h.description; refers = h.refers; of_file = h.of_file }

-- what is closed below the next number is closed below this one, or is this one
closes_cases : (D : Descriptors) (p n file : ℕ) → ClosesFile D p (below (n + 1)) file
    → ClosesFile D p (below n) file
    ⊎ ((d : ℕ) × (D.description_of p n ≡ Some d) × (option_map (λ o. o.file) (description_numbered D.descriptions d) ≡ Some file))
closes_cases D p n file h = grind (arith, common_steps, cases_eq, below_more)

-- a descriptor that wasn't open releases nothing more
pub gathered_skip : (D : Descriptors) (p n : ℕ) (marks : List Bool) (numbers : List ℕ) → IsClosing (closed_below D p n) p n None
    → IsGathered D p n marks numbers → IsGathered D p (n + 1) marks numbers
gathered_skip D p n marks numbers closed h =
    let was : D.description_of p n ≡ None = sym (next_open D p n) ∙ closed in
    let same = same_closing D p (below (n + 1)) (below n) (λ k. agree k was) in
    let back = same_closing D p (below n) (below (n + 1)) (λ k. flipped k was) in
    record {
      marked = λ file. (
        λ marked. closes_more D p n file ((h.marked file).0 marked),
        λ closes. elim (closes_cases D p n file closes) [
          | inl before ↦ (h.marked file).1 before
          | inr now ↦ absurd (none-some now.0 (sym was ∙ now.1))
        ],
      );
      listed = λ x. (
        λ there. let at = (h.listed x).0 there in (at.0, λ still. at.1 (open_same (closed_below D p (n + 1)) (closed_below D p n) x back still)),
        λ closes. (h.listed x).1 (closes.0, λ still. closes.1 (open_same (closed_below D p n) (closed_below D p (n + 1)) x same still)),
      );
      distinct = h.distinct;
    }
  where
    agree : (k : ℕ) → D.description_of p n ≡ None → (below (n + 1) k ≡ below n k) ⊎ (D.description_of p k ≡ None)
    agree k was = grind (arith, common_steps, cases_eq, below_more)

    flipped : (k : ℕ) → D.description_of p n ≡ None → (below n k ≡ below (n + 1) k) ⊎ (D.description_of p k ≡ None)
    flipped k was = grind (arith, common_steps)

-- the marks after one more
marks_more : (D : Descriptors) (p n : ℕ) (marks : List Bool) (place file d : ℕ) → place ≡ file → place < length marks → D.description_of p n ≡ Some d
    → option_map (λ o. o.file) (description_numbered D.descriptions d) ≡ Some file
    → ((x : ℕ) → IsMarked marks x ↔ ClosesFile D p (below n) x) → (x : ℕ) → IsMarked (set marks place true) x ↔ ClosesFile D p (below (n + 1)) x
marks_more D p n marks place file d is inside refers of_file h x =
    search (rules, cases_eq, lt-ltb, get_or-set_same, closes_more, get_or-set_other, closes_cases, same_Some)

-- one more descriptor is closed, and others refer to its description
pub gathered_shared : (D : Descriptors) (p n : ℕ) (marks : List Bool) (numbers : List ℕ) (place : ℕ) (closed : Closed) → place ≡ closed.file
    → place < length marks → ClosesOne (closed_below D p n) p n closed → closed.last ≡ None
    → IsGathered D p n marks numbers → IsGathered D p (n + 1) (set marks place true) numbers
gathered_shared D p n marks numbers place closed is inside one last h =
    let before = closed_below D p n in
    let after = closed_below D p (n + 1) in
    let still_open = subst (TellsLastClose (without_one before p n) one.description) last one.last in
    record {
      marked = marks_more D p n marks place closed.file one.description is inside (sym (next_open D p n) ∙ one.refers) one.of_file h.marked;
      listed = λ x. (
        λ there. let at = (h.listed x).0 there in
            (at.0, λ still. at.1 (open_before before p n x (open_same after (without_one before p n) x (flip (next_closed D p n)) still))),
        λ closes. (h.listed x).1 (
          closes.0,
          λ still. closes.1 (open_same (without_one before p n) after x (next_closed D p n)
              (elim (cases_eq x one.description) [
                | inl same ↦ subst (IsOpen (without_one before p n)) (sym same) still_open
                | inr differs ↦ open_after before p n one.description x one.refers differs still
              ])),
        ),
      );
      distinct = h.distinct;
    }

-- one more descriptor is closed, the last of its description
pub gathered_last : (D : Descriptors) (p n : ℕ) (marks : List Bool) (numbers : List ℕ) (place number : ℕ) (closed : Closed) → place ≡ closed.file
    → place < length marks → ClosesOne (closed_below D p n) p n closed → closed.last ≡ Some number
    → IsGathered D p n marks numbers → IsGathered D p (n + 1) (set marks place true) (numbers ++ number ∷ [])
gathered_last D p n marks numbers place number closed is inside one last h =
    let before = closed_below D p n in
    let after = closed_below D p (n + 1) in
    let told = subst (TellsLastClose (without_one before p n) one.description) last one.last in
    let refers : D.description_of p n ≡ Some one.description = sym (next_open D p n) ∙ one.refers in
    let was_open : IsOpen before one.description = record { process = p; fd = n; refers = one.refers } in
    record {
      marked = marks_more D p n marks place closed.file one.description is inside refers one.of_file h.marked;
      listed = λ x. (
        λ there.
            elim (Contains-push_cases numbers number x there) [
              | inl earlier ↦
                  let at = (h.listed x).0 earlier in
                  (at.0, λ still. at.1 (open_before before p n x (open_same after (without_one before p n) x (flip (next_closed D p n)) still)))
              | inr now ↦
                  let same : one.description ≡ x = sym told.0 ∙ now in (
                    subst (IsOpen D) same (record { process = p; fd = n; refers = refers }),
                    λ still. told.1 (subst (IsOpen (without_one before p n)) (sym same) (open_same after (without_one before p n) x (flip (next_closed D p n)) still)),
                  )
            ],
        λ closes.
            elim (cases_eq x one.description) [
              | inl same ↦ subst (Contains (numbers ++ number ∷ [])) (told.0 ∙ sym same) (Contains-push numbers number)
              | inr differs ↦
                  Contains-append_left numbers (number ∷ []) x
                  ((h.listed x).1 (closes.0, λ still. closes.1 (open_same (without_one before p n) after x (next_closed D p n) (open_after before p n one.description x one.refers differs still))))
            ],
      );
      distinct = distinct_push numbers number h.distinct (λ there. ((h.listed number).0 there).1 (subst (IsOpen before) (sym told.0) was_open));
    }

-- each open descriptor is below the limit
pub all_below : (D : Descriptors) (p limit : ℕ) → ((k : ℕ) → limit ≤ k → D.description_of p k ≡ None) → (k : ℕ)
    → (true ≡ below limit k) ⊎ (D.description_of p k ≡ None)
all_below D p limit none k = grind (arith, common_steps, cases_lt, lt-ltb)

-- the end of a process, where all its descriptors lie below the limit
pub gathered_all : (D : Descriptors) (p limit : ℕ) (marks : List Bool) (numbers : List ℕ) (released : Released)
    → ((k : ℕ) → limit ≤ k → D.description_of p k ≡ None) → IsGathered D p limit marks numbers
    → AreExactly released.files (IsMarked marks) → (IsDistinct eqb numbers → IsStrictlyIncreasing released.descriptions)
    → ((x : ℕ) → Contains released.descriptions x ↔ Contains numbers x)
    → EndGives D p released (without_descriptors D p (λ k. true))
gathered_all D p limit marks numbers released none h files rising same =
    let all = without_descriptors D p (λ k. true) in (
      same_descriptors all,
      record {
        files = record {
          rising = files.rising;
          each = λ x. (
            λ there. let at = (h.marked x).0 ((files.each x).0 there) in record { fd = at.fd; is_closed = refl; description = at.description; refers = at.refers; of_file = at.of_file },
            λ closes. (files.each x).1 ((h.marked x).1 (record { fd = closes.fd; is_closed = lt-ltb closes.fd limit (under closes.fd closes.description closes.refers); description = closes.description; refers = closes.refers; of_file = closes.of_file })),
          );
        };
        descriptions = record {
          rising = rising h.distinct;
          each = λ x. (
            λ there. let at = (h.listed x).0 ((same x).0 there) in (at.0, λ still. at.1 (open_same all (closed_below D p limit) x (same_closing D p (below limit) (λ k. true) agree) still)),
            λ closes. (same x).1 ((h.listed x).1 (closes.0, λ still. closes.1 (open_same (closed_below D p limit) all x (same_closing D p (λ k. true) (below limit) (all_below D p limit none)) still))),
          );
        };
      },
    )
  where
    under : (k d : ℕ) → D.description_of p k ≡ Some d → k < limit
    under k d refers = grind (arith, common_steps, cases_lt, none-some)

    agree : (k : ℕ) → (below limit k ≡ true) ⊎ (D.description_of p k ≡ None)
    agree k = grind (arith, common_steps, all_below)
