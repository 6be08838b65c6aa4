-- What a loop over a map gives, in order, of any keys and values: for `held` and `first_blocker`.
use Rattle.lock_book.proofs.Common.{◌≡◌, ◌∙◌, sym, ap, subst, Bool, true, Option, Some, List, [], ◌∷◌, ◌++◌, All, length, map, ◌<◌, arith, AllByRecursion, IsStrictlySortedBy, Yields, Bor, keys_of, lookup, TakesFirst, deref_pair, Less, All-nil, All-cons, All-append}
use Rattle.std.specs.declared.cmp.Ordering.{Ordering}
use Rattle.std.proofs.lemmas.List.Elements.{All-get_or, All-map}
use Rattle.std.proofs.lemmas.Map.Entries.{place_from_lookup}
use Rattle.std.proofs.lemmas.Option.{get_or_from_slice_get, slice_get_within}
use Rattle.std.proofs.lemmas.List.{append_assoc, length-append, map-append}
use Rattle.std.proofs.Math.Seq.{get_or-append_seam}
use Rattle.std.proofs.lemmas.Map.Keys.{sorted_head, sorted_tail}
use Rattle.std.proofs.lemmas.Map.Iter.{rest_so_far, rest_more}

module _ {K X : Type 0} (R : K → K → Ordering) where
  later_less : (k : K) (items : List (Bor K × Bor X)) (x : Bor K × Bor X) (rest : List (K × X))
      → AllByRecursion (λ y. R k y ≡ Less) (keys_of (map deref_pair items ++ deref_pair x ∷ rest)) → R k x.0.now ≡ Less
  later_less k [] x rest all = all.0
  later_less k (y ∷ items) x rest all = later_less k items x rest all.1

  -- in order, each entry so far comes before this one
  sorted_less : (items : List (Bor K × Bor X)) (x : Bor K × Bor X) (rest : List (K × X))
      → IsStrictlySortedBy R (keys_of (map deref_pair items ++ deref_pair x ∷ rest)) → All (λ y. R y.0.now x.0.now ≡ Less) items
  sorted_less [] x rest sorted = All-nil (λ y. R y.0.now x.0.now ≡ Less)
  sorted_less (y ∷ items) x rest sorted =
      All-cons (λ z. R z.0.now x.0.now ≡ Less) y items
      (later_less y.0.now items x rest (sorted_head R _ _ sorted)) (sorted_less items x rest (sorted_tail R _ _ sorted))

-- the entries of a map are those that a loop gave, the one that it gives next, and the rest
split_in_loop : {K X : Type 0} (entries : List (K × X)) (items : List (Bor K × Bor X)) (s t u : List (K × X)) (r : Option (Bor K × Bor X)) (x : Bor K
    × Bor X) → s ≡ entries → Yields (TakesFirst deref_pair) s items t → r ≡ Some x → TakesFirst deref_pair t r u
    → entries ≡ map deref_pair items ++ deref_pair x ∷ u
split_in_loop {K} {X} entries items s t u r x start yields is step =
    sym start ∙ rest_so_far deref_pair items s t yields ∙ ap (λ (l : List (K × X)). map deref_pair items ++ l) (rest_more deref_pair t u r x is step)

-- what holds of each entry holds of the next one
pub next_in_loop : {K X : Type 0} (P : K × X
    → Type 0) (entries : List (K × X)) (items : List (Bor K × Bor X)) (s t u : List (K × X)) (r : Option (Bor K × Bor X)) (x : Bor K × Bor X)
    → s ≡ entries → Yields (TakesFirst deref_pair) s items t → r ≡ Some x → TakesFirst deref_pair t r u → All P entries → P (x.0.now, x.1.now)
next_in_loop {K} {X} P entries items s t u r x start yields is step all =
    let split = split_in_loop entries items s t u r x start yields is step in
    let each : All P (map deref_pair items ++ deref_pair x ∷ u) = subst (λ (l : List (K × X)). All P l) split all in
    let within : length (map deref_pair items) < length (map deref_pair items ++ deref_pair x ∷ u) =
    rw (length-append (map deref_pair items) (deref_pair x ∷ u)) (omega arith) in
    subst P (get_or-append_seam (map deref_pair items) (deref_pair x) u (deref_pair x))
    (All-get_or P (map deref_pair items ++ deref_pair x ∷ u) (length (map deref_pair items)) (deref_pair x) within each)

-- in order, the entries that a loop gave come before the next one
pub earlier_in_loop : {K X : Type 0} (R : K → K
    → Ordering) (entries : List (K × X)) (items : List (Bor K × Bor X)) (s t u : List (K × X)) (r : Option (Bor K × Bor X)) (x : Bor K × Bor X)
    → s ≡ entries → Yields (TakesFirst deref_pair) s items t → r ≡ Some x → TakesFirst deref_pair t r u → IsStrictlySortedBy R (keys_of entries)
    → All (λ y. R y.0.now x.0.now ≡ Less) items
earlier_in_loop {K} {X} R entries items s t u r x start yields is step sorted =
    sorted_less R items x u
    (subst (λ (l : List (K × X)). IsStrictlySortedBy R (keys_of l)) (split_in_loop entries items s t u r x start yields is step) sorted)

-- in order, the next entry comes before those that are left
less_than_all : {K X : Type 0} (R : K → K → Ordering) (k : K) (rest : List (K × X)) → AllByRecursion (λ y. R k y ≡ Less) (keys_of rest)
    → All (λ e. R k e.0 ≡ Less) rest
less_than_all R k [] all = All-nil (λ e. R k e.0 ≡ Less)
less_than_all R k (e ∷ rest) all = All-cons (λ e. R k e.0 ≡ Less) e rest all.0 (less_than_all R k rest all.1)

less_than_rest : {K X : Type 0} (R : K → K → Ordering) (items : List (Bor K × Bor X)) (x : Bor K × Bor X) (rest : List (K × X))
    → IsStrictlySortedBy R (keys_of (map deref_pair items ++ deref_pair x ∷ rest)) → All (λ e. R x.0.now e.0 ≡ Less) rest
less_than_rest R [] x rest sorted = less_than_all R x.0.now rest (sorted_head R _ _ sorted)
less_than_rest R (y ∷ items) x rest sorted = less_than_rest R items x rest (sorted_tail R _ _ sorted)

pub later_in_loop : {K X : Type 0} (R : K → K
    → Ordering) (entries : List (K × X)) (items : List (Bor K × Bor X)) (s t u : List (K × X)) (r : Option (Bor K × Bor X)) (x : Bor K × Bor X)
    → s ≡ entries → Yields (TakesFirst deref_pair) s items t → r ≡ Some x → TakesFirst deref_pair t r u → IsStrictlySortedBy R (keys_of entries)
    → All (λ e. R x.0.now e.0 ≡ Less) u
later_in_loop {K} {X} R entries items s t u r x start yields is step sorted =
    less_than_rest R items x u
    (subst (λ (l : List (K × X)). IsStrictlySortedBy R (keys_of l)) (split_in_loop entries items s t u r x start yields is step) sorted)

-- what holds of each entry holds of the one that a look-up finds
found_among : {K X : Type 0} (P : K × X → Type 0) (entries : List (K × X)) → All P entries → (test : K → Bool) (v : X) → lookup test entries ≡ Some v
    → (k : K) × (test k ≡ true) × P (k, v)
found_among {K} {X} P entries each test v found =
    let place = place_from_lookup test entries v found in (
      place.1,
      place.3,
      subst P (get_or_from_slice_get entries place.0 (place.1, v) (place.1, v) place.2)
          (All-get_or P entries place.0 (place.1, v) (slice_get_within entries place.0 (place.1, v) place.2) each),
    )

pub found_in_loop : {K X : Type 0} (P : K × X → Type 0) (entries : List (K × X)) (items : List (Bor K × Bor X)) → map deref_pair items ≡ entries
    → All (λ y. P (y.0.now, y.1.now)) items → (test : K → Bool) (v : X) → lookup test entries ≡ Some v → (k : K) × (test k ≡ true) × P (k, v)
found_in_loop {K} {X} P entries items whole all test v found =
    found_among P entries (subst (λ (es : List (K × X)). All P es) whole (All-map P deref_pair items all)) test v found

-- also where the loop ends early, if it holds of those that are left too
pub found_in_part : {K X : Type 0} (P : K × X
    → Type 0) (entries : List (K × X)) (items : List (Bor K × Bor X)) (s t u : List (K × X)) (r : Option (Bor K × Bor X)) (x : Bor K × Bor X)
    → s ≡ entries → Yields (TakesFirst deref_pair) s items t → r ≡ Some x → TakesFirst deref_pair t r u
    → All (λ y. P (y.0.now, y.1.now)) (items ++ x ∷ []) → All P u → (test : K → Bool) (v : X) → lookup test entries ≡ Some v
    → (k : K) × (test k ≡ true) × P (k, v)
found_in_part {K} {X} P entries items s t u r x start yields is step so_far rest test v found =
    let joined : map deref_pair (items ++ x ∷ []) ++ u ≡ entries =
    ap (λ (l : List (K × X)). l ++ u) (map-append deref_pair items (x ∷ []))
    ∙ append_assoc (map deref_pair items) (deref_pair x ∷ []) u
    ∙ sym (split_in_loop entries items s t u r x start yields is step) in
    let all = All-append P (map deref_pair (items ++ x ∷ [])) u (All-map P deref_pair (items ++ x ∷ []) so_far) rest in
    found_among P entries (subst (λ (es : List (K × X)). All P es) joined all) test v found
