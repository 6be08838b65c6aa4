-- Loops over maps that put what they go over: for the exports.
use Rattle.lock_server.proofs.Common.{ℕ, ◌≡◌, ◌<◌, ◌^◌, ◌∙◌, sym, ap, subst, refl, arith, true, Option, Some, List, [], ◌∷◌, ◌++◌, All, length, map, common_steps, flat_map-append, AllPairs, is_some, Bor, get, is_at, flat_map, keys_of, deref_pair, nat_cmp, nat_tests, length-append, map-append, All-nil, All-cons, All-push, All-weaker, AllPairs-cons, AreJust, IsEarlier, Puts, PutsSome}
use Rattle.std.specs.Prelude.{Contains}
use Rattle.std.specs.BTreeMap.{BTreeMap, IsOrdered}
use Rattle.std.specs.Iterator.{Yields}
use Rattle.std.specs.List.{AllByRecursion}
use Rattle.std.specs.List.Sorted.{IsStrictlySortedBy}
use Rattle.std.specs.Map.Iter.{TakesFirst}
use Rattle.std.specs.declared.cmp.Ordering.{Ordering}
use Rattle.std.specs.declared.cmp.Ordering.TheVariants.{Less}
use Rattle.std.proofs.lemmas.List.{append-nil}
use Rattle.std.proofs.lemmas.List.Elements.{All-get_or}
use Rattle.std.proofs.lemmas.Map.Iter.{rest_more, rest_so_far}
use Rattle.std.proofs.lemmas.Map.Keys.{sorted_head, sorted_tail}
use Rattle.std.proofs.lemmas.Map.Views.{Contains-keys_from_lookup}
use Rattle.std.proofs.Math.Seq.{get_or-append_seam}
use Rattle.lock_server.proofs.JustLemmas.{AllPairs-nil, IsPiece, just_joined, keys}
use Rattle.lock_server.proofs.WordLemmas.{puts_append, puts_none}

all_less : {K : Type 0} (R : K → K → Ordering) (k : K) (ks : List K) → AllByRecursion (λ y. R k y ≡ Less) ks → All (λ y. R k y ≡ Less) ks
all_less R k [] all = All-nil (λ y. R k y ≡ Less)
all_less R k (y ∷ ks) all = All-cons (λ z. R k z ≡ Less) y ks all.0 (all_less R k ks all.1)

-- the keys of a map in order
pub sorted_pairs : {K : Type 0} (R : K → K → Ordering) (ks : List K) → IsStrictlySortedBy R ks → AllPairs (λ a b. R a b ≡ Less) ks
sorted_pairs R [] sorted = AllPairs-nil (λ a b. R a b ≡ Less)
sorted_pairs R (k ∷ ks) sorted =
    AllPairs-cons (λ a b. R a b ≡ Less) k ks (all_less R k ks (sorted_head R k ks sorted)) (sorted_pairs R ks (sorted_tail R k ks sorted))

nat_at : (a b : ℕ) → is_at (nat_cmp a) b ≡ true → a ≡ b
nat_at a b at = grind (arith, common_steps, nat_tests)

-- a key with a value is among the keys
pub key_there : {V : Type 0} (m : BTreeMap ℕ V) (k : ℕ) (v : V) → get nat_cmp m k ≡ Some v → Contains (keys_of m.entries) k
key_there {V} m k v there =
    Contains-keys_from_lookup {eq = λ a b. is_at (nat_cmp a) b} nat_at k m.entries (ap (λ (o : Option V). is_some o) there)

pub less_than : (a b : ℕ) → nat_cmp a b ≡ Less → a < b
less_than a b less = grind (arith, common_steps)

-- what holds of each entry holds of the one that a loop gives next
pub next_entry : {K X : Type 0} (P : K × X → Type 0) (entries : List (K × X)) (items : List (Bor K × Bor X)) (s t u : List (K × X))
    (r : Option (Bor K × Bor X)) (x : Bor K × Bor X) → s ≡ entries → Yields (TakesFirst deref_pair) s items t → r ≡ Some x
    → TakesFirst deref_pair t r u → All P entries → P (x.0.now, x.1.now)
next_entry {K} {X} P entries items s t u r x start yields is step all =
    let split : entries ≡ map deref_pair items ++ deref_pair x ∷ u =
    sym start ∙ rest_so_far deref_pair items s t yields ∙ ap (λ (l : List (K × X)). map deref_pair items ++ l) (rest_more deref_pair t u r x is step) in
    let each : All P (map deref_pair items ++ deref_pair x ∷ u) = subst (λ (l : List (K × X)). All P l) split all in
    let within : length (map deref_pair items) < length (map deref_pair items ++ deref_pair x ∷ u) =
    rw (length-append (map deref_pair items) (deref_pair x ∷ u)) (omega arith) in
    subst P (get_or-append_seam (map deref_pair items) (deref_pair x) u (deref_pair x))
    (All-get_or P (map deref_pair items ++ deref_pair x ∷ u) (length (map deref_pair items)) (deref_pair x) within each)

-- the words of one piece more
spelled : {K A : Type 0} (spell : A → List ℕ) (pieces : List (K × List A)) (piece : K × List A)
    → flat_map spell (flat_map (λ (p : K × List A). p.1) (pieces ++ piece ∷ [])) ≡ flat_map spell (flat_map (λ (p : K × List A). p.1) pieces) ++ flat_map spell piece.1
spelled {K} {A} spell pieces piece =
    ap (flat_map spell) (flat_map-append (λ (p : K × List A). p.1) pieces (piece ∷ [])
    ∙ ap (λ (l : List A). flat_map (λ (p : K × List A). p.1) pieces ++ l) (append-nil piece.1))
    ∙ flat_map-append spell (flat_map (λ (p : K × List A). p.1) pieces) piece.1

module _ {K V A : Type 0} (Is : K × List A → Type 0) (spell : A → List ℕ) where
  -- the items of all entries so far are put, in pieces by key
  pub record Walked (entries : List (Bor K × Bor V)) (old : List ℕ) (at : ℕ) (new : List ℕ) (next : ℕ) : Type 0 where
    pub pieces : List (K × List A)
    pub of_keys : map (λ piece. piece.0) pieces ≡ map (λ entry. entry.0.now) entries
    pub each : All Is pieces
    pub puts : Puts (flat_map spell (flat_map (λ piece. piece.1) pieces)) old at new next

  pub walked_none : (old : List ℕ) (at : ℕ) → at < 2 ^ 64 → Walked [] old at old at
  walked_none old at small = record { pieces = []; of_keys = refl; each = All-nil Is; puts = puts_none old at (omega (arith, small)) }

  -- one entry more
  pub walked_more : (entries : List (Bor K × Bor V)) (entry : Bor K × Bor V) (old mid new : List ℕ) (at then next : ℕ) → Walked entries old at mid then
      → (items : List A) → Is (entry.0.now, items) → Puts (flat_map spell items) mid then new next → Walked (entries ++ entry ∷ []) old at new next
  walked_more entries entry old mid new at then next walked items is puts =
      let piece : K × List A = (entry.0.now, items) in
      record {
        pieces = walked.pieces ++ piece ∷ [];
        of_keys = map-append (λ (p : K × List A). p.0) walked.pieces (piece ∷ [])
            ∙ ap (λ (l : List K). l ++ entry.0.now ∷ []) walked.of_keys
            ∙ sym (map-append (λ (e : Bor K × Bor V). e.0.now) entries (entry ∷ []));
        each = All-push Is walked.pieces piece walked.each is;
        puts = subst (λ (l : List ℕ). Puts l old at new next) (sym (spelled spell walked.pieces piece))
            (puts_append _ _ old mid new at then next walked.puts puts);
      }

  -- one entry more that has no items
  pub walked_past : (entries : List (Bor K × Bor V)) (entry : Bor K × Bor V) (old mid : List ℕ) (at then : ℕ) → Walked entries old at mid then
      → Is (entry.0.now, []) → Walked (entries ++ entry ∷ []) old at mid then
  walked_past entries entry old mid at then walked is =
      walked_more entries entry old mid mid at then then walked [] is
      (puts_none mid then (let reached = walked.puts.reaches in omega arith))

  -- all entries
  pub walked_keys : (all : List (K × V)) (entries : List (Bor K × Bor V)) (old new : List ℕ) (at next : ℕ) (walked : Walked entries old at new next)
      → map deref_pair entries ≡ all → map (λ piece. piece.0) walked.pieces ≡ keys_of all
  walked_keys all entries old new at next walked whole =
      walked.of_keys ∙ keys_shown entries ∙ ap (λ (l : List (K × V)). keys_of l) whole
    where
      keys_shown : (entries : List (Bor K × Bor V)) → map (λ entry. entry.0.now) entries ≡ keys_of (map deref_pair entries)
      keys_shown [] = refl
      keys_shown (entry ∷ entries) = ap (λ (l : List K). entry.0.now ∷ l) (keys_shown entries)

-- a loop over a map by numbers went over just the items with the property
pub walked_just : {V A : Type 0} (m : BTreeMap ℕ V) (key : A → ℕ) (place : A → List ℕ) (P : A → Type 0) (Is : ℕ × List A → Type 0) (spell : A → List ℕ)
    (entries : List (Bor ℕ × Bor V)) (old new : List ℕ) (at next : ℕ)
    → ((x y : A) → P x → P y → key x < key y → IsEarlier (place x) (place y)) → ((piece : ℕ × List A) → Is piece → IsPiece key place P piece)
    → ((x : A) → P x → (v : V) × (get nat_cmp m (key x) ≡ Some v)) → IsOrdered nat_cmp m
    → map deref_pair entries ≡ m.entries → (walked : Walked Is spell entries old at new next)
    → AreJust place P (flat_map (λ piece. piece.1) walked.pieces)
walked_just {V} {A} m key place P Is spell entries old new at next across each there ordered whole walked =
    let of_keys = walked_keys Is spell m.entries entries old new at next walked whole in
    let order : AllPairs (λ a b. nat_cmp a b ≡ Less) (keys key place P walked.pieces) =
    subst (λ (ks : List ℕ). AllPairs (λ a b. nat_cmp a b ≡ Less) ks) (sym of_keys) (sorted_pairs nat_cmp (keys_of m.entries) ordered) in
    just_joined key place P (λ a b. nat_cmp a b ≡ Less) (λ x y first second less. across x y first second (less_than (key x) (key y) less)) walked.pieces order
    (All-weaker Is (IsPiece key place P) each walked.pieces walked.each)
    (λ x has. let found = there x has in subst (λ (ks : List ℕ). Contains ks (key x)) (sym of_keys) (key_there m (key x) found.0 found.1))

-- and put these
pub walked_all : {V A : Type 0} (m : BTreeMap ℕ V) (key : A → ℕ) (place : A → List ℕ) (P : A → Type 0) (Is : ℕ × List A → Type 0) (spell : A → List ℕ)
    (entries : List (Bor ℕ × Bor V)) (old new : List ℕ) (at next : ℕ)
    → ((x y : A) → P x → P y → key x < key y → IsEarlier (place x) (place y)) → ((piece : ℕ × List A) → Is piece → IsPiece key place P piece)
    → ((x : A) → P x → (v : V) × (get nat_cmp m (key x) ≡ Some v)) → IsOrdered nat_cmp m
    → map deref_pair entries ≡ m.entries → Walked Is spell entries old at new next → PutsSome (AreJust place P) (flat_map spell) old at new next
walked_all {V} {A} m key place P Is spell entries old new at next across each there ordered whole walked = record {
  what = flat_map (λ (piece : ℕ × List A). piece.1) walked.pieces;
  is = walked_just m key place P Is spell entries old new at next across each there ordered whole walked;
  puts = walked.puts;
}
