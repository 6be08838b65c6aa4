-- What an entry's coming, going and change pass by.
use Rattle.std.proofs.Common.{◌≡◌, Bool, true, false, cond, List, [], ◌∷◌, ◌++◌, Some, None, refl, sym, ap, ◌∙◌}
use Rattle.std.specs.Map.{lookup, remove_entry, set_value}
use Rattle.std.specs.BTreeMap.{insert_entry, is_at}
use Rattle.std.specs.Cmp.{IsTotalOrder}
use Rattle.std.specs.Ordering.{is_eq, match_ordering}
use Rattle.std.specs.declared.cmp.Ordering.{Ordering}
use Rattle.std.specs.declared.cmp.Ordering.TheVariants.{Less, Equal, Greater}
use Rattle.block_map.specs.Blocks.{AreBefore, AreRising}
use Rattle.block_map.proofs.Parts.{all_like, AreBehind, IsEditAt, less_back, none_behind, not_at_before, not_at_behind}

module _ {K X : Type 0} {cmp : K → K → Ordering} (o : IsTotalOrder cmp) where
  insert_skips : (key : K) (value : X) (xs ys : List (K × X)) → AreBefore cmp key xs → insert_entry cmp (xs ++ ys) key value ≡ xs ++ insert_entry cmp ys key value
  insert_skips key value [] ys before = refl
  insert_skips key value (x ∷ xs) ys before =
      ap (λ r. match_ordering r ((key, value) ∷ x ∷ (xs ++ ys)) ((x.0, value) ∷ (xs ++ ys)) (x ∷ insert_entry cmp (xs ++ ys) key value)) (less_back o x.0 key before.0)
      ∙ ap (λ es. x ∷ es) (insert_skips key value xs ys before.1)

  -- before all others
  pub insert_front : (key : K) (value : X) (ys : List (K × X)) → AreBehind o key ys → insert_entry cmp ys key value ≡ (key, value) ∷ ys
  insert_front key value [] behind = refl
  insert_front key value (y ∷ ys) behind = ap (λ r. match_ordering r ((key, value) ∷ y ∷ ys) ((y.0, value) ∷ ys) (y ∷ insert_entry cmp ys key value)) behind.0

  insert_stays_at : (key : K) (value : X) (x : K × X) (xs ys : List (K × X)) (r : Ordering) → insert_entry cmp (xs ++ ys) key value ≡ insert_entry cmp xs key value ++ ys
      → match_ordering r ((key, value) ∷ x ∷ (xs ++ ys)) ((x.0, value) ∷ (xs ++ ys)) (x ∷ insert_entry cmp (xs ++ ys) key value)
      ≡ match_ordering r ((key, value) ∷ x ∷ xs) ((x.0, value) ∷ xs) (x ∷ insert_entry cmp xs key value) ++ ys
  insert_stays_at key value x xs ys Less rest = refl
  insert_stays_at key value x xs ys Equal rest = refl
  insert_stays_at key value x xs ys Greater rest = ap (λ es. x ∷ es) rest

  insert_stays : (key : K) (value : X) (xs ys : List (K × X)) → AreBehind o key ys → insert_entry cmp (xs ++ ys) key value ≡ insert_entry cmp xs key value ++ ys
  insert_stays key value [] ys behind = insert_front key value ys behind
  insert_stays key value (x ∷ xs) ys behind = insert_stays_at key value x xs ys (cmp key x.0) (insert_stays key value xs ys behind)

  -- an entry that comes
  pub insert_edit : (key : K) (value : X) → IsEditAt o key (λ (es : List (K × X)). insert_entry cmp es key value)
  insert_edit key value = record { skips = insert_skips key value; stays = insert_stays key value }

  -- where the key has one, its value is set
  pub set_inserts : (key : K) (value old : X) (es : List (K × X)) → AreRising cmp es → lookup (is_at (cmp key)) es ≡ Some old
      → set_value (is_at (cmp key)) es value ≡ insert_entry cmp es key value
  set_inserts key value old [] rising found = absurd (let no : None ≡ Some old = found in cc)
  set_inserts key value old (e ∷ es) rising found = by (cmp key e.0) refl found (set_inserts key value old es rising.1)
    where
      by : (r : Ordering) → cmp key e.0 ≡ r → cond (is_eq r) (Some e.1) (lookup (is_at (cmp key)) es) ≡ Some old
          → (lookup (is_at (cmp key)) es ≡ Some old → set_value (is_at (cmp key)) es value ≡ insert_entry cmp es key value)
          → cond (is_eq r) ((e.0, value) ∷ es) (e ∷ set_value (is_at (cmp key)) es value)
          ≡ match_ordering r ((key, value) ∷ e ∷ es) ((e.0, value) ∷ es) (e ∷ insert_entry cmp es key value)
      by Less at found rest =
          let behind = all_like (λ f. cmp e.0 f.0 ≡ Less) (λ f. cmp key f.0 ≡ Less) es (λ f less. o.trans key e.0 f.0 at less) rising.0 in
          absurd (let no : None ≡ Some old = sym (none_behind o key es behind) ∙ found in cc)
      by Equal at found rest = refl
      by Greater at found rest = ap (λ fs. e ∷ fs) (rest found)

  remove_skips : (key : K) (xs ys : List (K × X)) → AreBefore cmp key xs → remove_entry (is_at (cmp key)) (xs ++ ys) ≡ xs ++ remove_entry (is_at (cmp key)) ys
  remove_skips key [] ys before = refl
  remove_skips key (x ∷ xs) ys before =
      ap (λ b. cond b (xs ++ ys) (x ∷ remove_entry (is_at (cmp key)) (xs ++ ys))) (not_at_before o key x.0 before.0) ∙ ap (λ es. x ∷ es) (remove_skips key xs ys before.1)

  remove_none : (key : K) (ys : List (K × X)) → AreBehind o key ys → remove_entry (is_at (cmp key)) ys ≡ ys
  remove_none key [] behind = refl
  remove_none key (y ∷ ys) behind =
      ap (λ b. cond b ys (y ∷ remove_entry (is_at (cmp key)) ys)) (not_at_behind o key y.0 behind.0) ∙ ap (λ es. y ∷ es) (remove_none key ys behind.1)

  remove_stays_at : (key : K) (x : K × X) (xs ys : List (K × X)) (b : Bool) → remove_entry (is_at (cmp key)) (xs ++ ys) ≡ remove_entry (is_at (cmp key)) xs ++ ys
      → cond b (xs ++ ys) (x ∷ remove_entry (is_at (cmp key)) (xs ++ ys)) ≡ cond b xs (x ∷ remove_entry (is_at (cmp key)) xs) ++ ys
  remove_stays_at key x xs ys true rest = refl
  remove_stays_at key x xs ys false rest = ap (λ es. x ∷ es) rest

  remove_stays : (key : K) (xs ys : List (K × X)) → AreBehind o key ys → remove_entry (is_at (cmp key)) (xs ++ ys) ≡ remove_entry (is_at (cmp key)) xs ++ ys
  remove_stays key [] ys behind = remove_none key ys behind
  remove_stays key (x ∷ xs) ys behind = remove_stays_at key x xs ys (is_at (cmp key) x.0) (remove_stays key xs ys behind)

  -- one that goes
  pub remove_edit : (key : K) → IsEditAt o key (λ (es : List (K × X)). remove_entry (is_at (cmp key)) es)
  remove_edit key = record { skips = remove_skips key; stays = remove_stays key }

  set_skips : (key : K) (value : X) (xs ys : List (K × X)) → AreBefore cmp key xs → set_value (is_at (cmp key)) (xs ++ ys) value ≡ xs ++ set_value (is_at (cmp key)) ys value
  set_skips key value [] ys before = refl
  set_skips key value (x ∷ xs) ys before =
      ap (λ b. cond b ((x.0, value) ∷ (xs ++ ys)) (x ∷ set_value (is_at (cmp key)) (xs ++ ys) value)) (not_at_before o key x.0 before.0) ∙ ap (λ es. x ∷ es) (set_skips key value xs ys before.1)

  set_none : (key : K) (value : X) (ys : List (K × X)) → AreBehind o key ys → set_value (is_at (cmp key)) ys value ≡ ys
  set_none key value [] behind = refl
  set_none key value (y ∷ ys) behind =
      ap (λ b. cond b ((y.0, value) ∷ ys) (y ∷ set_value (is_at (cmp key)) ys value)) (not_at_behind o key y.0 behind.0) ∙ ap (λ es. y ∷ es) (set_none key value ys behind.1)

  set_stays_at : (key : K) (value : X) (x : K × X) (xs ys : List (K × X)) (b : Bool) → set_value (is_at (cmp key)) (xs ++ ys) value ≡ set_value (is_at (cmp key)) xs value ++ ys
      → cond b ((x.0, value) ∷ (xs ++ ys)) (x ∷ set_value (is_at (cmp key)) (xs ++ ys) value) ≡ cond b ((x.0, value) ∷ xs) (x ∷ set_value (is_at (cmp key)) xs value) ++ ys
  set_stays_at key value x xs ys true rest = refl
  set_stays_at key value x xs ys false rest = ap (λ es. x ∷ es) rest

  set_stays : (key : K) (value : X) (xs ys : List (K × X)) → AreBehind o key ys → set_value (is_at (cmp key)) (xs ++ ys) value ≡ set_value (is_at (cmp key)) xs value ++ ys
  set_stays key value [] ys behind = set_none key value ys behind
  set_stays key value (x ∷ xs) ys behind = set_stays_at key value x xs ys (is_at (cmp key) x.0) (set_stays key value xs ys behind)

  -- one that is given another value
  pub set_edit : (key : K) (value : X) → IsEditAt o key (λ (es : List (K × X)). set_value (is_at (cmp key)) es value)
  set_edit key value = record { skips = set_skips key value; stays = set_stays key value }
