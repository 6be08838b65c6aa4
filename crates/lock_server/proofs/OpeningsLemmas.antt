-- Maps of owners without a pair: for the openings' `is_empty`.
use Rattle.lock_server.proofs.Common.{common_steps, ℕ, ◌≡◌, ◌∙◌, sym, ap, refl, arith, cond, true, Bool, Some, None, List, [], ◌∷◌, length, get, is_at, lookup, nat_cmp}
use Rattle.std.specs.BTreeMap.{BTreeMap}

-- in a map without a pair no key has a value
no_value : (pairs : List (ℕ × ℕ)) → length pairs ≡ 0 → (key : ℕ) → lookup (is_at (nat_cmp key)) pairs ≡ None
no_value [] empty key = refl
no_value (pair ∷ pairs) empty key = absurd (let none : length (pair ∷ pairs) ≡ 0 = empty in let n = length pairs in omega arith)

pub unknown_if_empty : (owners : BTreeMap ℕ ℕ) → length owners.entries ≡ 0 → (owner : ℕ) → get nat_cmp owners owner ≡ None
unknown_if_empty owners empty = no_value owners.entries empty

-- a key is at its own place
at_itself : (key : ℕ) → is_at (nat_cmp key) key ≡ true
at_itself key = grind (arith, common_steps)

-- where no key has a value there is no pair
no_pair : (pairs : List (ℕ × ℕ)) → ((key : ℕ) → lookup (is_at (nat_cmp key)) pairs ≡ None) → length pairs ≡ 0
no_pair [] none = refl
no_pair ((key, value) ∷ pairs) none =
    absurd (let found : Some value ≡ None = sym (ap (λ (b : Bool). cond b (Some value) (lookup (is_at (nat_cmp key)) pairs)) (at_itself key)) ∙ none key in cc)

pub empty_if_unknown : (owners : BTreeMap ℕ ℕ) → ((owner : ℕ) → get nat_cmp owners owner ≡ None) → length owners.entries ≡ 0
empty_if_unknown owners none = no_pair owners.entries none
