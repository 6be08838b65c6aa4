-- The order of places, and the first thing that is listed from one on: for `LockFile::next_wait`, `Table::next_wait` and the law on
-- listings.
use Rattle.lock_server.proofs.Common.{ℕ, ◌≡◌, ◌∙◌, ◌⊎◌, inl, inr, refl, sym, subst, arith, Option, Some, None, List, [], ◌∷◌, length, cases_lt, OwnerWait, EndsBefore, IsEarlier, IsFirstFrom, IsNextFrom, wait_place}
use Rattle.lock_server.specs.Listing.{IsEarlierOf}

pub IsEarlier-transitive : (one two three : List ℕ) → IsEarlier one two → IsEarlier two three → IsEarlier one three
IsEarlier-transitive [] two three first second = absurd first
IsEarlier-transitive (n ∷ ns) [] three first second = absurd first
IsEarlier-transitive (n ∷ ns) (m ∷ ms) [] first second = absurd second
IsEarlier-transitive (n ∷ ns) (m ∷ ms) (k ∷ ks) (inl less) (inl below) = inl (omega (arith, less, below))
IsEarlier-transitive (n ∷ ns) (m ∷ ms) (k ∷ ks) (inl less) (inr (same, later)) = inl (omega (arith, less, same))
IsEarlier-transitive (n ∷ ns) (m ∷ ms) (k ∷ ks) (inr (same, later)) (inl below) = inl (omega (arith, same, below))
IsEarlier-transitive (n ∷ ns) (m ∷ ms) (k ∷ ks) (inr (same, later)) (inr (equal, behind)) = inr (same ∙ equal, IsEarlier-transitive ns ms ks later behind)

-- of two places where one comes before a third, each other one comes behind the one or before the third
pub IsEarlier-cotransitive : (one two three : List ℕ) → length one ≡ length two → IsEarlier one three → IsEarlier one two ⊎ IsEarlier two three
IsEarlier-cotransitive [] two three same earlier = absurd earlier
IsEarlier-cotransitive (n ∷ ns) [] three same earlier = absurd (omega (arith, same))
IsEarlier-cotransitive (n ∷ ns) (m ∷ ms) [] same earlier = absurd earlier
IsEarlier-cotransitive (n ∷ ns) (m ∷ ms) (k ∷ ks) same earlier = elim (cases_lt n m) [
  | inl less ↦ inl (inl less)
  | inr from ↦ elim (cases_lt m n) [
    | inl greater ↦ inr (inl (elim earlier [ inl below ↦ omega (arith, greater, below) | inr (equal, later) ↦ omega (arith, greater, equal) ]))
    | inr upto ↦
        (let is : n ≡ m = omega (arith, from, upto) in
        elim earlier [
          | inl below ↦ inr (inl (omega (arith, is, below)))
          | inr (equal, later) ↦ elim (IsEarlier-cotransitive ns ms ks (omega (arith, same)) later) [
            | inl before ↦ inl (inr (is, before))
            | inr behind ↦ inr (inr (sym is ∙ equal, behind))
          ]
        ])
  ]
]

-- what is listed, said in another way
pub next_as_before : {X : Type 0} (place : X → List ℕ) (Listed Also : X → Type 0) (from : List ℕ) (found : Option X) → ((x : X) → Listed x → Also x)
    → ((x : X) → Also x → Listed x) → IsNextFrom place Listed from found → IsNextFrom place Also from found
next_as_before place Listed Also from None all only next = record { earlier = λ x also. next.earlier x (only x also) }
next_as_before place Listed Also from (Some found) all only next = record {
  listed = all found next.listed;
  from_there = next.from_there;
  first = λ x also before. next.first x (only x also) before;
}

-- of two lists the earlier of the two that come first is the first of both
module _ (Listed Here Also : OwnerWait → Type 0) (from : List ℕ) (all : (w : OwnerWait) → Listed w → Also w)
    (here : (w : OwnerWait) → Here w → Also w) (only : (w : OwnerWait) → Also w → Listed w ⊎ Here w) where
  joined_first : (wait : OwnerWait) → EndsBefore wait_place Listed from → IsFirstFrom wait_place Here from wait → IsFirstFrom wait_place Also from wait
  joined_first wait next there = record {
    listed = here wait there.listed;
    from_there = there.from_there;
    first = λ w also before. elim (only w also) [ inl listed ↦ next.earlier w listed | inr is_here ↦ there.first w is_here before ];
  }

  joined_earlier : (found wait : OwnerWait) → IsEarlier (wait_place wait) (wait_place found) → IsFirstFrom wait_place Listed from found
      → IsFirstFrom wait_place Here from wait → IsFirstFrom wait_place Also from wait
  joined_earlier found wait earlier next there = record {
    listed = here wait there.listed;
    from_there = there.from_there;
    first = λ w also before. elim (only w also) [
      | inl listed ↦ next.first w listed (IsEarlier-transitive (wait_place w) (wait_place wait) (wait_place found) before earlier)
      | inr is_here ↦ there.first w is_here before
    ];
  }

  joined_later : (found wait : OwnerWait) → ¬ IsEarlier (wait_place wait) (wait_place found) → IsFirstFrom wait_place Listed from found
      → IsFirstFrom wait_place Here from wait → IsFirstFrom wait_place Also from found
  joined_later found wait later next there = record {
    listed = all found next.listed;
    from_there = next.from_there;
    first = λ w also before. elim (only w also) [
      | inl listed ↦ next.first w listed before
      | inr is_here ↦ elim (IsEarlier-cotransitive (wait_place w) (wait_place wait) (wait_place found) refl before) [
        | inl sooner ↦ there.first w is_here sooner
        | inr behind ↦ absurd (later behind)
      ]
    ];
  }

  joined_as_before : (found : Option OwnerWait) → IsNextFrom wait_place Listed from found → EndsBefore wait_place Here from
      → IsNextFrom wait_place Also from found
  joined_as_before None next none = record {
    earlier = λ w also. elim (only w also) [ inl listed ↦ next.earlier w listed | inr is_here ↦ none.earlier w is_here ];
  }
  joined_as_before (Some found) next none = record {
    listed = all found next.listed;
    from_there = next.from_there;
    first = λ w also before. elim (only w also) [ inl listed ↦ next.first w listed before | inr is_here ↦ none.earlier w is_here ];
  }

  pub next_joined : (found next first : Option OwnerWait) → IsEarlierOf found next first → IsNextFrom wait_place Listed from found
      → IsNextFrom wait_place Here from next → IsNextFrom wait_place Also from first
  next_joined None None first is one other =
      subst (λ (o : Option OwnerWait). IsNextFrom wait_place Also from o) (sym is) (joined_as_before None one other)
  next_joined (Some found) None first is one other =
      subst (λ (o : Option OwnerWait). IsNextFrom wait_place Also from o) (sym is) (joined_as_before (Some found) one other)
  next_joined None (Some wait) first is one other =
      subst (λ (o : Option OwnerWait). IsNextFrom wait_place Also from o) (sym is) (joined_first wait one other)
  next_joined (Some found) (Some wait) first (inl (earlier, is)) one other =
      subst (λ (o : Option OwnerWait). IsNextFrom wait_place Also from o) (sym is) (joined_earlier found wait earlier one other)
  next_joined (Some found) (Some wait) first (inr (later, is)) one other =
      subst (λ (o : Option OwnerWait). IsNextFrom wait_place Also from o) (sym is) (joined_later found wait later one other)
