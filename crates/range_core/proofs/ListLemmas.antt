-- `AllPairs` of two lists in a row, and of their parts; what a splice leaves.
use Rattle.std.proofs.lemmas.Grind.{common_steps}
use Rattle.std.proofs.Common.{ℕ, ◌≡◌, ◌+◌, ◌-◌, ◌≤◌, List, ◌++◌, All, AllPairs, length, take, drop, get_or, refl, ap, sym, ◌∙◌, arith}
use Rattle.std.proofs.lemmas.Bool.{cases_lt}
use Rattle.std.specs.List.{AllWithin, between, refill}
use Rattle.std.proofs.lemmas.List.Edits.{paste_all, length-between, get_or-between}
use Rattle.std.proofs.lemmas.Slice.{put_mid-paste}
use borrow.Rule.Slice.PartMut.{put_mid}
use Rattle.std.proofs.lemmas.List.{length-append, get_or_append_left, get_or-append_right, get_or-append-add, get_or-drop, get_or-take, get_or_default, length-take-le, length-drop, take_at, drop_at, append_assoc, drop-drop}
use Rattle.std.proofs.Math.Seq.{drop-append-add}

-- two lists in order, each element of the one before each of the other
pub AllPairs-append : {X : Type 0} (R : X → X → Type 0) (xs ys : List X) → AllPairs R xs → AllPairs R ys → All (λ x. All (λ y. R x y) ys) xs
    → AllPairs R (xs ++ ys)
AllPairs-append R xs ys first second across i j d before within =
    grind (arith, common_steps, cases_lt, get_or_append_left, length-append, get_or-append_right)

-- one element at most has no pair
pub AllPairs-few : {X : Type 0} (R : X → X → Type 0) (xs : List X) → length xs ≤ 1 → AllPairs R xs
AllPairs-few R xs few i j d before within = absurd (omega arith)

-- two parts of a list in order are in order, and each element of the first stands before each of the second
pub record AreOrderedParts {X : Type 0} (R : X → X → Type 0) (xs ys : List X) : Type 0 where
  pub first : AllPairs R xs
  pub second : AllPairs R ys
  pub across : All (λ x. All (λ y. R x y) ys) xs

pub ordered_parts : {X : Type 0} (R : X → X → Type 0) (xs ys : List X) → AllPairs R (xs ++ ys) → AreOrderedParts R xs ys
ordered_parts {X} R xs ys pairs =
    let sum = length-append xs ys in
    record {
      first = λ i j d before within.
          rw (← get_or_append_left xs ys d i (omega arith), ← get_or_append_left xs ys d j within) (pairs i j d before (omega arith));
      second = λ i j d before within.
          rw (← get_or-append-add xs ys i d, ← get_or-append-add xs ys j d) (pairs (length xs + i) (length xs + j) d (omega arith) (omega arith));
      across = λ i d i_within j e j_within.
          let pair = pairs i (length xs + j) d (omega arith) (omega arith) in
          rw (get_or_default ys j e d j_within, ← get_or_append_left xs ys d i i_within, ← get_or-append-add xs ys j d) pair;
    }

-- what holds of the elements within some places, of the parts of the list there
pub All-take_within : {X : Type 0} (P : X → Type 0) (xs : List X) (n : ℕ) → n ≤ length xs → AllWithin P xs 0 n → All P (take n xs)
All-take_within P xs n there all k d within = grind (arith, common_steps, length-take-le, get_or-take)

pub All-drop_within : {X : Type 0} (P : X → Type 0) (xs : List X) (n : ℕ) → AllWithin P xs n (length xs) → All P (drop n xs)
All-drop_within P xs n all k d within = grind (arith, common_steps, length-drop, get_or-drop)

pub All-between_within : {X : Type 0} (P : X → Type 0) (xs : List X) (i j : ℕ) → j ≤ length xs → AllWithin P xs i j → All P (between i j xs)
All-between_within P xs i j there all k d within = grind (arith, common_steps, length-between, get_or-between)

-- a list that is written back as a slice of its length
written : {X : Type 0} (n : ℕ) (old new : List X) → n ≡ length new → refill n old new ≡ new
written n old new is = take_at new (drop (length new) old) n (sym is)

-- the read of an element behind a place
pub rest_at : {X : Type 0} (xs rest : List X) (place i : ℕ) (d : X) → rest ≡ drop place xs → get_or rest i d ≡ get_or xs (place + i) d
rest_at xs rest place i d is = ap (λ l. get_or l i d) is ∙ get_or-drop place xs i d

-- the first of the new elements written over as many of the old ones, the rest of the replaced cut out, and the rest of the new put in
pub spliced : {X : Type 0} (old over added laid cut : List X) (start end behind : ℕ) → behind ≡ start + length over → behind ≤ end → end ≤ length old
    → laid ≡ refill (length old) old (put_mid start (behind - start) old over) → cut ≡ take behind laid ++ drop end laid
    → take behind cut ++ (added ++ drop behind cut) ≡ take start old ++ (over ++ added ++ drop end old)
spliced old over added laid cut start end behind behind_is ordered within laid_is cut_is =
    let before = length-take-le start old (omega arith) in
    let front = length-append (take start old) over in
    let put : put_mid start (behind - start) old over ≡ take start old ++ (over ++ drop behind old) =
    put_mid-paste start (behind - start) old over over (length over) refl (omega arith) refl
    ∙ paste_all old start over (length over) refl
    ∙ ap (λ n. take start old ++ (over ++ drop n old)) {x = start + length over} (sym behind_is) in
    let put_length = ap length put ∙ length-append (take start old) (over ++ drop behind old) in
    let over_length = length-append over (drop behind old) in
    let rest_length = length-drop behind old in
    let laid_now : laid ≡ take start old ++ over ++ drop behind old =
    laid_is ∙ written (length old) old (put_mid start (behind - start) old over) (omega arith) ∙ put ∙ sym (append_assoc (take start old) over (drop behind old)) in
    let first : take behind laid ≡ take start old ++ over =
    ap (λ l. take behind l) laid_now ∙ take_at (take start old ++ over) (drop behind old) behind (omega arith) in
    let last : drop end laid ≡ drop end old =
    ap (λ l. drop end l) laid_now
    ∙ ap (λ n. drop n (take start old ++ over ++ drop behind old)) {x = end} (omega arith)
    ∙ drop-append-add (take start old ++ over) (drop behind old) (end - behind)
    ∙ drop-drop (end - behind) behind old
    ∙ ap (λ n. drop n old) {y = end} (omega arith) in
    let cut_now : cut ≡ take start old ++ over ++ drop end old = rw (← first, ← last) cut_is in
    rw (
      cut_now,
      take_at (take start old ++ over) (drop end old) behind (omega arith),
      drop_at (take start old ++ over) (drop end old) behind (omega arith),
      append_assoc (take start old) over (added ++ drop end old),
      append_assoc over added (drop end old),
    ) refl
