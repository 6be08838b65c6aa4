-- Lists of the same waits, and those of the waits that are on a file.
use Rattle.grants_alike.proofs.Common.{◌≡◌, ℕ, ◌==◌, Bool, true, false, Some, List, [], ◌∷◌, ◌++◌, All, refl, sym, ap, ◌∙◌, if◌then◌else◌, All-nil, All-cons, Wait, Pending, Numbers, SameWait, AreSameWaits, waits_on_file}
use Rattle.std.proofs.Common.{arith, zero, suc, Contains, slice_get, ⊎_elim}
use Rattle.std.proofs.lemmas.List.Elements.{All-head, All-tail, filter-append, Contains-append_left, Contains-append_right, Contains-append_cases}
use Rattle.wait_core.specs.Blocking.{AreBlocked}
use Rattle.grants_alike.specs.Alike.{IsAtOnePlace, AreAtOnePlace}

-- ---- those on a file

-- whether the wait is on the file
abbrev pub is_on_file : ℕ → Wait → Bool
is_on_file file wait = wait.file == file

pub on_file_between : (file : ℕ) (before : List Wait) (wait : Wait) (after : List Wait) → is_on_file file wait ≡ true
    → waits_on_file file (before ++ wait ∷ after) ≡ waits_on_file file before ++ wait ∷ waits_on_file file after
on_file_between file before wait after is =
    filter-append (is_on_file file) before (wait ∷ after)
    ∙ ap (λ (b : Bool). waits_on_file file before ++ (if b then wait ∷ waits_on_file file after else waits_on_file file after)) is

pub on_file_without : (file : ℕ) (before after : List Wait)
    → waits_on_file file (before ++ after) ≡ waits_on_file file before ++ waits_on_file file after
on_file_without file before after = filter-append (is_on_file file) before after

pub on_file_elsewhere : (file : ℕ) (before : List Wait) (wait : Wait) (after : List Wait) → is_on_file file wait ≡ false
    → waits_on_file file (before ++ wait ∷ after) ≡ waits_on_file file (before ++ after)
on_file_elsewhere file before wait after is =
    filter-append (is_on_file file) before (wait ∷ after)
    ∙ ap (λ (b : Bool). waits_on_file file before ++ (if b then wait ∷ waits_on_file file after else waits_on_file file after)) is
    ∙ sym (on_file_without file before after)

-- all where all are on it
pub on_file_all : (file : ℕ) (waits : List Wait) → All (λ wait. is_on_file file wait ≡ true) waits → waits_on_file file waits ≡ waits
on_file_all file [] all = refl
on_file_all file (wait ∷ waits) all =
    ap (λ (b : Bool). if b then wait ∷ waits_on_file file waits else waits_on_file file waits)
    (All-head (λ (w : Wait). is_on_file file w ≡ true) wait waits all)
    ∙ ap (λ (rest : List Wait). wait ∷ rest) (on_file_all file waits (All-tail (λ (w : Wait). is_on_file file w ≡ true) wait waits all))

-- the wait before those that were granted
pub on_file_first : (file : ℕ) (wait : Wait) (given : List Wait) (b : Bool) → is_on_file file wait ≡ b
    → waits_on_file file (wait ∷ given) ≡ (if b then wait ∷ waits_on_file file given else waits_on_file file given)
on_file_first file wait given b is = ap (λ (c : Bool). if c then wait ∷ waits_on_file file given else waits_on_file file given) is

-- ---- all of them

-- waits that are blocked whatever came before them are so each, and the other way round
pub each_blocked : {W : Type 0} (P : W → Type 0) (earlier waits : List W) → AreBlocked (λ before wait. P wait) earlier waits → All P waits
each_blocked P earlier [] h = All-nil P
each_blocked P earlier (wait ∷ waits) h = All-cons P wait waits h.0 (each_blocked P (earlier ++ wait ∷ []) waits h.1)

pub are_blocked : {W : Type 0} (P : W → Type 0) (earlier waits : List W) → All P waits → AreBlocked (λ before wait. P wait) earlier waits
are_blocked P earlier [] h = tt
are_blocked P earlier (wait ∷ waits) h = (All-head P wait waits h, are_blocked P (earlier ++ wait ∷ []) waits (All-tail P wait waits h))

-- the one between the others
pub the_one_between : {W : Type 0} (P : W → Type 0) (before : List W) (wait : W) (after : List W) → All P (before ++ wait ∷ after) → P wait
the_one_between P [] wait after h = All-head P wait after h
the_one_between P (x ∷ before) wait after h = the_one_between P before wait after (All-tail P x (before ++ wait ∷ after) h)

-- and the others, before it, after it, and together
pub others_between : {W : Type 0} (P : W → Type 0) (before : List W) (wait : W) (after : List W) → All P (before ++ wait ∷ after)
    → All P before × All P after × All P (before ++ after)
others_between P [] wait after h = (All-nil P, All-tail P wait after h, All-tail P wait after h)
others_between P (x ∷ before) wait after h =
    let rest = others_between P before wait after (All-tail P x (before ++ wait ∷ after) h) in
    let first = All-head P x (before ++ wait ∷ after) h in
    (All-cons P x before first rest.0, rest.1, All-cons P x (before ++ after) first rest.2)

-- what is among the others is among all
pub among_all : {W : Type 0} (before : List W) (wait : W) (after : List W) (other : W) → Contains (before ++ after) other
    → Contains (before ++ wait ∷ after) other
among_all before wait after other h =
    ⊎_elim (λ left. Contains-append_left before (wait ∷ after) other left)
    (λ right. Contains-append_right before (wait ∷ after) other (Contains-append_right (wait ∷ []) after other right))
    (Contains-append_cases before after other h)

pub itself_among : {W : Type 0} (before : List W) (wait : W) (after : List W) → Contains (before ++ wait ∷ after) wait
itself_among before wait after = Contains-append_right before (wait ∷ after) wait (0, omega arith, refl)

-- ---- the same waits

-- the same waits in three parts
pub record SameSplit (numbers : Numbers) (before : List Wait) (wait : Wait) (after : List Wait) (before' : List Pending) (pending : Pending)
    (after' : List Pending) : Type 0 where
  pub before_same : AreSameWaits numbers before before'
  pub wait_same : SameWait numbers wait pending
  pub after_same : AreSameWaits numbers after after'

-- such parts of this list
pub record HasSplit (numbers : Numbers) (before : List Wait) (wait : Wait) (after : List Wait) (pendings : List Pending) : Type 0 where
  pub before' : List Pending
  pub pending : Pending
  pub after' : List Pending
  pub place : pendings ≡ before' ++ pending ∷ after'
  pub split : SameSplit numbers before wait after before' pending after'

pub split_there : (numbers : Numbers) (before : List Wait) (wait : Wait) (after : List Wait) (pendings : List Pending)
    → AreSameWaits numbers (before ++ wait ∷ after) pendings → HasSplit numbers before wait after pendings
split_there numbers [] wait after [] same = absurd same
split_there numbers [] wait after (pending ∷ pendings) same =
    record {
      before' = [];
      pending = pending;
      after' = pendings;
      place = refl;
      split = record { before_same = tt; wait_same = same.0; after_same = same.1 };
    }
split_there numbers (v ∷ before) wait after [] same = absurd same
split_there numbers (v ∷ before) wait after (pending ∷ pendings) same =
    let rest = split_there numbers before wait after pendings same.1 in
    record {
      before' = pending ∷ rest.before';
      pending = rest.pending;
      after' = rest.after';
      place = ap (λ (list : List Pending). pending ∷ list) rest.place;
      split = record { before_same = (same.0, rest.split.before_same); wait_same = rest.split.wait_same; after_same = rest.split.after_same };
    }

-- and the other way round
pub record HasSplitHere (numbers : Numbers) (before' : List Pending) (pending : Pending) (after' : List Pending) (waits : List Wait) : Type 0 where
  pub before : List Wait
  pub wait : Wait
  pub after : List Wait
  pub place : waits ≡ before ++ wait ∷ after
  pub split : SameSplit numbers before wait after before' pending after'

pub split_here : (numbers : Numbers) (before' : List Pending) (pending : Pending) (after' : List Pending) (waits : List Wait)
    → AreSameWaits numbers waits (before' ++ pending ∷ after') → HasSplitHere numbers before' pending after' waits
split_here numbers [] pending after' [] same = absurd same
split_here numbers [] pending after' (wait ∷ waits) same =
    record { before = []; wait = wait; after = waits; place = refl; split = record { before_same = tt; wait_same = same.0; after_same = same.1 } }
split_here numbers (q ∷ before') pending after' [] same = absurd same
split_here numbers (q ∷ before') pending after' (wait ∷ waits) same =
    let rest = split_here numbers before' pending after' waits same.1 in
    record {
      before = wait ∷ rest.before;
      wait = rest.wait;
      after = rest.after;
      place = ap (λ (list : List Wait). wait ∷ list) rest.place;
      split = record { before_same = (same.0, rest.split.before_same); wait_same = rest.split.wait_same; after_same = rest.split.after_same };
    }

-- one list after another
pub waits_appended : (numbers : Numbers) (vs ws : List Wait) (ps qs : List Pending) → AreSameWaits numbers vs ps → AreSameWaits numbers ws qs
    → AreSameWaits numbers (vs ++ ws) (ps ++ qs)
waits_appended numbers [] ws [] qs same more = more
waits_appended numbers [] ws (p ∷ ps) qs same more = absurd same
waits_appended numbers (v ∷ vs) ws [] qs same more = absurd same
waits_appended numbers (v ∷ vs) ws (p ∷ ps) qs same more = (same.0, waits_appended numbers vs ws ps qs same.1 more)

-- ---- places

-- the two between the others are at one place
pub one_place : (numbers : Numbers) (before : List Wait) (wait : Wait) (after : List Wait) (before' : List Pending) (pending : Pending) (after' : List Pending)
    → AreSameWaits numbers before before' → IsAtOnePlace (before ++ wait ∷ after) (before' ++ pending ∷ after') wait pending
one_place numbers [] wait after [] pending after' same = record { place = 0; here = refl; there = refl }
one_place numbers [] wait after (p ∷ before') pending after' same = absurd same
one_place numbers (v ∷ before) wait after [] pending after' same = absurd same
one_place numbers (v ∷ before) wait after (p ∷ before') pending after' same =
    let rest = one_place numbers before wait after before' pending after' same.1 in record { place = suc rest.place; here = rest.here; there = rest.there }

-- two others that are at one place are so beside them
one_place_still : (numbers : Numbers) (before : List Wait) (wait : Wait) (after : List Wait) (before' : List Pending) (pending : Pending)
    (after' : List Pending) (w : Wait) (q : Pending) (place : ℕ) → AreSameWaits numbers before before' → slice_get (before ++ after) place ≡ Some w
    → slice_get (before' ++ after') place ≡ Some q → IsAtOnePlace (before ++ wait ∷ after) (before' ++ pending ∷ after') w q
one_place_still numbers [] wait after [] pending after' w q place same here there = record { place = suc place; here = here; there = there }
one_place_still numbers [] wait after (p ∷ before') pending after' w q place same here there = absurd same
one_place_still numbers (v ∷ before) wait after [] pending after' w q place same here there = absurd same
one_place_still numbers (v ∷ before) wait after (p ∷ before') pending after' w q zero same here there = record { place = 0; here = here; there = there }
one_place_still numbers (v ∷ before) wait after (p ∷ before') pending after' w q (suc place) same here there =
    let rest = one_place_still numbers before wait after before' pending after' w q place same.1 here there in
    record { place = suc rest.place; here = rest.here; there = rest.there }

pub places_still : (numbers : Numbers) (before : List Wait) (wait : Wait) (after : List Wait) (before' : List Pending) (pending : Pending)
    (after' : List Pending) (given : List Wait) (granted : List Pending) → AreSameWaits numbers before before'
    → AreAtOnePlace (before ++ after) (before' ++ after') given granted
    → AreAtOnePlace (before ++ wait ∷ after) (before' ++ pending ∷ after') given granted
places_still numbers before wait after before' pending after' [] [] same h = tt
places_still numbers before wait after before' pending after' [] (q ∷ granted) same h = absurd h
places_still numbers before wait after before' pending after' (w ∷ given) [] same h = absurd h
places_still numbers before wait after before' pending after' (w ∷ given) (q ∷ granted) same h = (
  one_place_still numbers before wait after before' pending after' w q h.0.place same h.0.here h.0.there,
  places_still numbers before wait after before' pending after' given granted same h.1,
)
