-- What is kept of a node that has been given an item, or that has lost one.
use Rattle.std.proofs.Common.{append_assoc, ◌≡◌, ℕ, ◌+◌, ◌-◌, ◌<◌, ◌≤◌, ◌^◌, Bool, true, false, cond, Option, None, Some, IfSome, List, [], ◌∷◌, ◌++◌, length, refl, sym, ap, ◌∙◌, subst, arith}
use Rattle.std.specs.List.{find}
use Rattle.std.proofs.lemmas.List.{length-append}
use Rattle.summary_tree.specs.declared.subtree.Node.{Node}
use Rattle.summary_tree.specs.Balance.{IsBalanced}
use Rattle.summary_tree.specs.Contents.{Parts}
use Rattle.summary_tree.specs.Cuts.{put_before, with_first, without_first}
use Rattle.summary_tree.specs.Nodes.{excess_of, items_of, nodes_of, IsKeptNode, KeepsItem, LacksItem, SwapsItem}

-- the length of three parts
pub three_long : {X : Type 0} (l b r : List X) → length (l ++ (b ++ r)) ≡ length l + length b + length r
three_long l b r = omega (arith, length-append l (b ++ r), length-append b r)

-- where there is something, what holds of it
pub if_some : {X : Type 0} (P : X → Type 0) (o : Option X) → ((x : X) → o ≡ Some x → P x) → IfSome o P
if_some P None h = tt
if_some P (Some x) h = h x refl

-- two lists that differ in what stands at one place
pub record Differ {X : Type 0} (one other xs ys : List X) : Type 0 where
  pub front : List X
  pub back : List X
  pub there : xs ≡ front ++ (one ++ back)
  pub gone : ys ≡ front ++ (other ++ back)

-- a list with an item, and without it
abbrev pub Around : {X : Type 0} → X → List X → List X → Type 0
Around x all others = Differ (x ∷ []) [] all others

around_at : {X : Type 0} (p : X → Bool) (x y : X) (ys : List X) (b : Bool) → Around x (put_before p x ys) ys → Around x (cond b (x ∷ y ∷ ys) (y ∷ put_before p x ys)) (y ∷ ys)
around_at p x y ys true h = record { front = []; back = y ∷ ys; there = refl; gone = refl }
around_at p x y ys false h = record { front = y ∷ h.front; back = h.back; there = ap (λ zs. y ∷ zs) h.there; gone = ap (λ zs. y ∷ zs) h.gone }

-- where an item was put
pub around : {X : Type 0} (p : X → Bool) (x : X) (ys : List X) → Around x (put_before p x ys) ys
around p x [] = record { front = []; back = []; there = refl; gone = refl }
around p x (y ∷ ys) = around_at p x y ys (p y) (around p x ys)

taken_at : {X : Type 0} (p : X → Bool) (y x : X) (ys : List X) (b : Bool) → cond b (Some y) (find p ys) ≡ Some x → (find p ys ≡ Some x → Around x ys (without_first p ys)) → Around x (y ∷ ys) (cond b ys (y ∷ without_first p ys))
taken_at p y x ys true h f = record { front = []; back = ys; there = (let e : Some y ≡ Some x = h in cc); gone = refl }
taken_at p y x ys false h f = let a = f h in record { front = y ∷ a.front; back = a.back; there = ap (λ zs. y ∷ zs) a.there; gone = ap (λ zs. y ∷ zs) a.gone }

-- from where the first that passes was taken
pub around_taken : {X : Type 0} (p : X → Bool) (x : X) (ys : List X) → find p ys ≡ Some x → Around x ys (without_first p ys)
around_taken p x [] h = absurd (cc)
around_taken p x (y ∷ ys) h = taken_at p y x ys (p y) h (around_taken p x ys)

replaced_at : {X : Type 0} (p : X → Bool) (x y z : X) (ys : List X) (b : Bool) → cond b (Some y) (find p ys) ≡ Some z → (find p ys ≡ Some z → Differ (z ∷ []) (x ∷ []) ys (with_first p x ys))
    → Differ (z ∷ []) (x ∷ []) (y ∷ ys) (cond b (x ∷ ys) (y ∷ with_first p x ys))
replaced_at p x y z ys true h f = record { front = []; back = ys; there = (let e : Some y ≡ Some z = h in cc); gone = refl }
replaced_at p x y z ys false h f = let a = f h in record { front = y ∷ a.front; back = a.back; there = ap (λ zs. y ∷ zs) a.there; gone = ap (λ zs. y ∷ zs) a.gone }

-- from where the first that passes went for another one
pub replaced : {X : Type 0} (p : X → Bool) (x z : X) (ys : List X) → find p ys ≡ Some z → Differ (z ∷ []) (x ∷ []) ys (with_first p x ys)
replaced p x z [] h = absurd (cc)
replaced p x z (y ∷ ys) h = replaced_at p x y z ys (p y) h (replaced p x z ys)

-- behind other items
pub differ_behind : {X : Type 0} {one other : List X} (l xs ys : List X) → Differ one other xs ys → Differ one other (l ++ xs) (l ++ ys)
differ_behind {one = one} {other = other} l xs ys h =
    let there : l ++ (h.front ++ (one ++ h.back)) ≡ (l ++ h.front) ++ (one ++ h.back) = simp append_assoc in
    let gone : l ++ (h.front ++ (other ++ h.back)) ≡ (l ++ h.front) ++ (other ++ h.back) = simp append_assoc in
    record { front = l ++ h.front; back = h.back; there = ap (λ zs. l ++ zs) h.there ∙ there; gone = ap (λ zs. l ++ zs) h.gone ∙ gone }

-- and before other items
pub differ_before : {X : Type 0} {one other : List X} (xs ys r : List X) → Differ one other xs ys → Differ one other (xs ++ r) (ys ++ r)
differ_before {one = one} {other = other} xs ys r h =
    let there : (h.front ++ (one ++ h.back)) ++ r ≡ h.front ++ (one ++ (h.back ++ r)) = simp append_assoc in
    let gone : (h.front ++ (other ++ h.back)) ++ r ≡ h.front ++ (other ++ (h.back ++ r)) = simp append_assoc in
    record { front = h.front; back = h.back ++ r; there = ap (λ zs. zs ++ r) h.there ∙ there; gone = ap (λ zs. zs ++ r) h.gone ∙ gone }

-- the node with another left side
abbrev pub with_side : {T S : Type 0} → Node T S → Parts T → Node T S
with_side node left = record { left = left; right = node.right; summary = node.summary; count = node.count; nodes = node.nodes; excess = node.excess; block = node.block }

-- what is kept of the one node is that of the other
pub record SameTotals {T S : Type 0} (old new : Node T S) : Type 0 where
  pub summary : new.summary ≡ old.summary
  pub count : new.count ≡ old.count
  pub nodes : new.nodes ≡ old.nodes
  pub excess : new.excess ≡ old.excess

-- where the item went into no new node
pub lacks_item : {T S : Type 0} {tells : S → List T → Type 0} (x : T) (old new : Node T S) (was is : ℕ) → IsKeptNode tells old → SameTotals old new
    → Around x (items_of new) (items_of old) → nodes_of new ≡ nodes_of old → excess_of new + was ≡ excess_of old + is → was ≤ excess_of old → is ≤ was + 1
    → length (items_of old) + 1 < 2 ^ 64 → LacksItem tells new x was is
lacks_item {T} {S} {tells} x old new was is kept same a nodes excess part slight fits =
    record {
      front = a.front;
      back = a.back;
      items = a.there;
      summary = subst (λ (s : S). tells s (a.front ++ a.back)) (sym same.summary) (subst (tells old.summary) a.gone kept.summary);
      count = same.count ∙ (kept.count ∙ ap length a.gone);
      nodes = same.nodes ∙ (kept.nodes ∙ sym nodes);
      few = omega (arith, same.nodes, same.count, kept.few);
      excess = omega (arith, same.excess, kept.excess, excess);
      part = omega (arith, same.excess, kept.excess, part);
      slight = omega (arith, same.count, kept.excess, kept.slight, excess, slight, part);
      fits = omega (arith, same.count, kept.count, fits);
    }

-- where the item went, and no node
pub keeps_item : {T S : Type 0} {tells : S → List T → Type 0} (x : T) (old new : Node T S) (was is : ℕ) → IsKeptNode tells old → SameTotals old new
    → Around x (items_of old) (items_of new) → nodes_of new ≡ nodes_of old → excess_of new + was ≡ excess_of old + is → was ≤ excess_of old → KeepsItem tells new x was is
keeps_item {T} {S} {tells} x old new was is kept same a nodes excess part =
    record {
      front = a.front;
      back = a.back;
      items = a.gone;
      summary = subst (λ (s : S). tells s (a.front ++ x ∷ a.back)) (sym same.summary) (subst (tells old.summary) a.there kept.summary);
      count = same.count ∙ (kept.count ∙ ap length a.there);
      nodes = same.nodes ∙ (kept.nodes ∙ sym nodes);
      excess = omega (arith, same.excess, kept.excess, excess);
      part = omega (arith, same.excess, kept.excess, part);
      fits = omega (arith, same.count, kept.fits);
    }

-- where another item went into its place
pub swaps_item : {T S : Type 0} {tells : S → List T → Type 0} (x y : T) (old new : Node T S) → IsKeptNode tells old → SameTotals old new
    → Differ (y ∷ []) (x ∷ []) (items_of old) (items_of new) → nodes_of new ≡ nodes_of old → excess_of new ≡ excess_of old → SwapsItem tells new y x
swaps_item {T} {S} {tells} x y old new kept same a nodes excess =
    record {
      front = a.front;
      back = a.back;
      items = a.gone;
      summary = subst (λ (s : S). tells s (a.front ++ y ∷ a.back)) (sym same.summary) (subst (tells old.summary) a.there kept.summary);
      count = same.count ∙ (kept.count ∙ ap length a.there);
      nodes = same.nodes ∙ (kept.nodes ∙ sym nodes);
      few = omega (arith, same.nodes, same.count, kept.few);
      excess = same.excess ∙ (kept.excess ∙ sym excess);
      slight = omega (arith, same.excess, same.count, kept.slight);
      fits = omega (arith, same.count, kept.fits);
    }

longer : {X : Type 0} (front back : List X) (x : X) → length (front ++ x ∷ back) ≡ length (front ++ back) + 1
longer front back x = omega (arith, length-append front (x ∷ back), length-append front back)

-- so many items there are without it
pub fewer : {T S : Type 0} {tells : S → List T → Type 0} (x : T) (node : Node T S) (was is : ℕ) → KeepsItem tells node x was is → node.count ≡ length (items_of node) + 1
fewer x node was is k = omega (arith, k.count, longer k.front k.back x, ap length k.items)

-- and the excess is then no greater than their number
pub slight_without : {T S : Type 0} {tells : S → List T → Type 0} (x : T) (node : Node T S) (was is : ℕ) → KeepsItem tells node x was is → node.left.excess ≤ length node.left.items
    → node.right.excess ≤ length node.right.items → node.excess - was + is + 1 ≤ node.count
slight_without x node was is k left right =
    omega (arith, k.excess, k.part, fewer x node was is k, three_long node.left.items node.block node.right.items, left, right)

-- the node is kept once its totals are those without the item
pub kept_without : {T S : Type 0} {tells : S → List T → Type 0} (x : T) (node : Node T S) (summary : S) (was is : ℕ) (k : KeepsItem tells node x was is) → tells summary (k.front ++ k.back)
    → (node.left.nodes ≤ length node.left.items) × (node.left.excess ≤ length node.left.items) → (node.right.nodes ≤ length node.right.items) × (node.right.excess ≤ length node.right.items)
    → 0 < length node.block → IsBalanced node.left.nodes node.right.nodes
    → IsKeptNode tells (record { left = node.left; right = node.right; summary = summary; count = node.count - 1; nodes = node.nodes; excess = node.excess - was + is; block = node.block })
kept_without {tells = tells} x node summary was is k told left right filled balance =
    let one = fewer x node was is k in
    let long = three_long node.left.items node.block node.right.items in
    let excess : node.excess - was + is ≡ excess_of node = omega (arith, k.excess, k.part) in
    record {
      count = omega (arith, one);
      nodes = k.nodes;
      few = omega (arith, one, long, k.nodes, left.0, right.0, filled);
      excess = excess;
      slight = omega (arith, slight_without x node was is k left.1 right.1);
      fits = omega (arith, k.fits);
      filled = filled;
      summary = subst (tells summary) (sym k.items) told;
      balance = balance;
    }
