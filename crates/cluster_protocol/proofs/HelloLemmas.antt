-- The HELLOs of a round, by node.
use Rattle.cluster_protocol.proofs.Common.{◌≡◌, ◌⊎◌, ◌∙◌, ◌+◌, ◌*◌, ◌<◌, ◌≤◌, ◌++◌, ◌∷◌, [], ℕ, zero, suc, Bool, true, false, List, Option, None, Some, length, get_or, arith, ap, inl, inr, refl, sym, subst, if◌then◌else◌, option_to_list, get_or-append, length-append, Hello, View, Cluster, weight, Copy, hello_in, NoProcess, Speaks, Word}
use Rattle.std.proofs.Common.{◌-◌, All}
use Rattle.std.specs.Prelude.{Any}
use Rattle.std.proofs.lemmas.List.{get_or-append-add}
use Rattle.std.proofs.lemmas.List.Sums.{sum_by-append}
use Rattle.cluster_view.specs.Votes.{IsMajority, votes_of}
use Rattle.cluster_protocol.specs.Worlds.{hello_of, hellos_below}

-- there is a HELLO, and it passes
abbrev pub passes : (Hello → Bool) → Option Hello → Bool
passes test None = false
passes test (Some hello) = test hello

pub its_expected : (cluster : Cluster) (node : ℕ) (known : View) (state : Option Copy)
    → (hello_of cluster node known state).electorate.expected ≡ cluster.expected
its_expected cluster node known None = refl
its_expected cluster node known (Some copy) = refl

-- the votes of those that pass are the weight of their nodes

votes_one : (cluster : Cluster) (test : Hello → Bool) (node : ℕ) (word : Option Word)
    → votes_of test (option_to_list (hello_in cluster node word)) ≡ (if passes test (hello_in cluster node word) then cluster.votes node else 0)
votes_one cluster test node None = refl
votes_one cluster test node (Some NoProcess) = refl
votes_one cluster test node (Some (Speaks known None)) = omega arith
votes_one cluster test node (Some (Speaks known (Some copy))) = omega arith

pub votes_below : (cluster : Cluster) (test : Hello → Bool) (said : ℕ → Option Word) (n : ℕ)
    → votes_of test (hellos_below cluster said n) ≡ weight cluster.votes (λ node. passes test (hello_in cluster node (said node))) n
votes_below cluster test said zero = refl
votes_below cluster test said (suc n) =
    sum_by-append (λ (hello : Hello). if test hello then hello.votes else 0) (hellos_below cluster said n) (option_to_list (hello_in cluster n (said n)))
    ∙ ap (λ (votes : ℕ). votes + votes_of test (option_to_list (hello_in cluster n (said n)))) (votes_below cluster test said n)
    ∙ ap (λ (votes : ℕ). weight cluster.votes (λ node. passes test (hello_in cluster node (said node))) n + votes) (votes_one cluster test n (said n))

-- elements of a list in two parts

pub le_or_lt : (k n : ℕ) → (k < n) ⊎ (n ≤ k)
le_or_lt k n = grind arith

split_at : {X : Type 0} (P : X → Type 0) (xs ys : List X) (some : Any P (xs ++ ys)) → (some.0 < length xs) ⊎ (length xs ≤ some.0)
    → Any P xs ⊎ Any P ys
split_at P xs ys some (inl lt) = inl (some.0, some.1, lt, sym (get_or-append xs ys some.1 some.0 lt) ∙ some.3, some.4)
split_at P xs ys some (inr le) =
    let place : some.0 ≡ length xs + (some.0 - length xs) = omega arith in
    inr (
      some.0 - length xs,
      some.1,
      omega (arith, length-append xs ys, some.2),
      sym (get_or-append-add xs ys (some.0 - length xs) some.1) ∙ ap (λ (k : ℕ). get_or (xs ++ ys) k some.1) (sym place) ∙ some.3,
      some.4,
    )

pub any_split : {X : Type 0} (P : X → Type 0) (xs ys : List X) → Any P (xs ++ ys) → Any P xs ⊎ Any P ys
any_split P xs ys some = split_at P xs ys some (le_or_lt some.0 (length xs))

all_front : {X : Type 0} (P : X → Type 0) (xs ys : List X) → All P (xs ++ ys) → All P xs
all_front P xs ys all k d lt = subst P (get_or-append xs ys d k lt) (all k d (omega (arith, length-append xs ys)))

all_back : {X : Type 0} (P : X → Type 0) (xs ys : List X) → All P (xs ++ ys) → All P ys
all_back P xs ys all k d lt = subst P (get_or-append-add xs ys k d) (all (length xs + k) d (omega (arith, length-append xs ys)))

-- a node spoke, and its HELLO is of this kind
pub record Spoke (cluster : Cluster) (said : ℕ → Option Word) (P : Hello → Type 0) (node : ℕ) : Type 0 where
  pub known : View
  pub state : Option Copy
  pub is : said node ≡ Some (Speaks known state)
  pub holds : P (hello_of cluster node known state)

any_one : (cluster : Cluster) (P : Hello → Type 0) (said : ℕ → Option Word) (node : ℕ) (word : Option Word) → said node ≡ word
    → Any P (option_to_list (hello_in cluster node word)) → Spoke cluster said P node
any_one cluster P said node None is some = absurd (omega (arith, some.2))
any_one cluster P said node (Some NoProcess) is some = absurd (omega (arith, some.2))
any_one cluster P said node (Some (Speaks known state)) is some = only some.0 some.2 some.3
  where
    only : (k : ℕ) → k < 1 → get_or (hello_of cluster node known state ∷ []) k some.1 ≡ some.1 → Spoke cluster said P node
    only zero lt at = record { known = known; state = state; is = is; holds = subst P (sym at) some.4 }
    only (suc k) lt at = absurd (omega arith)

-- some node spoke such a HELLO
pub any_below : (cluster : Cluster) (P : Hello → Type 0) (said : ℕ → Option Word) (n : ℕ) → Any P (hellos_below cluster said n)
    → (node : ℕ) × (node < n) × Spoke cluster said P node
any_below cluster P said zero some = absurd (omega (arith, some.2))
any_below cluster P said (suc n) some =
    elim (any_split P (hellos_below cluster said n) (option_to_list (hello_in cluster n (said n))) some) [
      | inl front ↦ (let one = any_below cluster P said n front in (one.0, omega (arith, one.1), one.2))
      | inr back ↦ (n, omega arith, any_one cluster P said n (said n) refl back)
    ]

all_one : (cluster : Cluster) (P : Hello → Type 0) (node : ℕ) (word : Option Word) (known : View) (state : Option Copy) → word ≡ Some (Speaks known state)
    → All P (option_to_list (hello_in cluster node word)) → P (hello_of cluster node known state)
all_one cluster P node word known state is all =
    subst (λ (said : Option Word). All P (option_to_list (hello_in cluster node said))) is all 0 (hello_of cluster node known state) (omega arith)

-- all that spoke spoke such a HELLO
pub all_below : (cluster : Cluster) (P : Hello → Type 0) (said : ℕ → Option Word) (n node : ℕ) (known : View) (state : Option Copy) → node < n
    → said node ≡ Some (Speaks known state) → All P (hellos_below cluster said n) → P (hello_of cluster node known state)
all_below cluster P said zero node known state lt is all = absurd (omega arith)
all_below cluster P said (suc n) node known state lt is all =
    elim (le_or_lt node n) [
      | inl less ↦ all_below cluster P said n node known state less is (all_front P (hellos_below cluster said n) (option_to_list (hello_in cluster n (said n))) all)
      | inr le ↦ (
          let same : n ≡ node = omega arith in
          let here : said n ≡ Some (Speaks known state) = ap said same ∙ is in
          subst (λ (at : ℕ). P (hello_of cluster at known state)) same
          (all_one cluster P n (said n) known state here (all_back P (hellos_below cluster said n) (option_to_list (hello_in cluster n (said n))) all)))
    ]

-- a node that passes spoke
pub passed : (cluster : Cluster) (test : Hello → Bool) (said : ℕ → Option Word) (node : ℕ) (word : Option Word) → said node ≡ word
    → passes test (hello_in cluster node word) ≡ true → Spoke cluster said (λ hello. test hello ≡ true) node
passed cluster test said node None is test_is = cc
passed cluster test said node (Some NoProcess) is test_is = cc
passed cluster test said node (Some (Speaks known state)) is test_is = record { known = known; state = state; is = is; holds = test_is }

-- a majority of the HELLOs is one of the nodes
pub majority_below : (cluster : Cluster) (test : Hello → Bool) (said : ℕ → Option Word) (n : ℕ)
    → IsMajority (hellos_below cluster said n) (votes_of test (hellos_below cluster said n))
    → cluster.expected < 2 * weight cluster.votes (λ node. passes test (hello_in cluster node (said node))) n
majority_below cluster test said n most =
    let one = any_below cluster (λ (hello : Hello). hello.electorate.expected < 2 * votes_of test (hellos_below cluster said n)) said n most in
    subst (λ (votes : ℕ). cluster.expected < 2 * votes) (votes_below cluster test said n)
    (subst (λ (expected : ℕ). expected < 2 * votes_of test (hellos_below cluster said n)) (its_expected cluster one.0 one.2.known one.2.state) one.2.holds)
