-- One HELLO more, for the loops over HELLOs.
use Rattle.std.proofs.Common.{◌≡◌, ◌∙◌, ℕ, ◌+◌, ◌<◌, ◌≤◌, Bool, true, false, List, [], ◌∷◌, ◌++◌, Option, None, Some, length, get_or, take, refl, sym, subst, inr, IsTrue, All, arith, ap, if◌then◌else◌}
use Rattle.std.specs.Prelude.{◌≢◌, AllPairs, Any}
use Rattle.std.proofs.Math.Seq.{get_or-append_seam}
use Rattle.std.proofs.lemmas.List.{get_or_append_left, get_or_default, get_or-take, length-append, length-take-le, take_more}
use Rattle.std.proofs.lemmas.List.Elements.{All-push}
use Rattle.std.proofs.lemmas.List.Quantifiers.{all_pairs_push, Any-push}
use Rattle.std.proofs.lemmas.Bool.Decides.{nat_tests}
use Rattle.cluster_view.specs.declared.base.Base.{Base}
use Rattle.cluster_view.specs.declared.hello.Hello.{Hello}
use Rattle.cluster_view.specs.declared.view.View.{View}
use Rattle.cluster_view.specs.Bases.{base_at, better_of, IsBase, IsBaseSoFar, IsBehind, IsLatestSoFar, is_better, later_of}
use Rattle.cluster_view.specs.Decisions.{IsNext}
use Rattle.cluster_view.specs.Hellos.{AreOneEach, IsLatest, known_of, SaidHello, Tells, tells}
use Rattle.cluster_view.specs.Views.{IsBefore, IsNextFrom, IsUpTo, is_before}

-- what holds of some element holds of some of a longer list
pub any_longer : {X : Type 0} (P : X → Type 0) (xs : List X) (y : X) → Any P xs → Any P (xs ++ y ∷ [])
any_longer P xs y some = (some.0, some.1, omega (arith, length-append xs (y ∷ [])), get_or_append_left xs (y ∷ []) some.1 some.0 some.2 ∙ some.3, some.4)

-- what holds of each element holds of each of a shorter list, and of the last one

pub all_shorter : {X : Type 0} (P : X → Type 0) (xs : List X) (y : X) → All P (xs ++ y ∷ []) → All P xs
all_shorter P xs y all k d lt = subst P (get_or_append_left xs (y ∷ []) d k lt) (all k d (omega (arith, length-append xs (y ∷ []))))

pub all_last : {X : Type 0} (P : X → Type 0) (xs : List X) (y : X) → All P (xs ++ y ∷ []) → P y
all_last P xs y all = subst P (get_or-append_seam xs y [] y) (all (length xs) y (omega (arith, length-append xs (y ∷ []))))

-- the order of views

pub up_to_itself : (view : View) → IsUpTo view view
up_to_itself view = inr (refl, omega arith)

pub up_to_trans : (a b c : View) → IsUpTo a b → IsUpTo b c → IsUpTo a c
up_to_trans a b c p q = grind arith

pub before_is : (a b : View) → is_before a b ≡ true → IsBefore a b
before_is a b test = grind (arith, nat_tests)

pub before_up_to : (a b : View) → is_before a b ≡ true → IsUpTo a b
before_up_to a b test = let h = before_is a b test in grind arith

pub not_before : (a b : View) → is_before a b ≡ false → IsUpTo b a
not_before a b test = grind (arith, nat_tests)

-- the later view, of those that are told

latest_choice : (xs : List Hello) (hello : Hello) (latest : View) (test : Bool) → is_before hello.state.view latest ≡ test → hello.has_state ≡ true
    → IsLatest xs latest → IsLatest (xs ++ hello ∷ []) (if test then latest else hello.state.view)
latest_choice xs hello latest true is has kept = record {
  told = any_longer (Tells latest) xs hello kept.told;
  latest = All-push (λ (other : Hello). IsTrue other.has_state → IsUpTo other.state.view latest) xs hello kept.latest (λ told. before_up_to hello.state.view latest is);
}
latest_choice xs hello latest false is has kept = record {
  told = Any-push (Tells hello.state.view) xs hello (has, refl);
  latest = All-push (λ (other : Hello). IsTrue other.has_state → IsUpTo other.state.view hello.state.view) xs hello
      (λ k d lt told. up_to_trans _ _ _ (kept.latest k d lt told) (not_before hello.state.view latest is)) (λ told. up_to_itself hello.state.view);
}

latest_push : (xs : List Hello) (hello : Hello) (latest : Option View) → hello.has_state ≡ true → IsLatestSoFar xs latest
    → IsLatest (xs ++ hello ∷ []) (later_of latest hello.state.view)
latest_push xs hello None has none = record {
  told = Any-push (Tells hello.state.view) xs hello (has, refl);
  latest = All-push (λ (other : Hello). IsTrue other.has_state → IsUpTo other.state.view hello.state.view) xs hello
      (λ k d lt told. let off = none k d lt in cc) (λ told. up_to_itself hello.state.view);
}
latest_push xs hello (Some latest) has kept = latest_choice xs hello latest (is_before hello.state.view latest) refl has kept

latest_pass : (xs : List Hello) (hello : Hello) (latest : Option View) → hello.has_state ≡ false → IsLatestSoFar xs latest
    → IsLatestSoFar (xs ++ hello ∷ []) latest
latest_pass xs hello None off none = All-push (λ (other : Hello). other.has_state ≡ false) xs hello none off
latest_pass xs hello (Some latest) off kept = record {
  told = any_longer (Tells latest) xs hello kept.told;
  latest = All-push (λ (other : Hello). IsTrue other.has_state → IsUpTo other.state.view latest) xs hello kept.latest (λ told. cc);
}

-- the latest view, one HELLO further
pub latest_told : (hellos : List Hello) (i : ℕ) (d : Hello) (latest : Option View) → i < length hellos → (get_or hellos i d).has_state ≡ true
    → IsLatestSoFar (take i hellos) latest → IsLatestSoFar (take (i + 1) hellos) (Some (later_of latest (get_or hellos i d).state.view))
latest_told hellos i d latest lt has kept = rw (take_more hellos i d lt) (latest_push (take i hellos) (get_or hellos i d) latest has kept)

pub latest_none : (hellos : List Hello) (i : ℕ) (d : Hello) (latest : Option View) → i < length hellos → (get_or hellos i d).has_state ≡ false
    → IsLatestSoFar (take i hellos) latest → IsLatestSoFar (take (i + 1) hellos) latest
latest_none hellos i d latest lt off kept = rw (take_more hellos i d lt) (latest_pass (take i hellos) (get_or hellos i d) latest off kept)

-- the base, one HELLO further

pub same_view : (a b : View) → a.ring ≡ b.ring → a.count ≡ b.count → a ≡ b
same_view a b rings counts =
    ap (λ (ring : ℕ). let view : View = record { ring = ring; count = a.count } in view) rings
    ∙ ap (λ (count : ℕ). let view : View = record { ring = b.ring; count = count } in view) counts

pub tells_is : (view : View) (hello : Hello) → tells view hello ≡ true → Tells view hello
tells_is view hello test =
    let has : hello.has_state ≡ true = grind (arith, nat_tests) in
    let ring : hello.state.view.ring ≡ view.ring = grind (arith, nat_tests) in
    let count : hello.state.view.count ≡ view.count = grind (arith, nat_tests) in
    (has, same_view hello.state.view view ring count)

pub is_told : (view : View) (hello : Hello) → Tells view hello → tells view hello ≡ true
is_told view hello told =
    let ring : hello.state.view.ring ≡ view.ring = ap (λ (v : View). v.ring) told.1 in
    let count : hello.state.view.count ≡ view.count = ap (λ (v : View). v.count) told.1 in
    let has : hello.has_state ≡ true = told.0 in
    grind (arith, nat_tests)

pub tells_not : (view : View) (hello : Hello) → tells view hello ≡ false → ¬ Tells view hello
tells_not view hello test told = let is = is_told view hello told in cc

behind_choice : (hello : Hello) (base : Base) → is_better hello base ≡ false → IsBehind hello base
behind_choice hello base test = grind (arith, nat_tests)

behind_better : (view : View) (other hello : Hello) (base : Base) → is_better hello base ≡ true → IsBehind other base → IsBehind other (base_at view hello)
behind_better view other hello base test behind = grind (arith, nat_tests)

base_choice : (view : View) (xs : List Hello) (hello : Hello) (base : Base) (test : Bool) → is_better hello base ≡ test → Tells view hello
    → IsBase view xs base → IsBase view (xs ++ hello ∷ []) (if test then base_at view hello else base)
base_choice view xs hello base true is tells kept = record {
  told = Any-push (λ (other : Hello). Tells view other × (base_at view hello ≡ base_at view other)) xs hello (tells, refl);
  best = All-push (λ (other : Hello). Tells view other → IsBehind other (base_at view hello)) xs hello
      (λ k d lt told. behind_better view (get_or xs k d) hello base is (kept.best k d lt told)) (λ told. inr (refl, omega arith));
}
base_choice view xs hello base false is tells kept = record {
  told = any_longer (λ (other : Hello). Tells view other × (base ≡ base_at view other)) xs hello kept.told;
  best = All-push (λ (other : Hello). Tells view other → IsBehind other base) xs hello kept.best (λ told. behind_choice hello base is);
}

base_push : (view : View) (xs : List Hello) (hello : Hello) (base : Option Base) → Tells view hello → IsBaseSoFar view xs base
    → IsBase view (xs ++ hello ∷ []) (better_of base view hello)
base_push view xs hello None told none = record {
  told = Any-push (λ (other : Hello). Tells view other × (base_at view hello ≡ base_at view other)) xs hello (told, refl);
  best = All-push (λ (other : Hello). Tells view other → IsBehind other (base_at view hello)) xs hello
      (λ k d lt tells. absurd (none k d lt tells)) (λ tells. inr (refl, omega arith));
}
base_push view xs hello (Some base) told kept = base_choice view xs hello base (is_better hello base) refl told kept

base_pass : (view : View) (xs : List Hello) (hello : Hello) (base : Option Base) → (¬ Tells view hello) → IsBaseSoFar view xs base
    → IsBaseSoFar view (xs ++ hello ∷ []) base
base_pass view xs hello None not none = All-push (λ (other : Hello). ¬ Tells view other) xs hello none not
base_pass view xs hello (Some base) not kept = record {
  told = any_longer (λ (other : Hello). Tells view other × (base ≡ base_at view other)) xs hello kept.told;
  best = All-push (λ (other : Hello). Tells view other → IsBehind other base) xs hello kept.best (λ told. absurd (not told));
}

pub base_told : (view : View) (hellos : List Hello) (i : ℕ) (d : Hello) (base : Option Base) → i < length hellos → tells view (get_or hellos i d) ≡ true
    → IsBaseSoFar view (take i hellos) base → IsBaseSoFar view (take (i + 1) hellos) (Some (better_of base view (get_or hellos i d)))
base_told view hellos i d base lt test kept =
    rw (take_more hellos i d lt) (base_push view (take i hellos) (get_or hellos i d) base (tells_is view (get_or hellos i d) test) kept)

pub base_none : (view : View) (hellos : List Hello) (i : ℕ) (d : Hello) (base : Option Base) → i < length hellos → tells view (get_or hellos i d) ≡ false
    → IsBaseSoFar view (take i hellos) base → IsBaseSoFar view (take (i + 1) hellos) base
base_none view hellos i d base lt test kept =
    rw (take_more hellos i d lt) (base_pass view (take i hellos) (get_or hellos i d) base (tells_not view (get_or hellos i d) test) kept)

-- the next view, one HELLO further

still_before : (known : View) (ring count more : ℕ) → IsBefore known (record { ring = ring; count = count }) → count ≤ more
    → IsBefore known (record { ring = ring; count = more })
still_before known ring count more before le = grind arith

at_ring : (known next : View) (ring : ℕ) → next.ring ≡ ring → IsBefore known next → IsBefore known (record { ring = ring; count = next.count })
at_ring known next ring is before = grind arith

at_first : (known : View) (first ring count : ℕ) → first ≡ ring → IsBefore known (record { ring = ring; count = count })
    → IsBefore known (record { ring = first; count = count })
at_first known first ring count is before = grind arith

next_push : (ring : ℕ) (xs : List Hello) (hello : Hello) (view next : View) → IsNext ring xs view → IsNextFrom view (known_of hello) next
    → IsNext ring (xs ++ hello ∷ []) next
next_push ring xs hello view next kept one =
    let ring_is : next.ring ≡ ring = one.ring ∙ kept.ring_is in
    record {
      ring_is = ring_is;
      fits = one.fits;
      after = All-push (λ (other : Hello). IsBefore (known_of other) (record { ring = ring; count = next.count })) xs hello
          (λ k d lt. still_before (known_of (get_or xs k d)) ring view.count next.count (kept.after k d lt) one.from)
          (at_ring (known_of hello) next ring ring_is one.after);
      least = λ count after.
          let before : IsBefore (known_of hello) (record { ring = ring; count = count }) = all_last (λ (other : Hello). IsBefore (known_of other) (record { ring = ring; count = count })) xs hello after in
          let from : view.count ≤ count = kept.least count (all_shorter (λ (other : Hello). IsBefore (known_of other) (record { ring = ring; count = count })) xs hello after) in
          one.least count from (at_first (known_of hello) view.ring ring count kept.ring_is before);
    }

pub next_more : (ring : ℕ) (hellos : List Hello) (i : ℕ) (d : Hello) (view next : View) → i < length hellos → IsNext ring (take i hellos) view
    → IsNextFrom view (known_of (get_or hellos i d)) next → IsNext ring (take (i + 1) hellos) next
next_more ring hellos i d view next lt kept one =
    rw (take_more hellos i d lt) (next_push ring (take i hellos) (get_or hellos i d) view next kept one)

-- nodes that are apart, one HELLO further

-- the node said a HELLO before, and so no two are each other's
pub twice_among : (hellos : List Hello) (i : ℕ) (d : Hello) → i < length hellos → SaidHello (get_or hellos i d).node (take i hellos)
    → ¬ AreOneEach hellos
twice_among hellos i d lt said each =
    let short : length (take i hellos) ≡ i = length-take-le i hellos (omega arith) in
    let before : said.0 < i = omega (arith, said.2) in
    let here : get_or hellos said.0 said.1 ≡ said.1 = sym (get_or-take i hellos said.0 said.1 before) ∙ said.3 in
    let other : get_or hellos i said.1 ≡ get_or hellos i d = get_or_default hellos i said.1 d lt in
    each.apart said.0 i said.1 before lt (ap (λ (h : Hello). h.node) here ∙ said.4 ∙ sym (ap (λ (h : Hello). h.node) other))

pub apart_more : (hellos : List Hello) (i : ℕ) (d : Hello) → i < length hellos → (¬ SaidHello (get_or hellos i d).node (take i hellos))
    → AllPairs (λ (hello : Hello) (other : Hello). hello.node ≢ other.node) (take i hellos)
    → AllPairs (λ (hello : Hello) (other : Hello). hello.node ≢ other.node) (take (i + 1) hellos)
apart_more hellos i d lt new apart =
    rw (take_more hellos i d lt)
    (all_pairs_push (λ (hello : Hello) (other : Hello). hello.node ≢ other.node) (take i hellos) (get_or hellos i d) apart
    (λ k e short same. new (k, get_or (take i hellos) k e, short, get_or_default (take i hellos) k (get_or (take i hellos) k e) e short, same)))
