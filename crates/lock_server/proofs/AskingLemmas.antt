-- What is asked of waits, as tests: for the queries of `asking`.
use Rattle.lock_server.proofs.Common.{◌≡◌, ◌≢◌, ℕ, ◌∙◌, Bool, true, false, not, ◌==◌, List, [], ◌∷◌, ◌++◌, refl, sym, ap, subst, arith, ◌↔◌, IsTrue, list_any, eq-eqb, eqb-true, nat_tests, Mode, Read, Write, Span, Conflict, Description, Family, Bytes, Whole, Pending, Freed, Nobody, Of, Meeting, Reach, are_conflicting, is_among, reaches, IsAmong, Reaches, PendingsConflict}
use Rattle.std.proofs.Common.{◌||◌, ◌&&◌}
use Rattle.wait_core.specs.Blocking.{Meet}
use Rattle.lock_server.specs.declared.freed.Freed.TheVariants.{Anybody}
use Rattle.lock_server.specs.declared.hull.Hull.{Hull}
use Rattle.lock_server.specs.Asking.{do_meet, exclude, is_same_family}
use Rattle.lock_server.specs.Hulls.{AreWithin, Holds, IsWithin, LiesIn}

fails : (b : Bool) → (b ≡ true → ⊥) → b ≡ false
fails true never = absurd (never refl)
fails false never = refl

neither : (b c : Bool) → b ≡ false → c ≡ false → (b || c) ≡ false
neither b c one other = ap (λ (x : Bool). x || c) one ∙ other

-- none of the waits that lie within a hull passes a test that fails on each that does
pub none_hits : (hull : Hull) (p : Pending → Bool) → ((wait : Pending) → IsWithin hull wait → p wait ≡ true → ⊥) → (waits : List Pending) → AreWithin hull waits
    → list_any p waits ≡ false
none_hits hull p never [] within = refl
none_hits hull p never (wait ∷ waits) within =
    neither (p wait) (list_any p waits) (fails (p wait) (never wait within.0)) (none_hits hull p never waits within.1)

-- two tests of one thing
pub same_test : (b c : Bool) (P : Type 0) → IsTrue b ↔ P → IsTrue c ↔ P → b ≡ c
same_test true true P one other = refl
same_test true false P one other = sym (other.1 (one.0 refl))
same_test false true P one other = one.1 (other.0 refl)
same_test false false P one other = refl

pub both : (b c : Bool) → (b && c) ≡ true → (b ≡ true) × (c ≡ true)
both true c h = (refl, h)
both false c h = absurd (let no : false ≡ true = h in cc)

and_of : (b c : Bool) → b ≡ true → c ≡ true → (b && c) ≡ true
and_of b c one other = ap (λ (x : Bool). x && c) one ∙ other

one_family : (f g : Family) → is_same_family f g ≡ true → f ≡ g
one_family Bytes Bytes h = refl
one_family Whole Whole h = refl
one_family Bytes Whole h = absurd (let no : false ≡ true = h in cc)
one_family Whole Bytes h = absurd (let no : false ≡ true = h in cc)

its_family : (f : Family) → is_same_family f f ≡ true
its_family Bytes = refl
its_family Whole = refl

same_family : (f g : Family) → f ≡ g → is_same_family f g ≡ true
same_family f g is = subst (λ (h : Family). is_same_family f h ≡ true) is (its_family f)

meet_told : (family : Family) (one other : Span) → do_meet family one other ≡ true → Meet family one other
meet_told Bytes one other h = (grind (arith, nat_tests), grind (arith, nat_tests))
meet_told Whole one other h = tt

told_meet : (family : Family) (one other : Span) → Meet family one other → do_meet family one other ≡ true
told_meet Bytes one other h = grind (arith, nat_tests)
told_meet Whole one other h = refl

exclude_told : (one other : Mode) → exclude one other ≡ true → Conflict one other
exclude_told Read Read h = absurd (let no : false ≡ true = h in cc)
exclude_told Read Write h = tt
exclude_told Write Read h = tt
exclude_told Write Write h = tt

told_exclude : (one other : Mode) → Conflict one other → exclude one other ≡ true
told_exclude Read Read h = absurd h
told_exclude Read Write h = refl
told_exclude Write Read h = refl
told_exclude Write Write h = refl

-- the wait is for a lock there
pub reaches_told : (reach : Reach) (wait : Pending) → reaches reach wait ≡ true → Reaches reach wait
reaches_told reach wait h =
    let parts = both (is_same_family wait.family reach.family) (do_meet wait.family reach.span wait.span) h in
    record { family = one_family wait.family reach.family parts.0; meet = meet_told wait.family reach.span wait.span parts.1 }

told_reaches : (reach : Reach) (wait : Pending) → Reaches reach wait → reaches reach wait ≡ true
told_reaches reach wait h =
    and_of (is_same_family wait.family reach.family) (do_meet wait.family reach.span wait.span) (same_family wait.family reach.family h.family) (told_meet wait.family reach.span wait.span h.meet)

-- the wait is among those that may be freed
among_told : (freed : Freed) (wait : Pending) → is_among freed wait ≡ true → IsAmong freed wait
among_told Nobody wait h = absurd (let no : false ≡ true = h in cc)
among_told (Of owner reach) wait h =
    let parts = both (wait.owner == owner) (reaches reach wait) h in (eqb-true wait.owner owner parts.0, reaches_told reach wait parts.1)
among_told (Meeting reach) wait h = reaches_told reach wait h
among_told Anybody wait h = tt

told_among : (freed : Freed) (wait : Pending) → IsAmong freed wait → is_among freed wait ≡ true
told_among Nobody wait h = absurd h
told_among (Of owner reach) wait h = and_of (wait.owner == owner) (reaches reach wait) (eq-eqb wait.owner owner h.0) (told_reaches reach wait h.1)
told_among (Meeting reach) wait h = told_reaches reach wait h
told_among Anybody wait h = refl

pub among_test : (freed : Freed) (wait : Pending) → IsTrue (is_among freed wait) ↔ IsAmong freed wait
among_test freed wait = (among_told freed wait, told_among freed wait)

another_told : (one other : ℕ) → not (one == other) ≡ true → Description one ≢ Description other
another_told one other told same =
    let is : one ≡ other = cc in
    let no : false ≡ true = sym (ap not (eq-eqb one other is)) ∙ told in cc

told_another : (one other : ℕ) → Description one ≢ Description other → not (one == other) ≡ true
told_another one other another = at (one == other) refl
  where
    at : (b : Bool) → (one == other) ≡ b → not b ≡ true
    at true is = absurd (another (ap Description (eqb-true one other is)))
    at false is = refl

-- the two waits could not both be granted
conflicting_told : (v w : Pending) → are_conflicting v w ≡ true → PendingsConflict v w
conflicting_told v w h =
    let family = both (is_same_family v.family w.family) (not (v.owner == w.owner) && (exclude v.mode w.mode && do_meet w.family v.span w.span)) h in
    let owners = both (not (v.owner == w.owner)) (exclude v.mode w.mode && do_meet w.family v.span w.span) family.1 in
    let modes = both (exclude v.mode w.mode) (do_meet w.family v.span w.span) owners.1 in
    record {
      conflict = record {
        file = refl;
        family = one_family v.family w.family family.0;
        owners = another_told v.owner w.owner owners.0;
        modes = exclude_told v.mode w.mode modes.0;
        ranges = meet_told w.family v.span w.span modes.1;
      };
    }

told_conflicting : (v w : Pending) → PendingsConflict v w → are_conflicting v w ≡ true
told_conflicting v w h =
    and_of (is_same_family v.family w.family) _ (same_family v.family w.family h.conflict.family)
    (and_of (not (v.owner == w.owner)) _ (told_another v.owner w.owner h.conflict.owners)
    (and_of (exclude v.mode w.mode) _ (told_exclude v.mode w.mode h.conflict.modes) (told_meet w.family v.span w.span h.conflict.ranges)))

pub conflicting_test : (v w : Pending) → IsTrue (are_conflicting v w) ↔ PendingsConflict v w
conflicting_test v w = (conflicting_told v w, told_conflicting v w)

-- a wait that conflicts with another is for a lock where that one is to have its own
pub conflicts_there : (v w : Pending) → are_conflicting v w ≡ true → Reaches (record { family = w.family; span = w.span }) v
conflicts_there v w h =
    let conflict = (conflicting_told v w h).conflict in
    record { family = conflict.family; meet = turned v.family w.family v.span w.span conflict.family conflict.ranges }
  where
    turned : (f g : Family) (one other : Span) → f ≡ g → Meet g one other → Meet f other one
    turned Bytes Bytes one other is meet = (meet.1, meet.0)
    turned Whole g one other is meet = tt
    turned Bytes Whole one other is meet = absurd (let no : Bytes ≡ Whole = is in cc)

-- waits that lie within one hull lie within a wider one
lie_wider : (a b : Hull) → ((n m : ℕ) → Holds a.bytes n m → Holds b.bytes n m) → (a.whole ≡ true → b.whole ≡ true) → (family : Family) (wait : Pending)
    → LiesIn family a wait → LiesIn family b wait
lie_wider a b bytes whole Bytes wait lies = bytes wait.span.first wait.span.last lies
lie_wider a b bytes whole Whole wait lies = whole lies

module _ (a b : Hull) (tickets : (n m : ℕ) → Holds a.tickets n m → Holds b.tickets n m) (owners : (n m : ℕ) → Holds a.owners n m → Holds b.owners n m)
    (bytes : (n m : ℕ) → Holds a.bytes n m → Holds b.bytes n m) (whole : a.whole ≡ true → b.whole ≡ true) where
  pub are_within : (waits : List Pending) → AreWithin a waits → AreWithin b waits
  are_within [] within = tt
  are_within (wait ∷ waits) within = (
    record {
      ticket = tickets wait.ticket wait.ticket within.0.ticket;
      owner = owners wait.owner wait.owner within.0.owner;
      lies = lie_wider a b bytes whole wait.family wait within.0.lies;
    },
    are_within waits within.1,
  )

pub within_both : (hull : Hull) (waits others : List Pending) → AreWithin hull waits → AreWithin hull others → AreWithin hull (waits ++ others)
within_both hull [] others one other = other
within_both hull (wait ∷ waits) others one other = (one.0, within_both hull waits others one.1 other)

end_within : (hull : Hull) (waits : List Pending) (wait : Pending) → AreWithin hull (waits ++ wait ∷ []) → AreWithin hull (wait ∷ waits)
end_within hull [] wait within = within
end_within hull (first ∷ waits) wait within = let all = end_within hull waits wait within.1 in (all.0, (within.0, all.1))

-- whether waits lie within a hull does not depend on their order
pub within_moved : (hull : Hull) (front back : List Pending) (wait : Pending) → AreWithin hull ((front ++ back) ++ wait ∷ []) → AreWithin hull (front ++ wait ∷ back)
within_moved hull [] back wait within = end_within hull back wait within
within_moved hull (first ∷ front) back wait within = (within.0, within_moved hull front back wait within.1)

-- and the others lie within it
pub within_left : (hull : Hull) (front back : List Pending) (wait : Pending) → AreWithin hull (front ++ wait ∷ back) → AreWithin hull (front ++ back)
within_left hull [] back wait within = within.1
within_left hull (first ∷ front) back wait within = (within.0, within_left hull front back wait within.1)
