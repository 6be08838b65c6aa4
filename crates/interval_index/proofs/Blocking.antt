-- Facts on runs that stand in the way.
use Rattle.interval_index.proofs.Common.{◌≡◌, ℕ, ◌<◌, ◌≤◌, ◌⊎◌, Bool, true, false, not, cond, ◌&&◌, ◌||◌, leb, Option, Some, None, List, [], ◌∷◌, refl, sym, ap, ◌∙◌, arith, find, list_any, AllByRecursion, Any, is_some, nat_tests, Mode, Span, Conflict, Holder, Run, holder_of, is_same_holder, IsBefore, AreOrdered, begins_after, beginning_by, conflicts_with, blocks}
use Rattle.std.proofs.Common.{ltb, suc, inl, inr, length, max}
use Rattle.std.proofs.lemmas.List.Folds.{list_any-from_Any}
use Rattle.range_core.specs.declared.Mode.TheVariants.{Read, Write}
use Rattle.summary_tree.specs.Cuts.{unless}
use Rattle.interval_index.proofs.HolderLemmas.{another_found, another_holds}
use Rattle.interval_index.specs.Runs.{Blocks}

later_out : (P : Type 0) (a c t : ℕ) → (a < c) ⊎ ((a ≡ c) × P) → leb a t ≡ false → leb c t ≡ false
later_out P a c t (inl h) k = grind (arith, nat_tests)
later_out P a c t (inr h) k = let e = h.0 in (cc)

out_at : (a b : Bool) (x : Run) (rest : Option Run) → b ≡ false → rest ≡ None → cond (a && b) (Some x) rest ≡ None
out_at true b x rest e h = ap (λ c. cond c (Some x) rest) e ∙ h
out_at false b x rest e h = h

-- where a run begins behind the byte, all behind it do
none_within : (q : Run → Bool) (last : ℕ) (x : Run) (xs : List Run) → AllByRecursion (IsBefore x) xs → leb x.span.first last ≡ false → find (λ y. q y && leb y.span.first last) xs ≡ None
none_within q last x [] a h = refl
none_within q last x (y ∷ ys) a h =
    out_at (q y) (leb y.span.first last) y (find (λ z. q z && leb z.span.first last) ys) (later_out _ x.span.first y.span.first last a.0 h) (none_within q last x ys a.1 h)

within_at : (a b : Bool) (x : Run) (rest reached : Option Run) (last : ℕ) → leb x.span.first last ≡ b → (b ≡ false → rest ≡ None) → rest ≡ beginning_by last reached → cond (a && b) (Some x) rest ≡ beginning_by last (cond a (Some x) reached)
within_at true true x rest reached last e h ih = sym (ap (λ c. cond c (Some x) None) e)
within_at true false x rest reached last e h ih = h refl ∙ sym (ap (λ c. cond c (Some x) None) e)
within_at false b x rest reached last e h ih = ih

-- the first run that passes and begins by a byte is the first that passes, if that begins by it
pub first_within : (q : Run → Bool) (last : ℕ) (runs : List Run) → AreOrdered runs → find (λ run. q run && leb run.span.first last) runs ≡ beginning_by last (find q runs)
first_within q last [] h = refl
first_within q last (x ∷ xs) h =
    within_at (q x) (leb x.span.first last) x (find (λ y. q y && leb y.span.first last) xs) (find q xs) last refl (λ e. none_within q last x xs h.1 e) (first_within q last xs h.2)

-- what doesn't begin behind the byte begins by it
pub within_beyond : (last : ℕ) (found : Option Run) → unless (begins_after last) found ≡ beginning_by last found
within_beyond last None = refl
within_beyond last (Some run) = beyond_at (ltb last run.span.first) (leb run.span.first last) run (grind (arith, nat_tests))
  where
    beyond_at : (after by : Bool) (run : Run) → after ≡ not by → cond after None (Some run) ≡ cond by (Some run) None
    beyond_at after true run is = ap (λ b. cond b None (Some run)) is
    beyond_at after false run is = ap (λ b. cond b None (Some run)) is

regrouped_at : (a b c : Bool) (x : Run) (r s : Option Run) → r ≡ s → cond (a && (b && c)) (Some x) r ≡ cond ((a && b) && c) (Some x) s
regrouped_at true b c x r s h = ap (λ o. cond (b && c) (Some x) o) h
regrouped_at false b c x r s h = h

-- of three tests the first two may be made first
pub regrouped : (p q r : Run → Bool) (runs : List Run) → find (λ x. p x && (q x && r x)) runs ≡ find (λ x. (p x && q x) && r x) runs
regrouped p q r [] = refl
regrouped p q r (x ∷ xs) = regrouped_at (p x) (q x) (r x) x (find (λ y. p y && (q y && r y)) xs) (find (λ y. (p y && q y) && r y) xs) (regrouped p q r xs)

-- the tests tell what they say
pub conflict_holds : (wanted held : Mode) → conflicts_with wanted held ≡ true → Conflict held wanted
conflict_holds Read Read h = absurd (cc)
conflict_holds Read Write h = tt
conflict_holds Write Read h = tt
conflict_holds Write Write h = tt

pub conflict_found : (wanted held : Mode) → Conflict held wanted → conflicts_with wanted held ≡ true
conflict_found Read Read h = absurd h
conflict_found Read Write h = refl
conflict_found Write Read h = refl
conflict_found Write Write h = refl

-- of a run from a to b, and a range from s to t, where k tells whether the modes conflict, and e whether the owners are one
pub record Parts (e : Bool) (a b s t : ℕ) (k : Bool) : Type 0 where
  pub mode : k ≡ true
  pub another : e ≡ false
  pub before : a ≤ t
  pub behind : s ≤ b

pub parts : (e : Bool) (a b s t : ℕ) (k : Bool) → ((k && (not e && leb s b)) && leb a t) ≡ true → Parts e a b s t k
parts true a b s t true h = absurd (cc)
parts true a b s t false h = absurd (cc)
parts false a b s t false h = absurd (cc)
parts false a b s t true h = record { mode = refl; another = refl; before = grind (arith, nat_tests); behind = grind (arith, nat_tests) }

pub whole : (e : Bool) (a b s t : ℕ) (k : Bool) → Parts e a b s t k → ((k && (not e && leb s b)) && leb a t) ≡ true
whole e a b s t k p = let m = p.mode in let n = p.another in let u = p.before in let v = p.behind in grind (arith, nat_tests)

-- a byte in both of two ranges
shared : (a b s t : ℕ) → a ≤ b → s ≤ t → a ≤ t → s ≤ b → (byte : ℕ) × ((a ≤ byte) × (byte ≤ b)) × ((s ≤ byte) × (byte ≤ t))
shared a b s t h k u v = (max a s, omega arith, omega arith)

blocks_holds : (holder : Holder) (span : Span) (wanted : Mode) (run : Run) → span.first ≤ span.last → run.span.first ≤ run.span.last → blocks holder span wanted run ≡ true → Blocks holder span wanted run
blocks_holds holder span wanted run r h e =
    let p = parts (is_same_holder holder (holder_of run)) run.span.first run.span.last span.first span.last (conflicts_with wanted run.mode) e in
    record { another = another_holds holder (holder_of run) p.another; meets = shared run.span.first run.span.last span.first span.last h r p.before p.behind; conflicts = conflict_holds wanted run.mode p.mode }

blocks_found : (holder : Holder) (span : Span) (wanted : Mode) (run : Run) → Blocks holder span wanted run → blocks holder span wanted run ≡ true
blocks_found holder span wanted run b =
    let byte = b.meets.0 in
    let in_run = b.meets.1 in
    let in_range = b.meets.2 in
    whole (is_same_holder holder (holder_of run)) run.span.first run.span.last span.first span.last (conflicts_with wanted run.mode) (record { mode = conflict_found wanted run.mode b.conflicts; another = another_found holder (holder_of run) b.another; before = omega arith; behind = omega arith })

pub any_here : (P : Run → Type 0) (x : Run) (xs : List Run) → P x → Any P (x ∷ xs)
any_here P x xs p = (0, x, omega arith, refl, p)

pub any_there : (P : Run → Type 0) (x : Run) (xs : List Run) → Any P xs → Any P (x ∷ xs)
any_there P x xs a = let lt : a.0 < length xs = a.2 in (suc a.0, a.1, omega arith, a.3, a.4)

any_at : (holder : Holder) (span : Span) (wanted : Mode) (x : Run) (xs : List Run) (b : Bool) → blocks holder span wanted x ≡ b → span.first ≤ span.last → x.span.first ≤ x.span.last → (is_some (find (blocks holder span wanted) xs) ≡ true → Any (Blocks holder span wanted) xs) → is_some (cond b (Some x) (find (blocks holder span wanted) xs)) ≡ true → Any (Blocks holder span wanted) (x ∷ xs)
any_at holder span wanted x xs true e r h ih s = any_here (Blocks holder span wanted) x xs (blocks_holds holder span wanted x r h e)
any_at holder span wanted x xs false e r h ih s = any_there (Blocks holder span wanted) x xs (ih s)

-- where one is found that blocks, one does
pub any_from_found : (holder : Holder) (span : Span) (wanted : Mode) (runs : List Run) → span.first ≤ span.last → AreOrdered runs → is_some (find (blocks holder span wanted) runs) ≡ true → Any (Blocks holder span wanted) runs
any_from_found holder span wanted [] r h s = absurd (cc)
any_from_found holder span wanted (x ∷ xs) r h s = any_at holder span wanted x xs (blocks holder span wanted x) refl r h.0 (any_from_found holder span wanted xs r h.2) s

found_if_any : (p : Run → Bool) (x : Run) (xs : List Run) (b : Bool) → (b || list_any p xs) ≡ true → (list_any p xs ≡ true → is_some (find p xs) ≡ true) → is_some (cond b (Some x) (find p xs)) ≡ true
found_if_any p x xs true h ih = refl
found_if_any p x xs false h ih = ih h

is_found : (p : Run → Bool) (xs : List Run) → list_any p xs ≡ true → is_some (find p xs) ≡ true
is_found p [] h = absurd (cc)
is_found p (x ∷ xs) h = found_if_any p x xs (p x) h (is_found p xs)

-- and the other way round
pub found_from_any : (holder : Holder) (span : Span) (wanted : Mode) (runs : List Run) → Any (Blocks holder span wanted) runs → is_some (find (blocks holder span wanted) runs) ≡ true
found_from_any holder span wanted runs a =
    is_found (blocks holder span wanted) runs (list_any-from_Any (blocks holder span wanted) runs (a.0, a.1, a.2, a.3, blocks_found holder span wanted a.1 a.4))
