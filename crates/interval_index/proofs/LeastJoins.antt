-- The least owners of the runs of two lists.
use Rattle.interval_index.proofs.Common.{◌≡◌, ◌≢◌, ℕ, ◌≤◌, Bool, true, false, cond, ◌||◌, Option, Some, None, List, [], ◌∷◌, ◌++◌, refl, sym, ap, ◌∙◌, arith, AllByRecursion, Holder, Run, is_same_holder, is_by, has_by}
use Rattle.std.proofs.lemmas.List.Folds.{list_any-append}
use Rattle.interval_index.specs.declared.least.Least.{Least}
use Rattle.interval_index.specs.Reaching.{TellsLeast, is_others_by, other_than}
use Rattle.interval_index.proofs.HolderLemmas.{another_found, by_itself, same_holds}
use Rattle.interval_index.proofs.Leasts.{absorbed, same_or}

-- whoever comes no later than the one, the other does too
pub record IsNoLater (least more : Option Holder) : Type 0 where
  pub falls : (bound : Holder) → has_by more bound ≡ true → has_by least bound ≡ true

-- the one is the lesser of two
pub record IsLesser (lesser least more : Option Holder) : Type 0 where
  pub exact : (bound : Holder) → has_by lesser bound ≡ (has_by least bound || has_by more bound)

-- of one owner and of another, or of none
abbrev Joins : Holder → Option Holder → Option Holder → Option Holder → Option Holder → Option Holder → Option Holder → Holder → Type 0
Joins holder l lo s so m mo bound = has_by (other_than holder l lo) bound ≡ (has_by (other_than holder s so) bound || has_by (other_than holder m mo) bound)

same_at : (l : Holder) (so mo ro : Option Holder) (bound : Holder) (b : Bool) → has_by ro bound ≡ (has_by so bound || has_by mo bound) → has_by (cond b ro (Some l)) bound ≡ (has_by (cond b so (Some l)) bound || has_by (cond b mo (Some l)) bound)
same_at l so mo ro bound true e = e
same_at l so mo ro bound false e = absorbed (is_by l bound) (is_by l bound) (λ h. h)

joins_same : (holder : Holder) (l so mo ro : Option Holder) → IsLesser ro so mo → (bound : Holder) → Joins holder l ro l so l mo bound
joins_same holder None so mo ro e bound = refl
joins_same holder (Some l) so mo ro e bound = same_at l so mo ro bound (is_same_holder holder l) (e.exact bound)

alone_at : (x : Holder) (so ro : Option Holder) (bound : Holder) (b : Bool) → has_by ro bound ≡ (has_by so bound || false) → has_by (cond b ro (Some x)) bound ≡ (has_by (cond b so (Some x)) bound || false)
alone_at x so ro bound true e = e
alone_at x so ro bound false e = absorbed (is_by x bound) false (λ h. absurd (cc))

lesser_falls : (y : Holder) (mo : Option Holder) (bound : Holder) (b : Bool) → IsNoLater (Some y) mo → has_by (cond b mo (Some y)) bound ≡ true → is_by y bound ≡ true
lesser_falls y mo bound true f h = f.falls bound h
lesser_falls y mo bound false f h = h

two_at : (holder x y : Holder) (so mo ro : Option Holder) (bound : Holder) (b : Bool) → is_same_holder holder x ≡ b → y ≢ x → IsNoLater (Some x) (Some y) → IsNoLater (Some y) mo → has_by ro bound ≡ (has_by so bound || is_by y bound)
    → has_by (cond b ro (Some x)) bound ≡ (has_by (cond b so (Some x)) bound || has_by (cond (is_same_holder holder y) mo (Some y)) bound)
two_at holder x y so mo ro bound true e n f g r =
    let another = another_found holder y (λ same. n (same ∙ same_holds holder x e)) in
    r ∙ ap (λ c. has_by so bound || has_by (cond c mo (Some y)) bound) (sym another)
two_at holder x y so mo ro bound false e n f g r =
    absorbed (is_by x bound) (has_by (cond (is_same_holder holder y) mo (Some y)) bound) (λ h. f.falls bound (lesser_falls y mo bound (is_same_holder holder y) g h))

joins_two : (holder : Holder) (s so m mo ro : Option Holder) → s ≢ m → IsNoLater s m → IsNoLater m mo → IsLesser ro so m → (bound : Holder) → Joins holder s ro s so m mo bound
joins_two holder None so None mo ro n f g r bound = absurd (n refl)
joins_two holder None so (Some y) mo ro n f g r bound = let t : false ≡ true = f.falls y (by_itself y) in absurd (cc)
joins_two holder (Some x) so None mo ro n f g r bound = alone_at x so ro bound (is_same_holder holder x) (r.exact bound)
joins_two holder (Some x) so (Some y) mo ro n f g r bound =
    two_at holder x y so mo ro bound (is_same_holder holder x) refl (λ same. n (ap Some (sym same))) f g (r.exact bound)

swapped : (a b : Bool) → (a || b) ≡ (b || a)
swapped true true = refl
swapped true false = refl
swapped false true = refl
swapped false false = refl

-- what holds of each of both lists
all_lower : (last lower : ℕ) (runs : List Run) → lower ≤ last → AllByRecursion (λ run. last ≤ run.span.last) runs → AllByRecursion (λ run. lower ≤ run.span.last) runs
all_lower last lower [] l h = tt
all_lower last lower (x ∷ xs) l h = let e : last ≤ x.span.last = h.0 in (omega arith, all_lower last lower xs l h.1)

all_both : (P : Run → Type 0) (xs ys : List Run) → AllByRecursion P xs → AllByRecursion P ys → AllByRecursion P (xs ++ ys)
all_both P [] ys h i = i
all_both P (x ∷ xs) ys h i = (h.0, all_both P xs ys h.1 i)

either_falls : (a b c : Bool) → (a ≡ true → c ≡ true) → (b ≡ true → c ≡ true) → (a || b) ≡ true → c ≡ true
either_falls true b c f g h = f refl
either_falls false b c f g h = g h

told_of_both : (self more least : Least) (runs others : List Run) → TellsLeast self runs → TellsLeast more others → least.last ≤ self.last → least.last ≤ more.last → IsNoLater least.holder least.other
    → ((holder bound : Holder) → Joins holder least.holder least.other self.holder self.other more.holder more.other bound) → TellsLeast least (runs ++ others)
told_of_both self more least runs others h i l m f e = record {
  last = all_both (λ run. least.last ≤ run.span.last) runs others (all_lower self.last least.last runs l h.last) (all_lower more.last least.last others m i.last);
  falls = f.falls;
  exact = λ holder bound.
      let p = is_others_by holder bound in
      e holder bound ∙ (same_or _ _ _ _ (h.exact holder bound) (i.exact holder bound) ∙ sym (list_any-append p runs others));
}

-- the least owners of both, where the least of the one list is that of the other
pub join_same : (self more : Least) (last : ℕ) (other : Option Holder) (runs others : List Run) → TellsLeast self runs → TellsLeast more others → last ≤ self.last → last ≤ more.last → self.holder ≡ more.holder → IsLesser other self.other more.other
    → TellsLeast (record { last = last; holder = self.holder; other = other }) (runs ++ others)
join_same self more last other runs others h i l m same e =
    told_of_both self more (record { last = last; holder = self.holder; other = other }) runs others h i l m
    (record { falls = λ bound b. either_falls (has_by self.other bound) (has_by more.other bound) (has_by self.holder bound) (h.falls bound) (λ k. ap (λ o. has_by o bound) same ∙ i.falls bound k) (sym (e.exact bound) ∙ b) })
    (λ holder bound. joins_same holder self.holder self.other more.other other e bound ∙ ap (λ o. has_by (other_than holder self.holder self.other) bound || has_by (other_than holder o more.other) bound) same)

-- where it is another, and the one comes no later
pub join_earlier : (self more : Least) (last : ℕ) (other : Option Holder) (runs others : List Run) → TellsLeast self runs → TellsLeast more others → last ≤ self.last → last ≤ more.last → self.holder ≢ more.holder → IsNoLater self.holder more.holder → IsLesser other self.other more.holder
    → TellsLeast (record { last = last; holder = self.holder; other = other }) (runs ++ others)
join_earlier self more last other runs others h i l m n f e =
    told_of_both self more (record { last = last; holder = self.holder; other = other }) runs others h i l m
    (record { falls = λ bound b. either_falls (has_by self.other bound) (has_by more.holder bound) (has_by self.holder bound) (h.falls bound) (f.falls bound) (sym (e.exact bound) ∙ b) })
    (λ holder bound. joins_two holder self.holder self.other more.holder more.other other n f (record { falls = i.falls }) e bound)

-- and where the other does
pub join_later : (self more : Least) (last : ℕ) (other : Option Holder) (runs others : List Run) → TellsLeast self runs → TellsLeast more others → last ≤ self.last → last ≤ more.last → self.holder ≢ more.holder → IsNoLater more.holder self.holder → IsLesser other more.other self.holder
    → TellsLeast (record { last = last; holder = more.holder; other = other }) (runs ++ others)
join_later self more last other runs others h i l m n f e =
    told_of_both self more (record { last = last; holder = more.holder; other = other }) runs others h i l m
    (record { falls = λ bound b. either_falls (has_by more.other bound) (has_by self.holder bound) (has_by more.holder bound) (i.falls bound) (f.falls bound) (sym (e.exact bound) ∙ b) })
    (λ holder bound. joins_two holder more.holder more.other self.holder self.other other (λ same. n (sym same)) f (record { falls = h.falls }) e bound ∙ swapped (has_by (other_than holder more.holder more.other) bound) (has_by (other_than holder self.holder self.other) bound))
