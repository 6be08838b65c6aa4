-- A run that stands among others, and the others without it.
use Rattle.interval_index.proofs.Common.{◌≡◌, ℕ, ◌≤◌, Bool, true, false, not, cond, ◌&&◌, ◌||◌, Option, Some, None, List, [], ◌∷◌, ◌++◌, refl, sym, ap, ◌∙◌, arith, nat_tests, AllByRecursion, list_any, Holder, Run, holder_of, is_same_holder, is_by, has_by, conflicts_with, leb}
use Rattle.std.proofs.Common.{append-nil, ltb}
use Rattle.range_core.specs.declared.Mode.TheVariants.{Read}
use Rattle.interval_index.specs.declared.reach.Reach.{Reach}
use Rattle.interval_index.specs.declared.reach.Reaches.{Reaches}
use Rattle.interval_index.specs.declared.least.Least.{Least}
use Rattle.interval_index.specs.Holders.{is_before}
use Rattle.interval_index.specs.Reaching.{is_beyond, is_others_by, is_reached, other_than, outlasts, precedes, reaches, stays_without, TellsOf, TellsLeast, Tells}
use Rattle.interval_index.specs.Tests.{is_others_from}
use Rattle.interval_index.proofs.HolderLemmas.{by_either, by_itself, by_through, same_holds}
use Rattle.interval_index.proofs.Leasts.{absorbed}

swapped : (a b : Bool) → (a || b) ≡ (b || a)
swapped true true = refl
swapped true false = refl
swapped false true = refl
swapped false false = refl

grouped : (a b c : Bool) → (a || (b || c)) ≡ ((a || b) || c)
grouped true b c = refl
grouped false b c = refl

-- some run passes where one of the others does, or this one
any_among : (p : Run → Bool) (front back : List Run) (run : Run) → list_any p (front ++ run ∷ back) ≡ (list_any p (front ++ back) || p run)
any_among p [] back run = swapped (p run) (list_any p back)
any_among p (first ∷ front) back run = ap (λ b. p first || b) (any_among p front back run) ∙ grouped (p first) (list_any p (front ++ back)) (p run)

any_moved : (p : Run → Bool) (front back : List Run) (run : Run) → list_any p ((front ++ back) ++ run ∷ []) ≡ list_any p (front ++ run ∷ back)
any_moved p front back run =
    any_among p (front ++ back) [] run ∙ (ap (λ runs. list_any p runs || p run) (append-nil (front ++ back)) ∙ sym (any_among p front back run))

all_end : (P : Run → Type 0) (runs : List Run) (run : Run) → AllByRecursion P (runs ++ run ∷ []) → AllByRecursion P (run ∷ runs)
all_end P [] run h = h
all_end P (first ∷ runs) run h = let all = all_end P runs run h.1 in (all.0, (h.0, all.1))

all_moved : (P : Run → Type 0) (front back : List Run) (run : Run) → AllByRecursion P ((front ++ back) ++ run ∷ []) → AllByRecursion P (front ++ run ∷ back)
all_moved P [] back run h = all_end P back run h
all_moved P (first ∷ front) back run h = (h.0, all_moved P front back run h.1)

of_moved : (kept : Run → Bool) (reach : Reach) (front back : List Run) (run : Run) → TellsOf kept reach ((front ++ back) ++ run ∷ []) → TellsOf kept reach (front ++ run ∷ back)
of_moved kept reach front back run h = record { falls = h.falls; exact = λ holder byte. h.exact holder byte ∙ any_moved _ front back run }

least_moved : (least : Least) (front back : List Run) (run : Run) → TellsLeast least ((front ++ back) ++ run ∷ []) → TellsLeast least (front ++ run ∷ back)
least_moved least front back run h = record {
  last = all_moved (λ other. least.last ≤ other.span.last) front back run h.last;
  falls = h.falls;
  exact = λ holder bound. h.exact holder bound ∙ any_moved _ front back run;
}

-- what is told of runs does not depend on their order
pub told_moved : (reaches : Reaches) (front back : List Run) (run : Run) → Tells reaches ((front ++ back) ++ run ∷ []) → Tells reaches (front ++ run ∷ back)
told_moved reaches front back run h = record {
  all = of_moved _ reaches.all front back run h.all;
  writes = of_moved _ reaches.writes front back run h.writes;
  least = least_moved reaches.least front back run h.least;
}

any_end : (p : Run → Bool) (runs : List Run) (run : Run) → list_any p (runs ++ run ∷ []) ≡ (list_any p runs || p run)
any_end p runs run = any_among p runs [] run ∙ ap (λ others. list_any p others || p run) (append-nil runs)

-- where the run passes only if another one does, some pass with it as without it
any_with : (p : Run → Bool) (runs : List Run) (run : Run) → (p run ≡ true → list_any p runs ≡ true) → list_any p runs ≡ list_any p (runs ++ run ∷ [])
any_with p runs run h = absorbed (list_any p runs) (p run) h ∙ sym (any_end p runs run)

-- where the run passes only if another one does, the others pass as all do
any_left : (p : Run → Bool) (front back : List Run) (run : Run) → (p run ≡ true → list_any p (front ++ back) ≡ true) → list_any p (front ++ run ∷ back) ≡ list_any p (front ++ back)
any_left p front back run h = any_among p front back run ∙ sym (absorbed (list_any p (front ++ back)) (p run) h)

or_first : (a b : Bool) → (a || b) ≡ true → b ≡ false → a ≡ true
or_first true b h f = refl
or_first false b h f = absurd (cc)

weaker_at : (far q any more : Bool) → (far ≡ true → q ≡ true) → (any ≡ true → more ≡ true) → (far || any) ≡ true → (q || more) ≡ true
weaker_at true q any more f g h = ap (λ b. b || more) (f refl)
weaker_at false true any more f g h = refl
weaker_at false false any more f g h = g h

any_weaker : (far q : Run → Bool) (runs : List Run) → ((run : Run) → far run ≡ true → q run ≡ true) → list_any far runs ≡ true → list_any q runs ≡ true
any_weaker far q [] f h = absurd (cc)
any_weaker far q (run ∷ runs) f h = weaker_at (far run) (q run) (list_any far runs) (list_any q runs) (f run) (any_weaker far q runs f) h

-- one of the others passes where some run passes a test that is harder, and that this one fails
any_other : (q far : Run → Bool) (front back : List Run) (run : Run) → ((other : Run) → far other ≡ true → q other ≡ true) → far run ≡ false → list_any far (front ++ run ∷ back) ≡ true
    → list_any q (front ++ back) ≡ true
any_other q far front back run weaker fails h =
    any_weaker far q (front ++ back) weaker (or_first (list_any far (front ++ back)) (far run) (sym (any_among far front back run) ∙ h) fails)

reached_itself : (byte : ℕ) → is_reached (Some byte) byte ≡ true
reached_itself byte = grind (arith, nat_tests)

either_reached : (b : Bool) (other last : Option ℕ) (byte : ℕ) → is_reached other byte ≡ true → is_reached last byte ≡ true → cond b (is_reached other byte) (is_reached last byte) ≡ true
either_reached true other last byte h i = h
either_reached false other last byte h i = i

-- the byte that others reach, whoever asks but the owner of the run
reached_by_others : (reach : Reach) (asks its : Holder) (far : ℕ) (b : Bool) → is_same_holder its reach.holder ≡ b → ((byte : ℕ) → is_reached reach.other byte ≡ true → is_reached reach.last byte ≡ true)
    → cond b reach.last reach.other ≡ Some far → is_same_holder asks its ≡ false → reaches reach asks far ≡ true
reached_by_others reach asks its far true same falls h not =
    let is : its ≡ reach.holder = same_holds its reach.holder same in
    ap (λ o. cond o (is_reached reach.other far) (is_reached reach.last far)) (sym (ap (is_same_holder asks) is) ∙ not) ∙ (ap (λ o. is_reached o far) h ∙ reached_itself far)
reached_by_others reach asks its far false same falls h not =
    let other : is_reached reach.other far ≡ true = ap (λ o. is_reached o far) h ∙ reached_itself far in
    either_reached (is_same_holder asks reach.holder) reach.other reach.last far other (falls far other)

and_both : (a b : Bool) → (a && b) ≡ true → (a ≡ true) × (b ≡ true)
and_both true b h = (refl, h)
and_both false b h = absurd (cc)

both_and : (a b : Bool) → a ≡ true → b ≡ true → (a && b) ≡ true
both_and a b h i = ap (λ x. x && b) h ∙ i

and_false : (a b : Bool) → b ≡ false → (a && b) ≡ false
and_false true b h = h
and_false false b h = refl

not_so : (b : Bool) → not b ≡ true → b ≡ false
not_so true h = absurd (cc)
not_so false h = refl

farther_too : (byte last far end : ℕ) → leb byte last ≡ true → ltb last far ≡ true → leb far end ≡ true → leb byte end ≡ true
farther_too byte last far end h i k = grind (arith, nat_tests)

too_near : (last far : ℕ) → ltb last far ≡ true → leb far last ≡ false
too_near last far h = grind (arith, nat_tests)

-- the reach of the others, where they reach farther than the run
far_of : (kept : Run → Bool) (reach : Reach) (front back : List Run) (run : Run) (o : Option ℕ) → cond (is_same_holder (holder_of run) reach.holder) reach.last reach.other ≡ o → is_beyond o run.span.last ≡ true
    → TellsOf kept reach (front ++ run ∷ back) → (holder : Holder) (byte : ℕ) → (kept run && is_others_from holder byte run) ≡ true
    → list_any (λ other. kept other && is_others_from holder byte other) (front ++ back) ≡ true
far_of kept reach front back run None is h told holder byte passes = absurd (let no : false ≡ true = h in cc)
far_of kept reach front back run (Some far) is h told holder byte passes =
    let its = and_both (kept run) (is_others_from holder byte run) passes in
    let parts = and_both (not (is_same_holder holder (holder_of run))) (leb byte run.span.last) its.1 in
    any_other (λ other. kept other && is_others_from holder byte other) (λ other. kept other && is_others_from holder far other) front back run
    (λ other is_far.
    let k = and_both (kept other) (is_others_from holder far other) is_far in
    let o = and_both (not (is_same_holder holder (holder_of other))) (leb far other.span.last) k.1 in
    both_and (kept other) (is_others_from holder byte other) k.0
    (both_and (not (is_same_holder holder (holder_of other))) (leb byte other.span.last) o.0 (farther_too byte run.span.last far other.span.last parts.1 h o.1)))
    (and_false (kept run) (is_others_from holder far run) (and_false (not (is_same_holder holder (holder_of run))) (leb far run.span.last) (too_near run.span.last far h)))
    (sym (told.exact holder far) ∙ reached_by_others reach holder (holder_of run) far (is_same_holder (holder_of run) reach.holder) refl told.falls is (not_so (is_same_holder holder (holder_of run)) parts.0))

of_without : (kept : Run → Bool) (reach : Reach) (front back : List Run) (run : Run) → TellsOf kept reach (front ++ run ∷ back) → outlasts reach run ≡ true → TellsOf kept reach (front ++ back)
of_without kept reach front back run told far = record {
  falls = told.falls;
  exact = λ holder byte. told.exact holder byte ∙ any_left (λ other. kept other && is_others_from holder byte other) front back run (far_of kept reach front back run _ refl far told holder byte);
}

-- the reach of those that are kept, where the run isn't
of_others : (kept : Run → Bool) (reach : Reach) (front back : List Run) (run : Run) → TellsOf kept reach (front ++ run ∷ back) → kept run ≡ false → TellsOf kept reach (front ++ back)
of_others kept reach front back run told out = record {
  falls = told.falls;
  exact = λ holder byte. told.exact holder byte ∙ any_left (λ other. kept other && is_others_from holder byte other) front back run
      (λ passes. let k = and_both (kept run) (is_others_from holder byte run) passes in absurd (let no : false ≡ true = sym out ∙ k.0 in cc));
}

all_left : (P : Run → Type 0) (front back : List Run) (run : Run) → AllByRecursion P (front ++ run ∷ back) → AllByRecursion P (front ++ back)
all_left P [] back run h = h.1
all_left P (first ∷ front) back run h = (h.0, all_left P front back run h.1)

before_at : (b : Bool) (other : Option Holder) (least its : Holder) → is_before (Some least) its ≡ true → is_before other its ≡ true → is_before (cond b other (Some least)) its ≡ true
before_at true other least its h i = i
before_at false other least its h i = h

-- the least owner, whoever asks, comes before the run's
before_all : (asks its : Holder) (least other : Option Holder) → is_before least its ≡ true → is_before other its ≡ true → is_before (other_than asks least other) its ≡ true
before_all asks its None other h i = absurd (let no : false ≡ true = h in cc)
before_all asks its (Some least) other h i = before_at (is_same_holder asks least) other least its h i

-- one of the others comes no later, where the run does
earlier_of : (least : Least) (front back : List Run) (run : Run) (o : Option Holder) (holder bound : Holder) → other_than holder least.holder least.other ≡ o → is_before o (holder_of run) ≡ true
    → TellsLeast least (front ++ run ∷ back) → is_others_by holder bound run ≡ true → list_any (is_others_by holder bound) (front ++ back) ≡ true
earlier_of least front back run None holder bound is h told passes = absurd (let no : false ≡ true = h in cc)
earlier_of least front back run (Some first) holder bound is h told passes =
    let later = not_so (is_by (holder_of run) first) h in
    let its = and_both (not (is_same_holder holder (holder_of run))) (is_by (holder_of run) bound) passes in
    any_other (is_others_by holder bound) (is_others_by holder first) front back run
    (λ other by.
    let o = and_both (not (is_same_holder holder (holder_of other))) (is_by (holder_of other) first) by in
    both_and (not (is_same_holder holder (holder_of other))) (is_by (holder_of other) bound) o.0
    (by_through (holder_of other) first bound o.1 (by_through first (holder_of run) bound (by_either (holder_of run) first later) its.1)))
    (and_false (not (is_same_holder holder (holder_of run))) (is_by (holder_of run) first) later)
    (sym (told.exact holder first) ∙ (ap (λ e. has_by e first) is ∙ by_itself first))

least_without : (least : Least) (front back : List Run) (run : Run) → TellsLeast least (front ++ run ∷ back) → is_before least.holder (holder_of run) ≡ true → is_before least.other (holder_of run) ≡ true
    → TellsLeast least (front ++ back)
least_without least front back run told h i = record {
  last = all_left (λ other. least.last ≤ other.span.last) front back run told.last;
  falls = told.falls;
  exact = λ holder bound. told.exact holder bound
      ∙ any_left (is_others_by holder bound) front back run (earlier_of least front back run _ holder bound refl (before_all holder (holder_of run) least.holder least.other h i) told);
}

writes_without : (reach : Reach) (front back : List Run) (run : Run) (b : Bool) → conflicts_with Read run.mode ≡ b → (not b || outlasts reach run) ≡ true
    → TellsOf (λ other. conflicts_with Read other.mode) reach (front ++ run ∷ back) → TellsOf (λ other. conflicts_with Read other.mode) reach (front ++ back)
writes_without reach front back run true is h told = of_without (λ other. conflicts_with Read other.mode) reach front back run told h
writes_without reach front back run false is h told = of_others (λ other. conflicts_with Read other.mode) reach front back run told is

-- what is told of runs is told of the others, where the test says so
pub told_without : (reaches : Reaches) (front back : List Run) (run : Run) → Tells reaches (front ++ run ∷ back) → stays_without reaches run ≡ true → Tells reaches (front ++ back)
told_without reaches front back run told stays =
    let one = and_both (outlasts reaches.all run) _ stays in
    let two = and_both (precedes reaches.least run) _ one.1 in
    let three = and_both (ltb reaches.least.last run.span.last) _ two.0 in
    let four = and_both (is_before reaches.least.holder (holder_of run)) (is_before reaches.least.other (holder_of run)) three.1 in
    record {
      all = of_without _ reaches.all front back run told.all one.0;
      writes = writes_without reaches.writes front back run (conflicts_with Read run.mode) refl two.1 told.writes;
      least = least_without reaches.least front back run told.least four.0 four.1;
    }

-- another owner's run that is kept reaches as far as the run does, whoever asks
farther_of : (kept : Run → Bool) (reach : Reach) (runs : List Run) (run : Run) (o : Option ℕ) → cond (is_same_holder (holder_of run) reach.holder) reach.last reach.other ≡ o → is_beyond o run.span.last ≡ true
    → TellsOf kept reach runs → (holder : Holder) (byte : ℕ) → (kept run && is_others_from holder byte run) ≡ true → list_any (λ other. kept other && is_others_from holder byte other) runs ≡ true
farther_of kept reach runs run None is h told holder byte passes = absurd (let no : false ≡ true = h in cc)
farther_of kept reach runs run (Some far) is h told holder byte passes =
    let its = and_both (kept run) (is_others_from holder byte run) passes in
    let parts = and_both (not (is_same_holder holder (holder_of run))) (leb byte run.span.last) its.1 in
    any_weaker (λ other. kept other && is_others_from holder far other) (λ other. kept other && is_others_from holder byte other) runs
    (λ other is_far.
    let k = and_both (kept other) (is_others_from holder far other) is_far in
    let o = and_both (not (is_same_holder holder (holder_of other))) (leb far other.span.last) k.1 in
    both_and (kept other) (is_others_from holder byte other) k.0
    (both_and (not (is_same_holder holder (holder_of other))) (leb byte other.span.last) o.0 (farther_too byte run.span.last far other.span.last parts.1 h o.1)))
    (sym (told.exact holder far) ∙ reached_by_others reach holder (holder_of run) far (is_same_holder (holder_of run) reach.holder) refl told.falls is (not_so (is_same_holder holder (holder_of run)) parts.0))

-- what is told of runs is told of them with one that others outlast
pub of_with : (kept : Run → Bool) (reach : Reach) (runs : List Run) (run : Run) → TellsOf kept reach runs → outlasts reach run ≡ true → TellsOf kept reach (runs ++ run ∷ [])
of_with kept reach runs run told far = record {
  falls = told.falls;
  exact = λ holder byte. told.exact holder byte ∙ any_with (λ other. kept other && is_others_from holder byte other) runs run (farther_of kept reach runs run _ refl far told holder byte);
}

-- another owner comes no later than the run's
earlier_than : (least : Least) (runs : List Run) (run : Run) (o : Option Holder) (holder bound : Holder) → other_than holder least.holder least.other ≡ o → is_before o (holder_of run) ≡ true
    → TellsLeast least runs → is_others_by holder bound run ≡ true → list_any (is_others_by holder bound) runs ≡ true
earlier_than least runs run None holder bound is h told passes = absurd (let no : false ≡ true = h in cc)
earlier_than least runs run (Some first) holder bound is h told passes =
    let later = not_so (is_by (holder_of run) first) h in
    let its = and_both (not (is_same_holder holder (holder_of run))) (is_by (holder_of run) bound) passes in
    any_weaker (is_others_by holder first) (is_others_by holder bound) runs
    (λ other by.
    let o = and_both (not (is_same_holder holder (holder_of other))) (is_by (holder_of other) first) by in
    both_and (not (is_same_holder holder (holder_of other))) (is_by (holder_of other) bound) o.0
    (by_through (holder_of other) first bound o.1 (by_through first (holder_of run) bound (by_either (holder_of run) first later) its.1)))
    (sym (told.exact holder first) ∙ (ap (λ e. has_by e first) is ∙ by_itself first))

all_with : (P : Run → Type 0) (runs : List Run) (run : Run) → AllByRecursion P runs → P run → AllByRecursion P (runs ++ run ∷ [])
all_with P [] run h its = (its, tt)
all_with P (first ∷ runs) run h its = (h.0, all_with P runs run h.1 its)

-- the least owners of runs are those with a run before whose owner two come
pub least_with : (least : Least) (runs : List Run) (run : Run) → TellsLeast least runs → precedes least run ≡ true → TellsLeast least (runs ++ run ∷ [])
least_with least runs run told before =
    let ends = and_both (ltb least.last run.span.last) _ before in
    let owners = and_both (is_before least.holder (holder_of run)) (is_before least.other (holder_of run)) ends.1 in
    record {
      last = all_with (λ other. least.last ≤ other.span.last) runs run told.last (ends_later least.last run.span.last ends.0);
      falls = told.falls;
      exact = λ holder bound. told.exact holder bound
          ∙ any_with (is_others_by holder bound) runs run (earlier_than least runs run _ holder bound refl (before_all holder (holder_of run) least.holder least.other owners.0 owners.1) told);
    }
  where
    ends_later : (last other : ℕ) → ltb last other ≡ true → last ≤ other
    ends_later last other h = grind (arith, nat_tests)
