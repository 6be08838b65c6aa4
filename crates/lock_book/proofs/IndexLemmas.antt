-- What takes and puts leave of the runs that an index keeps: for `take_runs`, `put_runs` and others.
use Rattle.lock_book.proofs.Common.{◌≡◌, ◌≢◌, ◌==◌, ◌<◌, ℕ, ◌++◌, inl, inr, Bool, true, false, not, ◌&&◌, ◌||◌, cond, Option, Some, None, List, [], ◌∷◌, All, refl, sym, ap, ◌∙◌, subst, arith, list_any, cases_Bool, not-true, nat_tests, All-cons, All-head, All-tail, All-weaker, Mode, Span, IsRun, Holder, Run, holder_of, HolderModes, AreRunsWhere, is_listed}
use Rattle.std.specs.List.{find}
use Rattle.std.proofs.lemmas.Bool.{and_from, and_parts, and_right, or_left, or_right, or_cases, not_from_false}
use Rattle.std.proofs.lemmas.List.Elements.{All-filter, filter_passes}
use Rattle.std.proofs.lemmas.List.Folds.{list_any-append}
use Rattle.std.proofs.lemmas.Map.Views.{any-filter_same}
use Rattle.summary_tree.specs.Cuts.{put_before}
use Rattle.interval_index.specs.Holders.{is_same_holder}
use Rattle.interval_index.specs.Tests.{has_key, is_from, without, with_run}
use Rattle.lock_book.specs.Indexing.{IsRunOf, is_others, without_left}

-- of keys (f, k, o), (a, l, b) and (c, m, d)
abbrev is_key : ℕ → ℕ → ℕ → ℕ → ℕ → ℕ → Bool
is_key f k o a l b = f == a && (k == l && o == b)

key_itself : (a l b : ℕ) → is_key a l b a l b ≡ true
key_itself a l b = grind (arith, nat_tests)

key_turned : (f k o a l b : ℕ) → is_key f k o a l b ≡ true → is_key a l b f k o ≡ true
key_turned f k o a l b h = grind (arith, nat_tests)

key_passed : (f k o a l b c m d : ℕ) → is_key a l b c m d ≡ true → is_key f k o a l b ≡ false → is_key f k o c m d ≡ false
key_passed f k o a l b c m d h e = grind (arith, nat_tests)

-- a run has its key
pub has_key-self : (run : Run) → has_key run.span.first (holder_of run) run ≡ true
has_key-self run = key_itself run.span.first run.class run.number

-- a run has the key of one that has its key
pub has_key-turned : (run other : Run) → has_key run.span.first (holder_of run) other ≡ true → has_key other.span.first (holder_of other) run ≡ true
has_key-turned run other h = key_turned run.span.first run.class run.number other.span.first other.class other.number h

-- what hasn't a key shares it with no run of its own key
pub has_key-passed : (first : ℕ) (holder : Holder) (run other : Run) → has_key run.span.first (holder_of run) other ≡ true → has_key first holder run ≡ false
    → has_key first holder other ≡ false
has_key-passed first holder run other h e =
    key_passed first holder.class holder.number run.span.first run.class run.number other.span.first other.class other.number h e

-- what is kept of some modes is kept of others, by another test, where that takes the same runs
pub AreRunsWhere-moves : (old new : HolderModes) (passes kept : Run → Bool) (runs : List Run)
    → ((run : Run) → IsRunOf old run → passes run ≡ true → IsRunOf new run × (kept run ≡ true))
    → ((run : Run) → IsRunOf new run → kept run ≡ true → IsRunOf old run × (passes run ≡ true)) → AreRunsWhere old passes runs → AreRunsWhere new kept runs
AreRunsWhere-moves old new passes kept runs there back are = record {
  each = All-weaker (λ run. IsRunOf old run × (passes run ≡ true)) (λ run. IsRunOf new run × (kept run ≡ true)) (λ run h. there run h.0 h.1) runs are.each;
  every = λ run is keeps. let h = back run is keeps in are.every run h.0 h.1;
}

-- also of the same modes by a test that agrees
pub AreRunsWhere-agrees : (modes : HolderModes) (passes kept : Run → Bool) (runs : List Run) → ((run : Run) → IsRunOf modes run → kept run ≡ passes run)
    → AreRunsWhere modes passes runs → AreRunsWhere modes kept runs
AreRunsWhere-agrees modes passes kept runs agrees are =
    AreRunsWhere-moves modes modes passes kept runs (λ run is h. (is, agrees run is ∙ h)) (λ run is h. (is, sym (agrees run is) ∙ h)) are

module _ (modes : HolderModes) (passes : Run → Bool) where
  -- a take leaves those of another key
  pub AreRunsWhere-takes : (first : ℕ) (holder : Holder) (runs : List Run) → AreRunsWhere modes passes runs
      → AreRunsWhere modes (λ run. passes run && not (has_key first holder run)) (without first holder runs)
  AreRunsWhere-takes first holder runs are = record {
    each = λ k d within.
        let was = All-filter (λ run. not (has_key first holder run)) (λ run. IsRunOf modes run × (passes run ≡ true)) runs are.each k d within in
        (was.0, and_from _ _ was.1 (filter_passes (λ run. not (has_key first holder run)) runs k d within));
    every = λ run is keeps.
        let parts = and_parts _ _ keeps in
        any-filter_same (has_key run.span.first (holder_of run)) (λ other. not (has_key first holder other)) true
        (λ other same. not_from_false _ (has_key-passed first holder run other same (not-true _ parts.1))) runs
        ∙ are.every run is parts.0;
  }

  or_swaps : (a b c : Bool) → (a || (b || c)) ≡ (b || (a || c))
  or_swaps true true c = refl
  or_swaps true false c = refl
  or_swaps false b c = refl

  any_put_at : (test : Run → Bool) (run x : Run) (xs ys : List Run) (b : Bool) → list_any test ys ≡ (test run || list_any test xs)
      → list_any test (cond b (run ∷ x ∷ xs) (x ∷ ys)) ≡ (test run || (test x || list_any test xs))
  any_put_at test run x xs ys true h = refl
  any_put_at test run x xs ys false h = ap (λ b. test x || b) h ∙ or_swaps (test x) (test run) (list_any test xs)

  -- what passes is found among more where it was, or is the one that was put
  any-put : (test p : Run → Bool) (run : Run) (xs : List Run) → list_any test (put_before p run xs) ≡ (test run || list_any test xs)
  any-put test p run [] = refl
  any-put test p run (x ∷ xs) = any_put_at test run x xs (put_before p run xs) (p x) (any-put test p run xs)

  all_put_at : (P : Run → Type 0) (run x : Run) (xs ys : List Run) (b : Bool) → P run → All P (x ∷ xs) → All P ys → All P (cond b (run ∷ x ∷ xs) (x ∷ ys))
  all_put_at P run x xs ys true h all more = All-cons P run (x ∷ xs) h all
  all_put_at P run x xs ys false h all more = All-cons P x ys (All-head P x xs all) more

  All-put : (P : Run → Type 0) (p : Run → Bool) (run : Run) (xs : List Run) → P run → All P xs → All P (put_before p run xs)
  All-put P p run [] h all = All-cons P run [] h all
  All-put P p run (x ∷ xs) h all = all_put_at P run x xs (put_before p run xs) (p x) h all (All-put P p run xs h (All-tail P x xs all))

  -- a put adds one
  pub AreRunsWhere-puts : (run : Run) (runs : List Run) → IsRunOf modes run → AreRunsWhere modes passes runs
      → AreRunsWhere modes (λ other. passes other || has_key run.span.first (holder_of run) other) (with_run run (without run.span.first (holder_of run) runs))
  AreRunsWhere-puts run runs is_run are =
      let first = run.span.first in
      let holder = holder_of run in
      let kept = λ (other : Run). passes other || has_key first holder other in
      record {
        each = All-put (λ other. IsRunOf modes other × (kept other ≡ true)) (is_from first holder) run (without first holder runs)
            (is_run, or_right (passes run) (has_key first holder run) (has_key-self run))
            (All-weaker (λ other. IsRunOf modes other × (passes other ≡ true)) (λ other. IsRunOf modes other × (kept other ≡ true))
            (λ other h. (h.0, or_left (passes other) (has_key first holder other) h.1)) (without first holder runs)
            (All-filter (λ other. not (has_key first holder other)) (λ other. IsRunOf modes other × (passes other ≡ true)) runs are.each));
        every = λ other is keeps.
            let test = has_key other.span.first (holder_of other) in
            any-put test (is_from first holder) run (without first holder runs)
            ∙ elim (cases_Bool (has_key first holder other)) [
              | inl same ↦ or_left (test run) (list_any test (without first holder runs)) (has_key-turned run other same)
              | inr apart ↦
                  or_right (test run) (list_any test (without first holder runs))
                  (any-filter_same test (λ x. not (has_key first holder x)) true
                  (λ x same. not_from_false _ (has_key-passed first holder other x same apart)) runs
                  ∙ are.every other is (elim (or_cases _ _ keeps) [
                    | inl h ↦ h
                    | inr h ↦ absurd (let e : true ≡ false = sym h ∙ apart in cc)
                  ]))
            ];
      }

and-true : (a : Bool) → (a && true) ≡ a
and-true true = refl
and-true false = refl

pub or-false : (a : Bool) → (a || false) ≡ a
or-false true = refl
or-false false = refl

and_not_or : (a b c : Bool) → (a && not (b || c)) ≡ ((a && not b) && not c)
and_not_or true true c = refl
and_not_or true false c = refl
and_not_or false b c = refl

neither : (a b : Bool) → not (a || b) ≡ (not b && not a)
neither true true = refl
neither true false = refl
neither false true = refl
neither false false = refl

or_or : (a b c : Bool) → (a || (b || c)) ≡ ((a || b) || c)
or_or true b c = refl
or_or false b c = refl

module _ (holder : Holder) where
  -- one more that is listed, as at a step of a loop
  listed_more : (run : Run) (xs : List (Mode × Span)) (x : Mode × Span) → is_listed holder (xs ++ x ∷ []) run ≡ (is_listed holder xs run || has_key x.1.first holder run)
  listed_more run xs x =
      list_any-append (λ listed. has_key listed.1.first holder run) xs (x ∷ []) ∙ ap (λ b. is_listed holder xs run || b) (or-false (has_key x.1.first holder run))

  module _ (modes : HolderModes) (passes : Run → Bool) (runs : List Run) where
    -- none, as before a loop
    pub takes_none : AreRunsWhere modes passes runs → AreRunsWhere modes (λ run. passes run && not (is_listed holder [] run)) runs
    takes_none are = AreRunsWhere-agrees modes passes (λ run. passes run && not (is_listed holder [] run)) runs (λ run is. and-true (passes run)) are

    pub puts_none : AreRunsWhere modes passes runs → AreRunsWhere modes (λ run. passes run || is_listed holder [] run) runs
    puts_none are = AreRunsWhere-agrees modes passes (λ run. passes run || is_listed holder [] run) runs (λ run is. or-false (passes run)) are

    -- and all, as behind one
    pub takes_all : (xs list : List (Mode × Span)) → xs ≡ list → AreRunsWhere modes (λ run. passes run && not (is_listed holder xs run)) runs
        → AreRunsWhere modes (λ run. passes run && not (is_listed holder list run)) runs
    takes_all xs list all are = subst (λ (l : List (Mode × Span)). AreRunsWhere modes (λ run. passes run && not (is_listed holder l run)) runs) all are

    pub puts_all : (xs list : List (Mode × Span)) → xs ≡ list → AreRunsWhere modes (λ run. passes run || is_listed holder xs run) runs
        → AreRunsWhere modes (λ run. passes run || is_listed holder list run) runs
    puts_all xs list all are = subst (λ (l : List (Mode × Span)). AreRunsWhere modes (λ run. passes run || is_listed holder l run) runs) all are

  module _ (modes : HolderModes) (passes : Run → Bool) (xs : List (Mode × Span)) (x : Mode × Span) (runs : List Run) where
    takes_more : AreRunsWhere modes (λ run. passes run && not (is_listed holder xs run)) runs
        → AreRunsWhere modes (λ run. passes run && not (is_listed holder (xs ++ x ∷ []) run)) (without x.1.first holder runs)
    takes_more are =
        AreRunsWhere-agrees modes _ (λ run. passes run && not (is_listed holder (xs ++ x ∷ []) run)) (without x.1.first holder runs)
        (λ run is. ap (λ b. passes run && not b) (listed_more run xs x) ∙ and_not_or (passes run) (is_listed holder xs run) (has_key x.1.first holder run))
        (AreRunsWhere-takes modes (λ run. passes run && not (is_listed holder xs run)) x.1.first holder runs are)

    puts_more : (run : Run) → run ≡ record { span = x.1; number = holder.number; class = holder.class; mode = x.0 }
        → IsRunOf modes run → AreRunsWhere modes (λ other. passes other || is_listed holder xs other) runs
        → AreRunsWhere modes (λ other. passes other || is_listed holder (xs ++ x ∷ []) other) (with_run run (without run.span.first (holder_of run) runs))
    puts_more run made is_run are =
        AreRunsWhere-agrees modes _ (λ other. passes other || is_listed holder (xs ++ x ∷ []) other) (with_run run (without run.span.first (holder_of run) runs))
        (λ other is.
        ap (λ b. passes other || b) (listed_more other xs x)
        ∙ or_or (passes other) (is_listed holder xs other) (has_key x.1.first holder other)
        ∙ ap (λ (r : Run). (passes other || is_listed holder xs other) || has_key r.span.first (holder_of r) other) (sym made))
        (AreRunsWhere-puts modes (λ other. passes other || is_listed holder xs other) run runs is_run are)

    -- where the list was asked by a holder that is this one
    pub takes_step : (new : List Run) (asked : Holder) → asked ≡ holder → new ≡ without x.1.first asked runs
        → AreRunsWhere modes (λ run. passes run && not (is_listed holder xs run)) runs
        → AreRunsWhere modes (λ run. passes run && not (is_listed holder (xs ++ x ∷ []) run)) new
    takes_step new asked same is are =
        subst (λ (l : List Run). AreRunsWhere modes (λ run. passes run && not (is_listed holder (xs ++ x ∷ []) run)) l)
        (sym (is ∙ ap (λ (h : Holder). without x.1.first h runs) same)) (takes_more are)

    pub puts_step : (new : List Run) (run : Run) → run ≡ record { span = x.1; number = holder.number; class = holder.class; mode = x.0 }
        → new ≡ with_run run (without run.span.first (holder_of run) runs) → IsRun (modes holder) x.1.first x.0 x.1
        → AreRunsWhere modes (λ other. passes other || is_listed holder xs other) runs
        → AreRunsWhere modes (λ other. passes other || is_listed holder (xs ++ x ∷ []) other) new
    puts_step new run made is its are =
        subst (λ (l : List Run). AreRunsWhere modes (λ other. passes other || is_listed holder (xs ++ x ∷ []) other) l) (sym is)
        (puts_more run made (subst (λ (r : Run). IsRunOf modes r) (sym made) its) are)

  -- a first one goes beside others
  pub takes_first : (modes : HolderModes) (x : Mode × Span) (rest : List (Mode × Span)) (runs : List Run) → AreRunsWhere modes (λ run. not (is_listed holder rest run)) runs
      → AreRunsWhere modes (λ run. not (is_listed holder (x ∷ rest) run)) (without x.1.first holder runs)
  takes_first modes x rest runs are =
      AreRunsWhere-agrees modes (λ run. not (is_listed holder rest run) && not (has_key x.1.first holder run)) (λ run. not (is_listed holder (x ∷ rest) run)) (without x.1.first holder runs)
      (λ run is. neither (has_key x.1.first holder run) (is_listed holder rest run))
      (AreRunsWhere-takes modes (λ run. not (is_listed holder rest run)) x.1.first holder runs are)

  -- and comes beside others
  pub puts_first : (modes : HolderModes) (passes : Run → Bool) (x : Mode × Span) (rest : List (Mode × Span)) (runs : List Run)
      → AreRunsWhere modes (λ run. (passes run || has_key x.1.first holder run) || is_listed holder rest run) runs → AreRunsWhere modes (λ run. passes run || is_listed holder (x ∷ rest) run) runs
  puts_first modes passes x rest runs are =
      AreRunsWhere-agrees modes (λ run. (passes run || has_key x.1.first holder run) || is_listed holder rest run) (λ run. passes run || is_listed holder (x ∷ rest) run) runs
      (λ run is. or_or (passes run) (has_key x.1.first holder run) (is_listed holder rest run)) are

out_twice : (first : ℕ) (holder : Holder) (x : Run) (xs : List Run) (b : Bool) → has_key first holder x ≡ b → without first holder (without first holder xs) ≡ without first holder xs
    → without first holder (cond (not b) (x ∷ without first holder xs) (without first holder xs)) ≡ cond (not b) (x ∷ without first holder xs) (without first holder xs)
out_twice first holder x xs true e rest = rest
out_twice first holder x xs false e rest = rw e (ap (λ ys. x ∷ ys) rest)

-- what was taken out isn't there a second time
pub without_twice : (first : ℕ) (holder : Holder) (runs : List Run) → without first holder (without first holder runs) ≡ without first holder runs
without_twice first holder [] = refl
without_twice first holder (x ∷ xs) = out_twice first holder x xs (has_key first holder x) refl (without_twice first holder xs)

-- so one that is left counts as taken out where its place is taken
pub left_twice : (holder : Holder) (left : Option ℕ) (runs : List Run) → without_left holder left (without_left holder left runs) ≡ without_left holder left runs
left_twice holder None runs = refl
left_twice holder (Some byte) runs = without_twice byte holder runs

-- where all runs are others', none of the owner's is found
pub none_of_owner : (first : ℕ) (holder : Holder) (runs : List Run) → All (λ run. is_others holder run ≡ true) runs → find (has_key first holder) runs ≡ None
none_of_owner first holder [] others = refl
none_of_owner first holder (x ∷ xs) others =
    let apart = not-true _ (All-head (λ run. is_others holder run ≡ true) x xs others) in
    ap (λ b. cond b (Some x) (find (has_key first holder) xs)) (and_right (first == x.span.first) (is_same_holder holder (holder_of x)) apart)
    ∙ none_of_owner first holder xs (All-tail (λ run. is_others holder run ≡ true) x xs others)

key_apart : (f k o a l b : ℕ) → a < f → is_key f k o a l b ≡ false
key_apart f k o a l b before = grind (arith, nat_tests)

-- a run that begins before all of these isn't listed among them
pub unlisted : (holder : Holder) (run : Run) (list : List (Mode × Span)) → All (λ listed. run.span.first < listed.1.first) list → is_listed holder list run ≡ false
unlisted holder run [] before = refl
unlisted holder run (x ∷ xs) before =
    ap (λ b. b || is_listed holder xs run)
    (key_apart x.1.first holder.class holder.number run.span.first run.class run.number (All-head (λ (listed : Mode × Span). run.span.first < listed.1.first) x xs before))
    ∙ unlisted holder run xs (All-tail (λ (listed : Mode × Span). run.span.first < listed.1.first) x xs before)

found_here : (p : Run → Bool) (x : Run) (xs : List Run) (b : Bool) → (b || list_any p xs) ≡ true → (list_any p xs ≡ true → find p xs ≢ None) → cond b (Some x) (find p xs) ≢ None
found_here p x xs true any later none = let e : Some x ≡ None = none in cc
found_here p x xs false any later none = later any none

-- where one passes one is found
pub is_found : (p : Run → Bool) (runs : List Run) → list_any p runs ≡ true → find p runs ≢ None
is_found p [] any none = let e : false ≡ true = any in cc
is_found p (x ∷ xs) any none = found_here p x xs (p x) any (is_found p xs) none
