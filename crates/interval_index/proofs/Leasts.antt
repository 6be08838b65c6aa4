-- Facts on the least owners of runs.
use Rattle.interval_index.proofs.Common.{◌≡◌, ℕ, ◌≤◌, Bool, true, false, not, ◌&&◌, ◌||◌, leb, Option, List, [], ◌∷◌, ◌++◌, refl, sym, ap, ◌∙◌, arith, list_any, AllByRecursion, Mode, Conflict, Holder, Run, Reaching, holder_of, is_same_holder, is_by, has_by, conflicts_with, reaches_lock, IsLeastOf}
use Rattle.std.proofs.lemmas.Bool.{le-leb}
use Rattle.std.proofs.lemmas.List.Folds.{list_any-append}
use Rattle.range_core.specs.declared.Mode.TheVariants.{Read, Write}
use Rattle.interval_index.specs.declared.least.Least.{Least}
use Rattle.interval_index.specs.Reaching.{TellsLeast, is_others_by, other_than}
use Rattle.interval_index.specs.Leasts.{reaches_by}

-- a test that implies another adds nothing to it
pub absorbed : (a b : Bool) → (b ≡ true → a ≡ true) → a ≡ (a || b)
absorbed true b f = refl
absorbed false true f = f refl
absorbed false false f = refl

absorbing : (a b : Bool) → (a ≡ true → b ≡ true) → b ≡ (a || b)
absorbing true true f = refl
absorbing true false f = f refl
absorbing false b f = refl

falls_at : (a b c d : Bool) → (a ≡ true → b ≡ true) → (c ≡ true → d ≡ true) → (a || c) ≡ true → (b || d) ≡ true
falls_at true b c d f g h = ap (λ e. e || d) (f refl)
falls_at false true c d f g h = refl
falls_at false false c d f g h = g h

any_falls : (p q : Run → Bool) → ((x : Run) → p x ≡ true → q x ≡ true) → (xs : List Run) → list_any p xs ≡ true → list_any q xs ≡ true
any_falls p q f [] h = h
any_falls p q f (x ∷ xs) h = falls_at (p x) (q x) (list_any p xs) (list_any q xs) (f x) (any_falls p q f xs) h

and_left_true : (a b : Bool) → (a && b) ≡ true → a ≡ true
and_left_true true b h = refl
and_left_true false b h = h

others_at : (k n l i : Bool) → ((k && (n && l)) && i) ≡ true → (n && i) ≡ true
others_at true true true i h = h
others_at true true false i h = absurd (cc)
others_at true false l i h = absurd (cc)
others_at false n l i h = absurd (cc)

-- what is looked for, by owners no later than a bound, is another owner's
others_by : (query : Reaching) (bound : Holder) (run : Run) → reaches_by query bound run ≡ true → is_others_by query.holder bound run ≡ true
others_by query bound run h =
    others_at (conflicts_with query.wanted run.mode) (not (is_same_holder query.holder (holder_of run))) (leb query.byte run.span.last) (is_by (holder_of run) bound) h

-- what of the runs none is looked for adds nothing
pub passed_by : (query : Reaching) (least : Option Holder) (seen runs : List Run) → list_any (reaches_lock query.holder query.byte query.wanted) runs ≡ false → IsLeastOf query least seen → IsLeastOf query least (seen ++ runs)
passed_by query least seen runs none told = record {
  exact = λ bound.
      let p = reaches_by query bound in
      let nothing = λ (e : list_any p runs ≡ true). any_falls p (reaches_lock query.holder query.byte query.wanted) (λ x h. and_left_true (reaches_lock query.holder query.byte query.wanted x) (is_by (holder_of x) bound) h) runs e in
      told.exact bound ∙ (absorbed (list_any p seen) (list_any p runs) (λ e. absurd (let t = nothing e in cc)) ∙ sym (list_any-append p seen runs));
}

-- nor do runs of which no owner that matters is lesser
pub no_lesser : (query : Reaching) (least : Option Holder) (told : Least) (seen runs : List Run) → TellsLeast told runs
    → ((bound : Holder) → has_by (other_than query.holder told.holder told.other) bound ≡ true → has_by least bound ≡ true)
    → IsLeastOf query least seen → IsLeastOf query least (seen ++ runs)
no_lesser query least told seen runs tells lesser of = record {
  exact = λ bound.
      let p = reaches_by query bound in
      of.exact bound ∙ (absorbed (list_any p seen) (list_any p runs) (λ e. sym (of.exact bound) ∙ lesser bound (tells.exact query.holder bound ∙ any_falls p (is_others_by query.holder bound) (others_by query bound) runs e)) ∙ sym (list_any-append p seen runs));
}

each_at : (k n l i : Bool) → k ≡ true → l ≡ true → (n && i) ≡ ((k && (n && l)) && i)
each_at true true true i h e = refl
each_at true false true i h e = refl
each_at false n l i h e = absurd (cc)
each_at true n false i h e = absurd (cc)

-- what conflicts with a read lock conflicts with each
conflicts_all : (wanted held : Mode) → Conflict wanted Read → conflicts_with wanted held ≡ true
conflicts_all Read held h = absurd h
conflicts_all Write held h = refl

pub same_or : (a b c d : Bool) → a ≡ b → c ≡ d → (a || c) ≡ (b || d)
same_or a b c d h e = ap (λ x. x || c) h ∙ ap (λ x. b || x) e

-- of runs that all reach the byte, all are looked for that are another owner's, where read locks conflict too
all_reach : (query : Reaching) (bound : Holder) (last : ℕ) (runs : List Run) → Conflict query.wanted Read → query.byte ≤ last → AllByRecursion (λ run. last ≤ run.span.last) runs
    → list_any (is_others_by query.holder bound) runs ≡ list_any (reaches_by query bound) runs
all_reach query bound last [] w r h = refl
all_reach query bound last (x ∷ xs) w r h =
    let l : last ≤ x.span.last = h.0 in
    let e = each_at (conflicts_with query.wanted x.mode) (not (is_same_holder query.holder (holder_of x))) (leb query.byte x.span.last) (is_by (holder_of x) bound) (conflicts_all query.wanted x.mode w) (le-leb query.byte x.span.last (omega arith)) in
    same_or (is_others_by query.holder bound x) (reaches_by query bound x) (list_any (is_others_by query.holder bound) xs) (list_any (reaches_by query bound) xs) e (all_reach query bound last xs w r h.1)

-- so their least owner that is another is the least, where the one that was seen is no lesser
pub all_taken : (query : Reaching) (least : Option Holder) (told : Least) (seen runs : List Run) → Conflict query.wanted Read → query.byte ≤ told.last → TellsLeast told runs
    → ((bound : Holder) → has_by least bound ≡ true → has_by (other_than query.holder told.holder told.other) bound ≡ true)
    → IsLeastOf query least seen → IsLeastOf query (other_than query.holder told.holder told.other) (seen ++ runs)
all_taken query least told seen runs w r tells lesser of = record {
  exact = λ bound.
      let p = reaches_by query bound in
      let all = tells.exact query.holder bound ∙ all_reach query bound told.last runs w r tells.last in
      all ∙ (absorbing (list_any p seen) (list_any p runs) (λ e. sym all ∙ lesser bound (of.exact bound ∙ e)) ∙ sym (list_any-append p seen runs));
}
