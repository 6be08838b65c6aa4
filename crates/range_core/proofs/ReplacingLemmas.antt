-- What stands in the place of the touched runs after a set, and the whole list with it: for `replacement`, `RangeList::set` and
-- `RangeList::set_reserved`.
use Rattle.std.proofs.Common.{rules, ℕ, ◌≡◌, ◌≢◌, ◌+◌, ◌-◌, ◌<◌, ◌≤◌, refl, ap, sym, ◌∙◌, ◌⊎◌, Option, Some, None, List, [], ◌∷◌, ◌++◌, All, AllPairs, length, take, drop, get_or, subst, arith, inl, inr}
use Rattle.std.proofs.lemmas.Grind.{common_steps}
use Rattle.std.proofs.lemmas.Bool.{cases_lt, false≢true}
use Rattle.std.proofs.lemmas.List.{length-append, get_or_append_left, get_or-append-add}
use Rattle.std.specs.List.{between}
use Rattle.std.proofs.lemmas.List.Edits.{get_or-between, length-between, split_between}
use Rattle.std.proofs.lemmas.List.Elements.{All-append}
use Rattle.range_core.specs.declared.Mode.{Mode}
use Rattle.range_core.specs.declared.Span.{Span}
use Rattle.range_core.specs.declared.Mode.TheVariants.{Read, Write}
use Rattle.range_core.specs.Ranges.{AreReads, Conflict, Covers, IsApart, IsByteRange, SplitsRun}
use Rattle.range_core.specs.Changes.{mode_in, SetsMode}
use Rattle.range_core.specs.Replacing.{AreInOrder, AreTouched, own_run, IsInside, IsLeftEnd, IsReplacement, IsRightEnd}
use Rattle.range_core.proofs.EndLemmas.{All-own_run}
use Rattle.range_core.proofs.ListLemmas.{AllPairs-append, AllPairs-few, ordered_parts}
use Rattle.range_core.proofs.ModeLemmas.{cases_covers, held_at, is_covered-true, uncovered, mode_in-append, mode_in-at, mode_in-none, mode_or, mode_or-None}

-- the own run gives its mode to the bytes from its first to its last, and has two ends at most
own_mode : (mode : Option Mode) (first last byte : ℕ) → first ≤ byte → byte ≤ last → mode_in (own_run mode first last) byte ≡ mode
own_mode None first last byte from upto = refl
own_mode (Some own) first last byte from upto = rw (is_covered-true (record { first = first; last = last }) byte (from, upto)) refl

own_single : (mode : Option Mode) (first last : ℕ) → length (own_run mode first last) ≤ 1
own_single None first last = omega arith
own_single (Some own) first last = omega arith

-- the modes of three lists in a row
mode_in-three : (a b c : List (Mode × Span)) (byte : ℕ) → mode_in (a ++ (b ++ c)) byte ≡ mode_or (mode_in a byte) (mode_or (mode_in b byte) (mode_in c byte))
mode_in-three a b c byte = mode_in-append a (b ++ c) byte ∙ ap (λ m. mode_or (mode_in a byte) m) (mode_in-append b c byte)

-- the two ends, and the own run between them
replaced_modes : (touched left right : List (Mode × Span)) (span : Span) (mode : Option Mode) (first last : ℕ) → span.first ≤ span.last
    → IsLeftEnd touched span mode first left → IsRightEnd touched span mode last right
    → SetsMode (mode_in touched) (mode_in (left ++ (own_run mode first last ++ right))) span mode
replaced_modes touched left right span mode first last range l r byte =
    search (rules, mode_in-three, cases_lt, mode_in-none, All-own_run, uncovered, mode_or-None, own_mode, cases_covers, is_covered-true, false≢true)

-- the one run of a list covers the bytes to which it gives a mode
covers_one : (run : Mode × Span) (byte : ℕ) (mode : Mode) → mode_in (run ∷ []) byte ≡ Some mode → Covers run.1 byte
covers_one run byte mode is = grind (arith, common_steps, cases_covers)

own_none : (mode : Option Mode) (first last : ℕ) → mode ≡ None → length (own_run mode first last) ≡ 0
own_none None first last is = refl
own_none (Some own) first last is = absurd (let none : Some own ≡ None = is in cc)

-- the byte before an own run with a piece beside it, and the one behind
left_byte : (touched left : List (Mode × Span)) (piece : Mode × Span) (span : Span) (mode : Option Mode) (first : ℕ)
    → IsLeftEnd touched span mode first (piece ∷ left) → mode_in touched piece.1.last ≡ Some piece.0
left_byte touched left piece span mode first l = grind (arith, common_steps, mode_in-at, AllPairs-few)

right_byte : (touched right : List (Mode × Span)) (piece : Mode × Span) (span : Span) (mode : Option Mode) (last : ℕ)
    → IsRightEnd touched span mode last (piece ∷ right) → mode_in touched piece.1.first ≡ Some piece.0
right_byte touched right piece span mode last r = grind (arith, common_steps, mode_in-at, AllPairs-few)

-- of the one touched run pieces stay at both ends only where the range lies inside it
one_left : (run : Mode × Span) (left right : List (Mode × Span)) (span : Span) (mode : Option Mode) (first last : ℕ)
    → IsLeftEnd (run ∷ []) span mode first left → IsRightEnd (run ∷ []) span mode last right → (length left + length right ≤ 1) ⊎ IsInside (run ∷ []) span
one_left run [] right span mode first last l r = inl (omega (arith, r.single))
one_left run (piece ∷ left) [] span mode first last l r = inl (omega (arith, l.single))
one_left run (piece ∷ left) (other ∷ right) span mode first last l r =
    let before = covers_one run piece.1.last piece.0 (left_byte (run ∷ []) left piece span mode first l) in
    let behind = covers_one run other.1.first other.0 (right_byte (run ∷ []) right other span mode last r) in
    let is_before = (l.beside 0 piece (omega arith)).1 in
    let is_behind = (r.beside 0 other (omega arith)).0 in
    inr (record {
      some = omega arith;
      before = λ d. omega (arith, before.0, is_before, l.at_most);
      behind = λ d. omega (arith, behind.1, is_behind, r.at_least);
    })

none_left : (right : List (Mode × Span)) (span : Span) (mode : Option Mode) (last : ℕ) → IsRightEnd [] span mode last right → length right ≡ 0
none_left [] span mode last r = refl
none_left (piece ∷ right) span mode last r = absurd (let none : None ≡ Some piece.0 = right_byte [] right piece span mode last r in cc)

-- so an unlock leaves no more runs than it touches, unless it lies inside the one that it touches
few_left : (touched left right : List (Mode × Span)) (span : Span) (mode : Option Mode) (first last : ℕ) → IsLeftEnd touched span mode first left
    → IsRightEnd touched span mode last right → (length left + length right ≤ length touched) ⊎ IsInside touched span
few_left [] left right span mode first last l r = inl (omega (arith, l.few, none_left right span mode last r))
few_left (run ∷ []) left right span mode first last l r = one_left run left right span mode first last l r
few_left (run ∷ (other ∷ more)) left right span mode first last l r = inl (omega (arith, l.single, r.single))

unlock_left : (touched left right : List (Mode × Span)) (span : Span) (mode : Option Mode) (first last : ℕ) → IsLeftEnd touched span mode first left
    → IsRightEnd touched span mode last right → mode ≡ None → (length (left ++ (own_run mode first last ++ right)) ≤ length touched) ⊎ IsInside touched span
unlock_left touched left right span mode first last l r is = elim (few_left touched left right span mode first last l r) [
  | inl few ↦ inl (omega (arith, few, length-append left (own_run mode first last ++ right), length-append (own_run mode first last) right, own_none mode first last is))
  | inr inside ↦ inr inside
]

-- what a set leaves in the place of the touched runs, from the two ends of its own run
pub replaced : (touched left right : List (Mode × Span)) (span : Span) (mode : Option Mode) (first last : ℕ) → IsByteRange span
    → IsLeftEnd touched span mode first left → IsRightEnd touched span mode last right
    → IsReplacement touched span mode (left ++ (own_run mode first last ++ right))
replaced touched left right span mode first last range l r =
    let own = own_run mode first last in
    let InFile = λ (run : Mode × Span). IsByteRange run.1 in
    let ends : first ≤ last = omega (arith, l.at_most, r.at_least, range.0) in
    record {
      modes = replaced_modes touched left right span mode first last range.0 l r;
      in_order = record {
        ranges = All-append InFile left (own ++ right)
            (λ k d within. ((l.beside k d within).0, omega (arith, (l.beside k d within).1, r.within)))
            (All-append InFile own right
            (All-own_run InFile mode first last (λ m is. (ends, r.within)))
            (λ k d within. (r.beside k d within).1));
        apart = AllPairs-append IsApart left (own ++ right) (AllPairs-few IsApart left l.single)
            (AllPairs-append IsApart own right (AllPairs-few IsApart own (own_single mode first last)) (AllPairs-few IsApart right r.single)
            (All-own_run (λ x. All (IsApart x) right) mode first last (λ m is k d within.
            (omega (arith, (r.beside k d within).0), λ touch same. (r.beside k d within).2 (is ∙ ap Some same)))))
            (λ i e inside. let x = l.beside i e inside in All-append (IsApart (get_or left i e)) own right
            (All-own_run (IsApart (get_or left i e)) mode first last (λ m is.
            (omega (arith, x.1), λ touch same. x.2 (is ∙ ap Some (sym same)))))
            (λ k d within. (omega (arith, x.1, (r.beside k d within).0), λ touch. absurd (omega (arith, x.1, (r.beside k d within).0)))));
      };
      few = omega (arith, length-append left (own ++ right), length-append own right, own_single mode first last, l.few, r.single);
      unlock = unlock_left touched left right span mode first last l r;
      before = λ run far all. let clear = l.apart run last far all in
          All-append (IsApart run) left (own ++ right) clear.0 (All-append (IsApart run) own right clear.1
          (λ k d within. (omega (arith, (r.beside k d within).0), λ touch. absurd (omega (arith, (r.beside k d within).0)))));
      behind = λ run far all. let clear = r.apart run first far all in
          All-append (λ x. IsApart x run) left (own ++ right)
          (λ k d within. (omega (arith, (l.beside k d within).1), λ touch. absurd (omega (arith, (l.beside k d within).1))))
          (All-append (λ x. IsApart x run) own right clear.1 clear.0);
    }

-- what holds of each element of two lists in a row
All-first : (P : Mode × Span → Type 0) (xs ys : List (Mode × Span)) → All P (xs ++ ys) → All P xs
All-first P xs ys all k d within = search (rules, length-append, get_or_append_left)

All-second : (P : Mode × Span → Type 0) (xs ys : List (Mode × Span)) → All P (xs ++ ys) → All P ys
All-second P xs ys all k d within = search (rules, length-append, get_or-append-add)

-- the whole list after a set
pub record IsSet (old new : List (Mode × Span)) (span : Span) (mode : Option Mode) : Type 0 where
  pub modes : SetsMode (mode_in old) (mode_in new) span mode
  pub in_order : AreInOrder new

-- the runs before those that a set touches stay, and those behind them
pub set_between : (before touched behind put : List (Mode × Span)) (span : Span) (mode : Option Mode) → AreInOrder (before ++ (touched ++ behind))
    → All (λ run. run.1.last + 1 < span.first) before → All (λ run. span.last + 1 < run.1.first) behind → IsReplacement touched span mode put
    → IsSet (before ++ (touched ++ behind)) (before ++ (put ++ behind)) span mode
set_between before touched behind put span mode in_order lower higher replacement =
    let InFile = λ (run : Mode × Span). IsByteRange run.1 in
    let rest = ordered_parts IsApart before (touched ++ behind) in_order.apart in
    let last = ordered_parts IsApart touched behind rest.second in
    let rest_ranges = All-second InFile before (touched ++ behind) in_order.ranges in
    record {
      modes = λ byte.
          mode_in-three before put behind byte
          ∙ elim (cases_covers span byte) [
            | inl covers ↦
                let no_before : mode_in before byte ≡ None = mode_in-none before byte (λ k d within inside. omega (arith, lower k d within, inside.1, covers.0)) in
                let no_behind : mode_in behind byte ≡ None = mode_in-none behind byte (λ k d within inside. omega (arith, higher k d within, inside.0, covers.1)) in
                let put_mode = rw (is_covered-true span byte covers) at (replacement.modes byte) in
                rw (no_before, no_behind, put_mode, is_covered-true span byte covers) (mode_or-None mode)
            | inr outside ↦
                let put_mode = rw outside at (replacement.modes byte) in
                rw (put_mode, outside) (sym (mode_in-three before touched behind byte))
          ];
      in_order = record {
        ranges = All-append InFile before (put ++ behind) (All-first InFile before (touched ++ behind) in_order.ranges)
            (All-append InFile put behind replacement.in_order.ranges (All-second InFile touched behind rest_ranges));
        apart = AllPairs-append IsApart before (put ++ behind) rest.first
            (AllPairs-append IsApart put behind replacement.in_order.apart last.second
            (λ i d inside j e within. replacement.behind (get_or behind j e) (higher j e within) (λ k f there. last.across k f there j e within) i d inside))
            (λ i d inside. All-append (IsApart (get_or before i d)) put behind
            (replacement.before (get_or before i d) (lower i d inside) (All-first (IsApart (get_or before i d)) touched behind (rest.across i d inside)))
            (All-second (IsApart (get_or before i d)) touched behind (rest.across i d inside)));
      };
    }

-- the same where the touched runs stand at these places, from what was lent of the two lists
pub set_at : (runs lent put lent_put now : List (Mode × Span)) (span : Span) (mode : Option Mode) (start end : ℕ)
    → All (λ run. IsByteRange run.1) runs → AllPairs IsApart runs → lent ≡ runs → lent_put ≡ put → AreTouched runs span start end
    → IsReplacement (between start end lent) span mode put → now ≡ take start runs ++ (lent_put ++ drop end runs) → IsSet runs now span mode
set_at runs lent put lent_put now span mode start end ranges apart lent_is put_is touched replacement now_is =
    let parts = split_between runs start end touched.ordered in
    let in_order : AreInOrder runs = record { ranges = ranges; apart = apart } in
    let replaced_there = subst (λ l. IsReplacement (between start end l) span mode put) lent_is replacement in
    let set = set_between (take start runs) (between start end runs) (drop end runs) put span mode (subst AreInOrder parts in_order) touched.before touched.behind replaced_there in
    subst (λ new. IsSet runs new span mode) (sym (now_is ∙ ap (λ l. take start runs ++ (l ++ drop end runs)) put_is))
    (subst (λ old. IsSet old (take start runs ++ (put ++ drop end runs)) span mode) (sym parts) set)

-- an unlock that leaves more runs than it touches splits a run
pub splits_at : (runs lent put : List (Mode × Span)) (span : Span) (mode : Option Mode) (start end : ℕ) → AllPairs IsApart runs → lent ≡ runs
    → AreTouched runs span start end → IsReplacement (between start end lent) span mode put → mode ≡ None → end - start < length put
    → SplitsRun (mode_in runs) span
splits_at runs lent put span mode start end apart lent_is touched replacement unlock more =
    let replaced_there = subst (λ l. IsReplacement (between start end l) span mode put) lent_is replacement in
    let count = length-between runs start end touched.within in
    elim (replaced_there.unlock unlock) [
      | inl few ↦ absurd (omega (arith, few, count, more))
      | inr inside ↦
          let blank : Mode × Span = (Read, record { first = 0; last = 0 }) in
          let run = get_or runs start blank in
          let is : get_or (between start end runs) 0 blank ≡ run = get_or-between runs start end 0 blank (omega (arith, inside.some, count))
          ∙ ap (λ n. get_or runs n blank) (let none : start + 0 ≡ start = omega arith in none) in
          let within : start < length runs = omega (arith, inside.some, count, touched.within) in
          record {
            mode = run.0;
            around = run.1;
            before = subst (λ (r : Mode × Span). r.1.first < span.first) is (inside.before blank);
            behind = subst (λ (r : Mode × Span). span.last < r.1.last) is (inside.behind blank);
            constant = λ byte covers. mode_in-at runs start blank byte apart within covers;
          }
    ]

-- a mode is a read lock's where it is no write lock's
read_unless_write : (mode : Mode) → mode ≢ Write → mode ≡ Read
read_unless_write Read other = refl
read_unless_write Write other = absurd (other refl)

-- read locks stay so where no write lock is set
pub reads_after : (old new : List (Mode × Span)) (span : Span) (mode : Option Mode) → IsSet old new span mode → AreReads old → mode ≢ Some Write → AreReads new
reads_after old new span mode set reads other k d within =
    let run = get_or new k d in
    let inside : Covers run.1 run.1.first = (omega arith, (set.in_order.ranges k d within).0) in
    let has = mode_in-at new k d run.1.first set.in_order.apart within inside in
    read_unless_write run.0 (λ write. elim (cases_covers span run.1.first) [
      | inl covers ↦ other (sym (rw (is_covered-true span run.1.first covers) at (set.modes run.1.first)) ∙ has ∙ ap Some write)
      | inr uncovered ↦
          let before = sym (rw uncovered at (set.modes run.1.first)) ∙ has ∙ ap Some write in
          let (j, held) = held_at old d run.1.first Write before in
          subst (λ m. Conflict m Read) (reads j d held.within) (subst (λ m. Conflict m Read) (sym held.mode_is) tt)
    ])
