-- What an index of all owners' runs tells of the locks of a file, and what stays of it when these change: for `Book::set`, `Book::blocked` and others.
use Rattle.lock_book.proofs.Common.{◌≡◌, ◌≢◌, ◌≤◌, ℕ, ◌⊎◌, inl, inr, Bool, true, false, not, ◌&&◌, ◌||◌, ◌==◌, Option, Some, None, List, [], ◌∷◌, ◌++◌, All, Any, get_or, length, map, refl, sym, ap, ◌∙◌, subst, arith, Box, Global, Result, Ok, Err, MatchOption, Bor, list_any, lookup, cases_Bool, cond-false, eq-eqb, eqb-true, not-true, nat_tests, All-cons, All-nil, All-weaker, Mode, Span, OwnerRuns, Modes, AreRuns, Covers, HeldConflicts, IsRun, modes_of, OwnersStandForRuns, Holder, Run, holder_of, HolderConflict, HolderModes, Owner, Process, Description, is_same_owner, IsBefore, AreFound, modes_in_list, Blocks, ByteModes, AreRunsWhere, as_holder, holder_modes, is_listed, is_outside, modes_among, touches, Yields, TakesFirst, deref_pair}
use Rattle.std.specs.Prelude.{IfNone, IfOk, IfSome, IsSomeAnd}
use Rattle.std.specs.Result.{result_ok}
use Rattle.std.proofs.lemmas.Bool.{and_from, and_left, and_parts, not_from_false, or_left, or_right, false_from_ne_true}
use Rattle.std.proofs.lemmas.List.Folds.{Any-from_list_any, list_any-append, list_any-from_Any, list_any_at}
use Rattle.interval_index.specs.Contents.{RunContents}
use Rattle.interval_index.specs.Holders.{is_same_holder, IsBeforeHolder}
use Rattle.interval_index.specs.Standing.{AreRunsOf, BlocksOn, IsFirstInTheWay, Tells}
use Rattle.interval_index.specs.Tests.{has_key, with_run, without}
use Rattle.lock_book.specs.Conflicts.{ByteConflict, IsFirstBlocked}
use Rattle.lock_book.specs.declared.book.index.OwnersIndex.{OwnersIndex}
use Rattle.lock_book.specs.Indexing.{AreIndexed, HasJust, IsRunOf, is_others, run_by, without_left}
use Rattle.lock_book.proofs.BlockLemmas.{Item}
use Rattle.lock_book.proofs.LoopLemmas.{found_in_loop, next_in_loop}
use Rattle.lock_book.proofs.OwnerLemmas.{same_owner}
use Rattle.lock_book.proofs.IndexLemmas.{AreRunsWhere-moves, AreRunsWhere-agrees, AreRunsWhere-puts, or-false}
use Rattle.lock_book.proofs.LargestLemmas.{IsRun-apart, IsRun-same, list_run, only_begins, only_run, same_run}
use Rattle.lock_book.proofs.ListLemmas.{All-at_Any}
use Rattle.lock_book.proofs.TouchingLemmas.{touches_by}

not_same : (a b : Bool) → not a ≡ not b → a ≡ b
not_same true true h = refl
not_same true false h = let e : false ≡ true = h in cc
not_same false true h = let e : true ≡ false = h in cc
not_same false false h = refl

same_parts : (a b c d : ℕ) → (a == b && c == d) ≡ true → (a ≡ b) × (c ≡ d)
same_parts a b c d h = (grind (arith, nat_tests), grind (arith, nat_tests))

same_as_itself : (a b : ℕ) → (a == a && b == b) ≡ true
same_as_itself a b = grind (arith, nat_tests)

-- where the test passes, the holders are one
pub same_holder : (holder other : Holder) → is_same_holder holder other ≡ true → holder ≡ other
same_holder holder other h =
    let e = same_parts holder.class other.class holder.number other.number h in
    ap (λ c. record { class = c; number = holder.number }) e.0 ∙ ap (λ n. record { class = other.class; number = n }) e.1

pub is_same_holder-self : (holder : Holder) → is_same_holder holder holder ≡ true
is_same_holder-self holder = same_as_itself holder.class holder.number

-- what an owner has is asked by its numbers
pub holder_at : (modes : ByteModes) (owner : Owner) → holder_modes modes (as_holder owner) ≡ modes owner
holder_at modes (Process p) = refl
holder_at modes (Description d) = refl

-- two numbers stand for an owner, or for none that has a mode
pub holder_view : (holder : Holder) → ((owner : Owner) × (holder ≡ as_holder owner)) ⊎ ((modes : ByteModes) (byte : ℕ) → holder_modes modes holder byte ≡ None)
holder_view holder = elim (cases_Bool (holder.class == 0)) [
  | inl is ↦ inl (Process holder.number, ap (λ (c : ℕ). record { class = c; number = holder.number }) (eqb-true holder.class 0 is))
  | inr other ↦ elim (cases_Bool (holder.class == 1)) [
    | inl is ↦ inl (Description holder.number, ap (λ (c : ℕ). record { class = c; number = holder.number }) (eqb-true holder.class 1 is))
    | inr neither ↦ inr (λ modes byte. ap (λ (m : ℕ → Option Mode). m byte) (cond-false _ _ _ other ∙ cond-false _ _ _ neither))
  ]
]

-- two owners have not the same numbers
pub one_owner : (one other : Owner) → as_holder one ≡ as_holder other → one ≡ other
one_owner (Process p) (Process q) e = ap (λ (h : Holder). Process h.number) e
one_owner (Process p) (Description d) e = absurd (let c : 0 ≡ 1 = ap (λ (h : Holder). h.class) e in omega arith)
one_owner (Description d) (Process p) e = absurd (let c : 1 ≡ 0 = ap (λ (h : Holder). h.class) e in omega arith)
one_owner (Description d) (Description e) h = ap (λ (h : Holder). Description h.number) h

-- and the order of owners is that of their numbers
pub holder_before : (one other : Owner) → IsBefore one other → IsBeforeHolder (as_holder one) (as_holder other)
holder_before (Process p) (Process q) before = inr (refl, before)
holder_before (Process p) (Description d) before = inl (omega arith)
holder_before (Description d) (Process p) before = absurd before
holder_before (Description d) (Description e) before = inr (refl, before)

module _ (modes : ByteModes) (owner : Owner) (wanted : Mode) where
  -- an owner that blocks does so by its numbers
  pub blocks_on : (byte : ℕ) (other : Owner) → Blocks modes owner wanted byte other → BlocksOn (holder_modes modes) (as_holder owner) wanted byte (as_holder other)
  blocks_on byte other b = record {
    another = λ same. b.another (one_owner other owner same);
    conflicts = subst (λ (m : Modes). HeldConflicts (m byte) wanted) (sym (holder_at modes other)) b.conflicts;
  }

  -- and the other way round
  pub blocks_from : (byte : ℕ) (other : Owner) → BlocksOn (holder_modes modes) (as_holder owner) wanted byte (as_holder other) → Blocks modes owner wanted byte other
  blocks_from byte other b = record {
    another = λ same. b.another (ap as_holder same);
    conflicts = subst (λ (m : Modes). HeldConflicts (m byte) wanted) (holder_at modes other) b.conflicts;
  }

  -- so a conflict by numbers is one of owners
  pub conflict_from : (span : Span) → HolderConflict (holder_modes modes) (as_holder owner) span wanted → ByteConflict modes owner span wanted
  conflict_from span c = elim (holder_view c.other) [
    | inl is ↦ record {
      byte = c.byte;
      covered = c.covered;
      other = is.0;
      blocks = blocks_from c.byte is.0 (subst (λ (h : Holder). BlocksOn (holder_modes modes) (as_holder owner) wanted c.byte h) is.1 c.blocks);
    }
    | inr none ↦ absurd (subst (λ (held : Option Mode). HeldConflicts held wanted) (none modes c.byte) c.blocks.conflicts)
  ]

  pub conflict_on : (span : Span) → ByteConflict modes owner span wanted → HolderConflict (holder_modes modes) (as_holder owner) span wanted
  conflict_on span c = record { byte = c.byte; covered = c.covered; other = as_holder c.other; blocks = blocks_on c.byte c.other c.blocks }

  -- and so is the first
  pub first_from : (span : Span) (byte : ℕ) (other : Owner) → IsFirstInTheWay (holder_modes modes) (as_holder owner) span wanted byte (as_holder other)
      → IsFirstBlocked modes owner span wanted byte other
  first_from span byte other f = record {
    covered = f.covered;
    blocks = blocks_from byte other f.blocks;
    least_byte = λ before any from below b. f.least_byte before (as_holder any) from below (blocks_on before any b);
    least_owner = λ any earlier b. f.least_owner (as_holder any) (holder_before any other earlier) (blocks_on byte any b);
  }

-- a run that is told by its modes covers the byte of another that begins where it does
module _ (modes : HolderModes) (runs : List Run) (are : AreRunsWhere modes (λ run. true) runs) where
  told_by : (holder : Holder) (byte : ℕ) (mode : Mode) → Any (λ run. Tells run holder byte mode) runs → modes holder byte ≡ Some mode
  told_by holder byte mode any =
      let found = All-at_Any (λ run. IsRunOf modes run × (true ≡ true)) (λ run. Tells run holder byte mode) runs are.each any in
      let run = found.0 in
      let tells = found.2 in
      ap (λ (h : Holder). modes h byte) (sym tells.of) ∙ found.1.0.constant byte tells.covered ∙ ap Some tells.in_mode

  tells_at : (holder : Holder) (byte : ℕ) (mode : Mode) (span : Span) → Covers span byte → IsRun (modes holder) span.first mode span → (run : Run)
      → IsRunOf modes run → has_key span.first holder run ≡ true → Tells run holder byte mode
  tells_at holder byte mode span covers is run is_run key =
      let parts = and_parts _ _ key in
      let same : holder ≡ holder_of run = same_holder holder (holder_of run) parts.1 in
      let at : span.first ≡ run.span.first = eqb-true span.first run.span.first parts.0 in
      let one = same_run (modes holder) span run.span mode run.mode at is (subst (λ (h : Holder). IsRun (modes h) run.span.first run.mode run.span) (sym same) is_run) in
      record {
        of = sym same;
        in_mode = sym one.0;
        covered = (let from = covers.0 in omega arith, let to = covers.1 in let end = one.1 in omega arith);
      }

  -- the runs of all owners, where each byte that has a mode lies in one, tell what each owner has
  pub AreRunsOf-where : ((holder : Holder) (byte : ℕ) (mode : Mode) → modes holder byte ≡ Some mode → (span : Span) × Covers span byte
      × IsRun (modes holder) span.first mode span) → AreRunsOf modes runs
  AreRunsOf-where round = record {
    told = told_by;
    all = λ holder byte mode has.
        let largest = round holder byte mode has in
        let span = largest.0 in
        let run : Run = record { span = span; number = holder.number; class = holder.class; mode = mode } in
        let any = Any-from_list_any (has_key span.first holder) runs (are.every run largest.2 refl) in
        (any.0, any.1, any.2, any.3, tells_at holder byte mode span largest.1 largest.2 any.1 (subst (λ (r : Run). IsRunOf modes r) any.3 (are.each any.0 any.1 any.2).0) any.4);
  }

held_list : (list : Option OwnerRuns) (byte : ℕ) (mode : Mode) → modes_in_list list byte ≡ Some mode → (some : OwnerRuns) × (list ≡ Some some)
held_list None byte mode has = absurd (let h : None ≡ Some mode = has in cc)
held_list (Some list) byte mode has = (list, refl)

-- of lists each byte that has a mode does
pub lists_round : OwnersStandForRuns → (lists : List (Owner × OwnerRuns)) (holder : Holder) (byte : ℕ) (mode : Mode)
    → holder_modes (modes_among lists) holder byte ≡ Some mode
    → (span : Span) × Covers span byte × IsRun (holder_modes (modes_among lists) holder) span.first mode span
lists_round stand lists holder byte mode has = elim (holder_view holder) [
  | inr none ↦ absurd (let h : None ≡ Some mode = sym (none (modes_among lists) byte) ∙ has in cc)
  | inl is ↦
      (let modes : holder_modes (modes_among lists) holder ≡ modes_among lists is.0 =
      ap (holder_modes (modes_among lists)) is.1 ∙ holder_at (modes_among lists) is.0 in
      let there : modes_in_list (lookup (is_same_owner is.0) lists) byte ≡ Some mode = ap (λ (m : Modes). m byte) (sym modes) ∙ has in
      let list = held_list (lookup (is_same_owner is.0) lists) byte mode there in
      let its : holder_modes (modes_among lists) holder ≡ modes_of list.0 = modes ∙ ap modes_in_list list.1 in
      let run = list_run stand list.0 byte mode (ap (λ (m : Modes). m byte) (sym its) ∙ has) in
      (run.0, run.1, subst (λ (m : Modes). IsRun m run.0.first mode run.0) (sym its) run.2))
]

-- where no run is kept nobody has a mode
pub none_without_runs : (modes : ByteModes) (runs : List Run) → AreRunsOf (holder_modes modes) runs → length runs ≡ 0
    → (owner : Owner) (byte : ℕ) → modes owner byte ≡ None
none_without_runs modes runs are empty owner byte = elim (modes owner byte) as (λ (held : Option Mode). modes owner byte ≡ held → modes owner byte ≡ None) [
  | None ↦ λ is. is
  | Some mode ↦ λ is.
      let run = are.all (as_holder owner) byte mode (ap (λ (m : Modes). m byte) (holder_at modes owner) ∙ is) in
      let within = run.2 in absurd (omega arith)
] refl

-- and where nobody has one none is
pub no_runs : (modes : ByteModes) (runs : List Run) → AreRunsWhere (holder_modes modes) (λ run. true) runs
    → ((owner : Owner) (byte : ℕ) → modes owner byte ≡ None) → length runs ≡ 0
no_runs modes [] are none = refl
no_runs modes (run ∷ runs) are none =
    let first = (are.each 0 run (omega arith)).0 in
    let has : holder_modes modes (holder_of run) run.span.first ≡ Some run.mode = first.constant run.span.first first.covered in
    absurd (elim (holder_view (holder_of run)) [
      | inl is ↦
          (let free : holder_modes modes (holder_of run) run.span.first ≡ None =
          ap (λ (h : Holder). holder_modes modes h run.span.first) is.1 ∙ ap (λ (m : Modes). m run.span.first) (holder_at modes is.0) ∙ none is.0 run.span.first in
          let h : None ≡ Some run.mode = sym free ∙ has in cc)
      | inr free ↦ (let h : None ≡ Some run.mode = sym (free modes run.span.first) ∙ has in cc)
    ])

-- the modes of all but one owner stay
module _ (old new : ByteModes) (owner : Owner) (others : (other : Owner) → other ≢ owner → (byte : ℕ) → new other byte ≡ old other byte) where
  pub others_at : (holder : Holder) → is_same_holder (as_holder owner) holder ≡ false → (byte : ℕ) → holder_modes new holder byte ≡ holder_modes old holder byte
  others_at holder apart byte = elim (holder_view holder) [
    | inr none ↦ none new byte ∙ sym (none old byte)
    | inl is ↦
        (let different : is.0 ≢ owner = λ same.
        let e : true ≡ false = sym (is_same_holder-self (as_holder owner)) ∙ ap (λ (o : Owner). is_same_holder (as_holder owner) (as_holder o)) (sym same)
        ∙ ap (is_same_holder (as_holder owner)) (sym is.1) ∙ apart in cc in
        ap (λ (h : Holder). holder_modes new h byte) is.1 ∙ ap (λ (m : Modes). m byte) (holder_at new is.0) ∙ others is.0 different byte
        ∙ sym (ap (λ (h : Holder). holder_modes old h byte) is.1 ∙ ap (λ (m : Modes). m byte) (holder_at old is.0)))
  ]

  -- and those of this one outside a range
  module _ (span : Span) (outside : (byte : ℕ) → ¬ Covers span byte → new owner byte ≡ old owner byte) where
    pub run_outside : (run : Run) → IsRunOf (holder_modes old) run → is_outside (as_holder owner) span run ≡ true → IsRunOf (holder_modes new) run
    run_outside run is passes = elim (cases_Bool (is_same_holder (as_holder owner) (holder_of run))) [
      | inr apart ↦ IsRun-same (holder_modes old (holder_of run)) (holder_modes new (holder_of run)) (others_at (holder_of run) apart) run.span.first run.mode run.span is
      | inl same ↦
          (let holder : holder_of run ≡ as_holder owner = sym (same_holder (as_holder owner) (holder_of run) same) in
          let untouched : touches span run.span ≡ false =
          sym (ap (λ b. b && touches span run.span) same) ∙ not-true (is_same_holder (as_holder owner) (holder_of run) && touches span run.span) passes in
          let was : holder_modes old (holder_of run) ≡ old owner = ap (holder_modes old) holder ∙ holder_at old owner in
          let now : holder_modes new (holder_of run) ≡ new owner = ap (holder_modes new) holder ∙ holder_at new owner in
          subst (λ (m : Modes). IsRun m run.span.first run.mode run.span) (sym now)
          (IsRun-apart (old owner) (new owner) span outside run.mode run.span untouched
          (subst (λ (m : Modes). IsRun m run.span.first run.mode run.span) was is)))
    ]

-- so the runs that don't touch the range stay
pub AreRunsWhere-set : (old new : ByteModes) (owner : Owner) (span : Span) (runs : List Run)
    → ((other : Owner) → other ≢ owner → (byte : ℕ) → new other byte ≡ old other byte) → ((byte : ℕ) → ¬ Covers span byte → new owner byte ≡ old owner byte)
    → AreRunsWhere (holder_modes old) (is_outside (as_holder owner) span) runs → AreRunsWhere (holder_modes new) (is_outside (as_holder owner) span) runs
AreRunsWhere-set old new owner span runs others outside are =
    let passes = is_outside (as_holder owner) span in
    AreRunsWhere-moves (holder_modes old) (holder_modes new) passes passes runs
    (λ run is h. (run_outside old new owner others span outside run is h, h))
    (λ run is h. (run_outside new old owner (λ other apart byte. sym (others other apart byte)) span (λ byte free. sym (outside byte free)) run is h, h)) are

-- modes that are the same have the same runs
pub AreRunsWhere-same : (old new : ByteModes) (passes : Run → Bool) (runs : List Run) → ((owner : Owner) (byte : ℕ) → new owner byte ≡ old owner byte)
    → AreRunsWhere (holder_modes old) passes runs → AreRunsWhere (holder_modes new) passes runs
AreRunsWhere-same old new passes runs same are =
    let at : (holder : Holder) (byte : ℕ) → holder_modes new holder byte ≡ holder_modes old holder byte = λ holder byte. elim (holder_view holder) [
      | inr none ↦ none new byte ∙ sym (none old byte)
      | inl is ↦
          (ap (λ (h : Holder). holder_modes new h byte) is.1 ∙ ap (λ (m : Modes). m byte) (holder_at new is.0) ∙ same is.0 byte
          ∙ sym (ap (λ (h : Holder). holder_modes old h byte) is.1 ∙ ap (λ (m : Modes). m byte) (holder_at old is.0)))
    ] in
    AreRunsWhere-moves (holder_modes old) (holder_modes new) passes passes runs
    (λ run is h. (IsRun-same (holder_modes old (holder_of run)) (holder_modes new (holder_of run)) (at (holder_of run)) run.span.first run.mode run.span is, h))
    (λ run is h. (IsRun-same (holder_modes new (holder_of run)) (holder_modes old (holder_of run)) (λ byte. sym (at (holder_of run) byte)) run.span.first run.mode run.span is, h)) are

-- an owner without a mode has no run
pub run_of_none : (modes : ByteModes) (owner : Owner) → ((byte : ℕ) → modes owner byte ≡ None) → (run : Run) → IsRunOf (holder_modes modes) run
    → is_same_holder (as_holder owner) (holder_of run) ≡ false
run_of_none modes owner free run is = false_from_ne_true _ (λ same.
    let holder : holder_of run ≡ as_holder owner = sym (same_holder (as_holder owner) (holder_of run) same) in
    let none : holder_modes modes (holder_of run) run.span.first ≡ None =
    ap (λ (h : Holder). holder_modes modes h run.span.first) holder ∙ ap (λ (m : Modes). m run.span.first) (holder_at modes owner) ∙ free run.span.first in
    let h : None ≡ Some run.mode = sym none ∙ is.constant run.span.first is.covered in cc)

-- so all runs are outside its range
pub AreRunsWhere-outside : (modes : ByteModes) (owner : Owner) (span : Span) (runs : List Run) → ((byte : ℕ) → modes owner byte ≡ None)
    → AreRunsWhere (holder_modes modes) (λ run. true) runs → AreRunsWhere (holder_modes modes) (is_outside (as_holder owner) span) runs
AreRunsWhere-outside modes owner span runs free are =
    AreRunsWhere-agrees (holder_modes modes) (λ run. true) (is_outside (as_holder owner) span) runs
    (λ run is. not_from_false _ (and_left _ _ (run_of_none modes owner free run is))) are

-- and the runs of the others are all, once its modes are gone
pub AreRunsWhere-cleared : (old new : ByteModes) (owner : Owner) (runs : List Run) → ((other : Owner) → other ≢ owner → (byte : ℕ) → new other byte ≡ old other byte)
    → ((byte : ℕ) → new owner byte ≡ None) → AreRunsWhere (holder_modes old) (is_others (as_holder owner)) runs → AreRunsWhere (holder_modes new) (λ run. true) runs
AreRunsWhere-cleared old new owner runs others free are =
    AreRunsWhere-moves (holder_modes old) (holder_modes new) (is_others (as_holder owner)) (λ run. true) runs
    (λ run is h. (
      IsRun-same (holder_modes old (holder_of run)) (holder_modes new (holder_of run))
          (others_at old new owner others (holder_of run) (not-true _ h)) run.span.first run.mode run.span is,
      refl,
    ))
    (λ run is h.
    let apart = run_of_none new owner free run is in (
      IsRun-same (holder_modes new (holder_of run)) (holder_modes old (holder_of run))
          (λ byte. sym (others_at old new owner others (holder_of run) apart byte)) run.span.first run.mode run.span is,
      not_from_false _ apart,
    )) are

-- of one owner, what lists of its runs take out and put in
module _ (modes : ByteModes) (owner : Owner) (list : List (Mode × Span)) (each : All (λ run. IsRun (modes owner) run.1.first run.0 run.1) list) where
  listed_run : (run : Run) → IsRunOf (holder_modes modes) run → is_listed (as_holder owner) list run ≡ true
      → (holder_of run ≡ as_holder owner) × Any (λ listed. listed.1 ≡ run.span) list
  listed_run run is listed =
      let any = Any-from_list_any (λ listed. has_key listed.1.first (as_holder owner) run) list listed in
      let found = any.1 in
      let parts = and_parts _ _ any.4 in
      let holder : holder_of run ≡ as_holder owner = sym (same_holder (as_holder owner) (holder_of run) parts.1) in
      let at : found.1.first ≡ run.span.first = eqb-true found.1.first run.span.first parts.0 in
      let its : IsRun (modes owner) run.span.first run.mode run.span =
      subst (λ (m : Modes). IsRun m run.span.first run.mode run.span) (ap (holder_modes modes) holder ∙ holder_at modes owner) is in
      let one = same_run (modes owner) found.1 run.span found.0 run.mode at
      (subst (λ (r : Mode × Span). IsRun (modes owner) r.1.first r.0 r.1) any.3 (each any.0 found any.2)) its in
      (holder, (any.0, found, any.2, any.3, ap (λ (f : ℕ). record { first = f; last = found.1.last }) at ∙ ap (λ (l : ℕ). record { first = run.span.first; last = l }) one.1))

  -- an owner's run is listed where one begins that is
  pub listed_at : (run : Run) → is_same_holder (as_holder owner) (holder_of run) ≡ true → list_any (λ listed. listed.1.first == run.span.first) list ≡ true
      → is_listed (as_holder owner) list run ≡ true
  listed_at run same begins =
      let any = Any-from_list_any (λ listed. listed.1.first == run.span.first) list begins in
      list_any-from_Any (λ listed. has_key listed.1.first (as_holder owner) run) list (any.0, any.1, any.2, any.3, and_from _ _ any.4 same)

  module _ (test : Span → Bool) (pass : All (λ run. test run.1 ≡ true) list)
      (every : (mode : Mode) (run : Span) → IsRun (modes owner) run.first mode run → test run ≡ true → list_any (λ listed. listed.1.first == run.first) list ≡ true) where
    -- where these are all of its runs that pass, the others are those that aren't listed
    pub not_listed : (run : Run) → IsRunOf (holder_modes modes) run
        → not (is_same_holder (as_holder owner) (holder_of run) && test run.span) ≡ not (is_listed (as_holder owner) list run)
    not_listed run is = ap not (elim (cases_Bool (is_listed (as_holder owner) list run)) [
      | inl listed ↦
          (let one = listed_run run is listed in
          let found = All-at_Any (λ r. test r.1 ≡ true) (λ r. r.1 ≡ run.span) list pass one.1 in
          let same : is_same_holder (as_holder owner) (holder_of run) ≡ true =
          ap (is_same_holder (as_holder owner)) one.0 ∙ is_same_holder-self (as_holder owner) in
          and_from _ _ same (ap test (sym found.2) ∙ found.1) ∙ sym listed)
      | inr unlisted ↦
          (false_from_ne_true (is_same_holder (as_holder owner) (holder_of run) && test run.span) (λ both.
          let parts = and_parts _ _ both in
          let holder : holder_of run ≡ as_holder owner = sym (same_holder (as_holder owner) (holder_of run) parts.0) in
          let its : IsRun (modes owner) run.span.first run.mode run.span =
          subst (λ (m : Modes). IsRun m run.span.first run.mode run.span) (ap (holder_modes modes) holder ∙ holder_at modes owner) is in
          let e : true ≡ false = sym (listed_at run parts.0 (every run.mode run.span its parts.1)) ∙ unlisted in cc) ∙ sym unlisted)
    ])

    -- so the others and what is listed are all
    pub others_or_listed : (run : Run) → IsRunOf (holder_modes modes) run
        → true ≡ (not (is_same_holder (as_holder owner) (holder_of run) && test run.span) || is_listed (as_holder owner) list run)
    others_or_listed run is = elim (cases_Bool (is_listed (as_holder owner) list run)) [
      | inl listed ↦ sym (or_right (not (is_same_holder (as_holder owner) (holder_of run) && test run.span)) _ listed)
      | inr unlisted ↦ sym (or_left _ (is_listed (as_holder owner) list run) (not_listed run is ∙ ap not unlisted))
    ]

and-true : (b : Bool) → (b && true) ≡ b
and-true true = refl
and-true false = refl

-- what is listed of an owner's list is of its modes
module _ (modes : ByteModes) (owner : Owner) (list : OwnerRuns) (same : (byte : ℕ) → modes owner byte ≡ modes_of list byte)
    (listed : List (Mode × Span)) (each : All (λ run. IsRun (modes_of list) run.1.first run.0 run.1) listed) where
  each_own : All (λ run. IsRun (modes owner) run.1.first run.0 run.1) listed
  each_own =
      All-weaker (λ run. IsRun (modes_of list) run.1.first run.0 run.1) (λ run. IsRun (modes owner) run.1.first run.0 run.1)
      (λ run is. IsRun-same (modes_of list) (modes owner) same run.1.first run.0 run.1 is) listed each

  -- also asked by its numbers
  pub each_held : All (λ run. IsRun (holder_modes modes (as_holder owner)) run.1.first run.0 run.1) listed
  each_held = subst (λ (m : Modes). All (λ run. IsRun m run.1.first run.0 run.1) listed) (sym (holder_at modes owner)) each_own

  module _ (every : (mode : Mode) (run : Span) → IsRun (modes_of list) run.first mode run → list_any (λ one. one.1.first == run.first) listed ≡ true) where
    own_every : (mode : Mode) (run : Span) → IsRun (modes owner) run.first mode run → true ≡ true → list_any (λ one. one.1.first == run.first) listed ≡ true
    own_every mode run is there = every mode run (IsRun-same (modes owner) (modes_of list) (λ byte. sym (same byte)) run.first mode run is)

    -- where all are listed, the others' are left
    pub others_unlisted : (run : Run) → IsRunOf (holder_modes modes) run → is_others (as_holder owner) run ≡ not (is_listed (as_holder owner) listed run)
    others_unlisted run is =
        ap not (sym (and-true (is_same_holder (as_holder owner) (holder_of run))))
        ∙ not_listed modes owner listed each_own (λ span. true) (λ k d within. refl) own_every run is

    pub own_listed : (run : Run) → IsRunOf (holder_modes modes) run → is_listed (as_holder owner) listed run ≡ is_same_holder (as_holder owner) (holder_of run)
    own_listed run is = not_same _ _ (sym (others_unlisted run is))

    pub others_taken : (runs : List Run) → AreRunsWhere (holder_modes modes) (λ run. not (is_listed (as_holder owner) listed run)) runs
        → AreRunsWhere (holder_modes modes) (is_others (as_holder owner)) runs
    others_taken runs are =
        AreRunsWhere-agrees (holder_modes modes) (λ run. not (is_listed (as_holder owner) listed run)) (is_others (as_holder owner)) runs others_unlisted are

  module _ (span : Span) (touch : All (λ run. touches span run.1 ≡ true) listed)
      (every : (mode : Mode) (run : Span) → IsRun (modes_of list) run.first mode run → touches span run ≡ true
      → list_any (λ one. one.1.first == run.first) listed ≡ true) where
    touch_every : (mode : Mode) (run : Span) → IsRun (modes owner) run.first mode run → touches span run ≡ true
        → list_any (λ one. one.1.first == run.first) listed ≡ true
    touch_every mode run is there = every mode run (IsRun-same (modes owner) (modes_of list) (λ byte. sym (same byte)) run.first mode run is) there

    -- where those that touch a range are listed, those outside it are left
    pub outside_taken : (runs : List Run) → AreRunsWhere (holder_modes modes) (λ run. not (is_listed (as_holder owner) listed run)) runs
        → AreRunsWhere (holder_modes modes) (is_outside (as_holder owner) span) runs
    outside_taken runs are =
        AreRunsWhere-agrees (holder_modes modes) (λ run. not (is_listed (as_holder owner) listed run)) (is_outside (as_holder owner) span) runs
        (not_listed modes owner listed each_own (touches span) touch touch_every) are

    -- and with these they are all
    pub all_put : (runs : List Run) → AreRunsWhere (holder_modes modes) (λ run. is_outside (as_holder owner) span run || is_listed (as_holder owner) listed run) runs
        → AreRunsWhere (holder_modes modes) (λ run. true) runs
    all_put runs are =
        AreRunsWhere-agrees (holder_modes modes) (λ run. is_outside (as_holder owner) span run || is_listed (as_holder owner) listed run) (λ run. true) runs
        (others_or_listed modes owner listed each_own (touches span) touch touch_every) are

-- with the only run of an owner whose others are kept all runs are
pub only_put : (modes : ByteModes) (owner : Owner) (mode : Mode) (span : Span) (runs new : List Run) (run : Run) → span.first ≤ span.last → HasJust (modes owner) mode span
    → run ≡ run_by owner mode span → new ≡ with_run run (without run.span.first (holder_of run) runs)
    → AreRunsWhere (holder_modes modes) (is_outside (as_holder owner) span) runs → AreRunsWhere (holder_modes modes) (λ other. true) new
only_put modes owner mode span runs new run some just made is kept =
    let holder = as_holder owner in
    let outside = is_outside holder span in
    let only : Mode × Span = (mode, span) in
    let its = only_run (modes owner) mode span some just in
    let put = AreRunsWhere-puts (holder_modes modes) outside (run_by owner mode span) runs (subst (λ (m : Modes). IsRun m span.first mode span) (sym (holder_at modes owner)) its) kept in
    subst (λ (l : List Run). AreRunsWhere (holder_modes modes) (λ other. true) l)
    (sym (is ∙ ap (λ (r : Run). with_run r (without r.span.first (holder_of r) runs)) made))
    (AreRunsWhere-agrees (holder_modes modes) (λ other. outside other || has_key span.first holder other) (λ other. true) (with_run (run_by owner mode span) (without span.first holder runs))
    (λ other is_other.
    others_or_listed modes owner (only ∷ []) (All-cons (λ r. IsRun (modes owner) r.1.first r.0 r.1) only [] its (All-nil (λ (r : Mode × Span). IsRun (modes owner) r.1.first r.0 r.1)))
    (touches span) (All-cons (λ r. touches span r.1 ≡ true) only [] (touches_by span span (omega arith) (omega arith)) (All-nil (λ (r : Mode × Span). touches span r.1 ≡ true)))
    (λ m r is_run touch. or-false (span.first == r.first) ∙ eq-eqb span.first r.first (only_begins (modes owner) mode span some just m r is_run)) other is_other
    ∙ ap (λ b. outside other || b) (or-false (has_key span.first holder other))) put)

-- a run of a list is listed among all
pub each_listed : (modes : Modes) (runs : List (Mode × Span)) → AreRuns modes runs → (mode : Mode) (run : Span) → IsRun modes run.first mode run
    → list_any (λ listed. listed.1.first == run.first) runs ≡ true
each_listed modes runs are mode run is =
    let any = are.every run.first mode (is.constant run.first is.covered) in
    let found = any.1 in
    let its : IsRun modes found.1.first found.0 found.1 = subst (λ (r : Mode × Span). IsRun modes r.1.first r.0 r.1) any.3 (are.each any.0 found any.2) in
    let covers = any.4.1 in
    let c0 = covers.0 in
    let wide = is.largest found.1 covers (λ b w. its.constant b w ∙ ap Some any.4.0) in
    let w0 = wide.0 in
    let at : found.1.first ≡ run.first = omega arith in
    list_any_at (λ listed. listed.1.first == run.first) runs any.0 found any.2
    (ap (λ (r : Mode × Span). r.1.first == run.first) any.3 ∙ eq-eqb found.1.first run.first at)

-- where there is an index, it is found, out of its box
abbrev pub IsFoundIn : Option (Box RunContents Global) → Option (Bor RunContents) → Type 0
IsFoundIn runs found = MatchOption runs (found ≡ None) (λ block. IsSomeAnd found (λ lent. lent.now ≡ block.value))

-- so what holds of the one holds of the other
found_in_box : (P : RunContents → Type 0) (runs : Option (Box RunContents Global)) (found : Option (Bor RunContents)) → IsFoundIn runs found
    → ((block : Box RunContents Global) → runs ≡ Some block → P block.value) → IfSome found (λ lent. P lent.now)
found_in_box P None None none holds = tt
found_in_box P None (Some lent) none holds = absurd (let e : Some lent ≡ None = none in cc)
found_in_box P (Some block) None some holds = tt
found_in_box P (Some block) (Some lent) same holds = subst P (sym same) (holds block refl)

-- where an index is kept of lists, it keeps their runs
pub kept_by_index : (index : OwnersIndex) (lists : List (Owner × OwnerRuns)) → AreIndexed index lists → (found : Option (Bor RunContents))
    → IsFoundIn index.runs found → IfSome found (λ runs. AreRunsWhere (holder_modes (modes_among lists)) (λ run. true) runs.now.runs)
kept_by_index index lists indexed found is =
    found_in_box (λ contents. AreRunsWhere (holder_modes (modes_among lists)) (λ run. true) contents.runs) index.runs found is indexed

-- and tells what each owner has
pub told_by_index : OwnersStandForRuns → (index : OwnersIndex) (lists : List (Owner × OwnerRuns)) → AreIndexed index lists → (found : Option (Bor RunContents))
    → IsFoundIn index.runs found → IfSome found (λ runs. AreRunsOf (holder_modes (modes_among lists)) runs.now.runs)
told_by_index stand index lists indexed found is =
    found_in_box (λ contents. AreRunsOf (holder_modes (modes_among lists)) contents.runs) index.runs found is
    (λ block at. AreRunsOf-where (holder_modes (modes_among lists)) block.value.runs (indexed block at) (lists_round stand lists))

-- what holds anyhow holds where there is nothing
pub IfNone-anyhow : {A P : Type 0} (o : Option A) → P → IfNone o P
IfNone-anyhow None holds = holds
IfNone-anyhow (Some x) holds = tt

-- what holds of an index holds of it in its box
pub in_box : (P : List Run → Type 0) (left block : Box RunContents Global) → P left.value.runs → Some left ≡ Some block → P block.value.runs
in_box P left block holds is = let same : left ≡ block = cc in subst (λ (b : Box RunContents Global). P b.value.runs) same holds

-- so what is kept of it is
pub kept_new : (modes : HolderModes) (passes : Run → Bool) (left block : Box RunContents Global) → AreRunsWhere modes passes left.value.runs
    → Some left ≡ Some block → AreRunsWhere modes passes block.value.runs
kept_new modes passes left block are is = in_box (AreRunsWhere modes passes) left block are is

-- also but for one that is left
pub kept_without : (modes : HolderModes) (passes : Run → Bool) (holder : Holder) (at : Option ℕ) (left block : Box RunContents Global)
    → AreRunsWhere modes passes (without_left holder at left.value.runs) → Some left ≡ Some block → AreRunsWhere modes passes (without_left holder at block.value.runs)
kept_without modes passes holder at left block are is = in_box (λ (runs : List Run). AreRunsWhere modes passes (without_left holder at runs)) left block are is

-- what is kept of it in its box is kept of it where it is lent
pub kept_lent : (modes : HolderModes) (passes : Run → Bool) (block : Box RunContents Global) (lent : RunContents) → lent ≡ block.value
    → AreRunsWhere modes passes block.value.runs → AreRunsWhere modes passes lent.runs
kept_lent modes passes block lent same are = subst (λ (c : RunContents). AreRunsWhere modes passes c.runs) (sym same) are

-- and what is kept of it is kept of it once it is put into a box, unless that is refused
pub kept_put : {E : Type 0} (modes : HolderModes) (passes : Run → Bool) (contents : RunContents) (put : Result (Box RunContents Global) E)
    → IfOk put (λ block. block.value ≡ contents) → AreRunsWhere modes passes contents.runs
    → IfSome (result_ok put) (λ block. AreRunsWhere modes passes block.value.runs)
kept_put {E} modes passes contents (Ok block) same are = subst (λ (c : RunContents). AreRunsWhere modes passes c.runs) (sym same) are
kept_put {E} modes passes contents (Err refused) same are = tt

-- of a loop over the owners' lists
module _ (lists : List (Owner × OwnerRuns)) where
  abbrev pub IsOfItems : List Item → Run → Bool
  IsOfItems items run = list_any (λ item. is_same_holder (as_holder item.0.now) (holder_of run)) items

  -- before it no run is in
  pub none_indexed : (runs : List Run) → runs ≡ [] → AreRunsWhere (holder_modes (modes_among lists)) (IsOfItems []) runs
  none_indexed runs empty = subst (λ (l : List Run). AreRunsWhere (holder_modes (modes_among lists)) (IsOfItems []) l) (sym empty) (record {
    each = All-nil (λ run. IsRunOf (holder_modes (modes_among lists)) run × (false ≡ true));
    every = λ run is h. absurd (let e : false ≡ true = h in cc);
  })

  -- the runs of one more owner
  pub more_indexed : (items : List Item) (x : Item) (listed : List (Mode × Span)) (runs : List Run)
      → ((byte : ℕ) → modes_among lists x.0.now byte ≡ modes_of x.1.now byte) → AreRuns (modes_of x.1.now) listed
      → AreRunsWhere (holder_modes (modes_among lists)) (λ run. IsOfItems items run || is_listed (as_holder x.0.now) listed run) runs
      → AreRunsWhere (holder_modes (modes_among lists)) (IsOfItems (items ++ x ∷ [])) runs
  more_indexed items x listed runs same all are =
      AreRunsWhere-agrees (holder_modes (modes_among lists)) (λ run. IsOfItems items run || is_listed (as_holder x.0.now) listed run) (IsOfItems (items ++ x ∷ [])) runs
      (λ run is.
      list_any-append (λ item. is_same_holder (as_holder item.0.now) (holder_of run)) items (x ∷ [])
      ∙ ap (λ b. IsOfItems items run || b) (or-false (is_same_holder (as_holder x.0.now) (holder_of run))
      ∙ sym (own_listed (modes_among lists) x.0.now x.1.now same listed all.each (each_listed (modes_of x.1.now) listed all) run is))) are

  -- those of all are all
  pub all_indexed : (items : List Item) (runs : List Run) → map deref_pair items ≡ lists
      → AreRunsWhere (holder_modes (modes_among lists)) (IsOfItems items) runs → AreRunsWhere (holder_modes (modes_among lists)) (λ run. true) runs
  all_indexed items runs whole are =
      AreRunsWhere-agrees (holder_modes (modes_among lists)) (IsOfItems items) (λ run. true) runs
      (λ run is. sym (elim (holder_view (holder_of run)) [
        | inr none ↦ absurd (let h : None ≡ Some run.mode = sym (none (modes_among lists) run.span.first) ∙ is.constant run.span.first is.covered in cc)
        | inl of ↦
            (let has : modes_among lists of.0 run.span.first ≡ Some run.mode =
            sym (ap (λ (h : Holder). holder_modes (modes_among lists) h run.span.first) of.1 ∙ ap (λ (m : Modes). m run.span.first) (holder_at (modes_among lists) of.0))
            ∙ is.constant run.span.first is.covered in
            let list = held_list (lookup (is_same_owner of.0) lists) run.span.first run.mode has in
            let entry = found_in_loop (λ (e : Owner × OwnerRuns). list_any (λ item. is_same_holder (as_holder item.0.now) (as_holder e.0)) items ≡ true) lists items whole
            (λ k d within. list_any_at (λ item. is_same_holder (as_holder item.0.now) (as_holder (get_or items k d).0.now)) items k d within
            (is_same_holder-self (as_holder (get_or items k d).0.now))) (is_same_owner of.0) list.0 list.1 in
            let owner : entry.0 ≡ of.0 = sym (same_owner of.0 entry.0 entry.1) in
            ap (λ (h : Holder). list_any (λ item. is_same_holder (as_holder item.0.now) h) items) (of.1 ∙ ap as_holder (sym owner)) ∙ entry.2)
      ])) are

-- the next entry of a loop has its owner's modes
pub modes_of_next : (owners : List (Owner × OwnerRuns)) (items : List Item) (s t u : List (Owner × OwnerRuns)) (r : Option Item) (x : Item) → s ≡ owners
    → Yields (TakesFirst deref_pair) s items t → r ≡ Some x → TakesFirst deref_pair t r u → AreFound owners
    → (byte : ℕ) → modes_among owners x.0.now byte ≡ modes_of x.1.now byte
modes_of_next owners items s t u r x start yields is step all byte =
    ap (λ (l : Option OwnerRuns). modes_in_list l byte)
    (next_in_loop (λ e. lookup (is_same_owner e.0) owners ≡ Some e.1) owners items s t u r x start yields is step all)
