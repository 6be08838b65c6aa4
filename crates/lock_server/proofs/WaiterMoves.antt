-- What is known of the owners with detected waits, where a wait joins or leaves: for the table's fact `indexed`.
use Rattle.lock_server.proofs.Common.{common_steps, ℕ, ◌≡◌, ◌≢◌, ◌==◌, ◌+◌, ◌∙◌, inl, inr, sym, ap, refl, arith, true, false, cond, Bool, List, [], ◌∷◌, ◌++◌, Any, length, append-nil, filter, cases_Bool, cases_eq, eq-eqb, ne_eqb, sum_by-cons, Pending, Waiters, files_of, crossed_of, times, Ends, IsDetectedOf, detected_waits}
use Rattle.std.proofs.lemmas.List.Sums.{sum_by_push}
use Rattle.lock_server.specs.WaitersView.{Begins}
use Rattle.lock_server.specs.WaitersView as view
use Rattle.lock_server.proofs.ListLemmas.{Any-cons, Any-nil}
use Rattle.lock_server.proofs.LeaveLemmas.{counted_with}
use Rattle.lock_server.proofs.IndexLemmas.{is_detected_of, some_detected}
use Rattle.lock_server.proofs.TicketMoves.{PutsWaits}

-- what is known of owners, where these are the waits on each file
pub record WaitersKnown (waits : ℕ → List Pending) (waiters : Waiters) : Type 0 where
  pub detected : (owner file : ℕ) → times file (files_of waiters owner) ≡ detected_waits (waits file) owner
  pub crossed : (owner : ℕ) → files_of waiters owner ≡ [] → crossed_of waiters owner ≡ false

-- one for a file among itself, and none for another
one_itself : (file : ℕ) → cond {A = ℕ} (file == file) 1 0 ≡ 1
one_itself file = ap (λ (b : Bool). cond {A = ℕ} b 1 0) (eq-eqb file file refl)

none_other : (file other : ℕ) → other ≢ file → cond {A = ℕ} (file == other) 1 0 ≡ 0
none_other file other differs = ap (λ (b : Bool). cond {A = ℕ} b 1 0) (ne_eqb file other (λ e. differs (sym e)))

-- a wait counts for its owner, where it is detected, and for nobody else
counts_one : (wait : Pending) → wait.detect ≡ true → cond {A = ℕ} (is_detected_of wait.owner wait) 1 0 ≡ 1
counts_one wait detected = rw (detected, eq-eqb wait.owner wait.owner refl)

counts_none : (owner : ℕ) (wait : Pending) → wait.detect ≡ false → cond {A = ℕ} (is_detected_of owner wait) 1 0 ≡ 0
counts_none owner wait passed = rw passed

counts_other : (owner : ℕ) (wait : Pending) → wait.detect ≡ true → owner ≢ wait.owner → cond {A = ℕ} (is_detected_of owner wait) 1 0 ≡ 0
counts_other owner wait detected differs = rw (detected, ne_eqb wait.owner owner (λ e. differs (sym e)))

-- one where the file stands at the head
head_time : (file : ℕ) (files : List ℕ) → times file (file ∷ files) ≢ 0
head_time file files none = grind (arith, common_steps, sum_by-cons, one_itself)

-- an owner with a file has a detected wait
pub detected_somewhere : (waits : ℕ → List Pending) (waiters : Waiters) → WaitersKnown waits waiters → (owner : ℕ) → files_of waiters owner ≢ []
    → (file : ℕ) × Any (IsDetectedOf owner) (waits file)
detected_somewhere waits waiters known owner some = first (files_of waiters owner) refl
  where
    first : (on : List ℕ) → files_of waiters owner ≡ on → (file : ℕ) × Any (IsDetectedOf owner) (waits file)
    first [] none = absurd (some none)
    first (file ∷ rest) on = (
      file,
      some_detected owner (waits file) (λ none. head_time file rest (ap (times file) (sym on) ∙ known.detected owner file ∙ none)),
    )

-- a detected wait is counted
counted : (owner : ℕ) (waits : List Pending) → Any (IsDetectedOf owner) waits → detected_waits waits owner ≢ 0
counted owner [] any none = Any-nil _ any
counted owner (wait ∷ waits) any none = elim (Any-cons _ wait waits any) [
  | inl here ↦
      (let test : is_detected_of owner wait ≡ true = rw (here.0, eq-eqb wait.owner owner here.1) in
      let long : length (cond (is_detected_of owner wait) (wait ∷ filter (is_detected_of owner) waits) (filter (is_detected_of owner) waits)) ≡ 0 = none in
      let more : length (wait ∷ filter (is_detected_of owner) waits) ≡ 0 = rw test at long in
      let n = length (filter (is_detected_of owner) waits) in omega arith)
  | inr there ↦ elim (cases_Bool (is_detected_of owner wait)) [
    | inl test ↦
        (let long : length (cond (is_detected_of owner wait) (wait ∷ filter (is_detected_of owner) waits) (filter (is_detected_of owner) waits)) ≡ 0 = none in
        let more : length (wait ∷ filter (is_detected_of owner) waits) ≡ 0 = rw test at long in
        let n = length (filter (is_detected_of owner) waits) in omega arith)
    | inr test ↦ counted owner waits there (rw test at none)
  ]
]

-- and so its owner has a file
pub file_from_detected : (waits : ℕ → List Pending) (waiters : Waiters) → WaitersKnown waits waiters → (owner file : ℕ)
    → Any (IsDetectedOf owner) (waits file) → files_of waiters owner ≢ []
file_from_detected waits waiters known owner file any none =
    counted owner (waits file) any (sym (known.detected owner file) ∙ ap (times file) none)

pushed_times : (file : ℕ) (files : List ℕ) (other : ℕ) → times other (files ++ file ∷ []) ≡ times other files + cond (file == other) 1 0
pushed_times file files other = sum_by_push (λ n. cond (n == other) 1 0) files file

no_push : (files : List ℕ) (file : ℕ) → files ++ file ∷ [] ≢ []
no_push [] file e = let h : file ∷ [] ≡ [] = e in cc
no_push (first ∷ files) file e = let h : first ∷ (files ++ file ∷ []) ≡ [] = e in cc

module _ (waits now : ℕ → List Pending) (waiters after : Waiters) (file : ℕ) (wait : Pending) (known : WaitersKnown waits waiters) where
  joined_counts : PutsWaits waits now file (waits file ++ wait ∷ []) → (owner : ℕ)
      → detected_waits (now file) owner ≡ detected_waits (waits file) owner + cond (is_detected_of owner wait) 1 0
  joined_counts puts owner =
      ap (λ (l : List Pending). detected_waits l owner) puts.here ∙ counted_with (is_detected_of owner) (waits file) [] wait
      ∙ ap (λ (l : List Pending). detected_waits l owner + cond (is_detected_of owner wait) 1 0) (append-nil (waits file))

  -- the owners are known after a change on the file that counts as their files do
  known_after : (rest : List Pending) (to : Waiters) → PutsWaits waits now file rest → ((owner : ℕ) → times file (files_of to owner) ≡ detected_waits (now file) owner)
      → ((owner other : ℕ) → other ≢ file → times other (files_of to owner) ≡ detected_waits (waits other) owner)
      → ((owner : ℕ) → files_of to owner ≡ [] → crossed_of to owner ≡ false) → WaitersKnown now to
  known_after rest to puts on_file off_file crossed = record {
    detected = λ owner other. elim (cases_eq other file) [
      | inl here ↦ rw here (on_file owner)
      | inr elsewhere ↦ rw (puts.others other elsewhere) (off_file owner other elsewhere)
    ];
    crossed = crossed;
  }

  pub waiters_passed : wait.detect ≡ false → PutsWaits waits now file (waits file ++ wait ∷ []) → WaitersKnown now waiters
  waiters_passed passed puts =
      known_after (waits file ++ wait ∷ []) waiters puts
      (λ owner. let one = known.detected owner file in let more = joined_counts puts owner in let none = counts_none owner wait passed in omega arith)
      (λ owner other elsewhere. known.detected owner other) known.crossed

  -- a detected wait joins
  pub waiters_joined : wait.detect ≡ true → PutsWaits waits now file (waits file ++ wait ∷ []) → Begins waiters after wait.owner file → WaitersKnown now after
  waiters_joined is_detected puts begins =
      known_after (waits file ++ wait ∷ []) after puts on_file off_file (λ owner none. begins.crossed owner ∙ known.crossed owner (none_before owner none))
    where
      on_file : (owner : ℕ) → times file (files_of after owner) ≡ detected_waits (now file) owner
      on_file owner = elim (cases_eq owner wait.owner) [
        | inl is ↦
            (let more = joined_counts puts wait.owner in
            let one = counts_one wait is_detected in
            let here : times file (files_of after wait.owner) ≡ times file (files_of waiters wait.owner) + cond (file == file) 1 0 = ap (times file) begins.files ∙ pushed_times file (files_of waiters wait.owner) file in
            let itself = one_itself file in
            let was = known.detected wait.owner file in
            let same : times file (files_of after wait.owner) ≡ detected_waits (now file) wait.owner = omega arith in rw is same)
        | inr differs ↦
            (let more = joined_counts puts owner in
            let none = counts_other owner wait is_detected differs in
            let was = known.detected owner file in
            let now_so : times file (files_of waiters owner) ≡ detected_waits (now file) owner = omega arith in rw (begins.others owner differs) now_so)
      ]

      off_file : (owner other : ℕ) → other ≢ file → times other (files_of after owner) ≡ detected_waits (waits other) owner
      off_file owner other elsewhere = elim (cases_eq owner wait.owner) [
        | inl is ↦
            (let here : times other (files_of after wait.owner) ≡ times other (files_of waiters wait.owner) + cond (file == other) 1 0 = ap (times other) begins.files ∙ pushed_times file (files_of waiters wait.owner) other in
            let none = none_other file other elsewhere in
            let was = known.detected wait.owner other in
            let same : times other (files_of after wait.owner) ≡ detected_waits (waits other) wait.owner = omega arith in rw is same)
        | inr differs ↦ rw (begins.others owner differs) (known.detected owner other)
      ]

      none_before : (owner : ℕ) → files_of after owner ≡ [] → files_of waiters owner ≡ []
      none_before owner none = elim (cases_eq owner wait.owner) [
        | inl is ↦ absurd (no_push (files_of waiters wait.owner) file (sym begins.files ∙ ap (files_of after) (sym is) ∙ none))
        | inr differs ↦ sym (begins.others owner differs) ∙ none
      ]

  module _ (before later : List Pending) (stood : waits file ≡ before ++ wait ∷ later) (puts : PutsWaits waits now file (before ++ later)) where
    left_counts : (owner : ℕ) → detected_waits (waits file) owner ≡ detected_waits (now file) owner + cond (is_detected_of owner wait) 1 0
    left_counts owner =
        ap (λ (l : List Pending). detected_waits l owner) stood ∙ counted_with (is_detected_of owner) before later wait
        ∙ ap (λ (l : List Pending). detected_waits l owner + cond (is_detected_of owner wait) 1 0) (sym puts.here)

    -- a wait leaves that isn't detected
    pub waiters_unmoved : wait.detect ≡ false → WaitersKnown now waiters
    waiters_unmoved passed =
        known_after (before ++ later) waiters puts
        (λ owner. let one = known.detected owner file in let more = left_counts owner in let none = counts_none owner wait passed in omega arith)
        (λ owner other elsewhere. known.detected owner other) known.crossed

    -- a detected wait leaves
    pub waiters_left : wait.detect ≡ true → Ends waiters after wait.owner file → WaitersKnown now after
    waiters_left is_detected ends =
        known_after (before ++ later) after puts on_file off_file (λ owner none. elim (cases_eq owner wait.owner) [
          | inl is ↦ rw is (ends.none (ap (files_of after) (sym is) ∙ none))
          | inr differs ↦ ends.crossed owner differs ∙ known.crossed owner (sym (ends.others owner differs) ∙ none)
        ])
      where
        on_file : (owner : ℕ) → times file (files_of after owner) ≡ detected_waits (now file) owner
        on_file owner = elim (cases_eq owner wait.owner) [
          | inl is ↦
              (let more = left_counts wait.owner in
              let one = counts_one wait is_detected in
              let was = known.detected wait.owner file in
              let some : times file (files_of waiters wait.owner) ≢ 0 = λ none. omega arith in
              let fewer = ends.on_file some in
              let same : times file (files_of after wait.owner) ≡ detected_waits (now file) wait.owner = omega arith in rw is same)
          | inr differs ↦
              (let more = left_counts owner in
              let none = counts_other owner wait is_detected differs in
              let was = known.detected owner file in
              let now_so : times file (files_of waiters owner) ≡ detected_waits (now file) owner = omega arith in rw (ends.others owner differs) now_so)
        ]

        off_file : (owner other : ℕ) → other ≢ file → times other (files_of after owner) ≡ detected_waits (waits other) owner
        off_file owner other elsewhere = elim (cases_eq owner wait.owner) [
          | inl is ↦ rw is (ends.elsewhere other elsewhere ∙ known.detected wait.owner other)
          | inr differs ↦ rw (ends.others owner differs) (known.detected owner other)
        ]

-- the same files, and nobody crossed without one
pub waiters_kept : (waits : ℕ → List Pending) (waiters after : Waiters) → WaitersKnown waits waiters
    → ((owner : ℕ) → files_of after owner ≡ files_of waiters owner)
    → ((owner : ℕ) → files_of after owner ≡ [] → crossed_of after owner ≡ false) → WaitersKnown waits after
waiters_kept waits waiters after known files crossed = grind (arith, common_steps)

-- a lock is given to an owner
pub waiters_crossed : (waits : ℕ → List Pending) (waiters after : Waiters) (owner : ℕ) → WaitersKnown waits waiters
    → view.Crosses waiters after owner → WaitersKnown waits after
waiters_crossed waits waiters after owner known crosses = grind (arith, common_steps, waiters_kept, cases_eq)
