-- Words of sections with one bit more or less, and answers behind others: for `Seat::with`, `Sections::hear` and others.
use Rattle.lock_manager.proofs.Common.{arith, ◌≡◌, ℕ, zero, suc, ◌<◌, ◌+◌, ◌==◌, ◌&&◌, ◌||◌, not, nat_le, if◌then◌else◌, Bool, true, false, None, length, get_or, take, List, [], ◌∷◌, ◌++◌, refl, sym, ap, ◌∙◌, inl, inr, w64, common_steps, cases_lt, cases_Bool, eqb_tells, nat_tests, Note, Answer, ProcState, Unborn, state_numbered, Seat, Sections, no_seat, seat_in}
use Rattle.std.proofs.Common.{◌*◌, ◌%◌, ◌^◌, set, replicate}
use Rattle.std.specs.Prelude.{bit_and, bit_or}
use Rattle.std.specs.Int.{bit_at, bit_not}
use Rattle.std.proofs.lemmas.Bool.{cases_eq, eq-eqb}
use Rattle.std.proofs.lemmas.Option.{slice_get_past, slice_get-get_or}
use Rattle.std.proofs.Math.Seq.{take-suc}
use Rattle.std.proofs.lemmas.List.{get_or-replicate, get_or-set_same, get_or-set_other, get_or_past, length-replicate}
use Rattle.std.proofs.lemmas.Nat.Bits.{bit_at-zero, bit_at_set_same, bit_at_set_other, bit_at_clear_same, bit_at_clear_other}
use Rattle.lock_manager.specs.declared.request.Note.TheVariants.{Waits}
use Rattle.lock_manager.specs.SeatView.{has_section, visit_of}
use Rattle.lock_manager.specs.Sections.{last_refused}

-- after one more bit is set
pub section_inserted : (old new k : ℕ) → k < 64 → new ≡ bit_or old (1 * 2 ^ k % 2 ^ 64) → (other : ℕ)
    → has_section new other ≡ (other == k || has_section old other)
unfolding has_section
section_inserted old new k few is other = elim (cases_eq other k) [
  | inl same ↦
      let bit : bit_at new other ≡ 1 = rw (is, same) (bit_at_set_same w64 old k few) in
      let here : (other == k) ≡ true = eq-eqb other k same in
      rw here (eq-eqb _ _ bit)
  | inr differs ↦
      let bit : bit_at new other ≡ bit_at old other = rw is (bit_at_set_other w64 old k few other differs) in
      let no : (other == k) ≡ false = grind (arith, nat_tests) in
      rw no (ap (λ (b : ℕ). b == 1) bit)
]

-- and after one is cleared
pub section_removed : (old new k : ℕ) → k < 64 → new ≡ bit_and old (bit_not w64 (1 * 2 ^ k % 2 ^ 64)) → (other : ℕ) → other < 64
    → has_section new other ≡ (if other == k then false else has_section old other)
unfolding has_section
section_removed old new k few is other within = elim (cases_eq other k) [
  | inl same ↦
      let bit : bit_at new other ≡ 0 = rw (is, same) (bit_at_clear_same w64 old k few) in
      let here : (other == k) ≡ true = eq-eqb other k same in
      rw (here, bit) refl
  | inr differs ↦
      let bit : bit_at new other ≡ bit_at old other = rw is (bit_at_clear_other w64 old k few other (omega (arith, within)) differs) in
      let no : (other == k) ≡ false = grind (arith, nat_tests) in
      rw no (ap (λ (b : ℕ). b == 1) bit)
]

-- nobody is in a section
pub no_visit : (section : ℕ) → visit_of no_seat section ≡ None
unfolding has_section
no_visit section = grind (arith, common_steps, bit_at-zero)

-- words that are replaced at one place
pub seat_put : (old new : Sections) (place : ℕ) (seat : Seat) → place < length old.seats.items → new.seats.items ≡ set old.seats.items place seat
    → (q : ℕ) → seat_in new q ≡ (if q == place + 1 then seat else seat_in old q)
unfolding seat_in
seat_put old new place seat within is zero = grind (arith, common_steps, eqb_tells)
seat_put old new place seat within is (suc at) = grind (arith, common_steps, eqb_tells, get_or-set_same, get_or-set_other)

-- the words that stand at a place
pub seat_at : (sections : Sections) (place p : ℕ) → p ≡ place + 1 → seat_in sections p ≡ get_or sections.seats.items place no_seat
unfolding seat_in
seat_at sections place zero is = absurd (omega arith)
seat_at sections place (suc at) is = let same : at ≡ place = omega arith in ap (λ (x : ℕ). get_or sections.seats.items x no_seat) same

-- of all processes from 0 on
pub stand_none : {X : Type 0} (was : ℕ → X) (ends : ℕ → Bool) (gone : X) → (ends 0 ≡ true → was 0 ≡ gone) → (q : ℕ)
    → was q ≡ (if nat_le q 0 then (if ends q then gone else was q) else was q)
stand_none was ends gone h zero = at (ends 0) h
  where
    at : (b : Bool) → (b ≡ true → was 0 ≡ gone) → was 0 ≡ (if b then gone else was 0)
    at true h = h refl
    at false h = refl
stand_none was ends gone h (suc q) = let no : nat_le (suc q) 0 ≡ false = grind (arith, nat_tests) in rw no refl

pub stand_next : {X : Type 0} (was before after : ℕ → X) (ends : ℕ → Bool) (ended : Bool) (gone : X) (place : ℕ) → ended ≡ ends (place + 1)
    → ((q : ℕ) → before q ≡ (if nat_le q place then (if ends q then gone else was q) else was q))
    → ((q : ℕ) → after q ≡ (if (q == place + 1) && ended then gone else before q))
    → (q : ℕ) → after q ≡ (if nat_le q (place + 1) then (if ends q then gone else was q) else was q)
stand_next was before after ends ended gone place is so_far next q = elim (cases_lt q (place + 1)) [
  | inl less ↦
      let no : (q == place + 1) ≡ false = grind (arith, nat_tests) in
      let low : nat_le q place ≡ true = grind (arith, nat_tests) in
      let below : nat_le q (place + 1) ≡ true = grind (arith, nat_tests) in
      next q ∙ rw (no, so_far q, low, below) refl
  | inr most ↦
      elim (cases_eq q (place + 1)) [
        | inl same ↦ grind (arith, common_steps, nat_tests, cases_Bool)
        | inr differs ↦
            let no : (q == place + 1) ≡ false = grind (arith, nat_tests) in
            let high : nat_le q place ≡ false = grind (arith, nat_tests) in
            let above : nat_le q (place + 1) ≡ false = grind (arith, nat_tests) in
            next q ∙ rw (no, so_far q, high, above) refl
      ]
]

pub stand_all : {X : Type 0} (was after : ℕ → X) (ends : ℕ → Bool) (gone : X) (count : ℕ)
    → ((q : ℕ) → after q ≡ (if nat_le q count then (if ends q then gone else was q) else was q))
    → ((q : ℕ) → count < q → was q ≡ (if ends q then gone else was q)) → (q : ℕ) → after q ≡ (if ends q then gone else was q)
stand_all was after ends gone count all past q = elim (cases_lt count q) [
  | inl high ↦ let no : nat_le q count ≡ false = grind (arith, nat_tests) in all q ∙ rw no (past q high)
  | inr low ↦ let yes : nat_le q count ≡ true = grind (arith, nat_tests) in all q ∙ rw yes refl
]

-- past the last place there is no process
pub unborn_past : (states : List ProcState) (q : ℕ) → length states < q → state_numbered states q ≡ Unborn
unborn_past states zero past = refl
unborn_past states (suc place) past = let none = slice_get_past states place (omega arith) in rw none refl

pub seat_past : (sections : Sections) (q : ℕ) → length sections.seats.items < q → seat_in sections q ≡ no_seat
unfolding seat_in
seat_past sections zero past = refl
seat_past sections (suc place) past = get_or_past sections.seats.items place no_seat (omega arith)

pub state_here : (states : List ProcState) (place : ℕ) (d : ProcState) → place < length states → state_numbered states (place + 1) ≡ get_or states place d
state_here states place d within =
    let next : place + 1 ≡ suc place = omega arith in
    rw (next, slice_get-get_or states place d within) refl

-- the answers behind others are heard behind them
pub heard_behind : (told more : List Note) (q : ℕ) (was : Bool) → last_refused (told ++ more) q was ≡ last_refused more q (last_refused told q was)
heard_behind [] more q was = refl
heard_behind (Answer p n reply ∷ told) more q was = heard_behind told more q _
heard_behind (Waits p n ∷ told) more q was = heard_behind told more q was

-- one note more is heard
pub heard_next : (told : List Note) (index : ℕ) (d : Note) (q : ℕ) (was before last : Bool) → index < length told
    → before ≡ last_refused (take index told) q was → last ≡ last_refused (get_or told index d ∷ []) q before
    → last ≡ last_refused (take (index + 1) told) q was
heard_next told index d q was before last within so_far next =
    let more : take (index + 1) told ≡ take index told ++ (get_or told index d ∷ []) =
    (let step : index + 1 ≡ suc index = omega arith in ap (λ (n : ℕ). take n told) step) ∙ take-suc told index d within in
    next ∙ ap (λ (b : Bool). last_refused (get_or told index d ∷ []) q b) so_far
    ∙ sym (heard_behind (take index told) (get_or told index d ∷ []) q was) ∙ ap (λ (notes : List Note). last_refused notes q was) (sym more)

-- who is gone was told no error last
pub gone_and : (live refused : Bool) → (if not live then false else refused) ≡ (live && refused)
gone_and true refused = refl
gone_and false refused = refl

-- all are nobody's at first
pub seats_none : (count place : ℕ) → get_or (replicate count no_seat) place no_seat ≡ no_seat
seats_none count place = grind (arith, common_steps, cases_lt, get_or-replicate, get_or_past, length-replicate)
