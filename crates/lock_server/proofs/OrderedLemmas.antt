-- The lists of a state's inventory are in their order: for `LockServer::import`.
use Rattle.lock_server.proofs.Common.{ℕ, ◌≡◌, ◌∙◌, ◌<◌, ◌+◌, sym, ap, subst, arith, inl, inr, All, Any, Option, Some, List, [], ◌∷◌, get_or, map, AllPairs, IsTrue, cases_lt, length-map, Contains-get_or}
use Rattle.lock_server.proofs.Common.{Mode, Span, Covers, IsRun, Modes, FlockLock, Lock, FilePart, Parts, FileState, AreByteLocks, AreFiles, AreJust, IsInventory, Note, SaysFile, entry_place, note_place, IsByteLock, IsEarlier, IsFlockLock, flock_place, lock_place, inventory_of, note_of, State}
use Rattle.std.specs.Prelude.{◌≢◌, Contains}
use Rattle.std.proofs.Math.ListN.{get_or-map}
use Rattle.range_core.specs.Ranges.{IsApart}
use Rattle.lock_server.specs.declared.import.parts.Note.{Note as NotePart}
use Rattle.lock_server.specs.Ordered.{AreInOrder, IsInOrder, IsLockBefore, IsNoteBefore}
use Rattle.lock_server.specs.Reading.{entry_of}
use Rattle.lock_server.proofs.JustLemmas.{All-from}
use Rattle.lock_server.proofs.ListLemmas.{Any-cons, Any-here, Any-nil, Any-there}

-- what is in a list is mapped into the other
pub Contains-map : {X Y : Type 0} (f : X → Y) (xs : List X) (x : X) → Contains xs x → Contains (map f xs) (f x)
Contains-map f xs x (k, within, is) = (k, (let long = length-map xs f in omega arith), get_or-map f xs k x ∙ ap f is)

pub Any-map : {X Y : Type 0} (f : X → Y) (P : Y → Type 0) (xs : List X) → Any P (map f xs) → Any (λ x. P (f x)) xs
Any-map f P [] any = absurd (Any-nil P any)
Any-map f P (x ∷ xs) any = elim (Any-cons P (f x) (map f xs) any) [
  | inl here ↦ Any-here (λ y. P (f y)) x xs here
  | inr there ↦ Any-there (λ y. P (f y)) x xs (Any-map f P xs there)
]

pub AllPairs-map : {X Y : Type 0} (f : X → Y) (R : Y → Y → Type 0) (xs : List X) → AllPairs R (map f xs) → AllPairs (λ x y. R (f x) (f y)) xs
AllPairs-map f R xs pairs i j d before within =
    let long = length-map xs f in
    subst (λ y. R y (f (get_or xs j d))) (get_or-map f xs i d)
    (subst (λ y. R (get_or (map f xs) i (f d)) y) (get_or-map f xs j d) (pairs i j (f d) before (omega arith)))

AllPairs-weaker : {X : Type 0} (R Q : X → X → Type 0) → ((x y : X) → R x y → Q x y) → (xs : List X) → AllPairs R xs → AllPairs Q xs
AllPairs-weaker R Q weaker xs pairs i j d before within = weaker (get_or xs i d) (get_or xs j d) (pairs i j d before within)

-- two runs of one owner, of which the one begins before the other, are apart
module _ (modes : Modes) (m k : Mode) (one other : Span) (one_run : IsRun modes one.first m one) (other_run : IsRun modes other.first k other)
    (less : one.first < other.first) where
  same_at : (byte : ℕ) → Covers one byte → Covers other byte → m ≡ k
  same_at byte here there = (let a = one_run.constant byte here in let b = other_run.constant byte there in let c : Some m ≡ Some k = sym a ∙ b in cc)

  run_before : one.last < other.first
  run_before = elim (cases_lt one.last other.first) [
    | inl before ↦ before
    | inr after ↦ (
        let shared : Covers one other.first = (omega arith, after) in
        let same : m ≡ k = same_at other.first shared other_run.covered in
        let wide = other_run.largest one shared (λ byte inside. one_run.constant byte inside ∙ ap (λ (mode : Mode). Some mode) same) in
        let low = wide.0 in absurd (omega arith))
  ]

  modes_differ : one.last + 1 ≡ other.first → m ≢ k
  modes_differ beside same =
      let both : Span = record { first = one.first; last = other.last } in
      let covered : Covers both other.first = (omega arith, other_run.covered.1) in
      let wide = other_run.largest both covered (λ byte inside. elim (cases_lt one.last byte) [
        | inl after ↦ other_run.constant byte ((let i = inside.0 in omega arith), inside.1)
        | inr upto ↦ one_run.constant byte (inside.0, upto) ∙ ap (λ (mode : Mode). Some mode) same
      ]) in
      let low = wide.0 in omega arith

  pub runs_apart : IsApart (m, one) (k, other)
  runs_apart = (run_before, modes_differ)

lock_before : (F : FileState) (one other : Lock) → IsByteLock F one → IsByteLock F other → IsEarlier (lock_place one) (lock_place other) → IsLockBefore one other
lock_before F one other first second (inl less) = inl less
lock_before F one other first second (inr (same, inl less)) =
    inr (
      same,
      runs_apart (F.bytes one.owner) one.mode other.mode one.span other.span first
          (subst (λ (o : ℕ). IsRun (F.bytes o) other.span.first other.mode other.span) (sym same) second) less,
    )
lock_before F one other first second (inr (same, inr (equal, nothing))) = absurd nothing

locks_before : (F : FileState) (locks : List Lock) → AreByteLocks F locks → AllPairs IsLockBefore locks
locks_before F locks are i j d before within =
    lock_before F (get_or locks i d) (get_or locks j d)
    ((are.just.each (get_or locks i d)).0 (Contains-get_or locks i d (omega arith)))
    ((are.just.each (get_or locks j d)).0 (Contains-get_or locks j d within)) (are.just.rising i j d before within)

flocks_before : (F : FileState) (locks : List FlockLock) → AreJust flock_place (IsFlockLock F) locks → AllPairs (λ one other. one.owner < other.owner) locks
flocks_before F locks are = AllPairs-weaker (λ one other. IsEarlier (flock_place one) (flock_place other)) (λ one other. one.owner < other.owner) by locks are.rising
  where
    by : (one other : FlockLock) → IsEarlier (flock_place one) (flock_place other) → one.owner < other.owner
    by one other (inl less) = less
    by one other (inr (same, nothing)) = absurd nothing

numbers_before : (Has : ℕ → Type 0) (numbers : List ℕ) → AreJust (λ owner. owner ∷ []) Has numbers → AllPairs (λ one other. one < other) numbers
numbers_before Has numbers are = AllPairs-weaker (λ one other. IsEarlier (one ∷ []) (other ∷ [])) (λ one other. one < other) by numbers are.rising
  where
    by : (one other : ℕ) → IsEarlier (one ∷ []) (other ∷ []) → one < other
    by one other (inl less) = less
    by one other (inr (same, nothing)) = absurd nothing

notes_before : (Has : Note → Type 0) (notes : List NotePart) → AreJust note_place Has (map note_of notes) → AllPairs IsNoteBefore notes
notes_before Has notes are =
    AllPairs-weaker (λ one other. IsEarlier (note_place (note_of one)) (note_place (note_of other))) IsNoteBefore by notes
    (AllPairs-map note_of (λ one other. IsEarlier (note_place one) (note_place other)) notes are.rising)
  where
    by : (one other : NotePart) → IsEarlier (note_place (note_of one)) (note_place (note_of other)) → IsNoteBefore one other
    by one other (inl less) = inl less
    by one other (inr (same, inl less)) = inr (same, less)
    by one other (inr (same, inr (equal, nothing))) = absurd nothing

module _ (S : State) (parts : List FilePart) (are : AreFiles S (map entry_of parts)) where
  pub files_rise : AllPairs (λ one other. one.number < other.number) parts
  files_rise =
      AllPairs-weaker (λ one other. IsEarlier (entry_place (entry_of one)) (entry_place (entry_of other))) (λ one other. one.number < other.number) by parts
      (AllPairs-map entry_of (λ one other. IsEarlier (entry_place one) (entry_place other)) parts are.just.rising)
    where
      by : (one other : FilePart) → IsEarlier (entry_place (entry_of one)) (entry_place (entry_of other)) → one.number < other.number
      by one other (inl less) = less
      by one other (inr (same, nothing)) = absurd nothing

  pub all_says : All (λ part. SaysFile (S.files part.number) (entry_of part)) parts
  all_says =
      All-from (λ part. SaysFile (S.files part.number) (entry_of part)) parts
      (λ part among. ((are.just.each (entry_of part)).0 (Contains-map entry_of parts part among)).says)

  each_ordered : All IsInOrder parts
  each_ordered k d within =
      let part = get_or parts k d in
      let says = all_says k d within in
      record {
        locks = locks_before (S.files part.number) part.locks.items says.locks;
        flocks = flocks_before (S.files part.number) part.flocks.items says.flocks;
      }

pub in_order : (S : State) (through : ℕ → ℕ → Option ℕ) (parts : Parts) → IsInventory S through (inventory_of parts) → AreInOrder parts
in_order S through parts is = record {
  files = files_rise S parts.files.items is.files;
  each = each_ordered S parts.files.items is.files;
  crossed = numbers_before (λ owner. IsTrue (S.crossed owner)) parts.crossed.items is.crossed;
  notes = notes_before (λ note. through note.file note.owner ≡ Some note.open_file) parts.notes.items is.notes;
}
