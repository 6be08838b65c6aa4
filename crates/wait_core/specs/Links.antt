-- The links from wait to wait (the words are this project's choice).
use Rattle.std.specs.Prelude.{ℕ, ◌≡◌, ◌≢◌, ◌≤◌, ◌==◌, zero, suc, Bool, false, ⊤, Option, None, Some, List, [], ◌∷◌, All, IsSome, slice_index_or}
use Rattle.std.specs.Option.{option_map_or}
use Rattle.std.specs.Coded.{×_prop, Unit-prop}
use Rattle.std.proofs.Props.{props}
use Rattle.wait_core.specs.declared.Wait.{Wait}
use Rattle.wait_core.specs.declared.processes.TheConstants.{PROCESSES}

-- what stands in the row of a process, and nothing where it has no row
abbrev pub row_at : {A : Type 0} → List (Option A) → ℕ → Option A
row_at rows p = slice_index_or rows p None

-- whether this is the process
abbrev pub is_process : Option ℕ → ℕ → Bool
is_process None p = false
is_process (Some q) p = q == p

-- of each process its wait, and of each one that waits the processes of the waits before and after its own on the same file
pub record Links : Type 0 where
  pub waits : ℕ → Option Wait
  pub before : ℕ → Option ℕ
  pub after : ℕ → Option ℕ

-- the waits that the links lead through, so many at most, from that of this process to those before it
abbrev pub follow : (ℕ → Option Wait) → (ℕ → Option ℕ) → ℕ → Option ℕ → List Wait
follow waits before zero next = []
follow waits before (suc n) None = []
follow waits before (suc n) (Some p) = option_map_or (λ wait. wait ∷ follow waits before n (before p)) (waits p) []

-- and each process that the links lead to waits
abbrev pub IsLed : (ℕ → Option Wait) → (ℕ → Option ℕ) → ℕ → Option ℕ → Type 0
IsLed waits before zero next = next ≡ None
IsLed waits before (suc n) None = ⊤
IsLed waits before (suc n) (Some p) = IsSome (waits p) × IsLed waits before n (before p)

-- the process of the first of these waits, where there is one
abbrev pub first_process : List Wait → Option ℕ
first_process [] = None
first_process (wait ∷ waits) = Some wait.p

-- the wait is on the file, and stands between these earlier ones, the latest first, and that of the next process
pub record Stands (links : Links) (file : ℕ) (next : Option ℕ) (wait : Wait) (earlier : List Wait) : Type 0 where
  pub few : wait.p ≤ PROCESSES
  pub on_file : wait.file ≡ file
  pub apart : All (λ v. wait.p ≢ v.p) earlier
  pub itself : links.waits wait.p ≡ Some wait
  pub before : links.before wait.p ≡ first_process earlier
  pub after : links.after wait.p ≡ next

-- the links lead through these waits on the file, the latest first, which stand before that of the next process
abbrev pub Lead : Links → ℕ → Option ℕ → List Wait → Type 0
Lead links file next [] = ⊤
Lead links file next (wait ∷ earlier) = Stands links file next wait earlier × Lead links file (Some wait.p) earlier

pub Lead-prop : (links : Links) (file : ℕ) (next : Option ℕ) (waits : List Wait) → IsProp (Lead links file next waits)
Lead-prop links file next [] = Unit-prop
Lead-prop links file next (wait ∷ earlier) = ×_prop (hlevel props) (Lead-prop links file (Some wait.p) earlier)

-- no wait is left of the process, and those before and after its own stand next to each other
pub record Leaves (old new : Links) (p : ℕ) : Type 0 where
  pub waits : (q : ℕ) → q ≢ p → new.waits q ≡ old.waits q
  pub before_next : (q : ℕ) → q ≤ PROCESSES → old.after p ≡ Some q → new.before q ≡ old.before p
  pub before : (q : ℕ) → q ≤ PROCESSES → old.after p ≢ Some q → new.before q ≡ old.before q
  pub after_last : (q : ℕ) → q ≤ PROCESSES → old.before p ≡ Some q → new.after q ≡ old.after p
  pub after : (q : ℕ) → q ≤ PROCESSES → old.before p ≢ Some q → new.after q ≡ old.after q
