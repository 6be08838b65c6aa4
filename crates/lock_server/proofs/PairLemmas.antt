-- Pairs of an owner and a file, in order: for the holdings.
use Rattle.lock_server.proofs.Common.{arith, ℕ, ◌≡◌, ◌≢◌, ◌-◌, ◌^◌, ◌<◌, ◌≤◌, ◌∙◌, inl, inr, sym, ap, refl, true, false, Bool, Option, Some, None, IsTrue, cases_eq, cases_lt, nat_tests, is_at, IsFromStart, nat_cmp, is_within, pair_cmp, number_behind}
use Rattle.std.proofs.Common.{cond, List}
use Rattle.std.specs.Prelude.{IfNone, is_some, not}
use Rattle.std.specs.Map.{lookup}
use Rattle.std.specs.BTreeMap.Range.{IsLeBy, IsLtBy}
use Rattle.std.specs.Ordering.{is_eq, is_gt, ordering_then}
use Rattle.std.specs.declared.cmp.Ordering.{Ordering}
use Rattle.std.specs.declared.cmp.Ordering.TheVariants.{Less, Equal, Greater}
use Rattle.block_map.specs.Updates.{Updates}
use Rattle.lock_server.specs.HoldingsView.{behind, behind_owner}
use Rattle.lock_server.specs.OpeningsView.{IsAbove}

less : (x y : ℕ) → x < y → nat_cmp x y ≡ Less
less x y before = grind (arith, nat_tests)

same : (x y : ℕ) → x ≡ y → nat_cmp x y ≡ Equal
same x y is = grind (arith, nat_tests)

more : (x y : ℕ) → y < x → nat_cmp x y ≡ Greater
more x y behind = grind (arith, nat_tests)

differs : (x y : ℕ) → x ≢ y → is_eq (nat_cmp x y) ≡ false
differs x y apart = elim (cases_lt x y) [
  | inl before ↦ ap is_eq (less x y before)
  | inr past ↦ ap is_eq (more x y (omega arith))
]

module _ (owner file other any : ℕ) where
  -- a pair is at itself
  pub pair_at : other ≡ owner → any ≡ file → is_at (pair_cmp (owner, file)) (other, any) ≡ true
  pair_at same_owner same_file =
      ap (λ (o : Ordering). is_eq (ordering_then o (nat_cmp file any))) (same owner other (sym same_owner)) ∙ ap is_eq (same file any (sym same_file))

  -- and at no other
  pub pair_of_other : other ≢ owner → is_at (pair_cmp (owner, file)) (other, any) ≡ false
  pair_of_other apart = elim (cases_lt owner other) [
    | inl before ↦ ap (λ (o : Ordering). is_eq (ordering_then o (nat_cmp file any))) (less owner other before)
    | inr past ↦ ap (λ (o : Ordering). is_eq (ordering_then o (nat_cmp file any))) (more owner other (omega arith))
  ]

  pub pair_elsewhere : any ≢ file → is_at (pair_cmp (owner, file)) (other, any) ≡ false
  pair_elsewhere apart = elim (cases_eq other owner) [
    | inl is ↦ ap (λ (o : Ordering). is_eq (ordering_then o (nat_cmp file any))) (same owner other (sym is)) ∙ differs file any (λ is_file. apart (sym is_file))
    | inr other_owner ↦ pair_of_other other_owner
  ]

-- what follows where there is none
pub none_weaker : {A P Q : Type 0} (found : Option A) → (P → Q) → IfNone found P → IfNone found Q
none_weaker None follows fact = follows fact
none_weaker (Some x) follows fact = tt

module _ {X : Type 0} (old new : List ((ℕ × ℕ) × X)) (owner file : ℕ) (value : Option X) (updates : Updates pair_cmp old new (owner, file) value) where
  -- an update of a pair says whether it is kept
  pub pair_kept : is_some (lookup (is_at (pair_cmp (owner, file))) new) ≡ is_some value
  pair_kept = ap is_some (updates (owner, file) ∙ ap (λ b. cond b value (lookup (is_at (pair_cmp (owner, file))) old)) (pair_at owner file owner file refl refl))

  -- and each other pair is kept where it was
  pub pair_left : (other any : ℕ) → is_at (pair_cmp (owner, file)) (other, any) ≡ false
      → is_some (lookup (is_at (pair_cmp (other, any))) new) ≡ is_some (lookup (is_at (pair_cmp (other, any))) old)
  pair_left other any apart = ap is_some (updates (other, any) ∙ ap (λ b. cond b value (lookup (is_at (pair_cmp (other, any))) old)) apart)

-- a pair that is put in where it isn't there yet is there then, and each other pair is kept where it was
pub entered : {X : Type 0} (old new : List ((ℕ × ℕ) × X)) (owner file : ℕ) (value : X) (is_new : Bool) → is_new ≡ not (is_some (lookup (is_at (pair_cmp (owner, file))) old))
    → (is_new ≡ true → Updates pair_cmp old new (owner, file) (Some value)) → (is_new ≡ false → new ≡ old)
    → (is_some (lookup (is_at (pair_cmp (owner, file))) new) ≡ true) × ((other any : ℕ) → is_at (pair_cmp (owner, file)) (other, any) ≡ false
    → is_some (lookup (is_at (pair_cmp (other, any))) new) ≡ is_some (lookup (is_at (pair_cmp (other, any))) old))
entered old new owner file value true told updates same = let comes = updates refl in (pair_kept old new owner file (Some value) comes, pair_left old new owner file (Some value) comes)
entered old new owner file value false told updates same = (
  ap (λ pairs. is_some (lookup (is_at (pair_cmp (owner, file))) pairs)) (same refl) ∙ there (is_some (lookup (is_at (pair_cmp (owner, file))) old)) told,
  λ other any apart. ap (λ pairs. is_some (lookup (is_at (pair_cmp (other, any))) pairs)) (same refl),
)
  where
    there : (b : Bool) → false ≡ not b → b ≡ true
    there true is = refl
    there false is = absurd (let no : false ≡ true = is in cc)

-- of one owner's pairs that of the lesser file comes first
pub pair_before : (owner file any : ℕ) → file < any → IsLtBy pair_cmp (owner, file) (owner, any)
pair_before owner file any before =
    ap (λ (o : Ordering). ordering_then o (nat_cmp file any)) (same owner owner refl) ∙ less file any before

pub pair_from_first : (owner any : ℕ) → IsLeBy pair_cmp (owner, 0) (owner, any)
pair_from_first owner any = elim (cases_eq 0 any) [
  | inl is ↦ ap (λ (o : Ordering). is_gt (ordering_then o (nat_cmp 0 any))) (same owner owner refl) ∙ ap is_gt (same 0 any is)
  | inr apart ↦ ap is_gt (pair_before owner 0 any (omega arith))
]

-- a pair that isn't behind another is of no greater owner, and where they are of one owner, of no greater file
pub owner_upto : (owner file other any : ℕ) → IsLeBy pair_cmp (owner, file) (other, any) → owner ≤ other
owner_upto owner file other any upto = elim (cases_lt other owner) [
  | inl behind ↦ absurd (let no : true ≡ false = sym (ap (λ (o : Ordering). is_gt (ordering_then o (nat_cmp file any))) (more owner other behind)) ∙ upto in cc)
  | inr from ↦ from
]

-- a pair of the owner whose file is above comes behind
pub pair_behind : (owner : ℕ) (above : Option ℕ) (file : ℕ) → IsAbove above file → IsFromStart pair_cmp (behind owner above) (owner, file)
pair_behind owner None file from = pair_from_first owner file
pair_behind owner (Some least) file from = pair_before owner least file from

-- and one that comes behind is of no lesser owner, and where it is of the owner, its file is above
pub owner_behind : (owner : ℕ) (above : Option ℕ) (other file : ℕ) → IsFromStart pair_cmp (behind owner above) (other, file) → owner ≤ other
owner_behind owner None other file from = owner_upto owner 0 other file from
owner_behind owner (Some least) other file from = owner_upto owner least other file (ap is_gt from)

-- what is not true is false
pub untrue : (test : Bool) → (IsTrue test → ⊥) → test ≡ false
untrue true none = absurd (none refl)
untrue false none = refl

-- each pair of an owner from the first on comes behind the first owner's
pub from_owner : (first owner file : ℕ) → first ≤ owner → IsFromStart pair_cmp (behind first None) (owner, file)
from_owner first owner file from = elim (cases_eq first owner) [
  | inl is ↦ ap (λ (o : Ordering). is_gt (ordering_then o (nat_cmp 0 file))) (same first owner is ∙ sym (same owner owner refl)) ∙ pair_from_first owner file
  | inr apart ↦ ap (λ (o : Ordering). is_gt (ordering_then o (nat_cmp 0 file))) (less first owner (omega arith))
]

-- each pair of an owner that is above comes where the pairs of these begin
pub from_behind_owner : (above : Option ℕ) (owner file : ℕ) → number_behind above ≤ owner → IsFromStart pair_cmp (behind_owner above) (owner, file)
from_behind_owner None owner file from = from_owner 0 owner file from
from_behind_owner (Some last) owner file from =
    ap (λ (o : Ordering). ordering_then o (nat_cmp (2 ^ 64 - 1) file)) (less last owner (omega arith))

pub within_is : (first last owner : ℕ) → first ≤ owner → owner ≤ last → is_within first last owner ≡ true
within_is first last owner from upto = grind (arith, nat_tests)

pub within_first : (first last owner : ℕ) → IsTrue (is_within first last owner) → first ≤ owner
within_first first last owner within = grind (arith, nat_tests)

pub within_last : (first last owner : ℕ) → IsTrue (is_within first last owner) → owner ≤ last
within_last first last owner within = grind (arith, nat_tests)
