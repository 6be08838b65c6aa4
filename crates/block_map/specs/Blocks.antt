-- Entries in order, and in blocks, each behind its bound.
use Rattle.std.specs.Prelude.{◌≡◌, ℕ, zero, suc, false, cond, ⊤, Option, Some, None, is_some, unwrap_or, List, [], ◌∷◌, ◌++◌, length}
use Rattle.std.specs.List.{AllByRecursion, zip}
use Rattle.std.specs.Map.{lookup}
use Rattle.std.specs.BTreeMap.{insert_entry, is_at}
use Rattle.std.specs.Ordering.{is_gt}
use Rattle.std.specs.declared.cmp.Ordering.{Ordering}
use Rattle.std.specs.declared.ops.Bound.{Bound}
use Rattle.std.specs.declared.ops.Bound.TheVariants.{Excluded, Included, Unbounded}
use Rattle.std.specs.declared.cmp.Ordering.TheVariants.{Less, Equal, Greater}

-- the entries of blocks, in order
abbrev pub entries_of : {K X : Type 0} → List (K × List (K × X)) → List (K × X)
entries_of [] = []
entries_of (block ∷ blocks) = block.1 ++ entries_of blocks

module _ {K X : Type 0} (cmp : K → K → Ordering) where
  -- the keys rise
  abbrev pub AreRising : List (K × X) → Type 0
  AreRising [] = ⊤
  AreRising (e ∷ es) = AllByRecursion (λ f. cmp e.0 f.0 ≡ Less) es × AreRising es

  -- each key has a value, and they rise
  abbrev pub AreKept : List K → List X → Type 0
  AreKept keys values = (length values ≡ length keys) × AreRising (zip keys values)

  -- the key's entry stands at this place, behind those of lesser keys
  abbrev pub IsFoundAt : K → List (K × X) → ℕ → Type 0
  IsFoundAt key [] place = ⊥
  IsFoundAt key (e ∷ es) zero = cmp e.0 key ≡ Equal
  IsFoundAt key (e ∷ es) (suc place) = (cmp e.0 key ≡ Less) × IsFoundAt key es place

  -- the key has no entry, which would stand at this place, between those of lesser and of greater keys
  abbrev pub IsMissingAt : K → List (K × X) → ℕ → Type 0
  IsMissingAt key es zero = AllByRecursion (λ e. cmp e.0 key ≡ Greater) es
  IsMissingAt key [] (suc place) = ⊥
  IsMissingAt key (e ∷ es) (suc place) = (cmp e.0 key ≡ Less) × IsMissingAt key es place

  -- the entries, with one of this key where it had none
  abbrev pub with_new : List (K × X) → K → X → List (K × X)
  with_new es key value = cond (is_some (lookup (is_at (cmp key)) es)) es (insert_entry cmp es key value)

  -- each key comes before the bound
  abbrev pub AreBefore : K → List (K × X) → Type 0
  AreBefore bound es = AllByRecursion (λ e. cmp e.0 bound ≡ Less) es

  -- each key is the bound or comes behind it
  abbrev pub AreFrom : K → List (K × X) → Type 0
  AreFrom bound es = AllByRecursion (λ e. is_gt (cmp bound e.0) ≡ false) es

  -- the bounds of the blocks come behind this one
  abbrev pub AreBounded : K → List (K × List (K × X)) → Type 0
  AreBounded bound blocks = AllByRecursion (λ block. cmp bound block.0 ≡ Less) blocks

  -- the first entries come before the first bound, and those of each block lie from its bound on, before the next
  abbrev pub AreParted : List (K × X) → List (K × List (K × X)) → Type 0
  AreParted first [] = ⊤
  AreParted first (block ∷ blocks) = AreBefore block.0 first × AreFrom block.0 block.1 × AreBounded block.0 blocks × AreParted block.1 blocks

  -- the entries among which the key belongs
  abbrev pub block_for : K → List (K × X) → List (K × List (K × X)) → List (K × X)
  block_for key first [] = first
  block_for key first (block ∷ blocks) = cond (is_gt (cmp block.0 key)) first (block_for key block.1 blocks)

  -- the last bound that is the key or comes before it
  abbrev pub bound_for : K → List (K × List (K × X)) → Option K
  bound_for key [] = None
  bound_for key (block ∷ blocks) = cond (is_gt (cmp block.0 key)) None (Some (unwrap_or (bound_for key blocks) block.0))

  -- the same of where a range of keys begins
  abbrev pub bound_from : Bound K → List (K × List (K × X)) → Option K
  bound_from Unbounded blocks = None
  bound_from (Included key) blocks = bound_for key blocks
  bound_from (Excluded key) blocks = bound_for key blocks

  -- all entries, with others in place of those
  abbrev pub with_block : K → List (K × X) → List (K × X) → List (K × List (K × X)) → List (K × X)
  with_block key new first [] = new
  with_block key new first (block ∷ blocks) = cond (is_gt (cmp block.0 key)) (new ++ entries_of (block ∷ blocks)) (first ++ with_block key new block.1 blocks)
