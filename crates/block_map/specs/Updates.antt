-- What becomes of entries.
use Rattle.std.specs.Prelude.{◌≡◌, cond, List, Option}
use Rattle.std.specs.Map.{lookup}
use Rattle.std.specs.BTreeMap.{is_at}
use Rattle.std.specs.declared.cmp.Ordering.{Ordering}

-- the key has this value now, or none, and each other key what it had
abbrev pub Updates : {K X : Type 0} → (K → K → Ordering) → List (K × X) → List (K × X) → K → Option X → Type 0
Updates {K} cmp old new key value = (other : K) → lookup (is_at (cmp other)) new ≡ cond (is_at (cmp key) other) value (lookup (is_at (cmp other)) old)
