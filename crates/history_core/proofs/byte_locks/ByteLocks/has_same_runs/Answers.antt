use Rattle.history_core.proofs.Common.{rules, ◌≡◌, Bool, true, false, List, [], ◌∷◌, sym, ◌∙◌, refl, eqb-true, false≢true, ByteLock}
use Rattle.std.proofs.Common.{◌&&◌}
use denote.Enum.Bare.{same_true, sameb}
use lib.Pointwise.{pointwise}
use lib.Dec.{eqb}
use Rattle.range_core.specs.contracts.Mode.{the_type}
use Rattle.history_core.specs.contracts.byte_locks.ByteLockPartialEq.TheImpl.{eq-value}
use Rattle.history_core.proofs.byte_locks.ByteLocks.has_same_runs.Goals as goal

first : (a b : Bool) → (a && b) ≡ true → a ≡ true
first true b e = refl
first false b e = e

second : (a b : Bool) → (a && b) ≡ true → b ≡ true
second true b e = e
second false b e = absurd (false≢true e)

same_lock : (x y : ByteLock) → eq-value.it x y ≡ true → x ≡ y
same_lock x y e =
    let owners = eqb x.owner y.owner in
    let modes = sameb the_type x.mode y.mode in
    let firsts = eqb x.span.first y.span.first in
    let lasts = eqb x.span.last y.span.last in
    let rest : (modes && (firsts && lasts)) ≡ true = second owners (modes && (firsts && lasts)) e in
    let span : (firsts && lasts) ≡ true = second modes (firsts && lasts) rest in
    let same_mode : modes ≡ true = first modes (firsts && lasts) rest in
    let mode : x.mode ≡ y.mode = same_true the_type (search rules) x.mode y.mode same_mode in
    let owner : x.owner ≡ y.owner = eqb-true x.owner y.owner (first owners (modes && (firsts && lasts)) e) in
    let begins : x.span.first ≡ y.span.first = eqb-true x.span.first y.span.first (first firsts lasts span) in
    let ends : x.span.last ≡ y.span.last = eqb-true x.span.last y.span.last (second firsts lasts span) in
    λ i. record { owner = owner i; mode = mode i; span = record { first = begins i; last = ends i } }

same_runs : (xs ys : List ByteLock) → pointwise eq-value.it xs ys ≡ true → xs ≡ ys
same_runs [] [] e = refl
same_runs [] (y ∷ ys) e = absurd (false≢true e)
same_runs (x ∷ xs) [] e = absurd (false≢true e)
same_runs (x ∷ xs) (y ∷ ys) e =
    λ i. same_lock x y (first (eq-value.it x y) (pointwise eq-value.it xs ys) e) i ∷ same_runs xs ys (second (eq-value.it x y) (pointwise eq-value.it xs ys) e) i

pub returns : goal.returns
returns c holds =
    sym c.as_slice.ensures.value ∙ same_runs _ _ (sym c.eq.ensures ∙ search (rules, holds)) ∙ c.as_slice-2.ensures.value
