-- The first byte that runs block, and the least owner that blocks there.
use Rattle.interval_index.proofs.Common.{◌≡◌, ◌≢◌, ℕ, ◌<◌, ◌≤◌, ◌⊎◌, Bool, true, false, not, cond, ◌&&◌, ◌||◌, leb, Option, Some, None, List, [], ◌∷◌, refl, sym, ap, ◌∙◌, subst, arith, find, list_any, AllByRecursion, Any, Mode, Span, Conflict, Holder, Run, Reaching, holder_of, is_same_holder, is_by, IsBefore, AreOrdered, begins_after, blocks, conflicts_with, reaches_lock, IsLeastOf}
use Rattle.std.proofs.Common.{zero, suc, inl, inr, length, get_or}
use Rattle.std.proofs.lemmas.Bool.{and_from, le-leb, le-ltb, leb-true, ltb-false, or_left, or_right}
use Rattle.std.specs.Option.{IfSome}
use Rattle.range_core.specs.Ranges.{Covers, HeldConflicts}
use Rattle.summary_tree.specs.Cuts.{IsCutBy, before}
use Rattle.interval_index.specs.declared.FirstInTheWay.{FirstInTheWay}
use Rattle.interval_index.specs.Holders.{IsBeforeHolder}
use Rattle.interval_index.specs.Leasts.{reaches_by}
use Rattle.interval_index.specs.Standing.{HolderModes, Tells, AreRunsOf, BlocksOn, IsFirstInTheWay, IsRunThere}
use Rattle.interval_index.proofs.HolderLemmas.{another_found, another_holds, by_both, by_itself, by_not_before, not_both_before, same_holds}
use Rattle.interval_index.proofs.Blocking.{any_here, any_there, conflict_found, conflict_holds, parts, whole}
use Rattle.interval_index.proofs.Order.{cut_beyond}
use Rattle.interval_index.proofs.Standings.{any_like}

refuted_at : (P : Run → Type 0) (xs : List Run) → AllByRecursion (λ y. P y → ⊥) xs → (k : ℕ) (x : Run) → k < length xs → get_or xs k x ≡ x → P x → ⊥
refuted_at P [] h k x l i p = absurd (omega arith)
refuted_at P (y ∷ ys) h zero x l i p = h.0 (subst P (sym i) p)
refuted_at P (y ∷ ys) h (suc k) x l i p = refuted_at P ys h.1 k x (omega arith) i p

refuted : (P : Run → Type 0) (xs : List Run) → AllByRecursion (λ y. P y → ⊥) xs → Any P xs → ⊥
refuted P xs h a = refuted_at P xs h a.0 a.1 a.2 a.3 a.4

none_behind : (P : Run → Type 0) (x : Run) → ((y : Run) → P y → (x ≡ y) ⊎ IsBefore x y → ⊥) → (xs : List Run) → AllByRecursion (IsBefore x) xs → AllByRecursion (λ y. P y → ⊥) xs
none_behind P x f [] h = tt
none_behind P x f (y ∷ ys) h = (λ p. f y p (inr h.0), none_behind P x f ys h.1)

earlier_at : (p : Run → Bool) (P : Run → Type 0) (x z : Run) (zs : List Run) (b : Bool) → p z ≡ b → ((y : Run) → P y → p y ≡ true) → ((y : Run) → P y → (x ≡ y) ⊎ IsBefore x y → ⊥) → AllByRecursion (IsBefore z) zs → cond b (Some z) (find p zs) ≡ Some x
    → (find p zs ≡ Some x → AllByRecursion (λ y. P y → ⊥) zs) → AllByRecursion (λ y. P y → ⊥) (z ∷ zs)
earlier_at p P x z zs true e f g s i ih =
    let same : z ≡ x = cc in
    (λ h. g z h (inl (sym same)), none_behind P x g zs (subst (λ (w : Run). AllByRecursion (IsBefore w) zs) same s))
earlier_at p P x z zs false e f g s i ih = (λ h. let t : p z ≡ true = f z h in absurd (cc), ih i)

-- where x is the first run that passes, none passes that isn't x and doesn't come behind it
none_earlier : (p : Run → Bool) (P : Run → Type 0) (x : Run) → ((y : Run) → P y → p y ≡ true) → ((y : Run) → P y → (x ≡ y) ⊎ IsBefore x y → ⊥) → (runs : List Run) → AreOrdered runs → find p runs ≡ Some x → AllByRecursion (λ y. P y → ⊥) runs
none_earlier p P x f g [] s i = absurd (cc)
none_earlier p P x f g (z ∷ zs) s i = earlier_at p P x z zs (p z) refl f g s.1 i (none_earlier p P x f g zs s.2)

-- the first run that passes: it is one of the runs, passes and has a byte
pub record IsFound (p : Run → Bool) (runs : List Run) (run : Run) : Type 0 where
  pub among : Any (λ y. y ≡ run) runs
  pub passes : p run ≡ true
  pub filled : run.span.first ≤ run.span.last

found_at : (p : Run → Bool) (x z : Run) (zs : List Run) (b : Bool) → p z ≡ b → z.span.first ≤ z.span.last → cond b (Some z) (find p zs) ≡ Some x → (find p zs ≡ Some x → IsFound p zs x) → IsFound p (z ∷ zs) x
found_at p x z zs true e l i ih =
    let same : z ≡ x = cc in
    record { among = any_here (λ y. y ≡ x) z zs same; passes = sym (ap p same) ∙ e; filled = subst (λ (w : Run). w.span.first ≤ w.span.last) same l }
found_at p x z zs false e l i ih = let rest = ih i in record { among = any_there (λ y. y ≡ x) z zs rest.among; passes = rest.passes; filled = rest.filled }

is_found : (p : Run → Bool) (x : Run) (runs : List Run) → AreOrdered runs → find p runs ≡ Some x → IsFound p runs x
is_found p x [] s i = absurd (cc)
is_found p x (z ∷ zs) s i = found_at p x z zs (p z) refl s.0 i (is_found p x zs s.2)

all_pass : (p : Run → Bool) (ys : List Run) → AllByRecursion (λ y. p y ≡ true) ys → AllByRecursion (λ y. p y ≡ false → ⊥) ys
all_pass p [] h = tt
all_pass p (y ∷ ys) h = ((λ e. let t : p y ≡ true = h.0 in absurd (cc)), all_pass p ys h.1)

some_before_at : (cut p : Run → Bool) (y : Run) (ys : List Run) (b : Bool) → cut y ≡ b → IsCutBy cut (y ∷ ys) → (k : ℕ) (x : Run) → k < length ys → get_or ys k x ≡ x → cut x ≡ false → (IsCutBy cut ys → list_any p (before cut ys) ≡ true)
    → list_any p (cond b [] (y ∷ before cut ys)) ≡ true
some_before_at cut p y ys true e h k x l i c ih = absurd (refuted_at (λ z. cut z ≡ false) ys (all_pass cut ys (h.0 e)) k x l i c)
some_before_at cut p y ys false e h k x l i c ih = or_right (p y) (list_any p (before cut ys)) (ih h.1)

-- an item before the place is found among those before it
some_before : (cut p : Run → Bool) (runs : List Run) → IsCutBy cut runs → (k : ℕ) (x : Run) → k < length runs → get_or runs k x ≡ x → cut x ≡ false → p x ≡ true → list_any p (before cut runs) ≡ true
some_before cut p [] h k x l i c e = absurd (omega arith)
some_before cut p (y ∷ ys) h zero x l i c e =
    let out : cut y ≡ false = ap cut i ∙ c in
    let passes : p y ≡ true = ap p i ∙ e in
    ap (λ b. list_any p (cond b [] (y ∷ before cut ys))) out ∙ or_left (p y) (list_any p (before cut ys)) passes
some_before cut p (y ∷ ys) h (suc k) x l i c e =
    some_before_at cut p y ys (cut y) refl h k x (omega arith) i c (λ g. some_before cut p ys g k x (omega arith) i c e)

found_before_at : (cut p : Run → Bool) (y : Run) (ys : List Run) (b d : Bool) → cut y ≡ b → p y ≡ d → list_any p (cond b [] (y ∷ before cut ys)) ≡ true → (list_any p (before cut ys) ≡ true → Any (λ r. (p r ≡ true) × (cut r ≡ false)) ys)
    → Any (λ r. (p r ≡ true) × (cut r ≡ false)) (y ∷ ys)
found_before_at cut p y ys true d e f h ih = absurd (cc)
found_before_at cut p y ys false true e f h ih = any_here (λ r. (p r ≡ true) × (cut r ≡ false)) y ys (f, e)
found_before_at cut p y ys false false e f h ih = any_there (λ r. (p r ≡ true) × (cut r ≡ false)) y ys (ih (sym (ap (λ c. c || list_any p (before cut ys)) f) ∙ h))

-- and what is found among those before it is one of the items, before the place
found_before : (cut p : Run → Bool) (runs : List Run) → list_any p (before cut runs) ≡ true → Any (λ r. (p r ≡ true) × (cut r ≡ false)) runs
found_before cut p [] h = absurd (cc)
found_before cut p (y ∷ ys) h = found_before_at cut p y ys (cut y) (p y) refl refl h (found_before cut p ys)

-- the run is that of another owner, conflicts, and covers the byte
record Hits (holder : Holder) (wanted : Mode) (byte : ℕ) (other : Holder) (run : Run) : Type 0 where
  of : holder_of run ≡ other
  another : other ≢ holder
  conflicts : Conflict run.mode wanted
  covered : Covers run.span byte

hits_at : (modes : HolderModes) (holder : Holder) (wanted : Mode) (byte : ℕ) (other : Holder) (runs : List Run) → AreRunsOf modes runs → other ≢ holder → (held : Option Mode) → modes other byte ≡ held → HeldConflicts held wanted → Any (Hits holder wanted byte other) runs
hits_at modes holder wanted byte other runs of n None is h = absurd h
hits_at modes holder wanted byte other runs of n (Some held) is h =
    any_like (λ run. Tells run other byte held) (Hits holder wanted byte other) runs (λ run t. record {
      of = t.of;
      another = n;
      conflicts = subst (λ mode. Conflict mode wanted) (sym t.in_mode) h;
      covered = t.covered;
    }) (of.all other byte held is)

-- where an owner blocks, a run of its does
hits_found : (modes : HolderModes) (holder : Holder) (wanted : Mode) (byte : ℕ) (other : Holder) (runs : List Run) → AreRunsOf modes runs → BlocksOn modes holder wanted byte other → Any (Hits holder wanted byte other) runs
hits_found modes holder wanted byte other runs of b = hits_at modes holder wanted byte other runs of b.another (modes other byte) refl b.conflicts

-- and where a run does, its owner does
blocks_on : (modes : HolderModes) (holder : Holder) (wanted : Mode) (byte : ℕ) (run : Run) (runs : List Run) → AreRunsOf modes runs → Any (λ y. y ≡ run) runs → holder_of run ≢ holder → Conflict run.mode wanted → Covers run.span byte → BlocksOn modes holder wanted byte (holder_of run)
blocks_on modes holder wanted byte run runs of among n c covered =
    let tells : Tells run (holder_of run) byte run.mode = record { of = refl; in_mode = refl; covered = covered } in
    let has = of.told (holder_of run) byte run.mode (any_like (λ y. y ≡ run) (λ y. Tells y (holder_of run) byte run.mode) runs (λ y e. subst (λ (z : Run). Tells z (holder_of run) byte run.mode) (sym e) tells) among) in
    record { another = n; conflicts = subst (λ held. HeldConflicts held wanted) (sym has) c }

hits_block : (holder : Holder) (span : Span) (wanted : Mode) (byte : ℕ) (other : Holder) (run : Run) → Hits holder wanted byte other run → span.first ≤ byte → byte ≤ span.last → blocks holder span wanted run ≡ true
hits_block holder span wanted byte other run h f l =
    whole (is_same_holder holder (holder_of run)) run.span.first run.span.last span.first span.last (conflicts_with wanted run.mode)
    (record { mode = conflict_found wanted run.mode h.conflicts; another = another_found holder (holder_of run) (λ e. h.another (sym h.of ∙ e)); before = omega (arith, h.covered); behind = omega (arith, h.covered) })

begins_by : (x y : Run) → (x ≡ y) ⊎ IsBefore x y → x.span.first ≤ y.span.first
begins_by x y (inl e) = let f : x.span.first ≡ y.span.first = ap (λ (r : Run). r.span.first) e in omega arith
begins_by x y (inr (inl l)) = omega arith
begins_by x y (inr (inr e)) = let f : x.span.first ≡ y.span.first = e.0 in omega arith

owner_by : (x y : Run) (other : Holder) → holder_of y ≡ other → IsBeforeHolder other (holder_of x) → y.span.first ≤ x.span.first → (x ≡ y) ⊎ IsBefore x y → ⊥
owner_by x y other of b l (inl e) =
    let same : holder_of x ≡ other = ap holder_of e ∙ of in
    let itself = subst (λ (h : Holder). IsBeforeHolder other h) same b in
    not_both_before other other itself itself
owner_by x y other of b l (inr (inl k)) = omega arith
owner_by x y other of b l (inr (inr e)) = not_both_before other (holder_of x) b (subst (λ (h : Holder). IsBeforeHolder (holder_of x) h) of e.1)

-- where the first run that blocks begins no earlier than the range, it is its first byte and its owner that are the first in the way
pub first_begins : (modes : HolderModes) (holder : Holder) (span : Span) (wanted : Mode) (run : Run) (runs : List Run) → AreRunsOf modes runs → AreOrdered runs → find (blocks holder span wanted) runs ≡ Some run → span.first ≤ run.span.first
    → IsFirstInTheWay modes holder span wanted run.span.first (holder_of run)
first_begins modes holder span wanted run runs of s i l =
    let found = is_found (blocks holder span wanted) run runs s i in
    let p = parts (is_same_holder holder (holder_of run)) run.span.first run.span.last span.first span.last (conflicts_with wanted run.mode) found.passes in
    let by_last : run.span.first ≤ span.last = p.before in
    let filled : run.span.first ≤ run.span.last = found.filled in
    record {
      covered = (omega arith, by_last);
      blocks = blocks_on modes holder wanted run.span.first run runs of found.among (another_holds holder (holder_of run) p.another) (conflict_holds wanted run.mode p.mode) (omega arith, filled);
      least_byte = λ byte other f k b.
          refuted (Hits holder wanted byte other) runs
          (none_earlier (blocks holder span wanted) (Hits holder wanted byte other) run
          (λ y h. hits_block holder span wanted byte other y h f (omega arith))
          (λ y h e. let begins = begins_by run y e in omega (arith, h.covered))
          runs s i)
          (hits_found modes holder wanted byte other runs of b);
      least_owner = λ other e b.
          refuted (Hits holder wanted run.span.first other) runs
          (none_earlier (blocks holder span wanted) (Hits holder wanted run.span.first other) run
          (λ y h. hits_block holder span wanted run.span.first other y h (omega arith) by_last)
          (λ y h o. owner_by run y other h.of e h.covered.0 o)
          runs s i)
          (hits_found modes holder wanted run.span.first other runs of b);
    }

reach_whole : (k e l : Bool) → k ≡ true → e ≡ false → l ≡ true → (k && (not e && l)) ≡ true
reach_whole true false true h i j = refl
reach_whole true false false h i j = absurd (cc)
reach_whole true true l h i j = absurd (cc)
reach_whole false e l h i j = absurd (cc)

reach_parts : (k e l i : Bool) → ((k && (not e && l)) && i) ≡ true → (k ≡ true) × (e ≡ false) × (l ≡ true) × (i ≡ true)
reach_parts true false true i h = (refl, refl, refl, h)
reach_parts true false false i h = absurd (cc)
reach_parts true true l i h = absurd (cc)
reach_parts false e l i h = absurd (cc)

hits_reach : (query : Reaching) (other : Holder) (run : Run) → Hits query.holder query.wanted query.byte other run → reaches_by query other run ≡ true
hits_reach query other run h =
    let reaches = reach_whole (conflicts_with query.wanted run.mode) (is_same_holder query.holder (holder_of run)) (leb query.byte run.span.last) (conflict_found query.wanted run.mode h.conflicts)
    (another_found query.holder (holder_of run) (λ e. h.another (sym h.of ∙ e))) (le-leb query.byte run.span.last h.covered.1) in
    and_from (reaches_lock query.holder query.byte query.wanted run) (is_by (holder_of run) other) reaches (subst (λ (b : Holder). is_by (holder_of run) b ≡ true) h.of (by_itself (holder_of run)))

-- an owner that blocks on the query's byte is one by which a run is found
owner_found : (query : Reaching) (other : Holder) (runs : List Run) → AreOrdered runs → Any (Hits query.holder query.wanted query.byte other) runs → list_any (reaches_by query other) (before (begins_after query.byte) runs) ≡ true
owner_found query other runs s a =
    some_before (begins_after query.byte) (reaches_by query other) runs (cut_beyond query.byte runs s) a.0 a.1 a.2 a.3 (le-ltb query.byte a.1.span.first a.4.covered.0) (hits_reach query other a.1 a.4)

-- the least owner of the runs that begin by the range's first byte and reach it is the first in the way
pub least_is_first : (modes : HolderModes) (holder : Holder) (span : Span) (wanted : Mode) (least : Holder) (runs : List Run) → AreRunsOf modes runs → AreOrdered runs → span.first ≤ span.last
    → IsLeastOf (record { holder = holder; byte = span.first; wanted = wanted }) (Some least) (before (begins_after span.first) runs) → IsFirstInTheWay modes holder span wanted span.first least
least_is_first modes holder span wanted least runs of s l told =
    let query : Reaching = record { holder = holder; byte = span.first; wanted = wanted } in
    let a = found_before (begins_after span.first) (reaches_by query least) runs (sym (told.exact least) ∙ by_itself least) in
    let run = a.1 in
    let p = reach_parts (conflicts_with wanted run.mode) (is_same_holder holder (holder_of run)) (leb span.first run.span.last) (is_by (holder_of run) least) a.4.0 in
    let another = another_holds holder (holder_of run) p.1 in
    let conflicts = conflict_holds wanted run.mode p.0 in
    let covered : Covers run.span span.first = (ltb-false span.first run.span.first a.4.1, leb-true span.first run.span.last p.2) in
    let hit : Hits holder wanted span.first (holder_of run) run = record { of = refl; another = another; conflicts = conflicts; covered = covered } in
    let mine = owner_found query (holder_of run) runs s (a.0, run, a.2, a.3, hit) in
    let same = by_both (holder_of run) least p.3 (told.exact (holder_of run) ∙ mine) in
    record {
      covered = (omega arith, l);
      blocks = subst (BlocksOn modes holder wanted span.first) same (blocks_on modes holder wanted span.first run runs of (a.0, run, a.2, a.3, refl) another conflicts covered);
      least_byte = λ byte other f k b. omega arith;
      least_owner = λ other e b. by_not_before least other (told.exact other ∙ owner_found query other runs s (hits_found modes holder wanted span.first other runs of b)) e;
    }

-- there is one, where the first run that blocks begins by that byte
pub never_none : (holder : Holder) (span : Span) (wanted : Mode) (run : Run) (runs : List Run) → AreOrdered runs → find (blocks holder span wanted) runs ≡ Some run → run.span.first ≤ span.first
    → IsLeastOf (record { holder = holder; byte = span.first; wanted = wanted }) None (before (begins_after span.first) runs) → ⊥
never_none holder span wanted run runs s i l told =
    let query : Reaching = record { holder = holder; byte = span.first; wanted = wanted } in
    let found = is_found (blocks holder span wanted) run runs s i in
    let p = parts (is_same_holder holder (holder_of run)) run.span.first run.span.last span.first span.last (conflicts_with wanted run.mode) found.passes in
    let hit : Hits holder wanted span.first (holder_of run) run = record { of = refl; another = another_holds holder (holder_of run) p.another; conflicts = conflict_holds wanted run.mode p.mode; covered = (l, p.behind) } in
    let a = any_like (λ y. y ≡ run) (Hits holder wanted span.first (holder_of run)) runs (λ y e. subst (Hits holder wanted span.first (holder_of run)) (sym e) hit) found.among in
    let t : false ≡ true = told.exact (holder_of run) ∙ owner_found query (holder_of run) runs s a in
    absurd (cc)

-- a byte and an owner that are the first are so by the names of what tells them
pub told_first : (modes : HolderModes) (holder : Holder) (span : Span) (wanted : Mode) (byte : ℕ) (least : Holder) (hit : FirstInTheWay) → hit.byte ≡ byte → hit.holder ≡ least
    → IsFirstInTheWay modes holder span wanted byte least → IsFirstInTheWay modes holder span wanted hit.byte hit.holder
told_first modes holder span wanted byte least hit at its first =
    subst (λ (b : ℕ). IsFirstInTheWay modes holder span wanted b hit.holder) (sym at) (subst (λ (h : Holder). IsFirstInTheWay modes holder span wanted byte h) (sym its) first)

met_at : (run : Run) (runs : List Run) (byte : ℕ) (least : Holder) (b : Bool) → is_same_holder (holder_of run) least ≡ b → Any (λ y. y ≡ run) runs → Covers run.span byte → IfSome (cond b (Some run) None) (IsRunThere runs least byte)
met_at run runs byte least true e among covers = record { among = among; of = same_holds (holder_of run) least e; covered = covers }
met_at run runs byte least false e among covers = tt

met : (run : Run) (runs : List Run) (hit : FirstInTheWay) (least : Holder) → hit.holder ≡ least → hit.run ≡ cond (is_same_holder (holder_of run) least) (Some run) None → Any (λ y. y ≡ run) runs → Covers run.span hit.byte → IfSome hit.run (IsRunThere runs hit.holder hit.byte)
met run runs hit least its is among covers =
    subst (λ (o : Option Run). IfSome o (IsRunThere runs hit.holder hit.byte)) (sym is)
    (subst (λ (h : Holder). IfSome (cond (is_same_holder (holder_of run) least) (Some run) None) (IsRunThere runs h hit.byte)) (sym its)
    (met_at run runs hit.byte least (is_same_holder (holder_of run) least) refl among covers))

module _ (holder : Holder) (span : Span) (wanted : Mode) (run : Run) (runs : List Run) (ordered : AreOrdered runs) (found : find (blocks holder span wanted) runs ≡ Some run)
    (hit : FirstInTheWay) (least : Holder) (its : hit.holder ≡ least) (is : hit.run ≡ cond (is_same_holder (holder_of run) least) (Some run) None) where
  -- the first run that blocks covers its first byte
  pub met_begins : hit.byte ≡ run.span.first → IfSome hit.run (IsRunThere runs hit.holder hit.byte)
  met_begins at =
      let f = is_found (blocks holder span wanted) run runs ordered found in
      let filled = f.filled in
      met run runs hit least its is f.among (omega arith, omega arith)

  -- and the range's, where it begins by that
  pub met_reaches : hit.byte ≡ span.first → run.span.first ≤ span.first → IfSome hit.run (IsRunThere runs hit.holder hit.byte)
  met_reaches at begins =
      let f = is_found (blocks holder span wanted) run runs ordered found in
      let p = parts (is_same_holder holder (holder_of run)) run.span.first run.span.last span.first span.last (conflicts_with wanted run.mode) f.passes in
      let behind = p.behind in
      met run runs hit least its is f.among (omega arith, omega arith)
