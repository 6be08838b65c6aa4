-- The runs that block a lock, and the modes of bytes that do.
use Rattle.interval_index.proofs.Common.{◌≡◌, Some, None, Option, List, sym, ◌∙◌, subst, Any, Mode, Span, Conflict, Holder, Run, holder_of, refl}
use Rattle.range_core.specs.Ranges.{HeldConflicts}
use Rattle.interval_index.specs.Runs.{Blocks}
use Rattle.interval_index.specs.Standing.{HolderModes, Tells, AreRunsOf, HolderConflict}

pub any_like : (P Q : Run → Type 0) (runs : List Run) → ((run : Run) → P run → Q run) → Any P runs → Any Q runs
any_like P Q runs f a = (a.0, a.1, a.2, a.3, f a.1 a.4)

pub conflict_from_run : (modes : HolderModes) (holder : Holder) (span : Span) (wanted : Mode) (runs : List Run) → AreRunsOf modes runs → Any (Blocks holder span wanted) runs → HolderConflict modes holder span wanted
conflict_from_run modes holder span wanted runs of a =
    let run = a.1 in
    let blocks = a.4 in
    let byte = blocks.meets.0 in
    let has = of.told (holder_of run) byte run.mode (a.0, run, a.2, a.3, record { of = refl; in_mode = refl; covered = blocks.meets.1 }) in
    record { byte = byte; covered = blocks.meets.2; other = holder_of run; blocks = record { another = blocks.another; conflicts = subst (λ held. HeldConflicts held wanted) (sym has) blocks.conflicts } }

run_from_held : (modes : HolderModes) (holder : Holder) (span : Span) (wanted : Mode) (runs : List Run) → AreRunsOf modes runs → (c : HolderConflict modes holder span wanted) → (held : Option Mode) → modes c.other c.byte ≡ held → HeldConflicts held wanted → Any (Blocks holder span wanted) runs
run_from_held modes holder span wanted runs of c None is h = absurd h
run_from_held modes holder span wanted runs of c (Some held) is h =
    any_like (λ run. Tells run c.other c.byte held) (Blocks holder span wanted) runs (λ run t. record {
      another = λ same. c.blocks.another (sym t.of ∙ same);
      meets = (c.byte, t.covered, c.covered);
      conflicts = subst (λ mode. Conflict mode wanted) (sym t.in_mode) h;
    }) (of.all c.other c.byte held is)

pub run_from_conflict : (modes : HolderModes) (holder : Holder) (span : Span) (wanted : Mode) (runs : List Run) → AreRunsOf modes runs → HolderConflict modes holder span wanted → Any (Blocks holder span wanted) runs
run_from_conflict modes holder span wanted runs of c = run_from_held modes holder span wanted runs of c (modes c.other c.byte) refl c.blocks.conflicts
