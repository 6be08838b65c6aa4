use Rattle.std.proofs.Common.{refl, arith}
use Rattle.range_core.specs.declared.Span.{Span}
use Rattle.range_core.specs.Changes.{mode_in}
use Rattle.owner_runs.proofs.PieceLemmas.{splits_whole, unlocked_all, unlocked_last, unlocked_more, unlocked_none}
use Rattle.owner_runs.proofs.run_tree.RunTree.unlock.Goals as goal

pub loop-run-init : goal.loop-run-init
loop-run-init c = record {
  unlocked = unlocked_none (mode_in c.args.self.now.items) c.args.span c.requires.span.0;
  room = omega arith;
}

pub cut_out-requires-clause-span : goal.cut_out-requires-clause-span
cut_out-requires-clause-span c = (c.loop-run.invariant.unlocked.upto, c.requires.span.1)

pub cut_out-requires-clause-room : goal.cut_out-requires-clause-room
cut_out-requires-clause-room c before behind =
    let splits = splits_whole (mode_in c.args.self.now.items) (mode_in c.loop-run.self.items) c.args.span c.loop-run.first c.in-Some.run' c.loop-run.invariant.unlocked c.in-Some.ensures.run before behind in
    let some = c.requires.room splits in
    let kept = c.loop-run.invariant.room in
    omega arith

pub returns-then-span-run-clause-modes : goal.returns-then-span-run-clause-modes
returns-then-span-run-clause-modes c =
    let left : Span = record { first = c.loop-run.first; last = c.args.span.last } in
    unlocked_last (mode_in c.args.self.now.items) (mode_in c.loop-run.self.items) (mode_in c.cut_out.new.self.items) c.args.span left c.in-Some.run' refl
    c.loop-run.invariant.unlocked c.in-Some.ensures.run c.cut_out.ensures.modes c.if-span-run.true

pub returns-then-span-run-clause-room : goal.returns-then-span-run-clause-room
returns-then-span-run-clause-room c =
    let kept = c.loop-run.invariant.room in
    let used = c.cut_out.ensures.room in
    omega arith

pub returns-then-span-run-clause-whole : goal.returns-then-span-run-clause-whole
returns-then-span-run-clause-whole c whole =
    let kept = c.loop-run.invariant.room in
    let used = c.cut_out.ensures.whole (λ both. whole (splits_whole (mode_in c.args.self.now.items) (mode_in c.loop-run.self.items) c.args.span c.loop-run.first c.in-Some.run'
    c.loop-run.invariant.unlocked c.in-Some.ensures.run both.0 both.1)) in
    omega arith

pub loop-run-smaller : goal.loop-run-smaller
loop-run-smaller c =
    let upto = c.loop-run.invariant.unlocked.upto in
    let reaches = c.in-Some.ensures.run.reaches in
    let more = c.if-span-run.false in
    omega arith

pub loop-run-preserved : goal.loop-run-preserved
loop-run-preserved c =
    let left : Span = record { first = c.loop-run.first; last = c.args.span.last } in
    let kept = c.loop-run.invariant.room in
    let more = c.if-span-run.false in
    let used = c.cut_out.ensures.whole (λ both. let beyond = both.1 in omega arith) in
    record {
      unlocked = unlocked_more (mode_in c.args.self.now.items) (mode_in c.loop-run.self.items) (mode_in c.cut_out.new.self.items) c.args.span left c.in-Some.run' refl
          c.loop-run.invariant.unlocked c.in-Some.ensures.run c.cut_out.ensures.modes c.if-span-run.false;
      room = omega arith;
    }

pub returns-clause-modes : goal.returns-clause-modes
returns-clause-modes c =
    unlocked_all (mode_in c.args.self.now.items) (mode_in c.loop-run.self.items) c.args.span c.loop-run.first c.loop-run.invariant.unlocked c.in_default.ensures.none

pub returns-clause-room : goal.returns-clause-room
returns-clause-room c = let kept = c.loop-run.invariant.room in omega arith

pub returns-clause-whole : goal.returns-clause-whole
returns-clause-whole c whole = c.loop-run.invariant.room
