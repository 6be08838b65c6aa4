use Rattle.range_core.specs.Changes.{mode_in}
use Rattle.owner_runs.proofs.PieceLemmas.{cut_both, cut_left, cut_right, cut_whole, gap_for_rest}
use Rattle.owner_runs.proofs.run_tree.RunTree.cut_out.Goals as goal

pub put-requires-clause-gap : goal.put-requires-clause-gap
put-requires-clause-gap c =
    gap_for_rest (mode_in c.args.self.now.items) (mode_in c.shorten.new.self.items) c.args.run c.args.span c.before-then-held-span.result c.behind.result
    c.if-held-span.true c.requires.span.0 c.if-span-held.true c.before-then-held-span.ensures c.behind.ensures c.requires.run.whole (c.shorten.ensures.modes c.args.run c.requires.found)

pub returns-then-span-held-clause-modes : goal.returns-then-span-held-clause-modes
returns-then-span-held-clause-modes c =
    cut_both (mode_in c.args.self.now.items) (mode_in c.shorten.new.self.items) (mode_in c.put.new.self.items) c.args.run c.args.span c.before-then-held-span.result c.behind.result
    c.if-held-span.true c.requires.span.0 c.if-span-held.true c.before-then-held-span.ensures c.behind.ensures c.requires.run.whole.constant (c.shorten.ensures.modes c.args.run c.requires.found)
    c.put.ensures.modes

pub returns-else-span-held-clause-modes : goal.returns-else-span-held-clause-modes
returns-else-span-held-clause-modes c =
    cut_right (mode_in c.args.self.now.items) (mode_in c.shorten.new.self.items) c.args.run.1 c.args.span c.before-then-held-span.result
    c.if-held-span.true c.if-span-held.false c.requires.run.reaches c.before-then-held-span.ensures (c.shorten.ensures.modes c.args.run c.requires.found)

pub returns-then-span-held-2-clause-modes : goal.returns-then-span-held-2-clause-modes
returns-then-span-held-2-clause-modes c =
    cut_left (mode_in c.args.self.now.items) (mode_in c.shorten-then-span-held-2.new.self.items) c.args.run.1 c.args.span c.behind-then-span-held-2.result
    c.if-held-span.false c.requires.begins c.if-span-held-2.true c.behind-then-span-held-2.ensures (c.shorten-then-span-held-2.ensures.modes c.args.run c.requires.found)

pub returns-else-span-held-2-clause-modes : goal.returns-else-span-held-2-clause-modes
returns-else-span-held-2-clause-modes c =
    cut_whole (mode_in c.args.self.now.items) (mode_in c.take.new.self.items) c.args.run.1 c.args.span
    c.if-held-span.false c.if-span-held-2.false (c.take.ensures.modes c.args.run c.requires.found)
