use Rattle.std.proofs.Common.{sym, ap, ◌∙◌, rules}
use Rattle.std.specs.List.{find, last_or}
use Rattle.std.specs.Option.{option_or}
use Rattle.summary_tree.specs.Cuts.{before}
use Rattle.summary_tree.proofs.BesideLemmas.{behind_left, found_among_any, last_before_here, last_before_left, last_before_right}
use Rattle.summary_tree.proofs.CutLemmas.{any_at_last, same_first, split_at}
use Rattle.summary_tree.proofs.Forks.{at_fork}
use Rattle.summary_tree.proofs.ListLemmas.{found_among, found_right}
use Rattle.summary_tree.proofs.Splits.{none_passes}
use Rattle.summary_tree.proofs.subtree.Subtree.+beside.Goals as goal

pub beside-requires : goal.beside-requires
beside-requires g t c κs within =
    let p = g.C.Cut.is_behind c.args.cut.now in
    let f = at_fork c.self.view_is c.self.invariant c.in-Fork.is c.deref-node.ensures in
    let n = c.deref-node.result.now in
    let s = split_at p c.args.self.now.items n.left.items n.block n.right.items f.items f.kept.filled c.requires in
    let cut = s.right in
    let e = f.nodes in
    search rules

pub beside-requires-then-begins_behind : goal.beside-requires-then-begins_behind
beside-requires-then-begins_behind g t c κs within =
    let p = g.C.Cut.is_behind c.args.cut.now in
    let f = at_fork c.self.view_is c.self.invariant c.in-Fork.is c.deref-node.ensures in
    let n = c.deref-node.result.now in
    let s = split_at p c.args.self.now.items n.left.items n.block n.right.items f.items f.kept.filled c.requires in
    let cut = s.left in
    let e = f.nodes in
    search rules

pub returns-then-not-ends_behind-clause-before : goal.returns-then-not-ends_behind-clause-before
returns-then-not-ends_behind-clause-before g t c =
    let p = g.C.Cut.is_behind c.args.cut.now in
    let f = at_fork c.self.view_is c.self.invariant c.in-Fork.is c.deref-node.ensures in
    let n = c.deref-node.result.now in
    let s = split_at p c.args.self.now.items n.left.items n.block n.right.items f.items f.kept.filled c.requires in
    let none = s.fails (sym c.ends_behind.ensures ∙ c.if-not-ends_behind.true) in
    c.beside.ensures.before ∙ (ap (λ o. last_or o (before p n.right.items)) c.last-before.ensures
    ∙ sym (last_before_right p c.args.outside.before _ n.left.items n.block n.right.items f.items none.0 none.1 f.kept.filled))

pub returns-then-not-ends_behind-clause-behind : goal.returns-then-not-ends_behind-clause-behind
returns-then-not-ends_behind-clause-behind g t c =
    let p = g.C.Cut.is_behind c.args.cut.now in
    let f = at_fork c.self.view_is c.self.invariant c.in-Fork.is c.deref-node.ensures in
    let n = c.deref-node.result.now in
    let s = split_at p c.args.self.now.items n.left.items n.block n.right.items f.items f.kept.filled c.requires in
    let none = s.fails (sym c.ends_behind.ensures ∙ c.if-not-ends_behind.true) in
    let found = found_right p _ n.left.items n.block n.right.items f.items (none_passes p n.left.items none.0) (none_passes p n.block none.1) in
    c.beside.ensures.behind ∙ ap (λ o. option_or o c.args.outside.behind) (sym found)

pub returns-then-begins_behind-clause-before : goal.returns-then-begins_behind-clause-before
returns-then-begins_behind-clause-before g t c =
    let p = g.C.Cut.is_behind c.args.cut.now in
    let f = at_fork c.self.view_is c.self.invariant c.in-Fork.is c.deref-node.ensures in
    let n = c.deref-node.result.now in
    let s = split_at p c.args.self.now.items n.left.items n.block n.right.items f.items f.kept.filled c.requires in
    let first = sym c.begins_behind.ensures ∙ c.if-begins_behind.true in
    c.beside-then-begins_behind.ensures.before
    ∙ sym (last_before_left p c.args.outside.before _ n.left.items n.block n.right.items f.items (same_first p n.block n.right.items f.kept.filled ∙ first))

pub returns-then-begins_behind-clause-behind : goal.returns-then-begins_behind-clause-behind
returns-then-begins_behind-clause-behind g t c =
    let p = g.C.Cut.is_behind c.args.cut.now in
    let f = at_fork c.self.view_is c.self.invariant c.in-Fork.is c.deref-node.ensures in
    let n = c.deref-node.result.now in
    let s = split_at p c.args.self.now.items n.left.items n.block n.right.items f.items f.kept.filled c.requires in
    let first = sym c.begins_behind.ensures ∙ c.if-begins_behind.true in
    c.beside-then-begins_behind.ensures.behind
    ∙ (ap (option_or (find p n.left.items)) c.first-behind.ensures ∙ sym (behind_left p c.args.outside.behind _ n.left.items n.block n.right.items f.items first))

pub returns-else-begins_behind-clause-before : goal.returns-else-begins_behind-clause-before
returns-else-begins_behind-clause-before g t c =
    let p = g.C.Cut.is_behind c.args.cut.now in
    let f = at_fork c.self.view_is c.self.invariant c.in-Fork.is c.deref-node.ensures in
    let n = c.deref-node.result.now in
    let s = split_at p c.args.self.now.items n.left.items n.block n.right.items f.items f.kept.filled c.requires in
    let any = any_at_last p n.block (sym c.ends_behind.ensures ∙ c.if-not-ends_behind.false) in
    let first = sym c.begins_behind.ensures ∙ c.if-begins_behind.false in
    c.beside-in-Fork.ensures.before
    ∙ sym (last_before_here p c.args.outside.before _ n.left.items n.block n.right.items f.items (s.starts first) any f.kept.filled first)

pub returns-else-begins_behind-clause-behind : goal.returns-else-begins_behind-clause-behind
returns-else-begins_behind-clause-behind g t c =
    let p = g.C.Cut.is_behind c.args.cut.now in
    let f = at_fork c.self.view_is c.self.invariant c.in-Fork.is c.deref-node.ensures in
    let n = c.deref-node.result.now in
    let s = split_at p c.args.self.now.items n.left.items n.block n.right.items f.items f.kept.filled c.requires in
    let any = any_at_last p n.block (sym c.ends_behind.ensures ∙ c.if-not-ends_behind.false) in
    let first = sym c.begins_behind.ensures ∙ c.if-begins_behind.false in
    let found = found_among p _ n.left.items n.block n.right.items f.items (none_passes p n.left.items (s.starts first)) any in
    c.beside-in-Fork.ensures.behind ∙ (sym (found_among_any p c.args.outside.behind n.block any) ∙ ap (λ o. option_or o c.args.outside.behind) (sym found))
