use Rattle.interval_index.proofs.Common.{sym, ap, ◌∙◌, subst, find, AreOrdered, is_from}
use Rattle.summary_tree.specs.Cuts.{without_first}
use Rattle.interval_index.proofs.Order.{cut_at, found_held, it_is_there, none_if_not_found, none_left_out, ordered_without, runs_of}
use Rattle.interval_index.proofs.index.RunIndex.take.Goals as goal

pub returns-then-not-has-clause-runs : goal.returns-then-not-has-clause-runs
returns-then-not-has-clause-runs c =
    let runs = c.args.self.now.runs in
    sym (none_left_out c.args.first c.args.holder runs (none_if_not_found c.args.first c.args.holder runs (c.has.ensures.no c.if-not-has.true)))

pub take-requires : goal.take-requires
take-requires c = cut_at c.args.first c.args.holder c.self.inside.runs.items c.self.invariant

pub invariant_of-self : goal.invariant_of-self
invariant_of-self c =
    subst AreOrdered (sym c.take.ensures.rest) (ordered_without (is_from c.args.first c.args.holder) c.self.inside.runs.items c.self.invariant)

pub returns-clause-run : goal.returns-clause-run
returns-clause-run c =
    let is = ap runs_of c.self.view_is in
    let ordered = subst AreOrdered is c.self.invariant in
    let held = found_held c.args.first c.args.holder c.args.self.now.runs ordered (c.has.ensures.yes c.if-not-has.false) in
    let there = it_is_there c.args.first c.args.holder c.args.self.now.runs held.0 ordered held.1 held.2 in
    c.take.ensures.item ∙ (ap (find (is_from c.args.first c.args.holder)) is ∙ (held.1 ∙ sym there.found))

pub returns-clause-runs : goal.returns-clause-runs
returns-clause-runs c =
    let is = ap runs_of c.self.view_is in
    let ordered = subst AreOrdered is c.self.invariant in
    let held = found_held c.args.first c.args.holder c.args.self.now.runs ordered (c.has.ensures.yes c.if-not-has.false) in
    let there = it_is_there c.args.first c.args.holder c.args.self.now.runs held.0 ordered held.1 held.2 in
    c.take.ensures.rest ∙ (ap (without_first (is_from c.args.first c.args.holder)) is ∙ sym there.left_out)
