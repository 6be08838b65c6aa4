use Rattle.interval_index.proofs.Common.{sym, ap, subst, AreOrdered}
use Rattle.interval_index.proofs.Order.{added, cut_at, ordered_in_place, runs_of}
use Rattle.interval_index.proofs.index.RunIndex.add.Goals as goal

pub put-requires-clause-cut : goal.put-requires-clause-cut
put-requires-clause-cut c = cut_at c.args.run.span.first c.holder.result c.self.inside.runs.items c.self.invariant

pub returns-clause-runs : goal.returns-clause-runs
returns-clause-runs c =
    added c.args.run c.self.inside.runs.items c.args.self.now.runs c.put.new.self.items c.holder.result (ap runs_of c.self.view_is) c.holder.ensures c.requires.new c.put.ensures.items

pub invariant_of-self : goal.invariant_of-self
invariant_of-self c =
    let is = ap runs_of c.self.view_is in
    subst AreOrdered (sym (added c.args.run c.self.inside.runs.items c.args.self.now.runs c.put.new.self.items c.holder.result is c.holder.ensures c.requires.new c.put.ensures.items))
    (ordered_in_place c.args.run c.args.self.now.runs c.requires.range (subst AreOrdered is c.self.invariant))
