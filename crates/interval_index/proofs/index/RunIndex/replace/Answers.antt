use Rattle.interval_index.proofs.Common.{◌≢◌, None, sym, ap, subst, find, Holder, AreOrdered}
use Rattle.interval_index.specs.Tests.{has_key}
use Rattle.interval_index.proofs.Order.{cut_at, found_held, ordered_in_place, placed, runs_of}
use Rattle.interval_index.proofs.index.RunIndex.replace.Goals as goal

pub replace-requires : goal.replace-requires
replace-requires c = cut_at c.args.run.span.first c.holder.result c.self.inside.runs.items c.self.invariant

pub returns-clause-runs : goal.returns-clause-runs
returns-clause-runs c =
    let first = c.args.run.span.first in
    let runs = c.args.self.now.runs in
    let is = ap runs_of c.self.view_is in
    let ordered = subst AreOrdered is c.self.invariant in
    let held = found_held first c.holder.result runs ordered (subst (λ (h : Holder). find (has_key first h) runs ≢ None) (sym c.holder.ensures) c.requires.held) in
    placed c.args.run c.self.inside.runs.items runs c.replace.new.self.items c.holder.result is c.holder.ensures ordered held c.replace.ensures.items

pub invariant_of-self : goal.invariant_of-self
invariant_of-self c =
    let first = c.args.run.span.first in
    let runs = c.args.self.now.runs in
    let is = ap runs_of c.self.view_is in
    let ordered = subst AreOrdered is c.self.invariant in
    let held = found_held first c.holder.result runs ordered (subst (λ (h : Holder). find (has_key first h) runs ≢ None) (sym c.holder.ensures) c.requires.held) in
    subst AreOrdered (sym (placed c.args.run c.self.inside.runs.items runs c.replace.new.self.items c.holder.result is c.holder.ensures ordered held c.replace.ensures.items))
    (ordered_in_place c.args.run runs c.requires.range ordered)
