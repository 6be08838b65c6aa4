use Rattle.interval_index.proofs.Common.{sym, ap, ◌∙◌, find, blocks, reaches_lock}
use Rattle.interval_index.proofs.Blocking.{first_within, within_beyond}
use Rattle.interval_index.proofs.Order.{cut_beyond, runs_of}
use Rattle.interval_index.proofs.index.RunIndex.first.Goals as goal

pub first_where_before-requires : goal.first_where_before-requires
first_where_before-requires c = cut_beyond c.args.span.last c.self.inside.runs.items c.self.invariant

pub returns : goal.returns
returns c =
    let e = first_within (reaches_lock c.args.holder c.args.span.first c.args.wanted) c.args.span.last c.self.inside.runs.items c.self.invariant in
    c.first_where_before.ensures ∙ (within_beyond c.args.span.last _ ∙ (sym e ∙ ap (find (blocks c.args.holder c.args.span c.args.wanted)) (ap runs_of c.self.view_is)))
