use Rattle.lock_server.proofs.Common.{subst, modes_of}
use Rattle.lock_server.proofs.RunLemmas.{Touch, ends_in_file, first_there, if_none, next_there, none_behind, nothing_there}
use Rattle.lock_server.proofs.file.listing.run_from.Goals as goal

pub returns-in_err-run-clause-none : goal.returns-in_err-run-clause-none
returns-in_err-run-clause-none c =
    let modes = modes_of c.args.list.now in
    let within = ends_in_file modes c.runs-all.result c.runs-all.ensures.runs c.runs-all.ensures.ranges in
    if_none c.from_residual.result _
    (nothing_there modes c.args.byte within (subst (Touch modes c.args.byte within) c.in_err-run.ensures.steps.0 c.touching-runs.ensures.runs))

pub returns-then-byte-run-clause-first : goal.returns-then-byte-run-clause-first
returns-then-byte-run-clause-first c =
    let modes = modes_of c.args.list.now in
    let within = ends_in_file modes c.runs-all.result c.runs-all.ensures.runs c.runs-all.ensures.ranges in
    first_there modes c.args.byte within c.in_ok-run.run' c.next.new.self (subst (Touch modes c.args.byte within) c.in_ok-run.ensures.steps c.touching-runs.ensures.runs)
    c.if-byte-run.true

pub returns-clause-first : goal.returns-clause-first
returns-clause-first c =
    let modes = modes_of c.args.list.now in
    let within = ends_in_file modes c.runs-all.result c.runs-all.ensures.runs c.runs-all.ensures.ranges in
    next_there modes c.args.byte within c.in_ok-run.run' c.next.new.self c.next-2.new.self
    (subst (Touch modes c.args.byte within) c.in_ok-run.ensures.steps c.touching-runs.ensures.runs) c.if-byte-run.false c.next-2.result c.next-2.ensures.steps

pub returns-clause-none : goal.returns-clause-none
returns-clause-none c =
    let modes = modes_of c.args.list.now in
    let within = ends_in_file modes c.runs-all.result c.runs-all.ensures.runs c.runs-all.ensures.ranges in
    none_behind modes c.args.byte within c.in_ok-run.run' c.next.new.self c.next-2.new.self
    (subst (Touch modes c.args.byte within) c.in_ok-run.ensures.steps c.touching-runs.ensures.runs) c.if-byte-run.false c.next-2.result c.next-2.ensures.steps
