use Rattle.std.proofs.Common.{refl, arith, rules, ap, subst, Err, ◌≡◌, ◌∙◌, ◌≤◌, ◌<◌, ◌-◌, ℕ, length, take, length-take-le}
use Rattle.history_core.specs.declared.search.SearchFault.{SearchFault}
use Rattle.history_run.specs.HistoryRuns.{IsReadTo}
use Rattle.history_run.proofs.ReadLemmas.{decided_read, fault_where, more_read, no_bytes, nothing_read, take_where, whole_where}
use Rattle.history_run.proofs.runs.read_history.Goals as goal

pub loop-left-init : goal.loop-left-init
loop-left-init g c = (
  nothing_read c.args.judging (g.R.Source.remaining c.args.source.now) c.new-check.result _ c.new-check.ensures.checked refl c.new-check.ensures.lines,
  refl,
  omega arith,
)

pub loop-left-preserved : goal.loop-left-preserved
loop-left-preserved g c =
    let count = c.in-Ok.count in
    let more = take count c.read_some.new.room in
    let within : count ≤ c.loop-left.left = search rules in
    let some : 0 < count = search rules in
    let all : length more ≡ count = length-take-le count c.read_some.new.room c.in-Ok.ensures.some.within in (
      more_read c.args.judging (g.R.Source.remaining c.args.source.now) (g.R.Source.remaining c.loop-left.source) (g.R.Source.remaining c.read_some.new.self)
          c.loop-left.check c.take_all.new.self c.loop-left.left (c.loop-left.left - count) more c.loop-left.invariant.0
          c.in-Ok.ensures.some.consumed (omega (arith, within, all)) (c.in_ok-take_all-in-Ok.ensures.checked c.args.judging)
          c.in_ok-take_all-in-Ok.ensures.lines,
      c.in-Ok.ensures.sound ∙ c.loop-left.invariant.1,
      omega (arith, within, some, c.loop-left.invariant.2, c.in-Ok.ensures.call),
    )

pub returns-then-is_decided-clause-whole : goal.returns-then-is_decided-clause-whole
returns-then-is_decided-clause-whole g c =
    decided_read c.args.judging (g.R.Source.remaining c.args.source.now) (g.R.Source.remaining c.loop-left.source) c.loop-left.check c.loop-left.left
    c.loop-left.invariant.0 (c.is_decided.ensures.decides c.if-is_decided.true c.args.judging)
    (c.is_decided.ensures.sound c.if-is_decided.true c.args.judging)

pub returns-in-Ok-eq0-clause-whole : goal.returns-in-Ok-eq0-clause-whole
returns-in-Ok-eq0-clause-whole g c =
    let none : c.in-Ok-eq0.field-0 ≡ 0 = search rules in
    whole_where c.ended.result c.args.judging (g.R.Source.remaining c.args.source.now) (g.R.Source.remaining c.loop-left.source)
    (g.R.Source.remaining c.read_some.new.self) c.loop-left.check c.loop-left.left c.loop-left.invariant.0
    (no_bytes (g.R.Source.remaining c.loop-left.source) (g.R.Source.remaining c.read_some.new.self) c.read_some.new.room c.in-Ok-eq0.field-0 none
    c.in-Ok-eq0.ensures.some.consumed)
    (c.in-Ok-eq0.ensures.some.end none) (c.ended.ensures.judged c.args.judging) c.ended.ensures.few (c.ended.ensures.sound c.args.judging)

pub returns-in-Ok-eq0-clause-fault : goal.returns-in-Ok-eq0-clause-fault
returns-in-Ok-eq0-clause-fault g c =
    let none : c.in-Ok-eq0.field-0 ≡ 0 = search rules in
    fault_where c.ended.result c.args.judging (g.R.Source.remaining c.args.source.now) (g.R.Source.remaining c.loop-left.source)
    (g.R.Source.remaining c.read_some.new.self) c.loop-left.check c.loop-left.left (g.R.Source.failed c.read_some.new.self) c.loop-left.invariant.0
    (no_bytes (g.R.Source.remaining c.loop-left.source) (g.R.Source.remaining c.read_some.new.self) c.read_some.new.room c.in-Ok-eq0.field-0 none
    c.in-Ok-eq0.ensures.some.consumed)
    (c.ended.ensures.judged c.args.judging)

pub returns-clause-whole : goal.returns-clause-whole
returns-clause-whole g c =
    let none : c.loop-left.left ≡ 0 = omega arith in
    c.read_past.ensures.whole c.args.judging (g.R.Source.remaining c.args.source.now)
    (subst (λ (left : ℕ). IsReadTo c.args.judging (g.R.Source.remaining c.args.source.now) (g.R.Source.remaining c.loop-left.source) c.loop-left.check left) none
    c.loop-left.invariant.0)

pub returns-clause-fault : goal.returns-clause-fault
returns-clause-fault g c =
    let none : c.loop-left.left ≡ 0 = omega arith in
    c.read_past.ensures.fault c.args.judging (g.R.Source.remaining c.args.source.now)
    (subst (λ (left : ℕ). IsReadTo c.args.judging (g.R.Source.remaining c.args.source.now) (g.R.Source.remaining c.loop-left.source) c.loop-left.check left) none
    c.loop-left.invariant.0)

pub returns-in_err-take_all-in-Ok-clause-fault : goal.returns-in_err-take_all-in-Ok-clause-fault
returns-in_err-take_all-in-Ok-clause-fault g c =
    take_where c.from_residual.result c.args.judging (g.R.Source.remaining c.args.source.now) (g.R.Source.remaining c.loop-left.source)
    (g.R.Source.remaining c.read_some.new.self) c.loop-left.check c.loop-left.left (g.R.Source.failed c.read_some.new.self)
    (take c.in-Ok.count c.read_some.new.room) c.in_err-take_all-in-Ok.field-0.0 c.from_residual.ensures.1 c.loop-left.invariant.0
    c.in-Ok.ensures.some.consumed
    (λ is front rest checked.
    c.in_err-take_all-in-Ok.ensures.limit (ap (λ (fault : SearchFault). Err fault) is) c.args.judging front rest checked)
