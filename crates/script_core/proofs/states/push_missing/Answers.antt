use Rattle.script_core.proofs.Common.{arith, flat_map, err_from_is_err_and, marked_line}
use Rattle.script_core.proofs.StateLemmas.{HasMissed-none, HasMissed-there, HasMissed-more}
use Rattle.script_core.proofs.TextLemmas.{kept_behind}
use Rattle.script_core.proofs.states.push_missing.Goals as goal
use Rattle.script_core.proofs.states.push_missing.Goals.{in-Some, in-None+in_ok-push_marked-in-None}

pub loop-line-init : goal.loop-line-init
loop-line-init c = (omega arith, HasMissed-none c.args.others.now c.args.mark.now c.args.text.now.items)

pub loop-line-preserved : goal.loop-line-preserved
loop-line-preserved c =
    elim c.match-place_from.branch [
      | in-Some w ↦
          let within = w.in-Some.ensures.1 in (
            rw w.from-is (omega (arith, within)),
            rw w.text-is
                (HasMissed-there c.args.told.now c.args.others.now c.args.mark.now c.args.text.now.items c.loop-line.text.items c.loop-line.line-index _
                c.loop-line-test.true c.loop-line.invariant.1 (w.in-Some.place, w.in-Some.ensures.0)),
          )
      | in-None+in_ok-push_marked-in-None w ↦ (
        rw w.from-is c.loop-line.invariant.0,
        rw w.text-is
            (HasMissed-more c.args.told.now c.args.others.now c.args.mark.now c.args.text.now.items c.loop-line.text.items w.push_marked.new.text.items
            c.loop-line.line-index _ c.loop-line-test.true c.loop-line.invariant.1 w.in-None.ensures w.in_ok-push_marked-in-None.ensures),
      )
    ]

pub returns-in_err-push_marked-in-None : goal.returns-in_err-push_marked-in-None
returns-in_err-push_marked-in-None c =
    let failed = err_from_is_err_and c.from_residual.result c.from_residual.ensures.1 in
    let told = c.loop-line.invariant.1 in
    rw failed.1
    (kept_behind c.args.text.now.items c.loop-line.text.items c.push_marked.new.text.items (flat_map (marked_line c.args.mark.now) told.missing) told.is
    c.in_err-push_marked-in-None.ensures)
