use Rattle.script_core.proofs.Common.{Ok, sym, subst, Rules, Reads}
use Rattle.script_core.specs.ScriptView.{HandsOut}
use Rattle.script_core.proofs.ProcessLemmas.{processes_read}
use Rattle.script_core.proofs.script.parse.Goals as goal

pub returns-clause-processes : goal.returns-clause-processes
returns-clause-processes c =
    let bytes = c.args.bytes.now in
    let arrivals = c.loop-arrivals.arrivals.items in
    processes_read bytes (record { rules = c.rules.result; arrivals = arrivals })
    (subst (λ (rules : Rules). Reads bytes (Ok (record { rules = rules; arrivals = arrivals }))) (sym c.rules.ensures)
    (subst (HandsOut bytes c.next_arrival.new.self arrivals) c.in_default.is (c.in_ok-arrival.ensures.next bytes arrivals c.loop-arrivals.invariant)).1)
