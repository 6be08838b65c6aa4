use Rattle.script_core.proofs.Common.{◌∙◌, subst, arith, common_steps, HasRead}
use Rattle.script_core.specs.ScriptView.{with_next}
use Rattle.script_core.proofs.reader.ScriptReader.next_arrival.Goals as goal

pub returns-in-Some-clause-next : goal.returns-in-Some-clause-next
returns-in-Some-clause-next c bytes arrivals read =
    let before = c.loop-self.invariant.read bytes arrivals read in
    grind (arith, common_steps)

pub loop-self-preserved : goal.loop-self-preserved
loop-self-preserved c =
    let so_far = c.loop-self.invariant in
    record {
      read = λ bytes arrivals read. (
          subst (λ next. HasRead bytes c.read_line.new.self (with_next arrivals next)) c.in_default.is (c.in_ok-arrival.ensures.read bytes arrivals (so_far.read bytes arrivals read))
          );
      rules = λ bytes arrivals arrival read. (
          c.read_line.ensures.rules bytes arrivals arrival (so_far.read bytes _ read) ∙ so_far.rules bytes arrivals arrival read
          );
      within = omega (arith, c.in_ok-arrival.ensures.shorter, so_far.within);
    }
