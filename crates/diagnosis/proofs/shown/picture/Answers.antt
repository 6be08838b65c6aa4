use Rattle.std.proofs.Common.{arith}
use Rattle.std.proofs.lemmas.Grind.{common_steps}
use Rattle.diagnosis.proofs.shown.picture.Goals as goal

pub returns : goal.returns
returns c = record {
  from = c.begin_of-from.result;
  to = c.end_of-to.result;
  before = c.mark-before.result.now;
  behind = c.mark-behind.result.now;
  around = (c.begin_of-from.ensures.within, c.end_of-to.ensures.within.0);
  whole = λ short. let begins = c.begin_of-from.ensures.whole short in let ends = c.end_of-to.ensures.whole short begins in
      (begins, ends, c.mark-before.ensures begins, c.mark-behind.ensures ends);
  is = grind (arith, common_steps);
}
