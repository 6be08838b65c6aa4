use Rattle.history_judge.proofs.HeldLemmas.{left_by, left_err, left_not, left_still}
use Rattle.history_judge.proofs.held_files.HeldFiles.apply.Goals as goal

pub returns-clause-leaves : goal.returns-clause-leaves
returns-clause-leaves c = left_by c.args.self.now c.enter.new.self _ c.args.happening c.enter.ensures.same c.apply_on.result c.apply_on.ensures

pub returns-clause-may_not : goal.returns-clause-may_not
returns-clause-may_not c = left_not c.args.self.now c.enter.new.self (record c.enter.new.self { files = c.apply_on.new.files }) c.args.happening c.enter.ensures.same c.apply_on.result c.apply_on.ensures

pub returns-clause-stays : goal.returns-clause-stays
returns-clause-stays c = left_still c.args.self.now c.enter.new.self _ c.args.happening c.enter.ensures.same c.apply_on.result c.apply_on.ensures

pub returns-clause-err : goal.returns-clause-err
returns-clause-err c = left_err c.args.self.now c.enter.new.self _ c.args.happening c.enter.ensures.same c.apply_on.result c.apply_on.ensures
