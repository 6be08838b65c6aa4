use Rattle.std.proofs.Common.{refl, arith, rules, ◌≤◌, ◌<◌, length}
use Rattle.script_core.specs.Words.{line_limit}
use Rattle.history_check.proofs.CheckLemmas.{grown, outgrown, goes_on}
use Rattle.history_check.proofs.check.HistoryCheck.grow.Goals as goal

pub returns-then-len-ge-LINE_MAX-clause-checked : goal.returns-then-len-ge-LINE_MAX-clause-checked
returns-then-len-ge-LINE_MAX-clause-checked c = λ judging front checked.
    let long : line_limit ≤ length c.args.self.now.line.items = omega (arith, c.if-len-ge-LINE_MAX.true, c.len.ensures) in
    outgrown judging c.args.self.now _ front c.args.byte c.requires.unfound checked (goes_on c.args.byte c.requires.goes_on) long refl refl

pub returns-clause-checked : goal.returns-clause-checked
returns-clause-checked c = λ judging front checked.
    let short : length c.args.self.now.line.items < line_limit = omega (arith, c.if-len-ge-LINE_MAX.false, c.len.ensures) in
    grown judging c.args.self.now (record c.args.self.now { line = c.push.new.self }) front c.args.byte c.requires.unfound checked
    (goes_on c.args.byte c.requires.goes_on) short refl refl refl refl refl refl (search rules)
