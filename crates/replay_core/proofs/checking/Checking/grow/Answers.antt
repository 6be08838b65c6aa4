use Rattle.replay_core.proofs.Common.{refl, arith, rules, ◌≤◌, ◌<◌, length}
use Rattle.script_core.specs.EntryReading.{entry_limit}
use Rattle.replay_core.proofs.CheckingLemmas.{grown, outgrown, goes_on}
use Rattle.replay_core.proofs.checking.Checking.grow.Goals as goal

pub returns-then-len-ge-ENTRY_MAX-clause-checked : goal.returns-then-len-ge-ENTRY_MAX-clause-checked
returns-then-len-ge-ENTRY_MAX-clause-checked c = λ front checked.
    let long : entry_limit ≤ length c.args.self.now.line.items = omega (arith, c.if-len-ge-ENTRY_MAX.true, c.len.ensures) in
    outgrown c.args.self.now _ front c.args.byte c.requires.unfound checked (goes_on c.args.byte c.requires.goes_on) long refl refl

pub returns-clause-checked : goal.returns-clause-checked
returns-clause-checked c = λ front checked.
    let short : length c.args.self.now.line.items < entry_limit = omega (arith, c.if-len-ge-ENTRY_MAX.false, c.len.ensures) in
    grown c.args.self.now (record c.args.self.now { line = c.push.new.self }) front c.args.byte c.requires.unfound checked (goes_on c.args.byte c.requires.goes_on) short refl refl refl (search rules)
