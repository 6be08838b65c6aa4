use Rattle.replay_core.proofs.Common.{rules, ◌≡◌, ◌<◌, false, true, length, is_some, nil_from_length}
use Rattle.replay_core.proofs.CheckingLemmas.{found_before, no_last_line, last_line_where, is_unfound}
use Rattle.replay_core.proofs.checking.Checking.end_last_line.Goals as goal

pub returns-then-is_some-clause-lines_read : goal.returns-then-is_some-clause-lines_read
returns-then-is_some-clause-lines_read c = λ bytes checked.
    let found : is_some c.args.self.now.found ≡ true = search rules in
    found_before c.args.self.now bytes found checked

pub returns-then-is_empty-clause-lines_read : goal.returns-then-is_empty-clause-lines_read
returns-then-is_empty-clause-lines_read c = λ bytes checked.
    let none : is_some c.args.self.now.found ≡ false = search rules in
    let zero : length c.args.self.now.line.items ≡ 0 = search rules in
    let empty = nil_from_length c.args.self.now.line.items zero in
    no_last_line c.args.self.now bytes (is_unfound c.args.self.now none) empty checked

pub returns-clause-lines_read : goal.returns-clause-lines_read
returns-clause-lines_read c = λ bytes checked.
    let none : is_some c.args.self.now.found ≡ false = search rules in
    let some : 0 < length c.args.self.now.line.items = search rules in
    last_line_where c.end_line.result c.args.self.now c.end_line.new.self bytes (is_unfound c.args.self.now none) some checked c.end_line.ensures.judges
