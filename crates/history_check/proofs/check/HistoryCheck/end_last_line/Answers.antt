use Rattle.std.proofs.Common.{rules, ◌≡◌, ◌<◌, false, true, length, is_some, subst, append-nil, []}
use Rattle.std.proofs.lemmas.List.{nil_from_length}
use Rattle.history_check.specs.Checked.{IsLimited}
use Rattle.history_check.proofs.CheckLemmas.{found_before, no_last_line, last_line_where, is_unfound, limited}
use Rattle.history_check.proofs.check.HistoryCheck.end_last_line.Goals as goal

pub returns-then-is_some-clause-read : goal.returns-then-is_some-clause-read
returns-then-is_some-clause-read c = λ judging bytes checked.
    let found : is_some c.args.self.now.found ≡ true = search rules in
    found_before judging c.args.self.now bytes found checked

pub returns-then-is_empty-clause-read : goal.returns-then-is_empty-clause-read
returns-then-is_empty-clause-read c = λ judging bytes checked.
    let none : is_some c.args.self.now.found ≡ false = search rules in
    let zero : length c.args.self.now.line.items ≡ 0 = search rules in
    let empty = nil_from_length c.args.self.now.line.items zero in
    no_last_line judging c.args.self.now bytes (is_unfound c.args.self.now none) empty checked

pub returns-clause-read : goal.returns-clause-read
returns-clause-read c = λ judging bytes checked.
    let none : is_some c.args.self.now.found ≡ false = search rules in
    let some : 0 < length c.args.self.now.line.items = search rules in
    last_line_where c.end_line.result judging c.args.self.now c.end_line.new.self bytes (is_unfound c.args.self.now none) some checked
    (c.end_line.ensures.judges judging)

pub returns-clause-limit : goal.returns-clause-limit
returns-clause-limit c = λ is judging bytes checked.
    let none : is_some c.args.self.now.found ≡ false = search rules in
    subst (IsLimited judging) (append-nil bytes)
    (limited judging c.args.self.now bytes (is_unfound c.args.self.now none) checked (c.end_line.ensures.limit is) [])
