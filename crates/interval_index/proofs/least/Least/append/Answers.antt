use Rattle.interval_index.proofs.Common.{sym, ◌∙◌, arith}
use Rattle.interval_index.proofs.HolderLemmas.{another_option, same_option}
use Rattle.interval_index.proofs.LeastJoins.{join_earlier, join_later, join_same}
use Rattle.interval_index.proofs.least.Least.append.Goals as goal

pub returns-then-eq : goal.returns-then-eq
returns-then-eq c runs others h i =
    let same = same_option c.args.self.now.holder c.args.more.holder (sym c.eq.ensures ∙ c.if-eq.true) in
    join_same c.args.self.now c.args.more c.min-self.result c.lesser-self.result runs others h i (omega arith) (omega arith) same (record { exact = c.lesser-self.ensures })

pub returns-then-is_as_early : goal.returns-then-is_as_early
returns-then-is_as_early c runs others h i =
    let another = another_option c.args.self.now.holder c.args.more.holder (sym c.eq.ensures ∙ c.if-eq.false) in
    join_earlier c.args.self.now c.args.more c.min-self.result c.lesser-self-then-is_as_early.result runs others h i (omega arith) (omega arith) another
    (record { falls = c.is_as_early.ensures.yes c.if-is_as_early.true }) (record { exact = c.lesser-self-then-is_as_early.ensures })

pub returns-else-is_as_early : goal.returns-else-is_as_early
returns-else-is_as_early c runs others h i =
    let another = another_option c.args.self.now.holder c.args.more.holder (sym c.eq.ensures ∙ c.if-eq.false) in
    join_later c.args.self.now c.args.more c.min-self.result c.lesser-self-else-is_as_early.result runs others h i (omega arith) (omega arith) another
    (record { falls = c.is_as_early.ensures.no c.if-is_as_early.false }) (record { exact = c.lesser-self-else-is_as_early.ensures })
