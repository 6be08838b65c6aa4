use Rattle.script_core.proofs.Common.{◌≡◌, ◌-◌, drop, decimal, arith, lit<, append-nil, rules, decimal_digit, length-decimal-le}
use Rattle.script_core.proofs.TextLemmas.{number_piece, two_digits}
use Rattle.script_core.proofs.pieces.push_number.Goals as goal

pub write_digits-start-requires : goal.write_digits-start-requires
write_digits-start-requires c = (omega (arith, length-decimal-le 20 c.args.n (lit< tt) (omega arith) (omega arith)), omega arith)

pub overflow_sub-start : goal.overflow_sub-start
overflow_sub-start c = omega (arith, c.write_digits-start.ensures.start, length-decimal-le 20 c.args.n (lit< tt) (omega arith) (omega arith))

pub returns-then-n-lt10 : goal.returns-then-n-lt10
returns-then-n-lt10 c = rw (decimal_digit c.args.n c.if-n-lt10.true) c.push_bytes.ensures

pub returns-then-n-lt100 : goal.returns-then-n-lt100
returns-then-n-lt100 c = rw (two_digits c.args.n (omega (arith, c.if-n-lt10.false)) c.if-n-lt100.true) c.push_bytes-then-n-lt100.ensures

pub returns : goal.returns
returns c =
    let w = c.write_digits-start in
    let short = length-decimal-le 20 c.args.n (lit< tt) (omega arith) (omega arith) in
    let spelled : drop w.result w.new.buf ≡ decimal c.args.n = search (rules, append-nil) in
    rw (number_piece w.new.buf (decimal c.args.n) 22 w.result (w.result - 1) c.args.before (search rules) (omega (arith, w.ensures.start)) (omega (arith, w.ensures.start, short)) spelled)
    at c.push_bytes-2.ensures
