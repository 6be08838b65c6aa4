use Rattle.script_core.proofs.Common.{common_steps, Some, None, lit<, arith}
use Rattle.std.proofs.lemmas.Str.Pattern.{strip_prefix_char}
use Rattle.script_core.proofs.NumberLemmas.{unsigned_none, unsigned_some, signed_none, signed_zero, signed_some}
use Rattle.script_core.proofs.numbers.integer_of.Goals as goal

pub returns-in_err-n-in-Some : goal.returns-in_err-n-in-Some
returns-in_err-n-in-Some c =
    let split = strip_prefix_char 45 c.args.word.now (Some c.in-Some.digits) c.in-Some.ensures.cases (lit< tt) in
    rw c.from_residual.ensures (signed_none c.args.word.now c.in-Some.digits.now split c.in_err-n-in-Some.ensures)

pub returns-in_err-natural_of-in-None : goal.returns-in_err-natural_of-in-None
returns-in_err-natural_of-in-None c =
    let unsigned = strip_prefix_char 45 c.args.word.now None c.in-None.ensures.cases (lit< tt) in
    rw c.from_residual-in_err-natural_of-in-None.ensures (unsigned_none c.args.word.now unsigned c.in_err-natural_of-in-None.ensures)

pub returns-in-0 : goal.returns-in-0
returns-in-0 c = grind (arith, common_steps, strip_prefix_char, signed_zero)

pub returns-in_default : goal.returns-in_default
returns-in_default c =
    let split = strip_prefix_char 45 c.args.word.now (Some c.in-Some.digits) c.in-Some.ensures.cases (lit< tt) in
    signed_some c.args.word.now c.in-Some.digits.now c.in_ok-n-in-Some.n c.checked_sub_unsigned.result split (omega arith) (λ e. omega (arith, e))
    c.in_ok-n-in-Some.ensures c.checked_sub_unsigned.ensures

pub returns-in_ok-natural_of-in-None : goal.returns-in_ok-natural_of-in-None
returns-in_ok-natural_of-in-None c =
    let unsigned = strip_prefix_char 45 c.args.word.now None c.in-None.ensures.cases (lit< tt) in
    rw c.ok.ensures.value (unsigned_some c.args.word.now c.in_ok-natural_of-in-None.field-0 c.try_from.result unsigned (omega arith) c.in_ok-natural_of-in-None.ensures c.try_from.ensures)
