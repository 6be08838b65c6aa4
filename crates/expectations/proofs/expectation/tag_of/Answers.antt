use Rattle.std.proofs.Common.{ℕ, None, Some}
use Rattle.script_core.specs.EntryReading.{IsTag}
use Rattle.script_core.proofs.EntryLemmas.{tag_cut}
use Rattle.expectations.proofs.expectation.tag_of.Goals as goal

pub returns-in_err-process : goal.returns-in_err-process
returns-in_err-process c =
    let none : (p n : ℕ) → IsTag c.args.limits c.args.word.now p n → ⊥ = λ p n is. tag_cut c.args.limits c.args.word.now None c.in_err-process.ensures.cases p n is in
    rw c.from_residual.ensures none

pub returns-in_err-p : goal.returns-in_err-p
returns-in_err-p c =
    let none : (p n : ℕ) → IsTag c.args.limits c.args.word.now p n → ⊥ =
    λ p n is. c.in_err-p.ensures p (is.0, (tag_cut c.args.limits c.args.word.now (Some (c.in_ok-process.process, c.in_ok-process.number)) c.in_ok-process.ensures.cases p n is).0) in
    rw c.from_residual-in_err-p.ensures none

pub returns-in_err-n : goal.returns-in_err-n
returns-in_err-n c =
    let none : (p n : ℕ) → IsTag c.args.limits c.args.word.now p n → ⊥ =
    λ p n is. c.in_err-n.ensures n is.1 (tag_cut c.args.limits c.args.word.now (Some (c.in_ok-process.process, c.in_ok-process.number)) c.in_ok-process.ensures.cases p n is).1 in
    rw c.from_residual-in_err-n.ensures none
