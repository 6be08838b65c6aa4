use Rattle.script_core.proofs.Common.{arith, ◌≡◌, ℕ, List, None, Some, Result, MatchResult, decimal, common_steps, Limits, Cause, IsProcess}
use Rattle.std.specs.Result.{result_ok}
use Rattle.script_core.specs.Arguments.{ProcessNumber, IsBad}
use Rattle.script_core.specs.EntryReading.{IsTag}
use Rattle.script_core.proofs.EntryLemmas.{tag_cut}
use Rattle.script_core.proofs.note.tag_of.Goals as goal

not_process : (limits : Limits) (word : List ℕ) (r : Result ℕ Cause)
    → MatchResult r (λ p. IsProcess limits p × (word ≡ decimal p)) (IsBad (ProcessNumber limits) word)
    → None ≡ result_ok r → (p : ℕ) → IsProcess limits p → word ≡ decimal p → ⊥
not_process limits word r given none p is h4 = grind (arith, common_steps)

pub returns-in_err-process : goal.returns-in_err-process
returns-in_err-process c =
    let none : (p n : ℕ) → IsTag c.args.limits c.args.word.now p n → ⊥ = λ p n is. tag_cut c.args.limits c.args.word.now None c.in_err-process.ensures.cases p n is in
    rw c.from_residual.ensures none

pub returns-in_err-p : goal.returns-in_err-p
returns-in_err-p c =
    let none : (p n : ℕ) → IsTag c.args.limits c.args.word.now p n → ⊥ =
    λ p n is. not_process c.args.limits c.in_ok-process.process.now c.read_process.result c.read_process.ensures c.in_err-p.ensures.value p is.0
    (tag_cut c.args.limits c.args.word.now (Some (c.in_ok-process.process, c.in_ok-process.number)) c.in_ok-process.ensures.cases p n is).0 in
    rw c.from_residual-in_err-p.ensures none

pub returns-in_err-n : goal.returns-in_err-n
returns-in_err-n c =
    let none : (p n : ℕ) → IsTag c.args.limits c.args.word.now p n → ⊥ =
    λ p n is. c.in_err-n.ensures n is.1 (tag_cut c.args.limits c.args.word.now (Some (c.in_ok-process.process, c.in_ok-process.number)) c.in_ok-process.ensures.cases p n is).1 in
    rw c.from_residual-in_err-n.ensures none
