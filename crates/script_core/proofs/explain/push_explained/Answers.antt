use Rattle.script_core.proofs.FilesLemmas.{opening_files}
use Rattle.script_core.proofs.DeadlockStepLemmas.{opening_settled}
use Rattle.script_core.proofs.Common.{append-nil, arith, ◌≡◌, ◌+◌, ℕ, ap, common_steps, err_from_is_err_and}
use Rattle.script_core.proofs.TextLemmas.{kept_behind}
use Rattle.script_core.proofs.ExplainLemmas.{kept_again, explained_more, all_explained}
use Rattle.script_core.proofs.StateLemmas.{StateTold, kept_first}
use Rattle.script_core.proofs.explain.push_explained.Goals as goal

pub loop-entry-init : goal.loop-entry-init
loop-entry-init c = grind (arith, common_steps, opening_files, opening_settled, append-nil, kept_first)

pub loop-entry-preserved : goal.loop-entry-preserved
loop-entry-preserved c =
    let pushed = c.in_ok-push_step.ensures in
    let number = c.loop-entry.number + 1 in
    let at : number ≡ c.loop-entry.entry-index + 1 = ap (λ (n : ℕ). n + 1) c.loop-entry.invariant.0 in
    let told : StateTold c.args.states c.args.rules number c.push_step.new.manager c.loop-entry.before.items c.push_state_behind.new.before.items
    c.push_step.new.text.items c.push_state_behind.new.text.items = c.in_ok-push_state_behind.ensures.ok in (
      at,
      explained_more c.args.states c.args.rules c.args.processes c.args.journal.now c.loop-entry.entry-index number c.loop-entry.manager
          c.push_step.new.manager c.loop-entry.before.items c.push_state_behind.new.before.items c.args.text.now.items c.loop-entry.text.items
          c.push_step.new.text.items c.push_state_behind.new.text.items c.entry-item.result c.loop-entry.invariant.1 c.loop-entry-test.true
          c.entry-item.is at pushed.ok told pushed.rules pushed.processes,
    )

pub returns-in_err-push_step-clause-err : goal.returns-in_err-push_step-clause-err
returns-in_err-push_step-clause-err c = grind (arith, common_steps, err_from_is_err_and, kept_behind)

pub returns-in_err-push_state_behind-clause-err : goal.returns-in_err-push_state_behind-clause-err
returns-in_err-push_state_behind-clause-err c =
    let failed = err_from_is_err_and c.from_residual-in_err-push_state_behind.result c.from_residual-in_err-push_state_behind.ensures.1 in
    let kept =
    kept_again c.args.states c.args.rules c.args.processes c.args.journal.now c.loop-entry.entry-index c.loop-entry.manager c.push_step.new.manager
    c.loop-entry.before.items c.args.text.now.items c.loop-entry.text.items c.push_step.new.text.items c.entry-item.result c.loop-entry.invariant.1 c.loop-entry-test.true
    c.entry-item.is c.in_ok-push_step.ensures.ok in
    rw failed.1
    (kept_behind c.args.text.now.items c.push_step.new.text.items c.push_state_behind.new.text.items kept.more kept.is c.in_err-push_state_behind.ensures.err)

pub returns-clause-ok : goal.returns-clause-ok
returns-clause-ok c T leads =
    all_explained c.step_has_one_outcome.ensures c.args.states c.args.rules c.args.processes c.args.journal.now c.loop-entry.entry-index
    c.loop-entry.manager c.loop-entry.before.items c.args.text.now.items c.loop-entry.text.items c.loop-entry.invariant.1 c.loop-entry-test.false T leads
