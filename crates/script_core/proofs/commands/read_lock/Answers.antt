use Rattle.script_core.proofs.Common.{common_steps, [], ℕ, List, get_or, Bor, rules, arith, err_from_is_err_and, lock_command_word}
use Rattle.std.proofs.lemmas.Int.{to_z-of_z}
use Rattle.script_core.proofs.ArgumentLemmas.{five_texts, six_texts, bad_bare_lock, bad_lock, bad_pid, good_lock}
use Rattle.script_core.proofs.commands.read_lock.Goals as goal

nothing : Bor (List ℕ)
nothing = record { ref_ptr = (0, 0); now = [] }

pub returns-in_err-fd-in-len5 : goal.returns-in_err-fd-in-len5
unfolding nothing
returns-in_err-fd-in-len5 c limits =
    let failed = err_from_is_err_and c.from_residual.result c.from_residual.ensures.1 in
    let xs = c.args.arguments.now in
    rw (failed.1, failed.2, five_texts xs nothing c.in-len5.len_at_least c.in-len5.len_below)
    (bad_bare_lock limits (lock_command_word c.args.cmd) (get_or xs 0 nothing).now (get_or xs 1 nothing).now (get_or xs 2 nothing).now (get_or xs 3 nothing).now (get_or xs 4 nothing).now _ c.in_err-fd-in-len5.ensures)

pub returns-in_err-fd-in-len6 : goal.returns-in_err-fd-in-len6
unfolding nothing
returns-in_err-fd-in-len6 c limits =
    let failed = err_from_is_err_and c.from_residual-in_err-fd-in-len6.result c.from_residual-in_err-fd-in-len6.ensures.1 in
    let xs = c.args.arguments.now in
    rw (failed.1, failed.2, six_texts xs nothing c.in-len6.len_at_least c.in-len6.len_below)
    (bad_lock limits (lock_command_word c.args.cmd) (get_or xs 0 nothing).now (get_or xs 1 nothing).now (get_or xs 2 nothing).now (get_or xs 3 nothing).now (get_or xs 4 nothing).now (get_or xs 5 nothing).now _ c.in_err-fd-in-len6.ensures)

pub returns-in_err-pid-in-len6 : goal.returns-in_err-pid-in-len6
unfolding nothing
returns-in_err-pid-in-len6 c limits =
    let failed = err_from_is_err_and c.from_residual-in_err-pid-in-len6.result c.from_residual-in_err-pid-in-len6.ensures.1 in
    let xs = c.args.arguments.now in
    let lock = c.in_ok-fd-in-len6.lock in
    rw (failed.1, failed.2, six_texts xs nothing c.in-len6.len_at_least c.in-len6.len_below)
    (bad_pid limits (lock_command_word c.args.cmd) _ (get_or xs 5 nothing).now c.in_ok-fd-in-len6.fd lock _ c.in_ok-fd-in-len6.ensures.0 (omega arith) (search rules) (search rules) c.in_err-pid-in-len6.ensures)

pub returns-in_ok-pid-in-len6 : goal.returns-in_ok-pid-in-len6
unfolding nothing
returns-in_ok-pid-in-len6 c limits = grind (arith, common_steps, six_texts, nothing, to_z-of_z, good_lock)
