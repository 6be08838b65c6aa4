use Rattle.std.proofs.Common.{ℕ, ◌≡◌, ◌∙◌, Result, Ok, Err, sym, subst}
use Rattle.std.specs.Option.{IfSome}
use Rattle.std.specs.Result.{IfOk, result_ok}
use Rattle.range_core.specs.Changes.{mode_in, modes_of as list_modes_of}
use Rattle.owner_runs.specs.declared.set_tree.SetTree.{SetTree}
use Rattle.owner_runs.proofs.RunLemmas.{modes_of_runs, ordered_from}
use Rattle.owner_runs.proofs.owner_runs.tree_of.Goals as goal

-- what holds of a result that is there
of_ok : {E : Type 0} (P Q : SetTree → Type 0) (result : Result SetTree E) → ((tree : SetTree) → P tree → Q tree) → IfOk result P → IfSome (result_ok result) Q
of_ok P Q (Ok tree) then holds = then tree holds
of_ok P Q (Err error) then holds = tt

pub of_runs-requires : goal.of_runs-requires
of_runs-requires c =
    let are = c.runs-runs.ensures.runs in
    ordered_from (list_modes_of c.args.list.now) c.runs-runs.result.now are.rising are.each c.runs-runs.ensures.ranges

pub returns-clause-modes : goal.returns-clause-modes
returns-clause-modes c =
    let modes = list_modes_of c.args.list.now in
    let runs = c.runs-runs.result.now in
    let are = c.runs-runs.ensures.runs in
    let ordered = ordered_from modes runs are.rising are.each c.runs-runs.ensures.ranges in
    let Given : SetTree → Type 0 = λ tree. (byte : ℕ) → mode_in tree.runs.items byte ≡ mode_in runs byte in
    let Wanted : SetTree → Type 0 = λ tree. (byte : ℕ) → mode_in tree.runs.items byte ≡ modes byte in
    subst (λ tree. IfSome tree Wanted) (sym c.ok.ensures.value)
    (of_ok Given Wanted c.of_runs.result (λ tree same byte. same byte ∙ modes_of_runs modes runs ordered are byte) c.of_runs.ensures.modes)
