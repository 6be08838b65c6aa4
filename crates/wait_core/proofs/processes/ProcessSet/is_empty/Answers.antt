use Rattle.wait_core.proofs.Common.{◌≡◌, ◌∙◌, ap, arith, ProcessSet, is_member, no_process, eqb-true}
use Rattle.wait_core.proofs.ProcessLemmas.{none_in, same_word, some_in}
use Rattle.wait_core.proofs.processes.ProcessSet.is_empty.Goals as goal

pub returns-clause-none : goal.returns-clause-none
returns-clause-none c none p =
    let is : c.args.self ≡ no_process = same_word c.args.self no_process (eqb-true c.args.self.bits 0 none) in
    ap (λ (set : ProcessSet). is_member set p) is ∙ none_in p

pub returns-clause-some : goal.returns-clause-some
returns-clause-some c some = some_in c.args.self (omega arith) (λ zero. (let no = some in cc))
