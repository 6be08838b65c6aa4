use Rattle.wait_core.proofs.Common.{◌≡◌, ◌≢◌, ◌∙◌, Some, ap, arith, sym, common_steps, Process}
use Rattle.std.specs.Option.{option_copied}
use Rattle.lock_book.specs.OwnerLists.{modes_in_list}
use Rattle.wait_core.proofs.BlockingLemmas.{list_blocks}
use Rattle.wait_core.proofs.Wait.is_blocked_by_list.Goals as goal

pub returns-then-ne : goal.returns-then-ne
returns-then-ne c modes same =
    let here : option_copied c.args.list ≡ Some c.in-Some.list.now = ap option_copied c.in-Some.is in
    let different : Process c.args.process ≢ c.args.self.now.owner = λ is. grind (arith, common_steps) in
    rw c.is_some.ensures (list_blocks modes c.args.process c.args.self.now.owner c.args.self.now.span c.args.self.now.mode c.in-Some.list.now c.first_hit.result
    different (λ byte. sym (ap (λ l. modes_in_list l byte) here) ∙ same byte) c.first_hit.ensures.hit c.first_hit.ensures.none)
