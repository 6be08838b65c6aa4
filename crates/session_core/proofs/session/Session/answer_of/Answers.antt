use Rattle.session_core.proofs.Common.{arith, common_steps, events_in}
use Rattle.std.proofs.lemmas.Cmp.{ranked}
use Rattle.session_core.proofs.LastLemmas.{last_found, last_past_all, none_found}
use Rattle.session_core.proofs.SessionLemmas.{session_holds}
use Rattle.session_core.proofs.session.Session.answer_of.Goals as goal

pub returns-in_err-last : goal.returns-in_err-last
unfolding events_in
returns-in_err-last c = grind (arith, common_steps, none_found)

pub returns-in-Equal : goal.returns-in-Equal
unfolding events_in
returns-in-Equal c =
    let is = c.last_answer.ensures _ c.args.self.now.told in
    let holds = session_holds c.args.self.now in
    grind (arith, common_steps, ranked, last_found, is, holds)

pub returns-in-Greater : goal.returns-in-Greater
unfolding events_in
returns-in-Greater c =
    let is = c.last_answer.ensures _ c.args.self.now.told in
    let holds = session_holds c.args.self.now in
    grind (arith, common_steps, ranked, last_past_all, is, holds)
