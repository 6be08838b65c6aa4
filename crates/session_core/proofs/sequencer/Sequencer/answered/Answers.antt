use Rattle.session_core.proofs.Common.{◌≡◌, rules, length, answers_to, HasTold}
use Rattle.session_core.proofs.LastLemmas.{number_in, last_number}
use Rattle.session_core.proofs.sequencer.Sequencer.answered.Goals as goal

pub returns : goal.returns
unfolding HasTold
returns c journal told =
    let self = c.args.self.now in
    let is = c.last_answer.ensures journal told in
    let many : number_in c.last_answer.result ≡ length (answers_to c.args.p journal) = last_number self.manager _ journal c.args.p c.last_answer.result told.holds is in
    search (rules, many)
