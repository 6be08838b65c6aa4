use Rattle.lock_server.proofs.FreedLemmas.{any_behind, meeting_behind, own_behind}
use Rattle.lock_server.proofs.freed.Freed.behind.Goals as goal

pub returns-in-Of : goal.returns-in-Of
returns-in-Of c = own_behind c.args.self c.in-Of.reach c.args.granted.now c.behind.result c.in-Of.is c.behind.ensures

pub returns-in-Meeting : goal.returns-in-Meeting
returns-in-Meeting c = meeting_behind c.args.self c.in-Meeting.reach c.args.granted.now c.behind-in-Meeting.result c.in-Meeting.is c.behind-in-Meeting.ensures

pub returns-in-Nobody : goal.returns-in-Nobody
returns-in-Nobody c = any_behind c.args.self c.args.granted.now
