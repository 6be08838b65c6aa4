use Rattle.script_core.proofs.Common.{ap, codes, held_line, wait_line}
use Rattle.script_core.specs.Explaining.{in_the_way_line}
use Rattle.script_core.proofs.ExplainLemmas.{told_behind}
use Rattle.script_core.proofs.explain.push_in_the_way.Goals as goal

pub returns-in_ok-push_comment-in-Lock : goal.returns-in_ok-push_comment-in-Lock
returns-in_ok-push_comment-in-Lock c =
    told_behind c.push_held.result c.args.text.now.items c.push_comment.new.text.items c.push_held.new.text.items c.args.entry.now.p c.args.entry.now.n
    (codes "blocked by ") (held_line c.in-Lock.held) (in_the_way_line c.args.obstacle) c.in_ok-push_comment-in-Lock.ensures (ap in_the_way_line c.in-Lock.is)
    c.push_held.ensures

pub returns-in_ok-push_comment-in-Wait : goal.returns-in_ok-push_comment-in-Wait
returns-in_ok-push_comment-in-Wait c =
    told_behind c.push_wait.result c.args.text.now.items c.push_comment-in-Wait.new.text.items c.push_wait.new.text.items c.args.entry.now.p c.args.entry.now.n
    (codes "behind ") (wait_line c.in-Wait.wait) (in_the_way_line c.args.obstacle) c.in_ok-push_comment-in-Wait.ensures (ap in_the_way_line c.in-Wait.is)
    c.push_wait.ensures
