use Rattle.std.proofs.Common.{rules}
use Rattle.std.proofs.lemmas.Result.{on_ok_weaker}
use Rattle.explore_run.proofs.TextLemmas.{end_told}
use Rattle.explore_run.proofs.text.push_end.Goals as goal

pub returns : goal.returns
returns c =
    on_ok_weaker c.write_untaken.result
    (λ untaken journal S replayed.
    end_told c.args.script.now c.args.session.now c.sequencer.result.now c.sequencer-2.result.now c.in_ok-sent.sent.items c.deref-2.result.now c.deref-3.result.now
    journal S c.args.text.now.items c.write_report.new.out.items c.write_untaken.new.out.items replayed (search rules) c.sequencer.ensures.told c.sequencer.ensures.manager
    c.sequencer-2.ensures.told c.sequencer-2.ensures.manager c.deref-2.ensures.value c.deref-3.ensures.value c.in_ok-write_report.ensures.ok untaken)
    c.write_untaken.ensures.ok
