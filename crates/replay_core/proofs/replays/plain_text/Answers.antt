use Rattle.replay_core.proofs.Common.{◌∙◌, ◌++◌, ℕ, List, ap, sym, subst, length, flat_map, requests_sent, entry_line, AreCounts, IsReport}
use Rattle.replay_core.proofs.replays.plain_text.Goals as goal

pub returns-clause-text : goal.returns-clause-text
returns-clause-text c =
    let whole = c.in_ok-sequencer.ensures.run in
    let script = whole.script in
    let journal = whole.run.journal in
    let ran = whole.run.ran in
    let sent = c.in_ok-sent.sent.items in
    let count = λ (p : ℕ). length (requests_sent p script.arrivals) in
    let counts : AreCounts sent count = λ p one within. c.in_ok-sent.ensures.counts journal ran.told p one within ∙ ap length (ran.sent p) in
    let report = c.in_ok-write_report.ensures.ok journal ran.told in
    record {
      script = script;
      accepted = whole.accepted;
      journal = journal;
      state = ran.state;
      drained = ran.drained;
      report = report.0;
      is_report =
          subst (λ (n : ℕ). IsReport n ran.state journal count report.0) ran.processes_are
          (report.1 ran.state ran.stands count (subst (λ (l : List ℕ). AreCounts l count) (sym c.deref.ensures.value) counts));
      is = report.2 ∙ ap (λ (l : List ℕ). l ++ report.0) (whole.run.written ∙ ap (λ (l : List ℕ). l ++ flat_map entry_line journal) c.new-text.ensures.items);
    }
