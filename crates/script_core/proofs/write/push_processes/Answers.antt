use Rattle.script_core.proofs.Common.{◌≡◌, ◌+◌, ◌<◌, ◌++◌, length, ap, sym, ◌∙◌, arith, rules, slice_index, [], append-nil, state_at, processes_of, manager_in, ProcessLine, reported_line, line_of, err_from_is_err_and}
use Rattle.script_core.proofs.TextLemmas.{kept_behind, extends_on}
use Rattle.script_core.proofs.ReportLemmas.{no_processes, more_processes}
use Rattle.script_core.proofs.write.push_processes.Goals as goal

pub loop-index-init : goal.loop-index-init
loop-index-init c = record {
  extends = record { more = []; is = sym (append-nil _) };
  written = λ journal counts told are. no_processes _ _ _ _;
}

pub loop-index-preserved : goal.loop-index-preserved
loop-index-preserved c =
    let states = state_at (manager_in c.args.sequencer.now) in
    let sent = c.args.sent.now in
    let index = c.loop-index.index in
    let all : c.processes-index-end.result ≡ length sent = c.processes-index-end.ensures ∙ ap processes_of c.manager.ensures ∙ sym c.requires in
    let within : index < length sent = omega (arith, all) in
    record {
      extends = extends_on c.args.text.now.items c.loop-index.text.items _ _ c.loop-index.invariant.extends c.in_ok-push_reported.ensures;
      written = λ journal counts told are.
          let line = c.line_of-line.ensures journal told ∙ ap (λ place. line_of states journal (λ q. slice_index sent place) (index + 1)) c.from.ensures in
          more_processes states journal sent counts c.args.text.now.items (c.loop-index.text.items) (c.push_reported.new.text.items)
          index (slice_index sent index) are within (search rules) (c.loop-index.invariant.written journal counts told are)
          (c.in_ok-push_reported.ensures ∙ ap (λ (l : ProcessLine). c.loop-index.text.items ++ reported_line l) line);
    }

pub returns-in_err-push_reported : goal.returns-in_err-push_reported
returns-in_err-push_reported c =
    let failed = err_from_is_err_and c.from_residual.result c.from_residual.ensures.1 in
    let so_far = c.loop-index.invariant.extends in
    rw failed.1 (kept_behind c.args.text.now.items c.loop-index.text.items c.push_reported.new.text.items so_far.more so_far.is c.in_err-push_reported.ensures)
