-- An explained run without the lines that begin with `#` is the run: for `explanations_are_comments`.
use Rattle.script_core.proofs.Common.{arith, ℕ, ◌≡◌, ◌+◌, List, [], ◌∷◌, ◌++◌, length, flat_map, sym, ap, ◌∙◌, append_assoc, append-nil, common_steps, Rules, State, Event, requests_sent, States, entry_line, processes_in, ExplainsRun, untaken_lines}
use Rattle.script_core.specs.Explaining.{without_comments, ExplanationsAreComments}
use Rattle.script_core.proofs.CommentLaws.{plain_entry, plain_report, comment_own, comment_all_untaken}
use Rattle.script_core.proofs.StateCommentLaws.{comment_told}

-- a run that is explained, without what explains it
run_without : (states : States) (rules : Rules) (processes number : ℕ) (S : State) (events : List Event) (T : State) (text : List ℕ)
    → ExplainsRun states rules processes number S events T text → (rest : List ℕ)
    → without_comments (text ++ rest) ≡ flat_map entry_line events ++ without_comments rest
run_without states rules processes number S [] T text h rest = ap (λ (l : List ℕ). without_comments (l ++ rest)) h.1
run_without states rules processes number S (event ∷ events) T text h rest =
    let line = entry_line event in
    let behind = h.6 ++ rest in
    ap (λ (l : List ℕ). without_comments (l ++ rest)) h.8
    ∙ ap without_comments (append_assoc (line ++ h.2 ++ h.4) h.6 rest ∙ append_assoc (line ++ h.2) h.4 behind ∙ append_assoc line h.2 (h.4 ++ behind))
    ∙ plain_entry event (h.2 ++ (h.4 ++ behind))
    ∙ ap (λ (l : List ℕ). line ++ l)
    (comment_own rules processes S event h.0 h.2 h.3 (h.4 ++ behind)
    ∙ comment_told states rules processes number S h.0 h.4 h.5 behind
    ∙ run_without states rules processes (number + 1) h.0 events T h.6 h.7 rest)
    ∙ sym (append_assoc line (flat_map entry_line events) (without_comments rest))

-- what is explained of a script is its output, with comments
pub explanations_are_comments : ExplanationsAreComments
explanations_are_comments states bytes text h =
    let sent = λ (p : ℕ). length (requests_sent p h.script.arrivals) in
    let lines = flat_map entry_line h.journal in
    let left = untaken_lines h.state.states h.journal sent 1 (processes_in h.script) in
    let last : without_comments left ≡ [] =
    ap without_comments (sym (append-nil left)) ∙ comment_all_untaken h.state.states h.journal sent 1 (processes_in h.script) [] in
    let reported : without_comments (h.report ++ left) ≡ h.report =
    plain_report (processes_in h.script) h.state h.journal sent h.report h.is_report left ∙ ap (λ (l : List ℕ). h.report ++ l) last ∙ append-nil h.report in
    record {
      script = h.script;
      accepted = h.accepted;
      journal = h.journal;
      state = h.state;
      drained = h.drained;
      report = h.report;
      is_report = h.is_report;
      is = grind (arith, common_steps, append_assoc, run_without);
    }
