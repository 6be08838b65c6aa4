-- The text of the report: for `push_processes` and `write_report`.
use Rattle.script_core.proofs.Common.{common_steps, ◌≡◌, ℕ, zero, suc, ◌+◌, ◌-◌, ◌<◌, List, ◌++◌, length, flat_map, refl, sym, ap, ◌∙◌, arith, append_assoc, append-nil, add-one, slice_index, Held, mode_in, flock_mode_in, IsHeldReport, Wait, ProcState, Manager, State, StandsFor, processes_of, state_at, Event, manager_in, HasTold, held_line, wait_line, line_of, reported_line, process_lines, IsReport, AreCounts}
use Rattle.std.proofs.lemmas.List.{append_cancel_left}
use Rattle.session_core.specs.declared.sequencer.Sequencer.{Sequencer}
use Rattle.script_core.specs.ReportText.{IsReportOf, WritesReport}

-- the lines of one more process
process_lines-more : (states : ℕ → ProcState) (events : List Event) (sent : ℕ → ℕ) (p n : ℕ)
    → process_lines states events sent p (suc n) ≡ process_lines states events sent p n ++ reported_line (line_of states events sent (p + n))
unfolding process_lines
process_lines-more states events sent p zero =
    let here : p + 0 ≡ p = omega arith in
    rw here (append-nil (reported_line (line_of states events sent p)))
process_lines-more states events sent p (suc n) = grind (arith, common_steps, append_assoc, process_lines-more states events sent (p + 1) n)

-- the text of so many processes, and of one more, whose count stands at its place
pub more_processes : (states : ℕ → ProcState) (events : List Event) (counts : List ℕ) (sent : ℕ → ℕ) (old before after : List ℕ) (index count : ℕ)
    → AreCounts counts sent → index < length counts → slice_index counts index ≡ count
    → before ≡ old ++ process_lines states events sent 1 index
    → after ≡ before ++ reported_line (line_of states events (λ q. count) (index + 1))
    → after ≡ old ++ process_lines states events sent 1 (index + 1)
more_processes states events counts sent old before after index count are within at was is =
    let place : index + 1 - 1 ≡ index = omega arith in
    let same : count ≡ sent (index + 1) = sym at ∙ ap (slice_index counts) (sym place) ∙ are (index + 1) (omega arith) (omega arith) in
    let next : index + 1 ≡ 1 + index = omega arith in
    let lines = process_lines states events sent 1 index in
    is
    ∙ ap (λ l. l ++ reported_line (line_of states events (λ q. count) (index + 1))) was
    ∙ append_assoc old lines (reported_line (line_of states events (λ q. count) (index + 1)))
    ∙ ap (λ n. old ++ (lines ++ reported_line (line_of states events (λ q. n) (index + 1)))) same
    ∙ ap (λ q. old ++ (lines ++ reported_line (line_of states events sent q))) next
    ∙ ap (λ l. old ++ l) (sym (process_lines-more states events sent 1 index))
    ∙ ap (λ n. old ++ process_lines states events sent 1 n) (sym (add-one index))

-- no lines of no processes
pub no_processes : (states : ℕ → ProcState) (events : List Event) (sent : ℕ → ℕ) (old : List ℕ) → old ≡ old ++ process_lines states events sent 1 0
unfolding process_lines
no_processes states events sent old = sym (append-nil old)

-- the report of what a manager shows is that of each state that it stands for
pub report_in_state : (manager : Manager) (S : State) (processes : ℕ) (events : List Event) (sent : ℕ
    → ℕ) (locks : List Held) (waits : List Wait) (text : List ℕ)
    → StandsFor manager S → IsHeldReport (mode_in S.changes) (flock_mode_in S.flock_changes) locks → waits ≡ S.waits
    → text ≡ flat_map held_line locks ++ flat_map wait_line waits ++ process_lines (state_at manager) events sent 1 processes
    → IsReport processes S events sent text
report_in_state manager S processes events sent locks waits text h held wait is = grind (arith, common_steps)

-- what is written of the locks, the waits and the processes is one text, which is the report of each state that the manager stands for
pub report_written : (sequencer : Sequencer) (sent : List ℕ) (locks : List Held) (waits : List Wait) (old new : List ℕ)
    → ((S : State) → StandsFor (manager_in sequencer) S → IsHeldReport (mode_in S.changes) (flock_mode_in S.flock_changes) locks)
    → ((S : State) → StandsFor (manager_in sequencer) S → waits ≡ S.waits)
    → WritesReport sequencer sent locks waits old new
    → (journal : List Event) → HasTold sequencer journal
    → (text : List ℕ)
    × ((S : State) → StandsFor (manager_in sequencer) S → IsReportOf sequencer journal sent S text)
    × (new ≡ old ++ text)
report_written sequencer sent locks waits old new held waiting writes journal told =
    let manager = manager_in sequencer in
    let own : ℕ → ℕ = λ p. slice_index sent (p - 1) in
    let text_of : (ℕ → ℕ) → List ℕ =
    λ counts. flat_map held_line locks ++ flat_map wait_line waits ++ process_lines (state_at manager) journal counts 1 (processes_of manager) in
    let written : new ≡ old ++ text_of own = writes journal own told (λ p first last. refl) in (
      text_of own,
      (λ S stands counts are.
          report_in_state manager S (processes_of manager) journal counts locks waits (text_of own) stands (held S stands) (waiting S stands)
          (append_cancel_left old (text_of own) (text_of counts) (sym written ∙ writes journal counts told are))),
      written,
    )
