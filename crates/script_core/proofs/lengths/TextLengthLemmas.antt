-- How long entries and reports are, which have so many bytes for each note and each line: for `outputs_are_short`.
use Rattle.script_core.proofs.Common.{ℕ, zero, suc, ◌+◌, ◌*◌, ◌^◌, ◌<◌, ◌≤◌, true, false, List, [], ◌∷◌, ◌++◌, length, length-append, flat_map, ap, arith, if◌then◌else◌, join_with_byte, All-from_recursion}
use Rattle.script_core.proofs.Common.{Held, Limits, ProcState, State, Event, AreNumbered, ProcessLine, script_limit, request_words, tag, note_text, entry_text, entry_line, IsWritableEvent, IsReport, held_text, held_line, wait_text, wait_line, is_reported, process_text, line_of, reported_line, process_lines}
use Rattle.std.specs.List.{AllByRecursion as Each}
use Rattle.std.proofs.lemmas.List.Concat.{length-flat_map}
use Rattle.std.proofs.lemmas.List.Sums.{sum_by-le}
use Rattle.session_core.specs.Mail.{events_of}
use Rattle.script_core.specs.ReportText.{process_line}
use Rattle.script_core.proofs.RoundTripLemmas.{length-join, join_cons}
use Rattle.script_core.proofs.EntryRoundTripLemmas.{length-tag, length-notes}
use Rattle.script_core.proofs.FitLemmas.{FitsWait, Fits, each_map, few_waits}
use Rattle.script_core.proofs.ReportFitLemmas.{FitsHeld, FitsProcessLine, held_fit, taken_few, held_short, said_wait, said_process, process_fits, wait_line_fits}
use Rattle.script_core.proofs.lengths.ArrivalLengthLemmas.{request_length}
use Rattle.script_core.proofs.lengths.JournalLengthLemmas.{events_length}

-- ---- entries

-- a line has its request, its tag and its line feed, and its notes
entry_length : (limits : Limits) (event : Event) → IsWritableEvent limits event
    → length (entry_line event) ≤ 22 + request_length event.request + 96 * length event.notes
entry_length limits event writable =
    let word = tag event.p event.n in
    let words = request_words event.request in
    let notes = flat_map note_text event.notes in
    let text = ap (λ (t : List ℕ). length (t ++ notes)) (join_cons word event.request) in
    let line = length-append (entry_text event) (10 ∷ []) in
    let parts = length-append (join_with_byte 32 (word ∷ words)) notes in
    let first = length-join word words in
    let tagged = length-tag limits event.p event.n writable.process writable.number in
    let told = length-notes limits event.notes writable.notes in
    omega (arith, text, line, parts, first, tagged, told)

-- so have all lines
pub entries_length : (limits : Limits) (events : List Event) → Each (IsWritableEvent limits) events
    → length (flat_map entry_line events) ≤ 22 * length events + events_length events + 96 * length (flat_map (λ event. event.notes) events)
unfolding events_length
entries_length limits [] writable = omega arith
entries_length limits (event ∷ events) writable =
    let rest = entries_length limits events writable.1 in
    let own = entry_length limits event writable.0 in
    let text = length-append (entry_line event) (flat_map entry_line events) in
    let notes = length-append event.notes (flat_map (λ (e : Event). e.notes) events) in
    omega (arith, rest, own, text, notes)

-- ---- the report

-- lines of which none is longer than so many bytes
lines_length : {X : Type 0} (P : X → Type 0) (line : X → List ℕ) (most : ℕ) (xs : List X) → ((x : X) → P x → length (line x) ≤ most) → Each P xs
    → length (flat_map line xs) ≤ length xs * most
lines_length {X} P line most xs short all =
    let each = All-from_recursion (λ (x : X). length (line x) ≤ most) xs (each_map P (λ x. length (line x) ≤ most) xs short all) in
    let size = length-flat_map line xs in
    let sum = sum_by-le (λ x. length (line x)) most xs each in
    omega (arith, size, sum)

-- a line feed more
fed : (text : List ℕ) (most : ℕ) → length text ≤ most → length (text ++ 10 ∷ []) ≤ most + 1
fed text most short = let size = length-append text (10 ∷ []) in omega (arith, size, short)

-- the lines of locks
held_length : (S : State) (held : List Held) → Each FitsHeld held → length (flat_map held_line held) ≤ length held * 103
held_length S held fits = lines_length FitsHeld held_line 103 held (λ x is. fed (held_text x) 102 (held_short x is)) fits

-- the lines of waits, of which there are 64 at most
waits_length : (limits : Limits) (S : State) → Fits limits S → length (flat_map wait_line S.waits) ≤ 9280
waits_length limits S fits =
    let few = few_waits limits S fits in
    let all = lines_length (FitsWait limits S.states) wait_line 145 S.waits
    (λ wait is. fed (wait_text wait) 144 (said_wait wait (wait_line_fits limits S.states wait is)).short) fits.waits in
    omega (arith, few, all)

-- the line of a process, where there is one
process_length : (told : ProcessLine) → told.sent < 2 ^ 64 → FitsProcessLine told → length (reported_line told) ≤ 117
process_length told sent fits =
    let line = fed (process_text told) 116 (said_process told sent fits).short in
    elim (is_reported told.state told.sent) as (λ b. length (if b then process_line told else []) ≤ 117) [
      | true ↦ line
      | false ↦ omega arith
    ]

-- the lines of processes
processes_length : (limits : Limits) (states : ℕ → ProcState) (events : List Event) (sent : ℕ → ℕ) (p more : ℕ) → p + more ≤ 65
    → Each (IsWritableEvent limits) events → ((q : ℕ) → length (events_of q events) ≤ script_limit + 1) → ((p : ℕ) → sent p < 2 ^ 64)
    → length (process_lines states events sent p more) ≤ more * 117
unfolding process_lines
processes_length limits states events sent p zero few writable counts small = omega arith
processes_length limits states events sent p (suc more) few writable counts small =
    let told = line_of states events sent p in
    let own = process_length told (small p) (process_fits limits states events sent p (omega (arith, few)) writable counts) in
    let rest = processes_length limits states events sent (p + 1) more (omega (arith, few)) writable counts small in
    let text = length-append (reported_line told) (process_lines states events sent (p + 1) more) in
    omega (arith, own, rest, text)

-- the report has so many bytes for each lock that is held, and for 64 waits and 64 processes
pub report_length : (limits : Limits) (processes : ℕ) (S : State) (events : List Event) (sent : ℕ → ℕ) (text : List ℕ) → processes ≤ 64 → Fits limits S
    → Each (IsWritableEvent limits) events → Each (λ event. event.n ≤ script_limit + 1) events → AreNumbered events → ((p : ℕ) → sent p < 2 ^ 64)
    → (is : IsReport processes S events sent text) → length text ≤ length is.held * 103 + 16768
report_length limits processes S events sent text few fits writable numbers numbered small is =
    let locks = flat_map held_line is.held in
    let waits = flat_map wait_line S.waits in
    let told = process_lines S.states events sent 1 processes in
    let whole = ap length is.is in
    let front = length-append (locks ++ waits) told in
    let both = length-append locks waits in
    let first = held_length S is.held (held_fit S is.held fits.locks is.is_held) in
    let second = waits_length limits S fits in
    let third = processes_length limits S.states events sent 1 processes (omega (arith, few)) writable (λ p. taken_few events p numbered numbers) small in
    omega (arith, few, whole, front, both, first, second, third)
