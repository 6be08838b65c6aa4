-- Outputs are legal journals: for `outputs_are_legal`.
use Rattle.script_core.proofs.Common.{All-head, All-tail, common_steps, ◌≡◌, ℕ, ◌+◌, ◌≤◌, Bool, true, false, nat_lt, List, [], ◌∷◌, ◌++◌, map, flat_map, length, All, MatchBool, Result, Ok, Err, inl, inr, refl, sym, ap, ◌∙◌, subst, arith, append_assoc, append-nil}
use Rattle.script_core.proofs.Common.{LocksHaveOneReport, Limits, Rules, Event, IsRun, requests_sent, Place, ReportLine, Cause, Byte, TooLong, lines_of, is_printable, entry_text, entry_line, entry_limit, IsWritableEvent, AreTextsOf, AreReportLines, lines_from, Legal, JournalReading, JournalGives, IsBeforeReport, AreLegal, rules_at, limits_at, reading_behind, processes_in}
use Rattle.std.specs.List.{AllByRecursion as Each}
use Rattle.std.proofs.lemmas.Bool.Decides.{eqb_tells}
use Rattle.fd_table.specs.Descriptors.{process_limit}
use Rattle.script_core.specs.declared.place.Stage.TheVariants as stages
use Rattle.script_core.specs.declared.place.JournalLine.TheVariants as lines
use Rattle.script_core.specs.declared.report.ReportLine.TheVariants as report_lines
use Rattle.script_core.specs.HeaderReading.{rules_said}
use Rattle.script_core.specs.ReportReading.{MayHaveSent, joined}
use Rattle.script_core.specs.JournalReading.{IsReportAt, IsWholeReport}
use Rattle.script_core.specs.OutputReading.{OutputsAreLegal}
use Rattle.script_core.proofs.lengths.ArrivalLengthLemmas.{few_read}
use Rattle.script_core.proofs.lengths.JournalLengthLemmas.{taken_were_sent}
use Rattle.script_core.proofs.EntryRoundTripLemmas.{entry_reads_back}
use Rattle.script_core.proofs.CommentLaws.{InLine, lines_first}
use Rattle.script_core.proofs.JournalBackLemmas.{line_of_entry, legal_front}
use Rattle.script_core.proofs.ReportReadingLaws.{reports_read_back}
use Rattle.script_core.proofs.FitLemmas.{each_append, each_map}
use Rattle.script_core.proofs.OutcomeFitLemmas.{both_true}
use Rattle.script_core.proofs.RunFitLemmas.{run_of_output, output_fits, writable_output}
use Rattle.script_core.proofs.ReportFitLemmas.{IsReportText, report_reads, sent_small}

-- ---- lines

-- what is printable ends no line
in_line : (line : List ℕ) → is_printable line ≡ true → InLine line
in_line [] is = refl
in_line (byte ∷ line) is = grind (arith, common_steps, eqb_tells, both_true, in_line line)

-- texts, each with its line feed, are the lines
lines_joined : (texts : List (List ℕ)) → Each InLine texts → lines_of (joined texts) ≡ texts
lines_joined [] all = refl
lines_joined (text ∷ texts) all = grind (arith, common_steps, append_assoc, lines_first, lines_joined texts)

joined_both : (texts more : List (List ℕ)) → joined (texts ++ more) ≡ joined texts ++ joined more
joined_both texts more = grind (arith, common_steps, append_assoc)

entry_lines : (events : List Event) → flat_map entry_line events ≡ joined (map entry_text events)
entry_lines [] = refl
entry_lines (event ∷ events) = ap (λ l. entry_line event ++ l) (entry_lines events)

entry_printable : (limits : Limits) (event : Event) → IsWritableEvent limits event → is_printable (entry_text event) ≡ true
entry_printable limits event writable =
    by_two _ (nat_lt entry_limit (length (entry_text event))) (is_printable (entry_text event)) refl (entry_reads_back event limits writable)
  where
    by_two : (Gives : Type 0) (long printable : Bool) → is_printable (entry_text event) ≡ printable
        → MatchBool long (◌≡◌ {A = Result Event Cause} (Ok event) (Err TooLong))
        (MatchBool printable Gives (◌≡◌ {A = Result Event Cause} (Ok event) (Err Byte)))
        → is_printable (entry_text event) ≡ true
    by_two Gives true printable at gives = absurd (cc)
    by_two Gives false true at gives = at
    by_two Gives false false at gives = absurd (cc)

entries_in_line : (limits : Limits) (events : List Event) → Each (IsWritableEvent limits) events → Each InLine (map entry_text events)
entries_in_line limits [] all = tt
entries_in_line limits (event ∷ events) all = (in_line (entry_text event) (entry_printable limits event all.0), entries_in_line limits events all.1)

-- ---- the report

report_gives : (number : ℕ) (place : Place) (entries : List Event) (done texts : List (List ℕ)) → Each IsReportText texts
    → IsWholeReport place entries (done ++ texts) → JournalGives number (record { place = place; entries = entries; report = done }) texts Legal
report_gives number place entries done [] fits whole = inl (inr (subst (IsWholeReport place entries) (append-nil done) whole), refl)
report_gives number place entries done (text ∷ texts) fits (reported, at, are) =
    let cut : (done ++ text ∷ []) ++ texts ≡ done ++ text ∷ texts = append_assoc done (text ∷ []) texts in
    let all : AreTextsOf reported ((done ++ text ∷ []) ++ texts) = subst (AreTextsOf reported) (sym cut) are in
    let behind : Place = record place { stage = stages.Report } in
    let still : IsReportAt behind entries reported = record { state = at.state; run = at.run; lines = at.lines } in (
      Ok lines.Report,
      fits.0.gives place,
      inl ((reported, at, texts, all), report_gives (number + 1) behind entries (done ++ text ∷ []) texts fits.1 (reported, still, all)),
    )

-- ---- entries, and lines behind them

-- behind these entries, at each place with the same header lines, the lines are legal
GivesBehind : Place → List Event → List (List ℕ) → Type 0
GivesBehind place entries texts =
    (number : ℕ) (behind : Place) → behind.header ≡ place.header
    → JournalGives number (record { place = behind; entries = entries; report = [] }) texts Legal

entries_give : (number : ℕ) (reading : JournalReading) (events : List Event) (texts : List (List ℕ)) → IsBeforeReport reading.place.stage
    → reading.report ≡ [] → All (IsWritableEvent (limits_at reading.place)) events → AreLegal reading.place (reading.entries ++ events)
    → GivesBehind reading.place (reading.entries ++ events) texts → JournalGives number reading (map entry_text events ++ texts) Legal
unfolding GivesBehind
entries_give number reading [] texts before none writable legal more =
    let given = more number reading.place refl in
    let own = subst (λ (l : List Event). JournalGives number (record { place = reading.place; entries = l; report = [] }) texts Legal) (append-nil reading.entries) given in
    subst (λ (l : List (List ℕ)). JournalGives number (record { place = reading.place; entries = reading.entries; report = l }) texts Legal) (sym none) own
entries_give number reading (event ∷ events) texts before none writable legal more =
    let cut = append_assoc reading.entries (event ∷ []) events in
    let all : AreLegal reading.place ((reading.entries ++ event ∷ []) ++ events) = subst (AreLegal reading.place) (sym cut) legal in
    let rest : GivesBehind reading.place ((reading.entries ++ event ∷ []) ++ events) texts =
    subst (λ (l : List Event). GivesBehind reading.place l texts) (sym cut) more in (
      Ok (lines.Entry event),
      line_of_entry reading.place event (All-head (IsWritableEvent (limits_at reading.place)) event events writable) before,
      inl (
        legal_front reading.place (reading.entries ++ event ∷ []) events all,
        entries_give (number + 1) (reading_behind reading (entry_text event) (lines.Entry event)) events texts tt none
            (All-tail (IsWritableEvent (limits_at reading.place)) event events writable) all rest,
      ),
    )

-- ---- an output

pub small_limit : (limits : Limits) → process_limit limits ≤ 64
small_limit limits = grind (arith, common_steps)

text_printable : (texts : List (List ℕ)) → Each IsReportText texts → Each InLine texts
text_printable texts all = each_map IsReportText InLine texts (λ text is. in_line text is.printable) all

pub outputs_legal : LocksHaveOneReport → OutputsAreLegal
unfolding GivesBehind
outputs_legal one bytes text output number place before same =
    let script = output.script in
    let limits = script.rules.limits in
    let processes = processes_in script in
    let S = output.state in
    let journal = output.journal in
    let fits = output_fits bytes text output in
    let run = run_of_output bytes text output in
    let reported : List ReportLine =
    map report_lines.Held output.is_report.held ++ map report_lines.Waits S.waits ++ lines_from S.states journal 1 processes in
    let are : AreReportLines processes S journal reported = record { held = output.is_report.held; is_held = output.is_report.is_held; is = refl } in
    let few = small_limit limits in
    let may : MayHaveSent processes journal (λ p. length (requests_sent p script.arrivals)) = λ p from until. (
      taken_were_sent script.rules processes script.arrivals journal S output.drained p,
      sent_small script.arrivals (few_read bytes script output.accepted) p,
    ) in
    let told = (reports_read_back one).read processes S journal _ output.report reported (omega (arith, few)) may output.is_report are in
    let texts = told.0 in
    let reads = report_reads limits processes S journal reported texts few fits.after fits.writable fits.numbers run.numbered are told.2 in
    let line_texts = map entry_text journal in
    let whole_text : text ≡ joined (line_texts ++ texts) =
    output.is ∙ ap (λ l. l ++ output.report) (entry_lines journal) ∙ ap (λ l. joined line_texts ++ l) told.1 ∙ sym (joined_both line_texts texts) in
    let cut : lines_of text ≡ line_texts ++ texts =
    ap lines_of whole_text ∙ lines_joined (line_texts ++ texts)
    (each_append InLine line_texts texts (entries_in_line limits journal fits.writable) (text_printable texts reads)) in
    let rules : script.rules ≡ rules_at place = sym same in
    subst (λ (l : List (List ℕ)). JournalGives number (record { place = place; entries = []; report = [] }) l Legal) (sym cut)
    (entries_give number (record { place = place; entries = []; report = [] }) journal texts before refl
    (subst (λ (r : Rules). All (IsWritableEvent r.limits) journal) rules (writable_output bytes text output))
    (S, subst (λ (r : Rules). IsRun r (process_limit r.limits) journal S) rules run)
    (λ n behind same_header.
    let at : script.rules ≡ rules_at behind = rules ∙ sym (ap rules_said same_header) in
    let is_at : IsReportAt behind journal reported = record {
      state = S;
      run = subst (λ (r : Rules). IsRun r (process_limit r.limits) journal S) at run;
      lines = subst (λ (r : Rules). AreReportLines (process_limit r.limits) S journal reported) at are;
    } in
    report_gives n behind journal [] texts reads (reported, is_at, told.2)))
