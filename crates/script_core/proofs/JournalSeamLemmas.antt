-- What a `JournalReader` has read once a header line, an entry or a line of the report was taken down, and whether it may end.
use Rattle.script_core.proofs.JournalReportLemmas.{one_report, AreLeft-first, AreLeft-more, front_more, no_front, due_is, nothing_due, ends_whole, first_due-none}
use Rattle.script_core.proofs.Common.{append-nil, rules, arith, ◌≡◌, ◌≢◌, ℕ, true, false, List, [], ◌∷◌, ◌++◌, All, Option, Some, None, MatchOption, Result, Ok, Err, inr, refl, sym, ap, ap₂, ◌∙◌, subst, is_some, common_steps}
use Rattle.script_core.proofs.Common.{LocksHaveOneReport, Rules, State, Event, IsRun, Header, Place, ReportLine, AreTextsOf, IsFirstDue, first_due, AreReportLines, HasFewTaken, JournalReading, AreLegal, IsBeforeReport, rules_at, processes_at, AreLeft, TakesSaid}
use Rattle.session_core.specs.Checking.{HasAccepted}
use Rattle.script_core.specs.declared.place.Stage.TheVariants as stages
use Rattle.script_core.specs.declared.place.JournalLine.TheVariants as lines
use Rattle.script_core.specs.declared.journal.JournalFault.{JournalFault}
use Rattle.script_core.specs.declared.journal.JournalFault.TheVariants as faults
use Rattle.script_core.specs.declared.journal.JournalReader.{JournalReader}
use Rattle.script_core.specs.declared.report.ReportFault.{ReportFault}
use Rattle.script_core.specs.declared.report.ReportFault.TheVariants as reports
use Rattle.script_core.specs.ExpectedText.{due_text}
use Rattle.script_core.specs.ReportReading.{GoesOn, AreLastOf}
use Rattle.script_core.specs.JournalReading.{MayEnd}
use Rattle.script_core.specs.JournalView.{HasRead, HasChecked, HasReported, IsAtOpening, Finishes, place_of, is_spent, is_cut, cuts, expected_in, report_fault_of}

-- an entry was taken down
pub entry_taken : (old new : JournalReader) (reading : JournalReading) (line : List ℕ) (event : Event) → HasRead old reading
    → IsBeforeReport reading.place.stage
    → ((rules : Rules) (processes : ℕ) (accepted : List Event) → HasAccepted rules processes old.checker accepted
    → HasAccepted rules processes new.checker (accepted ++ event ∷ []))
    → new.place ≡ record old.place { stage = stages.Entries } → new.illegal ≡ old.illegal → new.report ≡ None
    → TakesSaid new reading line (lines.Entry event) (Ok tt)
unfolding place_of is_spent HasChecked HasReported
entry_taken old new reading line event read before accepts placed illegal report = search (rules)

-- a header line was taken down
pub header_taken : (old new : JournalReader) (reading : JournalReading) (line : List ℕ) (header : Header) (result : Result Unit JournalFault)
    → HasRead old reading → reading.place.stage ≡ stages.Header → IsAtOpening old new (record old.place { header = header }) result
    → TakesSaid new reading line (lines.Header header) result
unfolding place_of
header_taken old new reading line header result h h2 h3 = grind (arith, common_steps)

-- what a report that is begun is expected to have
pub expected_due : (reader : JournalReader) (left : List ReportLine) (due : Option ReportLine) → reader.illegal ≡ None → reader.report ≡ Some left
    → MatchOption due (AreTextsOf left []) (λ line. IsFirstDue left line) → expected_in reader ≡ due_text due
unfolding expected_in
expected_due reader left due illegal report told = grind (arith, common_steps, due_is)

unspent_expects : (reader : JournalReader) (left : List ReportLine) → is_spent reader ≡ false → reader.report ≡ Some left
    → expected_in reader ≡ due_text (first_due left)
unfolding expected_in is_spent
unspent_expects reader left unspent report = grind (arith, common_steps)

-- whether a report is cut
pub cut_is : (reader : JournalReader) (left : List ReportLine) (due : Option ReportLine) → reader.place.stage ≡ stages.Report → reader.report ≡ Some left
    → MatchOption due (AreTextsOf left []) (λ line. IsFirstDue left line) → is_some due ≡ cuts reader
unfolding cuts
cut_is reader left due stage report told = ap is_some (due_is left due told) ∙ sym (ap₂ is_cut stage report)

-- what is left of a report that was begun behind no line of it
pub left_first : (place : Place) (entries : List Event) (texts : List (List ℕ)) (now report : List ReportLine) → texts ≡ [] → AreLegal place entries
    → ((T : State) → IsRun (rules_at place) (processes_at place) entries T → AreReportLines (processes_at place) T entries report)
    → All HasFewTaken report → now ≡ report → AreLeft place entries texts now
left_first place entries texts now report none legal are few same = grind (arith, common_steps, AreLeft-first)

some_line : (texts : List (List ℕ)) (text : List ℕ) → texts ++ text ∷ [] ≢ []
some_line texts text none = grind (arith, common_steps)

-- a line of the report was taken down
pub report_taken : (old new : JournalReader) (reading : JournalReading) (text : List ℕ) (before now : List ReportLine) → HasRead old reading
    → AreLeft reading.place reading.entries reading.report before → GoesOn before text now → AreLastOf before now
    → new.place ≡ record old.place { stage = stages.Report }
    → new.checker ≡ old.checker → new.illegal ≡ old.illegal → new.report ≡ Some now → TakesSaid new reading text lines.Report (Ok tt)
unfolding place_of is_spent HasChecked HasReported
report_taken old new reading text before now read left goes last placed checker illegal report =
    let after = AreLeft-more reading.place reading.entries reading.report before now text left goes last in
    let run = read.checked.run in (
      front_more reading.place reading.entries (reading.report ++ text ∷ []) now run.0 run.1 after,
      record {
        place = placed ∙ ap (λ (p : Place). record p { stage = stages.Report }) read.place;
        stage = some_line reading.report text;
        unspent = ap is_some illegal ∙ read.unspent;
        checked = subst (λ c. HasAccepted (rules_at reading.place) (processes_at reading.place) c reading.entries) (sym checker) read.checked;
        reported = rw report (record { legal = after.legal; reported = after.reported; lines = after.lines; last = after.last; few = after.few; goes_on = after.goes_on });
      },
    )

-- a line of the report was refused
kept_read : (old new : JournalReader) (reading : JournalReading) (left : List ReportLine) → HasRead old reading
    → AreLeft reading.place reading.entries reading.report left → new.place ≡ old.place → new.checker ≡ old.checker → new.illegal ≡ old.illegal
    → new.report ≡ Some left → HasRead new reading
unfolding place_of is_spent HasChecked HasReported
kept_read old new reading left read are placed checker illegal report = grind (arith, common_steps)

pub report_refused : LocksHaveOneReport → (old new : JournalReader) (reading : JournalReading) (text : List ℕ) (left : List ReportLine) (fault : ReportFault)
    → HasRead old reading → AreLeft reading.place reading.entries reading.report left
    → (fault ≡ reports.Illegal → (more : List (List ℕ)) → AreTextsOf left (text ∷ more) → ⊥)
    → new.place ≡ old.place → new.checker ≡ old.checker → new.illegal ≡ old.illegal → new.report ≡ Some left
    → TakesSaid new reading text lines.Report (Err (report_fault_of fault))
report_refused one old new reading text left reports.Illegal read are none placed checker illegal report =
    let kept = kept_read old new reading left read are placed checker illegal report in (
      no_front one reading.place reading.entries reading.report left text are (none refl),
      (left, are, unspent_expects new left kept.unspent report),
      inr kept,
    )
report_refused one old new reading text left (reports.Memory memory) read are none placed checker illegal report =
    (tt, kept_read old new reading left read are placed checker illegal report)

-- ---- the end

-- the report is cut short
pub finish_cut : LocksHaveOneReport → (reader : JournalReader) (reading : JournalReading) → HasRead reader reading → cuts reader ≡ true
    → Finishes reader reading (Err faults.Illegal)
unfolding cuts place_of HasReported
finish_cut one reader reading read cut = grind (arith, common_steps, first_due-none, one_report, append-nil, unspent_expects)

not_some : {X : Type 0} (o : Option X) → is_some o ≡ false → o ≡ None
not_some o e = grind (arith, common_steps)

-- the report is whole, or wasn't begun
pub finish_whole : (reader : JournalReader) (reading : JournalReading) → HasRead reader reading → cuts reader ≡ false → MayEnd reading
unfolding cuts place_of HasReported HasChecked
finish_whole reader reading read whole = search (rules, ends_whole, nothing_due, not_some)
