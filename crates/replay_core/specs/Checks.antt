-- What a check tells of a journal (the words are this project's choice).
use Rattle.std.specs.Prelude.{◌≡◌, ℕ, ◌+◌, ◌≤◌, ◌==◌, ◌⊎◌, ⊤, false, Bool, IsTrue, nat_lt, MatchBool, MatchResult, Option, None, Some, Result, Ok, List, [], ◌∷◌, ◌++◌, All, length, codes, decimal}
use Rattle.std.specs.Io.KnownBytes.{Consumes, IsAtEnd}
use Rattle.range_core.specs.Facts.{MatchFact}
use Rattle.script_core.specs.declared.place.JournalLine.{JournalLine}
use Rattle.script_core.specs.declared.place.JournalLine.TheVariants as lines
use Rattle.script_core.specs.declared.script.Cause.{Cause}
use Rattle.script_core.specs.declared.script.Cause.TheVariants.{TooLong}
use Rattle.script_core.specs.declared.script.ScriptFault.{ScriptFault}
use Rattle.script_core.specs.Words.{lines_of}
use Rattle.script_core.specs.EntryReading.{entry_limit}
use Rattle.script_core.specs.JournalReading.{JournalReading, JournalEnd, JournalGives, JournalLineGives, MayGoOn, MayEnd, journal_start, reading_behind}
use Rattle.script_core.specs.JournalReading as journals
use Rattle.lock_manager.specs.declared.request.Rules.{Rules}
use Rattle.script_core.specs.HeaderText.{policy_word, limits_word}
use Rattle.script_core.specs.WithoutHeaders.{plain_rules}
use Rattle.script_core.specs.Output.{IsOutput}
use Rattle.script_core.specs.JournalView.{HasRead, IsToldThere, expected_in}
use Rattle.replay_core.specs.declared.checks.Outcome.{Outcome}
use Rattle.replay_core.specs.declared.checks.Outcome.TheVariants as outcomes
use Rattle.replay_core.specs.declared.replays.RunFault.{RunFault}
use Rattle.replay_core.specs.declared.replays.RunFault.TheVariants as faults
use Rattle.replay_core.specs.declared.checking.Finding.{Finding}
use Rattle.replay_core.specs.declared.checking.Finding.TheVariants as findings
use Rattle.replay_core.specs.declared.checking.Checking.{Checking}

-- how many bytes a journal may have
abbrev pub journal_limit : ℕ
journal_limit = 67108864

-- what a journal comes to: it is legal; or this is the first line that it may not go on with, in place of which that is expected; or its
-- first faulty line has this fault
pub data Verdict : Type 0 where
  Legal : Verdict
  Illegal : ℕ → List ℕ → Verdict
  Faulty : ScriptFault → Verdict

-- the journal may not go on with this line, which says this, and what is expected there is told
abbrev pub IsIllegalAt : ℕ → JournalReading → JournalLine → Verdict → Type 0
IsIllegalAt number reading said verdict = (expected : List ℕ) × IsToldThere reading said expected × (verdict ≡ Illegal number expected)

-- the lines from this number on, behind this reading: the first that is faulty, or that the journal may not go on with, decides; and behind
-- the last one the journal may end, or a line of its report is due
abbrev pub LinesCome : ℕ → JournalReading → List (List ℕ) → Verdict → Type 0
LinesCome number reading [] verdict = MatchFact (MayEnd reading) (verdict ≡ Legal) (IsIllegalAt number reading lines.Report verdict)
LinesCome number reading (line ∷ lines) verdict =
    (next : Result JournalLine Cause) × JournalLineGives reading.place line next
    × MatchResult next
    (λ said. MatchFact (MayGoOn reading line said)
    (LinesCome (number + 1) (reading_behind reading line said) lines verdict) (IsIllegalAt number reading said verdict))
    (λ cause. verdict ≡ Faulty (record { line = number; cause = cause }))

-- a journal: it is too long, or its lines decide
abbrev pub JournalComes : List ℕ → Verdict → Type 0
JournalComes bytes verdict =
    MatchBool (nat_lt journal_limit (length bytes)) (verdict ≡ Faulty (record { line = 0; cause = TooLong }))
    (LinesCome 1 journal_start (lines_of bytes) verdict)

-- two verdicts of the same bytes are equal
abbrev pub JournalsHaveOneVerdict : Type 0
JournalsHaveOneVerdict = (bytes : List ℕ) (a b : Verdict) → JournalComes bytes a → JournalComes bytes b → a ≡ b

-- the end of a journal of this verdict, in which no text tells what is expected
abbrev pub end_of : Verdict → JournalEnd
end_of Legal = journals.Legal
end_of (Illegal number expected) = journals.Illegal number
end_of (Faulty fault) = journals.Faulty fault.line fault.cause

-- the verdict of lines, behind any reading, is one of their end; and where that is the legal one, they have the legal verdict
pub record VerdictsAreOfEnds : Type 0 where
  pub ends : (number : ℕ) (reading : JournalReading) (lines : List (List ℕ)) (verdict : Verdict) → LinesCome number reading lines verdict
      → JournalGives number reading lines (end_of verdict)
  pub legal : (number : ℕ) (reading : JournalReading) (lines : List (List ℕ)) → JournalGives number reading lines journals.Legal
      → LinesCome number reading lines Legal

-- the header lines that say these rules, each with its line feed
abbrev pub header_lines : Rules → List ℕ
header_lines rules = codes "policy " ++ policy_word rules.policy ++ 10 ∷ [] ++ codes "limits " ++ limits_word rules.limits ++ 10 ∷ []

-- each output is a legal journal behind the header lines of its script's rules, and also without them where its script is under the held
-- policy and small limits
pub record OutputsAreJudgedLegal : Type 0 where
  pub plain : (bytes text : List ℕ) (output : IsOutput bytes text) → output.script.rules ≡ plain_rules → JournalComes text Legal
  pub headed : (bytes text : List ℕ) (output : IsOutput bytes text) → JournalComes (header_lines output.script.rules ++ text) Legal

-- the line that is written of an illegal journal
abbrev pub illegal_line : ℕ → List ℕ → List ℕ
illegal_line number expected = codes "line " ++ decimal number ++ codes ": " ++ expected ++ 10 ∷ []

-- what is written of a journal: nothing where it is legal, and where it is illegal a line that tells where, and what is expected there
abbrev pub IsCheckOutput : Outcome → List ℕ → List ℕ → Type 0
IsCheckOutput outcomes.Done bytes text = JournalComes bytes Legal × (text ≡ [])
IsCheckOutput outcomes.Illegal bytes text =
    (number : ℕ) × (expected : List ℕ) × JournalComes bytes (Illegal number expected) × (text ≡ illegal_line number expected)

-- these bytes were read of the source: all that it had, or its first bytes up to one past the longest journal
pub record ReadsJournal (old new : Option (List ℕ)) (bytes : List ℕ) : Type 0 where
  pub consumed : Consumes old new bytes
  pub whole : IsAtEnd new ⊎ (length bytes ≡ journal_limit + 1)

-- what was read is no journal: this is its fault
pub record ReadsFaultyJournal (old new : Option (List ℕ)) (fault : ScriptFault) : Type 0 where
  pub input : List ℕ
  pub read : ReadsJournal old new input
  pub faulty : JournalComes input (Faulty fault)

-- nothing is told of a legal journal, and of an illegal one this text
abbrev pub IsToldOf : List ℕ → Option (List ℕ) → Type 0
IsToldOf bytes None = IsCheckOutput outcomes.Done bytes []
IsToldOf bytes (Some text) = IsCheckOutput outcomes.Illegal bytes text

-- bytes are not told of for this: they are no journal, and have this fault, or a growth was refused
abbrev pub IsCheckFault : List ℕ → RunFault → Type 0
IsCheckFault bytes (faults.Script fault) = JournalComes bytes (Faulty fault)
IsCheckFault bytes (faults.Memory memory) = ⊤
IsCheckFault bytes faults.Read = ⊥
IsCheckFault bytes faults.Write = ⊥
IsCheckFault bytes faults.Thread = ⊥

-- nor is what a source gives, or it failed
abbrev pub IsJournalFault : Option (List ℕ) → Option (List ℕ) → Bool → RunFault → Type 0
IsJournalFault old new failed (faults.Script fault) = ReadsFaultyJournal old new fault
IsJournalFault old new failed (faults.Memory memory) = ⊤
IsJournalFault old new failed faults.Read = IsTrue failed
IsJournalFault old new failed faults.Write = ⊥
IsJournalFault old new failed faults.Thread = ⊥

-- all that the source had was read, and this is told of it
pub record TellsOf (old new : Option (List ℕ)) (told : Option (List ℕ)) : Type 0 where
  pub input : List ℕ
  pub consumed : Consumes old new input
  pub ended : IsAtEnd new
  pub is_told : IsToldOf input told

-- ---- how far a journal was checked

-- whatever follows the bytes, they come to what the line at hand, of this number, comes to with what follows it
abbrev pub LeadsTo : List ℕ → ℕ → JournalReading → List ℕ → Type 0
LeadsTo bytes number reading line =
    (rest : List ℕ) (verdict : Verdict) → LinesCome number reading (lines_of (line ++ rest)) verdict
    → LinesCome 1 journal_start (lines_of (bytes ++ rest)) verdict

-- whatever follows the bytes, their lines come to this
abbrev pub AreDecided : List ℕ → Verdict → Type 0
AreDecided bytes verdict = (rest : List ℕ) → LinesCome 1 journal_start (lines_of (bytes ++ rest)) verdict

-- the lines before the one at hand were read of the bytes
pub record HasReadBytes (checking : Checking) (bytes : List ℕ) : Type 0 where
  pub reading : JournalReading
  pub read : HasRead checking.reader reading
  pub leads : LeadsTo bytes (checking.before + 1) reading checking.line.items
  pub in_line : All (λ byte. (byte == 10) ≡ false) checking.line.items
  pub short : length checking.line.items ≤ entry_limit

-- what is found of the line at hand is this verdict
abbrev pub verdict_of : Checking → Finding → Verdict
verdict_of checking findings.Illegal = Illegal (checking.before + 1) (expected_in checking.reader)
verdict_of checking (findings.Faulty cause) = Faulty (record { line = checking.before + 1; cause = cause })

-- nothing was found of the bytes, or what was decides whatever follows
abbrev pub IsFoundOf : Checking → List ℕ → Option Finding → Type 0
IsFoundOf checking bytes None = HasReadBytes checking bytes
IsFoundOf checking bytes (Some finding) = AreDecided bytes (verdict_of checking finding)

-- so far the bytes were checked
unfoldable pub HasChecked : Checking → List ℕ → Type 0
HasChecked checking bytes = IsFoundOf checking bytes checking.found

-- the line was read behind this reading, and nothing was found; or what was decides, whatever lines follow
abbrev pub IsFoundAt : Checking → Checking → JournalReading → List ℕ → Option Finding → Type 0
IsFoundAt old new reading line None =
    (said : JournalLine) × JournalLineGives reading.place line (Ok said) × MayGoOn reading line said × HasRead new.reader (reading_behind reading line said)
    × (new.line.items ≡ []) × (new.before ≡ old.before + 1)
IsFoundAt old new reading line (Some finding) =
    (lines : List (List ℕ)) → LinesCome (old.before + 1) reading (line ∷ lines) (verdict_of new finding)

-- so the line at hand was judged
unfoldable pub Judges : Checking → Checking → JournalReading → Type 0
Judges old new reading = IsFoundAt old new reading old.line.items new.found

-- each line of the bytes was read, and they come to what their end comes to; or what was found decides
abbrev pub AreLinesRead : Checking → List ℕ → Option Finding → Type 0
AreLinesRead checking bytes None =
    (reading : JournalReading) × HasRead checking.reader reading
    × ((verdict : Verdict) → LinesCome (checking.before + 1) reading [] verdict → LinesCome 1 journal_start (lines_of bytes) verdict)
AreLinesRead checking bytes (Some finding) = LinesCome 1 journal_start (lines_of bytes) (verdict_of checking finding)

-- so it is of what was found
unfoldable pub HasReadLines : Checking → List ℕ → Type 0
HasReadLines checking bytes = AreLinesRead checking bytes checking.found

-- at the end of the bytes this is their verdict
abbrev pub verdict_at_end : Checking → Option Finding → Verdict
verdict_at_end checking None = Legal
verdict_at_end checking (Some finding) = verdict_of checking finding

-- so the bytes were checked to their end
unfoldable pub HasJudged : Checking → List ℕ → Type 0
HasJudged checking bytes = LinesCome 1 journal_start (lines_of bytes) (verdict_at_end checking checking.found)

-- all that the source had was read and checked, which is no more than a journal may have
pub record ReadsChecked (old new : Option (List ℕ)) (checking : Checking) : Type 0 where
  pub input : List ℕ
  pub consumed : Consumes old new input
  pub ended : IsAtEnd new
  pub short : length input ≤ journal_limit
  pub checked : HasChecked checking input
  pub few : checking.before ≤ journal_limit
