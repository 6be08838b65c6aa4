-- A journal has one verdict, which is of its end: for `journals_have_one_verdict`.
use Rattle.replay_core.proofs.Common.{arith, ◌≡◌, ℕ, ◌+◌, List, [], ◌∷◌, length, true, false, Result, Ok, Err, inl, inr, refl, sym, ap, ◌∙◌, subst, common_steps, Cause, lines_of, journal_start, Verdict, LinesCome, journal_limit}
use Rattle.std.proofs.Common.{nat_lt, Bool, MatchBool, MatchResult}
use Rattle.range_core.specs.Facts.{MatchFact}
use Rattle.script_core.specs.declared.place.JournalLine.{JournalLine}
use Rattle.script_core.specs.declared.place.JournalLine.TheVariants as lines
use Rattle.script_core.specs.declared.script.Cause.TheVariants.{TooLong}
use Rattle.script_core.specs.JournalReading.{JournalReading, JournalGives, LinesHaveOneMeaning, MayGoOn, MayEnd, reading_behind}
use Rattle.script_core.specs.JournalReading as journals
use Rattle.script_core.specs.JournalView.{OneIsTold}
use Rattle.replay_core.specs.Checks.{Legal, Illegal, Faulty, IsIllegalAt, JournalsHaveOneVerdict, VerdictsAreOfEnds, end_of}

-- one of two facts, of which one holds, decides
decided : {X : Type 0} (Fact : Type 0) (P Q : X → Type 0) → ((a b : X) → P a → P b → a ≡ b) → ((a b : X) → Q a → Q b → a ≡ b)
    → (a b : X) → MatchFact Fact (P a) (Q a) → MatchFact Fact (P b) (Q b) → a ≡ b
decided Fact P Q h h2 a b h3 h4 = grind (arith, common_steps)

-- a line that the journal may not go on with has one verdict
one_illegal : OneIsTold → (number : ℕ) (reading : JournalReading) (said : JournalLine) (a b : Verdict) → IsIllegalAt number reading said a
    → IsIllegalAt number reading said b → a ≡ b
one_illegal told number reading said a b first second =
    first.2 ∙ ap (λ (text : List ℕ). Illegal number text) (told reading said first.0 second.0 first.1 second.1) ∙ sym second.2

-- what comes of a line that gives this
abbrev ComesOf : ℕ → JournalReading → List ℕ → List (List ℕ) → Result JournalLine Cause → Verdict → Type 0
ComesOf number reading line rest next verdict =
    MatchResult next
    (λ said. MatchFact (MayGoOn reading line said) (LinesCome (number + 1) (reading_behind reading line said) rest verdict) (IsIllegalAt number reading said verdict))
    (λ cause. verdict ≡ Faulty (record { line = number; cause = cause }))

one_of_line : OneIsTold → (number : ℕ) (reading : JournalReading) (line : List ℕ) (rest : List (List ℕ))
    → ((after : JournalReading) (a b : Verdict) → LinesCome (number + 1) after rest a → LinesCome (number + 1) after rest b → a ≡ b)
    → (next : Result JournalLine Cause) (a b : Verdict) → ComesOf number reading line rest next a → ComesOf number reading line rest next b → a ≡ b
one_of_line h number reading line rest h2 next a b h3 h4 = grind (arith, common_steps, decided, one_illegal)

one_of_lines : LinesHaveOneMeaning → OneIsTold → (number : ℕ) (reading : JournalReading) (lines : List (List ℕ)) (a b : Verdict)
    → LinesCome number reading lines a → LinesCome number reading lines b → a ≡ b
one_of_lines meaning told number reading [] a b first second =
    decided (MayEnd reading) (λ (verdict : Verdict). verdict ≡ Legal) (IsIllegalAt number reading lines.Report) (λ a b h k. h ∙ sym k)
    (one_illegal told number reading lines.Report) a b first second
one_of_lines meaning told number reading (line ∷ rest) a b first second =
    let next : first.0 ≡ second.0 = meaning reading.place line first.0 second.0 first.1 second.1 in
    one_of_line told number reading line rest (λ after. one_of_lines meaning told (number + 1) after rest) second.0 a b
    (subst (λ next. ComesOf number reading line rest next a) next first.2) second.2

one_by : (bytes : List ℕ) (long : Bool) (a b : Verdict)
    → ((a b : Verdict) → LinesCome 1 journal_start (lines_of bytes) a → LinesCome 1 journal_start (lines_of bytes) b → a ≡ b)
    → MatchBool long (a ≡ Faulty (record { line = 0; cause = TooLong })) (LinesCome 1 journal_start (lines_of bytes) a)
    → MatchBool long (b ≡ Faulty (record { line = 0; cause = TooLong })) (LinesCome 1 journal_start (lines_of bytes) b) → a ≡ b
one_by bytes true a b one first second = first ∙ sym second
one_by bytes false a b one first second = one a b first second

pub one_verdict : LinesHaveOneMeaning → OneIsTold → JournalsHaveOneVerdict
one_verdict meaning told bytes a b first second =
    one_by bytes (nat_lt journal_limit (length bytes)) a b (one_of_lines meaning told 1 journal_start (lines_of bytes)) first second

-- ---- ends

of_line : (number : ℕ) (reading : JournalReading) (line : List ℕ) (rest : List (List ℕ))
    → ((after : JournalReading) (verdict : Verdict) → LinesCome (number + 1) after rest verdict → JournalGives (number + 1) after rest (end_of verdict))
    → (next : Result JournalLine Cause) (verdict : Verdict) → ComesOf number reading line rest next verdict
    → MatchResult next
    (λ said. MatchFact (MayGoOn reading line said) (JournalGives (number + 1) (reading_behind reading line said) rest (end_of verdict))
    (end_of verdict ≡ journals.Illegal number))
    (λ cause. end_of verdict ≡ journals.Faulty number cause)
of_line number reading line rest later (Ok said) verdict (inl goes) = inl (goes.0, later (reading_behind reading line said) verdict goes.1)
of_line number reading line rest later (Ok said) verdict (inr stops) = inr (stops.0, ap end_of stops.1.2)
of_line number reading line rest later (Err cause) verdict is = ap end_of is

ends_of : (number : ℕ) (reading : JournalReading) (lines : List (List ℕ)) (verdict : Verdict) → LinesCome number reading lines verdict
    → JournalGives number reading lines (end_of verdict)
ends_of number reading [] verdict (inl may) = inl (may.0, ap end_of may.1)
ends_of number reading [] verdict (inr due) = inr (due.0, ap end_of due.1.2)
ends_of number reading (line ∷ rest) verdict comes =
    (comes.0, comes.1, of_line number reading line rest (λ after v. ends_of (number + 1) after rest v) comes.0 verdict comes.2)

legal_line : (number : ℕ) (reading : JournalReading) (line : List ℕ) (rest : List (List ℕ))
    → ((after : JournalReading) → JournalGives (number + 1) after rest journals.Legal → LinesCome (number + 1) after rest Legal)
    → (next : Result JournalLine Cause)
    → MatchResult next
    (λ said. MatchFact (MayGoOn reading line said) (JournalGives (number + 1) (reading_behind reading line said) rest journals.Legal) (journals.Legal
    ≡ journals.Illegal number))
    (λ cause. journals.Legal ≡ journals.Faulty number cause)
    → ComesOf number reading line rest next Legal
legal_line number reading line rest h next h2 = grind (arith, common_steps)

pub legal_of : (number : ℕ) (reading : JournalReading) (lines : List (List ℕ)) → JournalGives number reading lines journals.Legal
    → LinesCome number reading lines Legal
legal_of number reading [] (inl may) = inl (may.0, refl)
legal_of number reading [] (inr due) = absurd (let bad = due.1 in cc)
legal_of number reading (line ∷ rest) gives =
    (gives.0, gives.1, legal_line number reading line rest (λ after. legal_of (number + 1) after rest) gives.0 gives.2)

pub verdicts_are_of_ends : VerdictsAreOfEnds
verdicts_are_of_ends = record { ends = ends_of; legal = legal_of }
