-- The lines of a journal: what their first words say, that each has one meaning, and that a journal has one end; for `journals_have_one_end`,
-- `JournalReader::next` and `Place::parse_head`.
use Rattle.script_core.proofs.Common.{rules, ◌≡◌, ℕ, ◌+◌, Option, Some, Result, Ok, Err, List, [], ◌∷◌, take, sym, ◌∙◌, subst, arith, MatchResult, common_steps, cases_lt, length-take-le, take_all, Limits, Event, Stage, Place, JournalLine, Cause, AreSkipped, is_comment, HeadGives, JournalReading, Legal, JournalGives, reading_behind}
use Rattle.range_core.specs.Facts.{MatchFact}
use Rattle.script_core.specs.declared.place.JournalLine.TheVariants as lines
use Rattle.script_core.specs.JournalReading.{OtherGives, BodyGives, TextGives, HasOneMeaning, JournalEnd, Faulty, Illegal, JournalsHaveOneEnd, MayGoOn, MayEnd, is_header, is_report_word}
use Rattle.script_core.proofs.FirstWordsLemmas.{MatchBool-map, many_header}
use Rattle.script_core.proofs.ReadingLemmas.{same_value, MatchBool-unique, HeaderGives-unique}
use Rattle.script_core.proofs.EntryLemmas.{PiecesGive-unique}

-- the head of a line is that of its first nine words
pub head_of_first : (place : Place) (words : List (List ℕ)) (result : Result (Option JournalLine) Cause) → HeadGives place (take 9 words) result
    → HeadGives place words result
head_of_first place words result h = grind (arith, common_steps, MatchBool-map, many_header, length-take-le, take_all, cases_lt)

-- a comment says nothing
pub head_skipped : (place : Place) (words : List (List ℕ)) → AreSkipped words → HeadGives place words (Ok (Some lines.Skipped))
head_skipped place words are = grind (arith, common_steps)

OtherGives-unique : (stage : Stage) (a b : Result (Option JournalLine) Cause) → OtherGives stage a → OtherGives stage b → a ≡ b
OtherGives-unique stage a b h h2 = grind (arith, common_steps)

HeadGives-unique : (place : Place) (words : List (List ℕ)) (a b : Result (Option JournalLine) Cause) → HeadGives place words a → HeadGives place words b → a ≡ b
HeadGives-unique place [] a b first second = first ∙ sym second
HeadGives-unique place (word ∷ rest) a b first second =
    MatchBool-unique (λ r. r ≡ Ok (Some lines.Skipped)) _ (is_comment word) (same_value (Ok (Some lines.Skipped)))
    (HeaderGives-unique place.header (is_header place.stage) (λ header. Some (lines.Header header)) word rest _
    (MatchBool-unique (λ r. r ≡ Ok (Some lines.Report)) (OtherGives place.stage) (is_report_word word) (same_value (Ok (Some lines.Report))) (OtherGives-unique place.stage)))
    a b first second

-- what comes of the pieces of a line
entry_unique : (next : Result Event Cause) (a b : Result JournalLine Cause)
    → MatchResult next (λ event. a ≡ Ok (lines.Entry event)) (λ cause. a ≡ Err cause)
    → MatchResult next (λ event. b ≡ Ok (lines.Entry event)) (λ cause. b ≡ Err cause) → a ≡ b
entry_unique next a b first second = grind (arith, common_steps)

BodyGives-unique : (limits : Limits) (line : List ℕ) (head : Result (Option JournalLine) Cause) (a b : Result JournalLine Cause)
    → BodyGives limits line head a → BodyGives limits line head b → a ≡ b
BodyGives-unique limits line head a b h h2 = search (rules, PiecesGive-unique, entry_unique)

TextGives-unique : (place : Place) (line : List ℕ) (a b : Result JournalLine Cause) → TextGives place line a → TextGives place line b → a ≡ b
TextGives-unique place line a b first second = search (rules, HeadGives-unique, BodyGives-unique)

-- a line of a journal has one meaning
pub one_meaning : (place : Place) (line : List ℕ) → HasOneMeaning place line
one_meaning place line = search (rules, MatchBool-unique, same_value, TextGives-unique)

-- one of two facts is settled where both are
MatchFact-unique : {X : Type 0} (Fact : Type 0) (P Q : X → Type 0) → ((a b : X) → P a → P b → a ≡ b) → ((a b : X) → Q a → Q b → a ≡ b)
    → (a b : X) → MatchFact Fact (P a) (Q a) → MatchFact Fact (P b) (Q b) → a ≡ b
MatchFact-unique Fact P Q h h2 a b h3 h4 = grind (arith, common_steps)

-- what comes behind a line
ends_unique : (number : ℕ) (reading : JournalReading) (line : List ℕ) (rest : List (List ℕ))
    → ((after : JournalReading) (a b : JournalEnd) → JournalGives (number + 1) after rest a → JournalGives (number + 1) after rest b → a ≡ b)
    → (next : Result JournalLine Cause) (a b : JournalEnd)
    → MatchResult next (λ said. MatchFact (MayGoOn reading line said) (JournalGives (number + 1) (reading_behind reading line said) rest a) (a
    ≡ Illegal number)) (λ cause. a ≡ Faulty number cause)
    → MatchResult next (λ said. MatchFact (MayGoOn reading line said) (JournalGives (number + 1) (reading_behind reading line said) rest b) (b
    ≡ Illegal number)) (λ cause. b ≡ Faulty number cause)
    → a ≡ b
ends_unique number reading line rest h next a b h2 h3 = grind (arith, common_steps, MatchFact-unique, same_value)

-- a journal has one end
pub one_end : JournalsHaveOneEnd
one_end number reading [] a b first second =
    MatchFact-unique (MayEnd reading) (λ end. end ≡ Legal) (λ end. end ≡ Illegal number) (same_value Legal) (same_value (Illegal number)) a b first second
one_end number reading (line ∷ rest) a b first second =
    let next : first.0 ≡ second.0 = one_meaning reading.place line first.0 second.0 first.1 second.1 in
    ends_unique number reading line rest (λ after. one_end (number + 1) after rest) second.0 a b
    (subst (λ next. MatchResult next (λ said. MatchFact (MayGoOn reading line said) (JournalGives (number + 1) (reading_behind reading line said) rest a) (a ≡ Illegal number)) (λ cause. a ≡ Faulty number cause)) next first.2)
    second.2
