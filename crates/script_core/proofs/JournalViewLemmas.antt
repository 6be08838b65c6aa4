-- What a `JournalReader` answers to a line, from what the line gives and what was taken down of it.
use Rattle.script_core.proofs.Common.{rules, arith, ◌≡◌, ◌⊎◌, ℕ, Result, Ok, Err, List, refl, subst, inl, inr, common_steps, Place, JournalLine, Cause, Byte, Word, Count, TooLong, IsOfScript, pieces_of, JournalReading, JournalLineGives, limits_at, TakesSaid}
use Rattle.script_core.specs.declared.script.Cause.TheVariants.{Number, Process, Memory, Tag}
use Rattle.script_core.specs.declared.journal.JournalFault.{JournalFault}
use Rattle.script_core.specs.declared.journal.JournalFault.TheVariants as faults
use Rattle.script_core.specs.declared.journal.JournalReader.{JournalReader}
use Rattle.script_core.specs.Reading.{IsWantOfMemory}
use Rattle.script_core.specs.EntryReading.{HaveNote}
use Rattle.script_core.specs.JournalReading.{TextGives}
use Rattle.script_core.specs.JournalView.{HasRead, Takes, fault_of}

-- each cause is one of a script, or want of memory
of_script_or_memory : (cause : Cause) → IsOfScript cause ⊎ IsWantOfMemory cause
of_script_or_memory Byte = inl (λ memory e. cc)
of_script_or_memory Word = inl (λ memory e. cc)
of_script_or_memory Count = inl (λ memory e. cc)
of_script_or_memory Number = inl (λ memory e. cc)
of_script_or_memory Process = inl (λ memory e. cc)
of_script_or_memory TooLong = inl (λ memory e. cc)
of_script_or_memory (Memory memory) = inr (memory, refl)
of_script_or_memory Tag = inl (λ memory e. cc)

-- a fault of the grammar is told as one
pub grammar_fault : (reader : JournalReader) (reading : JournalReading) (line : List ℕ) (cause : Cause) → IsOfScript cause
    → JournalLineGives reading.place line (Err cause) → HasRead reader reading → Takes reader reading line (Err (fault_of cause))
grammar_fault reader reading line cause h h2 h3 = search (rules)

fault_by : (reader : JournalReader) (reading : JournalReading) (line : List ℕ) (cause : Cause)
    → (IsOfScript cause → JournalLineGives reading.place line (Err cause))
    → (IsWantOfMemory cause → HaveNote (limits_at reading.place) (pieces_of line)) → HasRead reader reading
    → IsOfScript cause ⊎ IsWantOfMemory cause → Takes reader reading line (Err (fault_of cause))
fault_by reader reading line cause h h2 h3 h4 = grind (arith, common_steps, grammar_fault)

-- what the text of a line gives, the line gives
pub line_given : (place at : Place) (line text : List ℕ) (result : Result JournalLine Cause) → text ≡ line
    → ((said : Result JournalLine Cause) → TextGives at line said → JournalLineGives at line said) → place ≡ at → TextGives place text result
    → JournalLineGives at line result
line_given place at line text result same gives is given = grind (arith, common_steps)

-- and want of memory as that
pub text_fault : (reader : JournalReader) (reading : JournalReading) (line : List ℕ) (cause : Cause) (place : Place) (text : List ℕ) → text ≡ line
    → ((said : Result JournalLine Cause) → TextGives reading.place line said → JournalLineGives reading.place line said) → place ≡ reading.place
    → (IsOfScript cause → TextGives place text (Err cause)) → (IsWantOfMemory cause → HaveNote (limits_at place) (pieces_of text)) → HasRead reader reading
    → Takes reader reading line (Err (fault_of cause))
text_fault reader reading line cause place text same gives is refused memory read =
    fault_by reader reading line cause (λ of. line_given place reading.place line text (Err cause) same gives is (refused of))
    (λ want. subst (λ p. HaveNote (limits_at p) (pieces_of line)) is (subst (λ t. HaveNote (limits_at place) (pieces_of t)) same (memory want)))
    read (of_script_or_memory cause)

-- what is answered where the line says this, and that was taken down
pub said_taken : (reader : JournalReader) (reading : JournalReading) (line : List ℕ) (said : JournalLine) (result : Result Unit JournalFault)
    → JournalLineGives reading.place line (Ok said) → TakesSaid reader reading line said result → Takes reader reading line result
said_taken reader reading line said (Ok done) gives taken = (said, gives, taken.0, taken.1)
said_taken reader reading line said (Err (faults.Grammar cause)) gives taken = absurd taken
said_taken reader reading line said (Err faults.Illegal) gives taken = (said, gives, taken.0, taken.1, taken.2)
said_taken reader reading line said (Err (faults.Memory memory)) gives taken = (inl (said, gives, taken.0), taken.1)
