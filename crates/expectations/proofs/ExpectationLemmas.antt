-- What is told of an expectation: for `push_expectation`.
use Rattle.std.proofs.Common.{◌≡◌, ◌∙◌, ℕ, Bool, true, false, Ok, List, [], ◌++◌, ap, append-nil, length, refl, sym, if◌then◌else◌}
use Rattle.session_core.specs.Event.{Event}
use Rattle.script_core.specs.ScriptText.{Meaning}
use Rattle.script_core.specs.Words.{lines_of}
use Rattle.script_core.specs.Reading.{Reads}
use Rattle.expectations.specs.Expectations.{Expected, Says, is_met, seen_in, told_of, unmet_line, words_behind}
use Rattle.expectations.specs.Judging.{RunsTo, TellsExpectation}

-- this is told of it
pub tells : (bytes line : List ℕ) (number : ℕ) (script : Meaning) (expected : Expected) (journal : List Event) (report : List ℕ) → number ≡ length (lines_of bytes)
    → Reads bytes (Ok script) → Says script.rules.limits (words_behind line) expected → RunsTo script journal report
    → TellsExpectation (lines_of bytes) line (told_of number expected journal report)
tells bytes line number script expected journal report number_is reads says run = record {
  script = script;
  accepted = record { bytes = bytes; is = refl; accepted = reads };
  expected = expected;
  says = says;
  journal = journal;
  report = report;
  run = run;
  is = ap (λ (n : ℕ). told_of n expected journal report) number_is;
}

-- a line where it isn't met
pub told_unmet : (number : ℕ) (expected : Expected) (journal : List Event) (report seen : List ℕ) → is_met expected journal report ≡ false → seen ≡ seen_in expected journal
    → unmet_line number seen expected ≡ told_of number expected journal report
told_unmet number expected journal report seen unmet is =
    ap (λ (l : List ℕ). unmet_line number l expected) is
    ∙ sym (ap (λ (b : Bool). if b then [] else unmet_line number (seen_in expected journal) expected) unmet)

-- and nothing where it is
pub told_met : (number : ℕ) (expected : Expected) (journal : List Event) (report text : List ℕ) → is_met expected journal report ≡ true
    → text ≡ text ++ told_of number expected journal report
told_met number expected journal report text met =
    sym (append-nil text)
    ∙ sym (ap (λ (b : Bool). text ++ (if b then [] else unmet_line number (seen_in expected journal) expected)) met)
