-- A journal as a source gives it: for `read_journal`, `tell` and `tell_finding`.
use Rattle.replay_core.proofs.Common.{common_steps, ◌≡◌, ◌≤◌, ℕ, ◌+◌, List, [], ◌++◌, Option, Some, None, length, refl, arith, length-append, Cause, lines_of, journal_start, Finding, Verdict, journal_limit, HasChecked, LinesCome}
use Rattle.std.specs.Io.KnownBytes.{Consumes}
use Rattle.std.proofs.KnownBytes.{Consumes-trans, Consumes-nil}
use Rattle.std.proofs.lemmas.Bool.{le-ltb}
use Rattle.script_core.specs.JournalView.{expected_in}
use Rattle.replay_core.specs.declared.checking.Finding.TheVariants as findings
use Rattle.replay_core.specs.declared.checking.Checking.{Checking}
use Rattle.replay_core.specs.declared.replays.RunFault.TheVariants as faults
use Rattle.replay_core.specs.Checks.{illegal_line, verdict_at_end, HasJudged, IsCheckFault, IsToldOf, JournalComes}

-- so much was read and checked, and so many bytes more may come
pub record IsReadSoFar (old new : Option (List ℕ)) (checking : Checking) (left : ℕ) : Type 0 where
  pub input : List ℕ
  pub consumed : Consumes old new input
  pub count : length input + left ≡ journal_limit + 1
  pub checked : HasChecked checking input
  pub few : checking.before ≤ length input

-- nothing was read
pub nothing_read : (source : Option (List ℕ)) (checking : Checking) (left : ℕ) → HasChecked checking [] → left ≡ journal_limit + 1
    → checking.before ≡ 0 → IsReadSoFar source source checking left
nothing_read source checking left checked all none = grind (arith, common_steps, Consumes-nil)

-- some more was read and checked
pub more_read : (old mid new : Option (List ℕ)) (before after : Checking) (left rest : ℕ) (more : List ℕ)
    → IsReadSoFar old mid before left → Consumes mid new more → rest + length more ≡ left
    → ((front : List ℕ) → HasChecked before front → HasChecked after (front ++ more)) → after.before ≤ before.before + length more
    → IsReadSoFar old new after rest
more_read old mid new before after left rest more so_far consumed count checked few = grind (arith, common_steps, length-append, Consumes-trans)

-- what isn't comes to what its lines come to
pub comes : (bytes : List ℕ) (verdict : Verdict) → length bytes ≤ journal_limit → LinesCome 1 journal_start (lines_of bytes) verdict
    → JournalComes bytes verdict
comes bytes verdict short come = let is = le-ltb journal_limit (length bytes) short in rw is come

-- ---- a journal that was checked to its end

judged_as : (checking : Checking) (bytes : List ℕ) (found : Option Finding) → checking.found ≡ found → length bytes ≤ journal_limit
    → HasJudged checking bytes → JournalComes bytes (verdict_at_end checking found)
unfolding HasJudged
judged_as checking bytes found is short judged = grind (arith, common_steps, comes)

-- it is legal
pub told_legal : (checking : Checking) (bytes : List ℕ) → checking.found ≡ None → length bytes ≤ journal_limit → HasJudged checking bytes
    → IsToldOf bytes None
told_legal checking bytes is short judged = (judged_as checking bytes None is short judged, refl)

-- or illegal
pub told_illegal : (checking : Checking) (bytes text : List ℕ) → checking.found ≡ Some findings.Illegal → length bytes ≤ journal_limit
    → text ≡ illegal_line (checking.before + 1) (expected_in checking.reader) → HasJudged checking bytes → IsToldOf bytes (Some text)
told_illegal checking bytes text is short told judged =
    (checking.before + 1, expected_in checking.reader, judged_as checking bytes (Some findings.Illegal) is short judged, told)

-- or none
pub told_faulty : (checking : Checking) (bytes : List ℕ) (cause : Cause) → checking.found ≡ Some (findings.Faulty cause)
    → length bytes ≤ journal_limit → HasJudged checking bytes
    → IsCheckFault bytes (faults.Script (record { line = checking.before + 1; cause = cause }))
told_faulty checking bytes cause is short judged = judged_as checking bytes (Some (findings.Faulty cause)) is short judged
