-- The lines of a script, of which the first were judged: for `told_text`.
use Rattle.std.proofs.Common.{◌≡◌, ◌∙◌, ℕ, ◌+◌, ◌-◌, ◌<◌, ◌≤◌, ◌⊎◌, List, [], ◌∷◌, ◌++◌, length, take, Bool, true, false, MatchBool, MatchResult, Result, Ok, Err, inl, inr, refl, sym, ap, ap₂, subst, arith, append_assoc, append-nil, length-append}
use Rattle.std.specs.Prelude.{nat_lt}
use Rattle.std.proofs.lemmas.Bool.{cases_Bool, cases_lt, le-ltb, ltb-false}
use Rattle.std.proofs.Math.Seq.{take-append_seam}
use Rattle.script_core.specs.declared.line.Line.{Line}
use Rattle.script_core.specs.declared.script.Cause.{Cause}
use Rattle.script_core.specs.declared.script.Cause.TheVariants.{TooLong, Word}
use Rattle.script_core.specs.declared.script.ScriptFault.{ScriptFault}
use Rattle.script_core.specs.ScriptText.{Meaning}
use Rattle.script_core.specs.Words.{lines_of, script_limit}
use Rattle.script_core.specs.Reading.{LinesGive, Reading, Reads, reading_after, start}
use Rattle.script_core.proofs.ReadingLemmas.{one_reading}
use Rattle.replay_core.specs.declared.replays.RunFault.{RunFault}
use Rattle.replay_core.specs.declared.replays.RunFault.TheVariants as faults
use Rattle.expectations.specs.FirstLines.{IsFirstLine}
use Rattle.expectations.specs.Expectations.{Says, words_behind}
use Rattle.expectations.specs.Judging.{AreScript, TellsExpectation, TellsLine, TellsLines, IsFaulty, NoneFaultyBefore, IsFirstFault, IsFaultAt, IsToldFault}
use Rattle.expectations.proofs.LineLemmas.{piece_of}

-- ---- readings of some lines

-- the fault of a script that is too long
abbrev length_fault : ScriptFault
length_fault = record { line = 0; cause = TooLong }

-- what bytes give that are too long, or aren't
abbrev GivesBy : List ℕ → Result Meaning ScriptFault → Bool → Type 0
GivesBy bytes result long = MatchBool long (result ≡ Err length_fault) (LinesGive 1 start (lines_of bytes) result)

-- a script is accepted or faulty
accepted≢faulty : (script : Meaning) (fault : ScriptFault) → ¬ (Ok script ≡ Err fault)
accepted≢faulty script fault is = absurd (cc)

-- a script that is accepted isn't too long, and its lines give it
record Accepted (bytes : List ℕ) (script : Meaning) : Type 0 where
  fits : length bytes ≤ script_limit
  gives : LinesGive 1 start (lines_of bytes) (Ok script)

accepted : (bytes : List ℕ) (script : Meaning) → Reads bytes (Ok script) → Accepted bytes script
accepted bytes script reads = at (cases_Bool (nat_lt script_limit (length bytes)))
  where
    at : ((nat_lt script_limit (length bytes) ≡ true) ⊎ (nat_lt script_limit (length bytes) ≡ false)) → Accepted bytes script
    at (inl long) = absurd (accepted≢faulty script length_fault (subst (GivesBy bytes (Ok script)) long reads))
    at (inr short) = record {
      fits = ltb-false script_limit (length bytes) short;
      gives = subst (GivesBy bytes (Ok script)) short reads;
    }

-- bytes that aren't too long give what their lines give
gives_reads : (bytes : List ℕ) (result : Result Meaning ScriptFault) → length bytes ≤ script_limit → LinesGive 1 start (lines_of bytes) result → Reads bytes result
gives_reads bytes result fits given =
    subst (GivesBy bytes result) (sym (le-ltb script_limit (length bytes) fits)) given

reads_gives : (bytes : List ℕ) (result : Result Meaning ScriptFault) → length bytes ≤ script_limit → Reads bytes result → LinesGive 1 start (lines_of bytes) result
reads_gives bytes result fits reads =
    subst (GivesBy bytes result) (le-ltb script_limit (length bytes) fits) reads

-- lines are one script
one_script : (lines : List (List ℕ)) (a b : Meaning) → AreScript lines a → AreScript lines b → a ≡ b
one_script lines a b first second =
    let given = (accepted first.bytes a first.accepted).gives in
    let there : LinesGive 1 start (lines_of second.bytes) (Ok a) =
    subst (λ (l : List (List ℕ)). LinesGive 1 start l (Ok a)) (first.is ∙ sym second.is) given in
    let again = gives_reads second.bytes (Ok a) (accepted second.bytes b second.accepted).fits there in
    let same : Ok a ≡ Ok b = one_reading second.bytes (Ok a) (Ok b) again second.accepted in
    cc

-- what comes of lines behind a first one that says this, or has this fault
abbrev GivesAfter : ℕ → Reading → List (List ℕ) → Result Meaning ScriptFault → Result Line Cause → Type 0
GivesAfter number reading lines result next =
    MatchResult next (λ said. LinesGive (number + 1) (reading_after reading said) lines result) (λ cause. result ≡ Err (record { line = number; cause = cause }))

fault_after : (number : ℕ) (reading : Reading) (lines more : List (List ℕ)) (fault : ScriptFault)
    → ((after : Reading) → LinesGive (number + 1) after lines (Err fault) → LinesGive (number + 1) after (lines ++ more) (Err fault))
    → (next : Result Line Cause) → GivesAfter number reading lines (Err fault) next → GivesAfter number reading (lines ++ more) (Err fault) next
fault_after number reading lines more fault later (Ok said) given = later (reading_after reading said) given
fault_after number reading lines more fault later (Err cause) given = given

-- the fault of the first lines is that of more
fault_stays : (number : ℕ) (reading : Reading) (lines more : List (List ℕ)) (fault : ScriptFault) → LinesGive number reading lines (Err fault)
    → LinesGive number reading (lines ++ more) (Err fault)
fault_stays number reading [] more fault given = absurd (cc)
fault_stays number reading (line ∷ lines) more fault given =
    (given.0, given.1, fault_after number reading lines more fault (λ after. fault_stays (number + 1) after lines more fault) given.0 given.2)

-- ---- lists

-- two lists that are as long before the next of them are one list
same_before : (xs ys : List (List ℕ)) (x y : List ℕ) (more others : List (List ℕ)) → xs ++ x ∷ more ≡ ys ++ y ∷ others → length xs ≡ length ys → (xs ≡ ys) × (x ≡ y)
same_before [] [] x y more others is long = (refl, cc)
same_before [] (b ∷ ys) x y more others is long = absurd (omega (arith, long))
same_before (a ∷ xs) [] x y more others is long = absurd (omega (arith, long))
same_before (a ∷ xs) (b ∷ ys) x y more others is long =
    let tails : xs ++ x ∷ more ≡ ys ++ y ∷ others = cc in
    let heads : a ≡ b = cc in
    let shorter : length xs ≡ length ys = omega (arith, long) in
    let later = same_before xs ys x y more others tails shorter in (ap₂ (λ (h : List ℕ) (t : List (List ℕ)). h ∷ t) heads later.0, later.1)

-- of two lists that begin one the longer begins with the shorter
longer_before : (xs ys more others : List (List ℕ)) → xs ++ more ≡ ys ++ others → length xs ≤ length ys → (rest : List (List ℕ)) × (ys ≡ xs ++ rest)
longer_before [] ys more others is less = (ys, refl)
longer_before (a ∷ xs) [] more others is less = absurd (omega (arith, less))
longer_before (a ∷ xs) (b ∷ ys) more others is less =
    let tails : xs ++ more ≡ ys ++ others = cc in
    let heads : a ≡ b = cc in
    let later = longer_before xs ys more others tails (omega (arith, less)) in (later.0, ap₂ (λ (h : List ℕ) (t : List (List ℕ)). h ∷ t) (sym heads) later.1)

-- ---- the way through the lines

-- so many lines were judged, and this is told of them; the rest wasn't
pub record Way (bytes rest told : List ℕ) (number : ℕ) : Type 0 where
  pub done : List (List ℕ)
  pub lines : lines_of bytes ≡ done ++ lines_of rest
  pub number_is : number ≡ length done
  pub few : number + length rest ≤ length bytes
  pub front : List ℕ
  pub is : bytes ≡ front ++ rest
  pub cut : 0 < length rest → (other : List ℕ) → lines_of (front ++ other) ≡ done ++ lines_of other
  pub goes_on : (text : List ℕ) → TellsLines done (lines_of rest) text → TellsLines [] (lines_of bytes) (told ++ text)
  pub none : NoneFaultyBefore bytes (number + 1)

pub way_start : (bytes : List ℕ) → Way bytes bytes [] 0
way_start bytes = record {
  done = [];
  lines = refl;
  number_is = refl;
  few = omega arith;
  front = [];
  is = refl;
  cut = λ some other. refl;
  goes_on = λ text tells. tells;
  none = λ before line behind lines less faulty. absurd (omega arith);
}

-- the bytes up to the end of the next line are that line behind those that were judged
pub script_lines : (bytes rest told : List ℕ) (number : ℕ) (line behind : List ℕ) (way : Way bytes rest told number) → IsFirstLine rest line behind
    → lines_of (take (length bytes - length behind) bytes) ≡ way.done ++ line ∷ []
script_lines bytes rest told number line behind way first =
    let piece = piece_of rest line behind first in
    let whole : bytes ≡ (way.front ++ piece.piece) ++ behind =
    way.is ∙ ap (λ (l : List ℕ). way.front ++ l) piece.is ∙ sym (append_assoc way.front piece.piece behind) in
    let long : length bytes - length behind ≡ length (way.front ++ piece.piece) =
    (let all = ap length whole ∙ length-append (way.front ++ piece.piece) behind in omega (arith, all)) in
    ap lines_of (ap₂ (λ (n : ℕ) (l : List ℕ). take n l) long whole ∙ take-append_seam (way.front ++ piece.piece) behind)
    ∙ way.cut piece.some piece.piece ∙ ap (λ (l : List (List ℕ)). way.done ++ l) piece.own

-- what is told of a line was told of it by the one script that ends there: it has no other form
not_faulty : (lines : List (List ℕ)) (line own : List ℕ) → TellsLine lines line own → ¬ IsFaulty lines line
not_faulty lines line own tells faulty =
    let told = subst (λ (test : Bool). MatchBool test (TellsExpectation lines line own) (own ≡ [])) faulty.is tells in
    let same = one_script lines told.script faulty.script told.accepted faulty.accepted in
    faulty.unsaid told.expected (subst (λ (script : Meaning). Says script.rules.limits (words_behind line) told.expected) same told.says)

-- no line up to this one is faulty, where none before it is
none_more : (bytes rest told : List ℕ) (number : ℕ) (line behind own : List ℕ) (way : Way bytes rest told number) → IsFirstLine rest line behind
    → TellsLine (way.done ++ line ∷ []) line own → NoneFaultyBefore bytes (number + 1 + 1)
none_more bytes rest told number line behind own way first tells before other later lines less = at (cases_lt (length before) number)
  where
    at : (length before < number) ⊎ (number ≤ length before) → ¬ IsFaulty (before ++ other ∷ []) other
    at (inl earlier) = way.none before other later lines (omega (arith, earlier))
    at (inr here) =
        let long : length before ≡ length way.done = omega (arith, way.number_is, here, less) in
        let all = (piece_of rest line behind first).all in
        let same = same_before before way.done other line later (lines_of behind) (sym lines ∙ way.lines ∙ ap (λ (l : List (List ℕ)). way.done ++ l) all) long in
        λ faulty.
        not_faulty (way.done ++ line ∷ []) line own tells
        (subst (λ (l : List (List ℕ)). IsFaulty (l ++ line ∷ []) line) same.0 (subst (λ (l : List ℕ). IsFaulty (before ++ l ∷ []) l) same.1 faulty))

-- one more line was judged
pub way_next : (bytes rest told : List ℕ) (number : ℕ) (line behind own new : List ℕ) (way : Way bytes rest told number) → IsFirstLine rest line behind
    → TellsLine (way.done ++ line ∷ []) line own → new ≡ told ++ own → Way bytes behind new (number + 1)
way_next bytes rest told number line behind own new way first tells is_new =
    let piece = piece_of rest line behind first in
    record {
      done = way.done ++ line ∷ [];
      lines = way.lines ∙ ap (λ (l : List (List ℕ)). way.done ++ l) piece.all ∙ sym (append_assoc way.done (line ∷ []) (lines_of behind));
      number_is = (let long = length-append way.done (line ∷ []) in omega (arith, long, way.number_is));
      few = (let shorter = piece.shorter in omega (arith, way.few, shorter));
      front = way.front ++ piece.piece;
      is = way.is ∙ ap (λ (l : List ℕ). way.front ++ l) piece.is ∙ sym (append_assoc way.front piece.piece behind);
      cut = λ some other.
          ap lines_of (append_assoc way.front piece.piece other) ∙ way.cut piece.some (piece.piece ++ other)
          ∙ ap (λ (l : List (List ℕ)). way.done ++ l) (piece.more some other) ∙ sym (append_assoc way.done (line ∷ []) (lines_of other));
      goes_on = λ text later.
          let there : TellsLines way.done (lines_of rest) (own ++ text) =
          subst (λ (l : List (List ℕ)). TellsLines way.done l (own ++ text)) (sym piece.all) (own, tells, text, later, refl) in
          subst (TellsLines [] (lines_of bytes)) (sym (append_assoc told own text) ∙ ap (λ (l : List ℕ). l ++ text) (sym is_new)) (way.goes_on (own ++ text) there);
      none = none_more bytes rest told number line behind own way first tells;
    }

-- where all lines were judged, all is told
pub way_tells : (bytes told : List ℕ) (number : ℕ) → Way bytes [] told number → TellsLines [] (lines_of bytes) told
way_tells bytes told number way = subst (TellsLines [] (lines_of bytes)) (append-nil told) (way.goes_on [] refl)

-- where a script that ends at a line has a fault, no line before or behind it is faulty
behind_none : (bytes rest told : List ℕ) (number : ℕ) (line behind : List ℕ) (fault : ScriptFault) (way : Way bytes rest told number)
    → lines_of bytes ≡ (way.done ++ line ∷ []) ++ lines_of behind → LinesGive 1 start (way.done ++ line ∷ []) (Err fault) → NoneFaultyBefore bytes fault.line
behind_none bytes rest told number line behind fault way all here before other later lines less = at (cases_lt (length before) number)
  where
    upto : List (List ℕ)
    upto = way.done ++ line ∷ []

    at : (length before < number) ⊎ (number ≤ length before) → ¬ IsFaulty (before ++ other ∷ []) other
    at (inl earlier) = way.none before other later lines (omega (arith, earlier))
    at (inr there) = λ faulty.
        let long : length upto ≤ length (before ++ other ∷ []) =
        (let one = length-append way.done (line ∷ []) in let two = length-append before (other ∷ []) in omega (arith, one, two, there, way.number_is)) in
        let more = longer_before upto (before ++ other ∷ []) (lines_of behind) later (sym all ∙ lines ∙ sym (append_assoc before (other ∷ []) later)) long in
        let script = faulty.accepted in
        let again : LinesGive 1 start (lines_of script.bytes) (Err fault) =
        subst (λ (l : List (List ℕ)). LinesGive 1 start l (Err fault)) (sym more.1 ∙ sym script.is) (fault_stays 1 start upto more.0 fault here) in
        let reads = gives_reads script.bytes (Err fault) (accepted script.bytes faulty.script script.accepted).fits again in
        accepted≢faulty faulty.script fault (one_reading script.bytes (Ok faulty.script) (Err fault) script.accepted reads)

-- the fault of the script up to a line is the first where no line before is faulty
pub way_fault : (bytes rest told : List ℕ) (number : ℕ) (line behind script : List ℕ) (fault : ScriptFault) (way : Way bytes rest told number)
    → IsFirstLine rest line behind → length bytes ≤ script_limit → length script ≤ script_limit → lines_of script ≡ way.done ++ line ∷ []
    → Reads script (Err fault) → IsFirstFault bytes fault
way_fault bytes rest told number line behind script fault way first fits short are reads =
    let upto = way.done ++ line ∷ [] in
    let all : lines_of bytes ≡ upto ++ lines_of behind =
    way.lines ∙ ap (λ (l : List (List ℕ)). way.done ++ l) (piece_of rest line behind first).all ∙ sym (append_assoc way.done (line ∷ []) (lines_of behind)) in
    let here : LinesGive 1 start upto (Err fault) =
    subst (λ (l : List (List ℕ)). LinesGive 1 start l (Err fault)) are (reads_gives script (Err fault) short reads) in
    record {
      is_fault = inl (gives_reads bytes (Err fault) fits
          (subst (λ (l : List (List ℕ)). LinesGive 1 start l (Err fault)) (sym all) (fault_stays 1 start upto (lines_of behind) fault here)));
      first = behind_none bytes rest told number line behind fault way all here;
    }

-- the fault of a form is the first where no line before is faulty
pub way_form : (bytes rest told : List ℕ) (number : ℕ) (line behind : List ℕ) (fault : ScriptFault) (way : Way bytes rest told number)
    → IsFirstLine rest line behind → length bytes ≤ script_limit → IsFaulty (way.done ++ line ∷ []) line
    → fault ≡ record { line = number + 1; cause = Word } → IsFirstFault bytes fault
way_form bytes rest told number line behind fault way first fits faulty is =
    let all = way.lines ∙ ap (λ (l : List (List ℕ)). way.done ++ l) (piece_of rest line behind first).all in
    record {
      is_fault = inr (record {
        fits = fits;
        before = way.done;
        line = line;
        behind = lines_of behind;
        lines = all;
        faulty = faulty;
        is = is ∙ ap (λ (n : ℕ). record { line = n + 1; cause = Word }) way.number_is;
      });
      first = subst (NoneFaultyBefore bytes) (sym (ap (λ (f : ScriptFault). f.line) is)) way.none;
    }

-- ---- the faults of `told_text`

-- of a line that was looked at
pub line_fault : (bytes rest told : List ℕ) (number : ℕ) (line behind script : List ℕ) (fault : RunFault) (way : Way bytes rest told number)
    → IsFirstLine rest line behind → length bytes ≤ script_limit → length script ≤ script_limit → lines_of script ≡ way.done ++ line ∷ []
    → IsFaultAt script line (number + 1) fault → IsToldFault bytes fault
line_fault bytes rest told number line behind script (faults.Script fault) way first fits short are (inl reads) =
    way_fault bytes rest told number line behind script fault way first fits short are reads
line_fault bytes rest told number line behind script (faults.Script fault) way first fits short are (inr form) =
    way_form bytes rest told number line behind fault way first fits (subst (λ (l : List (List ℕ)). IsFaulty l line) are form.0) form.1
line_fault bytes rest told number line behind script (faults.Memory memory) way first fits short are at = tt
line_fault bytes rest told number line behind script faults.Read way first fits short are at = at
line_fault bytes rest told number line behind script faults.Write way first fits short are at = at
line_fault bytes rest told number line behind script faults.Thread way first fits short are at = at
