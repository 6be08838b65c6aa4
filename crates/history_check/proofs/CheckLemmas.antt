-- A history, byte by byte: for `HistoryCheck::end`, `end_line`, `go_on`, `grow`, `take_all` and others.
use Rattle.std.proofs.Common.{◌≡◌, ◌<◌, ◌≤◌, ℕ, ◌+◌, ◌==◌, true, false, Bool, List, [], ◌∷◌, ◌++◌, Option, Some, None, Ok, Err, length, refl, sym, ap, subst, ◌∙◌, inl, inr, arith, append_assoc, append-nil, length-append, get_or, take, drop, take-append-drop, OnOk, Result, is_some, option_map}
use Rattle.std.specs.Prelude.{◌↔◌, IsTrue, MatchBool}
use Rattle.std.proofs.lemmas.Grind.{common_steps, flat_map-append}
use Rattle.std.proofs.lemmas.Bool.Decides.{eqb_tells}
use Rattle.std.proofs.lemmas.List.{take_more}
use Rattle.std.proofs.lemmas.List.Elements.{All-push}
use Rattle.script_core.specs.declared.script.Cause.{Cause}
use Rattle.script_core.specs.declared.script.Cause.TheVariants.{TooLong}
use Rattle.script_core.specs.Words.{line_limit}
use Rattle.history_core.specs.declared.request.Action.{Action}
use Rattle.history_core.specs.declared.request.Answer.{Answer}
use Rattle.history_text.specs.declared.line.HistoryLine.{HistoryLine as TextLine}
use Rattle.history_text.specs.declared.line.HistoryLine.TheVariants as texts
use Rattle.history_text.specs.HistoryReading.{LineGives}
use Rattle.history_judge.specs.declared.judge.HistoryJudge.{HistoryJudge}
use Rattle.history_judge.specs.declared.judge.OpenRequest.{OpenRequest}
use Rattle.history_judge.specs.FilesApart.{Sending}
use Rattle.history_judge.specs.Histories.{Answered, IsLegal, MayEnd}
use Rattle.history_judge.specs.JudgeView.{Exceeds, Knows, Refuses, keeps_order, open_in}
use Rattle.history_judge.specs.Known.{sending_of}
use Rattle.std.proofs.Common.{map}
use Rattle.std.proofs.lemmas.Bool.{cases_Bool}
use Rattle.history_core.specs.Locks.{FileLocks}
use Rattle.history_judge.specs.declared.order.FileHappening.{FileHappening}
use Rattle.history_judge.specs.HistoryOrders.{IsLeft, Leave, no_locks}
use Rattle.history_check.specs.declared.judging.Judging.{Judging}
use Rattle.history_check.specs.declared.open_waits.OpenWait.{OpenWait}
use Rattle.history_check.specs.declared.check.Finding.{Finding}
use Rattle.history_check.specs.declared.check.Finding.TheVariants as findings
use Rattle.history_check.specs.declared.check.HistoryCheck.{HistoryCheck}
use Rattle.history_check.specs.Told.{InLine}
use Rattle.history_check.specs.Verdicts.{AreJudged, BytesCome, EndComes, Faulty, HistoryComes, Illegal, IsSound, Legal, LegalComes, LostWakeUps, OrderComes, Ordered, Verdict, Whole, history_limit, history_of, lines_told, requested_after, said_by, behind_all, by_number, numbers_after, numbers_behind, waits_after, waits_behind}
use Rattle.history_check.specs.Checked.{AreLinesRead, HasChecked, HasJudged, HasRead, HasReadBytes, HasReadLines, IsFoundAt, IsFoundOf, IsLimited, Judges, LeadsTo, Passes, requested_in, verdict_at, verdict_of}
use Rattle.history_check.proofs.LineLemmas.{end_leads, last_leads, line_decides, line_grows, line_read, line_too_long, still_decided}
use Rattle.history_check.proofs.EndLemmas.{comes_whole, decided_all, one_too_many}

-- ---- what was read

-- one line more tells so much more of the history
pub history_more : (before : List TextLine) (said : TextLine) → history_of (before ++ said ∷ []) ≡ history_of before ++ said_by said
history_more before said =
    flat_map-append said_by before (said ∷ []) ∙ ap (λ (l : _). history_of before ++ l) (append-nil (said_by said))

behind_more : {X : Type 0} (behind : ℕ → X → TextLine → X) (number : ℕ) (x : X) (lines : List TextLine) (line : TextLine)
    → behind_all behind number x (lines ++ line ∷ []) ≡ behind (number + length lines) (behind_all behind number x lines) line
behind_more behind number x [] line = ap (λ (n : ℕ). behind n x line) (omega arith)
behind_more behind number x (first ∷ lines) line =
    let count : (number + 1) + length lines ≡ number + length (first ∷ lines) = omega arith in
    behind_more behind (number + 1) (behind number x first) lines line
    ∙ ap (λ (n : ℕ). behind n (behind_all behind (number + 1) (behind number x first) lines) line) count

asked_by : (opened : Option OpenRequest)
    → option_map (λ (o : OpenRequest). o.request.action) opened ≡ option_map (λ (s : Sending). s.request.action) (option_map sending_of opened)
asked_by None = refl
asked_by (Some opened) = refl

-- what is open is that which the lines leave open
pub asked : (runs : Bool) (judge : HistoryJudge) (before : List TextLine) → Knows runs judge (history_of before)
    → requested_in judge ≡ requested_after before
asked runs judge before knows =
    let at : (id : ℕ) → requested_in judge id ≡ requested_after before id =
    λ id. asked_by (open_in judge id) ∙ ap (λ s. option_map (λ (one : Sending). one.request.action) s) (knows.known.opens id) in
    λ i. λ id. at id i

-- ---- the line at hand

-- it was read
pub line_passed : (judging : Judging) (old mid new : HistoryCheck) (before : List TextLine) (said : TextLine) (number : ℕ)
    → HasRead judging old before → mid.judging ≡ old.judging → mid.waits.items ≡ old.waits.items → mid.numbers.items ≡ old.numbers.items
    → keeps_order mid.judge ≡ keeps_order old.judge
    → Knows judging.runs mid.judge (history_of before ++ said_by said) → Passes mid new number said → number ≡ old.before + 1
    → HasRead judging new (before ++ said ∷ [])
line_passed judging old mid new before said number read same waits numbers keeps knows passes is =
    let one = length-append before (said ∷ []) in
    let next : old.before + 1 ≡ 1 + length before = omega (arith, read.counted) in record {
      is_judging = passes.judging ∙ same ∙ read.is_judging;
      knows = subst (λ (j : HistoryJudge). Knows judging.runs j (history_of (before ++ said ∷ []))) (sym passes.judge)
          (subst (λ (l : _). Knows judging.runs mid.judge l) (sym (history_more before said)) knows);
      counted = omega (arith, passes.before, is, read.counted, one);
      waits = passes.waits ∙ ap (λ (l : List OpenWait). waits_behind number l said) (waits ∙ read.waits)
          ∙ ap (λ (n : ℕ). waits_behind n (waits_after before) said) (is ∙ next) ∙ sym (behind_more waits_behind 1 [] before said);
      keeps = λ on. ap keeps_order passes.judge ∙ keeps ∙ read.keeps on;
      numbers = λ on.
          passes.numbers (ap (λ (j : Judging). j.order) (same ∙ read.is_judging) ∙ on)
          ∙ ap (λ (l : List ℕ). numbers_behind number l said) (numbers ∙ read.numbers on)
          ∙ ap (λ (n : ℕ). numbers_behind n (numbers_after before) said) (is ∙ next) ∙ sym (behind_more numbers_behind 1 [] before said);
    }

says_same : (runs : Bool) (judge : HistoryJudge) (before : List TextLine) (line : List ℕ) (said : Result TextLine Cause) → Knows runs judge (history_of before)
    → LineGives (requested_in judge) line said → LineGives (requested_after before) line said
says_same runs judge before line said knows gives =
    subst (λ (requested : ℕ → Option Action). LineGives requested line said) (asked runs judge before knows) gives

-- what is known of that is known of what the line says
pub known_by : (runs : Bool) (judge : HistoryJudge) (before : List TextLine) (said that : TextLine) → said ≡ that
    → Knows runs judge (history_of before ++ said_by that) → Knows runs judge (history_of before ++ said_by said)
known_by runs judge before said that is knows = subst (λ (s : TextLine). Knows runs judge (history_of before ++ said_by s)) (sym is) knows

-- nothing more is known by a line that is skipped
pub known_still : (runs : Bool) (judge : HistoryJudge) (before : List TextLine) (said : TextLine) → said ≡ texts.Skipped
    → Knows runs judge (history_of before) → Knows runs judge (history_of before ++ said_by said)
known_still runs judge before said is knows =
    known_by runs judge before said texts.Skipped is (subst (λ (l : _). Knows runs judge l) (sym (append-nil (history_of before))) knows)

-- so it was judged
pub line_said : (judging : Judging) (old mid new : HistoryCheck) (before : List TextLine) (said : TextLine) (number : ℕ)
    → HasRead judging old before → LineGives (requested_in old.judge) old.line.items (Ok said) → mid.judging ≡ old.judging
    → mid.waits.items ≡ old.waits.items → mid.numbers.items ≡ old.numbers.items → keeps_order mid.judge ≡ keeps_order old.judge
    → mid.found ≡ None → Knows judging.runs mid.judge (history_of before ++ said_by said)
    → Passes mid new number said → number ≡ old.before + 1 → Judges judging old new before
unfolding Judges
line_said judging old mid new before said number read gives same waits numbers keeps unfound knows passes is =
    subst (λ (f : Option Finding). IsFoundAt judging new before old.line.items f) (sym (passes.found ∙ unfound)) (
      said,
      says_same judging.runs old.judge before old.line.items (Ok said) read.knows gives,
      line_passed judging old mid new before said number read same waits numbers keeps knows passes is,
      passes.line,
    )

-- its answer isn't possible
pub line_refused : (judging : Judging) (old new : HistoryCheck) (before : List TextLine) (id : ℕ) (told : Answer)
    → HasRead judging old before → LineGives (requested_in old.judge) old.line.items (Ok (texts.Answered id told))
    → Refuses old.judge (Answered id told) → new.before ≡ old.before → new.found ≡ Some (findings.Illegal told) → Judges judging old new before
unfolding Judges
line_refused judging old new before id told read gives refuses count found =
    subst (λ (f : Option Finding). IsFoundAt judging new before old.line.items f) (sym found)
    (λ extent others. (
      Ok (texts.Answered id told),
      says_same judging.runs old.judge before old.line.items (Ok (texts.Answered id told)) read.knows gives,
      inr (
        λ legal. (refuses judging.runs (history_of before) read.knows).behind
            (subst (λ (l : _). IsLegal judging.runs l) (history_more before (texts.Answered id told)) legal),
        ap (λ (n : ℕ). Illegal (n + 1) told) (count ∙ read.counted),
      ),
    ))

-- it is none of a history
pub line_faulty : (judging : Judging) (old new : HistoryCheck) (before : List TextLine) (cause : Cause)
    → HasRead judging old before → LineGives (requested_in old.judge) old.line.items (Err cause)
    → new.before ≡ old.before → new.found ≡ Some (findings.Faulty cause) → Judges judging old new before
unfolding Judges
line_faulty judging old new before cause read gives count found =
    subst (λ (f : Option Finding). IsFoundAt judging new before old.line.items f) (sym found)
    (λ extent others. (
      Err cause,
      says_same judging.runs old.judge before old.line.items (Err cause) read.knows gives,
      ap (λ (n : ℕ). Faulty (record { line = n + 1; cause = cause })) (count ∙ read.counted),
    ))

-- ---- the bytes

-- none came
pub fresh : (judging : Judging) (check : HistoryCheck) → check.judging ≡ judging → Knows judging.runs check.judge [] → check.waits.items ≡ []
    → (judging.order ≡ true → keeps_order check.judge ≡ true) → check.numbers.items ≡ [] → check.line.items ≡ [] → check.before ≡ 0 → check.found ≡ None → HasChecked judging check []
unfolding HasChecked
fresh judging check is knows no_waits keeps no_numbers none first unfound =
    subst (IsFoundOf judging check []) (sym unfound)
    (record {
      before = [];
      read = record { is_judging = is; knows = knows; counted = first; waits = no_waits; keeps = keeps; numbers = λ on. no_numbers };
      leads = subst (LeadsTo judging [] []) (sym none) (λ extent rest verdict come. come);
      in_line = subst InLine (sym none) (λ k d below. absurd (omega (arith, below)));
      short = subst (λ (l : List ℕ). length l ≤ line_limit) (sym none) (omega arith);
    })

-- where nothing was found the lines before the one at hand were read
pub read_of : (judging : Judging) (check : HistoryCheck) (bytes : List ℕ) → check.found ≡ None → HasChecked judging check bytes
    → HasReadBytes judging check bytes
unfolding HasChecked
read_of judging check bytes unfound is = subst (IsFoundOf judging check bytes) unfound is

-- what the line that ends was found to be is so of the bytes
ends_by : (judging : Judging) (old new : HistoryCheck) (bytes : List ℕ) (read : HasReadBytes judging old bytes) (found : Option Finding)
    → IsFoundAt judging new read.before old.line.items found → IsFoundOf judging new (bytes ++ 10 ∷ []) found
ends_by judging old new bytes read None is =
    let legal = is.2.knows.known.legal in record {
      before = read.before ++ is.0 ∷ [];
      read = is.2;
      leads = subst (LeadsTo judging (bytes ++ 10 ∷ []) (read.before ++ is.0 ∷ [])) (sym is.3)
          (line_read judging bytes old.line.items read.before is.0 read.in_line read.leads is.1 legal);
      in_line = subst InLine (sym is.3) (λ k d below. absurd (omega (arith, below)));
      short = subst (λ (l : List ℕ). length l ≤ line_limit) (sym is.3) (omega arith);
    }
ends_by judging old new bytes read (Some finding) is =
    line_decides judging bytes old.line.items read.before (verdict_of new finding) read.in_line read.leads is

-- a line feed
pub ended : (judging : Judging) (old new : HistoryCheck) (bytes : List ℕ) → old.found ≡ None → HasChecked judging old bytes
    → ((before : List TextLine) → HasRead judging old before → Judges judging old new before) → HasChecked judging new (bytes ++ 10 ∷ [])
unfolding HasChecked Judges
ended judging old new bytes unfound checked judged =
    let read = read_of judging old bytes unfound checked in
    ends_by judging old new bytes read new.found (judged read.before read.read)

-- another byte
pub grown : (judging : Judging) (old new : HistoryCheck) (bytes : List ℕ) (byte : ℕ) → old.found ≡ None → HasChecked judging old bytes
    → (byte == 10) ≡ false → length old.line.items < line_limit → new.judging ≡ old.judging → new.judge ≡ old.judge → new.waits ≡ old.waits
    → new.numbers ≡ old.numbers → new.before ≡ old.before → new.found ≡ old.found → new.line.items ≡ old.line.items ++ byte ∷ [] → HasChecked judging new (bytes ++ byte ∷ [])
unfolding HasChecked
grown judging old new bytes byte unfound checked goes short same judge waits numbers count still longer =
    let read = read_of judging old bytes unfound checked in
    let before = read.read in
    subst (IsFoundOf judging new (bytes ++ byte ∷ [])) (sym (still ∙ unfound))
    (record {
      before = read.before;
      read = record {
        is_judging = same ∙ before.is_judging;
        knows = subst (λ (j : HistoryJudge). Knows judging.runs j (history_of read.before)) (sym judge) before.knows;
        counted = count ∙ before.counted;
        waits = ap (λ w. w.items) waits ∙ before.waits;
        keeps = λ on. ap keeps_order judge ∙ before.keeps on;
        numbers = λ on. ap (λ w. w.items) numbers ∙ before.numbers on;
      };
      leads = subst (LeadsTo judging (bytes ++ byte ∷ []) read.before) (sym longer) (line_grows judging bytes old.line.items byte read.before read.leads);
      in_line = subst InLine (sym longer) (All-push (λ (b : ℕ). (b == 10) ≡ false) old.line.items byte read.in_line goes);
      short = let is = length-append old.line.items (byte ∷ []) in
          subst (λ (l : List ℕ). length l ≤ line_limit) (sym longer) (omega (arith, is, short));
    })

-- one with which the line is too long
pub outgrown : (judging : Judging) (old new : HistoryCheck) (bytes : List ℕ) (byte : ℕ) → old.found ≡ None → HasChecked judging old bytes
    → (byte == 10) ≡ false → line_limit ≤ length old.line.items → new.before ≡ old.before → new.found ≡ Some (findings.Faulty TooLong)
    → HasChecked judging new (bytes ++ byte ∷ [])
unfolding HasChecked
outgrown judging old new bytes byte unfound checked goes long count found =
    let read = read_of judging old bytes unfound checked in
    subst (IsFoundOf judging new (bytes ++ byte ∷ [])) (sym found)
    (λ extent rest. subst (λ (n : ℕ). BytesCome judging extent ((bytes ++ byte ∷ []) ++ rest) (Faulty (record { line = n + 1; cause = TooLong })))
    (sym (count ∙ read.read.counted))
    (line_too_long judging bytes old.line.items byte read.before read.in_line goes long read.leads extent rest))

still_found : (judging : Judging) (check : HistoryCheck) (bytes more : List ℕ) (found : Option Finding) → is_some found ≡ true
    → IsFoundOf judging check bytes found → IsFoundOf judging check (bytes ++ more) found
still_found judging check bytes more None some is = absurd (cc)
still_found judging check bytes more (Some finding) some is = still_decided judging bytes more (verdict_of check finding) is

-- what was found stays
pub still : (judging : Judging) (check : HistoryCheck) (bytes more : List ℕ) → is_some check.found ≡ true → HasChecked judging check bytes
    → HasChecked judging check (bytes ++ more)
unfolding HasChecked
still judging check bytes more some checked = still_found judging check bytes more check.found some checked

-- the limit is reached behind what was read
pub limited : (judging : Judging) (check : HistoryCheck) (bytes : List ℕ) → check.found ≡ None → HasChecked judging check bytes
    → Exceeds check.judge check.judging.limit → (rest : List ℕ) → IsLimited judging (bytes ++ rest)
limited judging check bytes unfound checked exceeds rest =
    let read = read_of judging check bytes unfound checked in record {
      before = read.before;
      rest = lines_told Whole (check.line.items ++ rest);
      leads = λ verdict come. read.leads Whole rest verdict come;
      judge = check.judge;
      knows = read.read.knows;
      exceeds = subst (λ (j : Judging). Exceeds check.judge j.limit) read.read.is_judging exceeds;
    }

-- ---- whether it is decided

decided_by : (judging : Judging) (check : HistoryCheck) (bytes : List ℕ) (found : Option Finding) → is_some found ≡ true
    → length bytes ≤ history_limit → IsFoundOf judging check bytes found → AreJudged judging bytes (verdict_at check found)
decided_by judging check bytes None some short is = absurd (cc)
decided_by judging check bytes (Some finding) some short is = decided_all judging bytes (verdict_of check finding) short is

-- what was found decides
pub is_decided : (judging : Judging) (check : HistoryCheck) (bytes : List ℕ) → is_some check.found ≡ true → length bytes ≤ history_limit
    → HasChecked judging check bytes → AreJudged judging bytes (verdict_at check check.found)
unfolding HasChecked
is_decided judging check bytes some short checked = decided_by judging check bytes check.found some short checked

unfound_of : (found : Option Finding) → is_some found ≡ false → found ≡ None
unfound_of None none = refl
unfound_of (Some finding) none = absurd (cc)

-- nothing was found
pub is_unfound : (check : HistoryCheck) → is_some check.found ≡ false → check.found ≡ None
is_unfound check none = unfound_of check.found none

-- and still does where a byte more comes
pub is_decided_before : (judging : Judging) (check : HistoryCheck) (bytes : List ℕ) (byte : ℕ) → is_some check.found ≡ true
    → length bytes ≡ history_limit → HasChecked judging check bytes → AreJudged judging (bytes ++ byte ∷ []) (verdict_at check check.found)
is_decided_before judging check bytes byte some full checked =
    let short : length bytes ≤ history_limit = omega (arith, full) in
    let judged = is_decided judging check bytes some short checked in
    λ rest. subst (λ (l : List ℕ). HistoryComes judging l (verdict_at check check.found)) (sym (append_assoc bytes (byte ∷ []) rest)) (judged (byte ∷ rest))

-- where nothing was found of as many bytes as a history may have, one more makes it too long
pub is_too_long : (judging : Judging) (old new : HistoryCheck) (bytes : List ℕ) (byte : ℕ) → is_some old.found ≡ false
    → new.found ≡ Some findings.TooLong → length bytes ≡ history_limit → HasChecked judging old bytes
    → AreJudged judging (bytes ++ byte ∷ []) (verdict_at new new.found)
is_too_long judging old new bytes byte none found full checked =
    let read = read_of judging old bytes (is_unfound old none) checked in
    subst (λ (f : Option Finding). AreJudged judging (bytes ++ byte ∷ []) (verdict_at new f)) (sym found)
    (one_too_many judging bytes old.line.items byte read.before full read.in_line read.short read.leads)

-- ---- the end

found_at_end : (judging : Judging) (check : HistoryCheck) (bytes : List ℕ) (found : Option Finding) → is_some found ≡ true
    → IsFoundOf judging check bytes found → AreLinesRead judging check bytes found
found_at_end judging check bytes None some is = absurd (cc)
found_at_end judging check bytes (Some finding) some is =
    subst (λ (l : List ℕ). BytesCome judging Whole l (verdict_of check finding)) (append-nil bytes) (is Whole [])

-- what was found decides
pub found_before : (judging : Judging) (check : HistoryCheck) (bytes : List ℕ) → is_some check.found ≡ true → HasChecked judging check bytes
    → HasReadLines judging check bytes
unfolding HasChecked HasReadLines
found_before judging check bytes some checked = found_at_end judging check bytes check.found some checked

-- no byte is at hand
pub no_last_line : (judging : Judging) (check : HistoryCheck) (bytes : List ℕ) → check.found ≡ None → check.line.items ≡ []
    → HasChecked judging check bytes → HasReadLines judging check bytes
unfolding HasReadLines
no_last_line judging check bytes unfound none checked =
    let read = read_of judging check bytes unfound checked in
    subst (AreLinesRead judging check bytes) (sym unfound) (
      read.before,
      read.read,
      λ verdict come. end_leads judging bytes check.line.items read.before verdict none read.leads come,
    )

last_by : (judging : Judging) (old new : HistoryCheck) (bytes : List ℕ) (read : HasReadBytes judging old bytes) (found : Option Finding)
    → 0 < length old.line.items → IsFoundAt judging new read.before old.line.items found → AreLinesRead judging new bytes found
last_by judging old new bytes read None some is =
    let legal = is.2.knows.known.legal in (
      read.before ++ is.0 ∷ [],
      is.2,
      λ verdict come. last_leads judging bytes old.line.items read.before verdict read.in_line some read.leads (Ok is.0, is.1, inl (legal, come)),
    )
last_by judging old new bytes read (Some finding) some is =
    last_leads judging bytes old.line.items read.before (verdict_of new finding) read.in_line some read.leads (is Whole [])

-- what is at hand is the last line
pub last_line : (judging : Judging) (old new : HistoryCheck) (bytes : List ℕ) → old.found ≡ None → 0 < length old.line.items
    → HasChecked judging old bytes → ((before : List TextLine) → HasRead judging old before → Judges judging old new before)
    → HasReadLines judging new bytes
unfolding HasReadLines Judges
last_line judging old new bytes unfound some checked judged =
    let read = read_of judging old bytes unfound checked in
    last_by judging old new bytes read new.found some (judged read.before read.read)

-- ---- the verdict

judged_by : (judging : Judging) (check : HistoryCheck) (bytes : List ℕ) (found : Option Finding) → is_some found ≡ true
    → length bytes ≤ history_limit → AreLinesRead judging check bytes found → HasJudged judging (record check { found = found }) bytes
judged_by judging check bytes None some short is = absurd (cc)
judged_by judging check bytes (Some finding) some short is = comes_whole judging bytes (verdict_of check finding) short is

-- what was found is the verdict
pub judged_before : (judging : Judging) (check : HistoryCheck) (bytes : List ℕ) → is_some check.found ≡ true → length bytes ≤ history_limit
    → HasReadLines judging check bytes → HasJudged judging check bytes
unfolding HasReadLines
judged_before judging check bytes some short read = judged_by judging check bytes check.found some short read

-- what the end of the lines comes to is the verdict, where nothing was found before it
pub judged_at_end : (judging : Judging) (check last : HistoryCheck) (bytes : List ℕ) (verdict : Verdict) → check.found ≡ None
    → length bytes ≤ history_limit → verdict_at last last.found ≡ verdict → HasReadLines judging check bytes
    → ((before : List TextLine) → HasRead judging check before → EndComes judging before verdict) → HasJudged judging last bytes
unfolding HasReadLines
judged_at_end judging check last bytes verdict unfound short is read ends =
    let lines = subst (AreLinesRead judging check bytes) unfound read in
    subst (λ (v : Verdict). HistoryComes judging bytes v) (sym is) (comes_whole judging bytes verdict short (lines.2 verdict (ends lines.0 lines.1)))

-- what is told to be so is so
pub told_so : {P : Type 0} (told : Bool) → told ≡ true → IsTrue told ↔ P → P
told_so told is iff = iff.0 is

-- and what isn't isn't
pub not_told : {P : Type 0} (told : Bool) → told ≡ false → IsTrue told ↔ P → P → ⊥
not_told told is iff = λ p. let so = iff.1 p in absurd (cc)

-- what was found is no order
found_no_order : (judging : Judging) (check : HistoryCheck) (finding : Finding) → IsSound judging (verdict_of check finding)
found_no_order judging check (findings.Illegal answer) = tt
found_no_order judging check (findings.Faulty cause) = tt
found_no_order judging check findings.LostWakeUps = tt
found_no_order judging check findings.TooLong = tt

pub found_sound : (judging : Judging) (check : HistoryCheck) (found : Option Finding) → is_some found ≡ true → IsSound judging (verdict_at check found)
found_sound judging check None some = absurd (cc)
found_sound judging check (Some finding) some = found_no_order judging check finding

-- by which line of the text something is told changes no lock
still_leaves : (numbers : List ℕ) (locks : ℕ → FileLocks) (order : List FileHappening) (last : ℕ → FileLocks) → Leave locks order last
    → Leave locks (map (by_number numbers) order) last
still_leaves numbers locks [] last leave = leave
still_leaves numbers locks (happening ∷ order) last leave = (
  leave.0,
  record { may_do = leave.1.may_do; others = leave.1.others },
  still_leaves numbers leave.0 order last leave.2,
)

ordered_sound : (judging : Judging) (before : List TextLine) (verdict : Verdict) → judging.order ≡ true → OrderComes judging before verdict → IsSound judging verdict
ordered_sound judging before verdict on comes =
    subst (IsSound judging) (sym comes.2)
    (on, ((λ file. (comes.1.last file).locks), still_leaves (numbers_after before) no_locks comes.0 (λ file. (comes.1.last file).locks) comes.1.leave))

-- what a legal history comes to is an order where one is asked for
pub legal_sound : (judging : Judging) (before : List TextLine) (verdict : Verdict) → LegalComes judging before verdict → IsSound judging verdict
legal_sound judging before verdict legal = elim (cases_Bool judging.order) [
  | inl on ↦ ordered_sound judging before verdict on
      (subst (λ (b : Bool). MatchBool b (OrderComes judging before verdict) (verdict ≡ Legal)) on legal)
  | inr off ↦
      let is : verdict ≡ Legal = subst (λ (b : Bool). MatchBool b (OrderComes judging before verdict) (verdict ≡ Legal)) off legal in
      subst (IsSound judging) (sym is) tt
]

-- so it is at the end
pub sound_at_end : (judging : Judging) (check : HistoryCheck) (bytes : List ℕ) (verdict : Verdict) → check.found ≡ None → HasReadLines judging check bytes
    → ((before : List TextLine) → HasRead judging check before → LegalComes judging before verdict) → IsSound judging verdict
unfolding HasReadLines
sound_at_end judging check bytes verdict unfound read legal =
    let lines = subst (AreLinesRead judging check bytes) unfound read in
    legal_sound judging lines.0 verdict (legal lines.0 lines.1)

-- a legal history, of which no order is asked for
pub legal_unordered : (judging : Judging) (check : HistoryCheck) (before : List TextLine) → check.judging.order ≡ false → HasRead judging check before
    → LegalComes judging before Legal
legal_unordered judging check before off read =
    let is : judging.order ≡ false = ap (λ (j : Judging). j.order) (sym read.is_judging) ∙ off in rw is refl

-- or one is
pub legal_ordered : (judging : Judging) (check : HistoryCheck) (before : List TextLine) (verdict : Verdict) → check.judging.order ≡ true
    → HasRead judging check before → (judging.order ≡ true → OrderComes judging before verdict) → LegalComes judging before verdict
legal_ordered judging check before verdict on read comes =
    let is : judging.order ≡ true = ap (λ (j : Judging). j.order) (sym read.is_judging) ∙ on in
    let order = comes is in
    rw is order

-- what the judge told is an order of the lines
pub order_told : (judging : Judging) (check : HistoryCheck) (before : List TextLine) (order told : List FileHappening) → IsLeft judging.runs (history_of before) order
    → told ≡ map (by_number check.numbers.items) order → judging.order ≡ true → HasRead judging check before → OrderComes judging before (Ordered told)
order_told judging check before order told left is on read =
    (order, left, ap (λ t. Ordered t) (is ∙ ap (λ n. map (by_number n) order) (read.numbers on)))

-- where the end is asked for nothing it is legal
pub ends_unasked : (judging : Judging) (check : HistoryCheck) (before : List TextLine) (verdict : Verdict) → check.judging.open_waits ≡ false
    → LegalComes judging before verdict → HasRead judging check before → EndComes judging before verdict
ends_unasked judging check before verdict off legal read =
    let is : judging.open_waits ≡ false = ap (λ (j : Judging). j.open_waits) (sym read.is_judging) ∙ off in rw is legal

-- and where each open wait may wait still
pub ends_waiting : (judging : Judging) (check : HistoryCheck) (before : List TextLine) (verdict : Verdict) → check.judging.open_waits ≡ true
    → MayEnd judging.runs (history_of before) → LegalComes judging before verdict → HasRead judging check before → EndComes judging before verdict
ends_waiting judging check before verdict on may legal read =
    let is : judging.open_waits ≡ true = ap (λ (j : Judging). j.open_waits) (sym read.is_judging) ∙ on in rw is (inl (may, legal))

-- or else these waits are told
pub ends_lost : (judging : Judging) (check : HistoryCheck) (before : List TextLine) → check.judging.open_waits ≡ true
    → (MayEnd judging.runs (history_of before) → ⊥) → HasRead judging check before → EndComes judging before (LostWakeUps check.waits.items)
ends_lost judging check before on lost read =
    let is : judging.open_waits ≡ true = ap (λ (j : Judging). j.open_waits) (sym read.is_judging) ∙ on in
    rw is (inr (lost, ap (λ (w : List OpenWait). LostWakeUps w) read.waits))

-- the limit is reached behind the last line
pub limited_at_end : (judging : Judging) (check : HistoryCheck) (bytes : List ℕ) → check.found ≡ None → HasReadLines judging check bytes
    → Exceeds check.judge check.judging.limit → IsLimited judging bytes
unfolding HasReadLines
limited_at_end judging check bytes unfound read exceeds =
    let lines = subst (AreLinesRead judging check bytes) unfound read in record {
      before = lines.0;
      rest = [];
      leads = lines.2;
      judge = check.judge;
      knows = lines.1.knows;
      exceeds = subst (λ (j : Judging). Exceeds check.judge j.limit) lines.1.is_judging exceeds;
    }

-- ---- several bytes

-- one more of them was judged
pub one_more : (judging : Judging) (old mid new : HistoryCheck) (bytes : List ℕ) (i byte : ℕ) → i < length bytes → byte ≡ get_or bytes i 0
    → ((front : List ℕ) → HasChecked judging old front → HasChecked judging mid (front ++ take i bytes))
    → ((front : List ℕ) → HasChecked judging mid front → HasChecked judging new (front ++ byte ∷ []))
    → (front : List ℕ) → HasChecked judging old front → HasChecked judging new (front ++ take (i + 1) bytes)
one_more judging old mid new bytes i byte below is so_far one front checked = grind (arith, common_steps, append_assoc, take_more)

-- the others change nothing once something was found
pub others_skipped : (judging : Judging) (check : HistoryCheck) (front bytes : List ℕ) (i : ℕ) → is_some check.found ≡ true
    → HasChecked judging check (front ++ take i bytes) → HasChecked judging check (front ++ bytes)
others_skipped judging check front bytes i some checked =
    let all = append_assoc front (take i bytes) (drop i bytes) ∙ ap (λ (l : List ℕ). front ++ l) (take-append-drop i bytes) in
    subst (λ (l : List ℕ). HasChecked judging check l) all (still judging check (front ++ take i bytes) (drop i bytes) some checked)

-- the limit is reached among these bytes
pub limit_among : (judging : Judging) (front bytes : List ℕ) (i : ℕ) (rest : List ℕ)
    → ((more : List ℕ) → IsLimited judging ((front ++ take i bytes) ++ more)) → IsLimited judging ((front ++ bytes) ++ rest)
limit_among judging front bytes i rest limit =
    let all : (front ++ take i bytes) ++ (drop i bytes ++ rest) ≡ (front ++ bytes) ++ rest =
    sym (append_assoc (front ++ take i bytes) (drop i bytes) rest)
    ∙ ap (λ (l : List ℕ). l ++ rest) (append_assoc front (take i bytes) (drop i bytes) ∙ ap (λ (l : List ℕ). front ++ l) (take-append-drop i bytes)) in
    subst (IsLimited judging) all (limit (drop i bytes ++ rest))

-- ---- where a call may have failed

-- a line feed
pub ended_where : {T E : Type 0} (result : Result T E) (judging : Judging) (old new : HistoryCheck) (bytes : List ℕ) (byte : ℕ) → byte ≡ 10
    → old.found ≡ None → HasChecked judging old bytes
    → ((before : List TextLine) → HasRead judging old before → OnOk result (Judges judging old new before))
    → OnOk result (HasChecked judging new (bytes ++ byte ∷ []))
ended_where (Ok done) judging old new bytes byte is unfound checked judged =
    subst (λ (b : ℕ). HasChecked judging new (bytes ++ b ∷ [])) (sym is) (ended judging old new bytes unfound checked judged)
ended_where (Err error) judging old new bytes byte is unfound checked judged = tt

-- the last line
pub last_line_where : {T E : Type 0} (result : Result T E) (judging : Judging) (old new : HistoryCheck) (bytes : List ℕ) → old.found ≡ None
    → 0 < length old.line.items → HasChecked judging old bytes
    → ((before : List TextLine) → HasRead judging old before → OnOk result (Judges judging old new before))
    → OnOk result (HasReadLines judging new bytes)
last_line_where (Ok done) judging old new bytes unfound some checked judged = last_line judging old new bytes unfound some checked judged
last_line_where (Err error) judging old new bytes unfound some checked judged = tt

-- a byte that isn't a line feed
pub goes_on : (byte : ℕ) → (byte ≡ 10 → ⊥) → (byte == 10) ≡ false
goes_on byte differs = grind (arith, common_steps, eqb_tells)
