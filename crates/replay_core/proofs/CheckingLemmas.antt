-- A journal, byte by byte: for `Checking::end`, `Checking::end_last_line`, `Checking::end_line` and others.
use Rattle.replay_core.proofs.Common.{rules, ◌≡◌, ◌<◌, ◌≤◌, ℕ, ◌+◌, ◌==◌, true, false, List, [], ◌∷◌, ◌++◌, Option, Some, None, Ok, Err, length, refl, sym, ap, subst, ◌∙◌, inl, inr, arith, append_assoc, append-nil, length-append, take, drop, take-append-drop, All, Result, is_some, common_steps, Cause, lines_of, journal_start, Finding, Verdict, HasChecked, LinesCome}
use Rattle.std.proofs.Common.{nat_lt, get_or, OnOk}
use Rattle.std.specs.List.{slice_split}
use Rattle.std.proofs.lemmas.Bool.{lt-ltb}
use Rattle.std.proofs.lemmas.Bool.Decides.{eqb_tells}
use Rattle.std.proofs.lemmas.List.{take_more}
use Rattle.std.proofs.lemmas.List.Elements.{All-push}
use Rattle.std.proofs.lemmas.List.Splits.{slice_split_none, slice_split_at}
use Rattle.script_core.specs.declared.place.JournalLine.{JournalLine}
use Rattle.script_core.specs.declared.script.Cause.TheVariants.{TooLong}
use Rattle.script_core.specs.declared.journal.JournalFault.{JournalFault}
use Rattle.script_core.specs.declared.journal.JournalFault.TheVariants as journal_faults
use Rattle.script_core.specs.declared.journal.JournalReader.{JournalReader}
use Rattle.script_core.specs.Words.{without_empty_end}
use Rattle.script_core.specs.EntryReading.{entry_limit}
use Rattle.script_core.specs.JournalReading.{JournalReading, JournalLineGives, MayGoOn, reading_behind}
use Rattle.script_core.specs.JournalView.{HasRead, Takes, Finishes, expected_in}
use Rattle.replay_core.specs.declared.checking.Finding.TheVariants as findings
use Rattle.replay_core.specs.declared.checking.Checking.{Checking}
use Rattle.replay_core.specs.Checks.{Illegal, Faulty, HasJudged, HasReadLines, Judges, LeadsTo, AreDecided, HasReadBytes, IsFoundOf, IsFoundAt, verdict_of, AreLinesRead, verdict_at_end}

-- no byte ends a line
abbrev pub InLine : List ℕ → Type 0
InLine bytes = All (λ byte. (byte == 10) ≡ false) bytes

-- ---- lines

-- what is split has a piece
piece_first : (bytes : List ℕ) → (piece : List ℕ) × (pieces : List (List ℕ)) × (slice_split (λ byte. byte == 10) bytes ≡ piece ∷ pieces)
piece_first [] = ([], [], refl)
piece_first (byte ∷ bytes) =
    let rest = piece_first bytes in
    elim (eqb_tells byte 10) [
      | inl ends ↦ ([], slice_split (λ b. b == 10) bytes, rw ends.0 refl)
      | inr goes ↦ (byte ∷ rest.0, rest.1, rw (goes.0, rest.2) refl)
    ]

keeps_first : (line piece : List ℕ) (pieces : List (List ℕ)) → without_empty_end (line ∷ piece ∷ pieces) ≡ line ∷ without_empty_end (piece ∷ pieces)
keeps_first [] piece pieces = refl
keeps_first (byte ∷ line) piece pieces = refl

-- a line that a line feed ends is the first
pub lines_first : (line rest : List ℕ) → InLine line → lines_of (line ++ 10 ∷ rest) ≡ line ∷ lines_of rest
lines_first line rest on =
    let next = piece_first rest in
    let split = slice_split_at (λ (byte : ℕ). byte == 10) line 10 rest on refl in
    ap without_empty_end (split ∙ ap (λ (l : List (List ℕ)). line ∷ l) next.2)
    ∙ keeps_first line next.0 next.1 ∙ ap (λ (l : List (List ℕ)). line ∷ without_empty_end l) (sym next.2)

keeps_only : (line : List ℕ) → 0 < length line → without_empty_end (line ∷ []) ≡ line ∷ []
keeps_only [] some = absurd (omega (arith, some))
keeps_only (byte ∷ line) some = refl

-- a line that nothing ends is the only one, where it isn't empty
only_line : (line : List ℕ) → InLine line → 0 < length line → lines_of line ≡ line ∷ []
only_line line on some = ap without_empty_end (slice_split_none (λ (byte : ℕ). byte == 10) line on) ∙ keeps_only line some

-- behind bytes that don't end it the first line begins with these
line_begins : (line rest : List ℕ) → InLine line → 0 < length line
    → (more : List ℕ) × (others : List (List ℕ)) × (lines_of (line ++ rest) ≡ (line ++ more) ∷ others)
line_begins line [] on some = ([], [], ap lines_of (append-nil line) ∙ only_line line on some ∙ ap (λ (l : List ℕ). l ∷ []) (sym (append-nil line)))
line_begins line (byte ∷ rest) on some = elim (eqb_tells byte 10) [
  | inl ends ↦ (
    [],
    lines_of rest,
    ap (λ (b : ℕ). lines_of (line ++ b ∷ rest)) ends.1 ∙ lines_first line rest on ∙ ap (λ (l : List ℕ). l ∷ lines_of rest) (sym (append-nil line)),
  )
  | inr goes ↦
      let longer : 0 < length (line ++ byte ∷ []) = let is = length-append line (byte ∷ []) in omega (arith, some, is) in
      let found = line_begins (line ++ byte ∷ []) rest (All-push (λ (b : ℕ). (b == 10) ≡ false) line byte on goes.0) longer in (
        byte ∷ found.0,
        found.1,
        ap lines_of (sym (append_assoc line (byte ∷ []) rest)) ∙ found.2 ∙ ap (λ (l : List ℕ). l ∷ found.1) (append_assoc line (byte ∷ []) found.0),
      )
]

-- ---- what lines come to

-- behind bytes with one more
behind_one : (bytes rest : List ℕ) (byte : ℕ) (verdict : Verdict) → LinesCome 1 journal_start (lines_of (bytes ++ byte ∷ rest)) verdict
    → LinesCome 1 journal_start (lines_of ((bytes ++ byte ∷ []) ++ rest)) verdict
behind_one bytes rest byte verdict come =
    subst (λ (l : List ℕ). LinesCome 1 journal_start (lines_of l) verdict) (sym (append_assoc bytes (byte ∷ []) rest)) come

-- the line that is read leads on
pub line_read : (bytes line : List ℕ) (number : ℕ) (reading : JournalReading) (said : JournalLine) → InLine line → LeadsTo bytes number reading line
    → JournalLineGives reading.place line (Ok said) → MayGoOn reading line said
    → LeadsTo (bytes ++ 10 ∷ []) (number + 1) (reading_behind reading line said) []
line_read bytes line number reading said on leads gives goes = search (rules, behind_one, lines_first)

-- what the line that ends comes to decides
pub line_decides : (bytes line : List ℕ) (number : ℕ) (reading : JournalReading) (verdict : Verdict) → InLine line → LeadsTo bytes number reading line
    → ((others : List (List ℕ)) → LinesCome number reading (line ∷ others) verdict) → AreDecided (bytes ++ 10 ∷ []) verdict
line_decides bytes line number reading verdict on leads come = search (rules, behind_one, lines_first)

-- the line grows
pub line_grows : (bytes line : List ℕ) (byte number : ℕ) (reading : JournalReading) → LeadsTo bytes number reading line
    → LeadsTo (bytes ++ byte ∷ []) number reading (line ++ byte ∷ [])
line_grows bytes line byte number reading leads = grind (arith, common_steps, behind_one, append_assoc)

long_line : (number : ℕ) (reading : JournalReading) (line : List ℕ) (others : List (List ℕ)) → entry_limit < length line
    → LinesCome number reading (line ∷ others) (Faulty (record { line = number; cause = TooLong }))
long_line number reading line others long =
    let is : nat_lt entry_limit (length line) ≡ true = lt-ltb entry_limit (length line) long in
    (Err TooLong, rw is refl, refl)

-- or it is too long then, whatever follows
pub line_too_long : (bytes line : List ℕ) (byte number : ℕ) (reading : JournalReading) → InLine line → (byte == 10) ≡ false
    → entry_limit ≤ length line → LeadsTo bytes number reading line
    → AreDecided (bytes ++ byte ∷ []) (Faulty (record { line = number; cause = TooLong }))
line_too_long bytes line byte number reading on goes long leads = λ rest.
    let is = length-append line (byte ∷ []) in
    let some : 0 < length (line ++ byte ∷ []) = omega (arith, is) in
    let first = line_begins (line ++ byte ∷ []) rest (All-push (λ (b : ℕ). (b == 10) ≡ false) line byte on goes) some in
    let more = length-append (line ++ byte ∷ []) first.0 in
    let longer : entry_limit < length ((line ++ byte ∷ []) ++ first.0) = omega (arith, is, more, long) in
    behind_one bytes rest byte _
    (leads (byte ∷ rest) _
    (subst (λ (l : List ℕ). LinesCome number reading (lines_of l) (Faulty (record { line = number; cause = TooLong }))) (append_assoc line (byte ∷ []) rest)
    (subst (λ (ls : List (List ℕ)). LinesCome number reading ls (Faulty (record { line = number; cause = TooLong }))) (sym first.2)
    (long_line number reading ((line ++ byte ∷ []) ++ first.0) first.1 longer))))

-- what was decided stays
pub still_decided : (bytes more : List ℕ) (verdict : Verdict) → AreDecided bytes verdict → AreDecided (bytes ++ more) verdict
still_decided bytes more verdict decided = λ rest.
    subst (λ (l : List ℕ). LinesCome 1 journal_start (lines_of l) verdict) (sym (append_assoc bytes more rest)) (decided (more ++ rest))

-- and at the end
pub decided_at_end : (bytes : List ℕ) (verdict : Verdict) → AreDecided bytes verdict → LinesCome 1 journal_start (lines_of bytes) verdict
decided_at_end bytes verdict decided = subst (λ (l : List ℕ). LinesCome 1 journal_start (lines_of l) verdict) (append-nil bytes) (decided [])

-- the bytes come to what the line at hand comes to as the last one
pub last_leads : (bytes line : List ℕ) (number : ℕ) (reading : JournalReading) (verdict : Verdict) → InLine line → 0 < length line
    → LeadsTo bytes number reading line → LinesCome number reading (line ∷ []) verdict → LinesCome 1 journal_start (lines_of bytes) verdict
last_leads bytes line number reading verdict on some leads come =
    subst (λ (l : List ℕ). LinesCome 1 journal_start (lines_of l) verdict) (append-nil bytes)
    (leads [] verdict
    (subst (λ (ls : List (List ℕ)). LinesCome number reading ls verdict) (sym (ap lines_of (append-nil line) ∙ only_line line on some)) come))

-- or to what their end comes to, where no byte is at hand
pub end_leads : (bytes line : List ℕ) (number : ℕ) (reading : JournalReading) (verdict : Verdict) → line ≡ [] → LeadsTo bytes number reading line
    → LinesCome number reading [] verdict → LinesCome 1 journal_start (lines_of bytes) verdict
end_leads bytes line number reading verdict none leads come =
    subst (λ (l : List ℕ). LinesCome 1 journal_start (lines_of l) verdict) (append-nil bytes)
    (leads [] verdict
    (subst (λ (l : List ℕ). LinesCome number reading (lines_of (l ++ [])) verdict) (sym none) come))

-- ---- the line at hand

-- it was read
pub line_taken : (old new : Checking) (reading : JournalReading) (line : List ℕ) → line ≡ old.line.items → Takes new.reader reading line (Ok tt)
    → new.line.items ≡ [] → new.before ≡ old.before + 1 → new.found ≡ None → Judges old new reading
unfolding Judges
line_taken old new reading line is takes cleared counted unfound = search (rules)

-- the journal may not go on with it
pub line_illegal : (old new : Checking) (reading : JournalReading) (line : List ℕ) → line ≡ old.line.items
    → Takes new.reader reading line (Err journal_faults.Illegal) → new.before ≡ old.before → new.found ≡ Some findings.Illegal → Judges old new reading
unfolding Judges
line_illegal old new reading line is takes counted found =
    subst (λ (l : List ℕ). IsFoundAt old new reading l new.found) is
    (subst (λ (f : Option Finding). IsFoundAt old new reading line f) (sym found)
    (λ others. (
      Ok takes.0,
      takes.1,
      inr (takes.2, (expected_in new.reader, takes.3, ap (λ (n : ℕ). Illegal (n + 1) (expected_in new.reader)) counted)),
    )))

-- it is none of a journal
pub line_faulty : (old new : Checking) (reading : JournalReading) (line : List ℕ) (cause : Cause) → line ≡ old.line.items
    → Takes new.reader reading line (Err (journal_faults.Grammar cause)) → new.before ≡ old.before → new.found ≡ Some (findings.Faulty cause)
    → Judges old new reading
unfolding Judges
line_faulty old new reading line cause is takes counted found = grind (arith, common_steps)

-- ---- the bytes

-- none came
pub fresh : (checking : Checking) → HasRead checking.reader journal_start → checking.line.items ≡ [] → checking.before ≡ 0 → checking.found ≡ None
    → HasChecked checking []
unfolding HasChecked
fresh checking read none first unfound = grind (arith, common_steps)

-- where nothing was found the lines before the one at hand were read
read_of : (checking : Checking) (bytes : List ℕ) (found : Option Finding) → found ≡ None → IsFoundOf checking bytes found → HasReadBytes checking bytes
read_of checking bytes found unfound is = subst (IsFoundOf checking bytes) unfound is

-- what the line that ends was found to be is so of the bytes
ends_by : (old new : Checking) (bytes : List ℕ) (read : HasReadBytes old bytes) (found : Option Finding)
    → IsFoundAt old new read.reading old.line.items found → IsFoundOf new (bytes ++ 10 ∷ []) found
ends_by old new bytes read None is = record {
  reading = reading_behind read.reading old.line.items is.0;
  read = is.3;
  leads = subst (λ (l : List ℕ). LeadsTo (bytes ++ 10 ∷ []) (new.before + 1) (reading_behind read.reading old.line.items is.0) l) (sym is.4)
      (subst (λ (n : ℕ). LeadsTo (bytes ++ 10 ∷ []) (n + 1) (reading_behind read.reading old.line.items is.0) []) (sym is.5)
      (line_read bytes old.line.items (old.before + 1) read.reading is.0 read.in_line read.leads is.1 is.2));
  in_line = subst InLine (sym is.4) (λ k d below. absurd (omega (arith, below)));
  short = subst (λ (l : List ℕ). length l ≤ entry_limit) (sym is.4) (omega arith);
}
ends_by old new bytes read (Some finding) is =
    line_decides bytes old.line.items (old.before + 1) read.reading (verdict_of new finding) read.in_line read.leads is

-- a line feed
pub ended : (old new : Checking) (bytes : List ℕ) → old.found ≡ None → HasChecked old bytes
    → ((reading : JournalReading) → HasRead old.reader reading → Judges old new reading) → HasChecked new (bytes ++ 10 ∷ [])
unfolding HasChecked Judges
ended old new bytes unfound checked judged = grind (arith, common_steps, read_of, ends_by)

-- another byte
pub grown : (old new : Checking) (bytes : List ℕ) (byte : ℕ) → old.found ≡ None → HasChecked old bytes → (byte == 10) ≡ false
    → length old.line.items < entry_limit → new.reader ≡ old.reader → new.before ≡ old.before → new.found ≡ old.found
    → new.line.items ≡ old.line.items ++ byte ∷ [] → HasChecked new (bytes ++ byte ∷ [])
unfolding HasChecked
grown old new bytes byte unfound checked goes short same count still longer =
    let read = read_of old bytes old.found unfound checked in
    subst (IsFoundOf new (bytes ++ byte ∷ [])) (sym (still ∙ unfound))
    (record {
      reading = read.reading;
      read = subst (λ (r : JournalReader). HasRead r read.reading) (sym same) read.read;
      leads = subst (λ (n : ℕ). LeadsTo (bytes ++ byte ∷ []) (n + 1) read.reading new.line.items) (sym count)
          (subst (λ (l : List ℕ). LeadsTo (bytes ++ byte ∷ []) (old.before + 1) read.reading l) (sym longer)
          (line_grows bytes old.line.items byte (old.before + 1) read.reading read.leads));
      in_line = subst InLine (sym longer) (All-push (λ (b : ℕ). (b == 10) ≡ false) old.line.items byte read.in_line goes);
      short = let is = length-append old.line.items (byte ∷ []) in
          subst (λ (l : List ℕ). length l ≤ entry_limit) (sym longer) (omega (arith, is, short));
    })

-- one with which the line is too long
pub outgrown : (old new : Checking) (bytes : List ℕ) (byte : ℕ) → old.found ≡ None → HasChecked old bytes → (byte == 10) ≡ false
    → entry_limit ≤ length old.line.items → new.before ≡ old.before → new.found ≡ Some (findings.Faulty TooLong)
    → HasChecked new (bytes ++ byte ∷ [])
unfolding HasChecked
outgrown old new bytes byte unfound checked goes long count found =
    let read = read_of old bytes old.found unfound checked in
    subst (IsFoundOf new (bytes ++ byte ∷ [])) (sym found)
    (subst (λ (n : ℕ). AreDecided (bytes ++ byte ∷ []) (Faulty (record { line = n + 1; cause = TooLong }))) (sym count)
    (line_too_long bytes old.line.items byte (old.before + 1) read.reading read.in_line goes long read.leads))

still_found : (checking : Checking) (bytes more : List ℕ) (found : Option Finding) → is_some found ≡ true → IsFoundOf checking bytes found
    → IsFoundOf checking (bytes ++ more) found
still_found checking bytes more None some is = absurd (cc)
still_found checking bytes more (Some finding) some is = still_decided bytes more (verdict_of checking finding) is

-- what was found stays
pub still : (checking : Checking) (bytes more : List ℕ) → is_some checking.found ≡ true → HasChecked checking bytes
    → HasChecked checking (bytes ++ more)
unfolding HasChecked
still checking bytes more some checked = still_found checking bytes more checking.found some checked

-- ---- the end

found_at_end : (checking : Checking) (bytes : List ℕ) (found : Option Finding) → is_some found ≡ true → IsFoundOf checking bytes found
    → AreLinesRead checking bytes found
found_at_end checking bytes None some is = absurd (cc)
found_at_end checking bytes (Some finding) some is = decided_at_end bytes (verdict_of checking finding) is

-- what was found decides
pub found_before : (checking : Checking) (bytes : List ℕ) → is_some checking.found ≡ true → HasChecked checking bytes → HasReadLines checking bytes
unfolding HasChecked HasReadLines
found_before checking bytes some checked = found_at_end checking bytes checking.found some checked

-- no byte is at hand
pub no_last_line : (checking : Checking) (bytes : List ℕ) → checking.found ≡ None → checking.line.items ≡ [] → HasChecked checking bytes
    → HasReadLines checking bytes
unfolding HasChecked HasReadLines
no_last_line checking bytes unfound none checked =
    let read = read_of checking bytes checking.found unfound checked in
    subst (AreLinesRead checking bytes) (sym unfound) (
      read.reading,
      read.read,
      λ verdict come. end_leads bytes checking.line.items (checking.before + 1) read.reading verdict none read.leads come,
    )

last_by : (old new : Checking) (bytes : List ℕ) (read : HasReadBytes old bytes) (found : Option Finding) → 0 < length old.line.items
    → IsFoundAt old new read.reading old.line.items found → AreLinesRead new bytes found
last_by old new bytes read None some is = (
  reading_behind read.reading old.line.items is.0,
  is.3,
  λ verdict come. last_leads bytes old.line.items (old.before + 1) read.reading verdict read.in_line some read.leads
      (Ok is.0, is.1, inl (is.2, subst (λ (n : ℕ). LinesCome (n + 1) (reading_behind read.reading old.line.items is.0) [] verdict) is.5 come)),
)
last_by old new bytes read (Some finding) some is =
    last_leads bytes old.line.items (old.before + 1) read.reading (verdict_of new finding) read.in_line some read.leads (is [])

-- what is at hand is the last line
pub last_line : (old new : Checking) (bytes : List ℕ) → old.found ≡ None → 0 < length old.line.items → HasChecked old bytes
    → ((reading : JournalReading) → HasRead old.reader reading → Judges old new reading) → HasReadLines new bytes
unfolding HasChecked HasReadLines Judges
last_line old new bytes unfound some checked judged = grind (arith, common_steps, read_of, last_by)

decided_then : (checking : Checking) (bytes : List ℕ) (found : Option Finding) → is_some found ≡ true → AreLinesRead checking bytes found
    → LinesCome 1 journal_start (lines_of bytes) (verdict_at_end checking found)
decided_then checking bytes None some is = absurd (cc)
decided_then checking bytes (Some finding) some is = is

-- what was found is the verdict
pub judged_before : (checking : Checking) (bytes : List ℕ) → is_some checking.found ≡ true → HasReadLines checking bytes → HasJudged checking bytes
unfolding HasReadLines HasJudged
judged_before checking bytes some read = decided_then checking bytes checking.found some read

-- the journal may end there
pub may_end : (checking : Checking) (bytes : List ℕ) → checking.found ≡ None → HasReadLines checking bytes
    → ((reading : JournalReading) → HasRead checking.reader reading → Finishes checking.reader reading (Ok tt)) → HasJudged checking bytes
unfolding HasReadLines HasJudged
may_end checking bytes unfound read finishes = grind (arith, common_steps)

due_then : (old new : Checking) (reading : JournalReading) (fault : JournalFault) → new.reader ≡ old.reader → new.before ≡ old.before
    → Finishes old.reader reading (Err fault) → LinesCome (old.before + 1) reading [] (Illegal (new.before + 1) (expected_in new.reader))
due_then old new reading (journal_faults.Grammar cause) same count finishes = absurd finishes
due_then old new reading (journal_faults.Memory memory) same count finishes = absurd finishes
due_then old new reading journal_faults.Illegal same count finishes =
    inr (
      finishes.0,
      (
        expected_in old.reader,
        finishes.1,
        ap (λ (n : ℕ). Illegal (n + 1) (expected_in new.reader)) count ∙ ap (λ (r : JournalReader). Illegal (old.before + 1) (expected_in r)) same,
      ),
    )

-- or it may not
pub may_not_end : (old new : Checking) (bytes : List ℕ) (fault : JournalFault) → old.found ≡ None → HasReadLines old bytes
    → ((reading : JournalReading) → HasRead old.reader reading → Finishes old.reader reading (Err fault))
    → new.reader ≡ old.reader → new.before ≡ old.before → new.found ≡ Some findings.Illegal → HasJudged new bytes
unfolding HasReadLines HasJudged
may_not_end old new bytes fault unfound read finishes same count found = search (rules, due_then)

-- ---- several bytes

-- one more of them was checked
pub one_more : (old mid new : Checking) (bytes : List ℕ) (i byte : ℕ) → i < length bytes → byte ≡ get_or bytes i 0
    → ((front : List ℕ) → HasChecked old front → HasChecked mid (front ++ take i bytes))
    → ((front : List ℕ) → HasChecked mid front → HasChecked new (front ++ byte ∷ []))
    → (front : List ℕ) → HasChecked old front → HasChecked new (front ++ take (i + 1) bytes)
one_more old mid new bytes i byte below is so_far one front checked = grind (arith, common_steps, append_assoc, take_more)

-- the others change nothing once something was found
pub others_skipped : (checking : Checking) (front bytes : List ℕ) (i : ℕ) → is_some checking.found ≡ true → HasChecked checking (front ++ take i bytes)
    → HasChecked checking (front ++ bytes)
others_skipped checking front bytes i some checked =
    let all = append_assoc front (take i bytes) (drop i bytes) ∙ ap (λ (l : List ℕ). front ++ l) (take-append-drop i bytes) in
    subst (λ (l : List ℕ). HasChecked checking l) all (still checking (front ++ take i bytes) (drop i bytes) some checked)

-- ---- where a call may have failed

-- a line feed
pub ended_where : {T E : Type 0} (result : Result T E) (old new : Checking) (bytes : List ℕ) (byte : ℕ) → byte ≡ 10 → old.found ≡ None
    → HasChecked old bytes → ((reading : JournalReading) → HasRead old.reader reading → OnOk result (Judges old new reading))
    → OnOk result (HasChecked new (bytes ++ byte ∷ []))
ended_where result old new bytes byte h h2 h3 h4 = grind (arith, common_steps, ended)

-- the last line
pub last_line_where : {T E : Type 0} (result : Result T E) (old new : Checking) (bytes : List ℕ) → old.found ≡ None → 0 < length old.line.items
    → HasChecked old bytes → ((reading : JournalReading) → HasRead old.reader reading → OnOk result (Judges old new reading))
    → OnOk result (HasReadLines new bytes)
last_line_where (Ok done) old new bytes unfound some checked judged = last_line old new bytes unfound some checked judged
last_line_where (Err error) old new bytes unfound some checked judged = tt

-- a byte that isn't a line feed
pub goes_on : (byte : ℕ) → (byte ≡ 10 → ⊥) → (byte == 10) ≡ false
goes_on byte differs = grind (arith, common_steps, eqb_tells)

unfound_of : (found : Option Finding) → is_some found ≡ false → found ≡ None
unfound_of None none = refl
unfound_of (Some finding) none = absurd (cc)

-- nothing was found
pub is_unfound : (checking : Checking) → is_some checking.found ≡ false → checking.found ≡ None
is_unfound checking none = unfound_of checking.found none
