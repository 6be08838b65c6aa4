-- What is known of a whole history, line by line.
use Rattle.history_judge.proofs.Common.{inl, inr, ℕ, ◌≡◌, ◌≢◌, ◌∙◌, ◌==◌, sym, ap, refl, subst, arith, true, Bool, Option, Some, None, List, [], ◌∷◌, ◌++◌, eq-eqb, common_steps, cases_Bool, false≢true, BTreeMap, UpdatesBy, get, is_at, lookup, list_any, nat_cmp, option_map, if◌then◌else◌, Request, Answer, FileHistory, FileLine, beginning, Files, AreNamed, IsNamed, Sending, is_on, lines_of, none_open, open_behind, file_in, keeps_in, Answered, HistoryLine, Sent, beginnings}
use Rattle.std.proofs.Common.{◌↔◌}
use Rattle.std.proofs.Math.Logic.{∥∥₁_elim, ∥∥₁_map}
use mathlib.Core.HLevel.{⊥_prop}
use Rattle.std.proofs.lemmas.List.{append-nil}
use Rattle.std.specs.Prelude.{Err, fold, IfOk, IsErrAnd, IsTrue, Ok, Result}
use Rattle.history_core.specs.FileView.{has_open}
use Rattle.history_core.specs.Moments as one_file
use Rattle.history_core.proofs.LineLemmas.{open_reached}
use Rattle.history_judge.specs.declared.judge.HistoryJudge.{HistoryJudge}
use Rattle.history_judge.specs.declared.judge.OpenRequest.{OpenRequest}
use Rattle.history_judge.specs.Entries.{IsFreeOn}
use Rattle.history_judge.specs.Merging.{file_of, file_sent, files_from, files_of}
use Rattle.history_judge.specs.FilesApart.{open_after}
use Rattle.history_judge.specs.FilesView.{KeepsOn, TellsEnd, KnowsFile, runs_of, with_line}
use Rattle.history_judge.specs.FilesView as all_files
use Rattle.history_judge.specs.Histories.{IsIllegalAt, IsLegal, MayEnd}
use Rattle.history_core.specs.declared.search.SearchFault.{SearchFault}
use Rattle.history_core.specs.declared.search.SearchFault.TheVariants as searches
use Rattle.history_judge.specs.declared.fault.JudgeFault.{JudgeFault}
use Rattle.history_judge.specs.declared.fault.JudgeFault.TheVariants as faults
use Rattle.history_judge.specs.JudgeView.{Exceeds, Knows, judge_fault_of, keeps_order}
use Rattle.history_judge.specs.Known.{AreKnown, IsHistory, PutsRequest, sending_of}
use Rattle.history_judge.proofs.NameLemmas.{decide, neq-eqb}
use Rattle.history_judge.proofs.ApartLemmas.{Apart, Home, apart, home_answered, home_sent, named-append, opens-append}
use Rattle.history_judge.proofs.FilesLemmas.{is_at-other, line_here, line_off}
use Rattle.history_judge.proofs.MergeLemmas.{ends_apart, legal_apart, lines_more, named_first}

-- what is known of a file is legal
legal_file : (runs : Bool) (file : Option FileHistory) (lines : List FileLine) → KnowsFile runs file lines → one_file.IsLegal runs lines
legal_file runs None lines none = (beginning, record { moments = []; in_order = sym none; leads = refl })
legal_file runs (Some file) lines knows = knows.legal

-- so all lines are, where what is known is known of each file
legal_of : (runs : Bool) (files : Files) (lines : List HistoryLine) → AreNamed lines → all_files.Knows runs files (λ g. lines_of g lines) → IsLegal runs lines
legal_of runs files lines named knows = (legal_apart runs lines).1 (named, λ g. legal_file runs (file_in files g) (lines_of g lines) (knows.each g))

-- the lines of each file, with one line more
lines_with : (lines : List HistoryLine) (line : HistoryLine) (home : Home (open_after lines) line) (g : ℕ)
    → with_line (λ h. lines_of h lines) home.file home.here g ≡ lines_of g (lines ++ line ∷ [])
lines_with lines line home g = elim (decide g home.file) [
  | inl same ↦ subst (λ x. with_line (λ h. lines_of h lines) home.file home.here x ≡ lines_of x (lines ++ line ∷ [])) (sym same)
      (line_here (λ h. lines_of h lines) home.file home.here
      ∙ sym (lines_more home.file lines line ∙ ap (λ ls. lines_of home.file lines ++ ls) home.on))
  | inr off ↦ line_off (λ h. lines_of h lines) home.file home.here g off
      ∙ sym (lines_more g lines line ∙ ap (λ ls. lines_of g lines ++ ls) (home.off g off) ∙ append-nil (lines_of g lines))
]

-- one line more was read, on its file
known_line : (runs : Bool) (old new : Files) (before after : BTreeMap ℕ OpenRequest) (lines : List HistoryLine) (line : HistoryLine)
    (home : Home (open_after lines) line) → IsNamed (open_after lines) line → AreKnown runs old before lines → all_files.Takes old new home.file home.here
    → ((id : ℕ) → option_map sending_of (get nat_cmp after id) ≡ open_behind (open_after lines) line id) → AreKnown runs new after (lines ++ line ∷ [])
known_line runs old new before after lines line home named known takes opens =
    let files : all_files.Knows runs new (λ g. lines_of g (lines ++ line ∷ [])) =
    subst (all_files.Knows runs new) (λ i. λ g. lines_with lines line home g i) (takes runs (λ g. lines_of g lines) known.files_known) in
    let names = named-append none_open lines (line ∷ []) ((legal_apart runs lines).0 known.legal).0 (named, tt) in
    record {
      legal = legal_of runs new (lines ++ line ∷ []) names files;
      opens = λ id. opens id ∙ ap (λ o. o id) (sym (opens-append none_open lines (line ∷ [])));
      files_known = files;
    }

-- a `>` was read, by an ID that was free
pub known_sent : (runs : Bool) (old new : Files) (before after : BTreeMap ℕ OpenRequest) (lines : List HistoryLine) (number file : ℕ) (sent : Request)
    → get nat_cmp before sent.id ≡ None → all_files.Takes old new file (one_file.Sent sent)
    → PutsRequest before after sent.id (Some (record { line = number; file = file; request = sent })) → AreKnown runs old before lines
    → AreKnown runs new after (lines ++ Sent file sent ∷ [])
known_sent runs old new before after lines number file sent free takes puts known =
    known_line runs old new before after lines (Sent file sent) (home_sent (open_after lines) file sent)
    (sym (known.opens sent.id) ∙ ap (option_map sending_of) free) known takes
    (λ id. elim (decide id sent.id) [
      | inl same ↦ subst (λ i. option_map sending_of (get nat_cmp after i) ≡ Some (record { file = file; request = sent })) (sym same)
          (ap (option_map sending_of) puts.0)
          ∙ sym (ap (λ b. if b then Some (record { file = file; request = sent }) else open_after lines id) (eq-eqb id sent.id same))
      | inr differ ↦ ap (option_map sending_of) (puts.1 id differ) ∙ known.opens id
          ∙ sym (ap (λ b. if b then Some (record { file = file; request = sent }) else open_after lines id) (neq-eqb id sent.id differ))
    ])

-- an open request of the ID is one of the lines
open_there : (runs : Bool) (files : Files) (opened : BTreeMap ℕ OpenRequest) (lines : List HistoryLine) (id : ℕ) (sent : OpenRequest)
    → get nat_cmp opened id ≡ Some sent → AreKnown runs files opened lines → open_after lines id ≡ Some (sending_of sent)
open_there runs files opened lines id sent is known = sym (known.opens id) ∙ ap (option_map sending_of) is

-- a `<` was read, of a request that was open
pub known_answer : (runs : Bool) (old new : Files) (before after : BTreeMap ℕ OpenRequest) (lines : List HistoryLine) (id : ℕ) (sent : OpenRequest) (answer : Answer)
    → get nat_cmp before id ≡ Some sent → all_files.Takes old new sent.file (one_file.Answered id answer) → PutsRequest before after id None
    → AreKnown runs old before lines → AreKnown runs new after (lines ++ Answered id answer ∷ [])
known_answer runs old new before after lines id sent answer is takes puts known =
    let is_open = open_there runs old before lines id sent is known in
    known_line runs old new before after lines (Answered id answer)
    (home_answered (open_after lines) sent.file id answer (sending_of sent) is_open refl)
    (λ none. some_none (sending_of sent) (sym is_open ∙ none)) known takes
    (λ other. elim (decide other id) [
      | inl same ↦ subst (λ i. option_map sending_of (get nat_cmp after i) ≡ None) (sym same) (ap (option_map sending_of) puts.0)
          ∙ sym (ap (λ b. if b then None else open_after lines other) (eq-eqb other id same))
      | inr differ ↦ ap (option_map sending_of) (puts.1 other differ) ∙ known.opens other
          ∙ sym (ap (λ b. if b then None else open_after lines other) (neq-eqb other id differ))
    ])
  where
    some_none : (s : Sending) → (Some s ≡ None) → ⊥
    some_none s same = absurd (grind (arith, common_steps, same))

-- or isn't possible
pub refused_answer : (runs : Bool) (files : Files) (opened : BTreeMap ℕ OpenRequest) (lines : List HistoryLine) (id : ℕ) (sent : OpenRequest) (answer : Answer)
    → get nat_cmp opened id ≡ Some sent → all_files.Refuses files sent.file (one_file.Answered id answer) → AreKnown runs files opened lines
    → IsIllegalAt runs lines (Answered id answer)
refused_answer runs files opened lines id sent answer is refuses known =
    let is_open = open_there runs files opened lines id sent is known in
    let home = home_answered (open_after lines) sent.file id answer (sending_of sent) is_open refl in
    record {
      before = known.legal;
      behind = λ all. absurd (refuses runs (λ g. lines_of g lines) known.files_known
          (subst (one_file.IsLegal runs) (lines_more sent.file lines (Answered id answer) ∙ ap (λ ls. lines_of sent.file lines ++ ls) home.on)
          (((legal_apart runs (lines ++ Answered id answer ∷ [])).0 all).1 sent.file)));
    }

-- no line was read
pub known_still : (runs : Bool) (old new : Files) (before after : BTreeMap ℕ OpenRequest) (lines : List HistoryLine) → all_files.Stays old new
    → ((id : ℕ) → get nat_cmp after id ≡ get nat_cmp before id) → AreKnown runs old before lines → AreKnown runs new after lines
known_still runs old new before after lines stays same known = record {
  legal = known.legal;
  opens = λ id. ap (option_map sending_of) (same id) ∙ known.opens id;
  files_known = stays runs (λ g. lines_of g lines) known.files_known;
}

-- the file's lines leave the ID open just where the lines leave it open on the file
open_on : (runs : Bool) (lines : List HistoryLine) (g id : ℕ) → IsLegal runs lines
    → list_any (λ r. r.id == id) (one_file.open_after (lines_of g lines)) ≡ is_on (open_after lines id) g
open_on runs lines g id legal =
    let parts = subst (λ ls. Apart runs none_open beginnings ls legal.0) legal.1.in_order
    (apart runs none_open beginnings legal.1.moments legal.0 named_first legal.1.leads) in
    ap (list_any (λ r. r.id == id))
    (sym (open_reached runs (lines_of g lines) (legal.0 g)
    (record { moments = (parts.parts g).moments; in_order = (parts.parts g).in_order; leads = (parts.parts g).leads })))
    ∙ parts.still g id

-- a free ID is free on each file
pub free_on : (files : Files) (opened : BTreeMap ℕ OpenRequest) (file id : ℕ) → get nat_cmp opened id ≡ None → ∥ IsHistory files opened ∥₁
    → IsFreeOn (file_in files file) id
free_on files opened file id free history = go (file_in files file) refl
  where
    none : (h : FileHistory) → file_in files file ≡ Some h → IsHistory files opened → has_open h id ≡ true → ⊥
    none h is known open_there =
        let lines = known.0 in
        let knows = subst (λ f. KnowsFile (runs_of files) f (lines_of file lines)) is (known.1.files_known.each file) in
        let closed : open_after lines id ≡ None = sym (known.1.opens id) ∙ ap (option_map sending_of) free in
        absurd (false≢true (sym (ap (λ rs. list_any (λ r. r.id == id) rs) knows.still_open ∙ open_on (runs_of files) lines file id known.1.legal
        ∙ ap (λ s. is_on s file) closed) ∙ open_there))

    go : (f : Option FileHistory) → file_in files file ≡ f → IsFreeOn f id
    go None is = tt
    go (Some h) is = elim (cases_Bool (has_open h id)) [
      | inl there ↦ absurd (∥∥₁_elim history ⊥_prop (λ known. none h is known there))
      | inr not ↦ not
    ]

-- a request that is open is on a file that has an entry
pub entry_there : (files : Files) (opened : BTreeMap ℕ OpenRequest) (id : ℕ) (sent : OpenRequest) → get nat_cmp opened id ≡ Some sent
    → ∥ IsHistory files opened ∥₁ → file_in files sent.file ≢ None
entry_there files opened id sent is history none = ∥∥₁_elim history ⊥_prop (λ known.
    let lines = known.0 in
    let nothing : lines_of sent.file lines ≡ [] = subst (λ f. KnowsFile (runs_of files) f (lines_of sent.file lines)) none (known.1.files_known.each sent.file) in
    let is_open = open_there (runs_of files) files opened lines id sent is known.1 in
    false≢true (sym (ap (λ ls. list_any (λ r. r.id == id) (one_file.open_after ls)) nothing)
    ∙ open_on (runs_of files) lines sent.file id known.1.legal ∙ ap (λ s. is_on s sent.file) is_open ∙ eq-eqb sent.file sent.file refl))

-- a history goes on
pub history_sent : (old new : Files) (before after : BTreeMap ℕ OpenRequest) (number file : ℕ) (sent : Request) → get nat_cmp before sent.id ≡ None
    → runs_of new ≡ runs_of old → all_files.Takes old new file (one_file.Sent sent)
    → PutsRequest before after sent.id (Some (record { line = number; file = file; request = sent })) → ∥ IsHistory old before ∥₁ → ∥ IsHistory new after ∥₁
history_sent old new before after number file sent free runs takes puts history = ∥∥₁_map history (λ known. (
  known.0 ++ Sent file sent ∷ [],
  subst (λ r. AreKnown r new after (known.0 ++ Sent file sent ∷ [])) (sym runs)
      (known_sent (runs_of old) old new before after known.0 number file sent free takes puts known.1),
))

pub history_answer : (old new : Files) (before after : BTreeMap ℕ OpenRequest) (id : ℕ) (sent : OpenRequest) (answer : Answer) → get nat_cmp before id ≡ Some sent
    → runs_of new ≡ runs_of old → all_files.Takes old new sent.file (one_file.Answered id answer) → PutsRequest before after id None
    → ∥ IsHistory old before ∥₁ → ∥ IsHistory new after ∥₁
history_answer old new before after id sent answer is runs takes puts history = ∥∥₁_map history (λ known. (
  known.0 ++ Answered id answer ∷ [],
  subst (λ r. AreKnown r new after (known.0 ++ Answered id answer ∷ [])) (sym runs)
      (known_answer (runs_of old) old new before after known.0 id sent answer is takes puts known.1),
))

pub history_still : (old new : Files) (before after : BTreeMap ℕ OpenRequest) → runs_of new ≡ runs_of old → all_files.Stays old new
    → ((id : ℕ) → get nat_cmp after id ≡ get nat_cmp before id) → ∥ IsHistory old before ∥₁ → ∥ IsHistory new after ∥₁
history_still old new before after runs stays same history = ∥∥₁_map history (λ known. (
  known.0,
  subst (λ r. AreKnown r new after known.0) (sym runs) (known_still (runs_of old) old new before after known.0 stays same known.1),
))

-- nothing is known of no line
pub known_first : (runs : Bool) (files : Files) (opened : BTreeMap ℕ OpenRequest) → runs_of files ≡ runs → ((g : ℕ) → file_in files g ≡ None)
    → ((id : ℕ) → get nat_cmp opened id ≡ None) → AreKnown runs files opened []
known_first runs files opened is_runs none free = record {
  legal = (beginnings, record { moments = []; in_order = refl; leads = λ g. refl });
  opens = λ id. ap (option_map sending_of) (free id);
  files_known = record { is_runs = is_runs; each = λ g. subst (λ f. KnowsFile runs f []) (sym (none g)) refl; keep = λ g. subst (λ f. KeepsOn (keeps_in files) f) (sym (none g)) tt };
}

-- the limit
pub exceeds_there : (judge : HistoryJudge) (limit : ℕ) → all_files.Exceeds judge.files limit → Exceeds judge limit
exceeds_there judge limit exceeds = elim exceeds [
  | inl over ↦ inl over
  | inr more ↦ inr (more.0, λ runs lines knows. more.1 runs (λ g. lines_of g lines) knows.known.files_known)
]

-- the end
pub ends_there : (runs : Bool) (files : Files) (opened : BTreeMap ℕ OpenRequest) (may_end : Bool) (lines : List HistoryLine) → TellsEnd files may_end
    → AreKnown runs files opened lines → IsTrue may_end ↔ MayEnd runs lines
ends_there runs files opened may_end lines ends known =
    let told = ends runs (λ g. lines_of g lines) known.files_known in (
      λ holds. (ends_apart runs lines).1 (((legal_apart runs lines).0 known.legal).0, told.0 holds),
      λ may. told.1 ((ends_apart runs lines).0 may).1,
    )

pub ends_told : (judge : HistoryJudge) (result : Result Bool SearchFault) → IfOk result (λ may_end. TellsEnd judge.files may_end)
    → IfOk result (λ may_end. (runs : Bool) (lines : List HistoryLine) → Knows runs judge lines → IsTrue may_end ↔ MayEnd runs lines)
ends_told judge (Ok may_end) ends = λ runs lines knows. ends_there runs judge.files judge.opened may_end lines ends knows.known
ends_told judge (Err fault) ends = tt

-- an update of the open requests
pub puts_updated : (old new : BTreeMap ℕ OpenRequest) (id : ℕ) (sent : Option OpenRequest) → UpdatesBy nat_cmp (nat_cmp id) old new sent → PutsRequest old new id sent
puts_updated old new id sent updates = (updates.1, λ other differs. updates.2 other (is_at-other id other differs))

-- a request that was put in and taken out again
pub puts_back : (old mid new : BTreeMap ℕ OpenRequest) (id : ℕ) (sent : Option OpenRequest) → get nat_cmp old id ≡ None → PutsRequest old mid id sent
    → PutsRequest mid new id None → (other : ℕ) → get nat_cmp new other ≡ get nat_cmp old other
puts_back old mid new id sent free puts takes other = elim (decide other id) [
  | inl same ↦ subst (λ i. get nat_cmp new i ≡ get nat_cmp old i) (sym same) (takes.0 ∙ sym free)
  | inr differ ↦ takes.1 other differ ∙ puts.1 other differ
]

-- the same entries have the same open requests
pub same_entries : (old new : BTreeMap ℕ OpenRequest) → new.entries ≡ old.entries → (id : ℕ) → get nat_cmp new id ≡ get nat_cmp old id
same_entries old new same id = ap (λ es. lookup (is_at (nat_cmp id)) es) same

-- a search ends by the limit or by want of memory alone
pub limit_told : (fault : SearchFault) → judge_fault_of fault ≡ faults.Limit → fault ≡ searches.Limit
limit_told searches.Limit told = refl
limit_told (searches.Memory memory) told = absurd (grind (arith, common_steps, told))

pub never_taken : (fault : SearchFault) → judge_fault_of fault ≢ faults.IdTaken
never_taken searches.Limit told = absurd (grind (arith, common_steps, told))
never_taken (searches.Memory memory) told = absurd (grind (arith, common_steps, told))

pub never_unknown : (fault : SearchFault) → judge_fault_of fault ≢ faults.IdUnknown
never_unknown searches.Limit told = absurd (grind (arith, common_steps, told))
never_unknown (searches.Memory memory) told = absurd (grind (arith, common_steps, told))

pub never_impossible : (fault : SearchFault) → judge_fault_of fault ≢ faults.Impossible
never_impossible searches.Limit told = absurd (grind (arith, common_steps, told))
never_impossible (searches.Memory memory) told = absurd (grind (arith, common_steps, told))

-- what is found is there
pub found_not : {X : Type 0} (o : Option X) (x : X) → o ≡ Some x → o ≡ None → ⊥
found_not o x is none = absurd (grind (arith, common_steps, is, none))

-- what a `?` tells of a search
pub told_by_search : (result : Result (Unit {0}) JudgeFault) (fault : SearchFault) → IsErrAnd result (λ f. f ≡ judge_fault_of fault) → result ≡ Err (judge_fault_of fault)
told_by_search (Ok u) fault told = absurd told
told_by_search (Err f) fault told = ap (λ x. Err x) told

-- is no other fault
pub never_told : (result : Result (Unit {0}) JudgeFault) (fault : SearchFault) (other : JudgeFault) → judge_fault_of fault ≢ other
    → result ≡ Err (judge_fault_of fault) → result ≡ Err other → ⊥
never_told result fault other differs is told = differs (let same = sym is ∙ told in cc)

-- and is the limit where that is told
pub limit_of : (result : Result (Unit {0}) JudgeFault) (fault : SearchFault) → result ≡ Err (judge_fault_of fault) → result ≡ Err faults.Limit → fault ≡ searches.Limit
limit_of result fault is told = limit_told fault (let same = sym is ∙ told in cc)

-- the file of one line more
files_more_from : (opens : ℕ → Option Sending) (lines : List HistoryLine) (line : HistoryLine)
    → files_from opens (lines ++ line ∷ []) ≡ files_from opens lines ++ file_of (fold open_behind opens lines) line ∷ []
files_more_from opens [] line = refl
files_more_from opens (first ∷ lines) line = ap (λ fs. file_of opens first ∷ fs) (files_more_from (open_behind opens first) lines line)

-- where no line is read, the files of those that were are kept
pub logged_still : (runs : Bool) (old new : HistoryJudge) (lines : List HistoryLine) → new.line_files.items ≡ old.line_files.items
    → keeps_order new ≡ keeps_order old → Knows runs old lines → AreKnown runs new.files new.opened lines → Knows runs new lines
logged_still runs old new lines same keeps knows known =
    record { known = known; logged = λ yes. same ∙ knows.logged (sym keeps ∙ yes) }

-- where one is, so is its own
pub logged_more : (runs : Bool) (old new : HistoryJudge) (lines : List HistoryLine) (line : HistoryLine) (file : ℕ) (room : List ℕ)
    → file_of (open_after lines) line ≡ file → room ≡ old.line_files.items → (keeps_order old ≡ true → new.line_files.items ≡ room ++ file ∷ [])
    → keeps_order new ≡ keeps_order old → Knows runs old lines → AreKnown runs new.files new.opened (lines ++ line ∷ []) → Knows runs new (lines ++ line ∷ [])
logged_more runs old new lines line file room is_file same logs keeps knows known = record {
  known = known;
  logged = λ yes.
      let was : keeps_order old ≡ true = sym keeps ∙ yes in
      logs was ∙ ap (λ fs. fs ++ file ∷ []) (same ∙ knows.logged was) ∙ ap (λ f. files_of lines ++ f ∷ []) (sym is_file)
      ∙ sym (files_more_from none_open lines line);
}

-- the file of an answer is that of its request
pub file_answered : (runs : Bool) (judge : HistoryJudge) (lines : List HistoryLine) (id : ℕ) (sent : OpenRequest) (answer : Answer)
    → get nat_cmp judge.opened id ≡ Some sent → Knows runs judge lines → file_of (open_after lines) (Answered id answer) ≡ sent.file
file_answered runs judge lines id sent answer is knows = ap file_sent (open_there runs judge.files judge.opened lines id sent is knows.known)
