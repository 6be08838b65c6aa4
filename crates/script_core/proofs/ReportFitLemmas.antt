-- The report of an output: its numbers are such as its lines may have, and each line is read as one of the report; for `outputs_are_legal` and
-- `outputs_are_short`.
use Rattle.script_core.proofs.Common.{common_steps, ◌≡◌, ℕ, zero, suc, ◌+◌, ◌*◌, ◌^◌, ◌<◌, ◌≤◌, ◌==◌, ◌&&◌, Bool, true, false, not, nat_le, List, [], ◌∷◌, ◌++◌, length, length-append, map, filter, Option, Some, None, Ok, IfSome, slice_get, inl, inr, refl, sym, ap, ◌∙◌, subst, arith, lit<, lit≤, eq-eqb, codes, decimal, if◌then◌else◌, IsFalse, list_all, cases_eq, eqb-true, le-ltb, length-decimal-le, recursion_from_All}
use Rattle.script_core.proofs.Common.{OFFMAX, Mode, Span, Held, Owner, Process, Description, FlockChange, mode_in, flock_mode_from, flock_mode_in, IsFlockLine, IsFileReport, AreFileReports, IsHeldReport, Limits, description_limit, Family, Bytes, Whole, Wait, Request, Note, ProcState, State, Event, AreNumbered, requests_sent, Place, ProcessLine, ReportLine, words_of, is_printable, script_limit, mode_word, tag, entry_limit, IsWritableEvent, held_text, wait_text, state_word, counts_text, process_text, line_of, IsLineOf, AreTextsOf, AreReportLines, lines_from, HeadGives, JournalLineGives}
use Rattle.std.specs.List.{AllByRecursion as Each}
use Rattle.std.proofs.lemmas.List.Filters.{length-filter_both}
use Rattle.range_core.specs.Ranges.{IsRun}
use Rattle.lock_manager.specs.declared.request.Note.TheVariants as notes
use Rattle.session_core.specs.Mail.{events_of, answers_in, answers_from}
use Rattle.script_core.specs.declared.place.JournalLine.TheVariants as lines
use Rattle.script_core.specs.declared.report.ReportLine.TheVariants as report_lines
use Rattle.script_core.specs.ReportText.{owner_text, flock_word, byte_lock_text, flock_text, wanted_text}
use Rattle.script_core.proofs.RoundTripLemmas.{IsWord, IsWord-tested, IsWord-decimal}
use Rattle.script_core.proofs.ReportReadingLemmas.{words_of-first}
use Rattle.script_core.proofs.EntryRoundTripLemmas.{AreSpoken, AreSpoken-append, AreSpoken-word, AreSpoken-tested, printable_spoken}
use Rattle.script_core.proofs.FitLemmas.{IsSmallOwner, FitsFlock, FitsLocks, FitsWait, Fits, few_processes, each_append, each_map}
use Rattle.script_core.proofs.OutcomeFitLemmas.{both_true, mode_fits}

-- ---- the locks that are held

-- the line is of a file that there is, of such an owner, and within the file
pub record FitsHeld (held : Held) : Type 0 where
  pub file : held.file < 64
  pub owner : IsSmallOwner held.owner
  pub first : held.span.first ≤ OFFMAX
  pub last : held.span.last ≤ OFFMAX

-- a flock mode that is held was set by a change of that description
flock_fits : (changes : List FlockChange) (before : Option Mode) (file description : ℕ) (mode : Mode) → Each FitsFlock changes
    → flock_mode_from before changes file description ≡ Some mode → (before ≡ Some mode → description ≤ description_limit) → description ≤ description_limit
flock_fits [] before file description mode fits is start = start is
flock_fits (change ∷ changes) before file description mode fits is start =
    by_set ((change.file == file) && (change.description == description)) refl is (flock_fits changes change.mode file description mode fits.1)
    (λ given. flock_fits changes before file description mode fits.1 given start)
  where
    by_set : (b : Bool) → (change.file == file) && (change.description == description) ≡ b
        → flock_mode_from (if b then change.mode else before) changes file description ≡ Some mode
        → (flock_mode_from change.mode changes file description ≡ Some mode → (change.mode ≡ Some mode → description ≤ description_limit)
        → description ≤ description_limit)
        → (flock_mode_from before changes file description ≡ Some mode → description ≤ description_limit) → description ≤ description_limit
    by_set true sets is own other =
        let same = eqb-true change.description description (both_true (change.file == file) (change.description == description) sets).1 in
        let small = fits.0 in
        own is (λ e. omega (arith, same, small))
    by_set false sets is own other = other is

byte_lock_fits : (S : State) (file : ℕ) → file < 64 → FitsLocks S → (x : Held)
    → (x.file ≡ file) × IsFalse x.whole × IsRun (mode_in S.changes file x.owner) x.span.first x.mode x.span
    → FitsHeld x
byte_lock_fits S file few locks x is = grind (arith, common_steps, mode_fits)

flock_line_fits : (S : State) (file : ℕ) → file < 64 → FitsLocks S → (x : Held) → IsFlockLine file (flock_mode_in S.flock_changes file) x → FitsHeld x
flock_line_fits S file few locks x is = grind (arith, common_steps, flock_fits)

file_fits : (S : State) (file : ℕ) (report : List Held) → file < 64 → FitsLocks S
    → IsFileReport file (mode_in S.changes file) (flock_mode_in S.flock_changes file) report → Each FitsHeld report
file_fits S file report few locks is =
    subst (Each FitsHeld) (sym is.is)
    (each_append FitsHeld is.byte_locks is.flock_locks
    (each_map _ FitsHeld is.byte_locks (byte_lock_fits S file few locks) (recursion_from_All _ is.byte_locks is.are_bytes.each))
    (each_map _ FitsHeld is.flock_locks (flock_line_fits S file few locks) (recursion_from_All _ is.flock_locks is.are_flocks.each)))

files_fit : (S : State) (file more : ℕ) (report : List Held) → file + more ≤ 64 → FitsLocks S
    → AreFileReports file more (mode_in S.changes) (flock_mode_in S.flock_changes) report → Each FitsHeld report
files_fit S file zero report few locks is = subst (Each FitsHeld) (sym is) tt
files_fit S file (suc more) report few locks (first, rest, is, one, others) =
    subst (Each FitsHeld) (sym is)
    (each_append FitsHeld first rest (file_fits S file first (omega (arith, few)) locks one) (files_fit S (file + 1) more rest (omega (arith, few)) locks others))

pub held_fit : (S : State) (held : List Held) → FitsLocks S → IsHeldReport (mode_in S.changes) (flock_mode_in S.flock_changes) held → Each FitsHeld held
unfolding IsHeldReport
held_fit S held locks is = files_fit S 0 64 held (omega arith) locks is

-- ---- counts

-- of a numbered list whose numbers are so small there is no more
numbered_few : (base limit : ℕ) (xs : List Event) → base ≤ limit → ((k : ℕ) → IfSome (slice_get xs k) (λ event. event.n ≡ base + k + 1))
    → Each (λ event. event.n ≤ limit) xs → base + length xs ≤ limit
numbered_few base limit [] low numbered small = omega (arith, low)
numbered_few base limit (x ∷ xs) low numbered small =
    let first : x.n ≡ base + 0 + 1 = numbered 0 in
    let own = small.0 in
    let rest = numbered_few (base + 1) limit xs (omega (arith, first, own))
    (λ k. next xs k (numbered (suc k))) small.1 in
    omega (arith, rest)
  where
    next : (xs : List Event) (k : ℕ) → IfSome (slice_get xs k) (λ event. event.n ≡ base + suc k + 1)
        → IfSome (slice_get xs k) (λ event. event.n ≡ base + 1 + k + 1)
    next [] k is = tt
    next (y ∷ ys) zero is = omega (arith, is)
    next (y ∷ ys) (suc k) is = shift (slice_get ys k) is
      where
        shift : (found : Option Event) → IfSome found (λ event. event.n ≡ base + suc (suc k) + 1) → IfSome found (λ event. event.n ≡ base + 1 + suc k + 1)
        shift None is = tt
        shift (Some event) is = omega (arith, is)

each_filtered : {X : Type 0} (P : X → Type 0) (test : X → Bool) (xs : List X) → Each P xs → Each P (filter test xs)
each_filtered P test [] all = tt
each_filtered P test (x ∷ xs) all = grind (arith, common_steps, each_filtered P test xs)

pub taken_few : (events : List Event) (p : ℕ) → AreNumbered events → Each (λ event. event.n ≤ script_limit + 1) events
    → length (events_of p events) ≤ script_limit + 1
taken_few events p numbered small =
    let few = numbered_few 0 (script_limit + 1) (events_of p events) (omega arith) (λ k. plain (slice_get (events_of p events) k) k (numbered p k))
    (each_filtered (λ (event : Event). event.n ≤ script_limit + 1) (λ event. event.p == p) events small) in
    omega (arith, few)
  where
    plain : (found : Option Event) (k : ℕ) → IfSome found (λ event. event.n ≡ k + 1) → IfSome found (λ event. event.n ≡ 0 + k + 1)
    plain None k is = tt
    plain (Some event) k is = omega (arith, is)

-- so many for each of so many processes
all_of : ℕ → ℕ → ℕ
all_of zero few = 0
all_of (suc more) few = all_of more few + few

fewer : {X : Type 0} (test other : X → Bool) (xs : List X) → length (filter test (filter other xs)) ≤ length (filter test xs)
fewer test other [] = omega arith
fewer test other (x ∷ xs) = grind (arith, common_steps, fewer test other xs)

others_below : (n : ℕ) (events : List Event) → Each (λ event. (1 ≤ event.p) × (event.p ≤ suc n)) events
    → Each (λ event. (1 ≤ event.p) × (event.p ≤ n)) (filter (λ event. not (event.p == suc n)) events)
others_below n [] all = tt
others_below n (event ∷ events) all = grind (arith, common_steps, eq-eqb, cases_eq, others_below n events)

all_few : (n few : ℕ) (events : List Event) → Each (λ event. (1 ≤ event.p) × (event.p ≤ n)) events → ((p : ℕ) → length (events_of p events) ≤ few)
    → length events ≤ all_of n few
unfolding all_of
all_few zero few [] all each = omega arith
all_few zero few (event ∷ events) all each = absurd (let low = all.0.0 in let high = all.0.1 in omega (arith, low, high))
all_few (suc n) few events all each =
    let others = filter (λ (event : Event). not (event.p == suc n)) events in
    let rest = all_few n few others (others_below n events all)
    (λ p. let own = each p in let less = fewer (λ (event : Event). event.p == p) (λ event. not (event.p == suc n)) events in omega (arith, own, less)) in
    let own = each (suc n) in
    let both = length-filter_both (λ (event : Event). event.p == suc n) (λ event. not (event.p == suc n)) (λ event. refl) events in
    omega (arith, rest, own, both)

few_events : (limits : Limits) (events : List Event) → Each (IsWritableEvent limits) events → ((p : ℕ) → length (events_of p events) ≤ script_limit + 1)
    → length events ≤ 67108928
unfolding all_of
few_events limits events writable each =
    all_few 64 (script_limit + 1) events
    (each_map (IsWritableEvent limits) _ events (λ event is. (is.process.0, few_processes limits event.p is.process)) writable) each

few_answers_in : (p place : ℕ) (told : List Note) → length (answers_in p place told) ≤ length told
few_answers_in p place [] = omega arith
few_answers_in p place (notes.Answer q n reply ∷ told) = grind (arith, common_steps, few_answers_in p place told)
few_answers_in p place (notes.Waits q n ∷ told) = let rest = few_answers_in p place told in omega (arith, rest)

few_answers : (limits : Limits) (p place : ℕ) (events : List Event) → Each (IsWritableEvent limits) events
    → length (answers_from p place events) ≤ 64 * length events
few_answers limits p place [] writable = omega arith
few_answers limits p place (event ∷ events) writable = grind (arith, common_steps, few_answers_in, length-append, few_answers limits p (place + 1) events)

pub sent_small : (arrivals : List (ℕ × Request)) → length arrivals ≤ script_limit + 1 → (p : ℕ) → length (requests_sent p arrivals) < 2 ^ 64
sent_small arrivals few p = let less = sent_few p arrivals in omega (arith, few, less)
  where
    sent_few : (p : ℕ) (arrivals : List (ℕ × Request)) → length (requests_sent p arrivals) ≤ length arrivals
    sent_few p [] = omega arith
    sent_few p (arrival ∷ arrivals) = grind (arith, common_steps, sent_few p arrivals)

-- ---- texts

-- the text has bytes of words and spaces, and no more than so many
pub record Said (k : ℕ) (text : List ℕ) : Type 0 where
  pub spoken : AreSpoken text
  pub short : length text ≤ k

both : {a b : ℕ} (x y : List ℕ) → Said a x → Said b y → Said (a + b) (x ++ y)
both x y h k = grind (arith, common_steps, length-append, AreSpoken-append)

given : (k : ℕ) (text : List ℕ) → list_all (λ byte. nat_le 32 byte && nat_le byte 122) text ≡ true → length text ≤ k → Said k text
given k text tested short = record { spoken = AreSpoken-tested text tested; short = short }

spaced : {a b : ℕ} (x y : List ℕ) → Said a x → Said b y → Said (a + 1 + b) (x ++ codes " " ++ y)
spaced x y h k = both (x ++ codes " ") y (both x (codes " ") h (given 1 (codes " ") refl (lit≤ tt))) k

number : (n : ℕ) → n < 2 ^ 64 → Said 20 (decimal n)
number n small = record { spoken = AreSpoken-word (decimal n) (IsWord-decimal n small).visible; short = length-decimal-le 20 n (lit< tt) (omega (arith, small)) (omega (arith, small)) }

said_mode : (mode : Mode) → Said 1 (mode_word mode)
said_mode mode = grind (arith, common_steps, given)

said_flock_word : (mode : Mode) → Said 2 (flock_word mode)
said_flock_word mode = grind (arith, common_steps, given)

said_owner : (owner : Owner) → IsSmallOwner owner → Said 32 (owner_text owner)
said_owner (Process p) small =
    let is = both (codes "process ") (decimal p) (given 12 (codes "process ") refl (lit≤ tt)) (number p (omega (arith, small))) in is
said_owner (Description d) small =
    let is = both (codes "description ") (decimal d) (given 12 (codes "description ") refl (lit≤ tt)) (number d (omega (arith, small))) in is

said_state : (state : ProcState) → Said 7 (state_word state)
said_state state = grind (arith, common_steps, given)

said_byte_lock : (file : ℕ) (owner : Owner) (mode : Mode) (span : Span) → file < 64 → IsSmallOwner owner → span.first ≤ OFFMAX → span.last ≤ OFFMAX
    → Said 97 (byte_lock_text file owner mode span)
said_byte_lock file owner mode span few small first last =
    spaced (decimal file ++ codes " " ++ owner_text owner ++ codes " " ++ mode_word mode ++ codes " " ++ decimal span.first) (decimal span.last)
    (spaced (decimal file ++ codes " " ++ owner_text owner ++ codes " " ++ mode_word mode) (decimal span.first)
    (spaced (decimal file ++ codes " " ++ owner_text owner) (mode_word mode)
    (spaced (decimal file) (owner_text owner) (number file (omega (arith, few))) (said_owner owner small)) (said_mode mode))
    (number span.first (omega (arith, first)))) (number span.last (omega (arith, last)))

said_flock : (owner : Owner) (mode : Mode) → IsSmallOwner owner → Said 35 (flock_text owner mode)
said_flock owner mode small = spaced (owner_text owner) (flock_word mode) (said_owner owner small) (said_flock_word mode)

-- ---- lines

-- the text is read as a line of the report, wherever it stands
pub record IsReportText (text : List ℕ) : Type 0 where
  pub printable : is_printable text ≡ true
  pub gives : (place : Place) → JournalLineGives place text (Ok lines.Report)

-- texts that begin with such a word are
of_word : {k : ℕ} (word rest text : List ℕ) → text ≡ word ++ 32 ∷ rest → IsWord word
    → ((place : Place) (words : List (List ℕ)) → HeadGives place (word ∷ words) (Ok (Some lines.Report))) → k ≤ entry_limit → Said k text → IsReportText text
of_word word rest text is word_is head few said =
    let short = said.short in
    let printable = printable_spoken text said.spoken in
    record {
      printable = printable;
      gives = λ place.
          let heads : HeadGives place (words_of text) (Ok (Some lines.Report)) =
          subst (λ ws. HeadGives place ws (Ok (Some lines.Report))) (sym (ap words_of is ∙ words_of-first word rest word_is)) (head place (words_of rest)) in
          rw (le-ltb entry_limit (length text) (omega (arith, short, few)), printable) (Ok (Some lines.Report), heads, refl);
    }

said_flock_line : (held : Held) → FitsHeld held → Said 62 (codes "flock " ++ decimal held.file ++ codes " " ++ flock_text held.owner held.mode)
said_flock_line held fits =
    let file = fits.file in
    spaced (codes "flock " ++ decimal held.file) (flock_text held.owner held.mode)
    (both (codes "flock ") (decimal held.file) (given 6 (codes "flock ") refl (lit≤ tt)) (number held.file (omega (arith, file))))
    (said_flock held.owner held.mode fits.owner)

said_lock_line : (held : Held) → FitsHeld held → Said 102 (codes "lock " ++ byte_lock_text held.file held.owner held.mode held.span)
said_lock_line held fits =
    both (codes "lock ") (byte_lock_text held.file held.owner held.mode held.span) (given 5 (codes "lock ") refl (lit≤ tt))
    (said_byte_lock held.file held.owner held.mode held.span fits.file fits.owner fits.first fits.last)

held_reads : (held : Held) → FitsHeld held → IsReportText (held_text held)
held_reads held fits =
    elim held.whole as
    (λ b. IsReportText (if b then codes "flock " ++ decimal held.file ++ codes " " ++ flock_text held.owner held.mode
    else codes "lock " ++ byte_lock_text held.file held.owner held.mode held.span)) [
      | true ↦
          let text = codes "flock " ++ decimal held.file ++ codes " " ++ flock_text held.owner held.mode in
          of_word (codes "flock") (decimal held.file ++ codes " " ++ flock_text held.owner held.mode) text refl (IsWord-tested (codes "flock") refl)
          (λ place words. refl) (lit≤ tt) (said_flock_line held fits)
      | false ↦
          let text = byte_lock_text held.file held.owner held.mode held.span in
          of_word (codes "lock") text (codes "lock " ++ text) refl (IsWord-tested (codes "lock") refl) (λ place words. refl) (lit≤ tt)
          (said_lock_line held fits)
    ]

-- the text of a lock that is held is so short
pub held_short : (held : Held) → FitsHeld held → length (held_text held) ≤ 102
held_short held fits =
    let whole = (said_flock_line held fits).short in
    let bytes = (said_lock_line held fits).short in
    elim held.whole as
    (λ b. length (if b then codes "flock " ++ decimal held.file ++ codes " " ++ flock_text held.owner held.mode
    else codes "lock " ++ byte_lock_text held.file held.owner held.mode held.span) ≤ 102) [
      | true ↦ omega (arith, whole)
      | false ↦ bytes
    ]

-- the wait has numbers that its line may have
pub record FitsWaitLine (wait : Wait) : Type 0 where
  pub p : wait.p < 2 ^ 64
  pub n : wait.n < 2 ^ 64
  pub file : wait.file < 64
  pub owner : IsSmallOwner wait.owner
  pub first : wait.span.first ≤ OFFMAX
  pub last : wait.span.last ≤ OFFMAX

said_wanted : (family : Family) (wait : Wait) → FitsWaitLine wait → Said 97 (wanted_text family wait)
said_wanted Bytes wait fits = said_byte_lock wait.file wait.owner wait.mode wait.span fits.file fits.owner fits.first fits.last
said_wanted Whole wait fits =
    let file = fits.file in
    let is = both (decimal wait.file ++ codes " flock ") (flock_text wait.owner wait.mode)
    (both (decimal wait.file) (codes " flock ") (number wait.file (omega (arith, file))) (given 7 (codes " flock ") refl (lit≤ tt))) (said_flock wait.owner wait.mode fits.owner) in
    let short = is.short in
    record { spoken = is.spoken; short = omega (arith, short) }

said_tag : (p n : ℕ) → p < 2 ^ 64 → n < 2 ^ 64 → Said 41 (tag p n)
said_tag p n p_small n_small =
    both (decimal p ++ codes "#") (decimal n) (both (decimal p) (codes "#") (number p p_small) (given 1 (codes "#") refl (lit≤ tt))) (number n n_small)

pub said_wait : (wait : Wait) → FitsWaitLine wait → Said 144 (wait_text wait)
said_wait wait fits =
    spaced (codes "wait " ++ tag wait.p wait.n) (wanted_text wait.family wait)
    (both (codes "wait ") (tag wait.p wait.n) (given 5 (codes "wait ") refl (lit≤ tt)) (said_tag wait.p wait.n fits.p fits.n))
    (said_wanted wait.family wait fits)

wait_reads : (wait : Wait) → FitsWaitLine wait → IsReportText (wait_text wait)
wait_reads wait fits =
    of_word (codes "wait") (tag wait.p wait.n ++ codes " " ++ wanted_text wait.family wait) (wait_text wait) refl (IsWord-tested (codes "wait") refl) (λ place words. refl) (lit≤ tt)
    (said_wait wait fits)

-- so does a process
pub record FitsProcessLine (told : ProcessLine) : Type 0 where
  pub p : told.p < 2 ^ 64
  pub taken : told.taken < 2 ^ 64
  pub answered : told.answered < 2 ^ 64

said_counts : (told : ProcessLine) → told.sent < 2 ^ 64 → FitsProcessLine told → Said 82 (counts_text told)
said_counts told sent fits =
    let is = both (codes "sent " ++ decimal told.sent ++ codes " taken " ++ decimal told.taken ++ codes " answered ") (decimal told.answered)
    (both (codes "sent " ++ decimal told.sent ++ codes " taken " ++ decimal told.taken) (codes " answered ")
    (both (codes "sent " ++ decimal told.sent ++ codes " taken ") (decimal told.taken)
    (both (codes "sent " ++ decimal told.sent) (codes " taken ")
    (both (codes "sent ") (decimal told.sent) (given 5 (codes "sent ") refl (lit≤ tt)) (number told.sent sent)) (given 7 (codes " taken ") refl (lit≤ tt)))
    (number told.taken fits.taken)) (given 10 (codes " answered ") refl (lit≤ tt))) (number told.answered fits.answered) in is

pub said_process : (told : ProcessLine) → told.sent < 2 ^ 64 → FitsProcessLine told → Said 116 (process_text told)
said_process told sent fits =
    spaced (codes "proc " ++ decimal told.p ++ codes " " ++ counts_text told) (state_word told.state)
    (spaced (codes "proc " ++ decimal told.p) (counts_text told)
    (both (codes "proc ") (decimal told.p) (given 5 (codes "proc ") refl (lit≤ tt)) (number told.p fits.p)) (said_counts told sent fits))
    (said_state told.state)

process_reads : (told : ProcessLine) → told.sent < 2 ^ 64 → FitsProcessLine told → IsReportText (process_text told)
process_reads told sent fits =
    of_word (codes "proc") (decimal told.p ++ codes " " ++ counts_text told ++ codes " " ++ state_word told.state) (process_text told) refl
    (IsWord-tested (codes "proc") refl) (λ place words. refl) (lit≤ tt) (said_process told sent fits)

-- ---- the report

FitsLine : ReportLine → Type 0
FitsLine (report_lines.Held held) = FitsHeld held
FitsLine (report_lines.Waits wait) = FitsWaitLine wait
FitsLine (report_lines.Process told) = FitsProcessLine told

line_reads : (line : ReportLine) (text : List ℕ) → FitsLine line → IsLineOf line text → IsReportText text
unfolding FitsLine
line_reads (report_lines.Held held) text fits is = subst IsReportText (sym is) (held_reads held fits)
line_reads (report_lines.Waits wait) text fits is = subst IsReportText (sym is) (wait_reads wait fits)
line_reads (report_lines.Process told) text fits (sent, no_less, small, reported, is) =
    subst IsReportText (sym is) (process_reads (record told { sent = sent }) small (record { p = fits.p; taken = fits.taken; answered = fits.answered }))

texts_read : (reported : List ReportLine) (texts : List (List ℕ)) → Each FitsLine reported → AreTextsOf reported texts → Each IsReportText texts
texts_read [] texts fits are = subst (Each IsReportText) (sym are) tt
texts_read (line ∷ reported) [] fits are = tt
texts_read (line ∷ reported) (text ∷ texts) fits (inl here) = (line_reads line text fits.0 here.0, texts_read reported texts fits.1 here.1)
texts_read (line ∷ reported) (text ∷ texts) fits (inr out) = texts_read reported (text ∷ texts) fits.1 out.1.1

each_of : {X : Type 0} (P : X → Type 0) (line : X → ReportLine) (xs : List X) → ((x : X) → P x → FitsLine (line x)) → Each P xs → Each FitsLine (map line xs)
each_of P line [] f all = tt
each_of P line (x ∷ xs) f all = (f x all.0, each_of P line xs f all.1)

-- the counts of each process are such numbers, whatever it sent
pub process_fits : (limits : Limits) (states : ℕ → ProcState) (events : List Event) (sent : ℕ → ℕ) (p : ℕ) → p ≤ 64 → Each (IsWritableEvent limits) events
    → ((q : ℕ) → length (events_of q events) ≤ script_limit + 1) → FitsProcessLine (line_of states events sent p)
process_fits limits states events sent p few writable counts = grind (arith, common_steps, few_answers, few_events)

processes_fit : (limits : Limits) (states : ℕ → ProcState) (events : List Event) (p more : ℕ) → p + more ≤ 65 → Each (IsWritableEvent limits) events
    → ((q : ℕ) → length (events_of q events) ≤ script_limit + 1) → Each FitsLine (lines_from states events p more)
unfolding lines_from FitsLine
processes_fit limits states events p zero few writable counts = tt
processes_fit limits states events p (suc more) few writable counts = (
  process_fits limits states events (λ q. length (events_of q events)) p (omega (arith, few)) writable counts,
  processes_fit limits states events (p + 1) more (omega (arith, few)) writable counts,
)

pub wait_line_fits : (limits : Limits) (states : ℕ → ProcState) (wait : Wait) → FitsWait limits states wait → FitsWaitLine wait
wait_line_fits limits states wait is = grind (arith, common_steps, few_processes, number)

-- the texts of the report of what these events leave are read as lines of it
pub report_reads : (limits : Limits) (processes : ℕ) (S : State) (events : List Event) (reported : List ReportLine) (texts : List (List ℕ)) → processes ≤ 64
    → Fits limits S → Each (IsWritableEvent limits) events → Each (λ event. event.n ≤ script_limit + 1) events → AreNumbered events
    → AreReportLines processes S events reported → AreTextsOf reported texts → Each IsReportText texts
unfolding FitsLine
report_reads limits processes S events reported texts few fits writable numbers numbered are told =
    grind (arith, common_steps, texts_read, FitsLine, each_append, each_of, held_fit, wait_line_fits, processes_fit, taken_few)
