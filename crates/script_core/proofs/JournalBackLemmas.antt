-- The texts of events, line by line, are read as a journal of these events: for `journals_are_read_back`.
use Rattle.script_core.proofs.Common.{rules, ◌≡◌, ℕ, zero, suc, ◌+◌, ◌<◌, ◌≤◌, ◌==◌, None, Ok, Err, List, [], ◌∷◌, ◌++◌, length, map, get_or, slice_get, IfSome, flat_map, refl, sym, ap, ◌∙◌, subst, inl, arith, append_assoc, append-nil, All, nat_lt, All-head, All-tail, filter-append, common_steps, slice_split}
use Rattle.script_core.proofs.Common.{Limits, Rules, State, opening_state, Event, Leads, events_of, Place, Byte, TooLong, request_text, tag, note_text, entry_text, words_of, is_printable, IsProcess, entry_limit, IsWritableEvent, HeadGives, JournalLineGives, JournalReading, Legal, JournalGives, IsBeforeReport, AreLegal, reading_behind, limits_at, rules_at, processes_at}
use Rattle.script_core.specs.declared.place.JournalLine.TheVariants as lines
use Rattle.script_core.specs.JournalReading.{JournalsAreReadBack, EntriesAreReadBack}
use Rattle.script_core.proofs.NumberLemmas.{BeginsPlainly-decimal}
use Rattle.script_core.proofs.ReadingLemmas.{small_process}
use Rattle.script_core.proofs.FirstWordsLemmas.{MatchBool-map}
use Rattle.script_core.proofs.ArgumentLemmas.{not_named}
use Rattle.script_core.proofs.RoundTripLemmas.{IsWord-decimal, slice_split-words, not_empty}
use Rattle.script_core.proofs.EntryRoundTripLemmas.{IsWord-tag, entry_reads_back}

-- a word that begins with a digit
record IsDigitWord (word : List ℕ) : Type 0 where
  first : ℕ
  rest : List ℕ
  is : word ≡ first ∷ rest
  low : 48 ≤ first
  high : first ≤ 57

digit_front : (bytes more : List ℕ) → 0 < length bytes → 48 ≤ get_or bytes 0 0 → get_or bytes 0 0 ≤ 57 → IsDigitWord (bytes ++ more)
digit_front bytes more some low high = grind (arith, common_steps)

digit_tag : (limits : Limits) (p n : ℕ) → IsProcess limits p → IsDigitWord (tag p n)
digit_tag limits p n process = grind (arith, common_steps, small_process, BeginsPlainly-decimal, append_assoc, digit_front, IsWord-decimal)

-- the first word of an entry's text is its tag
first_word : (word rest : List ℕ) → slice_split (λ byte. byte == 32) (word ++ 32 ∷ rest) ≡ word ∷ slice_split (λ byte. byte == 32) rest
    → 0 < length word → words_of (word ++ 32 ∷ rest) ≡ word ∷ words_of rest
first_word word rest cut some = rw (cut, not_empty (length word) some) refl

head_given : (place : Place) (word : List ℕ) (rest : List (List ℕ)) → IsDigitWord word → IsBeforeReport place.stage → HeadGives place (word ∷ rest) (Ok None)
head_given place word rest digit before = grind (arith, common_steps, not_named)

-- the text of an event, behind its tag
text_cut : (event : Event) → entry_text event ≡ tag event.p event.n ++ 32 ∷ (request_text event.request ++ flat_map note_text event.notes)
text_cut event = grind (arith, common_steps, append_assoc)

head_of_entry : (place : Place) (event : Event) → IsWritableEvent (limits_at place) event → IsBeforeReport place.stage
    → HeadGives place (words_of (entry_text event)) (Ok None)
head_of_entry place event writable before =
    let word = tag event.p event.n in
    let is = IsWord-tag (limits_at place) event.p event.n writable.process writable.number in
    let rest = request_text event.request ++ flat_map note_text event.notes in
    let words = ap words_of (text_cut event) ∙ first_word word rest (slice_split-words word rest is.visible) is.some in
    subst (λ ws. HeadGives place ws (Ok None)) (sym words) (head_given place word (words_of rest) (digit_tag (limits_at place) event.p event.n writable.process) before)

-- the line of an event says that event
pub line_of_entry : (place : Place) (event : Event) → IsWritableEvent (limits_at place) event → IsBeforeReport place.stage
    → JournalLineGives place (entry_text event) (Ok (lines.Entry event))
line_of_entry place event writable before =
    let line = entry_text event in
    MatchBool-map (nat_lt entry_limit (length line)) _ _ _ _ (λ long. absurd (let none : Ok event ≡ Err TooLong = long in cc))
    (MatchBool-map (is_printable line) _ _ _ _ (λ gives. (Ok None, head_of_entry place event writable before, (Ok event, gives, refl)))
    (λ bad. absurd (let none : Ok event ≡ Err Byte = bad in cc)))
    (entry_reads_back event (limits_at place) writable)

-- the steps of a run lead through the state behind each front of it
leads_front : (rules : Rules) (processes : ℕ) (S : State) (front rest : List Event) (T : State) → Leads rules processes S (front ++ rest) T
    → (between : State) × Leads rules processes S front between
leads_front rules processes S [] rest T leads = (S, refl)
leads_front rules processes S (event ∷ front) rest T leads = grind (arith, common_steps, leads_front rules processes leads.0 front)

-- what stands in a front stands there in the whole
front_some : {X : Type 0} (P : X → Type 0) (xs more : List X) (place : ℕ) → IfSome (slice_get (xs ++ more) place) P → IfSome (slice_get xs place) P
front_some P [] more place is = tt
front_some P (x ∷ xs) more zero is = is
front_some P (x ∷ xs) more (suc place) is = front_some P xs more place is

events_of-front : (p : ℕ) (front rest : List Event) → events_of p (front ++ rest) ≡ events_of p front ++ events_of p rest
events_of-front p front rest = filter-append (λ event. event.p == p) front rest

-- the front of a run is a run
pub legal_front : (place : Place) (front rest : List Event) → AreLegal place (front ++ rest) → AreLegal place front
legal_front place front rest legal =
    let leads = leads_front (rules_at place) (processes_at place) opening_state front rest legal.0 legal.1.leads in (
      leads.0,
      record {
        leads = leads.1;
        numbered = λ p at. front_some (λ event. event.n ≡ at + 1) (events_of p front) (events_of p rest) at
            (subst (λ events. IfSome (slice_get events at) (λ event. event.n ≡ at + 1)) (events_of-front p front rest) (legal.1.numbered p at));
      },
    )

-- behind an entry the report has not begun
read_back : (number : ℕ) (reading : JournalReading) (events : List Event) → IsBeforeReport reading.place.stage → reading.report ≡ []
    → All (IsWritableEvent (limits_at reading.place)) events → AreLegal reading.place (reading.entries ++ events)
    → JournalGives number reading (map entry_text events) Legal
read_back number reading [] before none writable legal = inl (inl none, refl)
read_back number reading (event ∷ events) before none writable legal =
    let all : AreLegal reading.place ((reading.entries ++ event ∷ []) ++ events) =
    subst (AreLegal reading.place) (sym (append_assoc reading.entries (event ∷ []) events)) legal in (
      Ok (lines.Entry event),
      line_of_entry reading.place event (All-head (IsWritableEvent (limits_at reading.place)) event events writable) before,
      inl (
        legal_front reading.place (reading.entries ++ event ∷ []) events all,
        read_back (number + 1) (reading_behind reading (entry_text event) (lines.Entry event)) events tt none (All-tail (IsWritableEvent (limits_at reading.place)) event events writable) all,
      ),
    )

pub journals_read_back : JournalsAreReadBack
journals_read_back number reading events before none writable legal = read_back number reading events before none writable legal

-- the texts of events lead to these events
pub entries_read_back : EntriesAreReadBack
entries_read_back reading [] before writable = (reading, refl, sym (append-nil reading.entries))
entries_read_back reading (event ∷ events) before writable =
    let behind = reading_behind reading (entry_text event) (lines.Entry event) in
    let rest = entries_read_back behind events tt (All-tail (IsWritableEvent (limits_at reading.place)) event events writable) in (
      rest.0,
      (lines.Entry event, line_of_entry reading.place event (All-head (IsWritableEvent (limits_at reading.place)) event events writable) before, rest.1),
      rest.2 ∙ append_assoc reading.entries (event ∷ []) events,
    )
