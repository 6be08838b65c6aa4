-- The last of some notes: for `last_among` and `last_note`.
use Rattle.std.proofs.Common.{◌≡◌, ◌∙◌, ℕ, ◌+◌, ◌<◌, Bool, true, false, Option, None, Some, List, [], ◌∷◌, ◌++◌, length, get_or, take, filter, append-nil, refl, sym, ap}
use Rattle.std.specs.Prelude.{cond}
use Rattle.std.proofs.lemmas.Grind.{flat_map-append}
use Rattle.std.proofs.lemmas.List.{take_more}
use Rattle.std.proofs.lemmas.List.Elements.{filter-append}
use Rattle.lock_manager.specs.declared.request.Note.{Note}
use Rattle.session_core.specs.Event.{Event}
use Rattle.expectations.specs.Expectations.{is_about, last_note, last_of, notes_in}

-- the last note of two lists is that of the second, or else that of the first
abbrev later : Option Note → Option Note → Option Note
later first None = first
later first (Some note) = Some note

-- some note is the last of those from this one on
last_from : (note : Note) (notes : List Note) → (last : Note) × (last_of (note ∷ notes) ≡ Some last)
last_from note [] = (note, refl)
last_from note (next ∷ notes) = last_from next notes

-- a note before others isn't the last
last_behind : (xs : List Note) (note : Note) (notes : List Note) → last_of (xs ++ note ∷ notes) ≡ last_of (note ∷ notes)
last_behind [] note notes = refl
last_behind (x ∷ []) note notes = refl
last_behind (x ∷ y ∷ xs) note notes = last_behind (y ∷ xs) note notes

last_both : (xs ys : List Note) → last_of (xs ++ ys) ≡ later (last_of xs) (last_of ys)
last_both xs [] = ap last_of (append-nil xs)
last_both xs (note ∷ notes) =
    let last = last_from note notes in last_behind xs note notes ∙ last.1 ∙ sym (ap (later (last_of xs)) last.1)

-- the last on the request of one note more
among_more : (p n : ℕ) (notes : List Note) (i : ℕ) (d : Note) → i < length notes
    → last_of (filter (is_about p n) (take (i + 1) notes))
    ≡ later (last_of (filter (is_about p n) (take i notes))) (last_of (filter (is_about p n) (get_or notes i d ∷ [])))
among_more p n notes i d within =
    ap (λ (l : List Note). last_of (filter (is_about p n) l)) (take_more notes i d within)
    ∙ ap last_of (filter-append (is_about p n) (take i notes) (get_or notes i d ∷ []))
    ∙ last_both (filter (is_about p n) (take i notes)) (filter (is_about p n) (get_or notes i d ∷ []))

-- one note alone, on the request or not
alone : (p n : ℕ) (note : Note) (is : Bool) → is_about p n note ≡ is → last_of (filter (is_about p n) (note ∷ [])) ≡ last_of (cond is (note ∷ []) [])
alone p n note is same = ap (λ (b : Bool). last_of (cond b (note ∷ []) [])) same

-- a note on the request is the last on it
pub among_yes : (p n : ℕ) (notes : List Note) (i : ℕ) (d : Note) → i < length notes → is_about p n (get_or notes i d) ≡ true
    → last_of (filter (is_about p n) (take (i + 1) notes)) ≡ Some (get_or notes i d)
among_yes p n notes i d within is =
    among_more p n notes i d within
    ∙ ap (later (last_of (filter (is_about p n) (take i notes)))) (alone p n (get_or notes i d) true is)

-- a note on another leaves it
pub among_no : (p n : ℕ) (notes : List Note) (i : ℕ) (d : Note) → i < length notes → is_about p n (get_or notes i d) ≡ false
    → last_of (filter (is_about p n) (take (i + 1) notes)) ≡ last_of (filter (is_about p n) (take i notes))
among_no p n notes i d within is =
    among_more p n notes i d within
    ∙ ap (later (last_of (filter (is_about p n) (take i notes)))) (alone p n (get_or notes i d) false is)

-- the last on the request of one event more
events_more : (p n : ℕ) (events : List Event) (i : ℕ) (event : Event) → i < length events → event ≡ get_or events i event
    → last_note p n (take (i + 1) events) ≡ later (last_note p n (take i events)) (last_of (filter (is_about p n) event.notes))
events_more p n events i event within is =
    let notes : notes_in (take (i + 1) events) ≡ notes_in (take i events) ++ event.notes =
    ap notes_in (take_more events i event within ∙ ap (λ (x : Event). take i events ++ x ∷ []) (sym is))
    ∙ flat_map-append (λ (e : Event). e.notes) (take i events) (event ∷ []) ∙ ap (λ (l : List Note). notes_in (take i events) ++ l) (append-nil event.notes) in
    ap (λ (l : List Note). last_of (filter (is_about p n) l)) notes ∙ ap last_of (filter-append (is_about p n) (notes_in (take i events)) event.notes)
    ∙ last_both (filter (is_about p n) (notes_in (take i events))) (filter (is_about p n) event.notes)

-- an event with a note on the request has the last
pub events_some : (p n : ℕ) (events : List Event) (i : ℕ) (event : Event) (note : Note) → i < length events → event ≡ get_or events i event
    → last_of (filter (is_about p n) event.notes) ≡ Some note → last_note p n (take (i + 1) events) ≡ Some note
events_some p n events i event note within is told =
    events_more p n events i event within is ∙ ap (later (last_note p n (take i events))) told

-- an event without one leaves it
pub events_none : (p n : ℕ) (events : List Event) (i : ℕ) (event : Event) → i < length events → event ≡ get_or events i event
    → last_of (filter (is_about p n) event.notes) ≡ None → last_note p n (take (i + 1) events) ≡ last_note p n (take i events)
events_none p n events i event within is told =
    events_more p n events i event within is ∙ ap (later (last_note p n (take i events))) told
