-- What holds of a process stays where its words and views stay: for `publish_for`.
use Rattle.table_steps.proofs.Common.{common_steps, ◌≡◌, ℕ, zero, suc, ◌%◌, ◌<◌, ◌≤◌, Bool, List, [], ◌∷◌, length, refl, sym, ◌∙◌, arith, append-nil, mod-lt, some, some-ne-none}
use Rattle.table_steps.proofs.Common.{Request, Reply, Event, IsPrefixOf, requests_taken, answers_to, ClientView, DeskView, request_spelled, answer_spelled, Place, posted, taken, answered, request, answer, IsPlace, IsProcess, owner_of, tally_at, CellHas, request_cell, answer_cell, RequestsAgree, AnswersAgree, ClosingAgrees, Agrees}
use lib.ListN.{get_elem?}

pub before_length : {A : Type 0} (l : List A) (i : ℕ) (a : A) → get_elem? l i ≡ some a → i < length l
before_length [] i a e = absurd (some-ne-none a (sym e))
before_length (x ∷ xs) zero a e = omega arith
before_length (x ∷ xs) (suc i) a e = let h = before_length xs i a e in omega arith

pub request_six : (r : Request) → length (request_spelled r) ≡ 6
request_six r = grind (arith, common_steps)

pub answer_six : (r : Reply) (place : ℕ) → length (answer_spelled r place) ≡ 6
answer_six r place = grind (arith, common_steps)

-- the words of the places of one process stay
abbrev pub SameWords : ℕ → ℕ → ℕ → (Place → ℕ) → (Place → ℕ) → Type 0
SameWords P d p at now = (a : Place) → IsPlace P d a → owner_of a ≡ p → now a ≡ at a

-- those of its request cells stay
abbrev pub SameRequestCells : ℕ → ℕ → (Place → ℕ) → (Place → ℕ) → Type 0
SameRequestCells d p at now = (cell i : ℕ) → cell < d → i < 6 → now (request p cell i) ≡ at (request p cell i)

-- those of its answer cells stay
abbrev pub SameAnswerCells : ℕ → ℕ → (Place → ℕ) → (Place → ℕ) → Type 0
SameAnswerCells d p at now = (cell i : ℕ) → cell < d → i < 6 → now (answer p cell i) ≡ at (answer p cell i)

module _ (d p : ℕ) (deep : 1 ≤ d) (at now : Place → ℕ) where
  pub request_cell_stays : SameRequestCells d p at now → (before : ℕ) (words : List ℕ) → length words ≤ 6
      → CellHas at (request_cell d p before) words → CellHas now (request_cell d p before) words
  request_cell_stays same before words most has i x e =
      let near = before_length words i x e in same (before % d) i (mod-lt before deep) (omega arith) ∙ has i x e

  pub answer_cell_stays : SameAnswerCells d p at now → (before : ℕ) (words : List ℕ) → length words ≤ 6
      → CellHas at (answer_cell d p before) words → CellHas now (answer_cell d p before) words
  answer_cell_stays same before words most has i x e =
      let near = before_length words i x e in same (before % d) i (mod-lt before deep) (omega arith) ∙ has i x e

  pub requests_stay : now (posted p) ≡ at (posted p) → now (taken p) ≡ at (taken p) → SameRequestCells d p at now
      → (requests : List Request) (looked : ℕ) (reading : ℕ × List ℕ) (c : ClientView)
      → RequestsAgree d p at requests looked reading c → RequestsAgree d p now requests looked reading c
  requests_stay posted_same taken_same same requests looked reading c r =
      let posted_word = posted_same ∙ r.posted_word in
      let taken_word = taken_same ∙ r.taken_word in
      let cells : (before : ℕ) (x : Request) → length requests ≤ before → get_elem? c.posted before ≡ some x
      → CellHas now (request_cell d p before) (request_spelled x) =
      λ before x h e. request_cell_stays same before (request_spelled x) (omega (arith, request_six x)) (r.cells before x h e) in
      let filled = request_cell_stays same (length c.posted) c.filled r.filled_most r.filled in
      assumption (r, posted_word, taken_word, cells, filled)

  pub answers_stay : now (answered p) ≡ at (answered p) → SameAnswerCells d p at now
      → (journal : List Event) (published : ℕ) (filling : ℕ × List ℕ) (c : ClientView)
      → AnswersAgree d p at journal published filling c → AnswersAgree d p now journal published filling c
  answers_stay answered_same same journal published filling c r =
      let answered_word = answered_same ∙ r.answered_word in
      let cells : (before : ℕ) (x : ℕ × Reply × ℕ) → c.collected ≤ before → before < published → get_elem? (answers_to p journal) before ≡ some x
      → CellHas now (answer_cell d p before) (answer_spelled x.1 x.2) =
      λ before x h k e. answer_cell_stays same before (answer_spelled x.1 x.2) (omega (arith, answer_six x.1 x.2)) (r.cells before x h k e) in
      let filled : filling.0 ≡ p → CellHas now (answer_cell d p published) filling.1 =
      λ e. answer_cell_stays same published filling.1 (r.filled_most e) (r.filled e) in
      assumption (r, answered_word, cells, filled)

-- what holds of the requests stays where the client posts, collects and fills in nothing
pub requests_same : {d p : ℕ} {at : Place → ℕ} {requests : List Request} {looked : ℕ} {reading : ℕ × List ℕ} {c : ClientView}
    {known looks marks : ℕ} {seen : List Event} {over drained : Bool} {read : List ℕ}
    → RequestsAgree d p at requests looked reading c
    → RequestsAgree d p at requests looked reading
    (record c { known = known; seen = seen; over = over; drained = drained; read = read; looks = looks; marks = marks })
requests_same q = assumption q

-- what holds of the answers stays where the client collects, finds and reads nothing
pub answers_same : {d p : ℕ} {at : Place → ℕ} {journal : List Event} {published : ℕ} {filling : ℕ × List ℕ} {c : ClientView}
    {looks marks : ℕ} {posted : List Request} {over drained : Bool} {filled : List ℕ}
    → AnswersAgree d p at journal published filling c
    → AnswersAgree d p at journal published filling
    (record c { posted = posted; over = over; drained = drained; filled = filled; looks = looks; marks = marks })
answers_same t = assumption t

-- the client finds all answers that are published, in the journal
pub answers_found : {d p : ℕ} {at : Place → ℕ} {journal : List Event} {published found looks : ℕ} {filling : ℕ × List ℕ}
    {c : ClientView} {drained : Bool} → found ≡ published → AnswersAgree d p at journal published filling c
    → AnswersAgree d p at journal published filling
    (record c { known = found; seen = journal; drained = drained; looks = looks })
answers_found {p = p} {journal = journal} {published = published} {found = found} {c = c} is t =
    let collected_most : c.collected ≤ found = omega (arith, t.collected_most, t.known_most, is) in
    let known_most : found ≤ published = omega (arith, is) in
    let seen : IsPrefixOf journal journal = ([], sym (append-nil journal)) in
    let seen_known : found ≤ length (answers_to p journal) = omega (arith, t.published_most, is) in
    let reads_known : 0 < length c.read → c.collected < found = λ h. omega (arith, t.reads_known h, t.known_most, is) in
    assumption (t, collected_most, known_most, seen, seen_known, reads_known)

-- what is known of the end stays where the client collects nothing and learns nothing of it
pub closing_same : {p : ℕ} {journal : List Event} {published : ℕ} {closed : Bool} {c : ClientView}
    {known looks marks : ℕ} {posted : List Request} {seen : List Event} {filled read : List ℕ}
    → ClosingAgrees p journal published closed c
    → ClosingAgrees p journal published closed
    (record c { posted = posted; known = known; seen = seen; filled = filled; read = read; looks = looks; marks = marks })
closing_same e = assumption e

-- where all words of the process stay
pub words_stay : (P d p : ℕ) → IsProcess P p → 1 ≤ d → (at now : Place → ℕ) → SameWords P d p at now
    → (desk : DeskView) (c : ClientView) → Agrees d p at desk c → Agrees d p now desk c
words_stay P d p l deep at now same desk c r =
    record {
      requests = requests_stay d p deep at now (same (posted p) l refl) (same (taken p) l refl)
          (λ cell i h k. same (request p cell i) (l, h, k) refl)
          (requests_taken p desk.journal) (tally_at desk.tallies p).looked desk.reading c r.requests;
      answers = answers_stay d p deep at now (same (answered p) l refl) (λ cell i h k. same (answer p cell i) (l, h, k) refl)
          desk.journal (tally_at desk.tallies p).published desk.filling c r.answers;
      closing = r.closing;
    }

-- where the desk's journal, tally of the process and mark stay, and what it reads and fills in is not this process'
pub desk_stays : (d p : ℕ) (at : Place → ℕ) (desk now : DeskView) (c : ClientView) → now.journal ≡ desk.journal
    → now.closed ≡ desk.closed
    → (tally_at now.tallies p).looked ≡ (tally_at desk.tallies p).looked
    → (tally_at now.tallies p).published ≡ (tally_at desk.tallies p).published
    → (now.reading.0 ≡ p → now.reading ≡ desk.reading) → (now.filling.0 ≡ p → now.filling ≡ desk.filling)
    → Agrees d p at desk c → Agrees d p at now c
desk_stays d p at desk now c journal closed looked published reading filling r = grind (arith, common_steps)
