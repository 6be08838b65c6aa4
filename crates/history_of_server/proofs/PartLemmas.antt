-- Moments on one file, and that they are moments of a whole history.
use Rattle.history_of_server.proofs.Common.{inl, inr, ℕ, ◌≡◌, ◌≢◌, ◌∙◌, ◌==◌, sym, ap, refl, subst, true, false, Bool, List, [], ◌∷◌, ◌++◌, map, eq-eqb, cases_eq, ne_eqb, if◌then◌else◌, Request, Converts, Effect, MayHave, MayTell, IsFree, IsOpen, Open, World, behind_effect, closed, with_open, HistoryLine}
use Rattle.std.proofs.lemmas.List.{append_assoc}
use Rattle.history_core.specs.declared.request.Answer.{Answer}
use Rattle.history_core.specs.Permitted.{NotYet}
use Rattle.history_core.specs.Moments.{Answered, Comes, Effects, FileLine, HasSetNothing, Leads, LetsGo, Line, Moment, Sent, behind_loss, lines_among}
use Rattle.history_judge.specs.Histories.{line_of, lines_at}
use Rattle.history_judge.specs.Histories as history
use Rattle.history_of_server.proofs.ListLemmas.{Each}

-- ---- on one file

-- moments that lead from the one world to the other through these lines
pub record Part (runs : Bool) (world : World) (lines : List FileLine) (last : World) : Type 0 where
  pub moments : List Moment
  pub in_order : lines_among moments ≡ lines
  pub leads : Leads runs world moments last

leads_append : (runs : Bool) (w : World) (first : List Moment) (m : World) (moments : List Moment) (v : World)
    → Leads runs w first m → Leads runs m moments v → Leads runs w (first ++ moments) v
leads_append runs w [] m moments v same leads = subst (λ u. Leads runs u moments v) same leads
leads_append runs w (x ∷ xs) m moments v leads rest = (leads.0, leads.1, leads_append runs leads.0 xs m moments v leads.2 rest)

lines_append : (first moments : List Moment) → lines_among (first ++ moments) ≡ lines_among first ++ lines_among moments
lines_append [] moments = refl
lines_append (Line l ∷ xs) moments = ap (λ ls. l ∷ ls) (lines_append xs moments)
lines_append (Effects id ∷ xs) moments = lines_append xs moments
lines_append (LetsGo id ∷ xs) moments = lines_append xs moments

pub part_none : (runs : Bool) (w : World) → Part runs w [] w
part_none runs w = record { moments = []; in_order = refl; leads = refl }

pub part_append : (runs : Bool) (a : World) (xs : List FileLine) (b : World) (ys : List FileLine) (c : World) → Part runs a xs b → Part runs b ys c
    → Part runs a (xs ++ ys) c
part_append runs a xs b ys c first more = record {
  moments = first.moments ++ more.moments;
  in_order = lines_append first.moments more.moments ∙ ap (λ ls. ls ++ lines_among more.moments) first.in_order ∙ ap (λ ls. xs ++ ls) more.in_order;
  leads = leads_append runs a first.moments b more.moments c first.leads more.leads;
}

pub part_sent : (runs : Bool) (w : World) (request : Request) → IsFree w request.id → Part runs w (Sent request ∷ []) (with_open request w)
part_sent runs w request free =
    record { moments = Line (Sent request) ∷ []; in_order = refl; leads = (with_open request w, record { is_free = free; behind = refl }, refl) }

pub part_effect : (runs : Bool) (w : World) (id : ℕ) (one : Open) (effect : Effect) → IsOpen w id one → one.effect ≡ NotYet → one.is_ended ≡ false
    → MayHave w.locks one.request.owner one.request.action effect → Part runs w [] (behind_effect w one.request effect)
part_effect runs w id one effect is_open not_yet lives may = record {
  moments = Effects id ∷ [];
  in_order = refl;
  leads = (
    behind_effect w one.request effect,
    (one, is_open, record { not_yet = not_yet; lives = lives; effect = effect; may_have = may; behind = refl }),
    refl,
  );
}

pub part_loss : (runs : Bool) (w : World) (id : ℕ) (one : Open) → IsOpen w id one → HasSetNothing one.effect → one.is_ended ≡ false
    → Converts (w.locks.flocks one.request.owner) one.request.action → Part runs w [] (behind_loss w one.request.owner)
part_loss runs w id one is_open nothing lives converts = record {
  moments = LetsGo id ∷ [];
  in_order = refl;
  leads = (
    behind_loss w one.request.owner,
    (one, is_open, record { has_set_nothing = nothing; lives = lives; converts = converts; behind = refl }),
    refl,
  );
}

pub part_answered : (runs : Bool) (w : World) (id : ℕ) (one : Open) (answer : Answer) → IsOpen w id one
    → MayTell runs one.request.owner one.request.action one.effect answer → Part runs w (Answered id answer ∷ []) (closed id w)
part_answered runs w id one answer is_open told = record {
  moments = Line (Answered id answer) ∷ [];
  in_order = refl;
  leads = (closed id w, record { one = one; is_open = is_open; told = told; behind = refl }, refl);
}

-- ---- of a whole history

-- the same of all but one number
abbrev pub put : {X : Type 0} → (ℕ → X) → ℕ → X → ℕ → X
put xs file x other = if other == file then x else xs other

pub put_here : {X : Type 0} (xs : ℕ → X) (file : ℕ) (x : X) → put xs file x file ≡ x
put_here xs file x = ap (λ (b : Bool). if b then x else xs file) (eq-eqb file file refl)

pub put_other : {X : Type 0} (xs : ℕ → X) (file : ℕ) (x : X) (other : ℕ) → other ≢ file → put xs file x other ≡ xs other
put_other xs file x other differs = ap (λ (b : Bool). if b then x else xs other) (ne_eqb other file differs)

put_same : {X : Type 0} (xs : ℕ → X) (file : ℕ) (x : X) → xs file ≡ x → xs ≡ put xs file x
put_same xs file x is = λ i other. at other i
  where
    at : (other : ℕ) → xs other ≡ put xs file x other
    at other = elim (cases_eq other file) [
      | inl same ↦ ap xs same ∙ is ∙ sym (ap (λ (b : Bool). if b then x else xs other) (eq-eqb other file same))
      | inr differs ↦ sym (put_other xs file x other differs)
    ]

put_twice : {X : Type 0} (xs : ℕ → X) (file : ℕ) (x y : X) → put (put xs file x) file y ≡ put xs file y
put_twice xs file x y = λ i other. at (other == file) other i
  where
    at : (b : Bool) (other : ℕ) → (if b then y else (if b then x else xs other)) ≡ (if b then y else xs other)
    at true other = refl
    at false other = refl

-- these lines are permitted in these worlds
pub record LegalFrom (runs : Bool) (worlds : ℕ → World) (lines : List HistoryLine) : Type 0 where
  pub last : ℕ → World
  pub moments : List history.Moment
  pub in_order : history.lines_among moments ≡ lines
  pub leads : history.Leads runs worlds moments last

-- whatever is permitted in the one worlds is so in the others behind these lines
abbrev pub Path : Bool → (ℕ → World) → List HistoryLine → (ℕ → World) → Type 0
Path runs worlds lines next = (rest : List HistoryLine) → LegalFrom runs next rest → LegalFrom runs worlds (lines ++ rest)

pub path_none : (runs : Bool) (worlds : ℕ → World) → Path runs worlds [] worlds
path_none runs worlds rest legal = legal

pub path_append : (runs : Bool) (a b c : ℕ → World) (xs ys : List HistoryLine) → Path runs a xs b → Path runs b ys c → Path runs a (xs ++ ys) c
path_append runs a b c xs ys first more rest legal = subst (λ ls. LegalFrom runs a ls) (sym (append_assoc xs ys rest)) (first (ys ++ rest) (more rest legal))

-- a line that sends a request sends one that is free on all other files
abbrev pub IsNewBeside : (ℕ → World) → ℕ → FileLine → Type 0
IsNewBeside worlds file (Sent request) = (other : ℕ) → other ≢ file → IsFree (worlds other) request.id
IsNewBeside worlds file (Answered id answer) = Unit {0}

new_still : (worlds : ℕ → World) (file : ℕ) (w : World) (lines : List FileLine) → Each (IsNewBeside worlds file) lines
    → Each (IsNewBeside (put worlds file w) file) lines
new_still worlds file w [] new = tt
new_still worlds file w (Sent request ∷ lines) new =
    ((λ other differs. subst (λ v. IsFree v request.id) (sym (put_other worlds file w other differs)) (new.0 other differs)), new_still worlds file w lines new.1)
new_still worlds file w (Answered id answer ∷ lines) new = (tt, new_still worlds file w lines new.1)

free_beside : (worlds : ℕ → World) (file : ℕ) (w : World) (request : Request) → worlds file ≡ w → IsFree w request.id
    → ((other : ℕ) → other ≢ file → IsFree (worlds other) request.id) → (other : ℕ) → IsFree (worlds other) request.id
free_beside worlds file w request at free others other = elim (cases_eq other file) [
  | inl same ↦ subst (λ g. IsFree (worlds g) request.id) (sym same) (subst (λ v. IsFree v request.id) (sym at) free)
  | inr differs ↦ others other differs
]

-- one moment, and then what follows it
step : (runs : Bool) (file : ℕ) (what : Moment) (worlds : ℕ → World) (w next : World) (lines : List HistoryLine) → worlds file ≡ w → Comes runs w what next
    → history.IsNew worlds what → LegalFrom runs (put worlds file next) lines → LegalFrom runs worlds (lines_at file what ++ lines)
step runs file what worlds w next lines at comes new later = record {
  last = later.last;
  moments = record { file = file; what = what } ∷ later.moments;
  in_order = ap (λ ls. lines_at file what ++ ls) later.in_order;
  leads = (
    put worlds file next,
    record {
      comes = subst (λ v. Comes runs v what (put worlds file next file)) (sym at) (subst (λ v. Comes runs w what v) (sym (put_here worlds file next)) comes);
      others = λ other differs. put_other worlds file next other differs;
      is_new = new;
    },
    later.leads,
  );
}

-- and then the others
lifted : (runs : Bool) (file : ℕ) (moments : List Moment) (worlds : ℕ → World) (w last : World) → worlds file ≡ w → Leads runs w moments last
    → Each (IsNewBeside worlds file) (lines_among moments) → Path runs worlds (map (line_of file) (lines_among moments)) (put worlds file last)
lifted runs file [] worlds w last at leads new rest legal =
    subst (λ ws. LegalFrom runs ws rest) (sym (put_same worlds file last (at ∙ sym leads))) legal
lifted runs file (Line (Sent request) ∷ moments) worlds w last at leads new rest legal =
    step runs file (Line (Sent request)) worlds w leads.0 _ at leads.1 (free_beside worlds file w request at leads.1.is_free new.0)
    (lifted runs file moments (put worlds file leads.0) leads.0 last (put_here worlds file leads.0) leads.2
    (new_still worlds file leads.0 (lines_among moments) new.1) rest (subst (λ ws. LegalFrom runs ws rest) (sym (put_twice worlds file leads.0 last)) legal))
lifted runs file (Line (Answered id answer) ∷ moments) worlds w last at leads new rest legal =
    step runs file (Line (Answered id answer)) worlds w leads.0 _ at leads.1 tt
    (lifted runs file moments (put worlds file leads.0) leads.0 last (put_here worlds file leads.0) leads.2
    (new_still worlds file leads.0 (lines_among moments) new.1) rest (subst (λ ws. LegalFrom runs ws rest) (sym (put_twice worlds file leads.0 last)) legal))
lifted runs file (Effects id ∷ moments) worlds w last at leads new rest legal =
    step runs file (Effects id) worlds w leads.0 _ at leads.1 tt
    (lifted runs file moments (put worlds file leads.0) leads.0 last (put_here worlds file leads.0) leads.2
    (new_still worlds file leads.0 (lines_among moments) new) rest (subst (λ ws. LegalFrom runs ws rest) (sym (put_twice worlds file leads.0 last)) legal))
lifted runs file (LetsGo id ∷ moments) worlds w last at leads new rest legal =
    step runs file (LetsGo id) worlds w leads.0 _ at leads.1 tt
    (lifted runs file moments (put worlds file leads.0) leads.0 last (put_here worlds file leads.0) leads.2
    (new_still worlds file leads.0 (lines_among moments) new) rest (subst (λ ws. LegalFrom runs ws rest) (sym (put_twice worlds file leads.0 last)) legal))

-- what is permitted on one file is so in the history
pub path_of_part : (runs : Bool) (file : ℕ) (worlds : ℕ → World) (lines : List FileLine) (last : World) → Part runs (worlds file) lines last
    → Each (IsNewBeside worlds file) lines → Path runs worlds (map (line_of file) lines) (put worlds file last)
path_of_part runs file worlds lines last part new =
    subst (λ ls. Path runs worlds (map (line_of file) ls) (put worlds file last)) part.in_order
    (lifted runs file part.moments worlds (worlds file) last refl part.leads (subst (λ ls. Each (IsNewBeside worlds file) ls) (sym part.in_order) new))
