-- The last answer to each process: as a journal grows, and by its number; for `Session::answer_of`, `Session::answered`, `Replay::answered` and
-- others.
use Rattle.session_core.proofs.Common.{rules, ℕ, zero, suc, ◌≡◌, ◌+◌, ◌<◌, ◌≤◌, refl, sym, ◌∙◌, ap, subst, arith, eq-eqb, ne_eqb, length, List, [], ◌∷◌, ◌++◌, Option, Some, None, IfSome, slice_get, common_steps, cases_lt, append-nil}
use Rattle.session_core.proofs.Common.{Request, Reply, Note, Answer, Waits, Manager, Mailbox, Event, events_of, answers_in, answers_from, answers_to, reply_among, mail_taken, taken_in, IsMailKept, latest, processes_in, last_of, AreLastAnswers, Holds}
use Rattle.std.proofs.lemmas.List.{nil_from_length}
use Rattle.std.proofs.lemmas.Option.{slice_get_past}
use Rattle.std.proofs.Math.Logic.{∥∥₁_elim}
use Rattle.std.proofs.Math.Bridge.{le_prop}
use Rattle.session_core.specs.declared.answers.Answer as declared
use Rattle.session_core.specs.declared.answers.LastAnswers.{LastAnswers}

-- what is known last after more answers
latest-append : (known : Option declared.Answer) (xs ys : List (ℕ × Reply × ℕ)) → latest known (xs ++ ys) ≡ latest (latest known xs) ys
latest-append known [] ys = refl
latest-append known (x ∷ xs) ys = latest-append (Some (record { n = x.0; reply = x.1 })) xs ys

-- at which place the notes stand doesn't matter to it
latest-place : (known : Option declared.Answer) (p place other : ℕ) (notes : List Note)
    → latest known (answers_in p place notes) ≡ latest known (answers_in p other notes)
latest-place known p place other [] = refl
latest-place known p place other (Answer q n reply ∷ notes) =
    grind (arith, common_steps, latest-place (Some (record { n = n; reply = reply })) p place other notes, latest-place known p place other notes)
latest-place known p place other (Waits q n ∷ notes) = latest-place known p place other notes

-- what is known last after one more event
latest-push : (p place : ℕ) (known : Option declared.Answer) (events : List Event) (event : Event)
    → latest known (answers_from p place (events ++ event ∷ [])) ≡ latest (latest known (answers_from p place events)) (answers_in p 0 event.notes)
latest-push p place known [] event = ap (latest known) (append-nil (answers_in p place event.notes)) ∙ latest-place known p place 0 event.notes
latest-push p place known (e ∷ events) event =
    latest-append known (answers_in p place e.notes) (answers_from p (place + 1) (events ++ event ∷ []))
    ∙ latest-push p (place + 1) (latest known (answers_in p place e.notes)) events event
    ∙ ap (λ last. latest last (answers_in p 0 event.notes)) (sym (latest-append known (answers_in p place e.notes) (answers_from p (place + 1) events)))

-- the last answers are taken down still, where those of one more event were told
pub AreLastAnswers-push : (processes : ℕ) (last last' : LastAnswers) (journal journal' : List Event) (event : Event)
    → journal' ≡ journal ++ event ∷ [] → processes_in last' ≡ processes_in last
    → ((p : ℕ) → 1 ≤ p → p ≤ processes_in last → last_of last' p ≡ latest (last_of last p) (answers_in p 0 event.notes))
    → AreLastAnswers processes last journal → AreLastAnswers processes last' journal'
AreLastAnswers-push processes last last' journal journal' event more as_many told h = grind (arith, common_steps, latest-push)

-- the number of what is known last
abbrev pub number_in : Option declared.Answer → ℕ
number_in None = 0
number_in (Some answer) = answer.n

-- the answers have the numbers behind this one, one by one
abbrev pub AreNumberedFrom : ℕ → List (ℕ × Reply × ℕ) → Type 0
AreNumberedFrom first answers = (place : ℕ) → IfSome (slice_get answers place) (λ answer. answer.0 ≡ first + place + 1)

numbered_later : (first : ℕ) (x : ℕ × Reply × ℕ) (xs : List (ℕ × Reply × ℕ)) → AreNumberedFrom first (x ∷ xs) → AreNumberedFrom (first + 1) xs
numbered_later first x xs numbered place =
    let e : first + suc place + 1 ≡ first + 1 + place + 1 = omega arith in
    subst (λ n. IfSome (slice_get xs place) (λ answer. answer.0 ≡ n)) e (numbered (suc place))

-- the last one's number is how many there are
pub latest_number : (first : ℕ) (known : Option declared.Answer) (answers : List (ℕ × Reply × ℕ)) → number_in known ≡ first → AreNumberedFrom first answers
    → number_in (latest known answers) ≡ first + length answers
latest_number first known [] is numbered = is ∙ omega arith
latest_number first known (x ∷ xs) is numbered =
    grind (arith, common_steps, latest_number (first + 1) (Some (record { n = x.0; reply = x.1 })) xs, numbered_later first x xs, numbered 0)

-- an answer with another number is passed over
passed_over : (n : ℕ) (x : ℕ × Reply × ℕ) (xs : List (ℕ × Reply × ℕ)) → (x.0 ≡ n → ⊥) → reply_among n (x ∷ xs) ≡ reply_among n xs
passed_over n x xs other = rw (ne_eqb x.0 n other) refl

-- none has a number past the last one
none_past : (n first : ℕ) (answers : List (ℕ × Reply × ℕ)) → AreNumberedFrom first answers → first + length answers < n → reply_among n answers ≡ None
none_past n first [] numbered past = refl
none_past n first (x ∷ xs) numbered past =
    grind (arith, common_steps, passed_over, none_past n (first + 1) xs, numbered_later first x xs, numbered 0)

-- the last one is found by its number
latest_found : (n first : ℕ) (known : Option declared.Answer) (answers : List (ℕ × Reply × ℕ)) (last : declared.Answer) → number_in known ≡ first
    → AreNumberedFrom first answers → latest known answers ≡ Some last → n ≡ last.n → first < n → reply_among n answers ≡ Some last.reply
latest_found n first known [] last is numbered found same past =
    let number : number_in known ≡ last.n = ap number_in found in absurd (omega (arith, number))
latest_found n first known (x ∷ []) last is numbered found same past =
    let number : x.0 ≡ last.n = ap number_in found in
    let read : x.1 ≡ last.reply = cc in
    rw (eq-eqb x.0 n (number ∙ sym same)) (ap (λ reply. Some reply) read)
latest_found n first known (x ∷ (y ∷ ys)) last is numbered found same past =
    let start : declared.Answer = record { n = x.0; reply = x.1 } in
    grind (
      arith,
      common_steps,
      passed_over,
      numbered 0,
      numbered_later first x (y ∷ ys),
      latest_number (first + 1) (Some start) (y ∷ ys),
      latest_found n (first + 1) (Some start) (y ∷ ys) last,
    )

latest_some : (answer : declared.Answer) (answers : List (ℕ × Reply × ℕ)) → latest (Some answer) answers ≡ None → ⊥
latest_some answer [] none = cc
latest_some answer (x ∷ xs) none = latest_some (record { n = x.0; reply = x.1 }) xs none

-- where no answer is known, there was none
none_told : (answers : List (ℕ × Reply × ℕ)) → latest None answers ≡ None → answers ≡ []
none_told [] none = refl
none_told (x ∷ xs) none = absurd (latest_some (record { n = x.0; reply = x.1 }) xs none)

each_some : {X : Type 0} (o : Option X) (P : X → Type 0) → ((x : X) → o ≡ Some x → P x) → IfSome o P
each_some None P h = tt
each_some (Some x) P h = h x refl

-- the answers to a process are numbered, where the headline holds
answers_numbered : (manager : Manager) (sent : ℕ → List Request) (journal : List Event) (p : ℕ) → ∥ Holds manager sent journal ∥₁
    → AreNumberedFrom 0 (answers_to p journal)
answers_numbered manager sent journal p holds place =
    each_some (slice_get (answers_to p journal) place) (λ answer. answer.0 ≡ 0 + place + 1) (λ answer found.
    let low : answer.0 ≤ place + 1 = ∥∥₁_elim holds le_prop (λ h. let is : answer.0 ≡ place + 1 = subst (λ o. IfSome o (λ a. a.0 ≡ place + 1)) found (h.answers_numbered p place) in omega (arith, is)) in
    let high : place + 1 ≤ answer.0 = ∥∥₁_elim holds le_prop (λ h. let is : answer.0 ≡ place + 1 = subst (λ o. IfSome o (λ a. a.0 ≡ place + 1)) found (h.answers_numbered p place) in omega (arith, is)) in
    omega arith)

-- a process without a mailbox was taken nothing of
taken_past : (mailboxes : List Mailbox) (p : ℕ) → length mailboxes < p → mail_taken mailboxes p ≡ 0
taken_past mailboxes zero past = refl
taken_past mailboxes (suc place) past = ap taken_in (slice_get_past mailboxes place (omega arith))

pub last_past : (last : LastAnswers) (p : ℕ) → processes_in last < p → last_of last p ≡ None
last_past last p h = grind (arith, common_steps)

-- a process without a mailbox was answered nothing
answers_past : (manager : Manager) (sent : ℕ → List Request) (processes : ℕ) (mailboxes : List Mailbox) (journal : List Event) (p : ℕ)
    → IsMailKept processes mailboxes journal → ∥ Holds manager sent journal ∥₁ → mail_taken mailboxes p ≡ 0 → answers_to p journal ≡ []
answers_past manager sent processes mailboxes journal p mail holds nothing =
    let few : length (answers_to p journal) ≤ length (events_of p journal) = ∥∥₁_elim holds le_prop (λ h. h.answered_taken p) in
    nil_from_length (answers_to p journal) (let taken = mail.taken p in omega arith)

-- what is taken down of each process, also of one that isn't there, is the last answer to it in the journal
pub last_is : (manager : Manager) (sent : ℕ → List Request) (processes : ℕ) (mailboxes : List Mailbox) (last : LastAnswers) (journal : List Event) (p : ℕ)
    → IsMailKept processes mailboxes journal → AreLastAnswers processes last journal → ∥ Holds manager sent journal ∥₁
    → last_of last p ≡ latest None (answers_to p journal)
last_is manager sent processes mailboxes last journal p h h2 h3 = search (rules, answers_past, last_past, taken_past, cases_lt)

-- its number is how many answers there are
pub last_number : (manager : Manager) (sent : ℕ → List Request) (journal : List Event) (p : ℕ) (last : Option declared.Answer)
    → ∥ Holds manager sent journal ∥₁ → last ≡ latest None (answers_to p journal) → number_in last ≡ length (answers_to p journal)
last_number manager sent journal p last holds is =
    ap number_in is ∙ latest_number 0 None (answers_to p journal) refl (answers_numbered manager sent journal p holds) ∙ omega arith

-- it is found by its number, and no answer by a greater one or where there is none
pub last_found : (manager : Manager) (sent : ℕ → List Request) (journal : List Event) (p n : ℕ) (last : declared.Answer)
    → ∥ Holds manager sent journal ∥₁ → Some last ≡ latest None (answers_to p journal) → n ≡ last.n → reply_among n (answers_to p journal) ≡ Some last.reply
last_found manager sent journal p n last holds is same =
    let numbered = answers_numbered manager sent journal p holds in
    let many = last_number manager sent journal p (Some last) holds is in
    latest_found n 0 None (answers_to p journal) last refl numbered (sym is) same (some_told (answers_to p journal) is many)
  where
    some_told : (answers : List (ℕ × Reply × ℕ)) → Some last ≡ latest None answers → last.n ≡ length answers → 0 < n
    some_told [] is many = absurd (let no : Some last ≡ None = is in cc)
    some_told (x ∷ xs) is many = omega (arith, many, same)

pub last_past_all : (manager : Manager) (sent : ℕ → List Request) (journal : List Event) (p n : ℕ) (last : declared.Answer)
    → ∥ Holds manager sent journal ∥₁ → Some last ≡ latest None (answers_to p journal) → last.n < n → reply_among n (answers_to p journal) ≡ None
last_past_all manager sent journal p n last holds is past =
    let many = last_number manager sent journal p (Some last) holds is in
    none_past n 0 (answers_to p journal) (answers_numbered manager sent journal p holds) (omega (arith, many))

pub none_found : (journal : List Event) (p n : ℕ) → None ≡ latest None (answers_to p journal) → reply_among n (answers_to p journal) ≡ None
none_found journal p n is = ap (reply_among n) (none_told (answers_to p journal) (sym is))
