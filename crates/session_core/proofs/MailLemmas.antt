-- Mailboxes by process: what is written to one of them, and what stays; for `Session::arrive`, `Session::new`, `Session::next_mail` and others.
use Rattle.session_core.proofs.Common.{rules, ℕ, zero, suc, ◌≡◌, ◌≢◌, ◌+◌, ◌-◌, ◌<◌, ◌≤◌, refl, sym, ◌∙◌, ap, subst, arith, length, length-append, take, drop, slice_get, set, get_or, List, [], ◌∷◌, ◌++◌, Some, Option, Result, Ok, Err, eq-eqb, ne_eqb, ⊎_elim, common_steps, ◌==◌, if◌then◌else◌, IsNone, IsTrue, length-set, length-map, append-nil, append_assoc, cases_eq}
use Rattle.session_core.proofs.Common.{Request, Manager, events_of, manager_of, events_in, sent_of, Mailbox, ProcState, Live, next_untaken, taken_in, mail_waiting, mail_sent, mail_taken, IsMailKept, Event, requests_taken, Holds, request_limit}
use Rattle.std.proofs.Math.Seq.{take-append-add}
use Rattle.std.specs.Prelude.{IsSome, OnErr}
use Rattle.std.proofs.lemmas.List.{get_or-set_same}
use Rattle.std.proofs.lemmas.Option.{slice_get-get_or}
use Rattle.fd_table.specs.declared.Limits.{Limits}
use Rattle.fd_table.specs.declared.Limits.TheVariants.{Small, Wide}
use Rattle.fd_table.specs.Descriptors.{process_limit}
use Rattle.session_core.specs.declared.session.Session.{Session}
use Rattle.session_core.specs.SessionView.{SameSession, Arrives, TakesRequest, sent_with}
use Rattle.wait_core.specs.declared.processes.ProcessSet.{ProcessSet}
use Rattle.wait_core.specs.Processes.{is_member}
use Rattle.session_core.specs.Mailboxes.{mailbox_of, waiting_in, HasMail, IsInside, IsMailInside}

-- the place that is written has the new value
pub slice_get-set_same : {X : Type 0} (xs : List X) (i : ℕ) (x : X) → i < length xs → slice_get (set xs i x) i ≡ Some x
slice_get-set_same xs i x within =
    slice_get-get_or (set xs i x) i x (rw length-set within) ∙ ap (λ y. Some y) (get_or-set_same xs i x x within)

-- every other place keeps its value
pub slice_get-set_other : {X : Type 0} (xs : List X) (i j : ℕ) (x : X) → j ≢ i → slice_get (set xs i x) j ≡ slice_get xs j
slice_get-set_other [] i j x other = refl
slice_get-set_other (y ∷ ys) zero zero x other = absurd (other refl)
slice_get-set_other (y ∷ ys) zero (suc j) x other = refl
slice_get-set_other (y ∷ ys) (suc i) zero x other = refl
slice_get-set_other (y ∷ ys) (suc i) (suc j) x other = slice_get-set_other ys i j x (λ e. other (ap suc e))

-- the mailbox of process p stands at this place
pub record StandsAt (mailboxes : List Mailbox) (place p : ℕ) (mailbox : Mailbox) : Type 0 where
  pub numbered : place + 1 ≡ p
  pub within : place < length mailboxes
  pub read : mailbox ≡ get_or mailboxes place mailbox

-- so it does where each process has one
pub StandsAt-index : (mailboxes : List Mailbox) (processes p index : ℕ) (mailbox : Mailbox) → length mailboxes ≡ processes → 1 ≤ p
    → p ≤ processes → index ≡ p → mailbox ≡ get_or mailboxes (index - 1) mailbox → StandsAt mailboxes (index - 1) p mailbox
StandsAt-index mailboxes processes p index mailbox each low high is read =
    record { numbered = omega arith; within = omega arith; read = read }

-- the mailbox of the process is there
pub mailbox_of-there : (mailboxes : List Mailbox) (place p : ℕ) (mailbox : Mailbox) → StandsAt mailboxes place p mailbox
    → mailbox_of mailboxes p ≡ Some mailbox
mailbox_of-there mailboxes place p mailbox h = grind (arith, common_steps, slice_get-get_or)

-- the mailbox that is written is the new one
pub mailbox_of-set_same : (mailboxes : List Mailbox) (place p : ℕ) (old new : Mailbox) → StandsAt mailboxes place p old
    → mailbox_of (set mailboxes place new) p ≡ Some new
mailbox_of-set_same mailboxes place p old new h = grind (arith, common_steps, slice_get-set_same)

-- every other mailbox stays
mailbox_of-set_other : (mailboxes : List Mailbox) (place p q : ℕ) (old new : Mailbox) → StandsAt mailboxes place p old → q ≢ p
    → mailbox_of (set mailboxes place new) q ≡ mailbox_of mailboxes q
mailbox_of-set_other mailboxes place p q old new h h2 = grind (arith, common_steps, slice_get-set_other)

-- what is read off a mailbox, where one was written
of_set : {X : Type 0} (f : Option Mailbox → X) (mailboxes : List Mailbox) (place p : ℕ) (old new : Mailbox)
    → StandsAt mailboxes place p old → (q : ℕ)
    → f (mailbox_of (set mailboxes place new) q) ≡ (if q == p then f (Some new) else f (mailbox_of mailboxes q))
of_set f mailboxes place p old new h q = search (rules, eq-eqb, mailbox_of-set_same, mailbox_of-set_other, cases_eq)

-- what waits, where a mailbox was written
pub mail_waiting-set : (mailboxes : List Mailbox) (place p : ℕ) (old new : Mailbox) → StandsAt mailboxes place p old → (q : ℕ)
    → mail_waiting (set mailboxes place new) q ≡ (if q == p then new.waiting.items else mail_waiting mailboxes q)
mail_waiting-set mailboxes place p old new at q = of_set waiting_in mailboxes place p old new at q

-- how much was taken, where a mailbox was written
pub mail_taken-set : (mailboxes : List Mailbox) (place p : ℕ) (old new : Mailbox) → StandsAt mailboxes place p old → (q : ℕ)
    → mail_taken (set mailboxes place new) q ≡ (if q == p then new.taken else mail_taken mailboxes q)
mail_taken-set mailboxes place p old new at q = of_set taken_in mailboxes place p old new at q

-- a choice by process that comes to the same on both sides
pub chosen_same : {X : Type 0} (f : ℕ → X) (p q : ℕ) (x : X) → x ≡ f p → (if q == p then x else f q) ≡ f q
chosen_same f p q x is =
    ⊎_elim (λ same. rw (eq-eqb q p same, same) is) (λ other. rw (ne_eqb q p other) refl) (cases_eq q p)

-- a mailbox that is written with the same taken number leaves all of them
pub mail_taken-kept : (mailboxes : List Mailbox) (place p : ℕ) (old new : Mailbox) → StandsAt mailboxes place p old
    → new.taken ≡ old.taken → (q : ℕ) → mail_taken (set mailboxes place new) q ≡ mail_taken mailboxes q
mail_taken-kept mailboxes place p old new at same q =
    mail_taken-set mailboxes place p old new at q
    ∙ chosen_same (mail_taken mailboxes) p q new.taken (same ∙ sym (ap taken_in (mailbox_of-there mailboxes place p old at)))

-- and with it the mail is kept
pub IsMailKept-written : (processes : ℕ) (mailboxes : List Mailbox) (journal : List Event) (place p : ℕ) (old new : Mailbox)
    → StandsAt mailboxes place p old → new.taken ≡ old.taken → IsMailKept processes mailboxes journal
    → IsMailKept processes (set mailboxes place new) journal
IsMailKept-written processes mailboxes journal place p old new h h2 h3 = search (rules, length-set, mail_taken-kept)

-- a mailbox that is written with the same requests leaves all that waits
pub mail_waiting-kept : (mailboxes : List Mailbox) (place p : ℕ) (old new : Mailbox) → StandsAt mailboxes place p old
    → new.waiting.items ≡ old.waiting.items → (q : ℕ) → mail_waiting (set mailboxes place new) q ≡ mail_waiting mailboxes q
mail_waiting-kept mailboxes place p old new at same q =
    mail_waiting-set mailboxes place p old new at q
    ∙ chosen_same (mail_waiting mailboxes) p q new.waiting.items (same ∙ sym (ap waiting_in (mailbox_of-there mailboxes place p old at)))

-- and all that was sent
pub mail_sent-kept : (mailboxes : List Mailbox) (journal : List Event) (place p : ℕ) (old new : Mailbox) → StandsAt mailboxes place p old
    → new.waiting.items ≡ old.waiting.items → (q : ℕ)
    → mail_sent (set mailboxes place new) journal q ≡ mail_sent mailboxes journal q
mail_sent-kept mailboxes journal place p old new at same q = ap (λ l. requests_taken q journal ++ l) (mail_waiting-kept mailboxes place p old new at same q)

-- what holds of a session holds where other mail waits, if not too much was sent then
pub Holds-sent : (manager : Manager) (mailboxes mailboxes' : List Mailbox) (journal : List Event)
    → ((q : ℕ) → length (mail_sent mailboxes' journal q) ≤ request_limit) → Holds manager (mail_sent mailboxes journal) journal
    → Holds manager (mail_sent mailboxes' journal) journal
Holds-sent manager mailboxes mailboxes' journal few holds = grind (arith, common_steps)

-- two lists without the last item of the second
take-behind : {X : Type 0} (xs ys : List X) → 0 < length ys
    → take (length (xs ++ ys) - 1) (xs ++ ys) ≡ xs ++ take (length ys - 1) ys
take-behind xs ys some =
    let long = length-append xs ys in
    let e : length (xs ++ ys) - 1 ≡ length xs + (length ys - 1) = omega arith in rw e (take-append-add xs ys (length ys - 1))

-- what a process sent, where the last request was taken out of its mailbox
pub mail_sent-withdrawn : (mailboxes : List Mailbox) (journal : List Event) (place p : ℕ) (old new : Mailbox)
    → StandsAt mailboxes place p old → 0 < length old.waiting.items
    → new.waiting.items ≡ take (length old.waiting.items - 1) old.waiting.items → (q : ℕ)
    → mail_sent (set mailboxes place new) journal q
    ≡ (if q == p then take (length (mail_sent mailboxes journal q) - 1) (mail_sent mailboxes journal q) else mail_sent mailboxes journal q)
mail_sent-withdrawn mailboxes journal place p old new at some shorter q =
    let there = ap waiting_in (mailbox_of-there mailboxes place p old at) in
    ap (λ l. requests_taken q journal ++ l) (mail_waiting-set mailboxes place p old new at q)
    ∙ ⊎_elim
    (λ same.
    rw (eq-eqb q p same, same)
    (ap (λ l. requests_taken p journal ++ l) shorter
    ∙ sym (take-behind (requests_taken p journal) old.waiting.items some)
    ∙ ap (λ l. take (length (requests_taken p journal ++ l) - 1) (requests_taken p journal ++ l)) (sym there)))
    (λ other. rw (ne_eqb q p other) refl)
    (cases_eq q p)

-- what a process sent, where its mailbox got one more request
pub mail_sent-pushed : (mailboxes : List Mailbox) (journal : List Event) (place p : ℕ) (old new : Mailbox) (request : Request)
    → StandsAt mailboxes place p old → new.waiting.items ≡ old.waiting.items ++ request ∷ [] → (q : ℕ)
    → mail_sent (set mailboxes place new) journal q
    ≡ (if q == p then mail_sent mailboxes journal q ++ request ∷ [] else mail_sent mailboxes journal q)
mail_sent-pushed mailboxes journal place p old new request at pushed q =
    let there = ap waiting_in (mailbox_of-there mailboxes place p old at) in
    ap (λ l. requests_taken q journal ++ l) (mail_waiting-set mailboxes place p old new at q)
    ∙ ⊎_elim
    (λ same.
    rw (eq-eqb q p same, same)
    (ap (λ l. requests_taken p journal ++ l) (pushed ∙ ap (λ l. l ++ request ∷ []) (sym there))
    ∙ sym (append_assoc (requests_taken p journal) (mail_waiting mailboxes p) (request ∷ []))))
    (λ other. rw (ne_eqb q p other) refl)
    (cases_eq q p)

-- how much a process sent: what was taken of it, and what waits
pub length-mail_sent : (processes : ℕ) (mailboxes : List Mailbox) (journal : List Event) → IsMailKept processes mailboxes journal
    → (p : ℕ) → length (mail_sent mailboxes journal p) ≡ mail_taken mailboxes p + length (mail_waiting mailboxes p)
length-mail_sent processes mailboxes journal mail p = grind (arith, common_steps, length-append, length-map)

-- the same of a mailbox that is there
pub length-mail_sent-there : (processes : ℕ) (mailboxes : List Mailbox) (journal : List Event) (p : ℕ) (mailbox : Mailbox)
    → IsMailKept processes mailboxes journal → mailbox_of mailboxes p ≡ Some mailbox
    → length (mail_sent mailboxes journal p) ≡ mailbox.taken + length mailbox.waiting.items
length-mail_sent-there processes mailboxes journal p mailbox mail there =
    length-mail_sent processes mailboxes journal mail p ∙ ap (λ m. taken_in m + length (waiting_in m)) there

-- a request that arrived, and was taken back where nothing else changed, leaves a session that shows the same
pub SameSession-withdrawn : (old between refused new : Session) (p : ℕ) (request : Request) (n : ℕ) → Arrives old between p request n
    → SameSession between refused
    → ((q : ℕ) → sent_of new q ≡ (if q == p then take (length (sent_of refused q) - 1) (sent_of refused q) else sent_of refused q))
    → events_in new ≡ events_in refused → manager_of new ≡ manager_of refused → SameSession old new
SameSession-withdrawn old between refused new p request n arrived same shorter same_journal same_manager =
    grind (arith, common_steps, eq-eqb, take-behind, append-nil, cases_eq)

-- a request that arrived and was taken then is taken as one
pub TakesRequest-arrived : (old between new : Session) (p : ℕ) (request : Request) (n place : ℕ) → Arrives old between p request n
    → TakesRequest between new p request (sent_of between) place → TakesRequest old new p request (sent_with old p request) place
TakesRequest-arrived old between new p request n place arrived took = search (rules)

-- where a request in the mailbox of a process wasn't taken, the process has such mail
pub HasMail-there : (mailboxes : List Mailbox) (place p : ℕ) (mailbox : Mailbox) → StandsAt mailboxes place p mailbox
    → 0 < length mailbox.waiting.items → HasMail mailboxes p
HasMail-there mailboxes place p mailbox at some =
    subst (λ m. 0 < length (waiting_in m)) (sym (mailbox_of-there mailboxes place p mailbox at)) some

-- a mailbox is written: the mail stays inside a set that has each other process still, where that of its process does
pub IsMailInside-set : (mailboxes : List Mailbox) (place p : ℕ) (old new : Mailbox) (senders senders' : ProcessSet) → StandsAt mailboxes place p old
    → ((q : ℕ) → q ≢ p → IsInside senders q → IsInside senders' q) → (0 < length new.waiting.items → IsInside senders' p)
    → IsMailInside senders mailboxes → IsMailInside senders' (set mailboxes place new)
IsMailInside-set mailboxes place p old new senders senders' at others own inside q mail =
    let written = mail_waiting-set mailboxes place p old new at q in
    ⊎_elim
    (λ same.
    let is : (if q == p then new.waiting.items else mail_waiting mailboxes q) ≡ new.waiting.items = rw (eq-eqb q p same) refl in
    subst (IsInside senders') (sym same) (own (subst (λ l. 0 < length l) (written ∙ is) mail)))
    (λ other.
    let is : (if q == p then new.waiting.items else mail_waiting mailboxes q) ≡ mail_waiting mailboxes q = rw (ne_eqb q p other) refl in
    others q other (inside q (subst (λ l. 0 < length l) (written ∙ is) mail)))
    (cases_eq q p)

-- what stands right behind a list is the first of what follows it
pub slice_get-behind : {X : Type 0} (xs ys : List X) → slice_get (xs ++ ys) (length xs) ≡ slice_get ys 0
slice_get-behind [] ys = refl
slice_get-behind (x ∷ xs) ys = slice_get-behind xs ys

-- the next request of a process is the first that waits
pub next_untaken-waits : (mailboxes : List Mailbox) (journal : List Event) (p : ℕ)
    → next_untaken (mail_sent mailboxes journal) journal p ≡ slice_get (mail_waiting mailboxes p) 0
next_untaken-waits mailboxes journal p = grind (arith, common_steps, length-map, slice_get-behind)

-- there are 64 processes at most, whatever the limits
pub few_processes : (limits : Limits) (processes : ℕ) → processes ≤ process_limit limits → processes ≤ 64
few_processes Small processes within = omega (arith, within)
few_processes Wide processes within = within

-- no live process of the set has a next request
abbrev pub HaveNoMail : ProcessSet → (ℕ → ProcState) → List Mailbox → Type 0
HaveNoMail set states mailboxes =
    (q : ℕ) → q ≤ 64 → IsTrue (is_member set q) → states q ≡ Live → IsNone (slice_get (mail_waiting mailboxes q) 0)

-- where the first request of a process is there, it stands in its mailbox
pub some_waits : (mailboxes : List Mailbox) (place p : ℕ) (mailbox : Mailbox) → StandsAt mailboxes place p mailbox
    → IsSome (slice_get (mail_waiting mailboxes p) 0) → 0 < length mailbox.waiting.items
some_waits mailboxes place p mailbox at some = grind (arith, common_steps, mailbox_of-there)

-- so there is one in it where it is known
pub waits_first : (mailboxes : List Mailbox) (place p : ℕ) (mailbox : Mailbox) (request : Request) → StandsAt mailboxes place p mailbox
    → slice_get (mail_waiting mailboxes p) 0 ≡ Some request → 0 < length mailbox.waiting.items
waits_first mailboxes place p mailbox request at next = some_waits mailboxes place p mailbox at (subst IsSome (sym next) refl)

-- what holds anyhow holds where there is a fault
pub OnErr-always : {T E : Type 0} (result : Result T E) (P : Type 0) → P → OnErr result P
OnErr-always (Ok x) P p = tt
OnErr-always (Err fault) P p = p

-- where the first request in a mailbox is taken, it is of the mail of its process
pub waiting_dropped : (mailboxes : List Mailbox) (place p : ℕ) (before after : Mailbox) → StandsAt mailboxes place p before
    → after.waiting.items ≡ drop 1 before.waiting.items → (q : ℕ)
    → mail_waiting (set mailboxes place after) q ≡ (if q == p then drop 1 (mail_waiting mailboxes q) else mail_waiting mailboxes q)
waiting_dropped mailboxes place p before after at rest q =
    mail_waiting-set mailboxes place p before after at q
    ∙ ⊎_elim
    (λ same. rw (eq-eqb q p same, same) (rest ∙ ap (drop 1) (sym (ap waiting_in (mailbox_of-there mailboxes place p before at)))))
    (λ other. rw (ne_eqb q p other) refl)
    (cases_eq q p)

nothing_first : {X : Type 0} (xs : List X) → IsNone (slice_get xs 0) → xs ≡ []
nothing_first [] none = refl
nothing_first (x ∷ xs) none = cc

-- where no request of a process waits, its mailbox is empty
pub none_waits : (mailboxes : List Mailbox) (place p : ℕ) (mailbox : Mailbox) → StandsAt mailboxes place p mailbox
    → IsNone (slice_get (mail_waiting mailboxes p) 0) → mailbox.waiting.items ≡ []
none_waits mailboxes place p mailbox at none =
    sym (ap waiting_in (mailbox_of-there mailboxes place p mailbox at)) ∙ nothing_first (mail_waiting mailboxes p) none

-- and all that it sent was taken
pub all_taken : (mailboxes : List Mailbox) (journal : List Event) (p : ℕ) → IsNone (slice_get (mail_waiting mailboxes p) 0)
    → length (mail_sent mailboxes journal p) ≡ length (events_of p journal)
all_taken mailboxes journal p none =
    let empty = nothing_first (mail_waiting mailboxes p) none in
    ap length (ap (λ l. requests_taken p journal ++ l) empty ∙ append-nil (requests_taken p journal)) ∙ length-map (events_of p journal) (λ e. e.request)

-- where all that a process sent was taken, one request more is its next
pub next_untaken-more : (sent : ℕ → List Request) (journal : List Event) (p : ℕ) (request : Request) → length (sent p) ≡ length (events_of p journal)
    → next_untaken (λ q. if q == p then sent q ++ request ∷ [] else sent q) journal p ≡ Some request
next_untaken-more sent journal p request all =
    ap (λ b. slice_get (if b then sent p ++ request ∷ [] else sent p) (length (events_of p journal))) (eq-eqb p p refl)
    ∙ ap (λ n. slice_get (sent p ++ request ∷ []) n) (sym all) ∙ slice_get-behind (sent p) (request ∷ [])
