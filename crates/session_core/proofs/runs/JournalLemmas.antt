-- A journal with one more event: for `Session::arrive`, `Session::new`, `Session::take` and `Session::withdraw`.
use Rattle.session_core.proofs.Common.{rules, ℕ, zero, suc, ◌≡◌, ◌≢◌, ◌+◌, ◌≤◌, refl, sym, ◌∙◌, ap, subst, arith, eq-eqb, ne_eqb, length, length-append, set, List, [], ◌∷◌, ◌++◌, ⊎_elim, Option, Some, None, IfSome, All, slice_get, drop, common_steps, ◌==◌, if◌then◌else◌, IsNone, cases_eq, length-map, length-set, map-append, append_assoc, append-nil, filter-append, ∥∥₁_map}
use Rattle.session_core.proofs.Common.{Request, Manager, State, opening_state, StandsFor, rules_of, processes_of, Mailbox, Event, AreLastAnswers, AreTold, mail_waiting, mail_sent, mail_taken, taken_in, IsMailKept, IsEmptyMailbox, IsStep, IsRun, events_of, requests_taken, next_untaken, Holds, request_limit}
use Rattle.std.specs.List.{AllByRecursion as Each}
use Rattle.std.proofs.lemmas.List.Elements.{recursion_from_All}
use Rattle.lock_manager.specs.ManagerView.{SameManager, IsSafeManager}
use Rattle.session_core.specs.declared.answers.LastAnswers.{LastAnswers}
use Rattle.session_core.specs.Told.{IsServed}
use Rattle.session_core.specs.Mailboxes.{waiting_in}
use Rattle.session_core.specs.Runs.{AreNumbered}
use Rattle.session_core.specs.Mail.{IsPrefixOf}
use Rattle.session_core.specs.Draining.{IsReplayed}
use Rattle.session_core.specs.Headline.{AreWithinLimits}
use Rattle.session_core.proofs.runs.HeadlineLaws.{Holds-from}
use Rattle.session_core.proofs.LeadsLemmas.{Leads-push}
use Rattle.session_core.proofs.MailLemmas.{StandsAt, mailbox_of-there, mail_waiting-set, mail_waiting-kept, mail_taken-set, length-mail_sent, next_untaken-waits, next_untaken-more, none_waits, all_taken}

-- one more event of the process
pub events_of-push_own : (q : ℕ) (journal : List Event) (event : Event) → event.p ≡ q
    → events_of q (journal ++ event ∷ []) ≡ events_of q journal ++ event ∷ []
events_of-push_own q journal event own =
    filter-append (λ e. e.p == q) journal (event ∷ []) ∙ rw (eq-eqb event.p q own) refl

-- one more event of another process
pub events_of-push_other : (q : ℕ) (journal : List Event) (event : Event) → event.p ≢ q
    → events_of q (journal ++ event ∷ []) ≡ events_of q journal
events_of-push_other q journal event other =
    filter-append (λ e. e.p == q) journal (event ∷ []) ∙ rw (ne_eqb event.p q other) (append-nil (events_of q journal))

-- how many events of a process there are then
pub length-events_of-push : (q : ℕ) (journal : List Event) (event : Event)
    → length (events_of q (journal ++ event ∷ [])) ≡ (if q == event.p then length (events_of q journal) + 1 else length (events_of q journal))
length-events_of-push q journal event = grind (arith, common_steps, eq-eqb, events_of-push_own, length-append, events_of-push_other, cases_eq)

-- and which requests were taken of it
requests_taken-push_own : (q : ℕ) (journal : List Event) (event : Event) → event.p ≡ q
    → requests_taken q (journal ++ event ∷ []) ≡ requests_taken q journal ++ event.request ∷ []
requests_taken-push_own q journal event own = grind (arith, common_steps, events_of-push_own, map-append)

requests_taken-push_other : (q : ℕ) (journal : List Event) (event : Event) → event.p ≢ q
    → requests_taken q (journal ++ event ∷ []) ≡ requests_taken q journal
requests_taken-push_other q journal event other = grind (arith, common_steps, events_of-push_other)

-- what is at a place of a list with one more item
IfSome-push : {X : Type 0} (P : X → ℕ → Type 0) (xs : List X) (x : X) → ((place : ℕ) → IfSome (slice_get xs place) (λ y. P y place))
    → P x (length xs) → (place : ℕ) → IfSome (slice_get (xs ++ x ∷ []) place) (λ y. P y place)
IfSome-push P [] x h here zero = here
IfSome-push P [] x h here (suc place) = tt
IfSome-push P (y ∷ ys) x h here zero = h zero
IfSome-push P (y ∷ ys) x h here (suc place) = IfSome-push (λ z n. P z (suc n)) ys x (λ k. h (suc k)) here place

-- the numbers by process, with one more event that has the next number of its process
pub AreNumbered-push : (journal : List Event) (event : Event) → event.n ≡ length (events_of event.p journal) + 1 → AreNumbered journal
    → AreNumbered (journal ++ event ∷ [])
AreNumbered-push journal event number numbered q place =
    ⊎_elim
    (λ own.
    let last : event.n ≡ length (events_of q journal) + 1 = number ∙ ap (λ r. length (events_of r journal) + 1) own in
    subst (λ l. IfSome (slice_get l place) (λ e. e.n ≡ place + 1)) (sym (events_of-push_own q journal event own))
    (IfSome-push (λ e n. e.n ≡ n + 1) (events_of q journal) event (numbered q) last place))
    (λ other.
    subst (λ l. IfSome (slice_get l place) (λ e. e.n ≡ place + 1)) (sym (events_of-push_other q journal event other)) (numbered q place))
    (cases_eq event.p q)

-- a replayed journal with one more step of the manager
pub IsReplayed-push : (old new : Manager) (journal : List Event) (event : Event) → event.n ≡ length (events_of event.p journal) + 1
    → rules_of new ≡ rules_of old → processes_of new ≡ processes_of old
    → ((S : State) → StandsFor old S → (T : State) × IsStep (rules_of old) (processes_of old) S event T × StandsFor new T)
    → IsReplayed old journal → IsReplayed new (journal ++ event ∷ [])
IsReplayed-push old new journal event number same_rules same_processes steps r = grind (arith, common_steps, Leads-push, AreNumbered-push)

-- what stands right after a prefix begins the rest
next_of_prefix : {X : Type 0} (xs rest : List X) (x : X) → slice_get (xs ++ rest) (length xs) ≡ Some x
    → (more : List X) × (rest ≡ x ∷ more)
next_of_prefix [] [] x h = cc
next_of_prefix [] (y ∷ ys) x h = let same : y ≡ x = cc in (ys, ap (λ z. z ∷ ys) same)
next_of_prefix (z ∷ zs) rest x h = next_of_prefix zs rest x h

-- the requests that were taken stay a prefix where the next one is taken
taken_in_order-push : (sent : ℕ → List Request) (journal : List Event) (event : Event)
    → next_untaken sent journal event.p ≡ Some event.request → ((p : ℕ) → IsPrefixOf (requests_taken p journal) (sent p)) → (p : ℕ)
    → IsPrefixOf (requests_taken p (journal ++ event ∷ [])) (sent p)
taken_in_order-push sent journal event next h p =
    ⊎_elim
    (λ own.
    let taken = requests_taken p journal in
    let rest = (h p).0 in
    let many : length (events_of p journal) ≡ length taken = sym (length-map (events_of p journal) (λ e. e.request)) in
    let at : slice_get (taken ++ rest) (length taken) ≡ Some event.request =
    ap (λ l. slice_get l (length taken)) (sym (h p).1) ∙ ap (λ n. slice_get (sent p) n) (sym many)
    ∙ ap (λ q. next_untaken sent journal q) (sym own) ∙ next in
    let split = next_of_prefix taken rest event.request at in
    let pushed = requests_taken-push_own p journal event own in (
      split.0,
      (h p).1 ∙ ap (λ l. taken ++ l) split.1 ∙ sym (append_assoc taken (event.request ∷ []) split.0) ∙ ap (λ l. l ++ split.0) (sym pushed),
    ))
    (λ other. ((h p).0, (h p).1 ∙ ap (λ l. l ++ (h p).0) (sym (requests_taken-push_other p journal event other))))
    (cases_eq event.p p)

-- under the same rules, with as many processes, all is within the limits still
within_limits_still : (old new : Manager) (sent : ℕ → List Request) → rules_of new ≡ rules_of old → processes_of new ≡ processes_of old
    → AreWithinLimits old sent → AreWithinLimits new sent
within_limits_still old new sent same_rules same_processes h =
    record { some = rw same_processes h.some; few = rw (same_processes, same_rules) h.few; requests = h.requests }

-- the headline holds after one more event, which the manager took
pub Holds-push : (old new : Manager) (sent : ℕ → List Request) (journal : List Event) (event : Event) → 1 ≤ processes_of old
    → next_untaken sent journal event.p ≡ Some event.request → event.n ≡ length (events_of event.p journal) + 1
    → rules_of new ≡ rules_of old → processes_of new ≡ processes_of old
    → ((S : State) → StandsFor old S → (T : State) × IsStep (rules_of old) (processes_of old) S event T × StandsFor new T)
    → IsSafeManager new → Holds old sent journal → Holds new sent (journal ++ event ∷ [])
Holds-push old new sent journal event some next number same_rules same_processes steps safe h =
    Holds-from new sent (journal ++ event ∷ []) (within_limits_still old new sent same_rules same_processes h.within_limits)
    (taken_in_order-push sent journal event next h.taken_in_order) safe
    (IsReplayed-push old new journal event number same_rules same_processes steps h.replayed)

-- the headline holds where the manager shows the same and the journal is the same
pub Holds-same : (old new : Manager) (sent : ℕ → List Request) (journal journal' : List Event) → 1 ≤ processes_of old
    → journal' ≡ journal → SameManager old new → IsSafeManager new → Holds old sent journal → Holds new sent journal'
Holds-same old new sent journal journal' some same_journal same safe h =
    let r = h.replayed in
    let run : IsRun (rules_of new) (processes_of new) journal r.state =
    subst (λ rules. IsRun rules (processes_of new) journal r.state) (sym same.rules)
    (subst (λ processes. IsRun (rules_of old) processes journal r.state) (sym same.processes) r.run) in
    subst (λ l. Holds new sent l) (sym same_journal)
    (Holds-from new sent journal (within_limits_still old new sent same.rules same.processes h.within_limits) h.taken_in_order safe
    (record { state = r.state; run = run; stands = same.stands r.state r.stands }))

-- what was taken was so where the manager shows the same
pub AreTold-same : (old new : Manager) (mailboxes : List Mailbox) (answers : LastAnswers) (journal : List Event) → SameManager old new → IsSafeManager new
    → AreTold old mailboxes answers journal → AreTold new mailboxes answers journal
AreTold-same old new mailboxes answers journal same safe told =
    record {
      mail = subst (λ n. IsMailKept n mailboxes journal) (sym same.processes) told.mail;
      answered = subst (λ n. AreLastAnswers n answers journal) (sym same.processes) told.answered;
      holds = ∥∥₁_map told.holds (Holds-same old new _ journal journal told.mail.some refl same safe);
    }

-- no process has sent more than it may
pub mail_sent-few : (processes : ℕ) (mailboxes : List Mailbox) (journal : List Event) → IsMailKept processes mailboxes journal → (p : ℕ)
    → length (mail_sent mailboxes journal p) ≤ request_limit
mail_sent-few processes mailboxes journal mail p = grind (arith, common_steps, length-mail_sent)

-- where the next request of a process is there, it is the first in its mailbox
pub next_within : (mailboxes : List Mailbox) (place p : ℕ) (mailbox : Mailbox) (journal : List Event) (request : Request)
    → StandsAt mailboxes place p mailbox → next_untaken (mail_sent mailboxes journal) journal p ≡ Some request
    → mailbox.waiting.items ≡ request ∷ drop 1 mailbox.waiting.items
next_within mailboxes place p mailbox journal request h h2 = grind (arith, common_steps, mailbox_of-there, next_untaken-waits)

-- what each process sent stays, where the first request in a mailbox is taken
mail_sent-taken : (mailboxes : List Mailbox) (place p : ℕ) (before after : Mailbox) (journal : List Event) (event : Event)
    → StandsAt mailboxes place p before → event.p ≡ p → before.waiting.items ≡ event.request ∷ after.waiting.items → (q : ℕ)
    → mail_sent (set mailboxes place after) (journal ++ event ∷ []) q ≡ mail_sent mailboxes journal q
mail_sent-taken mailboxes place p before after journal event at own first q =
    let there = ap waiting_in (mailbox_of-there mailboxes place p before at) in
    let written = mail_waiting-set mailboxes place p before after at q in
    ⊎_elim
    (λ same.
    let rest : mail_waiting (set mailboxes place after) q ≡ after.waiting.items = written ∙ rw (eq-eqb q p same) refl in
    ap (λ l. l ++ mail_waiting (set mailboxes place after) q) (requests_taken-push_own q journal event (own ∙ sym same))
    ∙ ap (λ l. (requests_taken q journal ++ event.request ∷ []) ++ l) rest
    ∙ append_assoc (requests_taken q journal) (event.request ∷ []) after.waiting.items
    ∙ ap (λ l. requests_taken q journal ++ l) (sym first ∙ sym there ∙ ap (mail_waiting mailboxes) (sym same)))
    (λ other.
    let rest : mail_waiting (set mailboxes place after) q ≡ mail_waiting mailboxes q = written ∙ rw (ne_eqb q p other) refl in
    ap (λ l. l ++ mail_waiting (set mailboxes place after) q) (requests_taken-push_other q journal event (λ e. other (sym e ∙ own)))
    ∙ ap (λ l. requests_taken q journal ++ l) rest)
    (cases_eq q p)

-- the mail is kept where one more was taken of the process of one more event
pub IsMailKept-push : (processes : ℕ) (mailboxes : List Mailbox) (place p : ℕ) (old new : Mailbox) (journal journal' : List Event)
    (event : Event) → StandsAt mailboxes place p old → new.taken ≡ old.taken + 1 → event.p ≡ p → journal' ≡ journal ++ event ∷ []
    → IsMailKept processes mailboxes journal → IsMailKept processes (set mailboxes place new) journal'
IsMailKept-push processes mailboxes place p old new journal journal' event at one own same h =
    let there : mail_taken mailboxes p ≡ old.taken = ap taken_in (mailbox_of-there mailboxes place p old at) in
    record {
      some = h.some;
      one_each = rw length-set h.one_each;
      taken = λ q.
          mail_taken-set mailboxes place p old new at q
          ∙ subst (λ l. (if q == p then new.taken else mail_taken mailboxes q) ≡ length (events_of q l)) (sym same)
          (⊎_elim
          (λ e.
          let more : length (events_of q (journal ++ event ∷ [])) ≡ length (events_of q journal) + 1 =
          ap length (events_of-push_own q journal event (own ∙ sym e)) ∙ length-append (events_of q journal) (event ∷ []) in
          let kept : mail_taken mailboxes p ≡ length (events_of q journal) = ap (mail_taken mailboxes) (sym e) ∙ h.taken q in
          rw (eq-eqb q p e) (omega arith))
          (λ other.
          let as_many : length (events_of q (journal ++ event ∷ [])) ≡ length (events_of q journal) =
          ap length (events_of-push_other q journal event (λ e. other (sym e ∙ own))) in
          rw (ne_eqb q p other) (h.taken q ∙ sym as_many))
          (cases_eq q p));
    }

-- what each process sent stays, where the manager took the next request of a process
pub mail_sent-took : (mailboxes : List Mailbox) (place p : ℕ) (before after : Mailbox) (journal journal' : List Event) (event : Event)
    → StandsAt mailboxes place p before → after.waiting.items ≡ drop 1 before.waiting.items → event.p ≡ p
    → journal' ≡ journal ++ event ∷ [] → next_untaken (mail_sent mailboxes journal) journal p ≡ Some event.request → (q : ℕ)
    → mail_sent (set mailboxes place after) journal' q ≡ mail_sent mailboxes journal q
mail_sent-took mailboxes place p before after journal journal' event h h2 h3 h4 h5 q = search (rules, next_within, mail_sent-taken)

-- and so does the headline
pub Holds-taken : (old new : Manager) (mailboxes mailboxes' : List Mailbox) (journal journal' : List Event)
    (event : Event) → 1 ≤ processes_of old → ((q : ℕ) → mail_sent mailboxes' journal' q ≡ mail_sent mailboxes journal q)
    → journal' ≡ journal ++ event ∷ [] → next_untaken (mail_sent mailboxes journal) journal event.p ≡ Some event.request
    → event.n ≡ length (events_of event.p journal) + 1 → rules_of new ≡ rules_of old → processes_of new ≡ processes_of old
    → ((S : State) → StandsFor old S → (T : State) × IsStep (rules_of old) (processes_of old) S event T × StandsFor new T)
    → IsSafeManager new → Holds old (mail_sent mailboxes journal) journal → Holds new (mail_sent mailboxes' journal') journal'
Holds-taken old new mailboxes mailboxes' journal journal' event some sent same next number same_rules same_processes steps safe h =
    let kept : mail_sent mailboxes' journal' ≡ mail_sent mailboxes journal = λ i q. sent q i in
    subst (λ f. Holds new f journal') (sym kept)
    (subst (λ l. Holds new (mail_sent mailboxes journal) l) (sym same)
    (Holds-push old new (mail_sent mailboxes journal) journal event some next number same_rules same_processes steps safe h))

-- what each process sent, where a request came and was taken in one, of a process without mail
pub mail_sent-passed : (mailboxes : List Mailbox) (place p : ℕ) (before after : Mailbox) (journal : List Event) (event : Event)
    → StandsAt mailboxes place p before → event.p ≡ p → before.waiting.items ≡ [] → after.waiting.items ≡ before.waiting.items → (q : ℕ)
    → mail_sent (set mailboxes place after) (journal ++ event ∷ []) q
    ≡ (if q == p then mail_sent mailboxes journal q ++ event.request ∷ [] else mail_sent mailboxes journal q)
mail_sent-passed mailboxes place p before after journal event at own empty kept q =
    let stays = mail_waiting-kept mailboxes place p before after at kept q in
    ⊎_elim
    (λ same.
    let none : mail_waiting mailboxes q ≡ [] = ap (mail_waiting mailboxes) same ∙ ap waiting_in (mailbox_of-there mailboxes place p before at) ∙ empty in
    let taken = requests_taken q journal in
    rw (eq-eqb q p same)
    (ap (λ l. l ++ mail_waiting (set mailboxes place after) q) (requests_taken-push_own q journal event (own ∙ sym same))
    ∙ ap (λ l. (taken ++ event.request ∷ []) ++ l) (stays ∙ none)
    ∙ append-nil (taken ++ event.request ∷ [])
    ∙ ap (λ l. l ++ event.request ∷ []) (sym (append-nil taken) ∙ ap (λ l. taken ++ l) (sym none))))
    (λ other.
    rw (ne_eqb q p other)
    (ap (λ l. l ++ mail_waiting (set mailboxes place after) q) (requests_taken-push_other q journal event (λ e. other (sym e ∙ own)))
    ∙ ap (λ l. requests_taken q journal ++ l) stays))
    (cases_eq q p)

-- the headline holds where each process sent more, but not more than it may
Holds-more : (manager : Manager) (sent sent' : ℕ → List Request) (journal : List Event)
    → ((q : ℕ) → (more : List Request) × (sent' q ≡ sent q ++ more)) → ((q : ℕ) → length (sent' q) ≤ request_limit)
    → Holds manager sent journal → Holds manager sent' journal
Holds-more manager sent sent' journal more few h =
    record {
      taken_in_order = λ p.
          let rest = h.taken_in_order p in
          (rest.0 ++ (more p).0, (more p).1 ∙ ap (λ l. l ++ (more p).0) rest.1 ∙ append_assoc (requests_taken p journal) rest.0 (more p).0);
      answered_once = h.answered_once;
      answers_numbered = h.answers_numbered;
      answered_taken = h.answered_taken;
      answered_in_turn = h.answered_in_turn;
      within_limits = record { some = h.within_limits.some; few = h.within_limits.few; requests = few };
      told_in_range = h.told_in_range;
      quiet_before_birth = h.quiet_before_birth;
      quiet_after_end = h.quiet_after_end;
      safe = h.safe;
      replayed = h.replayed;
    }

one_more : (sent : ℕ → List Request) (p : ℕ) (request : Request) (q : ℕ)
    → (more : List Request) × ((if q == p then sent q ++ request ∷ [] else sent q) ≡ sent q ++ more)
one_more sent p request q =
    ⊎_elim
    (λ same. (request ∷ [], rw (eq-eqb q p same) refl))
    (λ other. ([], rw (ne_eqb q p other) (sym (append-nil (sent q)))))
    (cases_eq q p)

-- the headline holds where a request came and was taken in one, of a process of which all was taken
Holds-passed : (old new : Manager) (sent sent' : ℕ → List Request) (journal : List Event) (event : Event) → 1 ≤ processes_of old
    → ((q : ℕ) → sent' q ≡ (if q == event.p then sent q ++ event.request ∷ [] else sent q)) → ((q : ℕ) → length (sent' q) ≤ request_limit)
    → length (sent event.p) ≡ length (events_of event.p journal) → event.n ≡ length (events_of event.p journal) + 1
    → rules_of new ≡ rules_of old → processes_of new ≡ processes_of old
    → ((S : State) → StandsFor old S → (T : State) × IsStep (rules_of old) (processes_of old) S event T × StandsFor new T)
    → IsSafeManager new → Holds old sent journal → Holds new sent' (journal ++ event ∷ [])
Holds-passed old new sent sent' journal event some is few all number same_rules same_processes steps safe h =
    let with_one : ℕ → List Request = λ q. if q == event.p then sent q ++ event.request ∷ [] else sent q in
    let same : sent' ≡ with_one = λ i q. is q i in
    subst (λ f. Holds new f (journal ++ event ∷ [])) (sym same)
    (Holds-push old new with_one journal event some (next_untaken-more sent journal event.p event.request all) number same_rules same_processes steps safe
    (Holds-more old sent with_one journal (one_more sent event.p event.request) (λ q. subst (λ l. length l ≤ request_limit) (is q) (few q)) h))

-- what was taken is so behind one event more, which took the next request of a process out of its mailbox
pub AreTold-taken : (old new : Manager) (mailboxes : List Mailbox) (place p : ℕ) (before after : Mailbox) (answers answers' : LastAnswers) (request : Request)
    (journal : List Event) (event : Event) → StandsAt mailboxes place p before → after.waiting.items ≡ drop 1 before.waiting.items
    → after.taken ≡ before.taken + 1 → slice_get (mail_waiting mailboxes p) 0 ≡ Some request → IsServed old new answers' p request journal event
    → AreTold old mailboxes answers journal → AreTold new (set mailboxes place after) answers' (journal ++ event ∷ [])
AreTold-taken old new mailboxes place p before after answers answers' request journal event at rest one first served told =
    let next : next_untaken (mail_sent mailboxes journal) journal event.p ≡ Some event.request =
    rw (served.process, served.request_is) (next_untaken-waits mailboxes journal p ∙ first) in
    let own : next_untaken (mail_sent mailboxes journal) journal p ≡ Some event.request =
    ap (next_untaken (mail_sent mailboxes journal) journal) (sym served.process) ∙ next in
    let number : event.n ≡ length (events_of event.p journal) + 1 = rw served.process served.number in
    record {
      mail = IsMailKept-push _ mailboxes place p before after journal _ event at one served.process refl
          (subst (λ n. IsMailKept n mailboxes journal) (sym served.processes) told.mail);
      answered = served.answered;
      holds =
          ∥∥₁_map told.holds
          (Holds-taken old new mailboxes _ journal _ event told.mail.some (mail_sent-took mailboxes place p before after journal _ event at rest served.process refl own)
          refl next number served.rules served.processes served.step served.safe);
    }

-- and behind one that came and was taken in one
pub AreTold-passed : (old new : Manager) (mailboxes : List Mailbox) (place p : ℕ) (before after : Mailbox) (answers answers' : LastAnswers) (request : Request)
    (journal : List Event) (event : Event) → StandsAt mailboxes place p before → after.waiting.items ≡ before.waiting.items
    → after.taken ≡ before.taken + 1 → IsNone (slice_get (mail_waiting mailboxes p) 0) → IsServed old new answers' p request journal event
    → AreTold old mailboxes answers journal → AreTold new (set mailboxes place after) answers' (journal ++ event ∷ [])
AreTold-passed old new mailboxes place p before after answers answers' request journal event at kept one none served told =
    let empty = none_waits mailboxes place p before at none in
    let mail = IsMailKept-push _ mailboxes place p before after journal _ event at one served.process refl
    (subst (λ n. IsMailKept n mailboxes journal) (sym served.processes) told.mail) in
    let sent = mail_sent-passed mailboxes place p before after journal event at served.process empty kept in
    let all = all_taken mailboxes journal p none in
    record {
      mail = mail;
      answered = served.answered;
      holds =
          ∥∥₁_map told.holds
          (Holds-passed old new _ _ journal event told.mail.some (λ q. sent q ∙ ap (λ r. if q == r then mail_sent mailboxes journal q ++ event.request ∷ [] else mail_sent mailboxes journal q) (sym served.process))
          (mail_sent-few _ _ _ mail)
          (ap (λ q. length (mail_sent mailboxes journal q)) served.process ∙ all ∙ ap (λ q. length (events_of q journal)) (sym served.process))
          (rw served.process served.number) served.rules served.processes served.step served.safe);
    }

-- the headline holds at the opening
pub Holds-opening : (manager : Manager) (sent : ℕ → List Request) (journal : List Event) → AreWithinLimits manager sent → journal ≡ []
    → IsSafeManager manager → StandsFor manager opening_state → Holds manager sent journal
Holds-opening manager sent journal within empty safe stands =
    subst (λ l. Holds manager sent l) (sym empty)
    (Holds-from manager sent [] within (λ p. (sent p, refl)) safe
    (record { state = opening_state; run = record { leads = refl; numbered = λ q place. tt }; stands = stands }))

-- where nothing was sent, no process sent or was taken anything
empty_at : (mailbox : Option Mailbox) → IfSome mailbox IsEmptyMailbox → (waiting_in mailbox ≡ []) × (taken_in mailbox ≡ 0)
empty_at None h = (refl, refl)
empty_at (Some mailbox) h = (h.waiting, h.taken)

all_at : {X : Type 0} (P : X → Type 0) (xs : List X) (place : ℕ) → Each P xs → IfSome (slice_get xs place) P
all_at P [] place h = tt
all_at P (x ∷ xs) zero h = h.0
all_at P (x ∷ xs) (suc place) h = all_at P xs place h.1

pub nothing_sent : (mailboxes : List Mailbox) → All IsEmptyMailbox mailboxes → (p : ℕ)
    → (mail_waiting mailboxes p ≡ []) × (mail_taken mailboxes p ≡ 0)
nothing_sent mailboxes h zero = (refl, refl)
nothing_sent mailboxes h (suc place) =
    empty_at (slice_get mailboxes place) (all_at IsEmptyMailbox mailboxes place (recursion_from_All IsEmptyMailbox mailboxes h))
