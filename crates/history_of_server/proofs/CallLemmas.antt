-- What each call on one file leaves of the history: byte locks, flock locks, waits and their ends.
use Rattle.history_of_server.proofs.Common.{inl, inr, ℕ, ◌≡◌, ◌≢◌, ◌∙◌, ◌≤◌, sym, ap, refl, subst, true, false, Bool, Some, List, [], ◌∷◌, eq-eqb, cases_eq, ne_eqb, if◌then◌else◌, OFFMAX, Mode, Span, Family, Bytes, Whole, Policy, Action, FileLocks, Did, MayHave, MayTell, locks_behind, IsOpen, World, is_death, opened, Answered, Pending, FileState, SameFile, SetsLock, State, WaitComesTo, Names, request_of}
use Rattle.std.specs.Prelude.{IsTrue}
use Rattle.wait_core.specs.declared.Policy.TheVariants.{Held, Queue}
use Rattle.wait_core.specs.Blocking.{IsBlockedIn}
use Rattle.history_core.specs.declared.request.Action.TheVariants as actions
use Rattle.history_core.specs.declared.request.Answer.TheVariants as answers
use Rattle.history_core.specs.Permitted.{WasBlocked, may_deadlock}
use Rattle.lock_server.specs.declared.Answer.{Answer as ServerAnswer}
use Rattle.lock_server.specs.declared.WaitAnswer.{WaitAnswer}
use Rattle.lock_server.specs.Files.{locks_on}
use Rattle.lock_server.specs.Pendings.{as_wait, tickets_of}
use Rattle.lock_server.specs.Settling.{IsBlockedUnless, IsHeldBack, IsWaitBlocked}
use Rattle.lock_server.specs.States.{IsTaken, SettlesFile}
use Rattle.lock_server.specs.Calls.{Gives, Suspends, TestAtOnceComesTo, TestComesTo, WaitAtOnceComesTo}
use Rattle.history_of_server.specs.ServerLines.{answered_at_once, named, named_behind, told_answer}
use Rattle.history_of_server.proofs.ListLemmas.{Apart, Each, apart_push, apart_renamed, each_append, each_both, each_not, each_other, each_weaker}
use Rattle.history_of_server.proofs.PartLemmas.{path_append, path_none}
use Rattle.history_of_server.proofs.BlockLemmas.{Holds, IsSound, action_of, block_of_conflict, blocked_lacks, conflict_of_block, conflict_of_flock, flock_of_conflict, holds_got, may_get, sound_got}
use Rattle.history_of_server.proofs.TrackLemmas.{IsDone, IsWaiting, Tracks, name_of, no_death, settles_each, tracks_same, waiting}
use Rattle.history_of_server.proofs.FollowLemmas.{Busy, ChangesLocks, Follows, Next, busy_effect, ended_busy, follows_same, more, next_append, settled_next, each_mapped}

-- ---- a request that is open is tested

-- what a request that doesn't wait asks for
abbrev pub test_of : Family → Span → Mode → Action
test_of Bytes span mode = actions.Set mode span
test_of Whole span mode = actions.Flock mode

-- it passes where no lock blocks it, fails where one does, and leaves the lock that it asks for
may_pass : (F : FileState) (locks : FileLocks) (wanted : Pending) (family : Family) → Holds F locks → (¬ IsBlockedIn family (locks_on F) (as_wait wanted))
    → MayHave locks wanted.owner (test_of family wanted.span wanted.mode) Did
may_pass F locks wanted Bytes holds free = λ blocks. free (conflict_of_block F locks wanted.owner wanted.mode wanted.span holds blocks)
may_pass F locks wanted Whole holds free = λ blocks. free (conflict_of_flock F locks wanted.owner wanted.mode holds blocks)

may_fail : (F : FileState) (locks : FileLocks) (wanted : Pending) (family : Family) → IsSound F → Holds F locks → IsBlockedIn family (locks_on F) (as_wait wanted)
    → MayHave locks wanted.owner (test_of family wanted.span wanted.mode) WasBlocked
may_fail F locks wanted Bytes sound holds blocked = block_of_conflict F locks wanted.owner wanted.mode wanted.span holds blocked
may_fail F locks wanted Whole sound holds blocked = (
  flock_of_conflict F locks wanted.owner wanted.mode holds blocked,
  λ has. blocked_lacks F wanted.owner wanted.mode sound blocked (sym (holds.flocks wanted.owner) ∙ has),
)

passed : (F G : FileState) (locks : FileLocks) (wanted : Pending) (family : Family) → Holds F locks → SetsLock family F wanted.owner wanted.span (Some wanted.mode) G
    → Holds G (locks_behind locks wanted.owner (test_of family wanted.span wanted.mode) Did)
passed F G locks wanted Bytes holds sets = holds_got F G locks wanted.owner wanted.span wanted.mode Bytes holds sets
passed F G locks wanted Whole holds sets = holds_got F G locks wanted.owner wanted.span wanted.mode Whole holds sets

no_test_death : (family : Family) (wanted : Pending) → is_death (test_of family wanted.span wanted.mode) ≡ false
no_test_death Bytes wanted = refl
no_test_death Whole wanted = refl

-- a request that is open is done, and the file is settled
pub busy_done : (runs : Bool) (policy : Policy) (S between T : State) (names : Names) (worlds : ℕ → World) (file owner : ℕ) (action : Action)
    → Busy S (more names) file names.free (opened (request_of names.free owner action)) worlds → is_death action ≡ false
    → ((locks : FileLocks) → Holds (S.files file) locks → MayHave locks owner action Did)
    → ((locks : FileLocks) → Holds (S.files file) locks → Holds (between.files file) (locks_behind locks owner action Did))
    → ChangesLocks S file between → SettlesFile policy between file T → Next runs worlds (Answered names.free answers.Done ∷ []) T names
busy_done runs policy S between T names worlds file owner action busy lives may leaves changes settles =
    let did = busy_effect runs S between (more names) worlds file names.free (request_of names.free owner action) Did busy lives may leaves changes in
    let end = ended_busy runs between names did.1.worlds' file did.0 answers.Done did.1.busy
    (subst (λ e. MayTell runs did.0.request.owner did.0.request.action e answers.Done) (sym did.2) tt) in
    let last = settled_next runs policy between T names end.worlds' file end.follows settles in
    record {
      worlds' = last.worlds';
      path = path_append runs worlds did.1.worlds' last.worlds' [] (Answered names.free answers.Done ∷ []) did.1.path
          (path_append runs did.1.worlds' end.worlds' last.worlds' (Answered names.free answers.Done ∷ []) [] end.path last.path);
      follows = last.follows;
    }

-- or it is refused, and nothing changes
pub busy_refused : (runs : Bool) (S : State) (names : Names) (worlds : ℕ → World) (file owner : ℕ) (action : Action)
    → Busy S (more names) file names.free (opened (request_of names.free owner action)) worlds → is_death action ≡ false
    → ((locks : FileLocks) → Holds (S.files file) locks → MayHave locks owner action WasBlocked)
    → Next runs worlds (Answered names.free answers.Busy ∷ []) S names
busy_refused runs S names worlds file owner action busy lives may =
    let was = busy_effect runs S S (more names) worlds file names.free (request_of names.free owner action) WasBlocked busy lives may (λ locks holds. holds)
    (record { sound = (busy.follows.files file).sound; waits = refl; others = λ other differs. same other; grants = refl }) in
    let end = ended_busy runs S names was.1.worlds' file was.0 answers.Busy was.1.busy
    (subst (λ e. MayTell runs was.0.request.owner was.0.request.action e answers.Busy) (sym was.2) tt) in
    record {
      worlds' = end.worlds';
      path = path_append runs worlds was.1.worlds' end.worlds' [] (Answered names.free answers.Busy ∷ []) was.1.path end.path;
      follows = end.follows;
    }
  where
    same : (other : ℕ) → SameFile (S.files other) (S.files other)
    same other = record { locks = record { bytes = λ owner byte. refl; flocks = λ owner. refl }; waits = refl }

-- a lock that nothing blocks is set
busy_gives : (runs : Bool) (policy : Policy) (S T : State) (names : Names) (worlds : ℕ → World) (file : ℕ) (wanted : Pending) (action : Action)
    → Busy S (more names) file names.free (opened (request_of names.free wanted.owner action)) worlds → is_death action ≡ false
    → ((locks : FileLocks) → Holds (S.files file) locks → MayHave locks wanted.owner action Did)
    → ((F G : FileState) (locks : FileLocks) → Holds F locks → SetsLock wanted.family F wanted.owner wanted.span (Some wanted.mode) G
    → Holds G (locks_behind locks wanted.owner action Did))
    → wanted.span.last ≤ OFFMAX → (¬ IsHeldBack (S.files file) wanted) → Gives policy S file wanted T
    → Next runs worlds (Answered names.free answers.Done ∷ []) T names
busy_gives runs policy S T names worlds file wanted action busy lives may leaves low free gives =
    busy_done runs policy S gives.between T names worlds file wanted.owner action busy lives may
    (λ locks holds. leaves (S.files file) (gives.between.files file) locks holds gives.sets.sets)
    (record {
      sound = sound_got (S.files file) (gives.between.files file) wanted wanted.family low (busy.follows.files file).sound free gives.sets.sets;
      waits = gives.sets.waits;
      others = gives.sets.changes.others;
      grants = gives.sets.changes.grants;
    }) gives.settles

-- an open request that doesn't wait is tested
pub busy_tested : (runs : Bool) (policy : Policy) (S T : State) (names : Names) (worlds : ℕ → World) (file : ℕ) (wanted : Pending) (answer : ServerAnswer)
    → Busy S (more names) file names.free (opened (request_of names.free wanted.owner (test_of wanted.family wanted.span wanted.mode))) worlds
    → wanted.span.last ≤ OFFMAX → TestComesTo policy S file wanted answer T → Next runs worlds (Answered names.free (told_answer answer) ∷ []) T names
busy_tested runs policy S T names worlds file wanted answer busy low (inl (blocked, (is, same))) =
    let next = busy_refused runs S names worlds file wanted.owner (test_of wanted.family wanted.span wanted.mode) busy (no_test_death wanted.family wanted)
    (λ locks holds. may_fail (S.files file) locks wanted wanted.family (busy.follows.files file).sound holds blocked) in
    subst (λ a. Next runs worlds (Answered names.free (told_answer a) ∷ []) T names) (sym is) (record {
      worlds' = next.worlds';
      path = next.path;
      follows = follows_same S T names next.worlds' same.files same.grants next.follows;
    })
busy_tested runs policy S T names worlds file wanted answer busy low (inr (free, (is, gives))) =
    subst (λ a. Next runs worlds (Answered names.free (told_answer a) ∷ []) T names) (sym is)
    (busy_gives runs policy S T names worlds file wanted (test_of wanted.family wanted.span wanted.mode) busy (no_test_death wanted.family wanted)
    (λ locks holds. may_pass (S.files file) locks wanted wanted.family holds free) (λ F G locks holds sets. passed F G locks wanted wanted.family holds sets)
    low free gives)

-- and so one of an atomic conversion
pub busy_tested_at_once : (runs : Bool) (policy : Policy) (S T : State) (names : Names) (worlds : ℕ → World) (file : ℕ) (wanted : Pending) (answer : ServerAnswer)
    → Busy S (more names) file names.free (opened (request_of names.free wanted.owner (test_of wanted.family wanted.span wanted.mode))) worlds
    → wanted.span.last ≤ OFFMAX → TestAtOnceComesTo policy S file wanted answer T → Next runs worlds (Answered names.free (told_answer answer) ∷ []) T names
busy_tested_at_once runs policy S T names worlds file wanted answer busy low (inl (blocked, (is, settles))) =
    let next = busy_refused runs S names worlds file wanted.owner (test_of wanted.family wanted.span wanted.mode) busy (no_test_death wanted.family wanted)
    (λ locks holds. may_fail (S.files file) locks wanted wanted.family (busy.follows.files file).sound holds blocked) in
    subst (λ a. Next runs worlds (Answered names.free (told_answer a) ∷ []) T names) (sym is)
    (next_append runs worlds (Answered names.free answers.Busy ∷ []) [] S T names names next (settled_next runs policy S T names next.worlds' file next.follows settles))
busy_tested_at_once runs policy S T names worlds file wanted answer busy low (inr (free, (is, gives))) =
    subst (λ a. Next runs worlds (Answered names.free (told_answer a) ∷ []) T names) (sym is)
    (busy_gives runs policy S T names worlds file wanted (test_of wanted.family wanted.span wanted.mode) busy (no_test_death wanted.family wanted)
    (λ locks holds. may_pass (S.files file) locks wanted wanted.family holds free) (λ F G locks holds sets. passed F G locks wanted wanted.family holds sets)
    low free gives)

-- ---- an open request may wait

-- no wait and no grant has the ticket
pub record IsFresh (S : State) (ticket : ℕ) : Type 0 where
  pub waits : (file : ℕ) → Each (λ wait. wait.ticket ≢ ticket) (S.files file).waits
  pub grants : Each (λ other. other ≢ ticket) S.grants

pub fresh_of : (S : State) (ticket : ℕ) → (¬ IsTaken S ticket) → IsFresh S ticket
fresh_of S ticket free = record {
  waits = λ file. each_not (λ (wait : Pending). wait.ticket ≡ ticket) (S.files file).waits (λ any. free (inl (record { file = file; waits = any })));
  grants = each_other S.grants ticket (λ has. free (inr has));
}

pub fresh_changed : (S T : State) (file ticket : ℕ) → IsFresh S ticket → ChangesLocks S file T → IsFresh T ticket
fresh_changed S T file ticket fresh changes = record {
  waits = λ other. elim (cases_eq other file) [
    | inl same ↦ subst (λ f. Each (λ wait. wait.ticket ≢ ticket) (T.files f).waits) (sym same)
        (subst (Each (λ wait. wait.ticket ≢ ticket)) (sym changes.waits) (fresh.waits file))
    | inr differs ↦ subst (Each (λ wait. wait.ticket ≢ ticket)) (sym (changes.others other differs).waits) (fresh.waits other)
  ];
  grants = subst (Each (λ other. other ≢ ticket)) (sym changes.grants) fresh.grants;
}

pub fresh_settled : (policy : Policy) (S T : State) (file ticket : ℕ) → IsFresh S ticket → SettlesFile policy S file T → IsFresh T ticket
fresh_settled policy S T file ticket fresh settles =
    let parts = settles_each policy (S.files file) settles.granted (T.files file) (λ wait. wait.ticket ≢ ticket) settles.settles (fresh.waits file) in
    record {
      waits = λ other. elim (cases_eq other file) [
        | inl same ↦ subst (λ f. Each (λ wait. wait.ticket ≢ ticket) (T.files f).waits) (sym same) parts.1
        | inr differs ↦ subst (Each (λ wait. wait.ticket ≢ ticket)) (sym (settles.others other differs).waits) (fresh.waits other)
      ];
      grants = subst (Each (λ other. other ≢ ticket)) (sym settles.grants)
          (each_append (λ other. other ≢ ticket) S.grants (tickets_of settles.granted) fresh.grants
          (each_mapped (λ other. other ≢ ticket) (λ wait. wait.ticket) settles.granted parts.0));
    }

renamed : (names : Names) (ticket other : ℕ) → other ≢ ticket → (named names ticket).of_ticket other ≡ names.of_ticket other
renamed names ticket other differs = ap (λ (b : Bool). if b then names.free else names.of_ticket other) (ne_eqb other ticket differs)

named_here : (names : Names) (ticket : ℕ) → (named names ticket).of_ticket ticket ≡ names.free
named_here names ticket = ap (λ (b : Bool). if b then names.free else names.of_ticket ticket) (eq-eqb ticket ticket refl)

tracks_renamed : (names : Names) (ticket : ℕ) (F : FileState) (w : World) → Each (λ wait. wait.ticket ≢ ticket) F.waits → Tracks names.of_ticket F w
    → Tracks (named names ticket).of_ticket F w
tracks_renamed names ticket F w fresh tracks = record {
  locks = tracks.locks;
  sound = tracks.sound;
  waits = each_weaker (λ wait. (wait.ticket ≢ ticket) × IsWaiting names.of_ticket w wait) (IsWaiting (named names ticket).of_ticket w)
      (λ wait both. subst (λ n. IsOpen w n (waiting n wait)) (sym (renamed names ticket wait.ticket both.0)) both.1)
      F.waits (each_both (λ wait. wait.ticket ≢ ticket) (IsWaiting names.of_ticket w) F.waits fresh tracks.waits);
  apart = apart_renamed (name_of names.of_ticket) (name_of (named names ticket).of_ticket) F.waits tracks.apart
      (each_weaker (λ wait. wait.ticket ≢ ticket) (λ wait. name_of (named names ticket).of_ticket wait ≡ name_of names.of_ticket wait)
      (λ wait differs. renamed names ticket wait.ticket differs) F.waits fresh);
  spans = tracks.spans;
}

-- an open request joins the waits of its file
pub busy_joins : (S T : State) (names : Names) (worlds : ℕ → World) (file : ℕ) (wanted : Pending)
    → Busy S (more names) file names.free (waiting names.free wanted) worlds → wanted.span.last ≤ OFFMAX → IsFresh S wanted.ticket → Suspends S file wanted T
    → Follows T (named names wanted.ticket) worlds
busy_joins S T names worlds file wanted busy low fresh suspends =
    let name = (named names wanted.ticket).of_ticket in
    record {
      files = λ other. elim (cases_eq other file) [
        | inl same ↦ subst (λ f. Tracks (named names wanted.ticket).of_ticket (T.files f) (worlds f)) (sym same) here
        | inr differs ↦ tracks_same (named names wanted.ticket).of_ticket (S.files other) (T.files other) (worlds other) (suspends.changes.others other differs) (old other)
      ];
      free = busy.follows.free;
      alone = busy.follows.alone;
      grants = subst (Each (λ ticket. (f : ℕ) × IsDone (worlds f) ((named names wanted.ticket).of_ticket ticket))) (sym suspends.changes.grants)
          (each_weaker (λ ticket. (ticket ≢ wanted.ticket) × ((f : ℕ) × IsDone (worlds f) (names.of_ticket ticket)))
          (λ ticket. (f : ℕ) × IsDone (worlds f) ((named names wanted.ticket).of_ticket ticket))
          (λ ticket both. (both.1.0, subst (λ n. IsDone (worlds both.1.0) n) (sym (renamed names wanted.ticket ticket both.0)) both.1.1))
          S.grants (each_both (λ ticket. ticket ≢ wanted.ticket) (λ ticket. (f : ℕ) × IsDone (worlds f) (names.of_ticket ticket)) S.grants fresh.grants busy.follows.grants));
      apart = subst (Apart (named names wanted.ticket).of_ticket) (sym suspends.changes.grants)
          (apart_renamed names.of_ticket (named names wanted.ticket).of_ticket S.grants busy.follows.apart
          (each_weaker (λ ticket. ticket ≢ wanted.ticket) (λ ticket. (named names wanted.ticket).of_ticket ticket ≡ names.of_ticket ticket)
          (λ ticket differs. renamed names wanted.ticket ticket differs) S.grants fresh.grants));
    }
  where
    old : (other : ℕ) → Tracks (named names wanted.ticket).of_ticket (S.files other) (worlds other)
    old other = tracks_renamed names wanted.ticket (S.files other) (worlds other) (fresh.waits other) (busy.follows.files other)

    here : Tracks (named names wanted.ticket).of_ticket (T.files file) (worlds file)
    here = record {
      locks = record {
        bytes = λ owner byte. (old file).locks.bytes owner byte ∙ sym (suspends.joins.locks.bytes owner byte);
        flocks = λ owner. (old file).locks.flocks owner ∙ sym (suspends.joins.locks.flocks owner);
      };
      sound = record {
        within = λ owner byte mode is. (old file).sound.within owner byte mode (sym (suspends.joins.locks.bytes owner byte) ∙ is);
        compatible = λ one other m k differs has too.
            (old file).sound.compatible one other m k differs (sym (suspends.joins.locks.flocks one) ∙ has) (sym (suspends.joins.locks.flocks other) ∙ too);
      };
      waits = subst (Each (IsWaiting (named names wanted.ticket).of_ticket (worlds file))) (sym suspends.joins.waits)
          (each_append (IsWaiting (named names wanted.ticket).of_ticket (worlds file)) (S.files file).waits (wanted ∷ []) (old file).waits
          (subst (λ n. IsOpen (worlds file) n (waiting n wanted)) (sym (named_here names wanted.ticket)) busy.own, tt));
      apart = subst (Apart (name_of (named names wanted.ticket).of_ticket)) (sym suspends.joins.waits)
          (apart_push (name_of (named names wanted.ticket).of_ticket) (S.files file).waits wanted (old file).apart
          (each_weaker (λ wait. (wait.ticket ≢ wanted.ticket) × (names.of_ticket wait.ticket ≢ names.free))
          (λ wait. (named names wanted.ticket).of_ticket wait.ticket ≢ (named names wanted.ticket).of_ticket wanted.ticket)
          (λ wait both same. both.1 (sym (renamed names wanted.ticket wait.ticket both.0) ∙ same ∙ named_here names wanted.ticket))
          (S.files file).waits (each_both (λ wait. wait.ticket ≢ wanted.ticket) (λ wait. names.of_ticket wait.ticket ≢ names.free) (S.files file).waits
          (fresh.waits file) busy.no_wait)));
      spans = subst (Each (λ wait. wait.span.last ≤ OFFMAX)) (sym suspends.joins.waits)
          (each_append (λ wait. wait.span.last ≤ OFFMAX) (S.files file).waits (wanted ∷ []) (old file).spans (low, tt));
    }

-- what isn't blocked as a wait is isn't held back
pub free_of_wait : (policy : Policy) (F : FileState) (earlier : List Pending) (wanted : Pending) → (¬ IsWaitBlocked policy F earlier wanted) → ¬ IsHeldBack F wanted
free_of_wait Held F earlier wanted free held = free held
free_of_wait Queue F earlier wanted free held = free (inl held)

got : (F G : FileState) (locks : FileLocks) (wanted : Pending) (family : Family) → Holds F locks → SetsLock family F wanted.owner wanted.span (Some wanted.mode) G
    → Holds G (locks_behind locks wanted.owner (action_of family wanted.span wanted.mode) Did)
got F G locks wanted Bytes holds sets = holds_got F G locks wanted.owner wanted.span wanted.mode Bytes holds sets
got F G locks wanted Whole holds sets = holds_got F G locks wanted.owner wanted.span wanted.mode Whole holds sets

wait_gives : (runs : Bool) (policy : Policy) (S T : State) (names : Names) (worlds : ℕ → World) (file : ℕ) (wanted : Pending)
    → Busy S (more names) file names.free (waiting names.free wanted) worlds → wanted.span.last ≤ OFFMAX → (¬ IsHeldBack (S.files file) wanted)
    → Gives policy S file wanted T → Next runs worlds (Answered names.free answers.Done ∷ []) T names
wait_gives runs policy S T names worlds file wanted busy low free gives =
    busy_gives runs policy S T names worlds file wanted (action_of wanted.family wanted.span wanted.mode) busy (no_death wanted.family wanted)
    (λ locks holds. may_get (S.files file) locks wanted wanted.family holds free) (λ F G locks holds sets. got F G locks wanted wanted.family holds sets)
    low free gives

-- an open request that may wait is done, is told of a deadlock, or waits
pub busy_waited : (runs : Bool) (policy : Policy) (S T : State) (names : Names) (worlds : ℕ → World) (file : ℕ) (wanted : Pending) (answer : WaitAnswer)
    → Busy S (more names) file names.free (waiting names.free wanted) worlds → wanted.span.last ≤ OFFMAX → IsFresh S wanted.ticket
    → (IsTrue wanted.detect → may_deadlock (action_of wanted.family wanted.span wanted.mode) ≡ true) → WaitComesTo policy S file wanted answer T
    → Next runs worlds (answered_at_once names.free answer) T (named_behind answer names wanted.ticket)
busy_waited runs policy S T names worlds file wanted answer busy low fresh deadlocks (inl (blocked, inl (refused, (is, same)))) =
    let next = ended_busy runs S names worlds file (waiting names.free wanted) answers.Deadlock busy (deadlocks refused.0) in
    subst (λ a. Next runs worlds (answered_at_once names.free a) T (named_behind a names wanted.ticket)) (sym is) (record {
      worlds' = next.worlds';
      path = next.path;
      follows = follows_same S T names next.worlds' same.files same.grants next.follows;
    })
busy_waited runs policy S T names worlds file wanted answer busy low fresh deadlocks (inl (blocked, inr (accepted, (is, suspends)))) =
    subst (λ a. Next runs worlds (answered_at_once names.free a) T (named_behind a names wanted.ticket)) (sym is) (record {
      worlds' = worlds;
      path = path_none runs worlds;
      follows = busy_joins S T names worlds file wanted busy low fresh suspends;
    })
busy_waited runs policy S T names worlds file wanted answer busy low fresh deadlocks (inr (free, (is, gives))) =
    subst (λ a. Next runs worlds (answered_at_once names.free a) T (named_behind a names wanted.ticket)) (sym is)
    (wait_gives runs policy S T names worlds file wanted busy low (free_of_wait policy (S.files file) (S.files file).waits wanted free) gives)

free_at_once : (policy : Policy) (F : FileState) (earlier : List Pending) (wanted : Pending) (Had : Type 0)
    → (¬ IsBlockedUnless policy F earlier wanted Had) → ¬ IsHeldBack F wanted
free_at_once Held F earlier wanted Had free held = free held
free_at_once Queue F earlier wanted Had free held = free (inl held)

-- and so one of an atomic conversion
pub busy_waited_at_once : (runs : Bool) (policy : Policy) (Had : Type 0) (S T : State) (names : Names) (worlds : ℕ → World) (file : ℕ) (wanted : Pending)
    (answer : WaitAnswer) → Busy S (more names) file names.free (waiting names.free wanted) worlds → wanted.span.last ≤ OFFMAX → IsFresh S wanted.ticket
    → WaitAtOnceComesTo policy Had S file wanted answer T → Next runs worlds (answered_at_once names.free answer) T (named_behind answer names wanted.ticket)
busy_waited_at_once runs policy Had S T names worlds file wanted answer busy low fresh (inl (blocked, (is, joined, suspends, settles))) =
    subst (λ a. Next runs worlds (answered_at_once names.free a) T (named_behind a names wanted.ticket)) (sym is)
    (settled_next runs policy joined T (named names wanted.ticket) worlds file (busy_joins S joined names worlds file wanted busy low fresh suspends) settles)
busy_waited_at_once runs policy Had S T names worlds file wanted answer busy low fresh (inr (free, (is, gives))) =
    subst (λ a. Next runs worlds (answered_at_once names.free a) T (named_behind a names wanted.ticket)) (sym is)
    (wait_gives runs policy S T names worlds file wanted busy low (free_at_once policy (S.files file) (S.files file).waits wanted Had free) gives)
