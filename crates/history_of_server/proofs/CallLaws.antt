-- What each call on one file brings is permitted, and the history follows the state that it leaves.
use Rattle.history_of_server.proofs.Common.{inl, inr, ℕ, ◌≡◌, ◌≢◌, ◌∙◌, ◌≤◌, ◌==◌, sym, ap, refl, subst, arith, true, false, Bool, Option, Some, None, List, [], ◌∷◌, cases_eq, eqb-true, false≢true, ne_eqb, if◌then◌else◌}
use Rattle.history_of_server.proofs.Common.{OFFMAX, Mode, Span, Family, Bytes, Whole, Policy, Action, FileLocks, Converts, Did, MayHave, MayTell, locks_behind, IsOpen, Open, World, is_death, opened, Answered, HistoryLine, Sent, Pending, FileState, SameFile, State, WaitComesTo, Names, all_bytes, exchange, request_of}
use Rattle.range_core.specs.Ranges.{HeldConflicts, IsByteRange, IsRun, Modes}
use Rattle.lock_book.specs.declared.Owner.TheVariants.{Description}
use Rattle.history_core.specs.declared.request.Action.TheVariants as actions
use Rattle.history_core.specs.declared.request.Answer.TheVariants as answers
use Rattle.history_core.specs.Locks.{BlocksFlock, bytes_without, with_flock}
use Rattle.history_core.specs.Permitted.{NothingMayTell, Saw}
use Rattle.lock_server.specs.declared.Answer.{Answer as ServerAnswer}
use Rattle.lock_server.specs.declared.Conversion.{Conversion}
use Rattle.lock_server.specs.declared.Conversion.TheVariants.{Atomic, Stepwise}
use Rattle.lock_server.specs.declared.Lock.{Lock}
use Rattle.lock_server.specs.declared.Rules.{Rules}
use Rattle.lock_server.specs.declared.WaitAnswer.{WaitAnswer}
use Rattle.lock_server.specs.Agreement.{GetComesTo}
use Rattle.lock_server.specs.States.{SameState}
use Rattle.lock_server.specs.Calls.{Cancels, ConversionComesTo, FetchComesTo, FlockFrom, FlockOpComesTo, FlockWaitComesTo, FlockWaitFrom, LeavesOn, Releases, ReleasesOn, SetComesTo, WaitConversionComesTo, byte_request, flock_request, no_ticket}
use Rattle.history_of_server.specs.ServerLines.{answered_at_once, flock_action, named_behind, set_action, told_answer, told_lock}
use Rattle.history_of_server.proofs.ListLemmas.{Apart, Each, each_weaker, apart_between, each_between}
use Rattle.history_of_server.proofs.PartLemmas.{path_append}
use Rattle.history_of_server.proofs.BlockLemmas.{Holds, action_of, conflict_of_block, conflict_of_flock, held_free, holds_cleared, holds_flock, holds_set, sound_cleared, sound_set, sound_unlocked}
use Rattle.history_of_server.proofs.TrackLemmas.{IsDone, IsWaiting, Tracks, differ_by_effect, name_of, tracks_same, waiting}
use Rattle.history_of_server.proofs.FollowLemmas.{Busy, ChangesLocks, Follows, Next, NextBusy, answered, begun, busy_loss, busy_settled, exchanged, follows_same, more, next_append, settled_next}
use Rattle.history_of_server.proofs.CallLemmas.{IsFresh, busy_done, busy_tested, busy_tested_at_once, busy_waited, busy_waited_at_once, fresh_changed, fresh_settled}

pub same_state : (S : State) → (other : ℕ) → SameFile (S.files other) (S.files other)
same_state S other = record { locks = record { bytes = λ owner byte. refl; flocks = λ owner. refl }; waits = refl }

pub nothing_changed : (S : State) (names : Names) (worlds : ℕ → World) (file : ℕ) → Follows S names worlds → ChangesLocks S file S
nothing_changed S names worlds file follows =
    record { sound = (follows.files file).sound; waits = refl; others = λ other differs. same_state S other; grants = refl }

-- a request is sent, and what follows while it is open comes behind it
sent_then : (runs : Bool) (S T : State) (names after : Names) (worlds : ℕ → World) (file owner : ℕ) (action : Action) (lines : List HistoryLine)
    → Follows S names worlds
    → ((next : ℕ → World) → Busy S (more names) file names.free (opened (request_of names.free owner action)) next → Next runs next lines T after)
    → Next runs worlds (Sent file (request_of names.free owner action) ∷ lines) T after
sent_then runs S T names after worlds file owner action lines follows rest =
    let first = begun runs S names worlds file owner action follows in
    let last = rest first.worlds' first.busy in
    record {
      worlds' = last.worlds';
      path = path_append runs worlds first.worlds' last.worlds' (Sent file (request_of names.free owner action) ∷ []) lines first.path last.path;
      follows = last.follows;
    }

-- moments without a line, and what follows them
quiet_then : (runs : Bool) (S T : State) (names after : Names) (worlds : ℕ → World) (file id : ℕ) (one : Open) (lines : List HistoryLine)
    → NextBusy runs worlds [] S names file id one → ((next : ℕ → World) → Busy S names file id one next → Next runs next lines T after)
    → Next runs worlds lines T after
quiet_then runs S T names after worlds file id one lines first rest =
    let last = rest first.worlds' first.busy in
    record { worlds' = last.worlds'; path = path_append runs worlds first.worlds' last.worlds' [] lines first.path last.path; follows = last.follows }

-- ---- byte locks

-- what a get sees
abbrev seen : FileState → ℕ → ℕ → Modes
seen F owner = bytes_without F.bytes owner

seen_other : (F : FileState) (owner other byte : ℕ) → other ≢ owner → seen F owner other byte ≡ F.bytes other byte
seen_other F owner other byte differs = ap (λ (b : Bool). if b then None else F.bytes other byte) (ne_eqb other owner differs)

tells : (runs : Bool) (F : FileState) (owner : ℕ) (span : Span) (mode : Mode) (found : Option Lock) → GetComesTo F owner span mode found
    → MayTell runs owner (actions.Get mode span) (Saw (seen F owner)) (told_lock found)
tells runs F owner span mode None free = λ blocks. free (conflict_of_block F (record { bytes = F.bytes; flocks = F.flocks }) owner mode span
    (record { bytes = λ other byte. refl; flocks = λ other. refl }) (record {
      other = blocks.other;
      is_other = blocks.is_other;
      byte = blocks.byte;
      asked = blocks.asked;
      conflicts = subst (λ held. HeldConflicts held mode) (seen_other F owner blocks.other blocks.byte blocks.is_other) blocks.conflicts;
    }))
tells runs F owner span mode (Some lock) first = record {
  is_other = differs;
  conflicts = subst (λ held. HeldConflicts held mode) (first.run.constant first.byte first.run.covered) first.first.blocks.conflicts;
  held = λ byte covered. seen_other F owner lock.owner byte differs ∙ first.run.constant byte covered;
  byte = first.byte;
  asked_for = first.first.covered;
  told = first.run.covered;
  largest = λ largest. subst (λ modes. IsRun modes first.byte lock.mode lock.span) (λ i byte. sym (seen_other F owner lock.owner byte differs) i) first.run;
}
  where
    differs : lock.owner ≢ owner
    differs same = first.first.blocks.another (ap Description same)

pub get_next : (runs : Bool) (S T : State) (names : Names) (worlds : ℕ → World) (file owner : ℕ) (span : Span) (mode : Mode) (found : Option Lock)
    → Follows S names worlds → GetComesTo (S.files file) owner span mode found → SameState S T
    → Next runs worlds (exchange names.free file owner (actions.Get mode span) (told_lock found)) T names
get_next runs S T names worlds file owner span mode found follows comes same =
    let next = exchanged runs S S names worlds file owner (actions.Get mode span) (Saw (seen (S.files file) owner)) (told_lock found) follows refl
    (λ locks holds. λ i other byte. if other == owner then None else sym (holds.bytes other byte) i) (λ locks holds. holds)
    (nothing_changed S names worlds file follows) (tells runs (S.files file) owner span mode found comes) in
    record { worlds' = next.worlds'; path = next.path; follows = follows_same S T names next.worlds' same.files same.grants next.follows }

pub set_next : (runs : Bool) (policy : Policy) (S T : State) (names : Names) (worlds : ℕ → World) (file owner : ℕ) (span : Span) (mode : Option Mode)
    (answer : ServerAnswer) → Follows S names worlds → IsByteRange span → SetComesTo policy S file owner span mode answer T
    → Next runs worlds (exchange names.free file owner (set_action mode span) (told_answer answer)) T names
set_next runs policy S T names worlds file owner span None answer follows range comes =
    let changes = comes.1 in
    subst (λ a. Next runs worlds (exchange names.free file owner (actions.Unlock span) (told_answer a)) T names) (sym comes.0)
    (sent_then runs S T names names worlds file owner (actions.Unlock span) (Answered names.free answers.Done ∷ []) follows
    (λ next busy. busy_done runs policy S changes.between T names next file owner (actions.Unlock span) busy refl (λ locks holds. tt)
    (λ locks holds. holds_set (S.files file) (changes.between.files file) locks owner span None holds changes.sets.sets)
    (record {
      sound = sound_set (S.files file) (changes.between.files file) owner span None range.1 (follows.files file).sound changes.sets.sets;
      waits = changes.sets.waits;
      others = changes.sets.changes.others;
      grants = changes.sets.changes.grants;
    }) changes.settles))
set_next runs policy S T names worlds file owner span (Some mode) answer follows range comes =
    sent_then runs S T names names worlds file owner (actions.Set mode span) (Answered names.free (told_answer answer) ∷ []) follows
    (λ next busy. busy_tested runs policy S T names next file (byte_request no_ticket owner span mode false) answer busy range.1 comes)

pub wait_next : (runs : Bool) (policy : Policy) (S T : State) (names : Names) (worlds : ℕ → World) (ticket file owner : ℕ) (span : Span) (mode : Mode)
    (detect : Bool) (answer : WaitAnswer) → Follows S names worlds → IsByteRange span → IsFresh S ticket
    → WaitComesTo policy S file (byte_request ticket owner span mode detect) answer T
    → Next runs worlds (Sent file (request_of names.free owner (actions.Wait mode span)) ∷ answered_at_once names.free answer) T (named_behind answer names ticket)
wait_next runs policy S T names worlds ticket file owner span mode detect answer follows range fresh comes =
    sent_then runs S T names (named_behind answer names ticket) worlds file owner (actions.Wait mode span) (answered_at_once names.free answer) follows
    (λ next busy. busy_waited runs policy S T names next file (byte_request ticket owner span mode detect) answer busy range.1 fresh (λ detected. refl) comes)

-- ---- the close rules

pub flush_next : (runs : Bool) (policy : Policy) (S T : State) (names : Names) (worlds : ℕ → World) (file owner : ℕ) → Follows S names worlds
    → Releases policy S file Bytes owner T → Next runs worlds (exchange names.free file owner (actions.Unlock all_bytes) answers.Done) T names
flush_next runs policy S T names worlds file owner follows releases =
    sent_then runs S T names names worlds file owner (actions.Unlock all_bytes) (Answered names.free answers.Done ∷ []) follows
    (λ next busy. busy_done runs policy S releases.between T names next file owner (actions.Unlock all_bytes) busy refl (λ locks holds. tt)
    (λ locks holds. holds_cleared (S.files file) (releases.between.files file) locks owner (follows.files file).sound.within holds releases.releases.unlocks)
    (record {
      sound = sound_cleared (S.files file) (releases.between.files file) owner (follows.files file).sound releases.releases.unlocks;
      waits = releases.releases.waits;
      others = releases.releases.changes.others;
      grants = releases.releases.changes.grants;
    }) releases.settles)

unlocked : (S T : State) (names : Names) (worlds : ℕ → World) (file owner : ℕ) → Follows S names worlds → ReleasesOn S file Whole owner T → ChangesLocks S file T
unlocked S T names worlds file owner follows releases = record {
  sound = sound_unlocked (S.files file) (T.files file) owner (follows.files file).sound releases.unlocks;
  waits = releases.waits;
  others = releases.changes.others;
  grants = releases.changes.grants;
}

pub flock_release_next : (runs : Bool) (policy : Policy) (S T : State) (names : Names) (worlds : ℕ → World) (file owner : ℕ) → Follows S names worlds
    → Releases policy S file Whole owner T → Next runs worlds (exchange names.free file owner actions.FlockUnlock answers.Done) T names
flock_release_next runs policy S T names worlds file owner follows releases =
    sent_then runs S T names names worlds file owner actions.FlockUnlock (Answered names.free answers.Done ∷ []) follows
    (λ next busy. busy_done runs policy S releases.between T names next file owner actions.FlockUnlock busy refl (λ locks holds. tt)
    (λ locks holds. holds_flock (S.files file) (releases.between.files file) locks owner None holds releases.releases.unlocks)
    (unlocked S releases.between names worlds file owner follows releases.releases) releases.settles)

-- ---- flock

holds_again : (F : FileState) (locks : FileLocks) (owner : ℕ) (mode : Mode) → Holds F locks → F.flocks owner ≡ Some mode → Holds F (with_flock locks owner (Some mode))
holds_again F locks owner mode holds has = record { bytes = holds.bytes; flocks = λ other. at other (other == owner) refl }
  where
    at : (other : ℕ) (b : Bool) → (other == owner) ≡ b → (if b then Some mode else locks.flocks other) ≡ F.flocks other
    at other true is = sym has ∙ ap F.flocks (sym (eqb-true other owner is))
    at other false is = holds.flocks other

-- the mode that is held is told to be set
again : (runs : Bool) (S T : State) (names : Names) (worlds : ℕ → World) (file owner : ℕ) (mode : Mode) (action : Action) → Follows S names worlds
    → is_death action ≡ false → ((locks : FileLocks) → (¬ BlocksFlock locks.flocks owner mode) → MayHave locks owner action Did)
    → ((locks : FileLocks) → locks_behind locks owner action Did ≡ with_flock locks owner (Some mode)) → (S.files file).flocks owner ≡ Some mode → SameState S T
    → Next runs worlds (exchange names.free file owner action answers.Done) T names
again runs S T names worlds file owner mode action follows lives may leaves has same =
    let next = exchanged runs S S names worlds file owner action Did answers.Done follows lives
    (λ locks holds. may locks (λ blocks. held_free (S.files file) owner mode (follows.files file).sound has (conflict_of_flock (S.files file) locks owner mode holds blocks)))
    (λ locks holds. subst (Holds (S.files file)) (sym (leaves locks)) (holds_again (S.files file) locks owner mode holds has))
    (nothing_changed S names worlds file follows) tt in
    record { worlds' = next.worlds'; path = next.path; follows = follows_same S T names next.worlds' same.files same.grants next.follows }

-- a conversion loses its owner's old lock (flock(2), "Converting a lock")
converted : (runs : Bool) (conversion : Conversion) (policy : Policy) (S T : State) (names : Names) (worlds : ℕ → World) (file owner : ℕ) (mode held : Mode)
    (answer : ServerAnswer) → (S.files file).flocks owner ≡ Some held → held ≢ mode
    → Busy S (more names) file names.free (opened (request_of names.free owner (actions.Flock mode))) worlds
    → ConversionComesTo conversion policy S file (flock_request no_ticket owner mode) answer T
    → Next runs worlds (Answered names.free (told_answer answer) ∷ []) T names
converted runs Stepwise policy S T names worlds file owner mode held answer has differs busy comes =
    let releases = comes.1 in
    quiet_then runs releases.between T (more names) names worlds file names.free (opened (request_of names.free owner (actions.Flock mode))) _
    (busy_loss runs S releases.between (more names) worlds file names.free (request_of names.free owner (actions.Flock mode)) busy (converts has) releases.releases.unlocks
    (unlocked S releases.between (more names) worlds file owner busy.follows releases.releases))
    (λ next later. quiet_then runs comes.0 T (more names) names next file names.free (opened (request_of names.free owner (actions.Flock mode))) _
    (busy_settled runs policy releases.between comes.0 (more names) next file names.free (opened (request_of names.free owner (actions.Flock mode))) later releases.settles)
    (λ last open_then. busy_tested runs policy comes.0 T names last file (flock_request no_ticket owner mode) answer open_then (let n = OFFMAX in omega arith) comes.2))
  where
    converts : (S.files file).flocks owner ≡ Some held → Converts ((S.files file).flocks owner) (actions.Flock mode)
    converts is = subst (λ found. Converts found (actions.Flock mode)) (sym is) differs
converted runs Atomic policy S T names worlds file owner mode held answer has differs busy comes =
    quiet_then runs comes.0 T (more names) names worlds file names.free (opened (request_of names.free owner (actions.Flock mode))) _
    (busy_loss runs S comes.0 (more names) worlds file names.free (request_of names.free owner (actions.Flock mode)) busy
    (subst (λ found. Converts found (actions.Flock mode)) (sym has) differs) comes.1.unlocks
    (unlocked S comes.0 (more names) worlds file owner busy.follows comes.1))
    (λ next later. busy_tested_at_once runs policy comes.0 T names next file (flock_request no_ticket owner mode) answer later (let n = OFFMAX in omega arith) comes.2)

flock_from : (runs : Bool) (rules : Rules) (S T : State) (names : Names) (worlds : ℕ → World) (file owner : ℕ) (mode : Mode) (held : Option Mode)
    (answer : ServerAnswer) → Follows S names worlds → (S.files file).flocks owner ≡ held → (¬ (held ≡ Some mode))
    → FlockFrom rules S file (flock_request no_ticket owner mode) held answer T
    → Next runs worlds (exchange names.free file owner (actions.Flock mode) (told_answer answer)) T names
flock_from runs rules S T names worlds file owner mode None answer follows has other comes =
    sent_then runs S T names names worlds file owner (actions.Flock mode) (Answered names.free (told_answer answer) ∷ []) follows
    (λ next busy. busy_tested runs rules.policy S T names next file (flock_request no_ticket owner mode) answer busy (let n = OFFMAX in omega arith) comes)
flock_from runs rules S T names worlds file owner mode (Some held) answer follows has other comes =
    sent_then runs S T names names worlds file owner (actions.Flock mode) (Answered names.free (told_answer answer) ∷ []) follows
    (λ next busy. converted runs rules.conversion rules.policy S T names next file owner mode held answer has (λ same. other (ap Some same)) busy comes)

pub flock_next : (runs : Bool) (rules : Rules) (S T : State) (names : Names) (worlds : ℕ → World) (file owner : ℕ) (mode : Option Mode) (answer : ServerAnswer)
    → Follows S names worlds → FlockOpComesTo rules S file owner mode answer T
    → Next runs worlds (exchange names.free file owner (flock_action mode) (told_answer answer)) T names
flock_next runs rules S T names worlds file owner None answer follows comes =
    subst (λ a. Next runs worlds (exchange names.free file owner actions.FlockUnlock (told_answer a)) T names) (sym comes.0)
    (flock_release_next runs rules.policy S T names worlds file owner follows comes.1)
flock_next runs rules S T names worlds file owner (Some mode) answer follows (inl (has, (is, same))) =
    subst (λ a. Next runs worlds (exchange names.free file owner (actions.Flock mode) (told_answer a)) T names) (sym is)
    (again runs S T names worlds file owner mode (actions.Flock mode) follows refl (λ locks free. free) (λ locks. refl) has same)
flock_next runs rules S T names worlds file owner (Some mode) answer follows (inr (other, comes)) =
    flock_from runs rules S T names worlds file owner mode ((S.files file).flocks owner) answer follows refl other comes

wait_converted : (runs : Bool) (conversion : Conversion) (policy : Policy) (S T : State) (names : Names) (worlds : ℕ → World) (ticket file owner : ℕ)
    (mode held : Mode) (answer : WaitAnswer) → (S.files file).flocks owner ≡ Some held → held ≢ mode → IsFresh S ticket
    → Busy S (more names) file names.free (opened (request_of names.free owner (actions.FlockWait mode))) worlds
    → WaitConversionComesTo conversion policy S file (flock_request ticket owner mode) answer T
    → Next runs worlds (answered_at_once names.free answer) T (named_behind answer names ticket)
wait_converted runs Stepwise policy S T names worlds ticket file owner mode held answer has differs fresh busy comes =
    let releases = comes.1 in
    let changes = unlocked S releases.between (more names) worlds file owner busy.follows releases.releases in
    let fresh_then = fresh_settled policy releases.between comes.0 file ticket (fresh_changed S releases.between file ticket fresh changes) releases.settles in
    quiet_then runs releases.between T (more names) (named_behind answer names ticket) worlds file names.free
    (opened (request_of names.free owner (actions.FlockWait mode))) _
    (busy_loss runs S releases.between (more names) worlds file names.free (request_of names.free owner (actions.FlockWait mode)) busy
    (subst (λ found. Converts found (actions.FlockWait mode)) (sym has) differs) releases.releases.unlocks changes)
    (λ next later. quiet_then runs comes.0 T (more names) (named_behind answer names ticket) next file names.free
    (opened (request_of names.free owner (actions.FlockWait mode))) _
    (busy_settled runs policy releases.between comes.0 (more names) next file names.free (opened (request_of names.free owner (actions.FlockWait mode))) later releases.settles)
    (λ last open_then. busy_waited runs policy comes.0 T names last file (flock_request ticket owner mode) answer open_then (let n = OFFMAX in omega arith) fresh_then
    (λ detected. absurd (false≢true detected)) comes.2))
wait_converted runs Atomic policy S T names worlds ticket file owner mode held answer has differs fresh busy comes =
    let changes = unlocked S comes.0 (more names) worlds file owner busy.follows comes.1 in
    quiet_then runs comes.0 T (more names) (named_behind answer names ticket) worlds file names.free
    (opened (request_of names.free owner (actions.FlockWait mode))) _
    (busy_loss runs S comes.0 (more names) worlds file names.free (request_of names.free owner (actions.FlockWait mode)) busy
    (subst (λ found. Converts found (actions.FlockWait mode)) (sym has) differs) comes.1.unlocks changes)
    (λ next later. busy_waited_at_once runs policy _ comes.0 T names next file (flock_request ticket owner mode) answer later (let n = OFFMAX in omega arith)
    (fresh_changed S comes.0 file ticket fresh changes) comes.2)

flock_wait_from : (runs : Bool) (rules : Rules) (S T : State) (names : Names) (worlds : ℕ → World) (ticket file owner : ℕ) (mode : Mode) (held : Option Mode)
    (answer : WaitAnswer) → Follows S names worlds → IsFresh S ticket → (S.files file).flocks owner ≡ held → (¬ (held ≡ Some mode))
    → FlockWaitFrom rules S file (flock_request ticket owner mode) held answer T
    → Next runs worlds (Sent file (request_of names.free owner (actions.FlockWait mode)) ∷ answered_at_once names.free answer) T (named_behind answer names ticket)
flock_wait_from runs rules S T names worlds ticket file owner mode None answer follows fresh has other comes =
    sent_then runs S T names (named_behind answer names ticket) worlds file owner (actions.FlockWait mode) (answered_at_once names.free answer) follows
    (λ next busy. busy_waited runs rules.policy S T names next file (flock_request ticket owner mode) answer busy (let n = OFFMAX in omega arith) fresh
    (λ detected. absurd (false≢true detected)) comes)
flock_wait_from runs rules S T names worlds ticket file owner mode (Some held) answer follows fresh has other comes =
    sent_then runs S T names (named_behind answer names ticket) worlds file owner (actions.FlockWait mode) (answered_at_once names.free answer) follows
    (λ next busy. wait_converted runs rules.conversion rules.policy S T names next ticket file owner mode held answer has (λ same. other (ap Some same)) fresh busy comes)

pub flock_wait_next : (runs : Bool) (rules : Rules) (S T : State) (names : Names) (worlds : ℕ → World) (ticket file owner : ℕ) (mode : Mode)
    (answer : WaitAnswer) → Follows S names worlds → IsFresh S ticket
    → FlockWaitComesTo rules S file (flock_request ticket owner mode) ((S.files file).flocks owner) answer T
    → Next runs worlds (Sent file (request_of names.free owner (actions.FlockWait mode)) ∷ answered_at_once names.free answer) T (named_behind answer names ticket)
flock_wait_next runs rules S T names worlds ticket file owner mode answer follows fresh (inl (has, (is, same))) =
    subst (λ a. Next runs worlds (Sent file (request_of names.free owner (actions.FlockWait mode)) ∷ answered_at_once names.free a) T (named_behind a names ticket)) (sym is)
    (again runs S T names worlds file owner mode (actions.FlockWait mode) follows refl (λ locks free. free) (λ locks. refl) has same)
flock_wait_next runs rules S T names worlds ticket file owner mode answer follows fresh (inr (other, comes)) =
    flock_wait_from runs rules S T names worlds ticket file owner mode ((S.files file).flocks owner) answer follows fresh refl other comes

-- ---- the end of a wait

-- a wait that leaves its file is an open request of its own
left : (S T : State) (names : Names) (worlds : ℕ → World) (file ticket : ℕ) → Follows S names worlds → (leaves : LeavesOn S file ticket T)
    → Busy T names file (names.of_ticket leaves.wait.ticket) (waiting (names.of_ticket leaves.wait.ticket) leaves.wait) worlds
left S T names worlds file ticket follows leaves =
    let tracks = follows.files file in
    let before = leaves.before in
    let wait = leaves.wait in
    let after = leaves.after in
    let place = leaves.leaves.place in
    let is = each_between (IsWaiting names.of_ticket (worlds file)) before wait after (subst (Each (IsWaiting names.of_ticket (worlds file))) place tracks.waits) in
    let apart = apart_between (name_of names.of_ticket) before wait after (subst (Apart (name_of names.of_ticket)) place tracks.apart) in
    let spans = each_between (λ (w : Pending). w.span.last ≤ OFFMAX) before wait after (subst (Each (λ (w : Pending). w.span.last ≤ OFFMAX)) place tracks.spans) in
    record {
      follows = record {
        files = λ other. elim (cases_eq other file) [
          | inl same ↦ subst (λ f. Tracks names.of_ticket (T.files f) (worlds f)) (sym same) (record {
            locks = record {
              bytes = λ owner byte. tracks.locks.bytes owner byte ∙ sym (leaves.leaves.locks.bytes owner byte);
              flocks = λ owner. tracks.locks.flocks owner ∙ sym (leaves.leaves.locks.flocks owner);
            };
            sound = record {
              within = λ owner byte mode has. tracks.sound.within owner byte mode (sym (leaves.leaves.locks.bytes owner byte) ∙ has);
              compatible = λ one two m k differs has too.
                  tracks.sound.compatible one two m k differs (sym (leaves.leaves.locks.flocks one) ∙ has) (sym (leaves.leaves.locks.flocks two) ∙ too);
            };
            waits = subst (Each (IsWaiting names.of_ticket (worlds file))) (sym leaves.leaves.waits) is.1;
            apart = subst (Apart (name_of names.of_ticket)) (sym leaves.leaves.waits) apart.1;
            spans = subst (Each (λ (w : Pending). w.span.last ≤ OFFMAX)) (sym leaves.leaves.waits) spans.1;
          })
          | inr differs ↦ tracks_same names.of_ticket (S.files other) (T.files other) (worlds other) (leaves.changes.others other differs) (follows.files other)
        ];
        free = follows.free;
        alone = follows.alone;
        grants = subst (Each (λ t. (f : ℕ) × IsDone (worlds f) (names.of_ticket t))) (sym leaves.changes.grants) follows.grants;
        apart = subst (Apart names.of_ticket) (sym leaves.changes.grants) follows.apart;
      };
      own = is.0;
      no_wait = subst (Each (λ (w : Pending). names.of_ticket w.ticket ≢ names.of_ticket leaves.wait.ticket)) (sym leaves.leaves.waits) apart.0;
      no_grant = subst (Each (λ t. names.of_ticket t ≢ names.of_ticket leaves.wait.ticket)) (sym leaves.changes.grants)
          (each_weaker (λ t. (f : ℕ) × IsDone (worlds f) (names.of_ticket t)) (λ t. names.of_ticket t ≢ names.of_ticket leaves.wait.ticket)
          (λ t done. differ t done.0 done.1 is.0) S.grants follows.grants);
    }
  where
    differ : (t f : ℕ) → IsDone (worlds f) (names.of_ticket t) → IsWaiting names.of_ticket (worlds file) leaves.wait
        → names.of_ticket t ≢ names.of_ticket leaves.wait.ticket
    differ t f done waits_on same =
        let there : IsOpen (worlds f) (names.of_ticket leaves.wait.ticket) done.0 = subst (λ n. IsOpen (worlds f) n done.0) same done.1 in
        let here : f ≡ file = follows.alone f file (names.of_ticket leaves.wait.ticket) done.0 (waiting (names.of_ticket leaves.wait.ticket) leaves.wait) there waits_on in
        differ_by_effect (worlds file) (names.of_ticket leaves.wait.ticket) (names.of_ticket t) (waiting (names.of_ticket leaves.wait.ticket) leaves.wait) waits_on refl
        (subst (λ g. IsDone (worlds g) (names.of_ticket t)) here done) same

-- a cancelled wait is told so (POSIX.1-2017 fcntl, ERRORS, EINTR)
pub cancel_next : (runs : Bool) (policy : Policy) (S T : State) (names : Names) (worlds : ℕ → World) (ticket : ℕ) → Follows S names worlds
    → Cancels policy S ticket T → Next runs worlds (Answered (names.of_ticket ticket) answers.Interrupted ∷ []) T names
cancel_next runs policy S T names worlds ticket follows cancels =
    let leaves = cancels.leaves in
    let busy = left S cancels.between names worlds cancels.file ticket follows leaves in
    let next = answered runs cancels.between names names worlds cancels.file (names.of_ticket leaves.wait.ticket)
    (waiting (names.of_ticket leaves.wait.ticket) leaves.wait) answers.Interrupted busy refl (λ i low. inl low)
    (may leaves.wait.family leaves.wait) in
    let last = next_append runs worlds (Answered (names.of_ticket leaves.wait.ticket) answers.Interrupted ∷ []) [] cancels.between T names names next
    (settled_next runs policy cancels.between T names next.worlds' cancels.file next.follows cancels.settles) in
    subst (λ t. Next runs worlds (Answered (names.of_ticket t) answers.Interrupted ∷ []) T names) leaves.of_ticket last
  where
    may : (family : Family) (wait : Pending)
        → NothingMayTell (action_of family wait.span wait.mode) answers.Interrupted
    may Bytes wait = refl
    may Whole wait = refl

-- a grant that is fetched is told that it is done
pub fetch_next : (runs : Bool) (S T : State) (names : Names) (worlds : ℕ → World) (ticket : ℕ) → Follows S names worlds → FetchComesTo S (Some ticket) T
    → Next runs worlds (Answered (names.of_ticket ticket) answers.Done ∷ []) T names
fetch_next runs S T names worlds ticket follows fetch =
    let grants = subst (Each (λ t. (f : ℕ) × IsDone (worlds f) (names.of_ticket t))) fetch.0 follows.grants in
    let apart = subst (Apart names.of_ticket) fetch.0 follows.apart in
    let file = grants.0.0 in
    let done = grants.0.1 in
    answered runs T names names worlds file (names.of_ticket ticket) done.0 answers.Done (record {
      follows = record {
        files = λ other. tracks_same names.of_ticket (S.files other) (T.files other) (worlds other) (fetch.1 other) (follows.files other);
        free = follows.free;
        alone = follows.alone;
        grants = grants.1;
        apart = apart.1;
      };
      own = done.1;
      no_wait = subst (Each (λ (w : Pending). names.of_ticket w.ticket ≢ names.of_ticket ticket)) (sym (fetch.1 file).waits)
          (each_weaker (IsWaiting names.of_ticket (worlds file)) (λ (w : Pending). names.of_ticket w.ticket ≢ names.of_ticket ticket)
          (λ w waits_on same. differ_by_effect (worlds file) (names.of_ticket w.ticket) (names.of_ticket ticket) (waiting (names.of_ticket w.ticket) w) waits_on refl
          done (sym same)) (S.files file).waits (follows.files file).waits);
      no_grant = apart.0;
    }) refl (λ i low. inl low) (subst (λ e. MayTell runs done.0.request.owner done.0.request.action e answers.Done) (sym done.2) tt)
