-- What a session shows, by its sequencer: for `Session::take_next`, `Session::take_one`, `run_all` and others.
use Rattle.session_core.proofs.Common.{ℕ, ◌≡◌, ◌∙◌, refl, sym, subst, arith, true, length, Some, Result, Ok, Err, eq-eqb, common_steps, IsNone, Request, Live, state_at, manager_in, sent_by, waiting_at, HasTold, HasNoMail, manager_of, events_in, sent_of, next_untaken, IsDrained, events_of}
use Rattle.std.specs.Prelude.{IsSome, OnErr, is_err}
use Rattle.range_core.specs.declared.memory.Memory.{Memory}
use Rattle.session_core.specs.declared.session.Session.{Session}
use Rattle.session_core.specs.SequencerView.{first_waiting, HasNoneWaitingBelow}
use Rattle.session_core.specs.SessionView.{SessionHolds, Arrives, SameSession, TakesOne, TakesRequest}
use Rattle.session_core.specs.Draining.{HasNoMailBelow}
use Rattle.session_core.proofs.MailLemmas.{next_untaken-waits, slice_get-behind}

-- the headline holds at every moment
pub session_holds : (session : Session) → SessionHolds session
unfolding manager_of events_in sent_of manager_in sent_by HasTold
session_holds session = session.told.holds

-- the next request of a process is the first that waits at the sequencer
pub next_is_first : (session : Session) (p : ℕ)
    → next_untaken (sent_of session) (events_in session) p ≡ first_waiting session.sequencer p
unfolding events_in sent_of sent_by waiting_at
next_is_first session p = next_untaken-waits session.sequencer.mailboxes.items session.journal.items p

-- where no live process of a lesser number has mail at the sequencer, none has any
pub none_below : (session : Session) (p : ℕ) → HasNoneWaitingBelow session.sequencer p
    → HasNoMailBelow (state_at (manager_of session)) (sent_of session) (events_in session) p
unfolding manager_of
none_below session p none q below live = subst IsNone (sym (next_is_first session q)) (none q below live)

-- where no live process has mail at the sequencer, all is taken
pub none_left : (session : Session) → HasNoMail session.sequencer
    → IsDrained (state_at (manager_of session)) (sent_of session) (events_in session)
unfolding manager_of
none_left session none q live = subst IsNone (sym (next_is_first session q)) (none q live)

-- a request that is the next one, and was taken, is the next event
pub TakesOne-request : (old new : Session) (p place : ℕ) (request : Request) → state_at (manager_of old) p ≡ Live
    → next_untaken (sent_of old) (events_in old) p ≡ Some request
    → HasNoMailBelow (state_at (manager_of old)) (sent_of old) (events_in old) p
    → TakesRequest old new p request (sent_of old) place → TakesOne old new place
TakesOne-request old new p place request live next least took =
    record {
      event = took.event;
      is_next = record {
        live = rw took.process live;
        request = rw (took.process, took.request_is) next;
        least = rw took.process least;
        number = rw took.process took.number;
      };
      journal = took.journal;
      at_place = took.at_place;
      step = took.step;
      sent = took.sent_is;
      same_rules = took.same_rules;
    }

-- a request that arrived where all that was sent before was taken is the next one
arrived_next : (old between : Session) (p : ℕ) (request : Request) (n : ℕ) → Arrives old between p request n
    → length (sent_of old p) ≡ length (events_of p (events_in old)) → next_untaken (sent_of between) (events_in between) p ≡ Some request
arrived_next old between p request n arrived all = grind (arith, common_steps, eq-eqb, slice_get-behind)

-- and waits still where it wasn't taken for want of memory
pub waits_still : (old between refused : Session) (p : ℕ) (request : Request) (n : ℕ) (result : Result ℕ Memory) → Arrives old between p request n
    → length (sent_of old p) ≡ length (events_of p (events_in old)) → true ≡ is_err result → OnErr result (SameSession between refused)
    → IsSome (first_waiting refused.sequencer p)
waits_still old between refused p request n (Ok place) arrived all refused_is same = cc
waits_still old between refused p request n (Err memory) arrived all refused_is same =
    let next : next_untaken (sent_of refused) (events_in refused) p ≡ Some request =
    rw (same.sent p, same.journal) (arrived_next old between p request n arrived all) in
    subst IsSome (sym next ∙ next_is_first refused p) refl
