-- The whole server beside its history: what each of a request's moments keeps.
use Rattle.history_of_server.proofs.Common.{inl, inr, ℕ, ◌≡◌, ◌≢◌, ◌∙◌, ◌≤◌, sym, refl, subst, arith, false, Bool, None, List, [], ◌∷◌, ◌++◌, map, cases_eq, ◌⊎◌}
use Rattle.history_of_server.proofs.Common.{OFFMAX, Policy, Request, Action, FileLocks, Converts, Effect, MayHave, MayTell, locks_behind, IsFree, IsOpen, Open, World, behind_effect, closed, is_death, opened, with_open, Answered, HistoryLine, Sent, Pending, FileState, SameFile, Settles, State, Names, exchange, request_of}
use Rattle.std.proofs.Common.{◌+◌}
use Rattle.std.proofs.lemmas.List.{append-nil}
use Rattle.history_core.specs.declared.request.Answer.{Answer}
use Rattle.history_core.specs.Moments.{behind_loss}
use Rattle.lock_server.specs.Files.{SetsFlock}
use Rattle.lock_server.specs.Pendings.{tickets_of}
use Rattle.lock_server.specs.States.{SettlesFile}
use Rattle.history_of_server.proofs.ListLemmas.{Apart, Each, each_append, each_both, each_weaker}
use Rattle.history_of_server.proofs.WorldLemmas.{closed_here, closed_other, free_or_open, open_not_free, sent_here, sent_other}
use Rattle.history_of_server.proofs.PartLemmas.{Path, part_answered, part_effect, part_loss, part_sent, path_append, path_of_part, put, put_here, put_other}
use Rattle.history_of_server.proofs.BlockLemmas.{Holds, IsSound, holds_flock}
use Rattle.history_of_server.proofs.TrackLemmas.{IsDone, IsWaiting, Keeps, Tracks, differ_by_effect, effect_done, effect_still, keeps_effect, keeps_look, name_of, settled, settles_apart, settles_each, tracks_same, waiting}

-- what the history knows follows the server's state
pub record Follows (S : State) (names : Names) (worlds : ℕ → World) : Type 0 where
  pub files : (file : ℕ) → Tracks names.of_ticket (S.files file) (worlds file)
  pub free : (file id : ℕ) → names.free ≤ id → IsFree (worlds file) id
  pub alone : (file other id : ℕ) (one two : Open) → IsOpen (worlds file) id one → IsOpen (worlds other) id two → file ≡ other
  pub grants : Each (λ ticket. (file : ℕ) × IsDone (worlds file) (names.of_ticket ticket)) S.grants
  pub apart : Apart names.of_ticket S.grants

-- these lines lead to worlds that follow the state
pub record Next (runs : Bool) (worlds : ℕ → World) (lines : List HistoryLine) (T : State) (names : Names) : Type 0 where
  pub worlds' : ℕ → World
  pub path : Path runs worlds lines worlds'
  pub follows : Follows T names worlds'

pub next_append : (runs : Bool) (worlds : ℕ → World) (first more : List HistoryLine) (S T : State) (one two : Names) → (next : Next runs worlds first S one)
    → Next runs next.worlds' more T two → Next runs worlds (first ++ more) T two
next_append runs worlds first more S T one two next later = record {
  worlds' = later.worlds';
  path = path_append runs worlds next.worlds' later.worlds' first more next.path later.path;
  follows = later.follows;
}

pub follows_same : (S T : State) (names : Names) (worlds : ℕ → World) → ((file : ℕ) → SameFile (S.files file) (T.files file)) → T.grants ≡ S.grants
    → Follows S names worlds → Follows T names worlds
follows_same S T names worlds same grants follows = record {
  files = λ file. tracks_same names.of_ticket (S.files file) (T.files file) (worlds file) (same file) (follows.files file);
  free = follows.free;
  alone = follows.alone;
  grants = subst (Each (λ ticket. (file : ℕ) × IsDone (worlds file) (names.of_ticket ticket))) (sym grants) follows.grants;
  apart = subst (Apart names.of_ticket) (sym grants) follows.apart;
}

-- ---- one file's world becomes another

-- what holds of the one world, and of the others, holds of all
pub at_put : (P : ℕ → World → Type 0) (worlds : ℕ → World) (file : ℕ) (w : World) → P file w → ((other : ℕ) → other ≢ file → P other (worlds other))
    → (other : ℕ) → P other (put worlds file w other)
at_put P worlds file w here others other = elim (cases_eq other file) [
  | inl same ↦ subst (λ g. P g (put worlds file w g)) (sym same) (subst (P file) (sym (put_here worlds file w)) here)
  | inr differs ↦ subst (P other) (sym (put_other worlds file w other differs)) (others other differs)
]

put_did : (worlds : ℕ → World) (file : ℕ) (w : World) (id : ℕ) → Keeps (worlds file) w → (other : ℕ) → IsDone (worlds other) id → IsDone (put worlds file w other) id
put_did worlds file w id keeps =
    at_put (λ other v. IsDone (worlds other) id → IsDone v id) worlds file w (λ done. keeps.did id done) (λ other differs done. done)

put_free : (worlds : ℕ → World) (file : ℕ) (w : World) (id : ℕ) → Keeps (worlds file) w → (other : ℕ) → IsFree (worlds other) id → IsFree (put worlds file w other) id
put_free worlds file w id keeps =
    at_put (λ other v. IsFree (worlds other) id → IsFree v id) worlds file w (λ free. keeps.free id free) (λ other differs free. free)

-- what is open was open
put_open : (worlds : ℕ → World) (file : ℕ) (w : World) (id : ℕ) → Keeps (worlds file) w → (other : ℕ) (one : Open) → IsOpen (put worlds file w other) id one
    → (old : Open) × IsOpen (worlds other) id old
put_open worlds file w id keeps other one found = elim (free_or_open (worlds other) id) [
  | inl free ↦ absurd (open_not_free (put worlds file w other) id one found (put_free worlds file w id keeps other free))
  | inr old ↦ old
]

pub each_mapped : {X : Type 0} (P : ℕ → Type 0) (f : X → ℕ) (xs : List X) → Each (λ x. P (f x)) xs → Each P (map f xs)
each_mapped P f [] each = tt
each_mapped P f (x ∷ xs) each = (each.0, each_mapped P f xs each.1)

apart_mapped : {X : Type 0} (f : ℕ → ℕ) (g : X → ℕ) (xs : List X) → Apart (λ x. f (g x)) xs → Apart f (map g xs)
apart_mapped f g [] apart = tt
apart_mapped f g (x ∷ xs) apart = (each_mapped (λ y. f y ≢ f (g x)) g xs apart.0, apart_mapped f g xs apart.1)

apart_append : {X : Type 0} (f : X → ℕ) (xs ys : List X) → Apart f xs → Apart f ys → Each (λ x. Each (λ y. f y ≢ f x) ys) xs → Apart f (xs ++ ys)
apart_append f [] ys first more each = more
apart_append f (x ∷ xs) ys first more each = (each_append (λ y. f y ≢ f x) xs ys first.0 each.0, apart_append f xs ys first.1 more each.1)

-- the file's world has gone on, and these waits were granted
pub followed : (S T : State) (names : Names) (worlds : ℕ → World) (file : ℕ) (w : World) (waits : List Pending) → Follows S names worlds
    → Tracks names.of_ticket (T.files file) w → ((other : ℕ) → other ≢ file → SameFile (S.files other) (T.files other)) → Keeps (worlds file) w
    → T.grants ≡ S.grants ++ tickets_of waits → Each (IsWaiting names.of_ticket (worlds file)) waits → Apart (name_of names.of_ticket) waits
    → Each (λ wait. IsDone w (names.of_ticket wait.ticket)) waits → Follows T names (put worlds file w)
followed S T names worlds file w waits follows tracks others keeps grants were apart done = record {
  files = at_put (λ other v. Tracks names.of_ticket (T.files other) v) worlds file w tracks
      (λ other differs. tracks_same names.of_ticket (S.files other) (T.files other) (worlds other) (others other differs) (follows.files other));
  free = λ other id past. put_free worlds file w id keeps other (follows.free other id past);
  alone = λ f g id one two here there.
      let old = put_open worlds file w id keeps f one here in
      let older = put_open worlds file w id keeps g two there in
      follows.alone f g id old.0 older.0 old.1 older.1;
  grants = subst (Each IsGranted) (sym grants) (each_append IsGranted S.grants (tickets_of waits)
      (each_weaker (λ ticket. (f : ℕ) × IsDone (worlds f) (names.of_ticket ticket)) IsGranted
      (λ ticket is. (is.0, put_did worlds file w (names.of_ticket ticket) keeps is.0 is.1)) S.grants follows.grants)
      (each_mapped IsGranted (λ wait. wait.ticket) waits
      (each_weaker (λ wait. IsDone w (names.of_ticket wait.ticket)) (λ wait. IsGranted wait.ticket)
      (λ wait is. (file, subst (λ v. IsDone v (names.of_ticket wait.ticket)) (sym (put_here worlds file w)) is)) waits done)));
  apart = subst (Apart names.of_ticket) (sym grants) (apart_append names.of_ticket S.grants (tickets_of waits) follows.apart
      (apart_mapped names.of_ticket (λ wait. wait.ticket) waits apart)
      (each_weaker (λ ticket. (f : ℕ) × IsDone (worlds f) (names.of_ticket ticket)) (λ ticket. Each (λ u. names.of_ticket u ≢ names.of_ticket ticket) (tickets_of waits))
      (λ ticket is. each_mapped (λ u. names.of_ticket u ≢ names.of_ticket ticket) (λ wait. wait.ticket) waits
      (each_weaker (IsWaiting names.of_ticket (worlds file)) (λ wait. names.of_ticket wait.ticket ≢ names.of_ticket ticket)
      (λ wait waits_on same. differs ticket is wait waits_on same) waits were)) S.grants follows.grants));
}
  where
    IsGranted : ℕ → Type 0
    IsGranted ticket = (f : ℕ) × IsDone (put worlds file w f) (names.of_ticket ticket)

    differs : (ticket : ℕ) → ((f : ℕ) × IsDone (worlds f) (names.of_ticket ticket)) → (wait : Pending) → IsWaiting names.of_ticket (worlds file) wait
        → names.of_ticket wait.ticket ≢ names.of_ticket ticket
    differs ticket is wait waits_on same =
        let moved : IsOpen (worlds file) (names.of_ticket ticket) (waiting (names.of_ticket wait.ticket) wait) =
        subst (λ n. IsOpen (worlds file) n (waiting (names.of_ticket wait.ticket) wait)) same waits_on in
        let here : is.0 ≡ file = follows.alone is.0 file (names.of_ticket ticket) is.1.0 (waiting (names.of_ticket wait.ticket) wait) is.1.1 moved in
        differ_by_effect (worlds file) (names.of_ticket ticket) (names.of_ticket ticket) (waiting (names.of_ticket wait.ticket) wait) moved refl
        (subst (λ f. IsDone (worlds f) (names.of_ticket ticket)) here is.1) refl

-- where none was granted
pub followed_silent : (S T : State) (names : Names) (worlds : ℕ → World) (file : ℕ) (w : World) → Follows S names worlds
    → Tracks names.of_ticket (T.files file) w → ((other : ℕ) → other ≢ file → SameFile (S.files other) (T.files other)) → Keeps (worlds file) w
    → T.grants ≡ S.grants → Follows T names (put worlds file w)
followed_silent S T names worlds file w follows tracks others keeps grants =
    followed S T names worlds file w [] follows tracks others keeps (grants ∙ sym (append-nil S.grants)) tt tt tt

-- these grants settle the file, and go to the end of the queue
pub grants_next : (runs : Bool) (policy : Policy) (S T : State) (names : Names) (worlds : ℕ → World) (file : ℕ) (waits : List Pending) → Follows S names worlds
    → Settles policy (S.files file) waits (T.files file) → ((other : ℕ) → other ≢ file → SameFile (S.files other) (T.files other))
    → T.grants ≡ S.grants ++ tickets_of waits → Next runs worlds [] T names
grants_next runs policy S T names worlds file waits follows settles others grants =
    let is = settled runs policy names.of_ticket (S.files file) (worlds file) waits (T.files file) settles (follows.files file) in
    record {
      worlds' = put worlds file is.world;
      path = path_of_part runs file worlds [] is.world is.part tt;
      follows = followed S T names worlds file is.world waits follows is.tracks others is.keeps grants
          (settles_each policy (S.files file) waits (T.files file) (IsWaiting names.of_ticket (worlds file)) settles (follows.files file).waits).0
          (settles_apart policy (S.files file) waits (T.files file) (name_of names.of_ticket) settles (follows.files file).apart)
          is.done;
    }

-- a settled file, in the history
pub settled_next : (runs : Bool) (policy : Policy) (S T : State) (names : Names) (worlds : ℕ → World) (file : ℕ) → Follows S names worlds
    → SettlesFile policy S file T → Next runs worlds [] T names
settled_next runs policy S T names worlds file follows settles =
    grants_next runs policy S T names worlds file settles.granted follows settles.settles settles.others settles.grants

-- ---- a request that was sent last

-- one more ID is taken
abbrev pub more : Names → Names
more names = record names { free = names.free + 1 }

-- the same, and a request of its own is open by this ID
pub record Busy (S : State) (names : Names) (file id : ℕ) (one : Open) (worlds : ℕ → World) : Type 0 where
  pub follows : Follows S names worlds
  pub own : IsOpen (worlds file) id one
  pub no_wait : Each (λ wait. names.of_ticket wait.ticket ≢ id) (S.files file).waits
  pub no_grant : Each (λ ticket. names.of_ticket ticket ≢ id) S.grants

pub record NextBusy (runs : Bool) (worlds : ℕ → World) (lines : List HistoryLine) (T : State) (names : Names) (file id : ℕ) (one : Open) : Type 0 where
  pub worlds' : ℕ → World
  pub path : Path runs worlds lines worlds'
  pub busy : Busy T names file id one worlds'

open_differs : (w : World) (id other : ℕ) (one : Open) → IsOpen w other one → IsFree w id → other ≢ id
open_differs w id other one found free same = open_not_free w id one (subst (λ n. IsOpen w n one) same found) free

sent_tracks : (name : ℕ → ℕ) (F : FileState) (w : World) (request : Request) → IsFree w request.id → Tracks name F w → Tracks name F (with_open request w)
sent_tracks name F w request free tracks = record {
  locks = tracks.locks;
  sound = tracks.sound;
  waits = each_weaker (IsWaiting name w) (IsWaiting name (with_open request w))
      (λ wait is. sent_other w request (name wait.ticket) (open_differs w request.id (name wait.ticket) (waiting (name wait.ticket) wait) is free) ∙ is)
      F.waits tracks.waits;
  apart = tracks.apart;
  spans = tracks.spans;
}

-- what is open behind a request that was sent was so, or is this
sent_open : (names : Names) (worlds : ℕ → World) (file : ℕ) (request : Request) (id : ℕ) → (other : ℕ) (one : Open)
    → IsOpen (put worlds file (with_open request (worlds file)) other) id one
    → ((other ≡ file) × (id ≡ request.id)) ⊎ IsOpen (worlds other) id one
sent_open names worlds file request id =
    at_put (λ other v. (one : Open) → IsOpen v id one → ((other ≡ file) × (id ≡ request.id)) ⊎ IsOpen (worlds other) id one) worlds file
    (with_open request (worlds file))
    (λ one found. elim (cases_eq id request.id) [
      | inl same ↦ inl (refl, same)
      | inr differs ↦ inr (sym (sent_other (worlds file) request id differs) ∙ found)
    ])
    (λ other differs one found. inr found)

pub begun : (runs : Bool) (S : State) (names : Names) (worlds : ℕ → World) (file owner : ℕ) (action : Action) → Follows S names worlds
    → NextBusy runs worlds (Sent file (request_of names.free owner action) ∷ []) S (more names) file names.free (opened (request_of names.free owner action))
begun runs S names worlds file owner action follows = record {
  worlds' = put worlds file w;
  path = path_of_part runs file worlds _ w (part_sent runs (worlds file) request (is_free file)) ((λ other differs. is_free other), tt);
  busy = record {
    follows = record {
      files = at_put (λ other v. Tracks names.of_ticket (S.files other) v) worlds file w
          (sent_tracks names.of_ticket (S.files file) (worlds file) request (is_free file) (follows.files file)) (λ other differs. follows.files other);
      free = λ other id past. at_put (λ f v. IsFree v id) worlds file w
          (sent_other (worlds file) request id (λ same. absurd (omega (arith, past, same))) ∙ follows.free file id (omega (arith, past)))
          (λ f differs. follows.free f id (omega (arith, past))) other;
      alone = λ f g id one two here there. both f g id one two (sent_open names worlds file request id f one here) (sent_open names worlds file request id g two there);
      grants = each_weaker (λ ticket. (f : ℕ) × IsDone (worlds f) (names.of_ticket ticket)) (λ ticket. (f : ℕ) × IsDone (put worlds file w f) (names.of_ticket ticket))
          (λ ticket is. (
            is.0,
            at_put (λ f v. IsDone (worlds f) (names.of_ticket ticket) → IsDone v (names.of_ticket ticket)) worlds file w
                (λ done. (
                  done.0,
                  sent_other (worlds file) request (names.of_ticket ticket)
                      (open_differs (worlds file) names.free (names.of_ticket ticket) done.0 done.1 (is_free file)) ∙ done.1,
                  done.2,
                ))
                (λ f differs done. done) is.0 is.1,
          )) S.grants follows.grants;
      apart = follows.apart;
    };
    own = subst (λ v. IsOpen v names.free (opened request)) (sym (put_here worlds file w)) (sent_here (worlds file) request (is_free file));
    no_wait = each_weaker (IsWaiting names.of_ticket (worlds file)) (λ wait. names.of_ticket wait.ticket ≢ names.free)
        (λ wait is. open_differs (worlds file) names.free (names.of_ticket wait.ticket) (waiting (names.of_ticket wait.ticket) wait) is (is_free file))
        (S.files file).waits (follows.files file).waits;
    no_grant = each_weaker (λ ticket. (f : ℕ) × IsDone (worlds f) (names.of_ticket ticket)) (λ ticket. names.of_ticket ticket ≢ names.free)
        (λ ticket is. open_differs (worlds is.0) names.free (names.of_ticket ticket) is.1.0 is.1.1 (is_free is.0)) S.grants follows.grants;
  };
}
  where
    request : Request
    request = request_of names.free owner action

    w : World
    w = with_open request (worlds file)

    is_free : (other : ℕ) → IsFree (worlds other) names.free
    is_free other = follows.free other names.free (omega arith)

    both : (f g id : ℕ) (one two : Open) → ((f ≡ file) × (id ≡ names.free)) ⊎ IsOpen (worlds f) id one → ((g ≡ file) × (id ≡ names.free)) ⊎ IsOpen (worlds g) id two → f ≡ g
    both f g id one two (inl here) (inl there) = here.0 ∙ sym there.0
    both f g id one two (inl here) (inr there) = absurd (open_differs (worlds g) names.free id two there (is_free g) here.1)
    both f g id one two (inr here) (inl there) = absurd (open_differs (worlds f) names.free id one here (is_free f) there.1)
    both f g id one two (inr here) (inr there) = follows.alone f g id one two here there

-- the file is settled while the request is open
pub busy_settled : (runs : Bool) (policy : Policy) (S T : State) (names : Names) (worlds : ℕ → World) (file id : ℕ) (one : Open) → Busy S names file id one worlds
    → SettlesFile policy S file T → NextBusy runs worlds [] T names file id one
busy_settled runs policy S T names worlds file id one busy settles =
    let is = settled runs policy names.of_ticket (S.files file) (worlds file) settles.granted (T.files file) settles.settles (busy.follows.files file) in
    let parts = settles_each policy (S.files file) settles.granted (T.files file) (λ wait. names.of_ticket wait.ticket ≢ id) settles.settles busy.no_wait in
    record {
      worlds' = put worlds file is.world;
      path = path_of_part runs file worlds [] is.world is.part tt;
      busy = record {
        follows = followed S T names worlds file is.world settles.granted busy.follows is.tracks settles.others is.keeps settles.grants
            (settles_each policy (S.files file) settles.granted (T.files file) (IsWaiting names.of_ticket (worlds file)) settles.settles (busy.follows.files file).waits).0
            (settles_apart policy (S.files file) settles.granted (T.files file) (name_of names.of_ticket) settles.settles (busy.follows.files file).apart)
            is.done;
        own = subst (λ v. IsOpen v id one) (sym (put_here worlds file is.world)) (is.still id one busy.no_wait busy.own);
        no_wait = parts.1;
        no_grant = subst (Each (λ ticket. names.of_ticket ticket ≢ id)) (sym settles.grants)
            (each_append (λ ticket. names.of_ticket ticket ≢ id) S.grants (tickets_of settles.granted) busy.no_grant
            (each_mapped (λ ticket. names.of_ticket ticket ≢ id) (λ wait. wait.ticket) settles.granted parts.0));
      };
    }

-- the locks on the file change, and nothing else
pub record ChangesLocks (S : State) (file : ℕ) (T : State) : Type 0 where
  pub sound : IsSound (T.files file)
  pub waits : (T.files file).waits ≡ (S.files file).waits
  pub others : (other : ℕ) → other ≢ file → SameFile (S.files other) (T.files other)
  pub grants : T.grants ≡ S.grants

-- the world has the locks of the next state, and the same waits are open
pub tracks_changed : (name : ℕ → ℕ) (F G : FileState) (w v : World) → Tracks name F w → Holds G v.locks → IsSound G → G.waits ≡ F.waits
    → Each (IsWaiting name v) F.waits → Tracks name G v
tracks_changed name F G w v tracks holds sound waits open_still = record {
  locks = holds;
  sound = sound;
  waits = subst (Each (IsWaiting name v)) (sym waits) open_still;
  apart = subst (Apart (name_of name)) (sym waits) tracks.apart;
  spans = subst (Each (λ wait. wait.span.last ≤ OFFMAX)) (sym waits) tracks.spans;
}

-- the request's own effect
pub busy_effect : (runs : Bool) (S T : State) (names : Names) (worlds : ℕ → World) (file id : ℕ) (request : Request) (effect : Effect)
    → Busy S names file id (opened request) worlds → is_death request.action ≡ false
    → ((locks : FileLocks) → Holds (S.files file) locks → MayHave locks request.owner request.action effect)
    → ((locks : FileLocks) → Holds (S.files file) locks → Holds (T.files file) (locks_behind locks request.owner request.action effect))
    → ChangesLocks S file T
    → (one : Open) × NextBusy runs worlds [] T names file id one × (one.effect ≡ effect) × (one.request ≡ request)
busy_effect runs S T names worlds file id request effect busy lives may leaves changes =
    let tracks = busy.follows.files file in
    let done = effect_done (worlds file) id (opened request) effect busy.own in
    let v = behind_effect (worlds file) request effect in (
      done.0,
      record {
        worlds' = put worlds file v;
        path = path_of_part runs file worlds [] v (part_effect runs (worlds file) id (opened request) effect busy.own refl refl (may (worlds file).locks tracks.locks)) tt;
        busy = record {
          follows = followed_silent S T names worlds file v busy.follows
              (tracks_changed names.of_ticket (S.files file) (T.files file) (worlds file) v tracks (leaves (worlds file).locks tracks.locks) changes.sound changes.waits
              (each_weaker (λ wait. (names.of_ticket wait.ticket ≢ id) × IsWaiting names.of_ticket (worlds file) wait) (IsWaiting names.of_ticket v)
              (λ wait both. effect_still (worlds file) id (names.of_ticket wait.ticket) (opened request) (waiting (names.of_ticket wait.ticket) wait) effect busy.own lives
              both.0 both.1)
              (S.files file).waits (each_both (λ wait. names.of_ticket wait.ticket ≢ id) (IsWaiting names.of_ticket (worlds file)) (S.files file).waits busy.no_wait tracks.waits)))
              changes.others (keeps_effect (worlds file) id (opened request) effect busy.own refl) changes.grants;
          own = subst (λ u. IsOpen u id done.0) (sym (put_here worlds file v)) done.1;
          no_wait = subst (Each (λ wait. names.of_ticket wait.ticket ≢ id)) (sym changes.waits) busy.no_wait;
          no_grant = subst (Each (λ ticket. names.of_ticket ticket ≢ id)) (sym changes.grants) busy.no_grant;
        };
      },
      done.2,
      done.3,
    )

-- a conversion loses its owner's old lock
pub busy_loss : (runs : Bool) (S T : State) (names : Names) (worlds : ℕ → World) (file id : ℕ) (request : Request)
    → Busy S names file id (opened request) worlds → Converts ((S.files file).flocks request.owner) request.action
    → SetsFlock (S.files file) request.owner None (T.files file) → ChangesLocks S file T
    → NextBusy runs worlds [] T names file id (opened request)
busy_loss runs S T names worlds file id request busy converts sets changes =
    let tracks = busy.follows.files file in
    let v = behind_loss (worlds file) request.owner in
    record {
      worlds' = put worlds file v;
      path = path_of_part runs file worlds [] v (part_loss runs (worlds file) id (opened request) busy.own tt refl
          (subst (λ held. Converts held request.action) (sym (tracks.locks.flocks request.owner)) converts)) tt;
      busy = record {
        follows = followed_silent S T names worlds file v busy.follows
            (tracks_changed names.of_ticket (S.files file) (T.files file) (worlds file) v tracks
            (holds_flock (S.files file) (T.files file) (worlds file).locks request.owner None tracks.locks sets) changes.sound changes.waits tracks.waits)
            changes.others (keeps_look (worlds file) v (λ other. refl)) changes.grants;
        own = subst (λ u. IsOpen u id (opened request)) (sym (put_here worlds file v)) busy.own;
        no_wait = subst (Each (λ wait. names.of_ticket wait.ticket ≢ id)) (sym changes.waits) busy.no_wait;
        no_grant = subst (Each (λ ticket. names.of_ticket ticket ≢ id)) (sym changes.grants) busy.no_grant;
      };
    }

-- ---- the answer

closed_tracks : (name : ℕ → ℕ) (F : FileState) (w : World) (id : ℕ) → Each (λ wait. name wait.ticket ≢ id) F.waits → Tracks name F w → Tracks name F (closed id w)
closed_tracks name F w id others tracks = record {
  locks = tracks.locks;
  sound = tracks.sound;
  waits = each_weaker (λ wait. (name wait.ticket ≢ id) × IsWaiting name w wait) (IsWaiting name (closed id w))
      (λ wait both. closed_other w id (name wait.ticket) both.0 ∙ both.1) F.waits (each_both (λ wait. name wait.ticket ≢ id) (IsWaiting name w) F.waits others tracks.waits);
  apart = tracks.apart;
  spans = tracks.spans;
}

-- what is open behind an answer was so, and isn't what was answered
closed_open : (worlds : ℕ → World) (file id : ℕ) (i : ℕ) → (other : ℕ) (one : Open) → IsOpen (put worlds file (closed id (worlds file)) other) i one
    → IsOpen (worlds other) i one
closed_open worlds file id i =
    at_put (λ other v. (one : Open) → IsOpen v i one → IsOpen (worlds other) i one) worlds file (closed id (worlds file))
    (λ one found. elim (cases_eq i id) [
      | inl same ↦ absurd (open_not_free (closed id (worlds file)) id one (subst (λ n. IsOpen (closed id (worlds file)) n one) same found) (closed_here (worlds file) id))
      | inr differs ↦ sym (closed_other (worlds file) id i differs) ∙ found
    ])
    (λ other differs one found. found)

-- an open request is answered that is no wait and no grant of the state
pub answered : (runs : Bool) (S : State) (names after : Names) (worlds : ℕ → World) (file id : ℕ) (one : Open) (answer : Answer) → Busy S names file id one worlds
    → after.of_ticket ≡ names.of_ticket → ((i : ℕ) → after.free ≤ i → (names.free ≤ i) ⊎ (i ≡ id))
    → MayTell runs one.request.owner one.request.action one.effect answer → Next runs worlds (Answered id answer ∷ []) S after
answered runs S names after worlds file id one answer busy same_names past told = record {
  worlds' = put worlds file v;
  path = path_of_part runs file worlds _ v (part_answered runs (worlds file) id one answer busy.own told) (tt, tt);
  follows = record {
    files = at_put (λ other u. Tracks after.of_ticket (S.files other) u) worlds file v
        (subst (λ name. Tracks name (S.files file) v) (sym same_names) (closed_tracks names.of_ticket (S.files file) (worlds file) id busy.no_wait (busy.follows.files file)))
        (λ other differs. subst (λ name. Tracks name (S.files other) (worlds other)) (sym same_names) (busy.follows.files other));
    free = λ other i low. free_then other i (past i low);
    alone = λ f g i a b here there. busy.follows.alone f g i a b (closed_open worlds file id i f a here) (closed_open worlds file id i g b there);
    grants = each_weaker (λ ticket. (names.of_ticket ticket ≢ id) × ((f : ℕ) × IsDone (worlds f) (names.of_ticket ticket)))
        (λ ticket. (f : ℕ) × IsDone (put worlds file v f) (after.of_ticket ticket))
        (λ ticket both. (both.1.0, subst (λ name. IsDone (put worlds file v both.1.0) (name ticket)) (sym same_names) (done_still ticket both.0 both.1.0 both.1.1)))
        S.grants (each_both (λ ticket. names.of_ticket ticket ≢ id) (λ ticket. (f : ℕ) × IsDone (worlds f) (names.of_ticket ticket)) S.grants busy.no_grant busy.follows.grants);
    apart = subst (λ name. Apart name S.grants) (sym same_names) busy.follows.apart;
  };
}
  where
    v : World
    v = closed id (worlds file)

    done_still : (ticket : ℕ) → names.of_ticket ticket ≢ id → (f : ℕ) → IsDone (worlds f) (names.of_ticket ticket) → IsDone (put worlds file v f) (names.of_ticket ticket)
    done_still ticket differs =
        at_put (λ f u. IsDone (worlds f) (names.of_ticket ticket) → IsDone u (names.of_ticket ticket)) worlds file v
        (λ done. (done.0, closed_other (worlds file) id (names.of_ticket ticket) differs ∙ done.1, done.2)) (λ f off done. done)

    free_then : (other i : ℕ) → (names.free ≤ i) ⊎ (i ≡ id) → IsFree (put worlds file v other) i
    free_then other i (inl beyond) =
        at_put (λ f u. IsFree u i) worlds file v
        (elim (cases_eq i id) [
          | inl same ↦ subst (λ n. IsFree v n) (sym same) (closed_here (worlds file) id)
          | inr differs ↦ closed_other (worlds file) id i differs ∙ busy.follows.free file i beyond
        ])
        (λ f differs. busy.follows.free f i beyond) other
    free_then other i (inr same) = subst (λ n. IsFree (put worlds file v other) n) (sym same)
        (at_put (λ f u. IsFree u id) worlds file v (closed_here (worlds file) id)
        (λ f differs. elim (free_or_open (worlds f) id) [
          | inl free ↦ free
          | inr open_there ↦ absurd (differs (busy.follows.alone f file id open_there.0 one open_there.1 busy.own))
        ]) other)

-- the request that was sent last is answered, and its ID is free again
pub ended_busy : (runs : Bool) (S : State) (names : Names) (worlds : ℕ → World) (file : ℕ) (one : Open) (answer : Answer)
    → Busy S (more names) file names.free one worlds → MayTell runs one.request.owner one.request.action one.effect answer
    → Next runs worlds (Answered names.free answer ∷ []) S names
ended_busy runs S names worlds file one answer busy told =
    answered runs S (more names) names worlds file names.free one answer busy refl (λ i low. past i low (cases_eq i names.free)) told
  where
    past : (i : ℕ) → names.free ≤ i → (i ≡ names.free) ⊎ (i ≢ names.free) → (names.free + 1 ≤ i) ⊎ (i ≡ names.free)
    past i low (inl same) = inr same
    past i low (inr differs) = inl (omega (arith, low, differs))

-- a request that has its effect at once, and its answer
pub exchanged : (runs : Bool) (S T : State) (names : Names) (worlds : ℕ → World) (file owner : ℕ) (action : Action) (effect : Effect) (answer : Answer)
    → Follows S names worlds → is_death action ≡ false
    → ((locks : FileLocks) → Holds (S.files file) locks → MayHave locks owner action effect)
    → ((locks : FileLocks) → Holds (S.files file) locks → Holds (T.files file) (locks_behind locks owner action effect))
    → ChangesLocks S file T → MayTell runs owner action effect answer → Next runs worlds (exchange names.free file owner action answer) T names
exchanged runs S T names worlds file owner action effect answer follows lives may leaves changes told =
    let request = request_of names.free owner action in
    let first = begun runs S names worlds file owner action follows in
    let second = busy_effect runs S T (more names) first.worlds' file names.free request effect first.busy lives may leaves changes in
    let third = ended_busy runs T names second.1.worlds' file second.0 answer second.1.busy
    (subst (λ (r : Request). MayTell runs r.owner r.action second.0.effect answer) (sym second.3) (subst (λ e. MayTell runs owner action e answer) (sym second.2) told)) in
    record {
      worlds' = third.worlds';
      path = path_append runs worlds first.worlds' third.worlds' (Sent file request ∷ []) (Answered names.free answer ∷ []) first.path
          (path_append runs first.worlds' second.1.worlds' third.worlds' [] (Answered names.free answer ∷ []) second.1.path third.path);
      follows = third.follows;
    }
