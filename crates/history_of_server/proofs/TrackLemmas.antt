-- A file of the server beside its world in the history, and that what settling grants may happen there.
use Rattle.history_of_server.proofs.Common.{inl, ℕ, ◌≡◌, ◌≢◌, ◌∙◌, ◌≤◌, sym, ap, refl, subst, false, Bool, Some, List, [], ◌∷◌, option_map, OFFMAX, Family, Bytes, Whole, Policy, Request, Did, Effect, IsFree, IsOpen, Open, World, behind_effect, is_death, opened, Pending, FileState, SameFile, Settles, request_of}
use Rattle.wait_core.specs.declared.Policy.TheVariants.{Held, Queue}
use Rattle.history_core.specs.Permitted.{NotYet}
use Rattle.lock_server.specs.Settling.{Grants, IsHeldBack, IsWaitBlocked}
use Rattle.history_of_server.proofs.ListLemmas.{Apart, Each, apart_between, each_between, each_both, each_weaker}
use Rattle.history_of_server.proofs.WorldLemmas.{behind, behind_effect_kept, behind_other, behind_own, behind_request, effect_look, ends_none, look, one_open, open_named}
use Rattle.history_of_server.proofs.PartLemmas.{Part, part_append, part_effect, part_none}
use Rattle.history_of_server.proofs.BlockLemmas.{Holds, IsSound, action_of, holds_got, may_get, sound_got, sound_same}

-- the request of a wait, by its ID, and the same while it waits
abbrev pub request_for : ℕ → Pending → Request
request_for id wait = request_of id wait.owner (action_of wait.family wait.span wait.mode)

abbrev pub waiting : ℕ → Pending → Open
waiting id wait = opened (request_for id wait)

-- an open request is done
abbrev pub IsDone : World → ℕ → Type 0
IsDone w id = (one : Open) × IsOpen w id one × (one.effect ≡ Did)

-- the wait's request is open by its ID, and waits
abbrev pub IsWaiting : (ℕ → ℕ) → World → Pending → Type 0
IsWaiting name w wait = IsOpen w (name wait.ticket) (waiting (name wait.ticket) wait)

-- the ID of a wait
abbrev pub name_of : (ℕ → ℕ) → Pending → ℕ
name_of name wait = name wait.ticket

-- the world has the file's locks, and its waits are open in it
pub record Tracks (name : ℕ → ℕ) (F : FileState) (w : World) : Type 0 where
  pub locks : Holds F w.locks
  pub sound : IsSound F
  pub waits : Each (IsWaiting name w) F.waits
  pub apart : Apart (name_of name) F.waits
  pub spans : Each (λ wait. wait.span.last ≤ OFFMAX) F.waits

-- what was done is so still, and what was free
pub record Keeps (w next : World) : Type 0 where
  pub did : (id : ℕ) → IsDone w id → IsDone next id
  pub free : (id : ℕ) → IsFree w id → IsFree next id

pub keeps_all : (w : World) → Keeps w w
keeps_all w = record { did = λ id done. done; free = λ id free. free }

pub keeps_through : (w m v : World) → Keeps w m → Keeps m v → Keeps w v
keeps_through w m v first more = record { did = λ id done. more.did id (first.did id done); free = λ id free. more.free id (first.free id free) }

-- where the same is open, the same is kept
pub keeps_look : (w v : World) → ((id : ℕ) → look v id ≡ look w id) → Keeps w v
keeps_look w v same = record { did = λ id done. (done.0, same id ∙ done.1, done.2); free = λ id free. same id ∙ free }

-- two IDs are the same, or not: of requests that are open as two effects say they aren't
pub differ_by_effect : (w : World) (id other : ℕ) (one : Open) → IsOpen w id one → one.effect ≡ NotYet → IsDone w other → other ≢ id
differ_by_effect w id other one is_open not_yet done same =
    let e : done.0 ≡ one = one_open w id done.0 one (subst (λ n. IsOpen w n done.0) same done.1) is_open in
    let bad : Did ≡ NotYet = sym done.2 ∙ ap (λ (o : Open). o.effect) e ∙ not_yet in
    absurd cc

-- the effect of a request that had none keeps what others did
pub keeps_effect : (w : World) (id : ℕ) (one : Open) (effect : Effect) → IsOpen w id one → one.effect ≡ NotYet → Keeps w (behind_effect w one.request effect)
keeps_effect w id one effect is_open not_yet = record {
  did = λ other done. (
    behind one.request effect done.0,
    effect_look w one.request effect other ∙ ap (option_map (behind one.request effect)) done.1,
    behind_effect_kept one.request effect done.0
        (λ same. differ_by_effect w id other one is_open not_yet done (sym (open_named w other done.0 done.1) ∙ same ∙ open_named w id one is_open)) ∙ done.2,
  );
  free = λ other free. effect_look w one.request effect other ∙ ap (option_map (behind one.request effect)) free;
}

-- and what else is open, where it is no death
pub effect_still : (w : World) (id other : ℕ) (one kept : Open) (effect : Effect) → IsOpen w id one → is_death one.request.action ≡ false → other ≢ id
    → IsOpen w other kept → IsOpen (behind_effect w one.request effect) other kept
effect_still w id other one kept effect is_open lives differs found =
    effect_look w one.request effect other ∙ ap (option_map (behind one.request effect)) found
    ∙ ap Some (behind_other one.request effect kept
    (λ same. differs (sym (open_named w other kept found) ∙ same ∙ open_named w id one is_open)) (ends_none one.request kept.request lives))

-- it is what it did
pub effect_done : (w : World) (id : ℕ) (one : Open) (effect : Effect) → IsOpen w id one
    → (next : Open) × IsOpen (behind_effect w one.request effect) id next × (next.effect ≡ effect) × (next.request ≡ one.request)
effect_done w id one effect is_open = (
  behind one.request effect one,
  effect_look w one.request effect id ∙ ap (option_map (behind one.request effect)) is_open,
  behind_own one.request effect one refl,
  behind_same one,
)
  where
    behind_same : (o : Open) → (behind one.request effect o).request ≡ o.request
    behind_same o = behind_request one.request effect o

pub tracks_same : (name : ℕ → ℕ) (F G : FileState) (w : World) → SameFile F G → Tracks name F w → Tracks name G w
tracks_same name F G w same tracks = record {
  locks = record {
    bytes = λ owner byte. tracks.locks.bytes owner byte ∙ sym (same.locks.bytes owner byte);
    flocks = λ owner. tracks.locks.flocks owner ∙ sym (same.locks.flocks owner);
  };
  sound = sound_same F G same tracks.sound;
  waits = subst (Each (IsWaiting name w)) (sym same.waits) tracks.waits;
  apart = subst (Apart (name_of name)) (sym same.waits) tracks.apart;
  spans = subst (Each (λ wait. wait.span.last ≤ OFFMAX)) (sym same.waits) tracks.spans;
}

-- ---- settling

pub no_death : (family : Family) (wait : Pending) → is_death (action_of family wait.span wait.mode) ≡ false
no_death Bytes wait = refl
no_death Whole wait = refl

not_held_back : (policy : Policy) (F : FileState) (before : List Pending) (wait : Pending) → (¬ IsWaitBlocked policy F before wait) → ¬ IsHeldBack F wait
not_held_back Held F before wait ready held = ready held
not_held_back Queue F before wait ready held = ready (inl held)

-- the world behind the grant of a wait
abbrev pub granted : (ℕ → ℕ) → Pending → World → World
granted name wait w = behind_effect w (request_for (name wait.ticket) wait) Did

-- what was between others, of the waits of a grant
pub grant_waits : (policy : Policy) (F : FileState) (wait : Pending) (G : FileState) (P : Pending → Type 0) → Grants policy F wait G → Each P F.waits
    → P wait × Each P G.waits
grant_waits policy F wait G P grants each =
    let parts = each_between P grants.before wait grants.after (subst (Each P) grants.is_next.place each) in
    (parts.0, subst (Each P) (sym grants.waits) parts.1)

grant_apart : (policy : Policy) (F : FileState) (wait : Pending) (G : FileState) (f : Pending → ℕ) → Grants policy F wait G → Apart f F.waits
    → Each (λ other. f other ≢ f wait) G.waits × Apart f G.waits
grant_apart policy F wait G f grants apart =
    let parts = apart_between f grants.before wait grants.after (subst (Apart f) grants.is_next.place apart) in
    (subst (Each (λ other. f other ≢ f wait)) (sym grants.waits) parts.0, subst (Apart f) (sym grants.waits) parts.1)

-- a grant is an effect of the wait's request
grant_tracks : (policy : Policy) (F : FileState) (wait : Pending) (G : FileState) (name : ℕ → ℕ) (w : World) → Grants policy F wait G → Tracks name F w
    → Tracks name G (granted name wait w)
grant_tracks policy F wait G name w grants tracks =
    let apart = grant_apart policy F wait G (name_of name) grants tracks.apart in
    let is = grant_waits policy F wait G (IsWaiting name w) grants tracks.waits in
    let spans = grant_waits policy F wait G (λ other. other.span.last ≤ OFFMAX) grants tracks.spans in
    record {
      locks = holds_got F G w.locks wait.owner wait.span wait.mode wait.family tracks.locks grants.gets;
      sound = sound_got F G wait wait.family spans.0 tracks.sound (not_held_back policy F grants.before wait grants.is_next.ready) grants.gets;
      waits = each_weaker (λ other. (name_of name other ≢ name_of name wait) × IsWaiting name w other) (IsWaiting name (granted name wait w))
          (λ other both. effect_still w (name wait.ticket) (name other.ticket) (waiting (name wait.ticket) wait) (waiting (name other.ticket) other) Did is.0
          (no_death wait.family wait) both.0 both.1)
          G.waits (each_both (λ other. name_of name other ≢ name_of name wait) (IsWaiting name w) G.waits apart.0 is.1);
      apart = apart.1;
      spans = spans.1;
    }

grant_part : (runs : Bool) (policy : Policy) (F : FileState) (wait : Pending) (G : FileState) (name : ℕ → ℕ) (w : World) → Grants policy F wait G
    → Tracks name F w → Part runs w [] (granted name wait w)
grant_part runs policy F wait G name w grants tracks =
    part_effect runs w (name wait.ticket) (waiting (name wait.ticket) wait) Did (grant_waits policy F wait G (IsWaiting name w) grants tracks.waits).0 refl refl
    (may_get F w.locks wait wait.family tracks.locks (not_held_back policy F grants.before wait grants.is_next.ready))

-- settling keeps what holds of each wait, also of those that it grants
pub settles_each : (policy : Policy) (F : FileState) (waits : List Pending) (G : FileState) (P : Pending → Type 0) → Settles policy F waits G → Each P F.waits
    → Each P waits × Each P G.waits
settles_each policy F [] G P settles each = (tt, subst (Each P) (sym settles.1.waits) each)
settles_each policy F (wait ∷ waits) G P settles each =
    let first = grant_waits policy F wait settles.0 P settles.1 each in
    let rest = settles_each policy settles.0 waits G P settles.2 first.1 in
    ((first.0, rest.0), rest.1)

pub settles_apart : (policy : Policy) (F : FileState) (waits : List Pending) (G : FileState) (f : Pending → ℕ) → Settles policy F waits G → Apart f F.waits
    → Apart f waits
settles_apart policy F [] G f settles apart = tt
settles_apart policy F (wait ∷ waits) G f settles apart =
    let first = grant_apart policy F wait settles.0 f settles.1 apart in
    ((settles_each policy settles.0 waits G (λ other. f other ≢ f wait) settles.2 first.0).0, settles_apart policy settles.0 waits G f settles.2 first.1)

-- the world behind the grants that settling makes
pub record Settled (runs : Bool) (name : ℕ → ℕ) (F : FileState) (w : World) (waits : List Pending) (G : FileState) : Type 0 where
  pub world : World
  pub part : Part runs w [] world
  pub tracks : Tracks name G world
  pub keeps : Keeps w world
  pub done : Each (λ wait. IsDone world (name wait.ticket)) waits
  pub still : (id : ℕ) (one : Open) → Each (λ wait. name_of name wait ≢ id) F.waits → IsOpen w id one → IsOpen world id one

pub settled : (runs : Bool) (policy : Policy) (name : ℕ → ℕ) (F : FileState) (w : World) (waits : List Pending) (G : FileState) → Settles policy F waits G
    → Tracks name F w → Settled runs name F w waits G
settled runs policy name F w [] G settles tracks = record {
  world = w;
  part = part_none runs w;
  tracks = tracks_same name F G w settles.1 tracks;
  keeps = keeps_all w;
  done = tt;
  still = λ id one others found. found;
}
settled runs policy name F w (wait ∷ waits) G settles tracks =
    let next = granted name wait w in
    let is = (grant_waits policy F wait settles.0 (IsWaiting name w) settles.1 tracks.waits).0 in
    let rest = settled runs policy name settles.0 next waits G settles.2 (grant_tracks policy F wait settles.0 name w settles.1 tracks) in
    let made = effect_done w (name wait.ticket) (waiting (name wait.ticket) wait) Did is in
    record {
      world = rest.world;
      part = part_append runs w [] next [] rest.world (grant_part runs policy F wait settles.0 name w settles.1 tracks) rest.part;
      tracks = rest.tracks;
      keeps = keeps_through w next rest.world (keeps_effect w (name wait.ticket) (waiting (name wait.ticket) wait) Did is refl) rest.keeps;
      done = (rest.keeps.did (name wait.ticket) (made.0, made.1, made.2), rest.done);
      still = λ id one others found.
          let parts = grant_waits policy F wait settles.0 (λ other. name_of name other ≢ id) settles.1 others in
          rest.still id one parts.1
          (effect_still w (name wait.ticket) id (waiting (name wait.ticket) wait) one Did is (no_death wait.family wait) (λ same. parts.0 (sym same)) found);
    }
