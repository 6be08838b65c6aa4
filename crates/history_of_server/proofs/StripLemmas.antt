-- Locks that leave a file, and owners that die on it, one after another.
use Rattle.history_of_server.proofs.Common.{inl, inr, ℕ, ◌≡◌, ◌≢◌, ◌∙◌, ◌≤◌, ◌==◌, sym, ap, refl, subst, arith, true, false, Bool, Option, Some, None, List, [], ◌∷◌, zero, suc, eq-eqb, eqb-true, false≢true, ◌&&◌, Contains, filter, if◌then◌else◌, not, option_map}
use Rattle.history_of_server.proofs.Common.{OFFMAX, Mode, Request, Action, FileLocks, Did, MayTell, locks_behind, IsOpen, World, behind_effect, opened, Answered, Sent, Pending, FileState, SameFile, State, Names, all_bytes, exchange, request_of}
use Rattle.std.proofs.lemmas.Grind.{common_steps}
use Rattle.std.proofs.lemmas.Bool.{cases_Bool}
use Rattle.std.proofs.lemmas.List.Elements.{All-head, All-tail}
use Rattle.std.specs.Prelude.{All}
use Rattle.history_core.specs.declared.request.Action.TheVariants as actions
use Rattle.history_core.specs.declared.request.Answer.TheVariants as answers
use Rattle.history_core.specs.Locks.{without_owner}
use Rattle.history_core.specs.Moments.{ends}
use Rattle.history_of_server.specs.ServerLines.{exchange_each}
use Rattle.history_of_server.proofs.ListLemmas.{Each, apart_filter, each_both, each_filter, each_passes, each_weaker}
use Rattle.history_of_server.proofs.WorldLemmas.{behind, behind_other, effect_look}
use Rattle.history_of_server.proofs.PartLemmas.{part_effect, path_append, path_none, path_of_part, put, put_here, put_other}
use Rattle.history_of_server.proofs.BlockLemmas.{Holds, IsSound, holds_cleared, holds_flock, sound_cleared, sound_unlocked, turned}
use Rattle.history_of_server.proofs.TrackLemmas.{IsWaiting, Tracks, effect_done, keeps_effect, name_of, waiting}
use Rattle.history_of_server.proofs.FollowLemmas.{ChangesLocks, Follows, Next, begun, ended_busy, exchanged, followed_silent, more, next_append}

-- whether the number is one of these
abbrev pub is_in : ℕ → List ℕ → Bool
is_in number [] = false
is_in number (first ∷ numbers) = if first == number then true else is_in number numbers

pub contained : (numbers : List ℕ) (number : ℕ) → Contains numbers number → is_in number numbers ≡ true
contained [] number (k, within, is) = absurd (omega (arith, within))
contained (first ∷ numbers) number (zero, within, is) = ap (λ (b : Bool). if b then true else is_in number numbers) (eq-eqb first number is)
contained (first ∷ numbers) number (suc k, within, is) = at (first == number) (contained numbers number (k, omega (arith, within), is))
  where
    at : (b : Bool) → is_in number numbers ≡ true → (if b then true else is_in number numbers) ≡ true
    at true rest = refl
    at false rest = rest

pub in_all : (P : ℕ → Type 0) (numbers : List ℕ) (number : ℕ) → All P numbers → is_in number numbers ≡ true → P number
in_all P [] number all is = absurd (false≢true is)
in_all P (first ∷ numbers) number all is = at (first == number) refl is (in_all P numbers number (All-tail P first numbers all))
  where
    at : (b : Bool) → (first == number) ≡ b → (if b then true else is_in number numbers) ≡ true → (is_in number numbers ≡ true → P number) → P number
    at true same found rest = subst P (eqb-true first number same) (All-head P first numbers all)
    at false differs found rest = rest found

-- ---- one file of a state becomes another

abbrev pub with_file : State → ℕ → FileState → State
with_file S file F = record S { files = put S.files file F }

pub same_file : (F : FileState) → SameFile F F
same_file F = record { locks = record { bytes = λ owner byte. refl; flocks = λ owner. refl }; waits = refl }

pub equal_file : (F G : FileState) → F ≡ G → SameFile F G
equal_file F G is = subst (SameFile F) is (same_file F)

to_changes : (S : State) (file : ℕ) (G : FileState) → IsSound G → G.waits ≡ (S.files file).waits → ChangesLocks S file (with_file S file G)
to_changes S file G sound waits = record {
  sound = subst IsSound (sym (put_here S.files file G)) sound;
  waits = ap (λ (F : FileState). F.waits) (put_here S.files file G) ∙ waits;
  others = λ other differs. equal_file (S.files other) (put S.files file G other) (sym (put_other S.files file G other differs));
  grants = refl;
}

-- the owner's byte locks leave the file
abbrev pub strip_bytes : ℕ → FileState → FileState
strip_bytes owner F = record F { bytes = λ other byte. if owner == other then None else F.bytes other byte }

-- the owner's flock lock leaves the file
abbrev pub strip_flock : ℕ → FileState → FileState
strip_flock owner F = record F { flocks = λ other. if owner == other then None else F.flocks other }

-- the owner's locks and waits leave the file
abbrev pub gone_from : ℕ → FileState → FileState
gone_from owner F = record {
  bytes = λ other byte. if owner == other then None else F.bytes other byte;
  flocks = λ other. if owner == other then None else F.flocks other;
  waits = filter (λ wait. not (owner == wait.owner)) F.waits;
}

pub unlock_bytes_next : (runs : Bool) (S : State) (names : Names) (worlds : ℕ → World) (file owner : ℕ) → Follows S names worlds
    → Next runs worlds (exchange names.free file owner (actions.Unlock all_bytes) answers.Done) (with_file S file (strip_bytes owner (S.files file))) names
unlock_bytes_next runs S names worlds file owner follows =
    let F = S.files file in
    let sound = (follows.files file).sound in
    exchanged runs S (with_file S file (strip_bytes owner F)) names worlds file owner (actions.Unlock all_bytes) Did answers.Done follows refl (λ locks holds. tt)
    (λ locks holds. subst (λ (G : FileState). Holds G (locks_behind locks owner (actions.Unlock all_bytes) Did)) (sym (put_here S.files file (strip_bytes owner F)))
    (holds_cleared F (strip_bytes owner F) locks owner sound.within holds (record { bytes = λ other byte. refl; flocks = λ other. refl })))
    (to_changes S file (strip_bytes owner F) (sound_cleared F (strip_bytes owner F) owner sound (record { bytes = λ other byte. refl; flocks = λ other. refl })) refl) tt

pub unlock_flock_next : (runs : Bool) (S : State) (names : Names) (worlds : ℕ → World) (file owner : ℕ) → Follows S names worlds
    → Next runs worlds (exchange names.free file owner actions.FlockUnlock answers.Done) (with_file S file (strip_flock owner (S.files file))) names
unlock_flock_next runs S names worlds file owner follows =
    let F = S.files file in
    let sound = (follows.files file).sound in
    exchanged runs S (with_file S file (strip_flock owner F)) names worlds file owner actions.FlockUnlock Did answers.Done follows refl (λ locks holds. tt)
    (λ locks holds. subst (λ (G : FileState). Holds G (locks_behind locks owner actions.FlockUnlock Did)) (sym (put_here S.files file (strip_flock owner F)))
    (holds_flock F (strip_flock owner F) locks owner None holds (record { bytes = λ other byte. refl; flocks = λ other. refl })))
    (to_changes S file (strip_flock owner F) (sound_unlocked F (strip_flock owner F) owner sound (record { bytes = λ other byte. refl; flocks = λ other. refl })) refl) tt

-- ---- a death

holds_gone : (F : FileState) (locks : FileLocks) (owner : ℕ) → Holds F locks → Holds (gone_from owner F) (without_owner locks owner)
holds_gone F locks owner holds = record {
  bytes = λ other byte.
      ap (λ (b : Bool). if b then None else locks.bytes other byte) (turned other owner)
      ∙ ap (λ (old : Option Mode). if owner == other then None else old) (holds.bytes other byte);
  flocks = λ other.
      ap (λ (b : Bool). if b then None else locks.flocks other) (turned other owner)
      ∙ ap (λ (old : Option Mode). if owner == other then None else old) (holds.flocks other);
}

sound_gone : (F : FileState) (owner : ℕ) → IsSound F → IsSound (gone_from owner F)
sound_gone F owner sound = record {
  within = λ other byte mode is. sound.within other byte mode (was (F.bytes other byte) mode (owner == other) is);
  compatible = λ one other m k differs has too.
      sound.compatible one other m k differs (was (F.flocks one) m (owner == one) has) (was (F.flocks other) k (owner == other) too);
}
  where
    was : (old : Option Mode) (m : Mode) (b : Bool) → (if b then None else old) ≡ Some m → old ≡ Some m
    was old m true has = absurd (let bad : None ≡ Some m = has in cc)
    was old m false has = has

-- a death ends no request of another owner
ends_other : (id owner : ℕ) (other : Request) → (owner == other.owner) ≡ false → ends (request_of id owner actions.Gone) other ≡ false
ends_other id owner other off = grind (arith, common_steps, off, turned other.owner owner)

unless_not : (b : Bool) → not b ≡ true → b ≡ false
unless_not true is = absurd (false≢true is)
unless_not false is = refl

pub gone_next : (runs : Bool) (S : State) (names : Names) (worlds : ℕ → World) (file owner : ℕ) → Follows S names worlds
    → Next runs worlds (exchange names.free file owner actions.Gone answers.Done) (with_file S file (gone_from owner (S.files file))) names
gone_next runs S names worlds file owner follows =
    let first = begun runs S names worlds file owner actions.Gone follows in
    let busy = first.busy in
    let now = first.worlds' in
    let id = names.free in
    let F = S.files file in
    let G = gone_from owner F in
    let request = request_of id owner actions.Gone in
    let v = behind_effect (now file) request Did in
    let done = effect_done (now file) id (opened request) Did busy.own in
    let tracks = busy.follows.files file in
    let stays = λ (wait : Pending). not (owner == wait.owner) in
    let waits_on : Each (IsWaiting names.of_ticket v) G.waits =
    each_weaker (λ (wait : Pending). (stays wait ≡ true) × (IsWaiting names.of_ticket (now file) wait × (names.of_ticket wait.ticket ≢ id))) (IsWaiting names.of_ticket v)
    (λ wait three. effect_look (now file) request Did (names.of_ticket wait.ticket) ∙ ap (option_map (behind request Did)) three.1.0
    ∙ ap Some (behind_other request Did (waiting (names.of_ticket wait.ticket) wait) three.1.1
    (ends_other id owner (waiting (names.of_ticket wait.ticket) wait).request (unless_not (owner == wait.owner) three.0))))
    G.waits (each_both (λ (wait : Pending). stays wait ≡ true) (λ wait. IsWaiting names.of_ticket (now file) wait × (names.of_ticket wait.ticket ≢ id)) G.waits (each_passes stays F.waits)
    (each_filter (λ (wait : Pending). IsWaiting names.of_ticket (now file) wait × (names.of_ticket wait.ticket ≢ id)) stays F.waits
    (each_both (IsWaiting names.of_ticket (now file)) (λ (wait : Pending). names.of_ticket wait.ticket ≢ id) F.waits tracks.waits busy.no_wait))) in
    let new : Tracks names.of_ticket G v = record {
      locks = holds_gone F (now file).locks owner tracks.locks;
      sound = sound_gone F owner tracks.sound;
      waits = waits_on;
      apart = apart_filter (name_of names.of_ticket) stays F.waits tracks.apart;
      spans = each_filter (λ (wait : Pending). wait.span.last ≤ OFFMAX) stays F.waits tracks.spans;
    } in
    let T = with_file S file G in
    let dead : Follows T (more names) (put now file v) =
    followed_silent S T (more names) now file v busy.follows (subst (λ (H : FileState). Tracks names.of_ticket H v) (sym (put_here S.files file G)) new)
    (λ other differs. equal_file (S.files other) (put S.files file G other) (sym (put_other S.files file G other differs)))
    (keeps_effect (now file) id (opened request) Did busy.own refl) refl in
    let end = ended_busy runs T names (put now file v) file done.0 answers.Done (record {
      follows = dead;
      own = subst (λ u. IsOpen u id done.0) (sym (put_here now file v)) done.1;
      no_wait = subst (λ (H : FileState). Each (λ (wait : Pending). names.of_ticket wait.ticket ≢ id) H.waits) (sym (put_here S.files file G))
          (each_filter (λ (wait : Pending). names.of_ticket wait.ticket ≢ id) stays F.waits busy.no_wait);
      no_grant = busy.no_grant;
    }) (subst (λ e. MayTell runs done.0.request.owner done.0.request.action e answers.Done) (sym done.2) tt) in
    record {
      worlds' = end.worlds';
      path = path_append runs worlds now end.worlds' (Sent file request ∷ []) (Answered id answers.Done ∷ []) first.path
          (path_append runs now (put now file v) end.worlds' [] (Answered id answers.Done ∷ [])
          (path_of_part runs file now [] v (part_effect runs (now file) id (opened request) Did busy.own refl refl tt) tt) end.path);
      follows = end.follows;
    }

-- ---- one owner after another

abbrev pub chain : (ℕ → FileState → FileState) → State → ℕ → List ℕ → State
chain strip S file [] = S
chain strip S file (owner ∷ owners) = chain strip (with_file S file (strip owner (S.files file))) file owners

abbrev pub chained : (ℕ → FileState → FileState) → FileState → List ℕ → FileState
chained strip F [] = F
chained strip F (owner ∷ owners) = chained strip (strip owner F) owners

pub chain_here : (strip : ℕ → FileState → FileState) (S : State) (file : ℕ) (owners : List ℕ) → (chain strip S file owners).files file ≡ chained strip (S.files file) owners
chain_here strip S file [] = refl
chain_here strip S file (owner ∷ owners) =
    chain_here strip (with_file S file (strip owner (S.files file))) file owners
    ∙ ap (λ (F : FileState). chained strip F owners) (put_here S.files file (strip owner (S.files file)))

pub chain_other : (strip : ℕ → FileState → FileState) (S : State) (file : ℕ) (owners : List ℕ) (other : ℕ) → other ≢ file
    → (chain strip S file owners).files other ≡ S.files other
chain_other strip S file [] other differs = refl
chain_other strip S file (owner ∷ owners) other differs =
    chain_other strip (with_file S file (strip owner (S.files file))) file owners other differs ∙ put_other S.files file (strip owner (S.files file)) other differs

pub chain_grants : (strip : ℕ → FileState → FileState) (S : State) (file : ℕ) (owners : List ℕ) → (chain strip S file owners).grants ≡ S.grants
chain_grants strip S file [] = refl
chain_grants strip S file (owner ∷ owners) = chain_grants strip (with_file S file (strip owner (S.files file))) file owners

pub chain_next : (runs : Bool) (strip : ℕ → FileState → FileState) (action : Action) (names : Names) (file : ℕ)
    → ((S : State) (worlds : ℕ → World) (owner : ℕ) → Follows S names worlds
    → Next runs worlds (exchange names.free file owner action answers.Done) (with_file S file (strip owner (S.files file))) names)
    → (S : State) (worlds : ℕ → World) (owners : List ℕ) → Follows S names worlds
    → Next runs worlds (exchange_each names.free file owners action) (chain strip S file owners) names
chain_next runs strip action names file one S worlds [] follows = record { worlds' = worlds; path = path_none runs worlds; follows = follows }
chain_next runs strip action names file one S worlds (owner ∷ owners) follows =
    let first = one S worlds owner follows in
    let next = with_file S file (strip owner (S.files file)) in
    next_append runs worlds (exchange names.free file owner action answers.Done) (exchange_each names.free file owners action) next
    (chain strip next file owners) names names first (chain_next runs strip action names file one next first.worlds' owners first.follows)

-- what is left by owners whose byte locks leave
pub record BytesGone (owners : List ℕ) (F G : FileState) : Type 0 where
  pub bytes : (owner byte : ℕ) → G.bytes owner byte ≡ (if is_in owner owners then None else F.bytes owner byte)
  pub flocks : (owner : ℕ) → G.flocks owner ≡ F.flocks owner
  pub waits : G.waits ≡ F.waits

once_more : (first number : ℕ) (numbers : List ℕ) (old : Option Mode)
    → (if is_in number numbers then None else (if first == number then None else old)) ≡ (if is_in number (first ∷ numbers) then None else old)
once_more first number numbers old = at (first == number) (is_in number numbers)
  where
    at : (b c : Bool) → (if c then None else (if b then None else old)) ≡ (if (if b then true else c) then None else old)
    at true true = refl
    at true false = refl
    at false true = refl
    at false false = refl

pub bytes_gone : (F : FileState) (owners : List ℕ) → BytesGone owners F (chained strip_bytes F owners)
bytes_gone F [] = record { bytes = λ owner byte. refl; flocks = λ owner. refl; waits = refl }
bytes_gone F (first ∷ owners) =
    let rest = bytes_gone (strip_bytes first F) owners in
    record { bytes = λ owner byte. rest.bytes owner byte ∙ once_more first owner owners (F.bytes owner byte); flocks = rest.flocks; waits = rest.waits }

-- what is left by owners that die
pub record AllGone (owners : List ℕ) (F G : FileState) : Type 0 where
  pub bytes : (owner byte : ℕ) → G.bytes owner byte ≡ (if is_in owner owners then None else F.bytes owner byte)
  pub flocks : (owner : ℕ) → G.flocks owner ≡ (if is_in owner owners then None else F.flocks owner)
  pub waits : G.waits ≡ filter (λ wait. not (is_in wait.owner owners)) F.waits

filter_twice : (p q r : Pending → Bool) (waits : List Pending) → ((wait : Pending) → r wait ≡ (q wait && p wait)) → filter p (filter q waits) ≡ filter r waits
filter_twice p q r [] same = refl
filter_twice p q r (wait ∷ waits) same = elim (cases_Bool (q wait)) [
  | inl passes ↦ elim (cases_Bool (p wait)) [
    | inl too ↦ grind (arith, common_steps, passes, too, same wait, filter_twice p q r waits same)
    | inr off ↦ grind (arith, common_steps, passes, off, same wait, filter_twice p q r waits same)
  ]
  | inr away ↦ grind (arith, common_steps, away, same wait, filter_twice p q r waits same)
]

pub filter_agrees : (p q : Pending → Bool) (waits : List Pending) → Each (λ wait. p wait ≡ q wait) waits → filter p waits ≡ filter q waits
filter_agrees p q [] same = refl
filter_agrees p q (wait ∷ waits) same =
    ap (λ (b : Bool). if b then wait ∷ filter p waits else filter p waits) same.0
    ∙ ap (λ (rest : List Pending). if q wait then wait ∷ rest else rest) (filter_agrees p q waits same.1)

pub filter_none : (p : Pending → Bool) (waits : List Pending) → Each (λ wait. p wait ≡ false) waits → filter p waits ≡ []
filter_none p [] none = refl
filter_none p (wait ∷ waits) none =
    ap (λ (b : Bool). if b then wait ∷ filter p waits else filter p waits) none.0 ∙ filter_none p waits none.1

pub filter_all : (p : Pending → Bool) (waits : List Pending) → Each (λ wait. p wait ≡ true) waits → filter p waits ≡ waits
filter_all p [] all = refl
filter_all p (wait ∷ waits) all =
    ap (λ (b : Bool). if b then wait ∷ filter p waits else filter p waits) all.0 ∙ ap (λ (rest : List Pending). wait ∷ rest) (filter_all p waits all.1)

not_either : (a b : Bool) → not (if a then true else b) ≡ (not a && not b)
not_either true b = refl
not_either false b = refl

pub all_gone : (F : FileState) (owners : List ℕ) → AllGone owners F (chained gone_from F owners)
all_gone F [] = record { bytes = λ owner byte. refl; flocks = λ owner. refl; waits = sym (filter_all (λ wait. true) F.waits (each_true F.waits)) }
  where
    each_true : (waits : List Pending) → Each (λ wait. true ≡ true) waits
    each_true [] = tt
    each_true (wait ∷ waits) = (refl, each_true waits)
all_gone F (first ∷ owners) =
    let rest = all_gone (gone_from first F) owners in
    record {
      bytes = λ owner byte. rest.bytes owner byte ∙ once_more first owner owners (F.bytes owner byte);
      flocks = λ owner. rest.flocks owner ∙ once_more first owner owners (F.flocks owner);
      waits = rest.waits ∙ filter_twice (λ wait. not (is_in wait.owner owners)) (λ wait. not (first == wait.owner)) (λ wait. not (is_in wait.owner (first ∷ owners)))
          F.waits (λ wait. not_either (first == wait.owner) (is_in wait.owner owners));
    }
