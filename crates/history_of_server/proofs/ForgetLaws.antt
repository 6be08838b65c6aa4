-- What an owner that is no more brings: its unlocks first, and then what its leaving lets be granted.
use Rattle.history_of_server.proofs.Common.{inl, inr, ℕ, ◌≡◌, ◌≢◌, ◌∙◌, ◌≤◌, ◌==◌, sym, ap, refl, subst, arith, true, false, Bool, Option, Some, None, List, [], ◌∷◌, ◌++◌, zero, suc, eq-eqb, cases_eq, eqb-true, false≢true, ne_eqb, ◌⊎◌, ◌&&◌, Contains, if◌then◌else◌, not, OFFMAX, Mode, Family, Bytes, Whole, Policy, World, HistoryLine, Pending, FileState, SameFile, SetsLock, Settles, State, Names, all_bytes, exchange}
use Rattle.range_core.specs.Changes.{is_covered}
use Rattle.history_core.specs.declared.request.Action.TheVariants as actions
use Rattle.history_core.specs.declared.request.Answer.TheVariants as answers
use Rattle.lock_server.specs.Calls.{Forgets, ForgetsIn, ForgetsOn, is_other_wait}
use Rattle.lock_server.specs.Pendings.{is_of_bytes}
use Rattle.history_of_server.specs.ServerLines.{AreForgotten, exchange_on}
use Rattle.history_of_server.proofs.ListLemmas.{Apart, Each, apart_filter, each_filter, each_passes}
use Rattle.history_of_server.proofs.PartLemmas.{path_none, put_here, put_other}
use Rattle.history_of_server.proofs.TrackLemmas.{IsDone, IsWaiting, Tracks, grant_waits, name_of, tracks_same}
use Rattle.history_of_server.proofs.FollowLemmas.{Follows, Next, follows_same, grants_next, next_append}
use Rattle.history_of_server.proofs.StripLemmas.{contained, equal_file, is_in, strip_bytes, unlock_bytes_next, with_file}

-- the owner's byte locks leave all files
abbrev strip_all : ℕ → State → State
strip_all owner S = record S { files = λ file. strip_bytes owner (S.files file) }

-- ---- the unlocks

abbrev StripOn : Bool → ℕ → FileState → FileState → Type 0
StripOn true owner F G = SameFile (strip_bytes owner F) G
StripOn false owner F G = G ≡ F

strip_then : (b c : Bool) (owner : ℕ) (F G H : FileState) → StripOn b owner F G → StripOn c owner G H → StripOn (if b then true else c) owner F H
strip_then true true owner F G H first more = record {
  locks = record {
    bytes = λ other byte. more.locks.bytes other byte ∙ ap (λ (old : Option Mode). if owner == other then None else old) (first.locks.bytes other byte)
        ∙ twice (owner == other) (F.bytes other byte);
    flocks = λ other. more.locks.flocks other ∙ first.locks.flocks other;
  };
  waits = more.waits ∙ first.waits;
}
  where
    twice : (b : Bool) (old : Option Mode) → (if b then None else (if b then None else old)) ≡ (if b then None else old)
    twice true old = refl
    twice false old = refl
strip_then true false owner F G H first more = subst (SameFile (strip_bytes owner F)) (sym more) first
strip_then false true owner F G H first more = subst (λ (E : FileState). SameFile (strip_bytes owner E) H) first more
strip_then false false owner F G H first more = more ∙ first

unlocks_next : (runs : Bool) (names : Names) (owner : ℕ) (files : List ℕ) (S : State) (worlds : ℕ → World) → Follows S names worlds
    → (T : State) × Next runs worlds (exchange_on names.free files owner (actions.Unlock all_bytes)) T names
    × ((file : ℕ) → StripOn (is_in file files) owner (S.files file) (T.files file)) × (T.grants ≡ S.grants)
unlocks_next runs names owner [] S worlds follows =
    (S, record { worlds' = worlds; path = path_none runs worlds; follows = follows }, (λ file. refl), refl)
unlocks_next runs names owner (first ∷ files) S worlds follows =
    let M = with_file S first (strip_bytes owner (S.files first)) in
    let next = unlock_bytes_next runs S names worlds first owner follows in
    let rest = unlocks_next runs names owner files M next.worlds' next.follows in (
      rest.0,
      next_append runs worlds (exchange names.free first owner (actions.Unlock all_bytes) answers.Done) (exchange_on names.free files owner (actions.Unlock all_bytes))
          M rest.0 names names next rest.1,
      (λ file. strip_then (first == file) (is_in file files) owner (S.files file) (M.files file) (rest.0.files file) (here file (cases_eq first file)) (rest.2 file)),
      rest.3,
    )
  where
    here : (file : ℕ) → (first ≡ file) ⊎ (first ≢ file) → StripOn (first == file) owner (S.files file) ((with_file S first (strip_bytes owner (S.files first))).files file)
    here file (inl same) = subst (λ b. StripOn b owner (S.files file) ((with_file S first (strip_bytes owner (S.files first))).files file)) (sym (eq-eqb first file same))
        (subst (λ f. SameFile (strip_bytes owner (S.files f)) ((with_file S first (strip_bytes owner (S.files first))).files f)) same
        (equal_file (strip_bytes owner (S.files first)) ((with_file S first (strip_bytes owner (S.files first))).files first)
        (sym (put_here S.files first (strip_bytes owner (S.files first))))))
    here file (inr differs) = subst (λ b. StripOn b owner (S.files file) ((with_file S first (strip_bytes owner (S.files first))).files file)) (sym (ne_eqb first file differs))
        (put_other S.files first (strip_bytes owner (S.files first)) file (λ same. differs (sym same)))

-- where the owner has no byte lock, none leaves
stripped_same : (owner : ℕ) (F : FileState) → ((byte : ℕ) → F.bytes owner byte ≡ None) → F ≡ strip_bytes owner F
stripped_same owner F none = λ i. record F { bytes = λ other byte. at other byte (owner == other) refl i }
  where
    at : (other byte : ℕ) (b : Bool) → (owner == other) ≡ b → F.bytes other byte ≡ (if b then None else F.bytes other byte)
    at other byte true same = ap (λ (o : ℕ). F.bytes o byte) (sym (eqb-true owner other same)) ∙ none byte
    at other byte false differs = refl

-- ---- the grants

-- the wait is none for byte locks of the owner
abbrev IsOther : ℕ → Pending → Type 0
IsOther owner wait = is_other_wait owner wait ≡ true

not_hers : (owner : ℕ) (wait : Pending) (family : Family) → wait.family ≡ family → IsOther owner wait → family ≡ Bytes → (wait.owner == owner) ≡ false
not_hers owner wait Whole is other bytes = absurd (let bad : Whole ≡ Bytes = bytes in cc)
not_hers owner wait Bytes is other bytes = at (wait.owner == owner) refl
  where
    at : (b : Bool) → (wait.owner == owner) ≡ b → (wait.owner == owner) ≡ false
    at false same = same
    at true same = absurd (false≢true (sym (hers same) ∙ other))
      where
        hers : (wait.owner == owner) ≡ true → is_other_wait owner wait ≡ false
        hers same = ap (λ (f : Family). not (is_of_bytes f && (wait.owner == owner))) is ∙ ap not same

-- a grant of another wait gives the owner no byte lock
grant_none : (owner : ℕ) (F G : FileState) (wait : Pending) (family : Family) → wait.family ≡ family → IsOther owner wait
    → SetsLock family F wait.owner wait.span (Some wait.mode) G → ((byte : ℕ) → F.bytes owner byte ≡ None) → (byte : ℕ) → G.bytes owner byte ≡ None
grant_none owner F G wait Whole is other sets none byte = sets.bytes owner byte ∙ none byte
grant_none owner F G wait Bytes is other sets none byte =
    sets.bytes owner byte
    ∙ ap (λ (b : Bool). if b && is_covered wait.span byte then Some wait.mode else F.bytes owner byte) (not_hers owner wait Bytes is other refl) ∙ none byte

settles_none : (policy : Policy) (owner : ℕ) (F G : FileState) (waits : List Pending) → Settles policy F waits G → Each (IsOther owner) F.waits
    → ((byte : ℕ) → F.bytes owner byte ≡ None) → (byte : ℕ) → G.bytes owner byte ≡ None
settles_none policy owner F G [] settles others none byte = settles.1.locks.bytes owner byte ∙ none byte
settles_none policy owner F G (wait ∷ waits) settles others none byte =
    let parts = grant_waits policy F wait settles.0 (IsOther owner) settles.1 others in
    settles_none policy owner settles.0 G waits settles.2 parts.1 (grant_none owner F settles.0 wait wait.family refl parts.0 settles.1.gets none) byte

none_forgotten : (S T : State) (file owner : ℕ) → ForgetsOn S file owner T → (byte : ℕ) → (T.files file).bytes owner byte ≡ None
none_forgotten S T file owner forgets byte =
    forgets.unlocks.bytes owner byte ∙ ap (λ (b : Bool). if b then None else (S.files file).bytes owner byte) (eq-eqb owner owner refl)

others_left : (S T : State) (file owner : ℕ) → ForgetsOn S file owner T → Each (IsOther owner) (T.files file).waits
others_left S T file owner forgets = subst (Each (IsOther owner)) (sym forgets.waits) (each_passes (is_other_wait owner) (S.files file).waits)

strip_cong : (owner : ℕ) (F G : FileState) → SameFile F G → SameFile (strip_bytes owner F) (strip_bytes owner G)
strip_cong owner F G same = record {
  locks = record { bytes = λ other byte. ap (λ (old : Option Mode). if owner == other then None else old) (same.locks.bytes other byte); flocks = same.locks.flocks };
  waits = same.waits;
}

-- the owner's waits for byte locks leave a file, and its byte locks there have left
dropped : (S T : State) (names : Names) (worlds : ℕ → World) (file owner : ℕ) → Follows (strip_all owner S) names worlds → ForgetsOn S file owner T
    → Follows (strip_all owner T) names worlds
dropped S T names worlds file owner follows forgets = record {
  files = λ other. elim (cases_eq other file) [
    | inl same ↦ subst (λ f. Tracks names.of_ticket (strip_bytes owner (T.files f)) (worlds f)) (sym same) here
    | inr differs ↦ tracks_same names.of_ticket (strip_bytes owner (S.files other)) (strip_bytes owner (T.files other)) (worlds other)
        (strip_cong owner (S.files other) (T.files other) (forgets.changes.others other differs)) (follows.files other)
  ];
  free = follows.free;
  alone = follows.alone;
  grants = subst (Each (λ ticket. (f : ℕ) × IsDone (worlds f) (names.of_ticket ticket))) (sym forgets.changes.grants) follows.grants;
  apart = subst (Apart names.of_ticket) (sym forgets.changes.grants) follows.apart;
}
  where
    twice : (b : Bool) (old : Option Mode) → (if b then None else (if b then None else old)) ≡ (if b then None else old)
    twice true old = refl
    twice false old = refl

    same_bytes : (other byte : ℕ) → (strip_bytes owner (S.files file)).bytes other byte ≡ (strip_bytes owner (T.files file)).bytes other byte
    same_bytes other byte = sym (ap (λ (old : Option Mode). if owner == other then None else old) (forgets.unlocks.bytes other byte)
        ∙ twice (owner == other) ((S.files file).bytes other byte))

    tracks : Tracks names.of_ticket (strip_bytes owner (S.files file)) (worlds file)
    tracks = follows.files file

    here : Tracks names.of_ticket (strip_bytes owner (T.files file)) (worlds file)
    here = record {
      locks = record {
        bytes = λ other byte. tracks.locks.bytes other byte ∙ same_bytes other byte;
        flocks = λ other. tracks.locks.flocks other ∙ sym (forgets.unlocks.flocks other);
      };
      sound = record {
        within = λ other byte mode is. tracks.sound.within other byte mode (same_bytes other byte ∙ is);
        compatible = λ one other m k differs has too.
            tracks.sound.compatible one other m k differs (sym (forgets.unlocks.flocks one) ∙ has) (sym (forgets.unlocks.flocks other) ∙ too);
      };
      waits = subst (Each (IsWaiting names.of_ticket (worlds file))) (sym forgets.waits)
          (each_filter (IsWaiting names.of_ticket (worlds file)) (is_other_wait owner) (S.files file).waits tracks.waits);
      apart = subst (Apart (name_of names.of_ticket)) (sym forgets.waits) (apart_filter (name_of names.of_ticket) (is_other_wait owner) (S.files file).waits tracks.apart);
      spans = subst (Each (λ (wait : Pending). wait.span.last ≤ OFFMAX)) (sym forgets.waits)
          (each_filter (λ (wait : Pending). wait.span.last ≤ OFFMAX) (is_other_wait owner) (S.files file).waits tracks.spans);
    }

-- one file after another is settled, where the owner's byte locks have left all of them
forgets_next : (runs : Bool) (policy : Policy) (files : List ℕ) (S T : State) (owner : ℕ) (names : Names) (worlds : ℕ → World)
    → Follows (strip_all owner S) names worlds → ForgetsIn policy files S owner T → Next runs worlds [] (strip_all owner T) names
forgets_next runs policy [] S T owner names worlds follows same = record {
  worlds' = worlds;
  path = path_none runs worlds;
  follows = follows_same (strip_all owner S) (strip_all owner T) names worlds (λ file. strip_cong owner (S.files file) (T.files file) (same.files file)) same.grants follows;
}
forgets_next runs policy (file ∷ files) S T owner names worlds follows forgets =
    let between = forgets.0 in
    let next = forgets.1 in
    let none = none_forgotten S between file owner forgets.2 in
    let settles = forgets.3 in
    let now = dropped S between names worlds file owner follows forgets.2 in
    let after = settles_none policy owner (between.files file) (next.files file) settles.granted settles.settles (others_left S between file owner forgets.2) none in
    let first = grants_next runs policy (strip_all owner between) (strip_all owner next) names worlds file settles.granted now
    (subst (λ (F : FileState). Settles policy F settles.granted (strip_bytes owner (next.files file))) (stripped_same owner (between.files file) none)
    (subst (λ (G : FileState). Settles policy (between.files file) settles.granted G) (stripped_same owner (next.files file) after) settles.settles))
    (λ other differs. strip_cong owner (between.files other) (next.files other) (settles.others other differs)) settles.grants in
    next_append runs worlds [] [] (strip_all owner next) (strip_all owner T) names names first
    (forgets_next runs policy files next T owner names first.worlds' first.follows forgets.4)

-- in the end the owner has no byte lock on any file
none_left : (policy : Policy) (files : List ℕ) (S T : State) (owner : ℕ) → ForgetsIn policy files S owner T
    → ((file : ℕ) → (¬ Contains files file) → (byte : ℕ) → (S.files file).bytes owner byte ≡ None) → (file byte : ℕ) → (T.files file).bytes owner byte ≡ None
none_left policy [] S T owner same strangers file byte =
    (same.files file).locks.bytes owner byte ∙ strangers file (λ has. nothing_in file has) byte
  where
    nothing_in : (number : ℕ) → ¬ Contains [] number
    nothing_in number (k, within, is) = absurd (omega (arith, within))
none_left policy (first ∷ files) S T owner forgets strangers file byte =
    none_left policy files forgets.1 T owner forgets.4 (λ f away b. at f away b (cases_eq f first)) file byte
  where
    either : (f : ℕ) → f ≢ first → (¬ Contains files f) → ¬ Contains (first ∷ files) f
    either f differs away (zero, within, is) = differs (sym is)
    either f differs away (suc k, within, is) = away (k, omega (arith, within), is)

    at : (f : ℕ) → (¬ Contains files f) → (b : ℕ) → (f ≡ first) ⊎ (f ≢ first) → (forgets.1.files f).bytes owner b ≡ None
    at f away b (inl same) = subst (λ g. (forgets.1.files g).bytes owner b ≡ None) (sym same)
        (settles_none policy owner (forgets.0.files first) (forgets.1.files first) forgets.3.granted forgets.3.settles
        (others_left S forgets.0 first owner forgets.2) (none_forgotten S forgets.0 first owner forgets.2) b)
    at f away b (inr differs) =
        (forgets.3.others f differs).locks.bytes owner b ∙ (forgets.2.changes.others f differs).locks.bytes owner b
        ∙ strangers f (either f differs away) b

pub forget_next : (runs : Bool) (policy : Policy) (S T : State) (names : Names) (worlds : ℕ → World) (owner : ℕ) (lines : List HistoryLine)
    → Follows S names worlds → Forgets policy S owner T → AreForgotten S names owner lines → Next runs worlds lines T names
forget_next runs policy S T names worlds owner lines follows forgets forgotten =
    let files = forgotten.files in
    let first = unlocks_next runs names owner files S worlds follows in
    let stripped = follows_same first.0 (strip_all owner S) names first.1.worlds' (λ file. here file (is_in file files) refl (first.0.files file) (first.2 file)) (sym first.3)
    first.1.follows in
    let rest = forgets_next runs policy forgets.files S T owner names first.1.worlds' stripped forgets.forgets in
    let none = none_left policy forgets.files S T owner forgets.forgets (λ file away byte. (forgets.others file away).bytes byte) in
    let start : Next runs worlds (exchange_on names.free files owner (actions.Unlock all_bytes)) (strip_all owner S) names =
    record { worlds' = first.1.worlds'; path = first.1.path; follows = stripped } in
    let all = next_append runs worlds (exchange_on names.free files owner (actions.Unlock all_bytes)) [] (strip_all owner S) (strip_all owner T) names names start rest in
    subst (λ ls. Next runs worlds ls T names) (sym forgotten.are)
    (subst (λ ls. Next runs worlds ls T names) (append_none _) (record {
      worlds' = all.worlds';
      path = all.path;
      follows = follows_same (strip_all owner T) T names all.worlds'
          (λ file. equal_file (strip_bytes owner (T.files file)) (T.files file) (sym (stripped_same owner (T.files file) (none file)))) refl all.follows;
    }))
  where
    append_none : (ls : List HistoryLine) → ls ++ [] ≡ ls
    append_none [] = refl
    append_none (l ∷ ls) = ap (λ (rest : List HistoryLine). l ∷ rest) (append_none ls)

    turned_file : (F G : FileState) → SameFile F G → SameFile G F
    turned_file F G same = record {
      locks = record { bytes = λ o byte. sym (same.locks.bytes o byte); flocks = λ o. sym (same.locks.flocks o) };
      waits = sym same.waits;
    }

    no_mode : (file byte : ℕ) (found : Option Mode) → is_in file forgotten.files ≡ false → (S.files file).bytes owner byte ≡ found → found ≡ None
    no_mode file byte None off is = refl
    no_mode file byte (Some mode) off is =
        absurd (false≢true (sym off ∙ contained forgotten.files file (forgotten.all file (record { byte = byte; mode = mode; is = is }))))

    here : (file : ℕ) (listed : Bool) → is_in file forgotten.files ≡ listed → (G : FileState) → StripOn listed owner (S.files file) G
        → SameFile G (strip_bytes owner (S.files file))
    here file true is G strips = turned_file (strip_bytes owner (S.files file)) G strips
    here file false is G same =
        equal_file G (strip_bytes owner (S.files file))
        (same ∙ stripped_same owner (S.files file) (λ byte. no_mode file byte ((S.files file).bytes owner byte) is refl))
