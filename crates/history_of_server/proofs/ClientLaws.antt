-- What a last close brings, and owners, clients and files that are gone.
use Rattle.history_of_server.proofs.Common.{inl, inr, ℕ, ◌≡◌, ◌≢◌, ◌∙◌, ◌==◌, sym, ap, refl, subst, arith, true, false, Bool, Option, Some, None, List, [], ◌∷◌, ◌++◌, zero, suc, eq-eqb, cases_eq, false≢true, ne_eqb, ◌⊎◌, Contains, filter, if◌then◌else◌, not, Mode, Policy, World, HistoryLine, Pending, FileState, SameFile, State, Names, all_bytes}
use Rattle.std.proofs.Common.{length}
use Rattle.std.specs.Prelude.{Any}
use Rattle.history_core.specs.declared.request.Action.TheVariants as actions
use Rattle.lock_server.specs.Agreement.{Through}
use Rattle.lock_server.specs.Clients.{ForgetsFile, ForgetsOwners, SettlesBelow, is_within}
use Rattle.lock_server.specs.Closing.{Closes, is_through}
use Rattle.lock_server.specs.Openings.{is_number}
use Rattle.history_of_server.specs.ServerLines.{AreGone, AreGoneFrom, AreReleased, IsThere, deaths_on, exchange_each, unlock_of}
use Rattle.history_of_server.proofs.ListLemmas.{Each, each_passes, each_weaker}
use Rattle.history_of_server.proofs.PartLemmas.{path_none, put_here, put_other}
use Rattle.history_of_server.proofs.FollowLemmas.{Follows, Next, follows_same, next_append, settled_next}
use Rattle.history_of_server.proofs.StripLemmas.{AllGone, BytesGone, all_gone, bytes_gone, chain, chain_grants, chain_here, chain_next, chain_other, contained, filter_agrees, filter_all, filter_none, gone_from, gone_next, in_all, is_in, strip_bytes, strip_flock, unlock_bytes_next, unlock_flock_next, with_file}

-- what follows a state follows one with the same files and grants
pub next_same : (runs : Bool) (worlds : ℕ → World) (lines : List HistoryLine) (S T : State) (names : Names) → ((file : ℕ) → SameFile (S.files file) (T.files file))
    → T.grants ≡ S.grants → Next runs worlds lines S names → Next runs worlds lines T names
next_same runs worlds lines S T names same grants next =
    record { worlds' = next.worlds'; path = next.path; follows = follows_same S T names next.worlds' same grants next.follows }

-- a mode that is there would be one of those that go
nothing_there : (old : Option Mode) (gone listed : Bool) → (gone ≡ true → (mode : Mode) → old ≡ Some mode → listed ≡ true) → (listed ≡ true → gone ≡ true)
    → (if listed then None else old) ≡ (if gone then None else old)
nothing_there old true true all within = refl
nothing_there old false false all within = refl
nothing_there old false true all within = absurd (false≢true (within refl))
nothing_there None true false all within = refl
nothing_there (Some mode) true false all within = absurd (false≢true (all refl mode refl))

-- ---- a last close

release_lines : (runs : Bool) (S : State) (names : Names) (worlds : ℕ → World) (file : ℕ) (flock_owner : Option ℕ) → Follows S names worlds
    → (T : State) × Next runs worlds (unlock_of names.free file flock_owner) T names × ((other byte : ℕ) → (T.files file).bytes other byte ≡ (S.files file).bytes other byte)
    × ((other : ℕ) → (T.files file).flocks other ≡ (if is_number other flock_owner then None else (S.files file).flocks other))
    × ((T.files file).waits ≡ (S.files file).waits) × ((other : ℕ) → other ≢ file → T.files other ≡ S.files other) × (T.grants ≡ S.grants)
release_lines runs S names worlds file None follows =
    (S, record { worlds' = worlds; path = path_none runs worlds; follows = follows }, (λ other byte. refl), (λ other. refl), refl, (λ other differs. refl), refl)
release_lines runs S names worlds file (Some owner) follows =
    let F = S.files file in
    let here = put_here S.files file (strip_flock owner F) in (
      with_file S file (strip_flock owner F),
      unlock_flock_next runs S names worlds file owner follows,
      (λ other byte. ap (λ (G : FileState). G.bytes other byte) here),
      (λ other. ap (λ (G : FileState). G.flocks other) here),
      ap (λ (G : FileState). G.waits) here,
      (λ other differs. put_other S.files file (strip_flock owner F) other differs),
      refl,
    )

pub release_next : (runs : Bool) (policy : Policy) (S T : State) (through : Through) (names : Names) (worlds : ℕ → World) (file open_file : ℕ)
    (flock_owner : Option ℕ) (lines : List HistoryLine) → Follows S names worlds → Closes policy S through file open_file flock_owner T
    → AreReleased S through names file open_file flock_owner lines → Next runs worlds lines T names
release_next runs policy S T through names worlds file open_file flock_owner lines follows closes released =
    let owners = released.owners in
    let first = chain_next runs strip_bytes (actions.Unlock all_bytes) names file (λ S worlds owner. unlock_bytes_next runs S names worlds file owner) S worlds owners follows in
    let M = chain strip_bytes S file owners in
    let gone = subst (BytesGone owners (S.files file)) (sym (chain_here strip_bytes S file owners)) (bytes_gone (S.files file) owners) in
    let second = release_lines runs M names first.worlds' file flock_owner first.follows in
    let N = second.0 in
    let between = closes.between in
    let here : SameFile (N.files file) (between.files file) = record {
      locks = record {
        bytes = λ other byte. closes.closes.closes.bytes other byte
            ∙ sym (nothing_there ((S.files file).bytes other byte) (is_through (through file) open_file other) (is_in other owners)
            (λ seen mode has. contained owners other (released.all other seen (record { byte = byte; mode = mode; is = has })))
            (λ listed. in_all (λ owner. is_through (through file) open_file owner ≡ true) owners other released.seen listed))
            ∙ sym (gone.bytes other byte) ∙ sym (second.2 other byte);
        flocks = λ other. closes.closes.closes.flocks other
            ∙ ap (λ (old : Option Mode). if is_number other flock_owner then None else old) (sym (gone.flocks other)) ∙ sym (second.3 other);
      };
      waits = closes.closes.waits ∙ sym gone.waits ∙ sym second.4;
    } in
    let both = next_append runs worlds (exchange_each names.free file owners (actions.Unlock all_bytes)) (unlock_of names.free file flock_owner) M N names names first second.1 in
    let same = next_same runs worlds (exchange_each names.free file owners (actions.Unlock all_bytes) ++ unlock_of names.free file flock_owner) N between names
    (λ other. elim (cases_eq other file) [
      | inl at ↦ subst (λ f. SameFile (N.files f) (between.files f)) (sym at) here
      | inr differs ↦ subst (λ (F : FileState). SameFile F (between.files other)) (sym (second.5 other differs ∙ chain_other strip_bytes S file owners other differs))
          (closes.closes.changes.others other differs)
    ])
    (closes.closes.changes.grants ∙ sym (second.6 ∙ chain_grants strip_bytes S file owners)) both in
    subst (λ ls. Next runs worlds ls T names) (sym released.are)
    (subst (λ ls. Next runs worlds ls T names) (append_none _)
    (next_append runs worlds (exchange_each names.free file owners (actions.Unlock all_bytes) ++ unlock_of names.free file flock_owner) [] between T names names same
    (settled_next runs policy between T names same.worlds' file same.follows closes.settles)))
  where
    append_none : (ls : List HistoryLine) → ls ++ [] ≡ ls
    append_none [] = refl
    append_none (l ∷ ls) = ap (λ (rest : List HistoryLine). l ∷ rest) (append_none ls)

-- ---- a file that is gone

each_there : (F : FileState) (owners : List ℕ) → ((owner : ℕ) → IsThere F owner → Contains owners owner) → Each (λ wait. is_in wait.owner owners ≡ true) F.waits
each_there F owners all = at F.waits (λ wait any. contained owners wait.owner (all wait.owner (inr (inr any))))
  where
    later : (owner : ℕ) (first : Pending) (waits : List Pending) → Any (λ wait. wait.owner ≡ owner) waits → Any (λ wait. wait.owner ≡ owner) (first ∷ waits)
    later owner first waits (k, wait, within, is, holds) = (suc k, wait, omega (arith, within), is, holds)

    at : (waits : List Pending) → ((wait : Pending) → Any (λ other. other.owner ≡ wait.owner) waits → is_in wait.owner owners ≡ true)
        → Each (λ wait. is_in wait.owner owners ≡ true) waits
    at [] listed = tt
    at (first ∷ waits) listed =
        (listed first (0, first, (let n = length waits in omega arith), refl, refl), at waits (λ wait any. listed wait (later wait.owner first waits any)))

pub forget_file_next : (runs : Bool) (S T : State) (names : Names) (worlds : ℕ → World) (file : ℕ) (lines : List HistoryLine) → Follows S names worlds
    → ForgetsFile S file T → AreGoneFrom S names file lines → Next runs worlds lines T names
forget_file_next runs S T names worlds file lines follows forgets gone =
    let owners = gone.owners in
    let F = S.files file in
    let next = chain_next runs gone_from actions.Gone names file (λ S worlds owner. gone_next runs S names worlds file owner) S worlds owners follows in
    let M = chain gone_from S file owners in
    let left = subst (AllGone owners F) (sym (chain_here gone_from S file owners)) (all_gone F owners) in
    let here : SameFile (M.files file) (T.files file) = record {
      locks = record {
        bytes = λ owner byte. forgets.nothing.locks.bytes owner byte ∙ sym (left.bytes owner byte
            ∙ none_left (F.bytes owner byte) (is_in owner owners) (λ mode has. contained owners owner (gone.all owner (inl (record { byte = byte; mode = mode; is = has })))));
        flocks = λ owner. forgets.nothing.locks.flocks owner ∙ sym (left.flocks owner
            ∙ none_left (F.flocks owner) (is_in owner owners) (λ mode has. contained owners owner (gone.all owner (inr (inl (record { mode = mode; is = has }))))));
      };
      waits = forgets.nothing.waits ∙ sym (left.waits ∙ filter_none (λ wait. not (is_in wait.owner owners)) F.waits
          (each_weaker (λ wait. is_in wait.owner owners ≡ true) (λ wait. not (is_in wait.owner owners) ≡ false) (λ wait is. ap not is) F.waits (each_there F owners gone.all)));
    } in
    subst (λ ls. Next runs worlds ls T names) (sym gone.are) (next_same runs worlds (exchange_each names.free file owners actions.Gone) M T names
    (λ other. elim (cases_eq other file) [
      | inl at ↦ subst (λ f. SameFile (M.files f) (T.files f)) (sym at) here
      | inr differs ↦ subst (λ (G : FileState). SameFile G (T.files other)) (sym (chain_other gone_from S file owners other differs)) (forgets.changes.others other differs)
    ])
    (forgets.changes.grants ∙ sym (chain_grants gone_from S file owners)) next)
  where
    none_left : (old : Option Mode) (listed : Bool) → ((mode : Mode) → old ≡ Some mode → listed ≡ true) → (if listed then None else old) ≡ None
    none_left old true all = refl
    none_left None false all = refl
    none_left (Some mode) false all = absurd (false≢true (all mode refl))

-- ---- a client that is gone

-- where the file is one of these the owners are gone from it, and else it is as it was
abbrev GoneOn : Bool → List ℕ → FileState → FileState → Type 0
GoneOn true owners F G = AllGone owners F G
GoneOn false owners F G = G ≡ F

gone_twice : (owners : List ℕ) (F G H : FileState) → AllGone owners F G → AllGone owners G H → AllGone owners F H
gone_twice owners F G H first more = record {
  bytes = λ owner byte. more.bytes owner byte ∙ ap (λ (old : Option Mode). if is_in owner owners then None else old) (first.bytes owner byte)
      ∙ twice (is_in owner owners) (F.bytes owner byte);
  flocks = λ owner. more.flocks owner ∙ ap (λ (old : Option Mode). if is_in owner owners then None else old) (first.flocks owner)
      ∙ twice (is_in owner owners) (F.flocks owner);
  waits = more.waits ∙ ap (filter (λ wait. not (is_in wait.owner owners))) first.waits
      ∙ filter_all (λ wait. not (is_in wait.owner owners)) (filter (λ wait. not (is_in wait.owner owners)) F.waits)
      (each_passes (λ wait. not (is_in wait.owner owners)) F.waits);
}
  where
    twice : (b : Bool) (old : Option Mode) → (if b then None else (if b then None else old)) ≡ (if b then None else old)
    twice true old = refl
    twice false old = refl

gone_then : (b c : Bool) (owners : List ℕ) (F G H : FileState) → GoneOn b owners F G → GoneOn c owners G H → GoneOn (if b then true else c) owners F H
gone_then true true owners F G H first more = gone_twice owners F G H first more
gone_then true false owners F G H first more = subst (AllGone owners F) (sym more) first
gone_then false true owners F G H first more = subst (λ (E : FileState). AllGone owners E H) first more
gone_then false false owners F G H first more = more ∙ first

deaths_next : (runs : Bool) (names : Names) (owners : List ℕ) (files : List ℕ) (S : State) (worlds : ℕ → World) → Follows S names worlds
    → (T : State) × Next runs worlds (deaths_on names.free files owners) T names × ((file : ℕ) → GoneOn (is_in file files) owners (S.files file) (T.files file))
    × (T.grants ≡ S.grants)
deaths_next runs names owners [] S worlds follows =
    (S, record { worlds' = worlds; path = path_none runs worlds; follows = follows }, (λ file. refl), refl)
deaths_next runs names owners (first ∷ files) S worlds follows =
    let M = chain gone_from S first owners in
    let next = chain_next runs gone_from actions.Gone names first (λ S worlds owner. gone_next runs S names worlds first owner) S worlds owners follows in
    let rest = deaths_next runs names owners files M next.worlds' next.follows in (
      rest.0,
      next_append runs worlds (exchange_each names.free first owners actions.Gone) (deaths_on names.free files owners) M rest.0 names names next rest.1,
      (λ file. gone_then (first == file) (is_in file files) owners (S.files file) (M.files file) (rest.0.files file) (here file (cases_eq first file)) (rest.2 file)),
      rest.3 ∙ chain_grants gone_from S first owners,
    )
  where
    here : (file : ℕ) → (first ≡ file) ⊎ (first ≢ file) → GoneOn (first == file) owners (S.files file) ((chain gone_from S first owners).files file)
    here file (inl same) = subst (λ b. GoneOn b owners (S.files file) ((chain gone_from S first owners).files file)) (sym (eq-eqb first file same))
        (subst (λ f. AllGone owners (S.files f) ((chain gone_from S first owners).files f)) same
        (subst (AllGone owners (S.files first)) (sym (chain_here gone_from S first owners)) (all_gone (S.files first) owners)))
    here file (inr differs) = subst (λ b. GoneOn b owners (S.files file) ((chain gone_from S first owners).files file)) (sym (ne_eqb first file differs))
        (chain_other gone_from S first owners file (λ same. differs (sym same)))

below_next : (runs : Bool) (policy : Policy) (names : Names) (bound : ℕ) (S T : State) (worlds : ℕ → World) → Follows S names worlds → SettlesBelow policy bound S T
    → Next runs worlds [] T names
below_next runs policy names zero S T worlds follows same =
    record { worlds' = worlds; path = path_none runs worlds; follows = follows_same S T names worlds same.files same.grants follows }
below_next runs policy names (suc file) S T worlds follows settles =
    let first = below_next runs policy names file S settles.0 worlds follows settles.1 in
    next_append runs worlds [] [] settles.0 T names names first (settled_next runs policy settles.0 T names first.worlds' file first.follows settles.2)

pub forget_owners_next : (runs : Bool) (policy : Policy) (S T : State) (names : Names) (worlds : ℕ → World) (first last : ℕ) (lines : List HistoryLine)
    → Follows S names worlds → ForgetsOwners policy S first last T → AreGone S names first last lines → Next runs worlds lines T names
forget_owners_next runs policy S T names worlds first last lines follows forgets gone =
    let owners = gone.owners in
    let files = gone.files in
    let dead = deaths_next runs names owners files S worlds follows in
    let between = forgets.between in
    let same = next_same runs worlds (deaths_on names.free files owners) dead.0 between names
    (λ file. left file (is_in file files) refl (dead.0.files file) (dead.2 file)) (forgets.strips.grants ∙ sym dead.3) dead.1 in
    subst (λ ls. Next runs worlds ls T names) (sym gone.are)
    (subst (λ ls. Next runs worlds ls T names) (append_none _)
    (next_append runs worlds (deaths_on names.free files owners) [] between T names names same
    (below_next runs policy names forgets.settles.bound between T same.worlds' same.follows forgets.settles.settles)))
  where
    append_none : (ls : List HistoryLine) → ls ++ [] ≡ ls
    append_none [] = refl
    append_none (l ∷ ls) = ap (λ (rest : List HistoryLine). l ∷ rest) (append_none ls)

    within : (owner : ℕ) → is_in owner gone.owners ≡ true → is_within first last owner ≡ true
    within owner listed = in_all (λ o. is_within first last o ≡ true) gone.owners owner gone.within listed

    both : (file owner : ℕ) → is_within first last owner ≡ true → IsThere (S.files file) owner → (is_in file gone.files ≡ true) × (is_in owner gone.owners ≡ true)
    both file owner is there = let has = gone.all file owner is there in (contained gone.files file has.0, contained gone.owners owner has.1)

    later : (owner : ℕ) (one : Pending) (waits : List Pending) → Any (λ wait. wait.owner ≡ owner) waits → Any (λ wait. wait.owner ≡ owner) (one ∷ waits)
    later owner one waits (k, wait, low, is, holds) = (suc k, wait, omega (arith, low), is, holds)

    each_of : (P : ℕ → Type 0) (waits : List Pending) → ((owner : ℕ) → Any (λ wait. wait.owner ≡ owner) waits → P owner) → Each (λ wait. P wait.owner) waits
    each_of P [] all = tt
    each_of P (one ∷ waits) all =
        (all one.owner (0, one, (let n = length waits in omega arith), refl, refl), each_of P waits (λ owner any. all owner (later owner one waits any)))

    agree : (listed is : Bool) → (listed ≡ true → is ≡ true) → (is ≡ true → listed ≡ true) → not is ≡ not listed
    agree true true there back = refl
    agree false false there back = refl
    agree true false there back = absurd (false≢true (there refl))
    agree false true there back = absurd (false≢true (back refl))

    stay : (is : Bool) → (is ≡ true → ⊥) → not is ≡ true
    stay true never = absurd (never refl)
    stay false never = refl

    left : (file : ℕ) (listed : Bool) → is_in file gone.files ≡ listed → (G : FileState) → GoneOn listed gone.owners (S.files file) G
        → SameFile G (forgets.between.files file)
    left file true is G died = record {
      locks = record {
        bytes = λ owner byte. (forgets.strips.files file).locks.bytes owner byte
            ∙ sym (nothing_there ((S.files file).bytes owner byte) (is_within first last owner) (is_in owner gone.owners)
            (λ one mode has. (both file owner one (inl (record { byte = byte; mode = mode; is = has }))).1) (within owner))
            ∙ sym (died.bytes owner byte);
        flocks = λ owner. (forgets.strips.files file).locks.flocks owner
            ∙ sym (nothing_there ((S.files file).flocks owner) (is_within first last owner) (is_in owner gone.owners)
            (λ one mode has. (both file owner one (inr (inl (record { mode = mode; is = has })))).1) (within owner))
            ∙ sym (died.flocks owner);
      };
      waits = (forgets.strips.files file).waits
          ∙ filter_agrees (λ wait. not (is_within first last wait.owner)) (λ wait. not (is_in wait.owner gone.owners)) (S.files file).waits
          (each_of (λ owner. not (is_within first last owner) ≡ not (is_in owner gone.owners)) (S.files file).waits
          (λ owner any. agree (is_in owner gone.owners) (is_within first last owner) (within owner) (λ one. (both file owner one (inr (inr any))).1)))
          ∙ sym died.waits;
    }
    left file false is G same = record {
      locks = record {
        bytes = λ owner byte. (forgets.strips.files file).locks.bytes owner byte
            ∙ stays ((S.files file).bytes owner byte) (is_within first last owner)
            (λ one mode has. false≢true (sym is ∙ (both file owner one (inl (record { byte = byte; mode = mode; is = has }))).0))
            ∙ ap (λ (F : FileState). F.bytes owner byte) (sym same);
        flocks = λ owner. (forgets.strips.files file).locks.flocks owner
            ∙ stays ((S.files file).flocks owner) (is_within first last owner)
            (λ one mode has. false≢true (sym is ∙ (both file owner one (inr (inl (record { mode = mode; is = has })))).0))
            ∙ ap (λ (F : FileState). F.flocks owner) (sym same);
      };
      waits = (forgets.strips.files file).waits
          ∙ filter_all (λ wait. not (is_within first last wait.owner)) (S.files file).waits
          (each_of (λ owner. not (is_within first last owner) ≡ true) (S.files file).waits
          (λ owner any. stay (is_within first last owner) (λ one. false≢true (sym is ∙ (both file owner one (inr (inr any))).0))))
          ∙ ap (λ (F : FileState). F.waits) (sym same);
    }
      where
        stays : (old : Option Mode) (b : Bool) → (b ≡ true → (mode : Mode) → old ≡ Some mode → ⊥) → (if b then None else old) ≡ old
        stays old false none = refl
        stays None true none = refl
        stays (Some mode) true none = absurd (none refl mode refl)
