-- Where one engine settles from a state and a file that are alike, so does the other: for `engines_grant_alike`.
use Rattle.grants_alike.proofs.Common.{◌≡◌, ℕ, ◌==◌, ◌&&◌, Bool, true, false, Some, if◌then◌else◌, List, [], ◌∷◌, ◌++◌, All, refl, sym, subst, eq-eqb, is_covered, Family, Bytes, Whole, Wait, IsBlockedByLock, State, locks_held, Pending, FileState, IsHeldBack, Numbers, AreSameWaits, waits_on_file, AreAlike}
use Rattle.std.proofs.Common.{subst₂}
use Rattle.std.proofs.lemmas.List.Elements.{All-weaker}
use Rattle.wait_core.specs.declared.Policy.TheVariants.{Held}
use Rattle.wait_core.specs.Blocking.{IsNextBetween}
use Rattle.lock_manager.specs.declared.request.Note.{Note}
use Rattle.lock_manager.specs.declared.request.Note.TheVariants.{Answer}
use Rattle.lock_manager.specs.declared.request.Reply.TheVariants as replies
use Rattle.lock_manager.specs.Settling.{Settles as ManagerSettles, granted as granted_by}
use Rattle.lock_server.specs.Files.{GetsLock, SetsLock}
use Rattle.lock_server.specs.Settling.{Settles as ServerSettles, IsNext, Grants}
use Rattle.grants_alike.specs.Alike.{AreOnlyOn, EnginesGrantAlike}
use Rattle.grants_alike.proofs.WaitLemmas.{is_on_file, each_blocked, are_blocked, SameSplit, split_there, split_here, the_one_between, others_between, on_file_all}
use Rattle.grants_alike.proofs.NextLemmas.{AreOn, one_here, one_there, all_alike}
use Rattle.grants_alike.proofs.GrantLemmas.{alike_after, alike_elsewhere}
use Rattle.grants_alike.proofs.SettlingLaws.{are_on, blocked_there, blocked_here, waits_around, blocked_before, grants_alike}

-- ---- the server settles where the manager does

-- the file behind a grant
abbrev file_after : Family → FileState → Pending → List Pending → FileState
file_after Bytes F pending waits =
    record {
      bytes = λ other byte. if pending.owner == other && is_covered pending.span byte then Some pending.mode else F.bytes other byte;
      flocks = F.flocks;
      waits = waits;
    }
file_after Whole F pending waits =
    record { bytes = F.bytes; flocks = λ other. if pending.owner == other then Some pending.mode else F.flocks other; waits = waits }

gets_after : (F : FileState) (pending : Pending) (waits : List Pending) → GetsLock F pending (file_after pending.family F pending waits)
gets_after F pending waits = at pending.family
  where
    at : (family : Family) → SetsLock family F pending.owner pending.span (Some pending.mode) (file_after family F pending waits)
    at Bytes = record { bytes = λ other byte. refl; flocks = λ other. refl }
    at Whole = record { bytes = λ other byte. refl; flocks = λ other. refl }

waits_after : (F : FileState) (pending : Pending) (waits : List Pending) → (file_after pending.family F pending waits).waits ≡ waits
waits_after F pending waits = at pending.family
  where
    at : (family : Family) → (file_after family F pending waits).waits ≡ waits
    at Bytes = refl
    at Whole = refl

-- each file that is alike settles
abbrev FilesSettle : Numbers → ℕ → State → Type 0
FilesSettle numbers file S = (F : FileState) → AreAlike numbers file S F → (granted : List Pending) × (G : FileState) × ServerSettles Held F granted G

module _ (numbers : Numbers) (file : ℕ) (S : State) (before : List Wait) (wait : Wait) (after : List Wait)
    (next : IsNextBetween Held (locks_held S) S.waits before wait after) where
  next_there : (F : FileState) (before' : List Pending) (pending : Pending) (after' : List Pending) → AreAlike numbers file S F
      → is_on_file file wait ≡ true → F.waits ≡ before' ++ pending ∷ after'
      → SameSplit numbers (waits_on_file file before) wait (waits_on_file file after) before' pending after' → IsNext Held F before' pending after'
  next_there F before' pending after' alike on place split =
      record {
        place = place;
        ready = λ held_back. next.ready (one_here numbers file (locks_held S) F alike.owners alike.descriptions alike.locks wait pending on
            split.wait_same held_back);
        earliest = are_blocked (IsHeldBack F) [] before'
            ((all_alike numbers file (locks_held S) F alike.owners alike.descriptions alike.locks (waits_on_file file before) before' (are_on file before)
            split.before_same).0 (blocked_before numbers file S F before wait after alike next));
      }

  grant_settles : FilesSettle numbers file (granted_by S before wait after) → FilesSettle numbers file S
  grant_settles rest F alike = at (is_on_file file wait) refl
    where
      at : (b : Bool) → is_on_file file wait ≡ b → (granted : List Pending) × (G : FileState) × ServerSettles Held F granted G
      at false off = rest F (alike_elsewhere numbers file S F before wait after alike next.place off)
      at true on =
          let there = split_there numbers (waits_on_file file before) wait (waits_on_file file after) F.waits
          (waits_around numbers file S F before wait after alike next on) in
          let left = there.before' ++ there.after' in
          let N = file_after there.pending.family F there.pending left in
          let gets = gets_after F there.pending left in
          let waits = waits_after F there.pending left in
          let more = rest N (alike_after numbers file S F N before wait after there.before' there.pending there.after' alike on there.split gets waits) in
          let grants : Grants Held F there.pending N = record {
            before = there.before';
            after = there.after';
            is_next = next_there F there.before' there.pending there.after' alike on there.place there.split;
            gets = gets;
            waits = waits;
          } in
          (there.pending ∷ more.0, more.1, (N, grants, more.2))

files_settle : (numbers : Numbers) (file : ℕ) (S : State) (grants : List Note) (T : State) → ManagerSettles Held S grants T → FilesSettle numbers file S
files_settle numbers file S [] T settles F alike =
    let blocked = each_blocked (IsBlockedByLock (locks_held S)) [] S.waits settles.0 in (
      [],
      F,
      (
        are_blocked (IsHeldBack F) [] F.waits (blocked_there numbers file S F alike blocked),
        record { locks = record { bytes = λ owner byte. refl; flocks = λ owner. refl }; waits = refl },
      ),
    )
files_settle numbers file S (grant ∷ grants) T settles F alike =
    grant_settles numbers file S settles.0 settles.1 settles.2 settles.3
    (files_settle numbers file (granted_by S settles.0 settles.1 settles.2) grants T settles.5) F alike

-- ---- and the manager where the server does

-- there are grants that settle the manager
abbrev StateSettles : State → Type 0
StateSettles S = (grants : List Note) × (T : State) × ManagerSettles Held S grants T

are_on_file : (file : ℕ) (waits : List Wait) → All (λ wait. wait.file ≡ file) waits → AreOn file waits
are_on_file file waits only =
    All-weaker (λ (wait : Wait). wait.file ≡ file) (λ wait. is_on_file file wait ≡ true) (λ wait is. eq-eqb wait.file file is) waits only

module _ (numbers : Numbers) (file : ℕ) (S : State) (F N : FileState) (pending : Pending) (alike : AreAlike numbers file S F) (only : AreOnlyOn file S)
    (grants : Grants Held F pending N) where
  same_waits : AreSameWaits numbers S.waits F.waits
  same_waits = subst (λ (waits : List Wait). AreSameWaits numbers waits F.waits) (on_file_all file S.waits (are_on_file file S.waits only)) alike.waits

  next_here : (before : List Wait) (wait : Wait) (after : List Wait) → AreOn file before → is_on_file file wait ≡ true → S.waits ≡ before ++ wait ∷ after
      → SameSplit numbers before wait after grants.before pending grants.after → IsNextBetween Held (locks_held S) S.waits before wait after
  next_here before wait after on_before on place split =
      record {
        place = place;
        ready = λ blocked. grants.is_next.ready (one_there numbers file (locks_held S) F alike.owners alike.descriptions alike.locks wait pending on
            split.wait_same blocked);
        earliest = are_blocked (IsBlockedByLock (locks_held S)) [] before
            ((all_alike numbers file (locks_held S) F alike.owners alike.descriptions alike.locks before grants.before on_before split.before_same).1
            (each_blocked (IsHeldBack F) [] grants.before grants.is_next.earliest));
      }

  on_file_split : (before : List Wait) (wait : Wait) (after : List Wait) → AreOn file before → AreOn file after
      → SameSplit numbers before wait after grants.before pending grants.after
      → SameSplit numbers (waits_on_file file before) wait (waits_on_file file after) grants.before pending grants.after
  on_file_split before wait after on_before on_after split =
      subst₂ (λ (xs ys : List Wait). SameSplit numbers xs wait ys grants.before pending grants.after) (sym (on_file_all file before on_before))
      (sym (on_file_all file after on_after)) split

  state_settles_after : ((S' : State) → AreAlike numbers file S' N → AreOnlyOn file S' → StateSettles S') → StateSettles S
  state_settles_after rest =
      let here = split_here numbers grants.before pending grants.after S.waits
      (subst (AreSameWaits numbers S.waits) grants.is_next.place same_waits) in
      let only_here = subst (All (λ (wait : Wait). wait.file ≡ file)) here.place only in
      let others = others_between (λ (wait : Wait). wait.file ≡ file) here.before here.wait here.after only_here in
      let on = eq-eqb here.wait.file file (the_one_between (λ (wait : Wait). wait.file ≡ file) here.before here.wait here.after only_here) in
      let on_before = are_on_file file here.before others.0 in
      let on_after = are_on_file file here.after others.1 in
      let more = rest (granted_by S here.before here.wait here.after)
      (alike_after numbers file S F N here.before here.wait here.after grants.before pending grants.after alike on
      (on_file_split here.before here.wait here.after on_before on_after here.split) grants.gets grants.waits) others.2 in (
        Answer here.wait.p here.wait.n replies.Ok ∷ more.0,
        more.1,
        (here.before, here.wait, here.after, next_here here.before here.wait here.after on_before on here.place here.split, refl, more.2),
      )

state_settles : (numbers : Numbers) (file : ℕ) (granted : List Pending) (S : State) (F G : FileState) → AreAlike numbers file S F → AreOnlyOn file S
    → ServerSettles Held F granted G → StateSettles S
state_settles numbers file [] S F G alike only settles = (
  [],
  S,
  (
    are_blocked (IsBlockedByLock (locks_held S)) [] S.waits
        (subst (All (IsBlockedByLock (locks_held S))) (on_file_all file S.waits (are_on_file file S.waits only))
        (blocked_here numbers file S F alike (each_blocked (IsHeldBack F) [] F.waits settles.0))),
    refl,
  ),
)
state_settles numbers file (pending ∷ granted) S F G alike only settles =
    state_settles_after numbers file S F settles.0 pending alike only settles.1
    (λ S' alike' only'. state_settles numbers file granted S' settles.0 G alike' only' settles.2)

pub engines_alike : EnginesGrantAlike
engines_alike =
    record {
      alike = λ numbers file S T F G grants granted alike manager server. grants_alike numbers file S grants T manager F G granted alike server;
      server_settles = λ numbers file S T F grants alike manager. files_settle numbers file S grants T manager F alike;
      manager_settles = λ numbers file S F G granted alike only server. state_settles numbers file granted S F G alike only server;
    }
