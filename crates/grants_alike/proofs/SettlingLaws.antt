-- From a state and a file that are alike, both engines make the same grants on the file, and leave what is alike: for
-- `engines_grant_alike`.
use Rattle.grants_alike.proofs.Common.{◌≡◌, ℕ, Bool, true, false, List, [], ◌∷◌, ◌++◌, All, refl, sym, ap, ◌∙◌, subst, All-nil, All-cons, Wait, IsBlockedByLock, State, locks_held, Pending, FileState, IsHeldBack, Numbers, AreSameWaits, waits_on_file, AreAlike}
use Rattle.std.proofs.Common.{Contains}
use Rattle.std.proofs.lemmas.List.Elements.{All-weaker, All-filter, filter_passes}
use Rattle.wait_core.specs.declared.Policy.TheVariants.{Held}
use Rattle.wait_core.specs.Blocking.{IsNextBetween}
use Rattle.lock_manager.specs.declared.request.Note.{Note}
use Rattle.lock_manager.specs.declared.request.Note.TheVariants.{Answer}
use Rattle.lock_manager.specs.declared.request.Reply.TheVariants as replies
use Rattle.lock_manager.specs.Settling.{Settles as ManagerSettles, granted as granted_by}
use Rattle.lock_server.specs.Settling.{Settles as ServerSettles}
use Rattle.grants_alike.specs.Alike.{AreAtOnePlace, AreSameGrants}
use Rattle.grants_alike.proofs.WaitLemmas.{is_on_file, on_file_between, on_file_without, on_file_elsewhere, on_file_first, each_blocked, the_one_between, among_all, itself_among, one_place, places_still}
use Rattle.grants_alike.proofs.NextLemmas.{AreOn, all_alike, same_next}
use Rattle.grants_alike.proofs.GrantLemmas.{alike_after, alike_elsewhere, alike_same}

-- ---- which waits are blocked

pub are_on : (file : ℕ) (waits : List Wait) → AreOn file (waits_on_file file waits)
are_on file waits = filter_passes (is_on_file file) waits

-- where all of the manager's are blocked, so are all of the file's
pub blocked_there : (numbers : Numbers) (file : ℕ) (S : State) (F : FileState) → AreAlike numbers file S F → All (IsBlockedByLock (locks_held S)) S.waits
    → All (IsHeldBack F) F.waits
blocked_there numbers file S F alike blocked =
    (all_alike numbers file (locks_held S) F alike.owners alike.descriptions alike.locks (waits_on_file file S.waits) F.waits (are_on file S.waits)
    alike.waits).0 (All-filter (is_on_file file) (IsBlockedByLock (locks_held S)) S.waits blocked)

-- where all of the file's are blocked, so are all of the manager's on it
pub blocked_here : (numbers : Numbers) (file : ℕ) (S : State) (F : FileState) → AreAlike numbers file S F → All (IsHeldBack F) F.waits
    → All (IsBlockedByLock (locks_held S)) (waits_on_file file S.waits)
blocked_here numbers file S F alike blocked =
    (all_alike numbers file (locks_held S) F alike.owners alike.descriptions alike.locks (waits_on_file file S.waits) F.waits (are_on file S.waits)
    alike.waits).1 blocked

module _ (numbers : Numbers) (file : ℕ) (S : State) (F : FileState) (before : List Wait) (wait : Wait) (after : List Wait)
    (alike : AreAlike numbers file S F) (next : IsNextBetween Held (locks_held S) S.waits before wait after) where
  -- the waits on the file round the next one
  around : is_on_file file wait ≡ true → waits_on_file file S.waits ≡ waits_on_file file before ++ wait ∷ waits_on_file file after
  around on = ap (waits_on_file file) next.place ∙ on_file_between file before wait after on

  pub waits_around : is_on_file file wait ≡ true → AreSameWaits numbers (waits_on_file file before ++ wait ∷ waits_on_file file after) F.waits
  waits_around on = subst (λ (waits : List Wait). AreSameWaits numbers waits F.waits) (around on) alike.waits

  on_around : is_on_file file wait ≡ true → AreOn file (waits_on_file file before ++ wait ∷ waits_on_file file after)
  on_around on = subst (AreOn file) (around on) (are_on file S.waits)

  pub blocked_before : All (IsBlockedByLock (locks_held S)) (waits_on_file file before)
  blocked_before =
      All-filter (is_on_file file) (IsBlockedByLock (locks_held S)) before (each_blocked (IsBlockedByLock (locks_held S)) [] before next.earliest)

  -- it is not blocked there either
  ready_there : is_on_file file wait ≡ true → ¬ All (IsHeldBack F) F.waits
  ready_there on blocked =
      next.ready (the_one_between (IsBlockedByLock (locks_held S)) (waits_on_file file before) wait (waits_on_file file after)
      (subst (All (IsBlockedByLock (locks_held S))) (around on) (blocked_here numbers file S F alike blocked)))

-- ---- the same grants

-- whatever file is alike, and however it settles, these grants are the same
abbrev AreGrantedAlike : Numbers → ℕ → State → List Note → State → Type 0
AreGrantedAlike numbers file S grants T =
    (F G : FileState) (granted : List Pending) → AreAlike numbers file S F → ServerSettles Held F granted G
    → AreSameGrants file S.waits F.waits grants granted × AreAlike numbers file T G

none_alike : (numbers : Numbers) (file : ℕ) (S : State) → All (IsBlockedByLock (locks_held S)) S.waits → AreGrantedAlike numbers file S [] S
none_alike numbers file S blocked F G [] alike settles = (
  record { given = []; told = refl; among = All-nil (Contains S.waits); same = tt },
  alike_same numbers file S F G settles.1 alike,
)
none_alike numbers file S blocked F G (pending ∷ granted) alike settles =
    let next = settles.1.is_next in
    absurd (next.ready (the_one_between (IsHeldBack F) settles.1.before pending settles.1.after
    (subst (All (IsHeldBack F)) next.place (blocked_there numbers file S F alike blocked))))

module _ (numbers : Numbers) (file : ℕ) (S : State) (before : List Wait) (wait : Wait) (after : List Wait) (grant : Note) (grants : List Note)
    (next : IsNextBetween Held (locks_held S) S.waits before wait after) (told : grant ≡ Answer wait.p wait.n replies.Ok) where
  among_waits : (given : List Wait) → All (Contains (before ++ after)) given → All (Contains S.waits) (wait ∷ given)
  among_waits given among =
      subst (λ (waits : List Wait). All (Contains waits) (wait ∷ given)) (sym next.place)
      (All-cons (Contains (before ++ wait ∷ after)) wait given (itself_among before wait after)
      (All-weaker (Contains (before ++ after)) (Contains (before ++ wait ∷ after)) (λ other h. among_all before wait after other h) given among))

  -- a grant on another file before them
  elsewhere_first : (pendings granted : List Pending) → is_on_file file wait ≡ false → AreSameGrants file (before ++ after) pendings grants granted
      → AreSameGrants file S.waits pendings (grant ∷ grants) granted
  elsewhere_first pendings granted off rest =
      record {
        given = wait ∷ rest.given;
        told = λ i. told i ∷ rest.told i;
        among = among_waits rest.given rest.among;
        same = subst (λ (given : List Wait). AreAtOnePlace (waits_on_file file S.waits) pendings given granted)
            (sym (on_file_first file wait rest.given false off))
            (subst (λ (waits : List Wait). AreAtOnePlace waits pendings (waits_on_file file rest.given) granted)
            (sym (ap (waits_on_file file) next.place ∙ on_file_elsewhere file before wait after off)) rest.same);
      }

  -- a grant in both before them
  both_first : (pendings before' : List Pending) (pending : Pending) (after' granted : List Pending) → is_on_file file wait ≡ true
      → pendings ≡ before' ++ pending ∷ after' → AreSameWaits numbers (waits_on_file file before) before'
      → AreSameGrants file (before ++ after) (before' ++ after') grants granted → AreSameGrants file S.waits pendings (grant ∷ grants) (pending ∷ granted)
  both_first pendings before' pending after' granted on place same rest =
      record {
        given = wait ∷ rest.given;
        told = λ i. told i ∷ rest.told i;
        among = among_waits rest.given rest.among;
        same = subst (λ (given : List Wait). AreAtOnePlace (waits_on_file file S.waits) pendings given (pending ∷ granted))
            (sym (on_file_first file wait rest.given true on))
            (subst (λ (waits : List Wait). AreAtOnePlace waits pendings (wait ∷ waits_on_file file rest.given) (pending ∷ granted))
            (sym (ap (waits_on_file file) next.place ∙ on_file_between file before wait after on))
            (subst (λ (list : List Pending). AreAtOnePlace here list (wait ∷ waits_on_file file rest.given) (pending ∷ granted)) (sym place) (
              one_place numbers (waits_on_file file before) wait (waits_on_file file after) before' pending after' same,
              places_still numbers (waits_on_file file before) wait (waits_on_file file after) before' pending after' (waits_on_file file rest.given) granted
                  same
                  (subst (λ (waits : List Wait). AreAtOnePlace waits (before' ++ after') (waits_on_file file rest.given) granted)
                  (on_file_without file before after) rest.same),
            )));
      }
    where
      here : List Wait
      here = waits_on_file file before ++ wait ∷ waits_on_file file after

  -- one grant more
  grant_alike : (T : State) → AreGrantedAlike numbers file (granted_by S before wait after) grants T → AreGrantedAlike numbers file S (grant ∷ grants) T
  grant_alike T rest F G granted alike settles = at (is_on_file file wait) refl granted settles
    where
      at : (b : Bool) → is_on_file file wait ≡ b → (granted : List Pending) → ServerSettles Held F granted G
          → AreSameGrants file S.waits F.waits (grant ∷ grants) granted × AreAlike numbers file T G
      at false off granted settles =
          let more = rest F G granted (alike_elsewhere numbers file S F before wait after alike next.place off) settles in
          (elsewhere_first F.waits granted off more.0, more.1)
      at true on [] settles =
          absurd (ready_there numbers file S F before wait after alike next on (each_blocked (IsHeldBack F) [] F.waits settles.0))
      at true on (pending ∷ granted) settles =
          let there = settles.1 in
          let split = same_next numbers file (locks_held S) F alike.owners alike.descriptions alike.locks (waits_on_file file before) wait
          (waits_on_file file after) there.before pending there.after (on_around numbers file S F before wait after alike next on)
          (subst (λ (list : List Pending). AreSameWaits numbers (waits_on_file file before ++ wait ∷ waits_on_file file after) list) there.is_next.place
          (waits_around numbers file S F before wait after alike next on))
          (blocked_before numbers file S F before wait after alike next) next.ready (each_blocked (IsHeldBack F) [] there.before there.is_next.earliest)
          there.is_next.ready in
          let more = rest settles.0 G granted
          (alike_after numbers file S F settles.0 before wait after there.before pending there.after alike on split there.gets there.waits) settles.2 in (
            both_first F.waits there.before pending there.after granted on there.is_next.place split.before_same
                (subst (λ (list : List Pending). AreSameGrants file (before ++ after) list grants granted) there.waits more.0),
            more.1,
          )

pub grants_alike : (numbers : Numbers) (file : ℕ) (S : State) (grants : List Note) (T : State) → ManagerSettles Held S grants T
    → AreGrantedAlike numbers file S grants T
grants_alike numbers file S [] T settles =
    subst (AreGrantedAlike numbers file S []) (sym settles.1)
    (none_alike numbers file S (each_blocked (IsBlockedByLock (locks_held S)) [] S.waits settles.0))
grants_alike numbers file S (grant ∷ grants) T settles =
    grant_alike numbers file S settles.0 settles.1 settles.2 grant grants settles.3 settles.4 T
    (grants_alike numbers file (granted_by S settles.0 settles.1 settles.2) grants T settles.5)
