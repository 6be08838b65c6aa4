-- What the parts of a call come to is determined: for `replicas_agree`. Two outcomes of one state are one, as an equation.
use Rattle.lock_server.proofs.Common.{arith, ℕ, ◌≡◌, ◌≢◌, ◌∙◌, inl, inr, sym, ap, subst, refl, true, false, Bool, Option, Some, None, List, [], ◌∷◌, ◌++◌, Any, append_assoc, append-nil, length, common_steps, cases_eq, IsTrue}
use Rattle.lock_server.proofs.Common.{Mode, Span, Family, Bytes, Whole, Policy, Answer, Conversion, Stepwise, Atomic, Pending, Rules, WaitAnswer, FetchComesTo, FlockFrom, FlockWaitComesTo, FlockWaitFrom, Releases, ReleasesOn, Suspends, WaitAtOnceComesTo, WaitComesTo, WaitConversionComesTo, byte_request, flock_request, given_by, no_ticket, FileState, GetsLock, SameFile, SameLocks, SetsLock, Unlocks, owners_of, tickets_of, AllBlocked, Grants, HasAlready, IsSettled, IsWaitBlocked, Settles, Crosses, HasDetected, IsDetectedOf, SameState, SettlesFile, State}
use Rattle.range_core.specs.Facts.{MatchFact}
use Rattle.lock_server.specs.Calls.{Changes, ConversionComesTo, FlockOpComesTo, SetComesTo, TestAtOnceComesTo, TestComesTo}
use Rattle.lock_server.specs.Settling.{IsNext}
use Rattle.lock_server.proofs.StateLemmas.{SameFile-itself, file_from_same, state_from_same}

-- the same choice is made twice, and both ways lead to R
pub match_one : {P A B A' B' R : Type 0} → (A → A' → R) → (B → B' → R) → MatchFact P A B → MatchFact P A' B' → R
match_one both neither (inl h) (inl k) = both h.1 k.1
match_one both neither (inl h) (inr k) = absurd (k.0 h.0)
match_one both neither (inr h) (inl k) = absurd (h.0 k.0)
match_one both neither (inr h) (inr k) = neither h.1 k.1

-- two files that come of one in the same way
same_between : (F G H : FileState) → SameFile F G → SameFile F H → SameFile G H
same_between F G H one other = subst (λ (E : FileState). SameFile G E) (sym (file_from_same F H other)) (subst (λ (E : FileState). SameFile E F) (sym (file_from_same F G one)) (SameFile-itself F))

sets_one : (family : Family) (F : FileState) (owner : ℕ) (span : Span) (mode : Option Mode) (G H : FileState) → SetsLock family F owner span mode G
    → SetsLock family F owner span mode H → SameLocks G H
sets_one Bytes F owner span mode G H one other =
    record { bytes = λ any byte. other.bytes any byte ∙ sym (one.bytes any byte); flocks = λ any. other.flocks any ∙ sym (one.flocks any) }
sets_one Whole F owner span mode G H one other =
    record { bytes = λ any byte. other.bytes any byte ∙ sym (one.bytes any byte); flocks = λ any. other.flocks any ∙ sym (one.flocks any) }

pub unlocks_one : (family : Family) (F : FileState) (owner : ℕ) (G H : FileState) → Unlocks family F owner G → Unlocks family F owner H → SameLocks G H
unlocks_one Bytes F owner G H one other =
    record { bytes = λ any byte. other.bytes any byte ∙ sym (one.bytes any byte); flocks = λ any. other.flocks any ∙ sym (one.flocks any) }
unlocks_one Whole F owner G H one other =
    record { bytes = λ any byte. other.bytes any byte ∙ sym (one.bytes any byte); flocks = λ any. other.flocks any ∙ sym (one.flocks any) }

-- two tests that pass together are one
pub bool_one : (a b : Bool) → (IsTrue a → IsTrue b) → (IsTrue b → IsTrue a) → b ≡ a
bool_one true true there back = refl
bool_one true false there back = there refl
bool_one false true there back = sym (back refl)
bool_one false false there back = refl

detected_one : (T U : State) (owner : ℕ) → ((file : ℕ) → SameFile (T.files file) (U.files file)) → HasDetected T owner → HasDetected U owner
detected_one T U owner same has =
    record { file = has.file; among = subst (λ (waits : List Pending). Any (IsDetectedOf owner) waits) (sym (same has.file).waits) has.among }

same_back : (F G : FileState) → SameFile F G → SameFile G F
same_back F G same = grind (arith, common_steps)

pub crossed_one : (S T U : State) (given : List ℕ) → Crosses S given T → Crosses S given U → ((file : ℕ) → SameFile (T.files file) (U.files file)) → (owner : ℕ)
    → U.crossed owner ≡ T.crossed owner
crossed_one S T U given one other same owner = bool_one (T.crossed owner) (U.crossed owner)
    (λ is. let h = (one owner).0 is in (other owner).1 (detected_one T U owner same h.0, h.1))
    (λ is. let h = (other owner).0 is in (one owner).1 (detected_one U T owner (λ file. same_back (T.files file) (U.files file) (same file)) h.0, h.1))

-- two states that come of one by a change of one file, which is the same in both
pub state_one : (S T U : State) (file : ℕ) (given : List ℕ) → ((other : ℕ) → other ≢ file → SameFile (S.files other) (T.files other))
    → ((other : ℕ) → other ≢ file → SameFile (S.files other) (U.files other)) → SameFile (T.files file) (U.files file) → U.grants ≡ T.grants
    → Crosses S given T → Crosses S given U → U ≡ T
state_one S T U file given t u here grants one other =
    let same : (any : ℕ) → SameFile (T.files any) (U.files any) = λ any. elim (cases_eq any file) [
      | inl is ↦ subst (λ (f : ℕ). SameFile (T.files f) (U.files f)) (sym is) here
      | inr differs ↦ same_between (S.files any) (T.files any) (U.files any) (t any differs) (u any differs)
    ] in
    state_from_same T U (record { files = same; grants = grants; crossed = crossed_one S T U given one other same })

-- equal lists, each of an element between others, where as many stand before both
pub split_one : {X : Type 0} (before : List X) (x : X) (after before' : List X) (x' : X) (after' : List X) → before ++ x ∷ after ≡ before' ++ x' ∷ after'
    → length before ≡ length before' → (before' ≡ before) × (x' ≡ x) × (after' ≡ after)
split_one [] x after [] x' after' e as_many = (refl, cc, cc)
split_one [] x after (y' ∷ before') x' after' e as_many = absurd (omega (arith, as_many))
split_one (y ∷ before) x after [] x' after' e as_many = absurd (omega (arith, as_many))
split_one {X} (y ∷ before) x after (y' ∷ before') x' after' e as_many =
    let here : y' ≡ y = cc in
    let there : before ++ x ∷ after ≡ before' ++ x' ∷ after' = cc in
    let rest = split_one before x after before' x' after' there (omega (arith, as_many)) in
    let first : y' ∷ before' ≡ y ∷ before = ap (λ (z : X). z ∷ before') here ∙ ap (λ (l : List X). y ∷ l) rest.0 in
    (first, rest.1, rest.2)

still_blocked : (policy : Policy) (F : FileState) (earlier : List Pending) (wait : Pending) → IsWaitBlocked policy F earlier wait
    → IsWaitBlocked policy F (earlier ++ []) wait
still_blocked policy F earlier wait h = subst (λ (es : List Pending). IsWaitBlocked policy F es wait) (sym (append-nil earlier)) h

-- of two such splits of one list, each with blocked waits before a wait that isn't blocked, both are the same
next_one : (policy : Policy) (F : FileState) (earlier before : List Pending) (wait : Pending) (after before' : List Pending) (wait' : Pending)
    (after' : List Pending)
    → AllBlocked policy F earlier before → ¬ IsWaitBlocked policy F (earlier ++ before) wait
    → AllBlocked policy F earlier before' → ¬ IsWaitBlocked policy F (earlier ++ before') wait'
    → before ++ wait ∷ after ≡ before' ++ wait' ∷ after' → (before' ≡ before) × (wait' ≡ wait) × (after' ≡ after)
next_one policy F earlier [] wait after [] wait' after' blocked ready blocked' ready' e = (refl, cc, cc)
next_one policy F earlier [] wait after (v ∷ before') wait' after' blocked ready blocked' ready' e =
    let same : v ≡ wait = cc in
    absurd (ready (still_blocked policy F earlier wait (subst (λ (w : Pending). IsWaitBlocked policy F earlier w) same blocked'.0)))
next_one policy F earlier (v ∷ before) wait after [] wait' after' blocked ready blocked' ready' e =
    let same : v ≡ wait' = cc in
    absurd (ready' (still_blocked policy F earlier wait' (subst (λ (w : Pending). IsWaitBlocked policy F earlier w) same blocked.0)))
next_one policy F earlier (v ∷ before) wait after (v' ∷ before') wait' after' blocked ready blocked' ready' e =
    let same : v' ≡ v = cc in
    let there : before ++ wait ∷ after ≡ before' ++ wait' ∷ after' = cc in
    let blocked_rest : AllBlocked policy F (earlier ++ v ∷ []) before' =
    subst (λ (w : Pending). AllBlocked policy F (earlier ++ w ∷ []) before') same blocked'.1 in
    let ready_rest : ¬ IsWaitBlocked policy F (earlier ++ v ∷ before') wait' =
    subst (λ (w : Pending). ¬ IsWaitBlocked policy F (earlier ++ w ∷ before') wait') same ready' in
    let rest : (before' ≡ before) × (wait' ≡ wait) × (after' ≡ after) =
    next_one policy F (earlier ++ v ∷ []) before wait after before' wait' after' blocked.1
    (λ h. ready (subst (λ (es : List Pending). IsWaitBlocked policy F es wait) (append_assoc earlier (v ∷ []) before) h))
    blocked_rest
    (λ h. ready_rest (subst (λ (es : List Pending). IsWaitBlocked policy F es wait') (append_assoc earlier (v ∷ []) before') h))
    there in
    let first : v' ∷ before' ≡ v ∷ before = ap (λ (w : Pending). w ∷ before') same ∙ ap (λ (l : List Pending). v ∷ l) rest.0 in
    (first, rest.1, rest.2)

-- of waits that are all blocked, the one between these others is blocked
pub blocked_at : (policy : Policy) (F : FileState) (earlier before : List Pending) (wait : Pending) (after : List Pending)
    → AllBlocked policy F earlier (before ++ wait ∷ after) → IsWaitBlocked policy F (earlier ++ before) wait
blocked_at policy F earlier [] wait after h = still_blocked policy F earlier wait h.0
blocked_at policy F earlier (v ∷ before) wait after h =
    subst (λ (es : List Pending). IsWaitBlocked policy F es wait) (append_assoc earlier (v ∷ []) before)
    (blocked_at policy F (earlier ++ v ∷ []) before wait after h.1)

-- on a settled file none is next
pub none_next : (policy : Policy) (F : FileState) (before : List Pending) (wait : Pending) (after : List Pending) → IsSettled policy F
    → ¬ IsNext policy F before wait after
none_next policy F before wait after settled next =
    next.ready (blocked_at policy F [] before wait after (subst (λ (ws : List Pending). AllBlocked policy F [] ws) next.place settled))

-- a grant leaves one file
granted_one : (policy : Policy) (F : FileState) (wait wait' : Pending) (G H : FileState) → Grants policy F wait G → Grants policy F wait' H
    → (wait' ≡ wait) × (H ≡ G)
granted_one policy F wait wait' G H one other =
    let same = next_one policy F [] one.before wait one.after other.before wait' other.after one.is_next.earliest one.is_next.ready
    other.is_next.earliest other.is_next.ready (sym one.is_next.place ∙ other.is_next.place) in
    let gets : GetsLock F wait H = subst (λ (w : Pending). GetsLock F w H) same.1 other.gets in
    let waits : H.waits ≡ G.waits =
    other.waits ∙ ap (λ (l : List Pending). l ++ other.after) same.0 ∙ ap (λ (l : List Pending). one.before ++ l) same.2 ∙ sym one.waits in
    (same.1, file_from_same G H (record { locks = sets_one wait.family F wait.owner wait.span (Some wait.mode) G H one.gets gets; waits = waits }))

-- settling a file makes one list of grants, and leaves one file
settles_one : (policy : Policy) (F : FileState) (grants : List Pending) (G : FileState) (grants' : List Pending) (H : FileState)
    → Settles policy F grants G → Settles policy F grants' H → (grants' ≡ grants) × SameFile G H
settles_one policy F [] G [] H h k = (refl, same_between F G H h.1 k.1)
settles_one policy F [] G (wait' ∷ grants') H h (next', grants_wait', rest') =
    absurd (none_next policy F grants_wait'.before wait' grants_wait'.after h.0 grants_wait'.is_next)
settles_one policy F (wait ∷ grants) G [] H (next, grants_wait, rest) k =
    absurd (none_next policy F grants_wait.before wait grants_wait.after k.0 grants_wait.is_next)
settles_one policy F (wait ∷ grants) G (wait' ∷ grants') H (next, grants_wait, rest) (next', grants_wait', rest') =
    let same = granted_one policy F wait wait' next next' grants_wait grants_wait' in
    let more = settles_one policy next grants G grants' H rest (subst (λ (E : FileState). Settles policy E grants' H) same.1 rest') in
    let first : wait' ∷ grants' ≡ wait ∷ grants = ap (λ (w : Pending). w ∷ grants') same.0 ∙ ap (λ (l : List Pending). wait ∷ l) more.0 in
    (first, more.1)

pub file_settled_one : (policy : Policy) (S : State) (file : ℕ) (T U : State) → SettlesFile policy S file T → SettlesFile policy S file U → U ≡ T
file_settled_one policy S file T U one other =
    let same = settles_one policy (S.files file) one.granted (T.files file) other.granted (U.files file) one.settles other.settles in
    state_one S T U file (owners_of one.granted) one.others other.others same.1
    (other.grants ∙ ap (λ (l : List Pending). S.grants ++ tickets_of l) same.0 ∙ sym one.grants) one.crossed
    (subst (λ (l : List Pending). Crosses S (owners_of l) U) same.0 other.crossed)

-- two settlings behind two changes that are one
pub then_settled_one : (policy : Policy) (B B' : State) (file : ℕ) (T U : State) → B' ≡ B → SettlesFile policy B file T → SettlesFile policy B' file U → U ≡ T
then_settled_one policy B B' file T U same one other =
    file_settled_one policy B file T U one (subst (λ (M : State). SettlesFile policy M file U) same other)

-- a set, an unlock and a release
changes_one : (policy : Policy) (S : State) (file : ℕ) (family : Family) (owner : ℕ) (span : Span) (mode : Option Mode) (T U : State)
    → Changes policy S file family owner span mode T → Changes policy S file family owner span mode U → U ≡ T
changes_one policy S file family owner span mode T U one other =
    let set = one.sets in let set' = other.sets in let B = one.between in let B' = other.between in
    then_settled_one policy B B' file T U
    (state_one S B B' file (given_by owner mode) set.changes.others set'.changes.others
    (record { locks = sets_one family (S.files file) owner span mode (B.files file) (B'.files file) set.sets set'.sets; waits = set'.waits ∙ sym set.waits })
    (set'.changes.grants ∙ sym set.changes.grants) set.changes.crossed set'.changes.crossed) one.settles other.settles

released_one : (S : State) (file : ℕ) (family : Family) (owner : ℕ) (B B' : State) → ReleasesOn S file family owner B → ReleasesOn S file family owner B'
    → B' ≡ B
released_one S file family owner B B' gone gone' = state_one S B B' file [] gone.changes.others gone'.changes.others
    (record { locks = unlocks_one family (S.files file) owner (B.files file) (B'.files file) gone.unlocks gone'.unlocks; waits = gone'.waits ∙ sym gone.waits })
    (gone'.changes.grants ∙ sym gone.changes.grants) gone.changes.crossed gone'.changes.crossed

pub releases_one : (policy : Policy) (S : State) (file : ℕ) (family : Family) (owner : ℕ) (T U : State)
    → Releases policy S file family owner T → Releases policy S file family owner U → U ≡ T
releases_one policy S file family owner T U one other =
    then_settled_one policy one.between other.between file T U (released_one S file family owner one.between other.between one.releases other.releases) one.settles other.settles

-- two states that are one state
pub unchanged_one : (S T U : State) → SameState S T → SameState S U → U ≡ T
unchanged_one S T U one other = state_from_same S U other ∙ sym (state_from_same S T one)

-- a request that doesn't wait
test_one : (policy : Policy) (S : State) (file : ℕ) (wanted : Pending) (answer : Answer) (T : State) (answer' : Answer) (U : State)
    → TestComesTo policy S file wanted answer T → TestComesTo policy S file wanted answer' U → (answer' ≡ answer) × (U ≡ T)
test_one policy S file wanted answer T answer' U = match_one
    (λ h k. (k.0 ∙ sym h.0, unchanged_one S T U h.1 k.1))
    (λ h k. (k.0 ∙ sym h.0, changes_one policy S file wanted.family wanted.owner wanted.span (Some wanted.mode) T U h.1 k.1))

pub set_one : (policy : Policy) (S : State) (file owner : ℕ) (span : Span) (mode : Option Mode) (answer : Answer) (T : State) (answer' : Answer) (U : State)
    → SetComesTo policy S file owner span mode answer T → SetComesTo policy S file owner span mode answer' U → (answer' ≡ answer) × (U ≡ T)
set_one policy S file owner span None answer T answer' U h k = (k.0 ∙ sym h.0, changes_one policy S file Bytes owner span None T U h.1 k.1)
set_one policy S file owner span (Some mode) answer T answer' U h k = test_one policy S file (byte_request no_ticket owner span mode false) answer T answer' U h k

suspends_one : (S : State) (file : ℕ) (wait : Pending) (T U : State) → Suspends S file wait T → Suspends S file wait U → U ≡ T
suspends_one S file wait T U one other = state_one S T U file [] one.changes.others other.changes.others
    (record {
      locks = record {
        bytes = λ any byte. other.joins.locks.bytes any byte ∙ sym (one.joins.locks.bytes any byte);
        flocks = λ any. other.joins.locks.flocks any ∙ sym (one.joins.locks.flocks any);
      };
      waits = other.joins.waits ∙ sym one.joins.waits;
    })
    (other.changes.grants ∙ sym one.changes.grants) one.changes.crossed other.changes.crossed

-- a request that may wait
pub wait_one : (policy : Policy) (S : State) (file : ℕ) (wanted : Pending) (answer : WaitAnswer) (T : State) (answer' : WaitAnswer) (U : State)
    → WaitComesTo policy S file wanted answer T → WaitComesTo policy S file wanted answer' U → (answer' ≡ answer) × (U ≡ T)
wait_one policy S file wanted answer T answer' U = match_one
    (match_one
    (λ h k. (k.0 ∙ sym h.0, unchanged_one S T U h.1 k.1))
    (λ h k. (k.0 ∙ sym h.0, suspends_one S file wanted T U h.1 k.1)))
    (λ h k. (k.0 ∙ sym h.0, changes_one policy S file wanted.family wanted.owner wanted.span (Some wanted.mode) T U h.1 k.1))

-- a request that is tested before any wait is granted
test_at_once_one : (policy : Policy) (S : State) (file : ℕ) (wanted : Pending) (answer : Answer) (T : State) (answer' : Answer) (U : State)
    → TestAtOnceComesTo policy S file wanted answer T → TestAtOnceComesTo policy S file wanted answer' U → (answer' ≡ answer) × (U ≡ T)
test_at_once_one policy S file wanted answer T answer' U = match_one
    (λ h k. (k.0 ∙ sym h.0, file_settled_one policy S file T U h.1 k.1))
    (λ h k. (k.0 ∙ sym h.0, changes_one policy S file wanted.family wanted.owner wanted.span (Some wanted.mode) T U h.1 k.1))

wait_at_once_one : (policy : Policy) (Had : Type 0) (S : State) (file : ℕ) (wanted : Pending) (answer : WaitAnswer) (T : State) (answer' : WaitAnswer)
    (U : State)
    → WaitAtOnceComesTo policy Had S file wanted answer T → WaitAtOnceComesTo policy Had S file wanted answer' U → (answer' ≡ answer) × (U ≡ T)
wait_at_once_one policy Had S file wanted answer T answer' U = match_one
    (λ h k. (k.0 ∙ sym h.0, then_settled_one policy h.1 k.1 file T U (suspends_one S file wanted h.1 k.1 h.2 k.2) h.3 k.3))
    (λ h k. (k.0 ∙ sym h.0, changes_one policy S file wanted.family wanted.owner wanted.span (Some wanted.mode) T U h.1 k.1))

-- a conversion by flock
conversion_one : (conversion : Conversion) (policy : Policy) (S : State) (file : ℕ) (wanted : Pending) (answer : Answer) (T : State) (answer' : Answer)
    (U : State)
    → ConversionComesTo conversion policy S file wanted answer T → ConversionComesTo conversion policy S file wanted answer' U → (answer' ≡ answer) × (U ≡ T)
conversion_one Stepwise policy S file wanted answer T answer' U h k =
    test_one policy h.0 file wanted answer T answer' U h.2
    (subst (λ (B : State). TestComesTo policy B file wanted answer' U) (releases_one policy S file Whole wanted.owner h.0 k.0 h.1 k.1) k.2)
conversion_one Atomic policy S file wanted answer T answer' U h k =
    test_at_once_one policy h.0 file wanted answer T answer' U h.2
    (subst (λ (B : State). TestAtOnceComesTo policy B file wanted answer' U) (released_one S file Whole wanted.owner h.0 k.0 h.1 k.1) k.2)

wait_conversion_one : (conversion : Conversion) (policy : Policy) (S : State) (file : ℕ) (wanted : Pending) (answer : WaitAnswer) (T : State)
    (answer' : WaitAnswer) (U : State)
    → WaitConversionComesTo conversion policy S file wanted answer T → WaitConversionComesTo conversion policy S file wanted answer' U
    → (answer' ≡ answer) × (U ≡ T)
wait_conversion_one Stepwise policy S file wanted answer T answer' U h k =
    wait_one policy h.0 file wanted answer T answer' U h.2
    (subst (λ (B : State). WaitComesTo policy B file wanted answer' U) (releases_one policy S file Whole wanted.owner h.0 k.0 h.1 k.1) k.2)
wait_conversion_one Atomic policy S file wanted answer T answer' U h k =
    wait_at_once_one policy (HasAlready (S.files file) wanted) h.0 file wanted answer T answer' U h.2
    (subst (λ (B : State). WaitAtOnceComesTo policy (HasAlready (S.files file) wanted) B file wanted answer' U) (released_one S file Whole wanted.owner h.0 k.0 h.1 k.1) k.2)

flock_from_one : (rules : Rules) (S : State) (file : ℕ) (wanted : Pending) (held : Option Mode) (answer : Answer) (T : State) (answer' : Answer) (U : State)
    → FlockFrom rules S file wanted held answer T → FlockFrom rules S file wanted held answer' U → (answer' ≡ answer) × (U ≡ T)
flock_from_one rules S file wanted None answer T answer' U h k = test_one rules.policy S file wanted answer T answer' U h k
flock_from_one rules S file wanted (Some held) answer T answer' U h k =
    conversion_one rules.conversion rules.policy S file wanted answer T answer' U h k

pub flock_one : (rules : Rules) (S : State) (file owner : ℕ) (mode : Option Mode) (answer : Answer) (T : State) (answer' : Answer) (U : State)
    → FlockOpComesTo rules S file owner mode answer T → FlockOpComesTo rules S file owner mode answer' U → (answer' ≡ answer) × (U ≡ T)
flock_one rules S file owner None answer T answer' U h k = (k.0 ∙ sym h.0, releases_one rules.policy S file Whole owner T U h.1 k.1)
flock_one rules S file owner (Some mode) answer T answer' U h k = match_one
    (λ h k. (k.0 ∙ sym h.0, unchanged_one S T U h.1 k.1))
    (flock_from_one rules S file (flock_request no_ticket owner mode) ((S.files file).flocks owner) answer T answer' U) h k

flock_wait_from_one : (rules : Rules) (S : State) (file : ℕ) (wanted : Pending) (held : Option Mode) (answer : WaitAnswer) (T : State)
    (answer' : WaitAnswer) (U : State)
    → FlockWaitFrom rules S file wanted held answer T → FlockWaitFrom rules S file wanted held answer' U → (answer' ≡ answer) × (U ≡ T)
flock_wait_from_one rules S file wanted None answer T answer' U h k = wait_one rules.policy S file wanted answer T answer' U h k
flock_wait_from_one rules S file wanted (Some held) answer T answer' U h k =
    wait_conversion_one rules.conversion rules.policy S file wanted answer T answer' U h k

pub flock_wait_one : (rules : Rules) (S : State) (file : ℕ) (wanted : Pending) (held : Option Mode) (answer : WaitAnswer) (T : State)
    (answer' : WaitAnswer) (U : State)
    → FlockWaitComesTo rules S file wanted held answer T → FlockWaitComesTo rules S file wanted held answer' U → (answer' ≡ answer) × (U ≡ T)
flock_wait_one rules S file wanted held answer T answer' U = match_one
    (λ h k. (k.0 ∙ sym h.0, unchanged_one S T U h.1 k.1))
    (flock_wait_from_one rules S file wanted held answer T answer' U)

-- the oldest grant
pub fetch_one : (S : State) (told : Option ℕ) (T : State) (told' : Option ℕ) (U : State) → FetchComesTo S told T → FetchComesTo S told' U
    → (told' ≡ told) × (U ≡ T)
fetch_one S None T None U h k = (refl, unchanged_one S T U h.1 k.1)
fetch_one S None T (Some ticket') U h k = let no : [] ≡ ticket' ∷ U.grants = sym h.0 ∙ k.0 in absurd (cc)
fetch_one S (Some ticket) T None U h k = let no : [] ≡ ticket ∷ T.grants = sym k.0 ∙ h.0 in absurd (cc)
fetch_one S (Some ticket) T (Some ticket') U h k =
    let both : ticket' ∷ U.grants ≡ ticket ∷ T.grants = sym k.0 ∙ h.0 in
    let same : ticket' ≡ ticket = cc in
    let rest : U.grants ≡ T.grants = cc in (
      ap Some same,
      state_from_same T U (record {
        files = λ file. same_between (S.files file) (T.files file) (U.files file) (h.1 file) (k.1 file);
        grants = rest;
        crossed = λ owner. k.2 owner ∙ sym (h.2 owner);
      }),
    )
