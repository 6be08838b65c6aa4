-- Who has something on which file, after each change: for the server's fact `kept`.
use Rattle.lock_server.proofs.Common.{arith, ℕ, zero, suc, ◌≡◌, ◌≢◌, ◌∙◌, inl, inr, sym, ap, subst, refl, true, false, cond, not, Bool, Option, Some, None, List, [], ◌∷◌, ◌++◌, ◌&&◌, IsTrue, filter, if◌then◌else◌, cases_Bool, cases_eq, eqb-true, All-cons, All-head, All-nil, All-push, All-tail, All-weaker}
use Rattle.lock_server.proofs.Common.{Mode, Span, Family, Bytes, Whole, Policy, Answer, Conversion, Stepwise, Atomic, Pending, Rules, WaitAnswer, Holdings, FetchComesTo, FlockFrom, FlockWaitFrom, IsStrangerOn, Releases, SetsOn, Suspends, WaitAtOnceComesTo, WaitComesTo, WaitConversionComesTo, is_other_wait, ForgetsFile, ForgetsOwners, SettlesBelow, StripsFile, is_within, FileState, SameFile, untouched, AreOfOthers, HasNothing, Keeps, LeavesFile, keeps, SeesOn, is_of_bytes, Grants, Settles, SameState, SettlesFile, State, opening}
use Rattle.std.specs.Prelude.{◌==◌, Contains}
use Rattle.lock_server.specs.Calls.{ConversionComesTo, Gives, TestAtOnceComesTo, TestComesTo}
use Rattle.lock_server.specs.Clients.{ForgetsSeen, ForgetsSeenOn}
use Rattle.lock_server.specs.Holding.{IsGone}
use Rattle.lock_server.specs.HoldingsView.{AreKept, KeepsIf, SameHoldings, Tidies, TidiesIf}
use Rattle.lock_server.proofs.CompatibleLemmas.{from_set}
use Rattle.lock_server.proofs.SafeClientLemmas.{strips_move}
use Rattle.lock_server.proofs.SafeLemmas.{Moves, moves_released, moves_unset}
use Rattle.lock_server.proofs.ServerLemmas.{ComesToRest}
use Rattle.lock_server.proofs.StateLemmas.{file_from_same, state_from_same}
use Rattle.lock_server.proofs.StepLemmas.{IsWithin, LocksFrom, within_itself, within_left}

has_none : (held : Option Mode) → ((mode : Mode) → held ≡ Some mode → ⊥) → held ≡ None
has_none None never = refl
has_none (Some mode) never = absurd (never mode refl)

-- who has no wait among some has none among fewer
none_within : (owner : ℕ) (xs ys : List Pending) → IsWithin xs ys → AreOfOthers ys owner → AreOfOthers xs owner
none_within owner xs [] is all = subst (λ (waits : List Pending). AreOfOthers waits owner) (sym is) all
none_within owner xs (y ∷ ys) (inl later) all = none_within owner xs ys later (All-tail (λ wait. wait.owner ≢ owner) y ys all)
none_within owner xs (y ∷ ys) (inr (rest, is, later)) all =
    let Others : Pending → Type 0 = λ wait. wait.owner ≢ owner in
    subst (λ (waits : List Pending). AreOfOthers waits owner) (sym is)
    (All-cons Others y rest (All-head Others y ys all) (none_within owner rest ys later (All-tail Others y ys all)))

-- who has nothing and is given nothing has nothing afterwards
nothing_from : (Given : ℕ → Type 0) (F G : FileState) → LocksFrom Given F G → IsWithin G.waits F.waits → (owner : ℕ) → (¬ Given owner)
    → HasNothing F owner → HasNothing G owner
nothing_from Given F G locks waits owner none nothing = record {
  lock = record {
    bytes = λ byte. has_none (G.bytes owner byte) (λ mode is. elim (locks.bytes owner byte mode is) [
      | inl was ↦ (let no : None ≡ Some mode = sym (nothing.lock.bytes byte) ∙ was in cc)
      | inr given ↦ none given
    ]);
    flocks = has_none (G.flocks owner) (λ mode is. elim (locks.flocks owner mode is) [
      | inl was ↦ (let no : None ≡ Some mode = sym nothing.lock.flocks ∙ was in cc)
      | inr given ↦ none given
    ]);
  };
  waits = none_within owner G.waits F.waits waits nothing.waits;
}

-- who has no wait isn't the owner of one
all_at : (owner : ℕ) (before : List Pending) (wait : Pending) (after : List Pending) → AreOfOthers (before ++ wait ∷ after) owner → wait.owner ≢ owner
all_at owner [] wait after all = All-head (λ any. any.owner ≢ owner) wait after all
all_at owner (first ∷ before) wait after all = all_at owner before wait after (All-tail (λ any. any.owner ≢ owner) first (before ++ wait ∷ after) all)

nothing_granted : (policy : Policy) (F : FileState) (wait : Pending) (G : FileState) → Grants policy F wait G → (owner : ℕ) → HasNothing F owner
    → HasNothing G owner
nothing_granted policy F wait G grants owner nothing =
    let place = grants.is_next.place in
    let other = all_at owner grants.before wait grants.after (subst (λ (waits : List Pending). AreOfOthers waits owner) place nothing.waits) in
    let fewer : IsWithin G.waits F.waits = subst (λ (waits : List Pending). IsWithin waits F.waits) (sym grants.waits)
    (subst (λ (waits : List Pending). IsWithin (grants.before ++ grants.after) waits) (sym place) (within_left grants.before grants.after wait)) in
    nothing_from (λ any. any ≡ wait.owner) F G (from_set wait.family F wait.owner wait.span (Some wait.mode) G grants.gets) fewer owner (λ is. other (sym is)) nothing

nothing_settled : (policy : Policy) (F : FileState) (granted : List Pending) (G : FileState) → Settles policy F granted G → (owner : ℕ) → HasNothing F owner
    → HasNothing G owner
nothing_settled policy F [] G settles owner nothing = subst (λ (H : FileState). HasNothing H owner) (sym (file_from_same F G settles.1)) nothing
nothing_settled policy F (wait ∷ granted) G (next, grants, settles) owner nothing =
    nothing_settled policy next granted G settles owner (nothing_granted policy F wait next grants owner nothing)

-- what holds of each owner on each file
module _ (holdings : Holdings) (through : ℕ → ℕ → Option ℕ) where
  -- where the other files stay, and on this file whoever had nothing and isn't kept has nothing
  kept_on : (S : State) (file : ℕ) (T : State) → AreKept holdings S through → ((other : ℕ) → other ≢ file → SameFile (S.files other) (T.files other))
      → ((owner : ℕ) → keeps holdings owner file ≡ false → HasNothing (S.files file) owner → HasNothing (T.files file) owner) → AreKept holdings T through
  kept_on S file T kept others here = record {
    gone = λ owner any unkept. (let was = kept.gone owner any unkept in record {
      nothing = elim (cases_eq any file) [
        | inl is ↦ subst (λ (f : ℕ). HasNothing (T.files f) owner) (sym is)
            (here owner (subst (λ (f : ℕ). keeps holdings owner f ≡ false) is unkept) (subst (λ (f : ℕ). HasNothing (S.files f) owner) is was.nothing))
        | inr differs ↦ subst (λ (F : FileState). HasNothing F owner) (sym (file_from_same (S.files any) (T.files any) (others any differs))) was.nothing
      ];
      unseen = was.unseen;
    });
  }

  pub kept_same : (S T : State) → SameState S T → AreKept holdings S through → AreKept holdings T through
  kept_same S T same kept = subst (λ (U : State). AreKept holdings U through) (sym (state_from_same S T same)) kept

  -- a move that gives nobody a lock
  pub kept_moved : (S : State) (file : ℕ) (T : State) → AreKept holdings S through → Moves [] S file T → AreKept holdings T through
  kept_moved S file T kept moves = kept_on S file T kept moves.others
      (λ owner unkept nothing. nothing_from (Contains []) (S.files file) (T.files file) moves.here.locks moves.here.waits owner (λ (k, within, is). omega (arith, within)) nothing)

  pub kept_settled : (policy : Policy) (S : State) (file : ℕ) (T : State) → AreKept holdings S through → SettlesFile policy S file T → AreKept holdings T through
  kept_settled policy S file T kept settles = kept_on S file T kept settles.others
      (λ owner unkept nothing. nothing_settled policy (S.files file) settles.granted (T.files file) settles.settles owner nothing)

  kept_still : (owner file other : ℕ) → keeps holdings owner file ≡ true → keeps holdings other file ≡ false → ¬ (other ≡ owner)
  kept_still owner file other entered unkept is =
      let no : true ≡ false = sym entered ∙ ap (λ (o : ℕ). keeps holdings o file) (sym is) ∙ unkept in cc

  -- a set of an owner that is kept with the file
  pub kept_set : (S : State) (file : ℕ) (family : Family) (owner : ℕ) (span : Span) (mode : Option Mode) (T : State) → AreKept holdings S through
      → keeps holdings owner file ≡ true → SetsOn S file family owner span mode T → AreKept holdings T through
  kept_set S file family owner span mode T kept entered sets = kept_on S file T kept sets.changes.others
      (λ other unkept nothing. nothing_from (λ any. any ≡ owner) (S.files file) (T.files file) (from_set family (S.files file) owner span mode (T.files file) sets.sets)
      (subst (λ (waits : List Pending). IsWithin waits (S.files file).waits) (sym sets.waits) (within_itself (S.files file).waits))
      other (kept_still owner file other entered unkept) nothing)

  -- and a wait of such an owner
  pub kept_joined : (S : State) (file : ℕ) (wait : Pending) (T : State) → AreKept holdings S through → keeps holdings wait.owner file ≡ true
      → Suspends S file wait T → AreKept holdings T through
  kept_joined S file wait T kept entered suspends = kept_on S file T kept suspends.changes.others
      (λ other unkept nothing. record {
        lock = record {
          bytes = λ byte. suspends.joins.locks.bytes other byte ∙ nothing.lock.bytes byte;
          flocks = suspends.joins.locks.flocks other ∙ nothing.lock.flocks;
        };
        waits = subst (λ (waits : List Pending). AreOfOthers waits other) (sym suspends.joins.waits)
            (All-push (λ any. any.owner ≢ other) (S.files file).waits wait nothing.waits (λ is. kept_still wait.owner file other entered unkept (sym is)));
      })

  -- a flock request of an owner that is kept with the file, whatever it comes to
  module _ (file : ℕ) (wanted : Pending) (entered : keeps holdings wanted.owner file ≡ true) where
    pub kept_given : (policy : Policy) (S T : State) → AreKept holdings S through → Gives policy S file wanted T → AreKept holdings T through
    kept_given policy S T kept gives =
        kept_settled policy gives.between file T
        (kept_set S file wanted.family wanted.owner wanted.span (Some wanted.mode) gives.between kept entered gives.sets) gives.settles

    kept_tested : (policy : Policy) (S : State) (answer : Answer) (T : State) → AreKept holdings S through → TestComesTo policy S file wanted answer T
        → AreKept holdings T through
    kept_tested policy S answer T kept (inl (held, (is, same))) = kept_same S T same kept
    kept_tested policy S answer T kept (inr (free, (is, gives))) = kept_given policy S T kept gives

    pub kept_waited : (policy : Policy) (S : State) (answer : WaitAnswer) (T : State) → AreKept holdings S through → WaitComesTo policy S file wanted answer T
        → AreKept holdings T through
    kept_waited policy S answer T kept (inl (blocked, inl (refused, (is, same)))) = kept_same S T same kept
    kept_waited policy S answer T kept (inl (blocked, inr (passed, (is, suspends)))) = kept_joined S file wanted T kept entered suspends
    kept_waited policy S answer T kept (inr (free, (is, gives))) = kept_given policy S T kept gives

    kept_released : (policy : Policy) (S T : State) → AreKept holdings S through → Releases policy S file Whole wanted.owner T → AreKept holdings T through
    kept_released policy S T kept releases =
        kept_settled policy releases.between file T
        (kept_moved S file releases.between kept (moves_released S file Whole wanted.owner releases.between releases.releases)) releases.settles

    kept_tested_at_once : (policy : Policy) (S : State) (answer : Answer) (T : State) → AreKept holdings S through → TestAtOnceComesTo policy S file wanted answer T
        → AreKept holdings T through
    kept_tested_at_once policy S answer T kept (inl (held, (is, settles))) = kept_settled policy S file T kept settles
    kept_tested_at_once policy S answer T kept (inr (free, (is, gives))) = kept_given policy S T kept gives

    kept_waited_at_once : (policy : Policy) (Had : Type 0) (S : State) (answer : WaitAnswer) (T : State) → AreKept holdings S through
        → WaitAtOnceComesTo policy Had S file wanted answer T → AreKept holdings T through
    kept_waited_at_once policy Had S answer T kept (inl (blocked, (is, joined, suspends, settles))) =
        kept_settled policy joined file T (kept_joined S file wanted joined kept entered suspends) settles
    kept_waited_at_once policy Had S answer T kept (inr (free, (is, gives))) = kept_given policy S T kept gives

    kept_converted : (conversion : Conversion) (policy : Policy) (S : State) (answer : Answer) (T : State) → AreKept holdings S through
        → ConversionComesTo conversion policy S file wanted answer T → AreKept holdings T through
    kept_converted Stepwise policy S answer T kept (between, releases, tested) = kept_tested policy between answer T (kept_released policy S between kept releases) tested
    kept_converted Atomic policy S answer T kept (between, releases, tested) =
        kept_tested_at_once policy between answer T (kept_moved S file between kept (moves_released S file Whole wanted.owner between releases)) tested

    kept_wait_converted : (conversion : Conversion) (policy : Policy) (S : State) (answer : WaitAnswer) (T : State) → AreKept holdings S through
        → WaitConversionComesTo conversion policy S file wanted answer T → AreKept holdings T through
    kept_wait_converted Stepwise policy S answer T kept (between, releases, waited) = kept_waited policy between answer T (kept_released policy S between kept releases) waited
    kept_wait_converted Atomic policy S answer T kept (between, releases, waited) =
        kept_waited_at_once policy _ between answer T (kept_moved S file between kept (moves_released S file Whole wanted.owner between releases)) waited

    pub kept_flock : (rules : Rules) (S : State) (held : Option Mode) (answer : Answer) (T : State) → AreKept holdings S through
        → FlockFrom rules S file wanted held answer T → AreKept holdings T through
    kept_flock rules S None answer T kept from = kept_tested rules.policy S answer T kept from
    kept_flock rules S (Some mode) answer T kept from = kept_converted rules.conversion rules.policy S answer T kept from

    pub kept_flock_wait : (rules : Rules) (S : State) (held : Option Mode) (answer : WaitAnswer) (T : State) → AreKept holdings S through
        → FlockWaitFrom rules S file wanted held answer T → AreKept holdings T through
    kept_flock_wait rules S None answer T kept from = kept_waited rules.policy S answer T kept from
    kept_flock_wait rules S (Some mode) answer T kept from = kept_wait_converted rules.conversion rules.policy S answer T kept from

-- whoever was not noted is not noted
pub kept_unseen : (holdings : Holdings) (S : State) (was now : ℕ → ℕ → Option ℕ) → ((file owner : ℕ) → was file owner ≡ None → now file owner ≡ None)
    → AreKept holdings S was → AreKept holdings S now
kept_unseen holdings S was now unseen kept = record {
  gone = λ owner file unkept. (let was = kept.gone owner file unkept in record { nothing = was.nothing; unseen = unseen file owner was.unseen });
}

module _ (old new : Holdings) (S : State) (through : ℕ → ℕ → Option ℕ) where
  pub kept_held : SameHoldings old new → AreKept old S through → AreKept new S through
  kept_held same kept = record { gone = λ owner file unkept. kept.gone owner file (sym (same.same owner file) ∙ unkept) }

  -- at each pair: this one, or another
  at_pair : (owner file other any : ℕ) (P : ℕ → ℕ → Type 0) → P owner file → (other ≢ owner → P other any) → (any ≢ file → P other any) → P other any
  at_pair owner file other any P here others elsewhere = elim (cases_eq other owner) [
    | inl same_owner ↦ elim (cases_eq any file) [
      | inl same_file ↦ subst (λ (o : ℕ). P o any) (sym same_owner) (subst (λ (f : ℕ). P owner f) (sym same_file) here)
      | inr differs ↦ elsewhere differs
    ]
    | inr differs ↦ others differs
  ]

  -- one more is kept
  pub kept_entered : (owner file : ℕ) → Keeps old new owner file true → AreKept old S through → AreKept new S through
  kept_entered owner file keeps_it kept = record {
    gone = λ other any. at_pair owner file other any (λ o f. keeps new o f ≡ false → IsGone S through o f)
        (λ unkept. (let no : true ≡ false = sym keeps_it.here ∙ unkept in absurd (cc)))
        (λ differs unkept. kept.gone other any (sym (keeps_it.apart.others other any differs) ∙ unkept))
        (λ differs unkept. kept.gone other any (sym (keeps_it.apart.elsewhere other any differs) ∙ unkept));
  }

  -- and one that has nothing left is kept no more
  pub kept_tidied : (owner file : ℕ) → Tidies old new S through owner file → AreKept old S through → AreKept new S through
  kept_tidied owner file tidies kept = record {
    gone = λ other any. at_pair owner file other any (λ o f. keeps new o f ≡ false → IsGone S through o f)
        (λ unkept. elim (tidies.here unkept) [ inl was ↦ kept.gone owner file was | inr gone ↦ gone ])
        (λ differs unkept. kept.gone other any (sym (tidies.apart.others other any differs) ∙ unkept))
        (λ differs unkept. kept.gone other any (sym (tidies.apart.elsewhere other any differs) ∙ unkept));
  }

  -- what is tidied is said where an owner is given
  pub kept_tidied_if : (owner : Option ℕ) (file : ℕ) → TidiesIf owner old new S through file → AreKept old S through → AreKept new S through
  kept_tidied_if None file same kept = kept_held same kept
  kept_tidied_if (Some owner) file tidies kept = kept_tidied owner file tidies kept

pub kept_set_if : (old new : Holdings) (through : ℕ → ℕ → Option ℕ) (S : State) (file owner : ℕ) (span : Span) (mode : Option Mode) (T : State)
    → KeepsIf mode old new owner file → SetsOn S file Bytes owner span mode T → AreKept old S through → AreKept new T through
kept_set_if old new through S file owner span None T same sets kept =
    kept_moved new through S file T (kept_held old new S through same kept) (moves_unset S file Bytes owner span T sets)
kept_set_if old new through S file owner span (Some mode) T keeps_it sets kept =
    kept_set new through S file Bytes owner span (Some mode) T (kept_entered old new S through owner file keeps_it kept) keeps_it.here sets

-- a file that came to rest
pub kept_rested : (holdings : Holdings) (through : ℕ → ℕ → Option ℕ) (policy : Policy) (S : State) (file : ℕ) (T : State) → ComesToRest policy S file T
    → AreKept holdings S through → AreKept holdings T through
kept_rested holdings through policy S file T rest kept = kept_settled holdings through policy S file T kept rest.settles

-- where each file stays
pub kept_files : (holdings : Holdings) (through : ℕ → ℕ → Option ℕ) (S T : State) → ((file : ℕ) → SameFile (S.files file) (T.files file))
    → AreKept holdings S through → AreKept holdings T through
kept_files holdings through S T same kept = record {
  gone = λ owner file unkept. (let was = kept.gone owner file unkept in record {
    nothing = subst (λ (F : FileState). HasNothing F owner) (sym (file_from_same (S.files file) (T.files file) (same file))) was.nothing;
    unseen = was.unseen;
  });
}

pub kept_fetched : (holdings : Holdings) (through : ℕ → ℕ → Option ℕ) (S : State) (result : Option ℕ) (T : State) → FetchComesTo S result T
    → AreKept holdings S through → AreKept holdings T through
kept_fetched holdings through S None T fetched kept = kept_same holdings through S T fetched.1 kept
kept_fetched holdings through S (Some ticket) T fetched kept = kept_files holdings through S T fetched.1 kept

-- an untouched file has nobody
pub untouched_nothing : (F : FileState) → SameFile untouched F → (owner : ℕ) → HasNothing F owner
untouched_nothing F same owner =
    subst (λ (G : FileState). HasNothing G owner) (sym (file_from_same untouched F same))
    (record { lock = record { bytes = λ byte. refl; flocks = refl }; waits = All-nil (λ wait. wait.owner ≢ owner) })

pub kept_opening : (holdings : Holdings) (through : ℕ → ℕ → Option ℕ) (S : State) → SameState opening S → ((file owner : ℕ) → through file owner ≡ None)
    → AreKept holdings S through
unfolding opening
kept_opening holdings through S same none = record {
  gone = λ owner file unkept. record { nothing = untouched_nothing (S.files file) (same.files file) owner; unseen = none file owner };
}

-- and one that isn't noted any more
pub unseen_on : (was now : ℕ → ℕ → Option ℕ) (file owner : ℕ) → SeesOn was now file owner None → (any other : ℕ) → was any other ≡ None → now any other ≡ None
unseen_on was now file owner sees any other before = elim (cases_eq any file) [
  | inl same_file ↦ elim (cases_eq other owner) [
    | inl same_owner ↦ ap (λ (f : ℕ). now f other) same_file ∙ ap (λ (o : ℕ). now file o) same_owner ∙ sees.here
    | inr differs ↦ ap (λ (f : ℕ). now f other) same_file ∙ sees.others other differs ∙ ap (λ (f : ℕ). was f other) (sym same_file) ∙ before
  ]
  | inr differs ↦ sees.elsewhere any other differs ∙ before
]

-- a file that is gone
pub kept_file_forgotten : (old new : Holdings) (S T : State) (was now : ℕ → ℕ → Option ℕ) (file : ℕ) → LeavesFile old new file → ForgetsFile S file T
    → ForgetsSeenOn was now file → AreKept old S was → AreKept new T now
kept_file_forgotten old new S T was now file leaves forgets unsees kept = record {
  gone = λ owner any unkept. elim (cases_eq any file) [
    | inl is ↦ subst (λ (f : ℕ). IsGone T now owner f) (sym is) (record { nothing = untouched_nothing (T.files file) forgets.nothing owner; unseen = unsees.here owner })
    | inr differs ↦
        (let before = kept.gone owner any (sym (leaves.elsewhere owner any differs) ∙ unkept) in record {
          nothing = subst (λ (F : FileState). HasNothing F owner) (sym (file_from_same (S.files any) (T.files any) (forgets.changes.others any differs))) before.nothing;
          unseen = unsees.elsewhere any owner differs ∙ before.unseen;
        })
  ];
}

-- owners that are gone have no wait among those that stay
none_stays : (gone : ℕ → Bool) (owner : ℕ) → gone owner ≡ true → (waits : List Pending) → AreOfOthers (filter (λ wait. not (gone wait.owner)) waits) owner
none_stays gone owner is [] = All-nil (λ wait. wait.owner ≢ owner)
none_stays gone owner is (wait ∷ waits) = stays (gone wait.owner) refl (none_stays gone owner is waits)
  where
    rest : List Pending
    rest = filter (λ any. not (gone any.owner)) waits

    stays : (test : Bool) → gone wait.owner ≡ test → AreOfOthers rest owner → AreOfOthers (filter (λ any. not (gone any.owner)) (wait ∷ waits)) owner
    stays true leaves others = subst (λ (b : Bool). AreOfOthers (cond (not b) (wait ∷ rest) rest) owner) (sym leaves) others
    stays false stays_there others =
        subst (λ (b : Bool). AreOfOthers (cond (not b) (wait ∷ rest) rest) owner) (sym stays_there)
        (All-cons (λ any. any.owner ≢ owner) wait rest (λ same. (let no : false ≡ true = sym stays_there ∙ ap gone same ∙ is in cc)) others)

nothing_stripped : (F : FileState) (gone : ℕ → Bool) (G : FileState) → StripsFile F gone G → (owner : ℕ) → gone owner ≡ true → HasNothing G owner
nothing_stripped F gone G strips owner is = record {
  lock = record {
    bytes = λ byte. strips.locks.bytes owner byte ∙ ap (λ (b : Bool). if b then None else F.bytes owner byte) is;
    flocks = strips.locks.flocks owner ∙ ap (λ (b : Bool). if b then None else F.flocks owner) is;
  };
  waits = subst (λ (waits : List Pending). AreOfOthers waits owner) (sym strips.waits) (none_stays gone owner is F.waits);
}

nothing_settled_on : (policy : Policy) (S : State) (file : ℕ) (T : State) → SettlesFile policy S file T → (owner any : ℕ) → HasNothing (S.files any) owner
    → HasNothing (T.files any) owner
nothing_settled_on policy S file T settles owner any nothing = elim (cases_eq any file) [
  | inl is ↦ subst (λ (f : ℕ). HasNothing (T.files f) owner) (sym is)
      (nothing_settled policy (S.files file) settles.granted (T.files file) settles.settles owner (subst (λ (f : ℕ). HasNothing (S.files f) owner) is nothing))
  | inr differs ↦ subst (λ (F : FileState). HasNothing F owner) (sym (file_from_same (S.files any) (T.files any) (settles.others any differs))) nothing
]

nothing_settled_below : (policy : Policy) (bound : ℕ) (S T : State) → SettlesBelow policy bound S T → (owner any : ℕ) → HasNothing (S.files any) owner
    → HasNothing (T.files any) owner
nothing_settled_below policy zero S T same owner any nothing =
    subst (λ (F : FileState). HasNothing F owner) (sym (file_from_same (S.files any) (T.files any) (same.files any))) nothing
nothing_settled_below policy (suc file) S T (before, below, settles) owner any nothing =
    nothing_settled_on policy before file T settles owner any (nothing_settled_below policy file S before below owner any nothing)

-- a client that is gone
pub kept_owners_forgotten : (policy : Policy) (old new : Holdings) (S T : State) (was now : ℕ → ℕ → Option ℕ) (first last : ℕ)
    → ForgetsOwners policy S first last T → ForgetsSeen was now (is_within first last)
    → ((owner file : ℕ) → IsTrue (is_within first last owner) → keeps new owner file ≡ false)
    → ((owner file : ℕ) → is_within first last owner ≡ false → keeps new owner file ≡ keeps old owner file) → AreKept old S was → AreKept new T now
kept_owners_forgotten policy old new S T was now first last forgets unsees gone others kept = record { gone = λ owner file unkept. by_test owner file unkept (is_within first last owner) refl }
  where
    by_test : (owner file : ℕ) → keeps new owner file ≡ false → (test : Bool) → is_within first last owner ≡ test → IsGone T now owner file
    by_test owner file unkept true within = record {
      nothing = nothing_settled_below policy forgets.settles.bound forgets.between T forgets.settles.settles owner file
          (nothing_stripped (S.files file) (is_within first last) (forgets.between.files file) (forgets.strips.files file) owner within);
      unseen = unsees.through file owner ∙ ap (λ (b : Bool). if b then None else was file owner) within;
    }
    by_test owner file unkept false without =
        let before = kept.gone owner file (sym (others owner file without) ∙ unkept) in
        let moves = strips_move (S.files file) (is_within first last) (forgets.between.files file) (forgets.strips.files file) in record {
          nothing = nothing_settled_below policy forgets.settles.bound forgets.between T forgets.settles.settles owner file
              (nothing_from (Contains []) (S.files file) (forgets.between.files file) moves.locks moves.waits owner (λ (k, inside, is). omega (arith, inside)) before.nothing);
          unseen = unsees.through file owner ∙ ap (λ (b : Bool). if b then None else was file owner) without ∙ before.unseen;
        }

-- who has nothing on a file is a stranger there
pub nothing_stranger : (F : FileState) (owner : ℕ) → HasNothing F owner → IsStrangerOn F owner
nothing_stranger F owner nothing = record {
  bytes = nothing.lock.bytes;
  waits = All-weaker (λ wait. wait.owner ≢ owner) (λ wait. IsTrue (is_other_wait owner wait))
      (λ wait other. others (is_of_bytes wait.family) (wait.owner == owner) (λ is. other (eqb-true wait.owner owner is))) F.waits nothing.waits;
}
  where
    others : (bytes same : Bool) → (same ≡ true → ⊥) → IsTrue (not (bytes && same))
    others false same never = refl
    others true false never = refl
    others true true never = absurd (never refl)

-- of other owners it is known as before where they are noted
pub sees_of_others : (was now : ℕ → ℕ → Option ℕ) (file owner : ℕ) (open_file : Option ℕ) → SeesOn was now file owner open_file → (any other : ℕ) → other ≢ owner
    → now any other ≡ was any other
sees_of_others was now file owner open_file sees any other differs = elim (cases_eq any file) [
  | inl is ↦ ap (λ (f : ℕ). now f other) is ∙ sees.others other differs ∙ ap (λ (f : ℕ). was f other) (sym is)
  | inr elsewhere ↦ sees.elsewhere any other elsewhere
]

-- an owner that isn't noted on a file any more and isn't kept with it: whoever isn't kept isn't noted
pub noted_left : (old new : Holdings) (was now : ℕ → ℕ → Option ℕ) (owner file : ℕ) → Keeps old new owner file false → SeesOn was now file owner None
    → ((other any : ℕ) → keeps old other any ≡ false → was any other ≡ None) → (other any : ℕ) → keeps new other any ≡ false → now any other ≡ None
noted_left old new was now owner file leaves unsees noted other any unkept = elim (cases_eq any file) [
  | inl same_file ↦ elim (cases_eq other owner) [
    | inl same_owner ↦ ap (λ (f : ℕ). now f other) same_file ∙ ap (λ (o : ℕ). now file o) same_owner ∙ unsees.here
    | inr differs ↦
        ap (λ (f : ℕ). now f other) same_file ∙ unsees.others other differs ∙ ap (λ (f : ℕ). was f other) (sym same_file)
        ∙ noted other any (sym (leaves.apart.others other any differs) ∙ unkept)
  ]
  | inr differs ↦ unsees.elsewhere any other differs ∙ noted other any (sym (leaves.apart.elsewhere other any differs) ∙ unkept)
]

-- the owners of a client are noted nowhere, and all others as before
pub seen_without : (was now : ℕ → ℕ → Option ℕ) (gone : ℕ → Bool) → ((file owner : ℕ) → gone owner ≡ true → now file owner ≡ None)
    → ((file owner : ℕ) → gone owner ≡ false → now file owner ≡ was file owner) → ForgetsSeen was now gone
seen_without was now gone none others = record {
  through = λ file owner. elim (cases_Bool (gone owner)) [
    | inl is ↦ none file owner is ∙ sym (ap (λ (b : Bool). if b then None else was file owner) is)
    | inr stays ↦ others file owner stays ∙ sym (ap (λ (b : Bool). if b then None else was file owner) stays)
  ];
}
