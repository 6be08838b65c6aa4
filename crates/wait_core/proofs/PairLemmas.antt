-- What the table of pairs tells, and what a change of the list or of the locks leaves of it: for `Pairs::all_told`, `Pairs::clear`, `Pairs::forget`
-- and others.
use Rattle.wait_core.proofs.Common.{rules, ℕ, ◌≡◌, ◌≢◌, ◌+◌, ◌<◌, ◌≤◌, ◌↔◌, ◌∙◌, ◌⊎◌, inl, inr, refl, sym, ap, subst, arith, Bool, true, false, not, suc, List, [], ◌∷◌, ◌++◌, All, Any, length, get_or, take, drop, common_steps, IsTrue, ◌==◌, if◌then◌else◌, AllPairs, cases_eq, cases_lt, nat_tests, get_or_default, All-nil, All-cons, Mode, Span, Owner, Process, ByteModes, ProcessBlocks, Held, Wait, ProcessSet, Waits, Locks, WaitsFor, IsBlockedWait, IsOff, IsOn, pair_in, TellsPair, is_member, no_process, IsWellFormed, waits_of, has_pair, without_wait_of, AreTold}
use Rattle.std.proofs.Common.{set, get_or-set_same, get_or-set_other, replicate}
use Rattle.std.proofs.lemmas.List.{length-replicate, get_or-replicate, get_or_past}
use Rattle.std.proofs.lemmas.Option.{slice_get_cases}
use Rattle.range_core.specs.Ranges.{Covers, IsByteRange}
use Rattle.wait_core.specs.declared.pairs.Pairs.{Pairs}
use Rattle.wait_core.specs.Pairs.{IsElsewhere}
use Rattle.wait_core.specs.WaitsView.{AgreeBut, AgreeButOwner}
use Rattle.wait_core.proofs.AnyLemmas.{Any-here, Any-there, Any-append, Any-append_left, Any-append_right, Any-alone, Any-weaker, Any-filter, Any-unfilter, split_at, split_within, split_is}
use Rattle.wait_core.proofs.ProcessLemmas.{none_in}

-- p waits for q by a lock where the list has a wait of p that a lock of q blocks
pub blocked_wait : (locks : Locks) (waits : List Wait) (p q : ℕ) → WaitsFor Held locks waits p q → Any (IsBlockedWait locks p q) waits
blocked_wait locks waits p q for = search (rules, split_within, split_is)

pub waits_by_lock : (locks : Locks) (waits : List Wait) (p q : ℕ) → Any (IsBlockedWait locks p q) waits → WaitsFor Held locks waits p q
waits_by_lock locks waits p q (k, wait, within, is, holds) = record {
  before = take k waits;
  wait = wait;
  after = drop (suc k) waits;
  place = split_at waits k wait within is;
  detected = holds.traditional;
  of_one = holds.of_p;
  blocked = holds.blocked;
}

-- a table that tells the pairs of the list and these locks
pub told : (waits : Waits) (locks : Locks)
    → ((p q : ℕ) → p ≤ 64 → 1 ≤ q → q ≤ 64 → IsTrue (has_pair waits p q) ↔ Any (IsBlockedWait locks p q) (waits_of waits)) → AreTold waits locks
told waits locks pairs = record {
  pairs = λ p q p_few q_one q_few. (
    λ yes. waits_by_lock locks (waits_of waits) p q ((pairs p q p_few q_one q_few).0 yes),
    λ for. (pairs p q p_few q_one q_few).1 (blocked_wait locks (waits_of waits) p q for),
  );
}

-- and the way back
pub tells : (waits : Waits) (locks : Locks) → AreTold waits locks → (p q : ℕ) → p ≤ 64 → 1 ≤ q → q ≤ 64
    → IsTrue (has_pair waits p q) ↔ Any (IsBlockedWait locks p q) (waits_of waits)
tells waits locks told p q p_few q_one q_few = (
  λ yes. blocked_wait locks (waits_of waits) p q ((told.pairs p q p_few q_one q_few).0 yes),
  λ any. (told.pairs p q p_few q_one q_few).1 (waits_by_lock locks (waits_of waits) p q any),
)

pub keeps_other : (w : Wait) (p : ℕ) → w.p ≢ p → not (w.p == p) ≡ true
keeps_other w p other = grind (arith, nat_tests)

pub other_kept : (w : Wait) (p : ℕ) → not (w.p == p) ≡ true → w.p ≢ p
other_kept w p kept = grind (arith, nat_tests)

-- of the waits of all other processes none is the process' own
none_of_it : (locks : Locks) (p q process : ℕ) (waits : List Wait) → p ≡ process → ¬ Any (λ w. IsBlockedWait locks p q w × (not (w.p == process) ≡ true)) waits
none_of_it locks p q process waits same (k, w, within, is, holds) = other_kept w process holds.1 (holds.0.of_p ∙ same)

-- one wait less, and its process' row forgotten
pub told-leave : (old new : Waits) (locks : Locks) (process : ℕ) → waits_of new ≡ without_wait_of (waits_of old) process
    → ((q : ℕ) → ¬ IsTrue (has_pair new process q)) → ((p q : ℕ) → p ≢ process → has_pair new p q ≡ has_pair old p q) → AreTold old locks → AreTold new locks
told-leave old new locks process rest forgotten others was = told new locks (λ p q p_few q_one q_few.
    let Blocked : Wait → Type 0 = IsBlockedWait locks p q in
    elim (cases_eq p process) [
      | inl same ↦ (
        λ has. absurd (forgotten q (subst (λ (n : ℕ). IsTrue (has_pair new n q)) same has)),
        λ any. absurd (none_of_it locks p q process (waits_of old) same
            (Any-unfilter Blocked (λ w. not (w.p == process)) (waits_of old) (rw rest at any))),
      )
      | inr other ↦ (
        λ has. rw rest (Any-filter Blocked (λ w. not (w.p == process)) (λ w h. keeps_other w process (λ e. other (sym h.of_p ∙ e))) (waits_of old)
            ((tells old locks was p q p_few q_one q_few).0 (subst (λ (b : Bool). IsTrue b) (others p q other) has))),
        λ any. subst (λ (b : Bool). IsTrue b) (sym (others p q other)) ((tells old locks was p q p_few q_one q_few).1
            (Any-weaker (λ w. Blocked w × (not (w.p == process) ≡ true)) Blocked (λ w h. h.0) (waits_of old)
            (Any-unfilter Blocked (λ w. not (w.p == process)) (waits_of old) (rw rest at any)))),
      )
    ])

-- a process blocks by locks that agree on the range
pub blocks_same : (modes modes' : ByteModes) (q : ℕ) (owner : Owner) (span : Span) (mode : Mode)
    → ((byte : ℕ) → Covers span byte → modes' (Process q) byte ≡ modes (Process q) byte) → ProcessBlocks modes q owner span mode
    → ProcessBlocks modes' q owner span mode
blocks_same modes modes' q owner span mode agree blocks = grind (arith, common_steps)

-- no process has two waits
pub one_place : (waits : List Wait) → AllPairs (λ v w. v.p ≢ w.p) waits → (i j : ℕ) (v w : Wait) → i < length waits → j < length waits
    → get_or waits i v ≡ v → get_or waits j w ≡ w → v.p ≡ w.p → i ≡ j
one_place waits apart i j v w i_within j_within v_is w_is same = elim (cases_eq i j) [
  | inl here ↦ here
  | inr differ ↦ elim (cases_lt i j) [
    | inl before ↦ absurd (apart i j w before j_within
        (ap (λ (x : Wait). x.p) (get_or_default waits i w v i_within ∙ v_is) ∙ same ∙ sym (ap (λ (x : Wait). x.p) w_is)))
    | inr after ↦ absurd (apart j i v (omega arith) i_within
        (ap (λ (x : Wait). x.p) (get_or_default waits j v w j_within ∙ w_is) ∙ sym same ∙ sym (ap (λ (x : Wait). x.p) v_is)))
  ]
]

pub one_wait : (waits : List Wait) → AllPairs (λ v w. v.p ≢ w.p) waits → (i j : ℕ) (v w : Wait) → i < length waits → j < length waits
    → get_or waits i v ≡ v → get_or waits j w ≡ w → v.p ≡ w.p → v ≡ w
one_wait waits apart i j v w i_within j_within v_is w_is same = grind (arith, common_steps, get_or_default, one_place)

-- a process has a wait, or each wait is another one's
pub of_process_or_none : (waits : List Wait) (p : ℕ) → Any (λ w. w.p ≡ p) waits ⊎ All (λ w. w.p ≢ p) waits
of_process_or_none [] p = inr (All-nil (λ w. w.p ≢ p))
of_process_or_none (wait ∷ waits) p = elim (cases_eq wait.p p) [
  | inl here ↦ inl (Any-here (λ w. w.p ≡ p) wait waits here)
  | inr other ↦ elim (of_process_or_none waits p) [
    | inl there ↦ inl (Any-there (λ w. w.p ≡ p) wait waits there)
    | inr none ↦ inr (All-cons (λ w. w.p ≢ p) wait waits other none)
  ]
]

-- what blocks the one wait of a process blocks a wait of it
pub by_its_wait : (locks : Locks) (waits : List Wait) (k q : ℕ) (wait : Wait) (b : Bool) → AllPairs (λ v w. v.p ≢ w.p) waits → k < length waits
    → get_or waits k wait ≡ wait → IsTrue b ↔ IsBlockedWait locks wait.p q wait → IsTrue b ↔ Any (IsBlockedWait locks wait.p q) waits
by_its_wait locks waits k q wait b apart within is blocks = grind (arith, common_steps, one_wait)

-- of a process without a wait none is blocked
pub none_blocked : (locks : Locks) (waits : List Wait) (p q : ℕ) → All (λ w. w.p ≢ p) waits → ¬ Any (IsBlockedWait locks p q) waits
none_blocked locks waits p q none (k, w, within, is, holds) = subst (λ (v : Wait). v.p ≢ p) is (none k w within) holds.of_p

-- a wait that is on another file than the one whose locks changed is blocked by the same locks
kept_elsewhere : (old new : Locks) (file p q : ℕ) (wait : Wait) → AgreeBut file old new → wait.file ≢ file
    → IsBlockedWait old p q wait ↔ IsBlockedWait new p q wait
kept_elsewhere old new file p q wait agree other = grind (arith, common_steps, blocks_same)

-- the pair is told anew, or it stays and so do the locks that it rests on
abbrev pub IsToldOrKept : Waits → Waits → Locks → Locks → ℕ → Wait → Type 0
IsToldOrKept old new before after q wait =
    (IsTrue (has_pair new wait.p q) ↔ IsBlockedWait after wait.p q wait)
    ⊎ ((has_pair new wait.p q ≡ has_pair old wait.p q) × (IsBlockedWait before wait.p q wait ↔ IsBlockedWait after wait.p q wait))

pub told-changed : (old new : Waits) (before after : Locks) → waits_of new ≡ waits_of old → AllPairs (λ v w. v.p ≢ w.p) (waits_of old)
    → ((k q : ℕ) (wait : Wait) → k < length (waits_of old) → get_or (waits_of old) k wait ≡ wait → 1 ≤ q → q ≤ 64 → IsToldOrKept old new before after q wait)
    → ((p q : ℕ) → q ≤ 64 → All (λ w. w.p ≢ p) (waits_of old) → has_pair new p q ≡ has_pair old p q)
    → AreTold old before → AreTold new after
told-changed old new before after list apart pairs others was = told new after (λ p q p_few q_one q_few. rw list (elim (of_process_or_none (waits_of old) p) [
  | inr none ↦
      let kept = others p q q_few none in (
        λ has. absurd (none_blocked before (waits_of old) p q none ((tells old before was p q p_few q_one q_few).0 (subst (λ (b : Bool). IsTrue b) kept has))),
        λ any. absurd (none_blocked after (waits_of old) p q none any),
      )
  | inl (k, wait, within, is, of_p) ↦ subst (λ (n : ℕ). IsTrue (has_pair new n q) ↔ Any (IsBlockedWait after n q) (waits_of old)) of_p
      (by_its_wait after (waits_of old) k q wait (has_pair new wait.p q) apart within is (elim (pairs k q wait within is q_one q_few) [
        | inl anew ↦ anew
        | inr (kept, alike) ↦
            let told_old = tells old before was wait.p q (rw of_p p_few) q_one q_few in (
              λ has.
                  let (j, v, inside, v_is, holds) = told_old.0 (subst (λ (b : Bool). IsTrue b) kept has) in
                  let same : v ≡ wait = one_wait (waits_of old) apart j k v wait inside within v_is is holds.of_p in
                  alike.0 (subst (λ (w : Wait). IsBlockedWait before wait.p q w) same holds),
              λ blocked. subst (λ (b : Bool). IsTrue b) (sym kept) (told_old.1 (k, wait, within, is, alike.1 blocked)),
            )
      ]))
]))

-- a process whose wait is on another file has no wait on this one
elsewhere_by_wait : (waits : List Wait) → AllPairs (λ v w. v.p ≢ w.p) waits → (k file : ℕ) (wait : Wait) → k < length waits
    → get_or waits k wait ≡ wait → wait.file ≢ file → All (IsElsewhere wait.p file) waits
elsewhere_by_wait waits apart k file wait within is other j d inside same = search (rules, one_wait, get_or_default)

-- the pairs of the processes are told anew whose waits are on the file, and the others stay
pub told-refresh : (old new : Waits) (before after : Locks) (file : ℕ) → waits_of new ≡ waits_of old → AllPairs (λ v w. v.p ≢ w.p) (waits_of old)
    → All (λ wait. wait.file ≡ file → (q : ℕ) → 1 ≤ q → q ≤ 64 → IsTrue (has_pair new wait.p q) ↔ IsBlockedWait after wait.p q wait) (waits_of old)
    → ((p q : ℕ) → All (IsElsewhere p file) (waits_of old) → has_pair new p q ≡ has_pair old p q)
    → AgreeBut file before after → AreTold old before → AreTold new after
told-refresh old new before after file list apart anew others agree = told-changed old new before after list apart
    (λ k q wait within is q_one q_few. elim (cases_eq wait.file file) [
      | inl here ↦ inl (subst (λ (w : Wait). w.file ≡ file → (r : ℕ) → 1 ≤ r → r ≤ 64 → IsTrue (has_pair new w.p r) ↔ IsBlockedWait after w.p r w) is (anew k wait within) here q q_one q_few)
      | inr other ↦ inr (others wait.p q (elsewhere_by_wait (waits_of old) apart k file wait within is other), kept_elsewhere before after file wait.p q wait agree other)
    ])
    (λ p q q_few none. others p q (λ k d within same. absurd (none k d within same)))

-- a process blocks by the same locks where its own are the same on the range
kept_of_owner : (old new : Locks) (file p q : ℕ) (owner : Owner) (span : Span) (wait : Wait) → IsByteRange wait.span → AgreeButOwner file owner span old new
    → (Process q ≡ owner → ¬ IsOn file span wait) → IsBlockedWait old p q wait ↔ IsBlockedWait new p q wait
kept_of_owner old new file p q owner span wait range agree off = grind (arith, common_steps, blocks_same)

pub one_process : (q r : ℕ) → Process q ≡ Process r → q ≡ r
one_process q r same = cc

-- a process is the owner, or it isn't
itself_or_another : (q : ℕ) (owner : Owner) → (Process q ≡ owner) ⊎ (Process q ≢ owner)
itself_or_another q owner = grind (arith, common_steps, cases_eq, one_process)

-- a wait is on these bytes of the file, or it isn't
on_or_off : (file : ℕ) (span : Span) (wait : Wait) → IsOn file span wait ⊎ ¬ IsOn file span wait
on_or_off file span wait = grind (arith, common_steps, cases_eq, cases_lt)

-- a process whose wait isn't on these bytes has no wait on them
off_by_wait : (waits : List Wait) → AllPairs (λ v w. v.p ≢ w.p) waits → (k file : ℕ) (span : Span) (wait : Wait) → k < length waits
    → get_or waits k wait ≡ wait → ¬ IsOn file span wait → All (IsOff wait.p file span) waits
off_by_wait waits apart k file span wait within is off j d inside same = search (rules, one_wait, get_or_default)

-- the pairs with the owner are told anew of the waits on these bytes, if it is a process, and the others stay
pub told-owner : (old new : Waits) (before after : Locks) (file processes : ℕ) (owner : Owner) (span : Span) → waits_of new ≡ waits_of old
    → AllPairs (λ v w. v.p ≢ w.p) (waits_of old)
    → All (IsWellFormed processes) (waits_of old)
    → ((q : ℕ) → Process q ≡ owner → 1 ≤ q → q ≤ 64
    → All (λ wait. IsOn file span wait → IsTrue (has_pair new wait.p q) ↔ IsBlockedWait after wait.p q wait) (waits_of old))
    → ((p q : ℕ) → q ≤ 64 → (Process q ≡ owner → All (IsOff p file span) (waits_of old)) → has_pair new p q ≡ has_pair old p q)
    → AgreeButOwner file owner span before after → AreTold old before → AreTold new after
told-owner old new before after file processes owner span list apart well_formed anew others agree = told-changed old new before after list apart
    (λ k q wait within is q_one q_few.
    let range : IsByteRange wait.span = subst (λ (w : Wait). IsByteRange w.span) is (well_formed k wait within).range in
    elim (on_or_off file span wait) [
      | inr off ↦ inr (
        others wait.p q q_few (λ itself. off_by_wait (waits_of old) apart k file span wait within is off),
        kept_of_owner before after file wait.p q owner span wait range agree (λ itself. off),
      )
      | inl on ↦ elim (itself_or_another q owner) [
        | inl itself ↦ inl (subst (λ (w : Wait). IsOn file span w → IsTrue (has_pair new w.p q) ↔ IsBlockedWait after w.p q w) is (anew q itself q_one q_few k wait within) on)
        | inr another ↦ inr (
          others wait.p q q_few (λ itself. absurd (another itself)),
          kept_of_owner before after file wait.p q owner span wait range agree (λ itself. absurd (another itself)),
        )
      ]
    ])
    (λ p q q_few none. others p q q_few (λ itself k d within same. absurd (none k d within same)))

-- where no wait is on these bytes, nothing is to be told
pub told-off : (waits : Waits) (before after : Locks) (file processes : ℕ) (owner : Owner) (span : Span) → AllPairs (λ v w. v.p ≢ w.p) (waits_of waits)
    → All (IsWellFormed processes) (waits_of waits) → ¬ Any (IsOn file span) (waits_of waits) → AgreeButOwner file owner span before after
    → AreTold waits before → AreTold waits after
told-off waits before after file processes owner span apart well_formed none agree =
    told-owner waits waits before after file processes owner span refl apart well_formed
    (λ q itself one few k d within on.
    (let waiting = waits_of waits in absurd (none (k, get_or waiting k d, within, get_or_default waiting k (get_or waiting k d) d within, on))))
    (λ p q few off. refl) agree

-- one wait more, of a process that had none, and its pairs
pub told-join : (old new : Waits) (locks : Locks) (wait : Wait) → waits_of new ≡ waits_of old ++ wait ∷ [] → All (λ w. w.p ≢ wait.p) (waits_of old)
    → ((q : ℕ) → 1 ≤ q → q ≤ 64 → IsTrue (has_pair new wait.p q) ↔ IsBlockedWait locks wait.p q wait)
    → ((p q : ℕ) → p ≢ wait.p → has_pair new p q ≡ has_pair old p q) → AreTold old locks → AreTold new locks
told-join old new locks wait list none own others was = told new locks (λ p q p_few q_one q_few. rw list (elim (cases_eq p wait.p) [
  | inl same ↦ subst (λ (n : ℕ). IsTrue (has_pair new n q) ↔ Any (IsBlockedWait locks n q) (waits_of old ++ wait ∷ [])) (sym same) (
    λ has. Any-append_right (IsBlockedWait locks wait.p q) (waits_of old) (wait ∷ []) (Any-here (IsBlockedWait locks wait.p q) wait [] ((own q q_one q_few).0 has)),
    λ any. elim (Any-append (IsBlockedWait locks wait.p q) (waits_of old) (wait ∷ []) any) [
      | inl earlier ↦ absurd (none_blocked locks (waits_of old) wait.p q none earlier)
      | inr last ↦ (own q q_one q_few).1 (Any-alone (IsBlockedWait locks wait.p q) wait last)
    ],
  )
  | inr other ↦ (
    λ has. Any-append_left (IsBlockedWait locks p q) (waits_of old) (wait ∷ []) ((tells old locks was p q p_few q_one q_few).0 (subst (λ (b : Bool). IsTrue b) (others p q other) has)),
    λ any. elim (Any-append (IsBlockedWait locks p q) (waits_of old) (wait ∷ []) any) [
      | inl earlier ↦ subst (λ (b : Bool). IsTrue b) (sym (others p q other)) ((tells old locks was p q p_few q_one q_few).1 earlier)
      | inr last ↦ absurd (let here = Any-alone (IsBlockedWait locks p q) wait last in other (sym here.of_p))
    ],
  )
]))

-- what holds of the waits before this place that are looked at
abbrev pub Before : (Wait → Type 0) → (Wait → Type 0) → List Wait → ℕ → Type 0
Before P On waits i = (k : ℕ) (wait : Wait) → k < i → k < length waits → get_or waits k wait ≡ wait → On wait → P wait

-- and of one wait more that is looked at, where the waits of other processes keep it
pub before_more : (P P' On : Wait → Type 0) (i : ℕ) (waits : List Wait) (last : Wait) → AllPairs (λ v w. v.p ≢ w.p) waits → i < length waits
    → get_or waits i last ≡ last → Before P On waits i → P' last → ((w : Wait) → w.p ≢ last.p → P w → P' w) → Before P' On waits (i + 1)
before_more P P' On i waits last apart within is before now keeps k w below inside at on = elim (cases_eq k i) [
  | inl same ↦
      let w_is : w ≡ last = sym at ∙ ap (λ (n : ℕ). get_or waits n w) same ∙ get_or_default waits i w last within ∙ is in
      subst P' (sym w_is) now
  | inr other ↦
      let differs : w.p ≢ last.p =
      λ same. apart k i last (omega arith) within (ap (λ (x : Wait). x.p) (get_or_default waits k last w inside ∙ at) ∙ same ∙ ap (λ (x : Wait). x.p) (sym is)) in
      keeps w differs (before k w (omega arith) inside at on)
]

-- and of one that isn't
pub before_skip : (P On : Wait → Type 0) (i : ℕ) (waits : List Wait) (last : Wait) → i < length waits → get_or waits i last ≡ last → ¬ On last
    → Before P On waits i → Before P On waits (i + 1)
before_skip P On i waits last h h2 h3 h4 h5 h6 h7 h8 h9 h10 = grind (arith, common_steps, cases_eq, get_or_default)

-- and of all
pub before_all : (P On : Wait → Type 0) (waits : List Wait) → Before P On waits (length waits) → All (λ wait. On wait → P wait) waits
before_all P On waits before k d within on =
    before k (get_or waits k d) within within (get_or_default waits k (get_or waits k d) d within) on

-- a pair that stays is told of the same locks
pub tells_still : (old new : Pairs) (locks : Locks) (q : ℕ) (w : Wait) → pair_in new w.p q ≡ pair_in old w.p q → TellsPair old locks q w
    → TellsPair new locks q w
tells_still old new locks q w same was = subst (λ (b : Bool). IsTrue b ↔ IsBlockedWait locks w.p q w) (sym same) was

-- where each row is the set of no process, there is no pair
pub none_in_rows : (rows p q : ℕ) → ¬ IsTrue (is_member (get_or (replicate rows no_process) p no_process) q)
none_in_rows rows p q has = grind (arith, common_steps, slice_get_cases, get_or-replicate, length-replicate, none_in, get_or_past)

-- the row that is put at p is row p then
pub put_row : (rows : List ProcessSet) (row : ProcessSet) (i p q : ℕ) → i ≡ p → i < length rows
    → is_member (get_or (set rows i row) p no_process) q ≡ is_member row q
put_row rows row i p q same within =
    let is : get_or (set rows i row) p no_process ≡ row = rw (← same) (get_or-set_same rows i row no_process within) in rw is

-- past the last row there is no pair
pub none_past : (rows : List ProcessSet) (p q : ℕ) → length rows ≤ p → ¬ IsTrue (is_member (get_or rows p no_process) q)
none_past rows p q past has =
    let is = get_or_past rows p no_process past in let no = none_in q in let yes = rw is at has in cc

-- in the rows before this place the process is taken out
abbrev pub IsClearedBefore : List ProcessSet → List ProcessSet → ℕ → ℕ → Type 0
IsClearedBefore was now x i = (k q : ℕ) → k < i → q ≤ 64 → is_member (get_or now k no_process) q ≡ (if q == x then false else is_member (get_or was k no_process) q)

-- and the others are as they were
abbrev pub IsLeftFrom : List ProcessSet → List ProcessSet → ℕ → Type 0
IsLeftFrom was now i = (k : ℕ) → i ≤ k → get_or now k no_process ≡ get_or was k no_process

-- one row more is cleared
pub cleared_more : (was now : List ProcessSet) (row : ProcessSet) (i x : ℕ) → i < length now
    → ((q : ℕ) → q ≤ 64 → is_member row q ≡ (if q == x then false else is_member (get_or now i no_process) q))
    → IsClearedBefore was now x i → IsLeftFrom was now i → IsClearedBefore was (set now i row) x (i + 1)
cleared_more was now row i x within members cleared left k q below few = grind (arith, common_steps, cases_eq, get_or-set_same, get_or-set_other)

pub left_more : (was now : List ProcessSet) (row : ProcessSet) (i : ℕ) → IsLeftFrom was now i → IsLeftFrom was (set now i row) (i + 1)
left_more was now row i left k past = grind (arith, common_steps, get_or-set_other)

-- and all are
pub cleared_all : (was now : List ProcessSet) (x i : ℕ) → length now ≡ length was → length was ≤ i → IsClearedBefore was now x i
    → (p q : ℕ) → q ≤ 64 → is_member (get_or now p no_process) q ≡ (if q == x then false else is_member (get_or was p no_process) q)
cleared_all was now x i long past cleared p q few = grind (arith, common_steps, cases_lt, get_or_past, none_in)
