-- The links from wait to wait, and what a wait that joins or leaves makes of them: for `Queues::join`, `Queues::leave` and `Queues::on`.
use Rattle.wait_core.proofs.Common.{ℕ, ◌≡◌, ◌≢◌, ◌≤◌, ◌∙◌, ◌⊎◌, inl, inr, refl, sym, ap, subst, arith, true, false, not, zero, suc, Option, None, Some, List, [], ◌∷◌, All, Any, length, get_or, ◌==◌, if◌then◌else◌, cases_eq, nat_tests, AllPairs, All-nil, All-cons, All-head, All-tail, All-weaker, Wait, IsLed, first_process, follow, without_wait_of}
use Rattle.std.specs.Option.{option_map_or}
use Rattle.std.proofs.lemmas.List.Kept.{AllPairs-cons}
use Rattle.std.proofs.lemmas.List.Elements.{All-filter}
use Rattle.wait_core.specs.Links.{Links, Lead, Leaves, Stands}
use Rattle.wait_core.specs.Queues.{with_wait, without_wait}
use Rattle.wait_core.proofs.AnyLemmas.{Any-cons, Any-here, Any-nil, Any-there}
use Rattle.wait_core.proofs.ListLemmas.{all_stay}

-- the waits that the links lead through are those that are found by following them
pub followed : (links : Links) (file : ℕ) (next : Option ℕ) (waits : List Wait) (n : ℕ) → length waits ≤ n → Lead links file next waits
    → follow links.waits links.before n (first_process waits) ≡ waits
followed links file next [] zero fits lead = refl
followed links file next [] (suc n) fits lead = refl
followed links file next (wait ∷ earlier) zero fits lead = absurd (omega arith)
followed links file next (wait ∷ earlier) (suc n) fits lead =
    rw lead.0.itself (rw lead.0.before (ap (λ ws. wait ∷ ws) (followed links file (Some wait.p) earlier n (omega arith) lead.1)))

pub led : (links : Links) (file : ℕ) (next : Option ℕ) (waits : List Wait) (n : ℕ) → length waits ≤ n → Lead links file next waits
    → IsLed links.waits links.before n (first_process waits)
led links file next [] zero fits lead = refl
led links file next [] (suc n) fits lead = tt
led links file next (wait ∷ earlier) zero fits lead = absurd (omega arith)
led links file next (wait ∷ earlier) (suc n) fits lead =
    rw lead.0.itself (refl, rw lead.0.before (led links file (Some wait.p) earlier n (omega arith) lead.1))

-- who is led to within so many waits is within one more, and follows the same
pub led_more : (waits : ℕ → Option Wait) (before : ℕ → Option ℕ) (n : ℕ) (next : Option ℕ) → IsLed waits before n next
    → IsLed waits before (suc n) next × (follow waits before (suc n) next ≡ follow waits before n next)
led_more waits before zero None is = (tt, refl)
led_more waits before zero (Some p) is = absurd cc
led_more waits before (suc n) None is = (tt, refl)
led_more waits before (suc n) (Some p) is =
    let rest = led_more waits before n (before p) is.1 in
    ((is.0, rest.0), ap (λ (ws : List Wait). option_map_or (λ wait. wait ∷ ws) (waits p) []) rest.1)

-- one wait is followed, and each process that is left is led to
pub led_step : (waits : ℕ → Option Wait) (before : ℕ → Option ℕ) (n p : ℕ) (wait : Wait) → IsLed waits before (suc n) (Some p) → waits p ≡ Some wait
    → IsLed waits before (suc n) (before p) × (follow waits before (suc n) (Some p) ≡ wait ∷ follow waits before (suc n) (before p))
led_step waits before n p wait is there =
    let (more, same) = led_more waits before n (before p) is.1 in
    (more, rw there (ap (λ (ws : List Wait). wait ∷ ws) (sym same)))

-- the wait is on the file, and its process has it
pub record IsLinked (links : Links) (file : ℕ) (wait : Wait) : Type 0 where
  pub few : wait.p ≤ 64
  pub on_file : wait.file ≡ file
  pub itself : links.waits wait.p ≡ Some wait

pub all_linked : (links : Links) (file : ℕ) (next : Option ℕ) (waits : List Wait) → Lead links file next waits → All (IsLinked links file) waits
all_linked links file next [] lead = All-nil (IsLinked links file)
all_linked links file next (wait ∷ earlier) lead =
    All-cons (IsLinked links file) wait earlier (record { few = lead.0.few; on_file = lead.0.on_file; itself = lead.0.itself })
    (all_linked links file (Some wait.p) earlier lead.1)

-- no process has two of them
pub lead_apart : (links : Links) (file : ℕ) (next : Option ℕ) (waits : List Wait) → Lead links file next waits → AllPairs (λ v w. v.p ≢ w.p) waits
lead_apart links file next [] lead = λ i j d before within same. omega (arith, within)
lead_apart links file next (wait ∷ earlier) lead = AllPairs-cons (λ (v w : Wait). v.p ≢ w.p) wait earlier lead.0.apart (lead_apart links file (Some wait.p) earlier lead.1)

-- the process has the same wait, between the same ones
pub record IsKept (old new : Links) (wait : Wait) : Type 0 where
  pub waits : new.waits wait.p ≡ old.waits wait.p
  pub before : new.before wait.p ≡ old.before wait.p
  pub after : new.after wait.p ≡ old.after wait.p

pub kept : (old new : Links) (file : ℕ) (next : Option ℕ) (waits : List Wait) → All (IsKept old new) waits → Lead old file next waits
    → Lead new file next waits
kept old new file next [] same lead = tt
kept old new file next (wait ∷ earlier) same lead =
    let here = All-head (IsKept old new) wait earlier same in (
      record {
        few = lead.0.few;
        on_file = lead.0.on_file;
        apart = lead.0.apart;
        itself = here.waits ∙ lead.0.itself;
        before = here.before ∙ lead.0.before;
        after = here.after ∙ lead.0.after;
      },
      kept old new file (Some wait.p) earlier (All-tail (IsKept old new) wait earlier same) lead.1,
    )

-- a wait is the one of its process
pub one_itself : (links : Links) (file file' : ℕ) (v w : Wait) → IsLinked links file v → IsLinked links file' w → v.p ≡ w.p → v ≡ w
one_itself links file file' v w v_is w_is same = cc

-- the first of these waits is on the file
pub first_linked : (links : Links) (file : ℕ) (next : Option ℕ) (waits : List Wait) (p : ℕ) → Lead links file next waits → first_process waits ≡ Some p
    → Any (λ v. (v.p ≡ p) × IsLinked links file v) waits
first_linked links file next [] p lead first = absurd cc
first_linked links file next (wait ∷ earlier) p lead first =
    Any-here (λ v. (v.p ≡ p) × IsLinked links file v) wait earlier
    ((let e : Some wait.p ≡ Some p = first in cc), record { few = lead.0.few; on_file = lead.0.on_file; itself = lead.0.itself })

-- the wait joins, behind the latest one on its file
pub record Joins (old new : Links) (wait : Wait) (latest : Option ℕ) : Type 0 where
  pub few : wait.p ≤ 64
  pub free : old.waits wait.p ≡ None
  pub itself : new.waits wait.p ≡ Some wait
  pub waits : (p : ℕ) → p ≢ wait.p → new.waits p ≡ old.waits p
  pub before_itself : new.before wait.p ≡ latest
  pub before : (p : ℕ) → p ≤ 64 → p ≢ wait.p → new.before p ≡ old.before p
  pub after_itself : latest ≢ Some wait.p → new.after wait.p ≡ None
  pub after_latest : (p : ℕ) → p ≤ 64 → latest ≡ Some p → new.after p ≡ Some wait.p
  pub after : (p : ℕ) → p ≤ 64 → p ≢ wait.p → latest ≢ Some p → new.after p ≡ old.after p

-- a process that waits isn't the one whose wait joins
waits_already : (old : Links) (file : ℕ) (v : Wait) (p : ℕ) → old.waits p ≡ None → IsLinked old file v → v.p ≢ p
waits_already old file v p free is same = cc

-- the others stay as they are, but for who comes after the latest
other_kept : (old new : Links) (wait : Wait) (latest : Option ℕ) (file : ℕ) (v : Wait) → Joins old new wait latest → IsLinked old file v
    → latest ≢ Some v.p → IsKept old new v
other_kept old new wait latest file v joins is other =
    let apart : v.p ≢ wait.p = waits_already old file v wait.p joins.free is in record {
      waits = joins.waits v.p apart;
      before = joins.before v.p is.few apart;
      after = joins.after v.p is.few apart other;
    }

joined_file : (old new : Links) (wait : Wait) (waits : List Wait) → Joins old new wait (first_process waits)
    → Lead old wait.file None waits → Lead new wait.file None (wait ∷ waits)
joined_file old new wait [] joins lead = (
  record {
    few = joins.few;
    on_file = refl;
    apart = All-nil (λ v. wait.p ≢ v.p);
    itself = joins.itself;
    before = joins.before_itself;
    after = joins.after_itself (λ e. cc);
  },
  tt,
)
joined_file old new wait (v ∷ earlier) joins lead =
    let linked = all_linked old wait.file None (v ∷ earlier) lead in
    let first = All-head (IsLinked old wait.file) v earlier linked in
    let apart : v.p ≢ wait.p = waits_already old wait.file v wait.p joins.free first in (
      record {
        few = joins.few;
        on_file = refl;
        apart = All-weaker (IsLinked old wait.file) (λ u. wait.p ≢ u.p) (λ u is same. waits_already old wait.file u wait.p joins.free is (sym same)) (v ∷ earlier) linked;
        itself = joins.itself;
        before = joins.before_itself;
        after = joins.after_itself (λ e. apart (let same : Some v.p ≡ Some wait.p = e in cc));
      },
      (
        record {
          few = lead.0.few;
          on_file = lead.0.on_file;
          apart = lead.0.apart;
          itself = joins.waits v.p apart ∙ lead.0.itself;
          before = joins.before v.p first.few apart ∙ lead.0.before;
          after = joins.after_latest v.p first.few refl;
        },
        kept old new wait.file (Some v.p) earlier
            (λ k d within. other_kept old new wait (Some v.p) wait.file _ joins (All-tail (IsLinked old wait.file) v earlier linked k d within)
            (λ e. lead.0.apart k d within (let same : Some v.p ≡ Some (get_or earlier k d).p = e in cc)))
            lead.1,
      ),
    )

-- the waits on another file keep their places
joined_elsewhere : (old new : Links) (wait : Wait) (waits others : List Wait) (file : ℕ) → Joins old new wait (first_process waits)
    → wait.file ≢ file → Lead old wait.file None waits → Lead old file None others → Lead new file None others
joined_elsewhere old new wait waits others file joins other lead elsewhere =
    let linked = all_linked old file None others elsewhere in
    kept old new file None others
    (λ k d within. other_kept old new wait (first_process waits) file _ joins (linked k d within)
    (λ latest.
    let (j, v, inside, is, v_is) = first_linked old wait.file None waits (get_or others k d).p lead latest in
    let same : v ≡ get_or others k d = one_itself old wait.file file v (get_or others k d) v_is.1 (linked k d within) v_is.0 in
    other (sym v_is.1.on_file ∙ ap (λ (w : Wait). w.file) same ∙ (linked k d within).on_file)))
    elsewhere

-- the latest wait on each file after the wait has joined
pub first_joined : (queues : ℕ → List Wait) (wait : Wait) (file : ℕ) (latest : Option ℕ) → latest ≡ first_process (queues file)
    → (if wait.file == file then Some wait.p else latest) ≡ first_process (with_wait queues wait file)
first_joined queues wait file latest is = elim (cases_eq wait.file file) [
  | inl here ↦ (let yes : (wait.file == file) ≡ true = grind (arith, nat_tests) in rw yes refl)
  | inr other ↦ (let no : (wait.file == file) ≡ false = grind (arith, nat_tests) in rw no is)
]

-- and the waits on each file
pub lead_joined : (old new : Links) (queues : ℕ → List Wait) (wait : Wait) → Joins old new wait (first_process (queues wait.file))
    → ((file : ℕ) → Lead old file None (queues file)) → (file : ℕ) → Lead new file None (with_wait queues wait file)
lead_joined old new queues wait joins lead file = elim (cases_eq wait.file file) [
  | inl here ↦
      let yes : (wait.file == file) ≡ true = grind (arith, nat_tests) in
      rw yes (subst (λ (f : ℕ). Lead new f None (wait ∷ queues f)) here (joined_file old new wait (queues wait.file) joins (lead wait.file)))
  | inr other ↦
      let no : (wait.file == file) ≡ false = grind (arith, nat_tests) in
      rw no (joined_elsewhere old new wait (queues wait.file) (queues file) file joins other (lead wait.file) (lead file))
]

-- a wait stays as it is that isn't of the process, nor stands next to its wait
apart_kept : (old new : Links) (p file : ℕ) (v : Wait) → Leaves old new p → IsLinked old file v → v.p ≢ p → old.before p ≢ Some v.p
    → old.after p ≢ Some v.p → IsKept old new v
apart_kept old new p file v leaves is other before after = record {
  waits = leaves.waits v.p other;
  before = leaves.before v.p is.few after;
  after = leaves.after v.p is.few before;
}

-- who stands before the wait of the process is among those that the links lead through
before_among : (old : Links) (file p q : ℕ) (next : Option ℕ) (waits : List Wait) → Lead old file next waits → Any (λ v. v.p ≡ p) waits
    → old.before p ≡ Some q → Any (λ v. (v.p ≡ q) × IsLinked old file v) waits
before_among old file p q next [] lead has before = absurd (Any-nil (λ v. v.p ≡ p) has)
before_among old file p q next (wait ∷ earlier) lead has before =
    let Is : Wait → Type 0 = λ v. (v.p ≡ q) × IsLinked old file v in
    elim (Any-cons (λ v. v.p ≡ p) wait earlier has) [
      | inl here ↦ Any-there Is wait earlier (first_linked old file (Some wait.p) earlier q lead.1
          (sym lead.0.before ∙ ap old.before here ∙ before))
      | inr there ↦ Any-there Is wait earlier (before_among old file p q (Some wait.p) earlier lead.1 there before)
    ]

-- who stands after it is among them, or is the next process
after_among : (old : Links) (file p : ℕ) (next : Option ℕ) (waits : List Wait) → Lead old file next waits → Any (λ v. v.p ≡ p) waits
    → (old.after p ≡ next) ⊎ Any (λ v. (old.after p ≡ Some v.p) × IsLinked old file v) waits
after_among old file p next [] lead has = absurd (Any-nil (λ v. v.p ≡ p) has)
after_among old file p next (wait ∷ earlier) lead has =
    let Is : Wait → Type 0 = λ v. (old.after p ≡ Some v.p) × IsLinked old file v in
    let itself = All-head (IsLinked old file) wait earlier (all_linked old file next (wait ∷ earlier) lead) in
    elim (Any-cons (λ v. v.p ≡ p) wait earlier has) [
      | inl here ↦ inl (ap old.after (sym here) ∙ lead.0.after)
      | inr there ↦ elim (after_among old file p (Some wait.p) earlier lead.1 there) [
        | inl is ↦ inr (Any-here Is wait earlier (is, itself))
        | inr among ↦ inr (Any-there Is wait earlier among)
      ]
    ]

-- where the wait of the process leaves, the others lead on
passes : (w : Wait) (p : ℕ) → w.p ≡ p → not (w.p == p) ≡ false
passes w p same = grind (arith, nat_tests)

stays : (w : Wait) (p : ℕ) → w.p ≢ p → not (w.p == p) ≡ true
stays w p other = grind (arith, nat_tests)

-- those behind the wait that leaves
left_behind : (old new : Links) (file p : ℕ) (next : Option ℕ) (waits : List Wait) → Leaves old new p → Lead old file (Some p) waits
    → All (λ v. p ≢ v.p) waits → All (λ v. next ≢ Some v.p) waits → old.before p ≡ first_process waits → old.after p ≡ next
    → Lead new file next waits
left_behind old new file p next [] leaves lead apart later before after = tt
left_behind old new file p next (v ∷ earlier) leaves lead apart later before after =
    let linked = all_linked old file (Some p) (v ∷ earlier) lead in
    let first = All-head (IsLinked old file) v earlier linked in
    let other = All-head (λ u. p ≢ u.p) v earlier apart in
    let behind = All-head (λ u. next ≢ Some u.p) v earlier later in (
      record {
        few = lead.0.few;
        on_file = lead.0.on_file;
        apart = lead.0.apart;
        itself = leaves.waits v.p (λ e. other (sym e)) ∙ lead.0.itself;
        before = leaves.before v.p first.few (λ e. behind (sym after ∙ e)) ∙ lead.0.before;
        after = leaves.after_last v.p first.few before ∙ after;
      },
      kept old new file (Some v.p) earlier
          (λ k d within. apart_kept old new p file _ leaves (All-tail (IsLinked old file) v earlier linked k d within)
          (λ e. All-tail (λ u. p ≢ u.p) v earlier apart k d within (sym e))
          (λ e. lead.0.apart k d within (let same : Some v.p ≡ Some (get_or earlier k d).p = sym before ∙ e in cc))
          (λ e. All-tail (λ u. next ≢ Some u.p) v earlier later k d within (sym after ∙ e)))
          lead.1,
    )

same_process : (p q : ℕ) → Some p ≡ Some q → p ≡ q
same_process p q same = cc

-- a wait that others than the process' stand behind isn't the one after that of the process
not_after : (old : Links) (file p : ℕ) (w x : Wait) (earlier : List Wait) → Lead old file (Some x.p) earlier → All (λ v. w.p ≢ v.p) (x ∷ earlier)
    → Any (λ v. v.p ≡ p) earlier → old.after p ≢ Some w.p
not_after old file p w x earlier lead apart has is = elim (after_among old file p (Some x.p) earlier lead has) [
  | inl next ↦ All-head (λ v. w.p ≢ v.p) x earlier apart (same_process w.p x.p (sym is ∙ next))
  | inr (k, v, within, v_is, holds) ↦
      All-tail (λ v. w.p ≢ v.p) x earlier apart k v within (same_process w.p v.p (sym is ∙ holds.0) ∙ ap (λ (u : Wait). u.p) (sym v_is))
]

-- who stands before a wait once that of the process has left
before_left : (old new : Links) (file p : ℕ) (w : Wait) (earlier : List Wait) → Leaves old new p → w.p ≤ 64 → All (λ v. w.p ≢ v.p) earlier
    → old.before w.p ≡ first_process earlier → Lead old file (Some w.p) earlier → Any (λ v. v.p ≡ p) earlier
    → new.before w.p ≡ first_process (without_wait_of earlier p)
before_left old new file p w [] leaves few apart before lead has = absurd (Any-nil (λ v. v.p ≡ p) has)
before_left old new file p w (x ∷ earlier) leaves few apart before lead has = elim (cases_eq x.p p) [
  | inl first ↦
      let rest : without_wait_of earlier p ≡ earlier = all_stay earlier p (All-weaker (λ v. x.p ≢ v.p) (λ v. v.p ≢ p) (λ v other e. other (first ∙ sym e)) earlier lead.0.apart) in
      rw (passes x p first) (rw rest (leaves.before_next w.p few (ap old.after (sym first) ∙ lead.0.after) ∙ ap old.before (sym first) ∙ lead.0.before))
  | inr other ↦
      let behind : Any (λ v. v.p ≡ p) earlier = elim (Any-cons (λ v. v.p ≡ p) x earlier has) [ inl here ↦ absurd (other here) | inr there ↦ there ] in
      rw (stays x p other) (leaves.before w.p few (not_after old file p w x earlier lead.1 apart behind) ∙ before)
]

-- the wait before those of which the process' one leaves
left_before : (old new : Links) (file p : ℕ) (next : Option ℕ) (w : Wait) (earlier : List Wait) → Leaves old new p → Stands old file next w earlier
    → Lead old file (Some w.p) earlier → w.p ≢ p → Any (λ v. v.p ≡ p) earlier → Stands new file next w (without_wait_of earlier p)
left_before old new file p next w earlier leaves here lead other has = record {
  few = here.few;
  on_file = here.on_file;
  apart = All-filter (λ (v : Wait). not (v.p == p)) (λ v. w.p ≢ v.p) earlier here.apart;
  itself = leaves.waits w.p other ∙ here.itself;
  before = before_left old new file p w earlier leaves here.few here.apart here.before lead has;
  after = leaves.after w.p here.few (λ before.
      let (k, v, within, is, v_is) = before_among old file p w.p (Some w.p) earlier lead has before in
      here.apart k v within (sym v_is.0 ∙ ap (λ (u : Wait). u.p) (sym is))) ∙ here.after;
}

-- the wait of the process is one of these, which lead to the next process
left_file : (old new : Links) (file p : ℕ) (next : Option ℕ) (waits : List Wait) → Leaves old new p → Lead old file next waits
    → Any (λ v. v.p ≡ p) waits → All (λ v. next ≢ Some v.p) waits → Lead new file next (without_wait_of waits p)
left_file old new file p next [] leaves lead has later = absurd (Any-nil (λ v. v.p ≡ p) has)
left_file old new file p next (w ∷ earlier) leaves lead has later = elim (cases_eq w.p p) [
  | inl here ↦
      let apart : All (λ v. p ≢ v.p) earlier = subst (λ (q : ℕ). All (λ v. q ≢ v.p) earlier) here lead.0.apart in
      let rest : without_wait_of earlier p ≡ earlier = all_stay earlier p (All-weaker (λ v. p ≢ v.p) (λ v. v.p ≢ p) (λ v other e. other (sym e)) earlier apart) in
      rw (passes w p here) (rw rest (left_behind old new file p next earlier leaves
      (subst (λ (q : ℕ). Lead old file (Some q) earlier) here lead.1) apart (All-tail (λ v. next ≢ Some v.p) w earlier later)
      (subst (λ (q : ℕ). old.before q ≡ first_process earlier) here lead.0.before)
      (subst (λ (q : ℕ). old.after q ≡ next) here lead.0.after)))
  | inr other ↦
      let behind : Any (λ v. v.p ≡ p) earlier = elim (Any-cons (λ v. v.p ≡ p) w earlier has) [ inl here ↦ absurd (other here) | inr there ↦ there ] in
      rw (stays w p other) (
        left_before old new file p next w earlier leaves lead.0 lead.1 other behind,
        left_file old new file p (Some w.p) earlier leaves lead.1 behind
            (λ k d within e. lead.0.apart k d within (same_process w.p _ e)),
      )
]

-- the latest wait once that of the process has left, which is one of these
latest_left : (old : Links) (file p : ℕ) (waits : List Wait) (latest : Option ℕ) → Lead old file None waits → Any (λ v. v.p ≡ p) waits
    → (old.after p ≡ None → latest ≡ old.before p) → (old.after p ≢ None → latest ≡ first_process waits)
    → latest ≡ first_process (without_wait_of waits p)
latest_left old file p [] latest lead has none some = absurd (Any-nil (λ v. v.p ≡ p) has)
latest_left old file p (x ∷ earlier) latest lead has none some = elim (cases_eq x.p p) [
  | inl first ↦
      let rest : without_wait_of earlier p ≡ earlier = all_stay earlier p (All-weaker (λ v. x.p ≢ v.p) (λ v. v.p ≢ p) (λ v other e. other (first ∙ sym e)) earlier lead.0.apart) in
      rw (passes x p first) (rw rest (none (ap old.after (sym first) ∙ lead.0.after) ∙ ap old.before (sym first) ∙ lead.0.before))
  | inr other ↦
      let behind : Any (λ v. v.p ≡ p) earlier = elim (Any-cons (λ v. v.p ≡ p) x earlier has) [ inl here ↦ absurd (other here) | inr there ↦ there ] in
      rw (stays x p other) (some (λ is. elim (after_among old file p (Some x.p) earlier lead.1 behind) [
        | inl next ↦ (let wrong : None ≡ Some x.p = sym is ∙ next in absurd cc)
        | inr (k, v, within, v_is, holds) ↦ (let wrong : None ≡ Some v.p = sym is ∙ holds.0 in absurd cc)
      ]))
]

-- the waits on another file are others' and keep their places
left_elsewhere : (old new : Links) (p file file' : ℕ) (waits others : List Wait) → Leaves old new p → file ≢ file' → Lead old file None waits
    → Any (λ v. v.p ≡ p) waits → Lead old file' None others → All (λ v. v.p ≢ p) others × Lead new file' None others
left_elsewhere old new p file file' waits others leaves other lead has elsewhere =
    let linked = all_linked old file' None others elsewhere in
    let (i, own, inside, own_is, of_p) = has in
    let itself = subst (IsLinked old file) own_is (all_linked old file None waits lead i own inside) in
    let apart : All (λ v. v.p ≢ p) others = λ k d within same. other (sym itself.on_file
    ∙ ap (λ (w : Wait). w.file) (one_itself old file file' own _ itself (linked k d within) (of_p ∙ sym same)) ∙ (linked k d within).on_file) in (
      apart,
      kept old new file' None others
          (λ k d within. apart_kept old new p file' _ leaves (linked k d within) (apart k d within)
          (λ e.
          let (j, v, there, is, v_is) = before_among old file p _ None waits lead has e in
          other (sym v_is.1.on_file ∙ ap (λ (w : Wait). w.file) (one_itself old file file' v _ v_is.1 (linked k d within) v_is.0) ∙ (linked k d within).on_file))
          (λ e. elim (after_among old file p None waits lead has) [
            | inl none ↦ (let wrong : None ≡ Some (get_or others k d).p = sym none ∙ e in absurd cc)
            | inr (j, v, there, is, v_is) ↦ other (sym v_is.1.on_file
                ∙ ap (λ (w : Wait). w.file) (one_itself old file file' v _ v_is.1 (linked k d within) (same_process v.p _ (sym v_is.0 ∙ e))) ∙ (linked k d within).on_file)
          ]))
          elsewhere,
    )

-- the waits on each file after that of the process has left
pub lead_left : (old new : Links) (queues : ℕ → List Wait) (p file : ℕ) → Leaves old new p → ((f : ℕ) → Lead old f None (queues f))
    → Any (λ v. v.p ≡ p) (queues file) → (f : ℕ) → Lead new f None (without_wait queues p f)
lead_left old new queues p file leaves lead has f = elim (cases_eq file f) [
  | inl here ↦ subst (λ (g : ℕ). Lead new g None (without_wait queues p g)) here
      (left_file old new file p None (queues file) leaves (lead file) has (λ k d within e. cc))
  | inr other ↦
      let (apart, leads) = left_elsewhere old new p file f (queues file) (queues f) leaves other (lead file) has (lead f) in
      rw (all_stay (queues f) p apart) leads
]

-- and the latest of them
pub first_left : (old new : Links) (queues : ℕ → List Wait) (p file : ℕ) (latest : ℕ → Option ℕ) → Leaves old new p
    → ((f : ℕ) → Lead old f None (queues f)) → Any (λ v. v.p ≡ p) (queues file) → (old.after p ≡ None → latest file ≡ old.before p)
    → (old.after p ≢ None → latest file ≡ first_process (queues file)) → ((f : ℕ) → file ≢ f → latest f ≡ first_process (queues f))
    → (f : ℕ) → latest f ≡ first_process (without_wait queues p f)
first_left old new queues p file latest leaves lead has none some others f = elim (cases_eq file f) [
  | inl here ↦ subst (λ (g : ℕ). latest g ≡ first_process (without_wait queues p g)) here
      (latest_left old file p (queues file) (latest file) (lead file) has none some)
  | inr other ↦
      let (apart, leads) = left_elsewhere old new p file f (queues file) (queues f) leaves other (lead file) has (lead f) in
      rw (all_stay (queues f) p apart) (others f other)
]
