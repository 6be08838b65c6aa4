-- What was told outlives each later view, given what holds at each moment.
use Rattle.cluster_protocol.proofs.Common.{◌≡◌, ◌⊎◌, ◌∙◌, ◌*◌, ◌<◌, ◌≤◌, ◌++◌, ◌∷◌, ◌&&◌, [], ℕ, zero, suc, Bool, true, false, List, Option, None, Some, length, arith, ap, inl, inr, refl, sym, subst, max, if◌then◌else◌, nat_tests, Decision, Hello, View, Decides, IsBefore, Cluster, Entry, IsBeginning, Purge, same_view, weight, IsOfView, Copy, Counts, hello_in, hellos_of, History, log_at, NoProcess, Speaks, start_of, Word}
use Rattle.cluster_view.specs.declared.base.Base.{Base}
use Rattle.cluster_view.specs.declared.decision.Decision.TheVariants.{NoView, Begins, GoesOn}
use Rattle.cluster_view.specs.Bases.{base_at, IsBehind}
use Rattle.cluster_view.specs.Decisions.{ComesTo}
use Rattle.cluster_view.specs.Hellos.{Tells, tells}
use Rattle.cluster_view.specs.Votes as hello_votes
use Rattle.cluster_protocol.specs.Clusters.{IsPurgedIn}
use Rattle.cluster_protocol.specs.Outliving.{Outlives, Stays}
use Rattle.cluster_protocol.specs.Worlds.{hello_of, log_told, loses, purges_below, start_by}
use Rattle.cluster_protocol.proofs.HearLemmas.{after_more, same_view_is}
use Rattle.cluster_protocol.proofs.HelloLemmas.{all_below, any_below, majority_below, passed, passes}
use Rattle.cluster_protocol.proofs.Kept.{HistoryIsKept, InOrder, IsCommitted, IsDecided, IsState, IsToldLock, Reaches}
use Rattle.cluster_protocol.proofs.LogLemmas.{begin_both, begin_front, begin_through, purged_longer, stays_longer}
use Rattle.cluster_protocol.proofs.ViewLemmas.{before_not, before_self, by_view}
use Rattle.cluster_protocol.proofs.VoteLaws.{majorities}

-- two logs of one round in order: the shorter is a beginning of the longer
pub in_order_both : (cluster : Cluster) (history : History) (round : ℕ) (a b : List Entry) → InOrder cluster history round a
    → InOrder cluster history round b → length a ≤ length b → IsBeginning a b
in_order_both cluster history round a b p q le =
    let far : ℕ = max p.count q.count in
    begin_both a b (log_at cluster history round far)
    (begin_through a (log_at cluster history round p.count) (log_at cluster history round far) p.begins
    (after_more cluster (cluster.view round) (start_of cluster history round) (history.order round) p.count far (omega arith)))
    (begin_through b (log_at cluster history round q.count) (log_at cluster history round far) q.begins
    (after_more cluster (cluster.view round) (start_of cluster history round) (history.order round) q.count far (omega arith)))
    le

-- what the view began with is a beginning of the state
pub start_begins : (cluster : Cluster) (history : History) (copy : Copy) → IsState cluster history copy
    → IsBeginning (start_of cluster history copy.round) copy.log
start_begins cluster history copy state =
    begin_both (start_of cluster history copy.round) copy.log (log_at cluster history copy.round state.in_order.count)
    (after_more cluster (cluster.view copy.round) (start_of cluster history copy.round) (history.order copy.round) 0 state.in_order.count (omega arith))
    state.in_order.begins state.from_start

-- a decision for a view is one that the members come to
pub comes_of : (ring : ℕ) (hellos : List Hello) (view : View) (decision : Decision) → IsOfView decision view → Decides ring hellos decision
    → ComesTo ring hellos decision
comes_of ring hellos view (GoesOn next base) of decides = decides
comes_of ring hellos view (Begins next) of decides = decides
comes_of ring hellos view (NoView reason) of decides = absurd of

-- rounds that were decided for views of one number are one

most_of : (cluster : Cluster) (history : History) (round : ℕ) (decision : Decision) → IsDecided cluster history round decision
    → cluster.expected < 2 * weight cluster.votes (λ node. passes hello_votes.everyone (hello_in cluster node (history.said round node))) cluster.nodes
most_of cluster history round decision is =
    majority_below cluster hello_votes.everyone (history.said round) cluster.nodes
    (comes_of (cluster.view round).ring (hellos_of cluster history round) (cluster.view round) decision is.of_view is.decides).can.majority

pub one_round : (cluster : Cluster) (history : History) → HistoryIsKept cluster history → (one other : ℕ) (a b : Decision)
    → history.came one ≡ Some a → history.came other ≡ Some b → cluster.view one ≡ cluster.view other → one ≡ other
one_round cluster history kept one other a b came come same =
    let both = majorities cluster.votes cluster.expected cluster.nodes
    (λ node. passes hello_votes.everyone (hello_in cluster node (history.said one node)))
    (λ node. passes hello_votes.everyone (hello_in cluster node (history.said other node)))
    cluster.enough (most_of cluster history one a (kept.decided one a came)) (most_of cluster history other b (kept.decided other b come)) in
    let here = passed cluster hello_votes.everyone (history.said one) both.0 (history.said one both.0) refl both.2 in
    let there = passed cluster hello_votes.everyone (history.said other) both.0 (history.said other both.0) refl both.3 in
    elim (kept.rise one other both.0 (Speaks here.known here.state) (Speaks there.known there.state) here.is there.is) [
      | inl equal ↦ equal
      | inr (inl before) ↦ absurd (before_self (cluster.view one) (cluster.view other) same before)
      | inr (inr behind) ↦ absurd (before_self (cluster.view other) (cluster.view one) (sym same) behind)
    ]

-- who gives the state

tells_state : (cluster : Cluster) (node : ℕ) (known : View) (state : Option Copy) (view : View) → Tells view (hello_of cluster node known state)
    → (copy : Copy) × (state ≡ Some copy) × (cluster.view copy.round ≡ view)
tells_state cluster node known None view told = let off = told.0 in cc
tells_state cluster node known (Some copy) view told = (copy, refl, told.1)

-- the giver told a state of the base's view, with the base's log
pub record Giver (cluster : Cluster) (history : History) (round : ℕ) (base : Base) : Type 0 where
  pub known : View
  pub copy : Copy
  pub said : history.said round base.giver ≡ Some (Speaks known (Some copy))
  pub of_view : cluster.view copy.round ≡ base.view
  pub long : base.log.length ≡ length copy.log

giver_of : (cluster : Cluster) (history : History) (round node : ℕ) (base : Base) (known : View) (state : Option Copy)
    → history.said round node ≡ Some (Speaks known state) → Tells base.view (hello_of cluster node known state)
    → base ≡ base_at base.view (hello_of cluster node known state) → Giver cluster history round base
giver_of cluster history round node base known None said told is = let off = told.0 in cc
giver_of cluster history round node base known (Some copy) said told is = record {
  known = known;
  copy = copy;
  said = subst (λ (at : ℕ). history.said round at ≡ Some (Speaks known (Some copy))) (sym (ap (λ (b : Base). b.giver) is)) said;
  of_view = told.1;
  long = ap (λ (b : Base). b.log.length) is;
}

pub giver : (cluster : Cluster) (history : History) (round : ℕ) (view : View) (base : Base) → IsDecided cluster history round (GoesOn view base)
    → Giver cluster history round base
giver cluster history round view base is =
    let one = any_below cluster (λ (hello : Hello). Tells base.view hello × (base ≡ base_at base.view hello)) (history.said round) cluster.nodes is.decides.from.3.told in
    giver_of cluster history round one.0 base one.2.known one.2.state one.2.is one.2.holds.0 one.2.holds.1

-- the giver's log is no shorter than that of another state of the view

behind_short : (cluster : Cluster) (node : ℕ) (known : View) (copy : Copy) (base : Base) → IsBehind (hello_of cluster node known (Some copy)) base
    → length copy.log ≤ base.log.length
behind_short cluster node known copy base behind = grind arith

pub longest : (cluster : Cluster) (history : History) (round : ℕ) (view : View) (base : Base) (node : ℕ) (known : View) (copy : Copy)
    → IsDecided cluster history round (GoesOn view base) → node < cluster.nodes → history.said round node ≡ Some (Speaks known (Some copy))
    → cluster.view copy.round ≡ base.view → length copy.log ≤ base.log.length
longest cluster history round view base node known copy is lt said of =
    behind_short cluster node known copy base
    (all_below cluster (λ (hello : Hello). Tells base.view hello → IsBehind hello base) (history.said round) cluster.nodes node known (Some copy) lt said
    is.decides.from.3.best (refl, of))

-- what stays in each state of a round
abbrev pub StaysIn : Cluster → History → Copy → ℕ → ℕ → Type 0
StaysIn cluster history told node round =
    IsBefore (cluster.view told.round) (cluster.view round) → (copy : Copy) → copy.round ≡ round → IsState cluster history copy → Counts cluster history copy
    → Stays (cluster.view told.round) node told.log copy.log

-- what a later state of an acknowledging node reaches, the giver's log has, or an earlier round's states had
reached : (cluster : Cluster) (history : History) → HistoryIsKept cluster history → (told : Copy) (node round : ℕ) (view : View) (base : Base)
    → IsDecided cluster history round (GoesOn view base) → InOrder cluster history told.round told.log
    → ((other : ℕ) → IsBefore (cluster.view other) (cluster.view round) → StaysIn cluster history told node other)
    → (at : ℕ) (known : View) (copy : Copy) (count : ℕ) → at < cluster.nodes → history.said round at ≡ Some (Speaks known (Some copy))
    → cluster.view copy.round ≡ base.view → length told.log ≤ count → Reaches cluster told.round count copy
    → Stays (cluster.view told.round) node told.log (log_told (history.said round base.giver))
reached cluster history kept told node round view base is in_order earlier at known copy count lt said of enough (inl later) =
    let gives = giver cluster history round view base is in
    let state = kept.told round base.giver gives.known gives.copy gives.said in
    let after : IsBefore (cluster.view told.round) (cluster.view gives.copy.round) =
    subst (λ (v : View). IsBefore (cluster.view told.round) v) (of ∙ sym gives.of_view) later in
    rw gives.said (earlier gives.copy.round state.earlier after gives.copy refl state.state state.counts)
reached cluster history kept told node round view base is in_order earlier at known copy count lt said of enough (inr here) =
    let gives = giver cluster history round view base is in
    let state = kept.told round base.giver gives.known gives.copy gives.said in
    let told_state = kept.told round at known copy said in
    let same : gives.copy.round ≡ copy.round =
    one_round cluster history kept gives.copy.round copy.round state.state.came.0 told_state.state.came.0 state.state.came.1 told_state.state.came.1
    (gives.of_view ∙ sym of) in
    let least : length copy.log ≤ base.log.length = longest cluster history round view base at known copy is lt said of in
    let long = gives.long in
    let have = here.1 in
    let ordered : InOrder cluster history told.round gives.copy.log =
    subst (λ (at_round : ℕ). InOrder cluster history at_round gives.copy.log) (same ∙ here.0) state.state.in_order in
    rw gives.said (inl (in_order_both cluster history told.round told.log gives.copy.log in_order ordered (omega arith)))

-- what was told stays in the log that a later view goes on from
pub base_stays : (cluster : Cluster) (history : History) → HistoryIsKept cluster history → (told : Copy) (node round : ℕ) (view : View) (base : Base)
    → IsCommitted cluster history told → history.came round ≡ Some (GoesOn view base) → IsBefore (cluster.view told.round) (cluster.view round)
    → ((other : ℕ) → IsBefore (cluster.view other) (cluster.view round) → StaysIn cluster history told node other)
    → Stays (cluster.view told.round) node told.log (log_told (history.said round base.giver))
base_stays cluster history kept told node round view base committed came after earlier =
    let is = kept.decided round (GoesOn view base) came in
    let both = majorities cluster.votes cluster.expected cluster.nodes committed.acked
    (λ member. passes (tells base.view) (hello_in cluster member (history.said round member)))
    cluster.enough committed.majority
    (majority_below cluster (tells base.view) (history.said round) cluster.nodes is.decides.from.1.majority) in
    let spoke = passed cluster (tells base.view) (history.said round) both.0 (history.said round both.0) refl both.3 in
    let tells_it = tells_state cluster both.0 spoke.known spoke.state base.view
    (told_is base.view (hello_of cluster both.0 spoke.known spoke.state) spoke.holds) in
    let said : history.said round both.0 ≡ Some (Speaks spoke.known (Some tells_it.0)) =
    spoke.is ∙ ap (λ (state : Option Copy). Some (Speaks spoke.known state)) tells_it.1 in
    let acked = committed.each both.0 both.2 in
    let ack = kept.acks told.round acked.0 both.0 acked.1 acked.2 acked.3 in
    reached cluster history kept told node round view base is committed.in_order earlier both.0 spoke.known tells_it.0 acked.1 both.1 said tells_it.2 acked.4
    (ack.later round spoke.known tells_it.0 after said)
  where
    told_is : (v : View) (hello : Hello) → tells v hello ≡ true → Tells v hello
    told_is v hello test =
        let has : hello.has_state ≡ true = grind (arith, nat_tests) in
        let same : same_view hello.state.view v ≡ true = grind (arith, nat_tests) in
        (has, same_view_is hello.state.view v same)

-- purges of nodes that pass

purges_has : (view : View) (test : ℕ → Bool) (n node : ℕ) → node < n → test node ≡ true → (here : (node < n) ⊎ (n ≤ node))
    → IsPurgedIn node view (purges_below view test n)
purges_has view test zero node lt is here = absurd (omega arith)
purges_has view test (suc n) node lt is here =
    elim (le_or_lt node n) [
      | inl less ↦
          purged_longer node view (purges_below view test n) (purges_below view test n ++ (if test n then Purge n view ∷ [] else []))
          (purges_has view test n node less is (inl less)) (begin_front (purges_below view test n) (if test n then Purge n view ∷ [] else []))
      | inr le ↦ (
          let same : n ≡ node = omega arith in
          let passes_it : test n ≡ true = ap test same ∙ is in
          record {
            before = purges_below view test n;
            behind = [];
            is = rw passes_it (ap (λ (at : ℕ). purges_below view test n ++ Purge at view ∷ []) (sym same));
          })
    ]
  where
    le_or_lt : (a b : ℕ) → (a < b) ⊎ (b ≤ a)
    le_or_lt a b = grind arith

-- what was told stays in each state of a later round
state_stays : (cluster : Cluster) (history : History) → HistoryIsKept cluster history → (told : Copy) (node : ℕ) → node < cluster.nodes
    → IsCommitted cluster history told → (round : ℕ)
    → ((other : ℕ) → IsBefore (cluster.view other) (cluster.view round) → StaysIn cluster history told node other) → (decision : Decision)
    → history.came round ≡ Some decision → IsBefore (cluster.view told.round) (cluster.view round) → (log : List Entry)
    → (start : IsBeginning (start_by cluster (history.said round) round (Some decision)) log) → Counts cluster history (record { round = round; log = log })
    → Stays (cluster.view told.round) node told.log log
state_stays cluster history kept told node lt committed round earlier (NoView reason) came after log start counts =
    absurd ((kept.decided round (NoView reason) came).of_view)
state_stays cluster history kept told node lt committed round earlier (GoesOn view base) came after log start counts =
    stays_longer (cluster.view told.round) node told.log (log_told (history.said round base.giver)) log
    (base_stays cluster history kept told node round view base committed came after earlier)
    (begin_through (log_told (history.said round base.giver)) (start_by cluster (history.said round) round (Some (GoesOn view base))) log
    (begin_front (log_told (history.said round base.giver))
    (purges_below (cluster.view round) (λ at. cluster.ring round at && loses base.view (hello_in cluster at (history.said round at))) cluster.nodes))
    start)
state_stays cluster history kept told node lt committed round earlier (Begins view) came after log start counts =
    inr (record {
      later = cluster.view round;
      is_later = after;
      purged = in_ring (cluster.ring round node) refl;
    })
  where
    in_ring : (test : Bool) → cluster.ring round node ≡ test → IsPurgedIn node (cluster.view round) log
    in_ring true is = purged_longer node (cluster.view round) (purges_below (cluster.view round) (cluster.ring round) cluster.nodes) log
        (purges_has (cluster.view round) (cluster.ring round) cluster.nodes node lt is (inl lt)) start
    in_ring false is = counts view node came lt is

stays_step : (cluster : Cluster) (history : History) → HistoryIsKept cluster history → (told : Copy) (node : ℕ) → node < cluster.nodes
    → IsCommitted cluster history told → (round : ℕ)
    → ((other : ℕ) → IsBefore (cluster.view other) (cluster.view round) → StaysIn cluster history told node other) → StaysIn cluster history told node round
stays_step cluster history kept told node lt committed round earlier after copy is state counts =
    let came : history.came round ≡ Some state.came.0 = subst (λ (at : ℕ). history.came at ≡ Some state.came.0) is state.came.1 in
    let start : IsBeginning (start_by cluster (history.said round) round (Some state.came.0)) copy.log =
    subst (λ (decision : Option Decision). IsBeginning (start_by cluster (history.said round) round decision) copy.log) came
    (subst (λ (at : ℕ). IsBeginning (start_of cluster history at) copy.log) is (start_begins cluster history copy state)) in
    let counted : Counts cluster history (record { round = round; log = copy.log }) =
    subst (λ (at : ℕ). Counts cluster history (record { round = at; log = copy.log })) is counts in
    state_stays cluster history kept told node lt committed round earlier state.came.0 came after copy.log start counted

pub all_stay : (cluster : Cluster) (history : History) → HistoryIsKept cluster history → (told : Copy) (node : ℕ) → node < cluster.nodes
    → IsCommitted cluster history told → (round : ℕ) → StaysIn cluster history told node round
all_stay cluster history kept told node lt committed =
    by_view cluster.view (StaysIn cluster history told node) (stays_step cluster history kept told node lt committed)

-- the theorem, given what holds

begins_where : (cluster : Cluster) (history : History) (told : Copy) (node round : ℕ) (view : View) → IsDecided cluster history round (Begins view)
    → IsToldLock cluster history node told → IsBefore (cluster.view told.round) (cluster.view round) → (test : Bool) → cluster.ring round node ≡ test
    → Outlives cluster history told node round (Begins view)
begins_where cluster history told node round view is lock after false ring = inl ring
begins_where cluster history told node round view is lock after true ring =
    let said = is.all node lock.is_node ring in spoke said.0 said.1
  where
    spoke : (word : Word) → history.said round node ≡ Some word → Outlives cluster history told node round (Begins view)
    spoke NoProcess said = absurd (before_not (cluster.view round) (cluster.view told.round) (lock.process round said) after)
    spoke (Speaks known state) said = inr (known, state, said)

pub outlives : (cluster : Cluster) (history : History) → HistoryIsKept cluster history → (told : Copy) (node round : ℕ) (decision : Decision)
    → IsToldLock cluster history node told → history.came round ≡ Some decision → IsBefore (cluster.view told.round) (cluster.view round)
    → Outlives cluster history told node round decision
outlives cluster history kept told node round (NoView reason) lock came after = (kept.decided round (NoView reason) came).of_view
outlives cluster history kept told node round (GoesOn view base) lock came after =
    base_stays cluster history kept told node round view base lock.committed came after
    (λ other before. all_stay cluster history kept told node lock.is_node lock.committed other)
outlives cluster history kept told node round (Begins view) lock came after =
    begins_where cluster history told node round view (kept.decided round (Begins view) came) lock after (cluster.ring round node) refl
