-- What the steps leave by which a node says a word, or decides.
use Rattle.cluster_protocol.proofs.Common.{◌≡◌, ◌≢◌, ◌⊎◌, ◌∙◌, ◌<◌, [], ℕ, true, List, None, Some, ap, inl, inr, sym, subst, slice_get, Decision, View, IsBefore, Cluster, Apart, Copy, Hearing, History, Member, Message, Speaks, Taking, Word, World, append-nil, NoProcess}
use Rattle.cluster_protocol.proofs.Kept.{ack, HistoryIsKept, IsAckAt, MemberIsKept, WorldIsKept}
use Rattle.cluster_protocol.specs.Steps.{Lacks, Says}
use Rattle.cluster_protocol.proofs.ExtendLemmas.{ack_on, decided_on, member_on, told_state_on}
use Rattle.cluster_protocol.proofs.Kept.{Extends, IsToldState, Reaches}
use Rattle.cluster_protocol.proofs.MoveLaws.{becomes_all, same_or_not}
use Rattle.cluster_protocol.proofs.ViewLemmas.{before_not, before_self, before_trans}

-- a node said nothing in a later round than its last
pub unsaid : (cluster : Cluster) (history : History) (node round : ℕ) (member : Member) → MemberIsKept cluster history node member
    → IsBefore (cluster.view member.round) (cluster.view round) → (word : Word) → history.said round node ≡ Some word → ⊥
unsaid cluster history node round member m rises word said =
    elim (m.latest round word said) [
      | inl same ↦ before_self (cluster.view member.round) (cluster.view round) (ap cluster.view (sym same)) rises
      | inr before ↦ before_not (cluster.view round) (cluster.view member.round) before rises
    ]

-- and the round has come to nothing
pub uncame : (cluster : Cluster) (history : History) → HistoryIsKept cluster history → (node round : ℕ) (member : Member)
    → MemberIsKept cluster history node member → node < cluster.nodes → cluster.ring round node ≡ true
    → IsBefore (cluster.view member.round) (cluster.view round) → (decision : Decision) → history.came round ≡ Some decision → ⊥
uncame cluster history kept node round member m lt ring rises decision came =
    let said = (kept.decided round decision came).all node lt ring in unsaid cluster history node round member m rises said.0 said.1

-- with one word more the history goes on
pub says_on : (old new : History) (round node : ℕ) (word : Word) → Says old new round node word
    → ((other : Word) → old.said round node ≡ Some other → ⊥) → ((decision : Decision) → old.came round ≡ Some decision → ⊥) → Extends old new
says_on old new round node word says none never = record {
  said = λ r n other is. at r n other is (same_or_not r round) (same_or_not n node);
  came = λ r decision is. says.came r ∙ is;
  settled = λ r decision is n. says.others r n
      (λ same. absurd (never decision (ap (λ (k : ℕ). old.came k) (sym same) ∙ is)));
  order = λ r. ([], append-nil (old.order r) ∙ sym (says.order r));
}
  where
    at : (r n : ℕ) (other : Word) → old.said r n ≡ Some other → (r ≡ round) ⊎ (r ≢ round) → (n ≡ node) ⊎ (n ≢ node) → new.said r n ≡ Some other
    at r n other is (inl same) (inl one) =
        absurd (none other (ap (λ (k : ℕ). old.said k node) (sym same) ∙ ap (λ (k : ℕ). old.said r k) (sym one) ∙ is))
    at r n other is (inl same) (inr not) = says.others r n (λ round_is. not) ∙ is
    at r n other is (inr not) one = says.others r n (λ round_is. absurd (not round_is)) ∙ is

-- what is said now was said, or is the word
pub said_or : (old new : History) (round node : ℕ) (word : Word) → Says old new round node word → (r n : ℕ)
    → ((r ≡ round) × (n ≡ node)) ⊎ (new.said r n ≡ old.said r n)
said_or old new round node word says r n = at (same_or_not r round) (same_or_not n node)
  where
    at : (r ≡ round) ⊎ (r ≢ round) → (n ≡ node) ⊎ (n ≢ node) → ((r ≡ round) × (n ≡ node)) ⊎ (new.said r n ≡ old.said r n)
    at (inl same) (inl one) = inl (same, one)
    at (inl same) (inr not) = inr (says.others r n (λ round_is. not))
    at (inr not) one = inr (says.others r n (λ round_is. absurd (not round_is)))

said_word : (new : History) (round node : ℕ) (word : Word) → new.said round node ≡ Some word → (r n : ℕ) (other : Word) → r ≡ round → n ≡ node
    → new.said r n ≡ Some other → word ≡ other
said_word new round node word is r n other same one said =
    let both : Some word ≡ Some other = sym is ∙ ap (λ (k : ℕ). new.said k node) (sym same) ∙ ap (λ (k : ℕ). new.said r k) (sym one) ∙ said in cc

pub says_history : (cluster : Cluster) (old new : History) (round node : ℕ) (word : Word) (member : Member) → HistoryIsKept cluster old
    → Says old new round node word → Extends old new → MemberIsKept cluster old node member → IsBefore (cluster.view member.round) (cluster.view round)
    → ((known : View) (copy : Copy) → word ≡ Speaks known (Some copy) → IsToldState cluster old round copy)
    → ((known : View) (copy : Copy) (r place count digest : ℕ) → word ≡ Speaks known (Some copy) → IsAckAt cluster old r place node count digest
    → Reaches cluster r count copy)
    → HistoryIsKept cluster new
says_history cluster old new round node word member kept says on m rises state reaches = record {
  decided = λ r decision came.
      let before = sym (says.came r) ∙ came in decided_on cluster old new on r decision before (kept.decided r decision before);
  told = λ r n known copy said. elim (said_or old new round node word says r n) [
    | inl here ↦ (
        let is : word ≡ Speaks known (Some copy) = said_word new round node word says.is r n (Speaks known (Some copy)) here.0 here.1 said in
        subst (λ (k : ℕ). IsToldState cluster new k copy) (sym here.0) (told_state_on cluster old new on round copy (state known copy is)))
    | inr same ↦ told_state_on cluster old new on r copy (kept.told r n known copy (sym same ∙ said))
  ];
  rise = λ one other n a b is are. rise one other n a b is are (said_or old new round node word says one n) (said_or old new round node word says other n);
  acks = λ r place n count digest at.
      let before = subst (λ (order : List Message). slice_get order place ≡ Some (ack cluster r n count digest)) (says.order r) at in
      let is = kept.acks r place n count digest before in
      ack_on cluster old new on r n count digest is (λ other known copy later said. elim (said_or old new round node word says other n) [
        | inl here ↦ reaches known copy r place count digest (said_word new round node word says.is other n (Speaks known (Some copy)) here.0 here.1 said)
            (subst (λ (k : ℕ). IsAckAt cluster old r place k count digest) here.1 before)
        | inr same ↦ is.later other known copy later (sym same ∙ said)
      ]);
}
  where
    -- the round of the word is later than each other of the node
    behind : (r n : ℕ) (a : Word) → n ≡ node → old.said r n ≡ Some a → IsBefore (cluster.view r) (cluster.view round)
    behind r n a one said =
        elim (m.latest r a (ap (λ (k : ℕ). old.said r k) (sym one) ∙ said)) [
          | inl same ↦ subst (λ (k : ℕ). IsBefore (cluster.view k) (cluster.view round)) (sym same) rises
          | inr before ↦ before_trans (cluster.view r) (cluster.view member.round) (cluster.view round) before rises
        ]

    rise : (one other n : ℕ) (a b : Word) → new.said one n ≡ Some a → new.said other n ≡ Some b
        → ((one ≡ round) × (n ≡ node)) ⊎ (new.said one n ≡ old.said one n) → ((other ≡ round) × (n ≡ node)) ⊎ (new.said other n ≡ old.said other n)
        → (one ≡ other) ⊎ (IsBefore (cluster.view one) (cluster.view other) ⊎ IsBefore (cluster.view other) (cluster.view one))
    rise one other n a b is are (inl here) (inl there) = inl (here.0 ∙ sym there.0)
    rise one other n a b is are (inl here) (inr same) =
        inr (inr (subst (λ (k : ℕ). IsBefore (cluster.view other) (cluster.view k)) (sym here.0) (behind other n b here.1 (sym same ∙ are))))
    rise one other n a b is are (inr same) (inl there) =
        inr (inl (subst (λ (k : ℕ). IsBefore (cluster.view one) (cluster.view k)) (sym there.0) (behind one n a there.1 (sym same ∙ is))))
    rise one other n a b is are (inr same) (inr too) = kept.rise one other n a b (sym same ∙ is) (sym too ∙ are)

-- another node is kept
pub others_on : (cluster : Cluster) (old new : History) (round node : ℕ) (word : Word) → Says old new round node word → Extends old new → (other : ℕ)
    (member : Member) → other ≢ node → MemberIsKept cluster old other member → MemberIsKept cluster new other member
others_on cluster old new round node word says on other member not m =
    member_on cluster old new on other member (λ r. says.others r other (λ same. not))
    (λ r place count digest at. subst (λ (order : List Message). slice_get order place ≡ Some (ack cluster r other count digest)) (says.order r) at) m

-- its last round is the latest in which a node said a word
pub latest_says : (cluster : Cluster) (old new : History) (round node : ℕ) (word : Word) (member : Member) → Says old new round node word
    → MemberIsKept cluster old node member → IsBefore (cluster.view member.round) (cluster.view round) → (r : ℕ) (other : Word)
    → new.said r node ≡ Some other → (r ≡ round) ⊎ IsBefore (cluster.view r) (cluster.view round)
latest_says cluster old new round node word member says m rises r other said =
    elim (said_or old new round node word says r node) [
      | inl here ↦ inl here.0
      | inr same ↦ inr (
          elim (m.latest r other (sym same ∙ said)) [
            | inl one ↦ subst (λ (k : ℕ). IsBefore (cluster.view k) (cluster.view round)) (sym one) rises
            | inr before ↦ before_trans (cluster.view r) (cluster.view member.round) (cluster.view round) before rises
          ])
    ]

pub lacks : (cluster : Cluster) (old new : World) (node round : ℕ) → WorldIsKept cluster old → Lacks cluster old node round new → WorldIsKept cluster new
lacks cluster old new node round kept step =
    let m = kept.members node in
    let on = says_on old.history new.history round node NoProcess step.says
    (unsaid cluster old.history node round (old.member node) m step.rises)
    (uncame cluster old.history kept.history node round (old.member node) m step.is_node step.of_ring step.rises) in
    let none = m.apart step.apart in
    let apart = step.apart in
    record {
      history = says_history cluster old.history new.history round node NoProcess (old.member node) kept.history step.says on m step.rises
          (λ known copy is. cc) (λ known copy r place count digest is at. cc);
      members = becomes_all cluster new.history old new node (record (old.member node) { round = round }) step.becomes
          (record {
            latest = latest_says cluster old.history new.history round node NoProcess (old.member node) step.says m step.rises;
            spoke = λ not. absurd (not step.apart);
            apart = λ is. none;
            taking = λ is. let bad : Apart ≡ Taking = sym apart ∙ is in cc;
            state = λ copy is. let bad : None ≡ Some copy = sym none.0 ∙ is in cc;
            hearing = λ is. let bad : Apart ≡ Hearing = sym apart ∙ is in cc;
            idle = λ not copy is. let bad : None ≡ Some copy = sym none.0 ∙ is in cc;
            acks = λ r place count digest at. record {
              at = λ same. inl step.apart;
              has = λ copy is. let bad : None ≡ Some copy = sym none.0 ∙ is in cc;
            };
            told = λ copy is. let bad : None ≡ Some copy = sym none.1 ∙ is in cc;
          })
          (λ other not. others_on cluster old.history new.history round node NoProcess step.says on other (old.member other) not (kept.members other));
    }
