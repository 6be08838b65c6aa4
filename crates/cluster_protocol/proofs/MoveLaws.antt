-- What steps of one node leave that say nothing and send nothing.
use Rattle.cluster_protocol.proofs.Common.{◌≡◌, ◌≢◌, ◌⊎◌, ◌∙◌, ◌<◌, ℕ, Option, None, Some, length, take, arith, inl, inr, refl, sym, subst, Decision, View, IsBefore, Cluster, Apart, Copy, Hearing, History, log_at, Member, Speaks, start_of, Taking, World}
use Rattle.cluster_protocol.specs.Steps.{Becomes, Dies, LetsGo, start_copy, TakesState}
use Rattle.cluster_protocol.proofs.Kept.{HistoryIsKept, IsAckAt, IsKeptState, IsToldLock, MemberIsKept, WorldIsKept}
use Rattle.cluster_protocol.proofs.LateLemmas.{IsGood}
use Rattle.cluster_protocol.proofs.LogLemmas.{begin_itself, begin_through, take_begin}

pub ordered : (a b : ℕ) → (a < b) ⊎ ((a ≡ b) ⊎ (b < a))
ordered a b = grind arith

same_of : (a b : ℕ) → (a < b) ⊎ ((a ≡ b) ⊎ (b < a)) → (a ≡ b) ⊎ (a ≢ b)
same_of a b (inl lt) = inr (λ same. absurd (omega arith))
same_of a b (inr (inl same)) = inl same
same_of a b (inr (inr lt)) = inr (λ same. absurd (omega arith))

pub same_or_not : (a b : ℕ) → (a ≡ b) ⊎ (a ≢ b)
same_or_not a b = same_of a b (ordered a b)

-- a node became this, and the others stayed
pub becomes_all : (cluster : Cluster) (history : History) (old new : World) (node : ℕ) (member : Member) → Becomes old new node member
    → MemberIsKept cluster history node member → ((other : ℕ) → other ≢ node → MemberIsKept cluster history other (old.member other))
    → (other : ℕ) → MemberIsKept cluster history other (new.member other)
becomes_all cluster history old new node member becomes is others other = at (same_or_not other node)
  where
    at : (other ≡ node) ⊎ (other ≢ node) → MemberIsKept cluster history other (new.member other)
    at (inl same) =
        subst (λ (n : ℕ). MemberIsKept cluster history n (new.member n)) (sym same)
        (subst (λ (m : Member). MemberIsKept cluster history node m) (sym becomes.is) is)
    at (inr not) = subst (λ (m : Member). MemberIsKept cluster history other m) (sym (becomes.others other not)) (others other not)

-- a step of one node alone
pub alone : (cluster : Cluster) (old new : World) (node : ℕ) (member : Member) → WorldIsKept cluster old → new.history ≡ old.history
    → Becomes old new node member → MemberIsKept cluster old.history node member → WorldIsKept cluster new
alone cluster old new node member kept same becomes is = record {
  history = subst (λ (h : History). HistoryIsKept cluster h) (sym same) kept.history;
  members = λ other. subst (λ (h : History). MemberIsKept cluster h other (new.member other)) (sym same)
      (becomes_all cluster old.history old new node member becomes is (λ one not. kept.members one) other);
}

-- what was told changes alone
pub with_told : (cluster : Cluster) (history : History) (node : ℕ) (member : Member) (told : Option Copy) → MemberIsKept cluster history node member
    → (member.phase ≡ Apart → told ≡ None) → ((copy : Copy) → told ≡ Some copy → IsToldLock cluster history node copy)
    → MemberIsKept cluster history node (record member { told = told })
with_told cluster history node member told m none locks = record {
  latest = m.latest;
  spoke = m.spoke;
  apart = λ is. ((m.apart is).0, none is);
  taking = m.taking;
  state = m.state;
  hearing = m.hearing;
  idle = m.idle;
  acks = m.acks;
  told = locks;
}

pub lets_go : (cluster : Cluster) (old new : World) (node : ℕ) → WorldIsKept cluster old → LetsGo old node new → WorldIsKept cluster new
lets_go cluster old new node kept step =
    alone cluster old new node (record (old.member node) { told = None }) kept step.history step.becomes
    (with_told cluster old.history node (old.member node) None (kept.members node) (λ is. refl) (λ copy is. cc))

pub dies : (cluster : Cluster) (old new : World) (node : ℕ) → WorldIsKept cluster old → Dies old node new → WorldIsKept cluster new
dies cluster old new node kept step =
    alone cluster old new node
    (record { phase = Apart; round = (old.member node).round; state = None; kept = 0; heard = 0; told = None; known = record { ring = 0; count = 0 } })
    kept step.history step.becomes
    (record {
      latest = (kept.members node).latest;
      spoke = λ not. absurd (not refl);
      apart = λ is. (refl, refl);
      taking = λ is. cc;
      state = λ copy is. cc;
      hearing = λ is. cc;
      idle = λ not copy is. cc;
      acks = λ round place count digest at. record { at = λ same. inl refl; has = λ copy is. cc };
      told = λ copy is. cc;
    })

-- the state with which a decided round begins
pub start_state : (cluster : Cluster) (history : History) (round : ℕ) (decision : Decision) → history.came round ≡ Some decision
    → IsKeptState cluster history round (length (start_of cluster history round)) (start_copy cluster history round)
start_state cluster history round decision came = record {
  state = record {
    came = (decision, came);
    in_order = record { count = 0; within = omega arith; begins = begin_itself (start_of cluster history round) };
    from_start = omega arith;
  };
  place = inl refl;
  within = omega arith;
  from_start = omega arith;
}

-- no acknowledgement of its own stands in the round of a node that doesn't hear it
pub ack_before : (cluster : Cluster) (history : History) → HistoryIsKept cluster history → (node : ℕ) (member : Member)
    → MemberIsKept cluster history node member → member.phase ≢ Apart → member.phase ≢ Hearing → (round place count digest : ℕ)
    → IsAckAt cluster history round place node count digest → IsBefore (cluster.view round) (cluster.view member.round)
ack_before cluster history kept node member m not_apart not_hearing round place count digest at =
    let is = kept.acks round place node count digest at in
    elim (m.latest round (Speaks is.spoke.0 is.spoke.1) is.spoke.2) [
      | inl same ↦ (elim ((m.acks round place count digest at).at same) [ inl apart ↦ absurd (not_apart apart) | inr hearing ↦ absurd (not_hearing hearing) ])
      | inr before ↦ before
    ]

-- a node that has the state with which its round's view begins
pub begins_hearing : (cluster : Cluster) (history : History) → HistoryIsKept cluster history → (node : ℕ) (member : Member) (told : Option Copy) (known : View)
    (decision : Decision) → MemberIsKept cluster history node member → history.came member.round ≡ Some decision → member.phase ≢ Apart
    → member.phase ≢ Hearing → ((copy : Copy) → told ≡ Some copy → IsToldLock cluster history node copy)
    → MemberIsKept cluster history node (record {
      phase = Hearing;
      round = member.round;
      state = Some (start_copy cluster history member.round);
      kept = length (start_of cluster history member.round);
      heard = 0;
      told = told;
      known = known;
    })
begins_hearing cluster history kept node member told known decision m came not_apart not_hearing locks = record {
  latest = m.latest;
  spoke = λ here. m.spoke not_apart;
  apart = λ is. cc;
  taking = λ is. cc;
  state = λ copy is.
      let same : start_copy cluster history member.round ≡ copy = cc in
      subst (λ (c : Copy). IsKeptState cluster history member.round (length (start_of cluster history member.round)) c) same
      (start_state cluster history member.round decision came);
  hearing = λ is. record { copy = start_copy cluster history member.round; is = refl; round = refl; log = refl; within = omega arith };
  idle = λ not. absurd (not refl);
  acks = λ round place count digest at. record {
    at = λ same. inr refl;
    has = λ copy is.
        let same : start_copy cluster history member.round ≡ copy = cc in
        inl (subst (λ (c : Copy). IsBefore (cluster.view round) (cluster.view c.round)) same
        (ack_before cluster history kept node member m not_apart not_hearing round place count digest at));
  };
  told = locks;
}

pub takes_state : (cluster : Cluster) (old new : World) (node : ℕ) → WorldIsKept cluster old → TakesState cluster old node new → WorldIsKept cluster new
takes_state cluster old new node kept step =
    let m = kept.members node in
    let came = m.taking step.taking in
    let taking = step.taking in
    alone cluster old new node
    (record {
      phase = Hearing;
      round = (old.member node).round;
      state = Some (start_copy cluster old.history (old.member node).round);
      kept = length (start_of cluster old.history (old.member node).round);
      heard = 0;
      told = (old.member node).told;
      known = (old.member node).known;
    }) kept step.history step.becomes
    (begins_hearing cluster old.history kept.history node (old.member node) (old.member node).told (old.member node).known came.0 m came.1
    (λ is. let bad : Taking ≡ Apart = sym taking ∙ is in cc) (λ is. let bad : Taking ≡ Hearing = sym taking ∙ is in cc) m.told)

-- what is kept of a state is good
pub good_of : (cluster : Cluster) (history : History) (last kept : ℕ) (copy : Copy) → IsKeptState cluster history last kept copy
    → IsGood cluster history copy.round copy.log kept
good_of cluster history last kept copy is = record {
  within = is.within;
  in_order = record {
    count = is.state.in_order.count;
    within = is.state.in_order.within;
    begins = begin_through (take kept copy.log) copy.log (log_at cluster history copy.round is.state.in_order.count) (take_begin kept copy.log) is.state.in_order.begins;
  };
  from_start = is.from_start;
}
