-- What holds as the history goes on.
use Rattle.cluster_protocol.proofs.Common.{◌≡◌, ◌∙◌, ◌<◌, ◌≤◌, ◌++◌, ◌∷◌, ◌&&◌, [], ℕ, zero, suc, Bool, List, Option, Some, length, take, arith, ap, refl, sym, subst, if◌then◌else◌, slice_get, option_to_list, get_or-append, length-append, get_or_from_slice_get, slice_get_read, slice_get_within, Decision, Hello, View, Decides, IsBefore, Cluster, Entry, IsBeginning, Purge, after_all, Copy, Counts, hello_in, History, log_at, Member, Message, Speaks, start_of, Word}
use Rattle.std.proofs.lemmas.List.{take-append-le}
use Rattle.cluster_view.specs.declared.decision.Decision.TheVariants.{NoView, Begins, GoesOn}
use Rattle.cluster_protocol.specs.Worlds.{hellos_below, log_told, loses, purges_below, start_by}
use Rattle.cluster_protocol.proofs.Kept.{ack, AckIsKept, Extends, InOrder, IsAckAt, IsCommitted, IsDecided, IsHearing, IsKeptState, IsState, IsToldLock, IsToldState, MemberIsKept, Reaches}

-- a message stays at its place

pub get_longer : (order rest : List Message) (place : ℕ) (message : Message) → slice_get order place ≡ Some message
    → slice_get (order ++ rest) place ≡ Some message
get_longer order rest place message is =
    let lt : place < length order = slice_get_within order place message is in
    slice_get_read (order ++ rest) (length (order ++ rest)) place message refl (omega (arith, length-append order rest))
    (sym (get_or-append order rest message place lt ∙ get_or_from_slice_get order place message message is))

-- what was said alike makes the same HELLOs and purges

pub hellos_same : (cluster : Cluster) (said other : ℕ → Option Word) (n : ℕ) → ((node : ℕ) → other node ≡ said node)
    → hellos_below cluster other n ≡ hellos_below cluster said n
hellos_same cluster said other zero same = refl
hellos_same cluster said other (suc n) same =
    ap (λ (hellos : List Hello). hellos ++ option_to_list (hello_in cluster n (other n))) (hellos_same cluster said other n same)
    ∙ ap (λ (word : Option Word). hellos_below cluster said n ++ option_to_list (hello_in cluster n word)) (same n)

purges_same : (view : View) (test other : ℕ → Bool) (n : ℕ) → ((node : ℕ) → other node ≡ test node) → purges_below view other n ≡ purges_below view test n
purges_same view test other zero same = refl
purges_same view test other (suc n) same =
    ap (λ (log : List Entry). log ++ (if other n then Purge n view ∷ [] else [])) (purges_same view test other n same)
    ∙ ap (λ (is : Bool). purges_below view test n ++ (if is then Purge n view ∷ [] else [])) (same n)

start_by_same : (cluster : Cluster) (said other : ℕ → Option Word) (round : ℕ) (decision : Decision) → ((node : ℕ) → other node ≡ said node)
    → start_by cluster other round (Some decision) ≡ start_by cluster said round (Some decision)
start_by_same cluster said other round (NoView reason) same = refl
start_by_same cluster said other round (Begins view) same = refl
start_by_same cluster said other round (GoesOn view base) same =
    ap (λ (word : Option Word). log_told word
    ++ purges_below (cluster.view round) (λ node. cluster.ring round node && loses base.view (hello_in cluster node (other node))) cluster.nodes)
    (same base.giver)
    ∙ ap (λ (log : List Entry). log_told (said base.giver) ++ log)
    (purges_same (cluster.view round) (λ node. cluster.ring round node && loses base.view (hello_in cluster node (said node)))
    (λ node. cluster.ring round node && loses base.view (hello_in cluster node (other node))) cluster.nodes
    (λ node. ap (λ (word : Option Word). cluster.ring round node && loses base.view (hello_in cluster node word)) (same node)))

pub start_same : (cluster : Cluster) (old new : History) → Extends old new → (round : ℕ) (decision : Decision) → old.came round ≡ Some decision
    → start_of cluster new round ≡ start_of cluster old round
start_same cluster old new ext round decision came =
    ap (λ (is : Option Decision). start_by cluster (new.said round) round is) (ext.came round decision came)
    ∙ start_by_same cluster (old.said round) (new.said round) round decision (ext.settled round decision came)
    ∙ sym (ap (λ (is : Option Decision). start_by cluster (old.said round) round is) came)

pub log_same : (cluster : Cluster) (old new : History) → Extends old new → (round : ℕ) (decision : Decision) → old.came round ≡ Some decision → (count : ℕ)
    → count ≤ length (old.order round) → log_at cluster new round count ≡ log_at cluster old round count
log_same cluster old new ext round decision came count le =
    ap (λ (log : List Entry). after_all cluster (cluster.view round) log (take count (new.order round))) (start_same cluster old new ext round decision came)
    ∙ ap (λ (messages : List Message). after_all cluster (cluster.view round) (start_of cluster old round) messages)
    (ap (λ (order : List Message). take count order) (sym (ext.order round).1) ∙ take-append-le count (old.order round) (ext.order round).0 le)

pub order_longer : (old new : History) → Extends old new → (round : ℕ) → length (old.order round) ≤ length (new.order round)
order_longer old new ext round =
    omega (arith, length-append (old.order round) (ext.order round).0, ap (λ (order : List Message). length order) (ext.order round).1)

pub in_order_on : (cluster : Cluster) (old new : History) → Extends old new → (round : ℕ) (decision : Decision) → old.came round ≡ Some decision
    → (log : List Entry) → InOrder cluster old round log → InOrder cluster new round log
in_order_on cluster old new ext round decision came log p =
    let longer = order_longer old new ext round in
    let within = p.within in
    record {
      count = p.count;
      within = omega arith;
      begins = subst (λ (longer : List Entry). IsBeginning log longer) (sym (log_same cluster old new ext round decision came p.count p.within)) p.begins;
    }

pub state_on : (cluster : Cluster) (old new : History) → Extends old new → (copy : Copy) → IsState cluster old copy → IsState cluster new copy
state_on cluster old new ext copy p = record {
  came = (p.came.0, ext.came copy.round p.came.0 p.came.1);
  in_order = in_order_on cluster old new ext copy.round p.came.0 p.came.1 copy.log p.in_order;
  from_start = subst (λ (log : List Entry). length log ≤ length copy.log) (sym (start_same cluster old new ext copy.round p.came.0 p.came.1)) p.from_start;
}

pub counts_on : (cluster : Cluster) (old new : History) → Extends old new → (copy : Copy) (decision : Decision) → old.came copy.round ≡ Some decision
    → Counts cluster old copy → Counts cluster new copy
counts_on cluster old new ext copy decision came counts view node begins lt away =
    counts view node (came ∙ sym (ext.came copy.round decision came) ∙ begins) lt away

pub told_state_on : (cluster : Cluster) (old new : History) → Extends old new → (round : ℕ) (copy : Copy) → IsToldState cluster old round copy
    → IsToldState cluster new round copy
told_state_on cluster old new ext round copy p = record {
  state = state_on cluster old new ext copy p.state;
  earlier = p.earlier;
  counts = counts_on cluster old new ext copy p.state.came.0 p.state.came.1 p.counts;
}

pub decided_on : (cluster : Cluster) (old new : History) → Extends old new → (round : ℕ) (decision : Decision) → old.came round ≡ Some decision
    → IsDecided cluster old round decision → IsDecided cluster new round decision
decided_on cluster old new ext round decision came p = record {
  all = λ node lt ring. let said = p.all node lt ring in (said.0, ext.said round node said.0 said.1);
  decides = subst (λ (hellos : List Hello). Decides (cluster.view round).ring hellos decision)
      (sym (hellos_same cluster (old.said round) (new.said round) cluster.nodes (ext.settled round decision came))) p.decides;
  of_view = p.of_view;
}

pub ack_at_on : (cluster : Cluster) (old new : History) → Extends old new → (round place node count digest : ℕ)
    → IsAckAt cluster old round place node count digest → IsAckAt cluster new round place node count digest
ack_at_on cluster old new ext round place node count digest is =
    subst (λ (order : List Message). slice_get order place ≡ Some (ack cluster round node count digest)) (ext.order round).1
    (get_longer (old.order round) (ext.order round).0 place (ack cluster round node count digest) is)

-- an acknowledgement is kept as the history goes on, if what its node tells later reaches it
pub ack_on : (cluster : Cluster) (old new : History) → Extends old new → (round node count digest : ℕ) → AckIsKept cluster old round node count digest
    → ((other : ℕ) (known : View) (copy : Copy) → IsBefore (cluster.view round) (cluster.view other)
    → new.said other node ≡ Some (Speaks known (Some copy)) → Reaches cluster round count copy)
    → AckIsKept cluster new round node count digest
ack_on cluster old new ext round node count digest p later =
    let longer = order_longer old new ext round in
    let within = p.within in
    let same = log_same cluster old new ext round p.came.0 p.came.1 p.heard p.within in
    record {
      heard = p.heard;
      within = omega arith;
      long = ap (λ (log : List Entry). length log) same ∙ p.long;
      is = ap (λ (log : List Entry). cluster.digest log) same ∙ p.is;
      came = (p.came.0, ext.came round p.came.0 p.came.1);
      spoke = (p.spoke.0, p.spoke.1, ext.said round node (Speaks p.spoke.0 p.spoke.1) p.spoke.2);
      later = later;
    }

pub committed_on : (cluster : Cluster) (old new : History) → Extends old new → (copy : Copy) (decision : Decision) → old.came copy.round ≡ Some decision
    → IsCommitted cluster old copy → IsCommitted cluster new copy
committed_on cluster old new ext copy decision came p = record {
  acked = p.acked;
  majority = p.majority;
  each = λ node is. let at = p.each node is in (at.0, at.1, at.2, ack_at_on cluster old new ext copy.round at.0 node at.1 at.2 at.3, at.4);
  in_order = in_order_on cluster old new ext copy.round decision came copy.log p.in_order;
}

pub told_lock_on : (cluster : Cluster) (old new : History) → Extends old new → (node : ℕ) (copy : Copy)
    → ((round : ℕ) → new.said round node ≡ old.said round node) → IsToldLock cluster old node copy → IsToldLock cluster new node copy
told_lock_on cluster old new ext node copy same p = record {
  is_node = p.is_node;
  came = (p.came.0, ext.came copy.round p.came.0 p.came.1);
  committed = committed_on cluster old new ext copy p.came.0 p.came.1 p.committed;
  process = λ round said. p.process round (sym (same round) ∙ said);
}

pub kept_state_on : (cluster : Cluster) (old new : History) → Extends old new → (last kept : ℕ) (copy : Copy) → IsKeptState cluster old last kept copy
    → IsKeptState cluster new last kept copy
kept_state_on cluster old new ext last kept copy p = record {
  state = state_on cluster old new ext copy p.state;
  place = p.place;
  within = p.within;
  from_start = subst (λ (log : List Entry). length log ≤ kept) (sym (start_same cluster old new ext copy.round p.state.came.0 p.state.came.1)) p.from_start;
}

pub hearing_on : (cluster : Cluster) (old new : History) → Extends old new → (last : ℕ) (state : Option Copy) (heard : ℕ)
    → ((copy : Copy) → state ≡ Some copy → IsState cluster old copy) → IsHearing cluster old last state heard → IsHearing cluster new last state heard
hearing_on cluster old new ext last state heard states p =
    let longer = order_longer old new ext p.copy.round in
    let within = p.within in
    let came = (states p.copy p.is).came in
    record {
      copy = p.copy;
      is = p.is;
      round = p.round;
      log = p.log ∙ sym (log_same cluster old new ext p.copy.round came.0 came.1 heard p.within);
      within = omega arith;
    }

-- a node that says nothing and acknowledges nothing is kept as the history goes on
pub member_on : (cluster : Cluster) (old new : History) → Extends old new → (node : ℕ) (member : Member)
    → ((round : ℕ) → new.said round node ≡ old.said round node)
    → ((round place count digest : ℕ) → IsAckAt cluster new round place node count digest → IsAckAt cluster old round place node count digest)
    → MemberIsKept cluster old node member → MemberIsKept cluster new node member
member_on cluster old new ext node member same before p = record {
  latest = λ round word said. p.latest round word (sym (same round) ∙ said);
  spoke = λ here. let said = p.spoke here in (said.0, said.1, ext.said member.round node (Speaks said.0 said.1) said.2);
  apart = p.apart;
  taking = λ is. let came = p.taking is in (came.0, ext.came member.round came.0 came.1);
  state = λ copy is. kept_state_on cluster old new ext member.round member.kept copy (p.state copy is);
  hearing = λ is. hearing_on cluster old new ext member.round member.state member.heard (λ copy has. (p.state copy has).state) (p.hearing is);
  idle = p.idle;
  acks = λ round place count digest at. p.acks round place count digest (before round place count digest at);
  told = λ copy is. told_lock_on cluster old new ext node copy same (p.told copy is);
}
