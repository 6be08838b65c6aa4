-- What the steps leave by which a message comes into the order of a round.
use Rattle.cluster_protocol.proofs.Common.{◌≡◌, ◌≢◌, ◌⊎◌, ◌∙◌, ◌<◌, ◌≤◌, ◌++◌, ◌∷◌, [], ℕ, List, Some, length, get_or, arith, ap, inl, inr, refl, sym, subst, slice_get, get_or_from_slice_get, slice_get_within, Cluster, Entry, Acknowledges, Apart, Copy, Hearing, History, log_at, Member, Message, Speaks, World, get_or-append, append-nil, length-append, slice_get_read, Asks, Content, Purges}
use Rattle.cluster_protocol.proofs.Kept.{ack, AckIsKept, HistoryIsKept, IsAckAt, IsOwnAck, MemberIsKept, WorldIsKept}
use Rattle.std.proofs.Math.Seq.{get_or-append_seam}
use Rattle.cluster_protocol.specs.Steps.{MaySend, Puts, Sends, Strays}
use Rattle.cluster_protocol.proofs.ExtendLemmas.{ack_on, decided_on, hearing_on, kept_state_on, log_same, member_on, order_longer, told_lock_on, told_state_on}
use Rattle.cluster_protocol.proofs.Kept.{Extends}
use Rattle.cluster_protocol.proofs.MoveLaws.{ordered, same_or_not}
use Rattle.cluster_protocol.proofs.ViewLemmas.{before_not, before_self}

-- with one message more the history goes on
puts_on : (old new : History) (round : ℕ) (message : Message) → Puts old new round message → Extends old new
puts_on old new round message puts = record {
  said = λ r n word is. puts.said r n ∙ is;
  came = λ r decision is. puts.came r ∙ is;
  settled = λ r decision is n. puts.said r n;
  order = λ r. at r (same_or_not r round);
}
  where
    at : (r : ℕ) → (r ≡ round) ⊎ (r ≢ round) → (rest : List Message) × (old.order r ++ rest ≡ new.order r)
    at r (inl same) = (message ∷ [], subst (λ (k : ℕ). old.order k ++ message ∷ [] ≡ new.order k) (sym same) (sym puts.is))
    at r (inr not) = ([], append-nil (old.order r) ∙ sym (puts.others r not))

-- an acknowledgement stood there, or it is the message

pub record IsNew (cluster : Cluster) (old : History) (round place node count digest put : ℕ) (message : Message) : Type 0 where
  pub of : round ≡ put
  pub behind : place ≡ length (old.order round)
  pub is : message ≡ ack cluster round node count digest

last_or_before : (order : List Message) (message : Message) (place : ℕ) (found : Message) → slice_get (order ++ message ∷ []) place ≡ Some found
    → (place < length order) ⊎ ((place ≡ length order) ⊎ (length order < place))
    → (slice_get order place ≡ Some found) ⊎ ((place ≡ length order) × (message ≡ found))
last_or_before order message place found is (inl lt) =
    let here = get_or_from_slice_get (order ++ message ∷ []) place found found is in
    inl (slice_get_read order (length order) place found refl lt (sym (sym (get_or-append order (message ∷ []) found place lt) ∙ here)))
last_or_before order message place found is (inr (inl same)) =
    let here = get_or_from_slice_get (order ++ message ∷ []) place found found is in
    inr (
      same,
      sym (get_or-append_seam order message [] found) ∙ ap (λ (k : ℕ). get_or (order ++ message ∷ []) k found) (sym same) ∙ here,
    )
last_or_before order message place found is (inr (inr more)) =
    let lt = slice_get_within (order ++ message ∷ []) place found is in
    absurd (omega (arith, length-append order (message ∷ [])))

acks_before : (cluster : Cluster) (old new : History) (put : ℕ) (message : Message) → Puts old new put message → (round place node count digest : ℕ)
    → IsAckAt cluster new round place node count digest → (round ≡ put) ⊎ (round ≢ put)
    → IsAckAt cluster old round place node count digest ⊎ IsNew cluster old round place node count digest put message
acks_before cluster old new put message puts round place node count digest at (inr not) =
    inl (subst (λ (order : List Message). slice_get order place ≡ Some (ack cluster round node count digest)) (puts.others round not) at)
acks_before cluster old new put message puts round place node count digest at (inl same) =
    let order_is : new.order round ≡ old.order round ++ message ∷ [] =
    subst (λ (r : ℕ). new.order r ≡ old.order r ++ message ∷ []) (sym same) puts.is in
    elim (last_or_before (old.order round) message place (ack cluster round node count digest)
    (subst (λ (order : List Message). slice_get order place ≡ Some (ack cluster round node count digest)) order_is at) (ordered place (length (old.order round)))) [
      | inl before ↦ inl before
      | inr here ↦ inr (record { of = same; behind = here.0; is = here.1 })
    ]

put_history : (cluster : Cluster) (old new : History) (put : ℕ) (message : Message) → HistoryIsKept cluster old → Puts old new put message
    → ((round place node count digest : ℕ) → IsNew cluster old round place node count digest put message → AckIsKept cluster new round node count digest)
    → HistoryIsKept cluster new
put_history cluster old new put message kept puts fresh =
    let on = puts_on old new put message puts in
    record {
      decided = λ round decision came.
          let before = sym (puts.came round) ∙ came in decided_on cluster old new on round decision before (kept.decided round decision before);
      told = λ round node known copy said.
          told_state_on cluster old new on round copy (kept.told round node known copy (sym (puts.said round node) ∙ said));
      rise = λ one other node a b is are. kept.rise one other node a b (sym (puts.said one node) ∙ is) (sym (puts.said other node) ∙ are);
      acks = λ round place node count digest at.
          elim (acks_before cluster old new put message puts round place node count digest at (same_or_not round put)) [
            | inl before ↦ (
                let is = kept.acks round place node count digest before in
                ack_on cluster old new on round node count digest is (λ other known copy later said. is.later other known copy later (sym (puts.said other node) ∙ said)))
            | inr new_one ↦ fresh round place node count digest new_one
          ];
    }

pub strays : (cluster : Cluster) (old new : World) (round : ℕ) (message : Message) → WorldIsKept cluster old → Strays cluster old round message new
    → WorldIsKept cluster new
strays cluster old new round message kept step =
    let on = puts_on old.history new.history round message step.puts in
    let never : (r place node count digest : ℕ) → IsNew cluster old.history r place node count digest round message → ⊥ =
    λ r place node count digest is. step.other (ap (λ (m : Message). m.view) is.is ∙ ap cluster.view is.of) in
    record {
      history = put_history cluster old.history new.history round message kept.history step.puts
          (λ r place node count digest is. absurd (never r place node count digest is));
      members = λ node. subst (λ (member : Member). MemberIsKept cluster new.history node member) (sym (step.members node))
          (member_on cluster old.history new.history on node (old.member node) (λ r. step.puts.said r node)
          (λ r place count digest at.
          elim (acks_before cluster old.history new.history round message step.puts r place node count digest at (same_or_not r round)) [
            | inl before ↦ before
            | inr is ↦ absurd (never r place node count digest is)
          ])
          (kept.members node));
    }

-- what a node sends is of its log
sent_ack : (cluster : Cluster) (old new : History) → HistoryIsKept cluster old → Extends old new → (node : ℕ) (member : Member)
    → MemberIsKept cluster old node member → member.phase ≡ Hearing → (what : Content) → MaySend cluster old member.state what
    → (same : (r n : ℕ) → new.said r n ≡ old.said r n) → (count digest : ℕ) → what ≡ Acknowledges count digest → AckIsKept cluster new member.round node count digest
sent_ack cluster old new kept on node member m hearing (Asks request) may same count digest is = cc
sent_ack cluster old new kept on node member m hearing (Purges other) may same count digest is = cc
sent_ack cluster old new kept on node member m hearing (Acknowledges length_is digest_is) may same count digest is =
    let h = m.hearing hearing in
    let both : Some h.copy ≡ Some may.0 = sym h.is ∙ may.1 in
    let one : h.copy ≡ may.0 = cc in
    let k = m.state h.copy h.is in
    let counts : length_is ≡ count = cc in
    let digests : digest_is ≡ digest = cc in
    let longer = order_longer old new on member.round in
    let within : member.heard ≤ length (old.order member.round) = subst (λ (r : ℕ). member.heard ≤ length (old.order r)) h.round h.within in
    let came : old.came member.round ≡ Some k.state.came.0 = subst (λ (r : ℕ). old.came r ≡ Some k.state.came.0) h.round k.state.came.1 in
    let log_is : h.copy.log ≡ log_at cluster old member.round member.heard = subst (λ (r : ℕ). h.copy.log ≡ log_at cluster old r member.heard) h.round h.log in
    let now : log_at cluster new member.round member.heard ≡ h.copy.log =
    log_same cluster old new on member.round k.state.came.0 came member.heard within ∙ sym log_is in
    let spoke = m.spoke (λ apart. let bad : Hearing ≡ Apart = sym hearing ∙ apart in cc) in
    record {
      heard = member.heard;
      within = omega arith;
      long = ap (λ (log : List Entry). length log) now ∙ ap (λ (c : Copy). length c.log) one ∙ sym may.3 ∙ counts;
      is = ap (λ (log : List Entry). cluster.digest log) now ∙ ap (λ (c : Copy). cluster.digest c.log) one ∙ sym may.4 ∙ digests;
      came = (k.state.came.0, on.came member.round k.state.came.0 came);
      spoke = (spoke.0, spoke.1, on.said member.round node (Speaks spoke.0 spoke.1) spoke.2);
      later = λ other known copy later said.
          elim (m.latest other (Speaks known (Some copy)) (sym (same other node) ∙ said)) [
            | inl here ↦ absurd (before_self (cluster.view member.round) (cluster.view other) (ap cluster.view (sym here)) later)
            | inr before ↦ absurd (before_not (cluster.view other) (cluster.view member.round) before later)
          ];
    }

-- an acknowledgement that a node sent, to itself
sent_own : (cluster : Cluster) (old new : History) → Extends old new → (node : ℕ) (member : Member) → MemberIsKept cluster old node member
    → member.phase ≡ Hearing → (what : Content) → MaySend cluster old member.state what → (round place count digest : ℕ) → round ≡ member.round
    → place ≡ length (old.order round) → what ≡ Acknowledges count digest
    → IsOwnAck cluster member.phase member.round member.state member.kept member.heard round place count
sent_own cluster old new on node member m hearing (Asks request) may round place count digest of behind is = cc
sent_own cluster old new on node member m hearing (Purges other) may round place count digest of behind is = cc
sent_own cluster old new on node member m hearing (Acknowledges length_is digest_is) may round place count digest of behind is =
    let h = m.hearing hearing in
    let counts : length_is ≡ count = cc in
    let heard : member.heard ≤ length (old.order round) = subst (λ (r : ℕ). member.heard ≤ length (old.order r)) (h.round ∙ sym of) h.within in
    record {
      at = λ same. inr hearing;
      has = λ copy is_copy.
          let both : Some h.copy ≡ Some copy = sym h.is ∙ is_copy in
          let one : h.copy ≡ copy = cc in
          let mine : Some may.0 ≡ Some copy = sym may.1 ∙ is_copy in
          let it : may.0 ≡ copy = cc in
          let long : count ≡ length copy.log = sym counts ∙ may.3 ∙ ap (λ (c : Copy). length c.log) it in
          inr (
            ap (λ (c : Copy). c.round) (sym one) ∙ h.round ∙ sym of,
            omega arith,
            λ seen. let lt = seen hearing in absurd (omega arith),
          );
    }

-- the sender is kept
sender_on : (cluster : Cluster) (old new : World) (node : ℕ) (what : Content) → WorldIsKept cluster old → Sends cluster old node what new
    → MemberIsKept cluster new.history node (old.member node)
sender_on cluster old new node what kept step =
    let message : Message = record { sender = node; view = cluster.view (old.member node).round; what = what } in
    let on = puts_on old.history new.history (old.member node).round message step.puts in
    let m = kept.members node in
    -- without the message it is kept, and of the message it knows
    record {
      latest = λ r word said. m.latest r word (sym (step.puts.said r node) ∙ said);
      spoke = λ here. let said = m.spoke here in (said.0, said.1, on.said (old.member node).round node (Speaks said.0 said.1) said.2);
      apart = m.apart;
      taking = λ is. let came = m.taking is in (came.0, on.came (old.member node).round came.0 came.1);
      state = λ copy is. kept_state_on cluster old.history new.history on (old.member node).round (old.member node).kept copy (m.state copy is);
      hearing = λ is. hearing_on cluster old.history new.history on (old.member node).round (old.member node).state (old.member node).heard
          (λ copy has. (m.state copy has).state) (m.hearing is);
      idle = m.idle;
      acks = λ r place count digest at.
          elim (acks_before cluster old.history new.history (old.member node).round message step.puts r place node count digest at
          (same_or_not r (old.member node).round)) [
            | inl before ↦ m.acks r place count digest before
            | inr is ↦ sent_own cluster old.history new.history on node (old.member node) m step.hearing what step.may r place count digest is.of is.behind
                (ap (λ (one : Message). one.what) is.is)
          ];
      told = λ copy is. told_lock_on cluster old.history new.history on node copy (λ r. step.puts.said r node) (m.told copy is);
    }

pub sends : (cluster : Cluster) (old new : World) (node : ℕ) (what : Content) → WorldIsKept cluster old → Sends cluster old node what new
    → WorldIsKept cluster new
sends cluster old new node what kept step =
    let message : Message = record { sender = node; view = cluster.view (old.member node).round; what = what } in
    let on = puts_on old.history new.history (old.member node).round message step.puts in
    record {
      history = put_history cluster old.history new.history (old.member node).round message kept.history step.puts
          (λ r place sender count digest is.
          let from : node ≡ sender = ap (λ (m : Message). m.sender) is.is in
          let content : what ≡ Acknowledges count digest = ap (λ (m : Message). m.what) is.is in
          subst (λ (n : ℕ). AckIsKept cluster new.history r n count digest) from
          (subst (λ (k : ℕ). AckIsKept cluster new.history k node count digest) (sym is.of)
          (sent_ack cluster old.history new.history kept.history on node (old.member node) (kept.members node) step.hearing what step.may
          step.puts.said count digest content)));
      members = λ other. subst (λ (member : Member). MemberIsKept cluster new.history other member) (sym (step.members other))
          (member_sent other (same_or_not other node));
    }
  where
    member_sent : (other : ℕ) → (other ≡ node) ⊎ (other ≢ node) → MemberIsKept cluster new.history other (old.member other)
    member_sent other (inr not) =
        member_on cluster old.history new.history
        (puts_on old.history new.history (old.member node).round (record { sender = node; view = cluster.view (old.member node).round; what = what }) step.puts)
        other (old.member other) (λ r. step.puts.said r other)
        (λ r place count digest at.
        elim (acks_before cluster old.history new.history (old.member node).round
        (record { sender = node; view = cluster.view (old.member node).round; what = what }) step.puts r place other count digest at
        (same_or_not r (old.member node).round)) [
          | inl before ↦ before
          | inr is ↦ absurd (not (sym (ap (λ (m : Message). m.sender) is.is)))
        ])
        (kept.members other)
    member_sent other (inl same) =
        subst (λ (n : ℕ). MemberIsKept cluster new.history n (old.member n)) (sym same)
        (sender_on cluster old new node what kept step)
