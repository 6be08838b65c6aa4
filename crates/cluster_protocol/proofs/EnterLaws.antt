-- What the step leaves by which a node enters a round.
use Rattle.cluster_protocol.proofs.Common.{◌≡◌, ◌⊎◌, ◌∙◌, ◌<◌, ◌≤◌, [], ℕ, Bool, true, false, List, Option, None, Some, length, take, arith, ap, inl, inr, refl, sym, subst, slice_get, length-take-le, IsBefore, Cluster, Entry, after_all, Apart, Copy, Hearing, History, log_at, Member, Message, Speaks, start_of, Taking, Word, World, Counts, kept_after_all, NoProcess}
use Rattle.cluster_protocol.specs.Worlds.{Phase, Speaking}
use Rattle.cluster_protocol.proofs.Kept.{ack, HistoryIsKept, InOrder, IsAckAt, IsKeptState, IsState, MemberIsKept, WorldIsKept}
use Rattle.cluster_protocol.proofs.LateLemmas.{IsGood}
use Rattle.cluster_protocol.proofs.LogLemmas.{begin_itself}
use Rattle.cluster_protocol.proofs.OutlivingLaws.{in_order_both}
use Rattle.std.specs.Prelude.{Contains}
use Rattle.cluster_protocol.specs.Steps.{Enters, heard_late, IsTold, kept_of, left_with, messages_at}
use Rattle.cluster_protocol.proofs.ExtendLemmas.{committed_on, kept_state_on}
use Rattle.cluster_protocol.proofs.HearLemmas.{kept_all_more}
use Rattle.cluster_protocol.proofs.LateLemmas.{good_late, own_late}
use Rattle.cluster_protocol.proofs.MoveLaws.{becomes_all, good_of}
use Rattle.cluster_protocol.proofs.ViewLemmas.{before_trans}
use Rattle.cluster_protocol.proofs.OutlivingLaws.{in_order_both}
use Rattle.cluster_protocol.proofs.SayLaws.{latest_says, others_on, said_or, says_history, says_on, uncame, unsaid}

-- what is kept of the state as its last messages are heard is good
late_good : (cluster : Cluster) (history : History) → HistoryIsKept cluster history → (last : ℕ) (late : List ℕ) (copy : Copy) (kept : ℕ)
    → IsGood cluster history copy.round copy.log kept → (phase : Phase) → (phase ≡ Hearing → copy.round ≡ last)
    → IsGood cluster history copy.round
    (after_all cluster (cluster.view copy.round) copy.log (heard_late phase (messages_at (history.order last) late)))
    (kept_after_all cluster (cluster.view copy.round) copy.log kept (heard_late phase (messages_at (history.order last) late)))
late_good cluster history so_far last late copy kept good Apart of = good
late_good cluster history so_far last late copy kept good Speaking of = good
late_good cluster history so_far last late copy kept good Taking of = good
late_good cluster history so_far last late copy kept good Hearing of =
    subst (λ (r : ℕ). IsGood cluster history copy.round
    (after_all cluster (cluster.view copy.round) copy.log (messages_at (history.order r) late))
    (kept_after_all cluster (cluster.view copy.round) copy.log kept (messages_at (history.order r) late)))
    (of refl) (good_late cluster history so_far copy.round late copy.log kept good)

-- an own acknowledgement is kept as the last messages are heard

late_own : (cluster : Cluster) (history : History) → HistoryIsKept cluster history → (node last heard : ℕ) (late : List ℕ) (copy : Copy) (kept : ℕ)
    → IsState cluster history copy → (round place count digest : ℕ) → IsAckAt cluster history round place node count digest → copy.round ≡ round
    → count ≤ length copy.log → (phase : Phase) → (phase ≡ Hearing → copy.round ≡ last) → ((phase ≡ Hearing → place < heard) → count ≤ kept)
    → (phase ≡ Hearing → (place < heard) ⊎ Contains late place)
    → count ≤ kept_after_all cluster (cluster.view copy.round) copy.log kept (heard_late phase (messages_at (history.order last) late))
late_own cluster history so_far node last heard late copy kept state round place count digest at here le Apart of before own = before (λ is. cc)
late_own cluster history so_far node last heard late copy kept state round place count digest at here le Speaking of before own = before (λ is. cc)
late_own cluster history so_far node last heard late copy kept state round place count digest at here le Taking of before own = before (λ is. cc)
late_own cluster history so_far node last heard late copy kept state round place count digest at here le Hearing of before own =
    elim (own refl) [
      | inl lt ↦ (
          let old = before (λ is. lt) in
          let more = kept_all_more cluster (cluster.view copy.round) copy.log kept (messages_at (history.order last) late) in
          omega arith)
      | inr among ↦ (
          let it = so_far.acks round place node count digest at in
          let long = it.long in
          let short : length (log_at cluster history round it.heard) ≤ length copy.log = omega arith in
          let begins = in_order_both cluster history round (log_at cluster history round it.heard) copy.log
          (record { count = it.heard; within = it.within; begins = begin_itself (log_at cluster history round it.heard) })
          (subst (λ (r : ℕ). InOrder cluster history r copy.log) here state.in_order) short in
          let last_is : last ≡ round = sym (of refl) ∙ here in
          let in_last : slice_get (history.order last) place ≡ Some (ack cluster round node count digest) =
          subst (λ (r : ℕ). slice_get (history.order r) place ≡ Some (ack cluster round node count digest)) (sym last_is) at in
          let of_view : slice_get (history.order last) place ≡ Some (ack cluster copy.round node count digest) =
          subst (λ (r : ℕ). slice_get (history.order last) place ≡ Some (ack cluster r node count digest)) (sym here) in_last in
          let counted : slice_get (history.order last) place ≡ Some (ack cluster copy.round node (length (log_at cluster history round it.heard)) digest) =
          subst (λ (n : ℕ). slice_get (history.order last) place ≡ Some (ack cluster copy.round node n digest)) (sym it.long) of_view in
          let all : slice_get (history.order last) place
          ≡ Some (ack cluster copy.round node (length (log_at cluster history round it.heard)) (cluster.digest (log_at cluster history round it.heard))) =
          subst (λ (d : ℕ). slice_get (history.order last) place ≡ Some (ack cluster copy.round node (length (log_at cluster history round it.heard)) d)) (sym it.is) counted in
          subst (λ (n : ℕ). n ≤ kept_after_all cluster (cluster.view copy.round) copy.log kept (messages_at (history.order last) late)) it.long
          (own_late cluster (history.order last) (cluster.view copy.round) node place (log_at cluster history round it.heard) all late among.0 among.1 among.2 copy.log kept
          begins))
    ]

-- what a node leaves a round with
pub record Left (cluster : Cluster) (history : History) (kept : ℕ) (copy left : Copy) : Type 0 where
  pub round : left.round ≡ copy.round
  pub state : IsState cluster history left
  pub within : kept ≤ length left.log
  pub from_start : length (start_of cluster history left.round) ≤ kept
  pub long : (count : ℕ) → count ≤ length copy.log → count ≤ kept → count ≤ length left.log

heard_none : (phase : Phase) → heard_late phase [] ≡ []
heard_none Apart = refl
heard_none Speaking = refl
heard_none Taking = refl
heard_none Hearing = refl

-- the log is cut to what is kept
left_cut : (cluster : Cluster) (history : History) (kept : ℕ) (copy : Copy) (log : List Entry) → IsState cluster history copy
    → IsGood cluster history copy.round log kept → Left cluster history kept copy (record { round = copy.round; log = take kept log })
left_cut cluster history kept copy log state good =
    let long = length-take-le kept log good.within in
    let from_start = good.from_start in
    record {
      round = refl;
      state = record { came = state.came; in_order = good.in_order; from_start = omega arith };
      within = omega arith;
      from_start = good.from_start;
      long = λ count le enough. omega arith;
    }

left_of : (cluster : Cluster) (history : History) → HistoryIsKept cluster history → (last kept heard : ℕ) (phase : Phase) (late : List ℕ) (breaks : Bool)
    → (breaks ≡ false → late ≡ []) → (copy left : Copy) → IsKeptState cluster history last kept copy → (phase ≡ Hearing → copy.round ≡ last)
    → left_with cluster (kept_after_all cluster (cluster.view copy.round) copy.log kept (heard_late phase (messages_at (history.order last) late))) (Some copy)
    (heard_late phase (messages_at (history.order last) late)) breaks ≡ Some left
    → Left cluster history (kept_after_all cluster (cluster.view copy.round) copy.log kept (heard_late phase (messages_at (history.order last) late))) copy left
left_of cluster history so_far last kept heard phase late true whole copy left state of is =
    let all : ℕ = kept_after_all cluster (cluster.view copy.round) copy.log kept (heard_late phase (messages_at (history.order last) late)) in
    let cut : Copy = record {
      round = copy.round;
      log = take (kept_after_all cluster (cluster.view copy.round) copy.log kept (heard_late phase (messages_at (history.order last) late)))
          (after_all cluster (cluster.view copy.round) copy.log (heard_late phase (messages_at (history.order last) late)));
    } in
    let same : cut ≡ left = cc in
    subst (λ (c : Copy). Left cluster history
    (kept_after_all cluster (cluster.view copy.round) copy.log kept (heard_late phase (messages_at (history.order last) late))) copy c) same
    (left_cut cluster history
    (kept_after_all cluster (cluster.view copy.round) copy.log kept (heard_late phase (messages_at (history.order last) late))) copy
    (after_all cluster (cluster.view copy.round) copy.log (heard_late phase (messages_at (history.order last) late))) state.state
    (late_good cluster history so_far last late copy kept (good_of cluster history last kept copy state) phase of))
left_of cluster history so_far last kept heard phase late false whole copy left state of is =
    let same : copy ≡ left = cc in
    let none : heard_late phase (messages_at (history.order last) late) ≡ [] =
    ap (λ (places : List ℕ). heard_late phase (messages_at (history.order last) places)) (whole refl) ∙ heard_none phase in
    let kept_is : kept_after_all cluster (cluster.view copy.round) copy.log kept (heard_late phase (messages_at (history.order last) late)) ≡ kept =
    ap (λ (messages : List Message). kept_after_all cluster (cluster.view copy.round) copy.log kept messages) none in
    subst (λ (n : ℕ). Left cluster history n copy left) (sym kept_is)
    (subst (λ (c : Copy). Left cluster history kept copy c) same
    (record { round = refl; state = state.state; within = state.within; from_start = state.from_start; long = λ count le enough. le }))

-- what a HELLO tells is the state, and counts
told_counts : (cluster : Cluster) (history : History) (state told : Option Copy) (copy : Copy) → IsTold cluster history state told → told ≡ Some copy
    → (state ≡ Some copy) × Counts cluster history copy
told_counts cluster history None told copy is some = let bad : None ≡ Some copy = sym is ∙ some in cc
told_counts cluster history (Some state) told copy (inl is) some =
    let both : Some state ≡ Some copy = sym is.0 ∙ some in
    let one : state ≡ copy = cc in
    (both, subst (λ (c : Copy). Counts cluster history c) one is.1)
told_counts cluster history (Some state) told copy (inr is) some = let bad : None ≡ Some copy = sym is.0 ∙ some in cc

-- what a node has that enters a round
pub record Entered (cluster : Cluster) (history : History) (node : ℕ) (member : Member) (kept : ℕ) (left : Copy) : Type 0 where
  pub copy : Copy
  pub had : IsKeptState cluster history member.round member.kept copy
  pub is : Left cluster history kept copy left
  pub own : (round place count digest : ℕ) → IsAckAt cluster history round place node count digest
      → IsBefore (cluster.view round) (cluster.view left.round) ⊎ ((left.round ≡ round) × (count ≤ length left.log) × (count ≤ kept))

entered : (cluster : Cluster) (history : History) → HistoryIsKept cluster history → (node : ℕ) (member : Member) → MemberIsKept cluster history node member
    → (late : List ℕ) (breaks : Bool) → (breaks ≡ false → late ≡ [])
    → ((place : ℕ) (message : Message) → member.phase ≡ Hearing → slice_get (history.order member.round) place ≡ Some message → message.sender ≡ node
    → (place < member.heard) ⊎ Contains late place)
    → (state : Option Copy) → member.state ≡ state → (left : Copy)
    → left_with cluster (kept_of cluster member.kept state (heard_late member.phase (messages_at (history.order member.round) late))) state
    (heard_late member.phase (messages_at (history.order member.round) late)) breaks ≡ Some left
    → Entered cluster history node member (kept_of cluster member.kept state (heard_late member.phase (messages_at (history.order member.round) late))) left
entered cluster history so_far node member m late breaks whole own None has left is = let bad : None ≡ Some left = is in cc
entered cluster history so_far node member m late breaks whole own (Some copy) has left is =
    let had = m.state copy has in
    let of : member.phase ≡ Hearing → copy.round ≡ member.round = λ hearing.
    let h = m.hearing hearing in
    let both : Some h.copy ≡ Some copy = sym h.is ∙ has in
    let one : h.copy ≡ copy = cc in
    subst (λ (c : Copy). c.round ≡ member.round) one h.round in
    let result = left_of cluster history so_far member.round member.kept member.heard member.phase late breaks whole copy left had of is in
    record {
      copy = copy;
      had = had;
      is = result;
      own = λ round place count digest at. elim ((m.acks round place count digest at).has copy has) [
        | inl before ↦ inl (subst (λ (r : ℕ). IsBefore (cluster.view round) (cluster.view r)) (sym result.round) before)
        | inr here ↦ (
            let kept_it = late_own cluster history so_far node member.round member.heard late copy member.kept had.state round place count digest at here.0 here.1 member.phase of
            here.2 (λ hearing. own place (ack cluster round node count digest) hearing
            (subst (λ (r : ℕ). slice_get (history.order r) place ≡ Some (ack cluster round node count digest)) (sym here.0 ∙ of hearing) at) refl) in
            inr (result.round ∙ here.0, result.long count here.1 kept_it, kept_it))
      ];
    }

pub enters : (cluster : Cluster) (old new : World) (node round : ℕ) (breaks : Bool) (late : List ℕ) → WorldIsKept cluster old
    → Enters cluster old node round breaks late new → WorldIsKept cluster new
enters cluster old new node round breaks late kept step =
    let m = kept.members node in
    let word : Word = Speaks (old.member node).known step.told in
    let on = says_on old.history new.history round node (Speaks (old.member node).known step.told) step.says
    (unsaid cluster old.history node round (old.member node) m step.rises)
    (uncame cluster old.history kept.history node round (old.member node) m step.is_node step.of_ring step.rises) in
    let at_state = left_state in
    record {
      history = says_history cluster old.history new.history round node (Speaks (old.member node).known step.told) (old.member node) kept.history step.says on m
          step.rises
          (λ known copy is.
          let told_is : step.told ≡ Some copy = cc in
          let counts = told_counts cluster old.history step.state step.told copy step.told_is told_is in
          let e = at_state copy counts.0 in
          record { state = e.is.state; earlier = earlier copy e; counts = counts.1 })
          (λ known copy r place count digest is at.
          let told_is : step.told ≡ Some copy = cc in
          let counts = told_counts cluster old.history step.state step.told copy step.told_is told_is in
          let e = at_state copy counts.0 in
          elim (e.own r place count digest at) [ inl before ↦ inl before | inr here ↦ inr (here.0, here.1) ]);
      members = becomes_all cluster new.history old new node
          (record {
            phase = Speaking;
            round = round;
            state = step.state;
            kept = step.kept;
            heard = 0;
            told = (old.member node).told;
            known = (old.member node).known;
          }) step.becomes
          (record {
            latest = latest_says cluster old.history new.history round node (Speaks (old.member node).known step.told) (old.member node) step.says m step.rises;
            spoke = λ here. ((old.member node).known, step.told, step.says.is);
            apart = λ is. cc;
            taking = λ is. cc;
            state = λ copy is.
                let e = at_state copy is in
                kept_state_on cluster old.history new.history on round step.kept copy
                (record { state = e.is.state; place = inr (earlier copy e); within = e.is.within; from_start = e.is.from_start });
            hearing = λ is. cc;
            idle = λ not copy is. earlier copy (at_state copy is);
            acks = λ r place count digest at.
                let before = subst (λ (order : List Message). slice_get order place ≡ Some (ack cluster r node count digest)) (step.says.order r) at in
                let it = kept.history.acks r place node count digest before in
                record {
                  at = λ same. absurd (unsaid cluster old.history node round (old.member node) m step.rises (Speaks it.spoke.0 it.spoke.1)
                      (subst (λ (k : ℕ). old.history.said k node ≡ Some (Speaks it.spoke.0 it.spoke.1)) same it.spoke.2));
                  has = λ copy is.
                      elim ((at_state copy is).own r place count digest before) [ inl earlier_view ↦ inl earlier_view | inr here ↦ inr (here.0, here.1, λ seen. here.2) ];
                };
            told = λ copy is.
                let lock = m.told copy is in
                record {
                  is_node = lock.is_node;
                  came = (lock.came.0, on.came copy.round lock.came.0 lock.came.1);
                  committed = committed_on cluster old.history new.history on copy lock.came.0 lock.came.1 lock.committed;
                  process = λ r said. elim (said_or old.history new.history round node (Speaks (old.member node).known step.told) step.says r node) [
                    | inl here ↦ (
                        let bad : Some (Speaks (old.member node).known step.told) ≡ Some NoProcess =
                        sym step.says.is ∙ ap (λ (k : ℕ). new.history.said k node) (sym here.0) ∙ said in
                        cc)
                    | inr same ↦ lock.process r (sym same ∙ said)
                  ];
                };
          })
          (λ other not. others_on cluster old.history new.history round node (Speaks (old.member node).known step.told) step.says on other (old.member other) not
          (kept.members other));
    }
  where
    left_state : (copy : Copy) → step.state ≡ Some copy → Entered cluster old.history node (old.member node) step.kept copy
    left_state copy is =
        let messages_is = step.messages_are in
        let kept_is : step.kept ≡ kept_of cluster (old.member node).kept (old.member node).state
        (heard_late (old.member node).phase (messages_at (old.history.order (old.member node).round) late)) =
        step.kept_is ∙ ap (λ (messages : List Message). kept_of cluster (old.member node).kept (old.member node).state messages) step.messages_are in
        let state_is : left_with cluster
        (kept_of cluster (old.member node).kept (old.member node).state
        (heard_late (old.member node).phase (messages_at (old.history.order (old.member node).round) late)))
        (old.member node).state (heard_late (old.member node).phase (messages_at (old.history.order (old.member node).round) late)) breaks ≡ Some copy =
        sym (ap (λ (n : ℕ). left_with cluster n (old.member node).state
        (heard_late (old.member node).phase (messages_at (old.history.order (old.member node).round) late)) breaks) kept_is)
        ∙ sym (ap (λ (messages : List Message). left_with cluster step.kept (old.member node).state messages breaks) step.messages_are)
        ∙ sym step.state_is ∙ is in
        subst (λ (n : ℕ). Entered cluster old.history node (old.member node) n copy) (sym kept_is)
        (entered cluster old.history kept.history node (old.member node) (kept.members node) late breaks step.whole step.own (old.member node).state refl copy state_is)

    earlier : (copy : Copy) → Entered cluster old.history node (old.member node) step.kept copy → IsBefore (cluster.view copy.round) (cluster.view round)
    earlier copy e = elim e.had.place [
      | inl same ↦ subst (λ (r : ℕ). IsBefore (cluster.view r) (cluster.view round)) (sym (e.is.round ∙ same)) step.rises
      | inr before ↦ subst (λ (r : ℕ). IsBefore (cluster.view r) (cluster.view round)) (sym e.is.round)
          (before_trans (cluster.view e.copy.round) (cluster.view (old.member node).round) (cluster.view round) before step.rises)
    ]
