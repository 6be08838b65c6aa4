-- What the step leaves by which a node decides; and each step; and the theorem.
use Rattle.cluster_protocol.proofs.Common.{◌≡◌, ◌≢◌, ◌⊎◌, ◌∙◌, ◌≤◌, [], ℕ, List, Option, None, Some, length, arith, ap, inl, inr, refl, sym, subst, slice_get, slice_get_within, Decision, View, Cluster, after, Apart, Copy, Hearing, History, Member, Message, Speaks, start_of, Taking, World, append-nil, Hello, Decides, hellos_of, IsOfView}
use Rattle.cluster_protocol.specs.Steps.{start_copy}
use Rattle.cluster_protocol.specs.Worlds.{Speaking}
use Rattle.cluster_protocol.proofs.Kept.{ack, HistoryIsKept, IsAckAt, IsKeptState, IsToldLock, MemberIsKept, WorldIsKept}
use Rattle.cluster_view.specs.declared.part.Part.{Part}
use Rattle.cluster_view.specs.declared.part.Part.TheVariants.{Suspended, Withdraws, BeginsAnew, Takes, CatchesUp, HasAll, Gives}
use Rattle.cluster_protocol.specs.Steps.{Comes, DecidesOn, in_part}
use Rattle.cluster_protocol.proofs.ExtendLemmas.{ack_on, decided_on, hellos_same, member_on, told_state_on}
use Rattle.cluster_protocol.proofs.Kept.{Extends, IsDecided}
use Rattle.cluster_protocol.proofs.MoveLaws.{ack_before, becomes_all, begins_hearing, same_or_not}
use Rattle.cluster_protocol.proofs.ViewLemmas.{before_self}
use Rattle.cluster_view.specs.Laws.{SameHellosSameDecision}
use Rattle.cluster_protocol.specs.Outliving.{ToldLocksOutliveViews, ToldLocksStay}
use Rattle.cluster_protocol.specs.Steps.{At_first, By_step, Dead, Decided, Entry_to, Heard, IsOpening, IsReached, Lack, Released, Sent, Step, Strayed, Taken, Told}
use Rattle.cluster_protocol.proofs.OutlivingLaws.{all_stay, comes_of, outlives}
use Rattle.cluster_protocol.proofs.MoveLaws.{dies, lets_go, takes_state}
use Rattle.cluster_protocol.proofs.HeardLaws.{hears, tells}
use Rattle.cluster_protocol.proofs.PutLaws.{sends, strays}
use Rattle.cluster_protocol.proofs.SayLaws.{lacks}
use Rattle.cluster_protocol.proofs.EnterLaws.{enters}

-- the same words are decided alike
one_decision : SameHellosSameDecision → (ring : ℕ) (hellos : List Hello) (view : View) (one other : Decision) → IsOfView one view → IsOfView other view
    → Decides ring hellos one → Decides ring hellos other → one ≡ other
one_decision law ring hellos view one other of are is decides =
    law ring hellos hellos one other
    (record {
      there = record { moves = []; below = tt; is = refl };
      back = record { moves = []; below = tt; is = refl };
      one_each = (comes_of ring hellos view one of is).can.one_each;
      others_one_each = (comes_of ring hellos view one of is).can.one_each;
    })
    is decides

-- a round that was decided is decided alike
comes_on : (cluster : Cluster) (old new : History) (round : ℕ) (decision : Decision) → HistoryIsKept cluster old → Comes old new round decision
    → ((other : Decision) → old.came round ≡ Some other → decision ≡ other) → Extends old new
comes_on cluster old new round decision kept comes same_one = record {
  said = λ r n word is. comes.said r n ∙ is;
  came = λ r other is. at r other is (same_or_not r round);
  settled = λ r other is n. comes.said r n;
  order = λ r. ([], append-nil (old.order r) ∙ sym (comes.order r));
}
  where
    at : (r : ℕ) (other : Decision) → old.came r ≡ Some other → (r ≡ round) ⊎ (r ≢ round) → new.came r ≡ Some other
    at r other is (inl same) =
        ap (λ (k : ℕ). new.came k) same ∙ comes.is
        ∙ ap (λ (d : Decision). Some d) (same_one other (ap (λ (k : ℕ). old.came k) (sym same) ∙ is))
    at r other is (inr not) = comes.others r not ∙ is

comes_history : (cluster : Cluster) (old new : History) (round : ℕ) (decision : Decision) → HistoryIsKept cluster old → Comes old new round decision
    → Extends old new → IsDecided cluster new round decision → HistoryIsKept cluster new
comes_history cluster old new round decision kept comes on is = record {
  decided = λ r other came. at r other came (same_or_not r round);
  told = λ r n known copy said. told_state_on cluster old new on r copy (kept.told r n known copy (sym (comes.said r n) ∙ said));
  rise = λ one other n a b is are. kept.rise one other n a b (sym (comes.said one n) ∙ is) (sym (comes.said other n) ∙ are);
  acks = λ r place n count digest at_place.
      let before = subst (λ (order : List Message). slice_get order place ≡ Some (ack cluster r n count digest)) (comes.order r) at_place in
      let it = kept.acks r place n count digest before in
      ack_on cluster old new on r n count digest it (λ other known copy later said. it.later other known copy later (sym (comes.said other n) ∙ said));
}
  where
    at : (r : ℕ) (other : Decision) → new.came r ≡ Some other → (r ≡ round) ⊎ (r ≢ round) → IsDecided cluster new r other
    at r other came (inl same) =
        let both : Some decision ≡ Some other = sym comes.is ∙ ap (λ (k : ℕ). new.came k) (sym same) ∙ came in
        let one : decision ≡ other = cc in
        subst (λ (k : ℕ). IsDecided cluster new k other) (sym same) (subst (λ (d : Decision). IsDecided cluster new round d) one is)
    at r other came (inr not) =
        let before = sym (comes.others r not) ∙ came in decided_on cluster old new on r other before (kept.decided r other before)

-- a node that decided, and takes what it lacks
begins_taking : (cluster : Cluster) (history : History) → HistoryIsKept cluster history → (node : ℕ) (member : Member) (state told : Option Copy) (kept : ℕ)
    (known : View) (decision : Decision) → MemberIsKept cluster history node member → history.came member.round ≡ Some decision → member.phase ≡ Speaking
    → ((copy : Copy) → state ≡ Some copy → (member.state ≡ Some copy) × (kept ≡ member.kept))
    → ((copy : Copy) → told ≡ Some copy → IsToldLock cluster history node copy)
    → MemberIsKept cluster history node (record {
      phase = Taking;
      round = member.round;
      state = state;
      kept = kept;
      heard = 0;
      told = told;
      known = known;
    })
begins_taking cluster history so_far node member state told kept known decision m came speaking same locks =
    let not_apart : member.phase ≢ Apart = λ is. let bad : Speaking ≡ Apart = sym speaking ∙ is in cc in
    let not_hearing : member.phase ≢ Hearing = λ is. let bad : Speaking ≡ Hearing = sym speaking ∙ is in cc in
    record {
      latest = m.latest;
      spoke = λ here. m.spoke not_apart;
      apart = λ is. cc;
      taking = λ is. (decision, came);
      state = λ copy is.
          let had = same copy is in
          subst (λ (n : ℕ). IsKeptState cluster history member.round n copy) (sym had.1) (m.state copy had.0);
      hearing = λ is. cc;
      idle = λ not copy is. m.idle not_hearing copy (same copy is).0;
      acks = λ round place count digest at. record {
        at = λ here. absurd (before_self (cluster.view round) (cluster.view member.round) (ap cluster.view here)
            (ack_before cluster history so_far node member m not_apart not_hearing round place count digest at));
        has = λ copy is.
            let had = same copy is in
            elim ((m.acks round place count digest at).has copy had.0) [
              | inl before ↦ inl before
              | inr here ↦ inr (here.0, here.1, λ seen. subst (λ (n : ℕ). count ≤ n) (sym had.1) (here.2 (λ hearing. absurd (not_hearing hearing))))
            ];
      };
      told = locks;
    }

part_kept : (cluster : Cluster) (history : History) → HistoryIsKept cluster history → (node : ℕ) (member : Member) (view : View) (decision : Decision)
    → MemberIsKept cluster history node member → history.came member.round ≡ Some decision → member.phase ≡ Speaking → (part : Part)
    → MemberIsKept cluster history node
    (in_part member (start_copy cluster history member.round) (length (start_of cluster history member.round)) view part)
part_kept cluster history kept node member view decision m came speaking Suspended = m
part_kept cluster history kept node member view decision m came speaking Withdraws = m
part_kept cluster history kept node member view decision m came speaking BeginsAnew =
    begins_hearing cluster history kept node member None view decision m came
    (λ is. let bad : Speaking ≡ Apart = sym speaking ∙ is in cc) (λ is. let bad : Speaking ≡ Hearing = sym speaking ∙ is in cc) (λ copy is. cc)
part_kept cluster history kept node member view decision m came speaking Takes =
    begins_taking cluster history kept node member None None 0 view decision m came speaking (λ copy is. cc) (λ copy is. cc)
part_kept cluster history kept node member view decision m came speaking CatchesUp =
    begins_taking cluster history kept node member member.state member.told member.kept view decision m came speaking (λ copy is. (is, refl)) m.told
part_kept cluster history kept node member view decision m came speaking HasAll =
    begins_hearing cluster history kept node member member.told view decision m came
    (λ is. let bad : Speaking ≡ Apart = sym speaking ∙ is in cc) (λ is. let bad : Speaking ≡ Hearing = sym speaking ∙ is in cc) m.told
part_kept cluster history kept node member view decision m came speaking Gives =
    begins_hearing cluster history kept node member member.told view decision m came
    (λ is. let bad : Speaking ≡ Apart = sym speaking ∙ is in cc) (λ is. let bad : Speaking ≡ Hearing = sym speaking ∙ is in cc) m.told

pub decides_on : SameHellosSameDecision → (cluster : Cluster) (old new : World) (node : ℕ) (decision : Decision) → WorldIsKept cluster old
    → DecidesOn cluster old node decision new → WorldIsKept cluster new
decides_on law cluster old new node decision kept step =
    let on = comes_on cluster old.history new.history (old.member node).round decision kept.history step.comes
    (λ other came.
    let is = kept.history.decided (old.member node).round other came in
    one_decision law (cluster.view (old.member node).round).ring (hellos_of cluster old.history (old.member node).round) (cluster.view (old.member node).round)
    decision other step.of_view is.of_view step.decides is.decides) in
    let decided : IsDecided cluster new.history (old.member node).round decision = record {
      all = λ n lt ring. let said = step.all n lt ring in (said.0, step.comes.said (old.member node).round n ∙ said.1);
      decides = subst (λ (hellos : List Hello). Decides (cluster.view (old.member node).round).ring hellos decision)
          (sym (hellos_same cluster (old.history.said (old.member node).round) (new.history.said (old.member node).round) cluster.nodes
          (λ n. step.comes.said (old.member node).round n)))
          step.decides;
      of_view = step.of_view;
    } in
    let history = comes_history cluster old.history new.history (old.member node).round decision kept.history step.comes on decided in
    let stays : (other : ℕ) → MemberIsKept cluster new.history other (old.member other) = λ other.
    member_on cluster old.history new.history on other (old.member other) (λ r. step.comes.said r other)
    (λ r place count digest at. subst (λ (order : List Message). slice_get order place ≡ Some (ack cluster r other count digest)) (step.comes.order r) at)
    (kept.members other) in
    record {
      history = history;
      members = becomes_all cluster new.history old new node
          (in_part (old.member node) (start_copy cluster new.history (old.member node).round) (length (start_of cluster new.history (old.member node).round))
          (cluster.view (old.member node).round) step.part)
          step.becomes
          (part_kept cluster new.history history node (old.member node) (cluster.view (old.member node).round) decision (stays node) step.comes.is step.speaking step.part)
          (λ other not. stays other);
    }

-- each step

step_kept : SameHellosSameDecision → (cluster : Cluster) (old new : World) → WorldIsKept cluster old → Step cluster old new → WorldIsKept cluster new
step_kept law cluster old new kept (Entry_to node round breaks late step) = enters cluster old new node round breaks late kept step
step_kept law cluster old new kept (Lack node round step) = lacks cluster old new node round kept step
step_kept law cluster old new kept (Decided node decision step) = decides_on law cluster old new node decision kept step
step_kept law cluster old new kept (Taken node step) = takes_state cluster old new node kept step
step_kept law cluster old new kept (Sent node what step) = sends cluster old new node what kept step
step_kept law cluster old new kept (Strayed round message step) = strays cluster old new round message kept step
step_kept law cluster old new kept (Heard node step) = hears cluster old new node kept step
step_kept law cluster old new kept (Told node count step) = tells cluster old new node count kept step
step_kept law cluster old new kept (Released node step) = lets_go cluster old new node kept step
step_kept law cluster old new kept (Dead node step) = dies cluster old new node kept step

-- at first

none_at_first : (cluster : Cluster) (world : World) → IsOpening world → (round place node count digest : ℕ)
    → IsAckAt cluster world.history round place node count digest → ⊥
none_at_first cluster world first round place node count digest at =
    let lt = slice_get_within (world.history.order round) place (ack cluster round node count digest) at in
    let none = ap (λ (order : List Message). length order) (first.order round) in
    omega arith

opening_kept : (cluster : Cluster) (world : World) → IsOpening world → WorldIsKept cluster world
opening_kept cluster world first = record {
  history = record {
    decided = λ round decision came. let bad : None ≡ Some decision = sym (first.came round) ∙ came in cc;
    told = λ round node known copy said. let bad : None ≡ Some (Speaks known (Some copy)) = sym (first.said round node) ∙ said in cc;
    rise = λ one other node a b is are. let bad : None ≡ Some a = sym (first.said one node) ∙ is in cc;
    acks = λ round place node count digest at. absurd (none_at_first cluster world first round place node count digest at);
  };
  members = λ node.
      subst (λ (member : Member). MemberIsKept cluster world.history node member) (sym (first.member node))
      (record {
        latest = λ round word said. let bad : None ≡ Some word = sym (first.said round node) ∙ said in cc;
        spoke = λ not. absurd (not refl);
        apart = λ is. (refl, refl);
        taking = λ is. cc;
        state = λ copy is. cc;
        hearing = λ is. cc;
        idle = λ not copy is. cc;
        acks = λ round place count digest at. absurd (none_at_first cluster world first round place node count digest at);
        told = λ copy is. cc;
      });
}

reached_kept : SameHellosSameDecision → (cluster : Cluster) (world : World) → IsReached cluster world → WorldIsKept cluster world
reached_kept law cluster world (At_first first opening) = opening_kept cluster world opening
reached_kept law cluster world (By_step old new reached step) = step_kept law cluster old world (reached_kept law cluster old reached) step

pub told_locks : SameHellosSameDecision → ToldLocksOutliveViews
told_locks law cluster world node told round decision reached is came after =
    let kept = reached_kept law cluster world reached in
    outlives cluster world.history kept.history told node round decision ((kept.members node).told told is) came after

pub told_locks_stay : SameHellosSameDecision → ToldLocksStay
told_locks_stay law cluster world node member told copy reached is has counts after =
    let kept = reached_kept law cluster world reached in
    let lock = (kept.members node).told told is in
    all_stay cluster world.history kept.history told node lock.is_node lock.committed copy.round after copy refl ((kept.members member).state copy has).state counts
