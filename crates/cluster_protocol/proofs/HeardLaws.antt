-- What the steps leave by which a node hears a message, and tells its program a lock.
use Rattle.cluster_protocol.proofs.Common.{◌≡◌, ◌≢◌, ◌⊎◌, ◌∙◌, ◌+◌, ◌<◌, ◌≤◌, ◌++◌, ◌∷◌, [], ℕ, true, false, List, Some, length, get_or, take, arith, ap, inl, inr, refl, sym, subst, slice_get, length-take-le, get_or_from_slice_get, slice_get_within, View, IsBefore, Cluster, Entry, IsBeginning, Acknowledges, after, after_all, Apart, Copy, Hearing, History, kept_after, log_at, Message, Speaks, start_of, Taking, World, same_view, Asks, Content, NoProcess, Purges, nat_tests, slice_get_read}
use Rattle.std.proofs.lemmas.List.{take_more}
use Rattle.cluster_protocol.specs.Steps.{Hears}
use Rattle.cluster_protocol.proofs.HearLemmas.{after_all_append, after_longer, kept_more, own_kept}
use Rattle.cluster_protocol.proofs.Kept.{ack, HistoryIsKept, InOrder, IsAckAt, IsKeptState, IsToldLock, WorldIsKept}
use Rattle.cluster_protocol.proofs.LateLemmas.{good_after}
use Rattle.cluster_protocol.proofs.LogLemmas.{begin_itself, begin_same, begin_short, begin_through, take_begin}
use Rattle.cluster_protocol.proofs.OutlivingLaws.{in_order_both}
use Rattle.cluster_protocol.proofs.MoveLaws.{alone, good_of, ordered, with_told}
use Rattle.cluster_protocol.proofs.HearLemmas.{same_view_is}
use Rattle.cluster_protocol.specs.Steps.{Tells, vouches}
use Rattle.std.specs.Prelude.{Any}
use Rattle.std.proofs.lemmas.List.{get_or-take, length-take}
use Rattle.std.specs.List.{list_any}
use Rattle.std.proofs.lemmas.List.Folds.{Any-from_list_any}

-- the log after the next message
pub next_log : (cluster : Cluster) (history : History) (round n : ℕ) (log : List Entry) (message : Message) → log ≡ log_at cluster history round n
    → slice_get (history.order round) n ≡ Some message → after cluster (cluster.view round) log message ≡ log_at cluster history round (n + 1)
next_log cluster history round n log message is at =
    let order : List Message = history.order round in
    let start : List Entry = start_of cluster history round in
    let view : View = cluster.view round in
    let lt : n < length (history.order round) = slice_get_within (history.order round) n message at in
    let more : take (n + 1) (history.order round) ≡ take n (history.order round) ++ message ∷ [] =
    take_more (history.order round) n message lt
    ∙ ap (λ (m : Message). take n (history.order round) ++ m ∷ []) (get_or_from_slice_get (history.order round) n message message at) in
    ap (λ (l : List Entry). after cluster (cluster.view round) l message) is
    ∙ sym (after_all_append cluster (cluster.view round) (start_of cluster history round) (take n (history.order round)) (message ∷ []))
    ∙ sym (ap (λ (messages : List Message). after_all cluster (cluster.view round) (start_of cluster history round) messages) more)

-- an acknowledgement of its own that a node hears is kept
own_heard : (cluster : Cluster) (round last node count digest : ℕ) (message : Message) (acked log : List Entry) (kept : ℕ) → last ≡ round
    → message ≡ ack cluster round node count digest → length acked ≡ count → cluster.digest acked ≡ digest → IsBeginning acked log
    → count ≤ kept_after cluster (cluster.view last) log kept message
own_heard cluster round last node count digest message acked log kept same is long digest_is begins =
    let message_is : message ≡ ack cluster round node (length acked) (cluster.digest acked) =
    is ∙ ap (λ (n : ℕ). ack cluster round node n digest) (sym long) ∙ ap (λ (d : ℕ). ack cluster round node (length acked) d) (sym digest_is) in
    subst (λ (n : ℕ). n ≤ kept_after cluster (cluster.view last) log kept message) long
    (subst (λ (m : Message). length acked ≤ kept_after cluster (cluster.view last) log kept m) (sym message_is)
    (subst (λ (r : ℕ). length acked ≤ kept_after cluster (cluster.view r) log kept (ack cluster round node (length acked) (cluster.digest acked))) (sym same)
    (own_kept cluster (cluster.view round) log acked kept node begins)))

-- what an own acknowledgement comes to as the node hears a message
heard_ack : (cluster : Cluster) (history : History) → HistoryIsKept cluster history → (node last : ℕ) (copy : Copy) (kept heard : ℕ) (message : Message)
    → IsKeptState cluster history last kept copy → slice_get (history.order copy.round) heard ≡ Some message → (round place count digest : ℕ)
    → IsAckAt cluster history round place node count digest → copy.round ≡ round → count ≤ length copy.log → place < heard + 1
    → (place < heard → count ≤ kept) → (place < heard) ⊎ ((place ≡ heard) ⊎ (heard < place))
    → count ≤ kept_after cluster (cluster.view copy.round) copy.log kept message
heard_ack cluster history so_far node last copy kept heard message state at round place count digest is here le lt before (inl less) =
    let more = kept_more cluster (cluster.view copy.round) copy.log kept message in
    let old = before less in
    omega arith
heard_ack cluster history so_far node last copy kept heard message state at round place count digest is here le lt before (inr (inl same)) =
    let it = so_far.acks round place node count digest is in
    let acked : List Entry = log_at cluster history round it.heard in
    let own : Some message ≡ Some (ack cluster round node count digest) =
    sym at ∙ ap (λ (r : ℕ). slice_get (history.order r) heard) here ∙ ap (λ (k : ℕ). slice_get (history.order round) k) (sym same) ∙ is in
    let message_is : message ≡ ack cluster round node count digest = cc in
    let long = it.long in
    let short : length (log_at cluster history round it.heard) ≤ length copy.log = omega arith in
    own_heard cluster round copy.round node count digest message (log_at cluster history round it.heard) copy.log kept here message_is it.long it.is
    (in_order_both cluster history round (log_at cluster history round it.heard) copy.log
    (record { count = it.heard; within = it.within; begins = begin_itself (log_at cluster history round it.heard) })
    (subst (λ (r : ℕ). InOrder cluster history r copy.log) here state.state.in_order) short)
heard_ack cluster history so_far node last copy kept heard message state at round place count digest is here le lt before (inr (inr more)) = absurd (omega arith)

pub hears : (cluster : Cluster) (old new : World) (node : ℕ) → WorldIsKept cluster old → Hears cluster old node new → WorldIsKept cluster new
hears cluster old new node kept step =
    let history : History = old.history in
    let m = kept.members node in
    let h = m.hearing step.hearing in
    let both : Some h.copy ≡ Some step.copy = sym h.is ∙ step.state in
    let one : h.copy ≡ step.copy = cc in
    let round_is : step.copy.round ≡ (old.member node).round = subst (λ (c : Copy). c.round ≡ (old.member node).round) one h.round in
    let log_is : step.copy.log ≡ log_at cluster old.history step.copy.round (old.member node).heard =
    subst (λ (c : Copy). c.log ≡ log_at cluster old.history c.round (old.member node).heard) one h.log in
    let at : slice_get (old.history.order step.copy.round) (old.member node).heard ≡ Some step.message =
    subst (λ (r : ℕ). slice_get (old.history.order r) (old.member node).heard ≡ Some step.message) (sym round_is) step.is_next in
    let lt : (old.member node).heard < length (old.history.order step.copy.round) =
    slice_get_within (old.history.order step.copy.round) (old.member node).heard step.message at in
    let k = m.state step.copy step.state in
    let good = good_after cluster old.history kept.history step.copy.round (old.member node).heard step.message step.copy.log (old.member node).kept at
    (good_of cluster old.history (old.member node).round (old.member node).kept step.copy k) in
    let log : List Entry = after cluster (cluster.view step.copy.round) step.copy.log step.message in
    let after_is = next_log cluster old.history step.copy.round (old.member node).heard step.copy.log step.message log_is at in
    let longer = begin_short step.copy.log (after cluster (cluster.view step.copy.round) step.copy.log step.message)
    (after_longer cluster (cluster.view step.copy.round) step.copy.log step.message) in
    let from_start = k.state.from_start in
    let new_copy : Copy = record { round = step.copy.round; log = after cluster (cluster.view step.copy.round) step.copy.log step.message } in
    let new_kept : ℕ = kept_after cluster (cluster.view step.copy.round) step.copy.log (old.member node).kept step.message in
    let new_state : IsKeptState cluster old.history (old.member node).round new_kept new_copy = record {
      state = record {
        came = k.state.came;
        in_order = record {
          count = (old.member node).heard + 1;
          within = omega arith;
          begins = begin_same (after cluster (cluster.view step.copy.round) step.copy.log step.message)
              (log_at cluster old.history step.copy.round ((old.member node).heard + 1)) (log_at cluster old.history step.copy.round ((old.member node).heard + 1)) after_is
              (begin_itself (log_at cluster old.history step.copy.round ((old.member node).heard + 1)));
        };
        from_start = omega arith;
      };
      place = k.place;
      within = good.within;
      from_start = good.from_start;
    } in
    let hearing = step.hearing in
    alone cluster old new node
    (record {
      phase = (old.member node).phase;
      round = (old.member node).round;
      state = Some new_copy;
      kept = new_kept;
      heard = (old.member node).heard + 1;
      told = (old.member node).told;
      known = (old.member node).known;
    }) kept step.history step.becomes
    (record {
      latest = m.latest;
      spoke = m.spoke;
      apart = λ is. let bad : Hearing ≡ Apart = sym hearing ∙ is in cc;
      taking = λ is. let bad : Hearing ≡ Taking = sym hearing ∙ is in cc;
      state = λ copy is.
          let same : new_copy ≡ copy = cc in subst (λ (c : Copy). IsKeptState cluster old.history (old.member node).round new_kept c) same new_state;
      hearing = λ is. record { copy = new_copy; is = refl; round = round_is; log = after_is; within = omega arith };
      idle = λ not. absurd (not step.hearing);
      acks = λ round place count digest ack_at. record {
        at = (m.acks round place count digest ack_at).at;
        has = λ copy is.
            let same : new_copy ≡ copy = cc in
            subst (λ (c : Copy). IsBefore (cluster.view round) (cluster.view c.round)
            ⊎ ((c.round ≡ round) × (count ≤ length c.log) × (((old.member node).phase ≡ Hearing → place < (old.member node).heard + 1) → count ≤ new_kept))) same
            (elim ((m.acks round place count digest ack_at).has step.copy step.state) [
              | inl before ↦ inl before
              | inr here ↦ inr (
                here.0,
                (let enough = here.1 in omega arith),
                λ seen. heard_ack cluster old.history kept.history node (old.member node).round step.copy (old.member node).kept (old.member node).heard step.message k at
                    round place count digest ack_at here.0 here.1 (seen step.hearing) (λ less. here.2 (λ is_hearing. less)) (ordered place (old.member node).heard),
              )
            ]);
      };
      told = m.told;
    })

-- a message that vouches is an acknowledgement of the node

pub record Vouched (cluster : Cluster) (view : View) (count node : ℕ) (message : Message) : Type 0 where
  pub told : ℕ
  pub digest : ℕ
  pub is : message ≡ record { sender = node; view = view; what = Acknowledges told digest }
  pub enough : count ≤ told

vouched_by : (cluster : Cluster) (view seen : View) (log : List Entry) (count node sender : ℕ) (what : Content)
    → vouches cluster view log count node (record { sender = sender; view = seen; what = what }) ≡ true
    → Vouched cluster view count node (record { sender = sender; view = seen; what = what })
vouched_by cluster view seen log count node sender (Asks request) test = let bad : false ≡ true = grind (arith, nat_tests) in cc
vouched_by cluster view seen log count node sender (Purges other) test = let bad : false ≡ true = grind (arith, nat_tests) in cc
vouched_by cluster view seen log count node sender (Acknowledges told digest) test =
    let of : sender ≡ node = grind (arith, nat_tests) in
    let views : same_view seen view ≡ true = grind (arith, nat_tests) in
    let enough : count ≤ told = grind (arith, nat_tests) in
    record {
      told = told;
      digest = digest;
      is = ap (λ (s : ℕ). let m : Message = record { sender = s; view = seen; what = Acknowledges told digest } in m) of
          ∙ ap (λ (v : View). let m : Message = record { sender = node; view = v; what = Acknowledges told digest } in m) (same_view_is seen view views);
      enough = enough;
    }

pub tells : (cluster : Cluster) (old new : World) (node count : ℕ) → WorldIsKept cluster old → Tells cluster old node count new → WorldIsKept cluster new
tells cluster old new node count kept step =
    let m = kept.members node in
    let k = m.state step.copy step.state in
    let h = m.hearing step.hearing in
    let both : Some h.copy ≡ Some step.copy = sym h.is ∙ step.state in
    let one : h.copy ≡ step.copy = cc in
    let round_is : step.copy.round ≡ (old.member node).round = subst (λ (c : Copy). c.round ≡ (old.member node).round) one h.round in
    let hearing = step.hearing in
    let told_copy : Copy = record { round = step.copy.round; log = take count step.copy.log } in
    let long : length (take count step.copy.log) ≡ count = length-take-le count step.copy.log step.within in
    let not_apart : (old.member node).phase ≢ Apart = λ is. let bad : Hearing ≡ Apart = sym hearing ∙ is in cc in
    let lock : IsToldLock cluster old.history node told_copy = record {
      is_node = step.is_node;
      came = k.state.came;
      committed = record {
        acked = λ other. list_any (vouches cluster (cluster.view step.copy.round) step.copy.log count other) (take (old.member node).heard (old.history.order step.copy.round));
        majority = step.majority;
        each = λ other is. vouched_at other
            (Any-from_list_any (vouches cluster (cluster.view step.copy.round) step.copy.log count other) (take (old.member node).heard (old.history.order step.copy.round)) is);
        in_order = record {
          count = k.state.in_order.count;
          within = k.state.in_order.within;
          begins = begin_through (take count step.copy.log) step.copy.log (log_at cluster old.history step.copy.round k.state.in_order.count)
              (take_begin count step.copy.log) k.state.in_order.begins;
        };
      };
      process = λ round said. elim (m.latest round NoProcess said) [
        | inl same ↦ (
            let spoke = m.spoke not_apart in
            let bad : Some (Speaks spoke.0 spoke.1) ≡ Some NoProcess = sym spoke.2 ∙ ap (λ (r : ℕ). old.history.said r node) (sym same) ∙ said in
            cc)
        | inr before ↦ subst (λ (r : ℕ). IsBefore (cluster.view round) (cluster.view r)) (sym round_is) before
      ];
    } in
    alone cluster old new node (record (old.member node) { told = Some (record { round = step.copy.round; log = take count step.copy.log }) }) kept step.history step.becomes
    (with_told cluster old.history node (old.member node) (Some told_copy) m
    (λ is. absurd (not_apart is))
    (λ copy is. let same : told_copy ≡ copy = cc in subst (λ (c : Copy). IsToldLock cluster old.history node c) same lock))
  where
    vouched_at : (other : ℕ)
        → Any (λ (message : Message). vouches cluster (cluster.view step.copy.round) step.copy.log count other message ≡ true)
        (take (old.member node).heard (old.history.order step.copy.round))
        → (place : ℕ) × (acked : ℕ) × (digest : ℕ) × IsAckAt cluster old.history step.copy.round place other acked digest
        × (length (take count step.copy.log) ≤ acked)
    vouched_at other some =
        let it = vouched_by cluster (cluster.view step.copy.round) some.1.view step.copy.log count other some.1.sender some.1.what some.4 in
        let front : some.0 < length (take (old.member node).heard (old.history.order step.copy.round)) = some.2 in
        let cut = length-take (old.member node).heard (old.history.order step.copy.round) in
        let place_lt : some.0 < (old.member node).heard = omega arith in
        let order_lt : some.0 < length (old.history.order step.copy.round) = omega arith in
        let got : get_or (old.history.order step.copy.round) some.0 some.1 ≡ some.1 =
        sym (get_or-take (old.member node).heard (old.history.order step.copy.round) some.0 some.1 place_lt) ∙ some.3 in
        let found = slice_get_read (old.history.order step.copy.round) (length (old.history.order step.copy.round)) some.0 some.1 refl order_lt (sym got) in
        let enough = it.enough in
        (some.0, it.told, it.digest, found ∙ ap (λ (message : Message). Some message) it.is, omega (arith, length-take-le count step.copy.log step.within))
