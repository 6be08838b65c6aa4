-- What is kept of a log, whichever messages of the order are heard.
use Rattle.cluster_protocol.proofs.Common.{◌≡◌, ◌⊎◌, ◌∙◌, ◌<◌, ◌≤◌, ◌++◌, ◌∷◌, ◌&&◌, [], ℕ, zero, suc, Bool, true, false, List, Option, None, Some, length, get_or, take, max, arith, ap, inl, inr, refl, sym, subst, if◌then◌else◌, slice_get, option_to_list, nat_tests, length-take-le, View, Cluster, Entry, IsBeginning, same_view, Acknowledges, after, after_all, Asks, Content, History, kept_after, kept_after_all, log_at, Message, Purges, start_of}
use Rattle.std.proofs.Common.{◌==◌, nat_le}
use Rattle.cluster_protocol.specs.Steps.{messages_at}
use Rattle.cluster_protocol.specs.Worlds.{entry_of, taken, vouched}
use Rattle.cluster_protocol.proofs.HearLemmas.{after_longer, kept_all_more, own_kept, same_view_is, taken_longer}
use Rattle.cluster_protocol.proofs.HelloLemmas.{le_or_lt}
use Rattle.cluster_protocol.proofs.Kept.{HistoryIsKept, InOrder}
use Rattle.cluster_protocol.proofs.LogLemmas.{begin_cut, begin_itself, begin_short, begin_through}

-- so much of the log is kept: it is in order, and has the start
pub record IsGood (cluster : Cluster) (history : History) (round : ℕ) (log : List Entry) (kept : ℕ) : Type 0 where
  pub within : kept ≤ length log
  pub in_order : InOrder cluster history round (take kept log)
  pub from_start : length (start_of cluster history round) ≤ kept

grown : (cluster : Cluster) (history : History) (round : ℕ) (log longer : List Entry) (kept : ℕ) → IsGood cluster history round log kept
    → IsBeginning log longer → IsGood cluster history round longer kept
grown cluster history round log longer kept good begins =
    let short = begin_short log longer begins in
    let within = good.within in
    record {
      within = omega arith;
      in_order = subst (λ (front : List Entry). InOrder cluster history round front) (sym (begin_cut kept log longer good.within begins)) good.in_order;
      from_start = good.from_start;
    }

-- what an acknowledgement vouches for is in order
vouched_good : (cluster : Cluster) (history : History) → HistoryIsKept cluster history → (round place sender count digest : ℕ) (log : List Entry) (kept : ℕ)
    → slice_get (history.order round) place ≡ Some (record { sender = sender; view = cluster.view round; what = Acknowledges count digest })
    → (test : Bool) → (nat_le count (length log) && (cluster.digest (take count log) == digest)) ≡ test → IsGood cluster history round log kept
    → IsGood cluster history round log (if test then max kept count else kept)
vouched_good cluster history kept_so_far round place sender count digest log kept at false is good = good
vouched_good cluster history kept_so_far round place sender count digest log kept at true is good =
    let le : count ≤ length log = grind (arith, nat_tests) in
    let same : cluster.digest (take count log) ≡ digest = grind (arith, nat_tests) in
    let ack = kept_so_far.acks round place sender count digest at in
    let front : take count log ≡ log_at cluster history round ack.heard =
    cluster.digest_is (take count log) (log_at cluster history round ack.heard) (length-take-le count log le ∙ sym ack.long) (same ∙ sym ack.is) in
    let ordered : InOrder cluster history round (take count log) =
    record { count = ack.heard; within = ack.within; begins = subst (λ (a : List Entry). IsBeginning a (log_at cluster history round ack.heard)) (sym front) (begin_itself (log_at cluster history round ack.heard)) } in
    let within = good.within in
    let from_start = good.from_start in
    record {
      within = omega arith;
      in_order = greater ordered (le_or_lt kept count);
      from_start = omega arith;
    }
  where
    greater : InOrder cluster history round (take count log) → (kept < count) ⊎ (count ≤ kept) → InOrder cluster history round (take (max kept count) log)
    greater ordered (inl lt) = let is_count : max kept count ≡ count = omega arith in rw is_count ordered
    greater ordered (inr le) = let is_kept : max kept count ≡ kept = omega arith in rw is_kept good.in_order

what_good : (cluster : Cluster) (history : History) → HistoryIsKept cluster history → (round place sender : ℕ) (what : Content) (log : List Entry) (kept : ℕ)
    → slice_get (history.order round) place ≡ Some (record { sender = sender; view = cluster.view round; what = what })
    → IsGood cluster history round log kept
    → IsGood cluster history round (taken cluster log (entry_of (cluster.view round) what)) (vouched cluster log kept what)
what_good cluster history kept_so_far round place sender (Asks request) log kept at good =
    grown cluster history round log (taken cluster log (entry_of (cluster.view round) (Asks request))) kept good (taken_longer cluster log (entry_of (cluster.view round) (Asks request)))
what_good cluster history kept_so_far round place sender (Purges node) log kept at good =
    grown cluster history round log (taken cluster log (entry_of (cluster.view round) (Purges node))) kept good (taken_longer cluster log (entry_of (cluster.view round) (Purges node)))
what_good cluster history kept_so_far round place sender (Acknowledges count digest) log kept at good =
    vouched_good cluster history kept_so_far round place sender count digest log kept at
    (nat_le count (length log) && (cluster.digest (take count log) == digest)) refl good

seen_good : (cluster : Cluster) (history : History) → HistoryIsKept cluster history → (round place : ℕ) (message : Message) (log : List Entry) (kept : ℕ)
    → slice_get (history.order round) place ≡ Some message → (test : Bool) → same_view message.view (cluster.view round) ≡ test
    → IsGood cluster history round log kept
    → IsGood cluster history round (if test then taken cluster log (entry_of message.view message.what) else log)
    (if test then vouched cluster log kept message.what else kept)
seen_good cluster history kept_so_far round place message log kept at false is good = good
seen_good cluster history kept_so_far round place message log kept at true is good =
    let same : message.view ≡ cluster.view round = same_view_is message.view (cluster.view round) is in
    let here : slice_get (history.order round) place ≡ Some (record { sender = message.sender; view = cluster.view round; what = message.what }) =
    at ∙ ap (λ (view : View). Some (let m : Message = record { sender = message.sender; view = view; what = message.what } in m)) same in
    subst (λ (view : View). IsGood cluster history round (taken cluster log (entry_of view message.what)) (vouched cluster log kept message.what)) (sym same)
    (what_good cluster history kept_so_far round place message.sender message.what log kept here good)

pub good_after : (cluster : Cluster) (history : History) → HistoryIsKept cluster history → (round place : ℕ) (message : Message) (log : List Entry) (kept : ℕ)
    → slice_get (history.order round) place ≡ Some message → IsGood cluster history round log kept
    → IsGood cluster history round (after cluster (cluster.view round) log message) (kept_after cluster (cluster.view round) log kept message)
good_after cluster history kept_so_far round place message log kept at good =
    seen_good cluster history kept_so_far round place message log kept at (same_view message.view (cluster.view round)) refl good

good_found : (cluster : Cluster) (history : History) → HistoryIsKept cluster history → (round place : ℕ) (rest : List Message) (log : List Entry) (kept : ℕ)
    → ((longer : List Entry) (more : ℕ) → IsGood cluster history round longer more
    → IsGood cluster history round (after_all cluster (cluster.view round) longer rest) (kept_after_all cluster (cluster.view round) longer more rest))
    → IsGood cluster history round log kept → (found : Option Message) → slice_get (history.order round) place ≡ found
    → IsGood cluster history round (after_all cluster (cluster.view round) log (option_to_list found ++ rest))
    (kept_after_all cluster (cluster.view round) log kept (option_to_list found ++ rest))
good_found cluster history kept_so_far round place rest log kept others good None is = others log kept good
good_found cluster history kept_so_far round place rest log kept others good (Some message) is =
    others (after cluster (cluster.view round) log message) (kept_after cluster (cluster.view round) log kept message)
    (good_after cluster history kept_so_far round place message log kept is good)

pub good_late : (cluster : Cluster) (history : History) → HistoryIsKept cluster history → (round : ℕ) (late : List ℕ) (log : List Entry) (kept : ℕ)
    → IsGood cluster history round log kept
    → IsGood cluster history round (after_all cluster (cluster.view round) log (messages_at (history.order round) late))
    (kept_after_all cluster (cluster.view round) log kept (messages_at (history.order round) late))
good_late cluster history kept_so_far round [] log kept good = good
good_late cluster history kept_so_far round (place ∷ late) log kept good =
    good_found cluster history kept_so_far round place (messages_at (history.order round) late) log kept
    (λ longer more still. good_late cluster history kept_so_far round late longer more still) good (slice_get (history.order round) place) refl

-- an acknowledgement of a beginning of the log that is heard late is kept

own_found : (cluster : Cluster) (view : View) (acked : List Entry) (rest : List Message) (log : List Entry) (kept : ℕ)
    → ((longer : List Entry) (more : ℕ) → IsBeginning acked longer → length acked ≤ kept_after_all cluster view longer more rest)
    → IsBeginning acked log → (found : Option Message) → length acked ≤ kept_after_all cluster view log kept (option_to_list found ++ rest)
own_found cluster view acked rest log kept others begins None = others log kept begins
own_found cluster view acked rest log kept others begins (Some message) =
    others (after cluster view log message) (kept_after cluster view log kept message)
    (begin_through acked log (after cluster view log message) begins (after_longer cluster view log message))

own_here : (cluster : Cluster) (view : View) (sender : ℕ) (acked : List Entry) (rest : List Message) (log : List Entry) (kept : ℕ) → IsBeginning acked log
    → (found : Option Message) → found ≡ Some (record { sender = sender; view = view; what = Acknowledges (length acked) (cluster.digest acked) })
    → length acked ≤ kept_after_all cluster view log kept (option_to_list found ++ rest)
own_here cluster view sender acked rest log kept begins found same =
    let message : Message = record { sender = sender; view = view; what = Acknowledges (length acked) (cluster.digest acked) } in
    let one = own_kept cluster view log acked kept sender begins in
    let more = kept_all_more cluster view (after cluster view log message) (kept_after cluster view log kept message) rest in
    subst (λ (m : Option Message). length acked ≤ kept_after_all cluster view log kept (option_to_list m ++ rest)) (sym same) (omega arith)

pub own_late : (cluster : Cluster) (order : List Message) (view : View) (sender place : ℕ) (acked : List Entry)
    → slice_get order place ≡ Some (record { sender = sender; view = view; what = Acknowledges (length acked) (cluster.digest acked) })
    → (late : List ℕ) (k : ℕ) → k < length late → get_or late k place ≡ place → (log : List Entry) (kept : ℕ) → IsBeginning acked log
    → length acked ≤ kept_after_all cluster view log kept (messages_at order late)
own_late cluster order view sender place acked at [] k lt is log kept begins = absurd (omega arith)
own_late cluster order view sender place acked at (first ∷ late) zero lt is log kept begins =
    own_here cluster view sender acked (messages_at order late) log kept begins (slice_get order first) (ap (λ (p : ℕ). slice_get order p) is ∙ at)
own_late cluster order view sender place acked at (first ∷ late) (suc k) lt is log kept begins =
    own_found cluster view acked (messages_at order late) log kept
    (λ longer more still. own_late cluster order view sender place acked at late k (omega arith) is longer more still) begins (slice_get order first)
