-- What messages make of a log, and of how much of it is kept.
use Rattle.cluster_protocol.proofs.Common.{◌≡◌, ◌∙◌, ◌≤◌, ◌++◌, ◌∷◌, ◌&&◌, [], ℕ, Bool, true, false, List, Option, None, Some, length, take, max, arith, ap, refl, sym, subst, if◌then◌else◌, nat_tests, View, Cluster, Entry, IsBeginning, same_view, Acknowledges, after, after_all, Asks, Content, kept_after, kept_after_all, Message, Purges}
use Rattle.std.proofs.Common.{◌==◌, drop, nat_le}
use Rattle.std.proofs.lemmas.List.{take-append-drop, take-take}
use Rattle.cluster_protocol.specs.Worlds.{entry_of, taken, vouched}
use Rattle.cluster_protocol.proofs.LogLemmas.{begin_front, begin_if, begin_itself, begin_short, begin_take, begin_through}

pub taken_longer : (cluster : Cluster) (log : List Entry) (entry : Option Entry) → IsBeginning log (taken cluster log entry)
taken_longer cluster log None = begin_itself log
taken_longer cluster log (Some entry) =
    begin_if (cluster.passes_over log entry) log log (log ++ entry ∷ []) (begin_itself log) (begin_front log (entry ∷ []))

pub after_longer : (cluster : Cluster) (view : View) (log : List Entry) (message : Message) → IsBeginning log (after cluster view log message)
after_longer cluster view log message =
    begin_if (same_view message.view view) log (taken cluster log (entry_of message.view message.what)) log
    (taken_longer cluster log (entry_of message.view message.what)) (begin_itself log)

pub after_all_longer : (cluster : Cluster) (view : View) (log : List Entry) (messages : List Message)
    → IsBeginning log (after_all cluster view log messages)
after_all_longer cluster view log [] = begin_itself log
after_all_longer cluster view log (message ∷ messages) =
    begin_through log (after cluster view log message) (after_all cluster view (after cluster view log message) messages)
    (after_longer cluster view log message) (after_all_longer cluster view (after cluster view log message) messages)

pub after_all_append : (cluster : Cluster) (view : View) (log : List Entry) (ones others : List Message)
    → after_all cluster view log (ones ++ others) ≡ after_all cluster view (after_all cluster view log ones) others
after_all_append cluster view log [] others = refl
after_all_append cluster view log (message ∷ ones) others = after_all_append cluster view (after cluster view log message) ones others

-- after more messages the log is longer
pub after_more : (cluster : Cluster) (view : View) (log : List Entry) (order : List Message) (less more : ℕ) → less ≤ more
    → IsBeginning (after_all cluster view log (take less order)) (after_all cluster view log (take more order))
after_more cluster view log order less more le =
    let parts : take less order ++ drop less (take more order) ≡ take more order =
    ap (λ (front : List Message). front ++ drop less (take more order)) (sym (take-take less more order le)) ∙ take-append-drop less (take more order) in
    subst (λ (messages : List Message). IsBeginning (after_all cluster view log (take less order)) (after_all cluster view log messages)) parts
    (subst (λ (longer : List Entry). IsBeginning (after_all cluster view log (take less order)) longer)
    (sym (after_all_append cluster view log (take less order) (drop less (take more order))))
    (after_all_longer cluster view (after_all cluster view log (take less order)) (drop less (take more order))))

-- how much is kept never falls

le_if : (test : Bool) (n a b : ℕ) → n ≤ a → n ≤ b → n ≤ (if test then a else b)
le_if true n a b p q = p
le_if false n a b p q = q

vouched_more : (cluster : Cluster) (log : List Entry) (kept : ℕ) (what : Content) → kept ≤ vouched cluster log kept what
vouched_more cluster log kept (Asks what) = omega arith
vouched_more cluster log kept (Purges node) = omega arith
vouched_more cluster log kept (Acknowledges count digest) =
    le_if (nat_le count (length log) && (cluster.digest (take count log) == digest)) kept (max kept count) kept (omega arith) (omega arith)

pub kept_more : (cluster : Cluster) (view : View) (log : List Entry) (kept : ℕ) (message : Message) → kept ≤ kept_after cluster view log kept message
kept_more cluster view log kept message =
    le_if (same_view message.view view) kept (vouched cluster log kept message.what) kept (vouched_more cluster log kept message.what) (omega arith)

pub kept_all_more : (cluster : Cluster) (view : View) (log : List Entry) (kept : ℕ) (messages : List Message)
    → kept ≤ kept_after_all cluster view log kept messages
kept_all_more cluster view log kept [] = omega arith
kept_all_more cluster view log kept (message ∷ messages) =
    let one = kept_more cluster view log kept message in
    let all = kept_all_more cluster view (after cluster view log message) (kept_after cluster view log kept message) messages in
    omega arith

-- an acknowledgement that the log meets is counted

pub same_view_itself : (view : View) → same_view view view ≡ true
same_view_itself view = grind (arith, nat_tests)

pub same_view_is : (a b : View) → same_view a b ≡ true → a ≡ b
same_view_is a b test =
    let rings : a.ring ≡ b.ring = grind (arith, nat_tests) in
    let counts : a.count ≡ b.count = grind (arith, nat_tests) in
    ap (λ (ring : ℕ). let view : View = record { ring = ring; count = a.count } in view) rings
    ∙ ap (λ (count : ℕ). let view : View = record { ring = b.ring; count = count } in view) counts

counted : (test : Bool) (kept count : ℕ) → test ≡ true → count ≤ (if test then max kept count else kept)
counted true kept count is = omega arith
counted false kept count is = cc

meets : (cluster : Cluster) (log : List Entry) (count digest : ℕ) → count ≤ length log → cluster.digest (take count log) ≡ digest
    → (nat_le count (length log) && (cluster.digest (take count log) == digest)) ≡ true
meets cluster log count digest le is = grind (arith, nat_tests)

pub own_kept : (cluster : Cluster) (view : View) (log acked : List Entry) (kept sender : ℕ) → IsBeginning acked log
    → length acked ≤ kept_after cluster view log kept (record { sender = sender; view = view; what = Acknowledges (length acked) (cluster.digest acked) })
own_kept cluster view log acked kept sender begins =
    rw (same_view_itself view)
    (counted (nat_le (length acked) (length log) && (cluster.digest (take (length acked) log) == cluster.digest acked)) kept (length acked)
    (meets cluster log (length acked) (cluster.digest acked) (begin_short acked log begins)
    (ap (λ (front : List Entry). cluster.digest front) (begin_take acked log begins))))
