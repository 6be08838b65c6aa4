use Rattle.replay_core.proofs.Common.{◌≡◌, ◌∙◌, ap, subst, ℕ, List, length, arith, length-map, process_limit, Request, Rules, requests_sent, events_in, Client, Meaning, AreCounts, processes_in, Caller, AreOf}
use Rattle.std.proofs.Common.{Vec, Global}
use Rattle.std.proofs.lemmas.Result.{IfOk-weaker}
use Rattle.table_steps.specs.declared.setup.Setup.{Setup}
use Rattle.replay_core.specs.Rooms.{IsServed}
use Rattle.replay_core.proofs.GatheringLemmas.{are_new, are_ready, reports}
use Rattle.replay_core.proofs.WatchingLemmas.{all_watched}
use Rattle.replay_core.proofs.threads.replay_threads.Goals as goal

pub make_callers-requires-clause-new : goal.make_callers-requires-clause-new
make_callers-requires-clause-new g c =
    are_new _ c.in_ok-hub.hub c.in_ok-hub.clients.items c.in_ok-hub.desk c.in_ok-hub.ensures.opened

pub serve_in_scope-requires-clause-callers : goal.serve_in_scope-requires-clause-callers
serve_in_scope-requires-clause-callers g c κs within =
    are_ready _ c.in_ok-hub.hub c.in_ok-hub.clients.items c.in_ok-hub.desk c.in_ok-callers.callers.items
    c.in_ok-hub.ensures.opened c.in_ok-callers.ensures.clients

pub returns-clause-ok : goal.returns-clause-ok
returns-clause-ok g c =
    let script : Meaning = c.args.script.now in
    let hub = c.in_ok-hub.hub in
    let callers = c.in_ok-callers.callers in
    let counts = c.in_ok-counts.counts in
    let opened = c.in_ok-hub.ensures.opened in
    let rules_are : c.script.inside.rules ≡ script.rules = ap (λ (m : Meaning). m.rules) c.script.view_is in
    let processes_are : c.processes-processes.result ≡ processes_in script =
    c.processes-processes.ensures ∙ ap (λ (r : Rules). process_limit r.limits) rules_are in
    let arrivals_are = ap (λ (m : Meaning). m.arrivals) c.script.view_is in
    let clients = ap (λ (l : List Client). length l) c.in_ok-callers.ensures.clients in
    let mapped = length-map callers.items (λ (caller : Caller). caller.client) in
    let all : length callers.items ≡ processes_in script = omega (arith, clients, mapped, opened.all, processes_are) in
    let each : AreOf script.arrivals callers.items =
    subst (λ (arrivals : List (ℕ × Request)). AreOf arrivals callers.items) (c.deref-2.ensures.value ∙ arrivals_are) c.in_ok-callers.ensures.callers in
    let one_each : length counts.items ≡ processes_in script =
    omega (arith, c.in_ok-counts.ensures.one_each, counts.ok.0, processes_are) in
    let sent : AreCounts counts.items (λ p. length (requests_sent p script.arrivals)) =
    subst (λ (arrivals : List (ℕ × Request)). AreCounts counts.items (λ p. length (requests_sent p arrivals)))
    (c.deref.ensures.value ∙ arrivals_are) c.in_ok-counts.ensures.counts in
    IfOk-weaker c.serve_in_scope.result _ _
    (λ report served. reports (g.W.Watch.told c.args.watch.now) script hub callers.items counts.items report
    (ap (λ (s : Setup). s.rules) opened.setup_is ∙ rules_are) (ap (λ (s : Setup). s.processes) opened.setup_is ∙ processes_are)
    all each one_each sent
    (subst (λ (l : Vec ℕ Global). IsServed (g.W.Watch.told c.args.watch.now) hub callers.items l.items report) c.of_counts-service.ensures served))
    c.serve_in_scope.ensures.ok

pub returns-clause-told : goal.returns-clause-told
returns-clause-told g c =
    let script : Meaning = c.args.script.now in
    let callers = c.in_ok-callers.callers in
    let opened = c.in_ok-hub.ensures.opened in
    let rules_are : c.script.inside.rules ≡ script.rules = ap (λ (m : Meaning). m.rules) c.script.view_is in
    let processes_are : c.processes-processes.result ≡ processes_in script =
    c.processes-processes.ensures ∙ ap (λ (r : Rules). process_limit r.limits) rules_are in
    let arrivals_are = ap (λ (m : Meaning). m.arrivals) c.script.view_is in
    let clients = ap (λ (l : List Client). length l) c.in_ok-callers.ensures.clients in
    let mapped = length-map callers.items (λ (caller : Caller). caller.client) in
    let all : length callers.items ≡ processes_in script = omega (arith, clients, mapped, opened.all, processes_are) in
    let each : AreOf script.arrivals callers.items =
    subst (λ (arrivals : List (ℕ × Request)). AreOf arrivals callers.items) (c.deref-2.ensures.value ∙ arrivals_are) c.in_ok-callers.ensures.callers in
    IfOk-weaker c.serve_in_scope.result _ _
    (λ report served. all_watched (g.W.Watch.told c.args.watch.now) script callers.items (events_in report.session) all each served.all_told)
    c.serve_in_scope.ensures.ok
