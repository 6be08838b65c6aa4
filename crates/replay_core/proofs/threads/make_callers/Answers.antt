use Rattle.replay_core.proofs.Common.{rules, ◌≡◌, ◌∙◌, ap, sym, subst, ℕ, ◌+◌, List, [], ◌∷◌, ◌++◌, map, length, arith, length-map, map-append, into_iter_items, requests_sent, Client, Caller, AreOf}
use Rattle.table_steps.specs.Views.{new_client}
use Rattle.replay_core.proofs.ListLemmas.{next_of, done_more}
use Rattle.replay_core.proofs.GatheringLemmas.{of_more}
use Rattle.replay_core.proofs.threads.make_callers.Goals as goal

abbrev client_in : Caller → Client
client_in caller = caller.client

pub new-requires : goal.new-requires
new-requires c =
    let callers = c.loop-client.callers in
    let done = map client_in callers.items in
    let at = next_of done (into_iter_items c.loop-client.client-iterator) c.args.clients.items c.in-Some.client
    (into_iter_items c.next.new.self) c.loop-client.invariant.all c.in-Some.ensures.steps.0 in
    let new = c.requires.new (length done) c.in-Some.client at in
    let count = length-map callers.items client_in in
    (new.0, new.1 ∙ ap (λ (n : ℕ). new_client new.0 (n + 1)) (omega (arith, count, c.loop-client.invariant.count, callers.ok.0)))

pub loop-client-preserved : goal.loop-client-preserved
loop-client-preserved c =
    let callers = c.loop-client.callers in
    let caller : Caller = c.in_ok-caller.caller in
    let rest = into_iter_items c.loop-client.client-iterator in
    let behind = into_iter_items c.next.new.self in
    let items : c.push.new.self.items ≡ callers.items ++ caller ∷ [] = search rules in
    let client : caller.client ≡ c.in-Some.client = search rules in
    let process : caller.process ≡ c.loop-client.process + 1 = search rules in
    let requests : caller.requests.items ≡ requests_sent (c.loop-client.process + 1) c.args.arrivals.now = search rules in
    let count : c.loop-client.process ≡ length callers.items = omega (arith, c.loop-client.invariant.count, callers.ok.0) in
    let here : rest ≡ caller.client ∷ behind = c.in-Some.ensures.steps.0 ∙ ap (λ (y : Client). y ∷ behind) (sym client) in
    record {
      all = ap (λ (l : List Caller). map client_in l ++ behind) items
          ∙ ap (λ (l : List Client). l ++ behind) (map-append client_in callers.items (caller ∷ []))
          ∙ done_more (map client_in callers.items) rest c.args.clients.items caller.client behind c.loop-client.invariant.all here;
      count = search rules;
      each = subst (AreOf c.args.arrivals.now) (sym items)
          (of_more c.args.arrivals.now callers.items caller c.loop-client.invariant.each (record {
            process = process ∙ ap (λ (n : ℕ). n + 1) count;
            requests = requests ∙ ap (λ (n : ℕ). requests_sent (n + 1) c.args.arrivals.now) count;
          }));
    }
