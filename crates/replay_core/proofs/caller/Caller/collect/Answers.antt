use Rattle.replay_core.proofs.Common.{rules, ◌≤◌, ℕ, ap, sym, ◌∙◌, subst, vec_len, arith, ClientView, client_view}
use Rattle.call_table.specs.Shown.{IsCollected, IsNothing}
use Rattle.replay_core.specs.Collecting.{AreCollected}
use Rattle.replay_core.proofs.CollectingLemmas.{collected_one, collected_none, collected_fewer, first_within}
use Rattle.replay_core.proofs.caller.Caller.collect.Goals as goal

pub push_reserved-requires : goal.push_reserved-requires
push_reserved-requires c =
    let self = c.args.self.now in
    let old = client_view self.client in
    let one : IsCollected old (client_view c.collect.new.self) c.in-Some.answer = search rules in
    let fewer = collected_fewer old (client_view c.collect.new.self) c.in-Some.answer one in
    let within = first_within old.posted self.requests.items self.posted self.posted_is in
    omega (arith, fewer, within, self.collected.all, self.room, self.answers.ok.0, self.requests.ok.0)

pub invariant_of-self : goal.invariant_of-self
invariant_of-self c =
    let self = c.args.self.now in
    let old = client_view self.client in
    let one : IsCollected old (client_view c.collect.new.self) c.in-Some.answer = search rules in
    record {
      process_is = ap (λ (v : ClientView). v.process) one.view ∙ self.process_is;
      posted_is = ap (λ (v : ClientView). v.posted) one.view ∙ self.posted_is;
      posted_most = self.posted_most;
      collected = subst (AreCollected (client_view c.collect.new.self)) (sym c.push_reserved.ensures.items)
          (collected_one old (client_view c.collect.new.self) self.answers.items c.in-Some.answer self.collected one);
      room = subst (λ (n : ℕ). vec_len self.requests ≤ n) (sym c.push_reserved.ensures.capacity) self.room;
    }

pub invariant_of-self-in-None : goal.invariant_of-self-in-None
invariant_of-self-in-None c =
    let self = c.args.self.now in
    let old = client_view self.client in
    let none : IsNothing old (client_view c.collect.new.self) = search rules in
    record {
      process_is = ap (λ (v : ClientView). v.process) none.view ∙ self.process_is;
      posted_is = ap (λ (v : ClientView). v.posted) none.view ∙ self.posted_is;
      posted_most = self.posted_most;
      collected = collected_none old (client_view c.collect.new.self) self.answers.items self.collected none;
      room = self.room;
    }
