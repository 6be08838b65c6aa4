use Rattle.lock_manager.proofs.Common.{common_steps, [], ◌∷◌, ◌++◌, ◌≡◌, ◌∙◌, ap, append-nil, arith, length, length-append, append_assoc, Answer}
use Rattle.lock_manager.specs.declared.request.Reply.TheVariants as replies
use Rattle.lock_manager.proofs.calls.SettleLemmas.{leads_nowhere, next_is_free, leads_on, settled_here}
use Rattle.lock_manager.proofs.machine.Machine.settle.Goals as goal

pub loop-wait-init : goal.loop-wait-init
loop-wait-init c = grind (arith, common_steps, append-nil, leads_nowhere)

pub grant-requires : goal.grant-requires
grant-requires c = grind (arith, common_steps, next_is_free)

pub loop-wait-preserved : goal.loop-wait-preserved
loop-wait-preserved c =
    let before = c.loop-wait.invariant in
    let machine = c.loop-wait.self in
    let note = Answer c.in-Some.wait.p c.in-Some.wait.n replies.Ok in
    let items : c.push_reserved.new.self.items ≡ c.loop-wait.notes.items ++ note ∷ [] =
    c.push_reserved.ensures.items ∙ ap (λ last. c.loop-wait.notes.items ++ last ∷ []) c.answered.ensures in
    record {
      room = (let room = before.room in let fewer = c.grant.ensures.fewer in let longer = ap length items ∙ length-append c.loop-wait.notes.items (note ∷ []) in
          let same = c.push_reserved.ensures.capacity in omega arith);
      rules = c.grant.ensures.same_rules.rules ∙ before.rules;
      processes = c.grant.ensures.same_rules.processes ∙ before.processes;
      few = (let few = before.few in let fewer = c.grant.ensures.fewer in let longer = ap length items ∙ length-append c.loop-wait.notes.items (note ∷ []) in omega arith);
      capacity = c.push_reserved.ensures.capacity ∙ before.capacity;
      lives = λ p live. c.grant.ensures.lives p (before.lives p live);
      places = λ f d there. c.grant.ensures.places f d (before.places f d there);
      tables = c.grant.ensures.tables ∙ before.tables;
      grants = (
        before.grants.0 ++ note ∷ [],
        items ∙ ap (λ notes. notes ++ note ∷ []) before.grants.1 ∙ append_assoc c.args.notes.now.items before.grants.0 (note ∷ []),
        leads_on c.args.self.now machine c.grant.new.self before.grants.0 c.in-Some.wait before.rules c.in-Some.ensures.ready c.grant.ensures.shows before.grants.2,
      );
    }

pub returns-clause-settles : goal.returns-clause-settles
returns-clause-settles c =
    let last = c.loop-wait.invariant in
    let here = settled_here c.args.self.now c.loop-wait.self last.grants.0 last.rules c.in_default.ensures.settled last.grants.2 in
    (last.grants.0, last.grants.1, λ S h. (let given = here S h in (given.0, given.1, c.rest.ensures.shows given.0 given.2)))
