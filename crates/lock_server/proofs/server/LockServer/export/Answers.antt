use Rattle.lock_server.proofs.Common.{arith, refl, rules_of, state_of, through_of}
use Rattle.lock_server.proofs.ExportLemmas.{size_told, sized_told}
use Rattle.lock_server.proofs.server.LockServer.export.Goals as goal

pub returns-then-size-out : goal.returns-then-size-out
returns-then-size-out c = record {
  size_is = size_told (rules_of c.args.self.now) (state_of c.args.self.now) (through_of c.args.self.now) _ _ _ c.put-size.ensures;
  bytes = λ fits small. (sized_told (rules_of c.args.self.now) (state_of c.args.self.now) (through_of c.args.self.now) _ _ _ _ _ _ c.put-size.ensures c.put.ensures fits small).bytes;
  behind = λ fits small. (sized_told (rules_of c.args.self.now) (state_of c.args.self.now) (through_of c.args.self.now) _ _ _ _ _ _ c.put-size.ensures c.put.ensures fits small).behind;
  short = λ longer. absurd (let fits = c.if-size-out.true in omega arith);
}

pub returns-else-size-out : goal.returns-else-size-out
returns-else-size-out c = record {
  size_is = size_told (rules_of c.args.self.now) (state_of c.args.self.now) (through_of c.args.self.now) _ _ _ c.put-size.ensures;
  bytes = λ fits small. absurd (let longer = c.if-size-out.false in omega arith);
  behind = λ fits small. absurd (let longer = c.if-size-out.false in omega arith);
  short = λ longer. refl;
}
