use Rattle.lock_server.proofs.Common.{ℕ, ◌∙◌, arith, file_state, number_behind}
use Rattle.lock_server.proofs.ClearedLemmas.{cleared_all, cleared_more}
use Rattle.lock_server.proofs.file.LockFile.strip_bytes.Goals as goal

pub returns-then-owners-owner-clause-strips : goal.returns-then-owners-owner-clause-strips
returns-then-owners-owner-clause-strips c =
    let far = c.if-owners-owner.true in record {
      bytes = λ other byte. cleared_all c.args.owners.first c.args.owners.last (number_behind c.loop-owner.above) (λ (o : ℕ). (file_state c.args.self.now).bytes o byte)
          (λ (o : ℕ). (file_state c.loop-owner.self).bytes o byte) (c.loop-owner.invariant.bytes byte)
          (λ o later within. c.in-Some.ensures.least o byte later (omega arith)) other;
      flocks = c.loop-owner.invariant.flocks;
    }

pub loop-owner-preserved : goal.loop-owner-preserved
loop-owner-preserved c =
    let from = c.in-Some.ensures.above in record {
      bytes = λ byte. cleared_more c.args.owners.first c.args.owners.last (number_behind c.loop-owner.above) c.in-Some.owner
          (λ (o : ℕ). (file_state c.args.self.now).bytes o byte) (λ (o : ℕ). (file_state c.loop-owner.self).bytes o byte) (λ (o : ℕ). (file_state c.release.new.self).bytes o byte)
          (c.loop-owner.invariant.bytes byte) c.loop-owner.invariant.behind from (λ o later before. c.in-Some.ensures.least o byte later before)
          c.if-owners-owner.false (λ o. c.release.ensures.unlocks.bytes o byte);
      flocks = λ o. c.release.ensures.unlocks.flocks o ∙ c.loop-owner.invariant.flocks o;
      waits = c.release.ensures.waits ∙ c.loop-owner.invariant.waits;
      behind = let behind = c.loop-owner.invariant.behind in omega arith;
    }

pub returns-clause-strips : goal.returns-clause-strips
returns-clause-strips c = record {
  bytes = λ other byte. cleared_all c.args.owners.first c.args.owners.last (number_behind c.loop-owner.above) (λ (o : ℕ). (file_state c.args.self.now).bytes o byte)
      (λ (o : ℕ). (file_state c.loop-owner.self).bytes o byte) (c.loop-owner.invariant.bytes byte)
      (λ o later within. c.in_default.ensures.none o byte later) other;
  flocks = c.loop-owner.invariant.flocks;
}
