use Rattle.lock_server.proofs.Common.{◌∙◌, refl, table_state}
use Rattle.lock_server.proofs.GrantedMoves.{crosses_itself}
use Rattle.lock_server.proofs.RestoringLemmas.{crosses_all, crosses_next}
use Rattle.lock_server.proofs.StateLemmas.{SameFile-itself}
use Rattle.lock_server.proofs.table.Table.restore_crossed.Goals as goal

pub loop-owner-init : goal.loop-owner-init
loop-owner-init c = record {
  crosses = record { files = λ file. SameFile-itself _; grants = refl; crossed = crosses_itself c.args.self.now };
  entries = λ file. refl;
}

pub loop-owner-preserved : goal.loop-owner-preserved
loop-owner-preserved c = record {
  crosses = crosses_next (table_state c.args.self.now) c.args.owners.now c.loop-owner.owner-index (table_state c.loop-owner.self) (table_state c.cross.new.self) c.loop-owner-test.true
      c.loop-owner.invariant.crosses c.cross.ensures.crosses;
  entries = λ file. c.cross.ensures.entries file ∙ c.loop-owner.invariant.entries file;
}

pub returns-clause-crosses : goal.returns-clause-crosses
returns-clause-crosses c =
    crosses_all (table_state c.args.self.now) c.args.owners.now c.loop-owner.owner-index (table_state c.loop-owner.self) c.loop-owner-test.false c.loop-owner.invariant.crosses
