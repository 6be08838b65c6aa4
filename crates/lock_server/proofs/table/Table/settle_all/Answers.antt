use Rattle.lock_server.proofs.Common.{◌∙◌, arith, table_state}
use Rattle.lock_server.proofs.ClientLemmas.{all_files_settled, settling_more, settling_none}
use Rattle.lock_server.proofs.ForgetLemmas.{above_from_next, next_from_above, next_of}
use Rattle.lock_server.proofs.HolderLemmas.{passed_settled}
use Rattle.lock_server.proofs.GrantedMoves.{crosses_itself}
use Rattle.lock_server.proofs.SweptLemmas.{all_swept_but}
use Rattle.lock_server.proofs.table.Table.settle_all.Goals as goal

pub loop-file-init : goal.loop-file-init
loop-file-init c = record { settling = settling_none c.args.policy (table_state c.args.self.now); swept = λ swept. swept }

pub loop-file-preserved : goal.loop-file-preserved
loop-file-preserved c =
    let M = table_state c.loop-file.self in
    let after = table_state c.settle.new.self in
    record {
      settling = settling_more c.args.policy (table_state c.args.self.now) (next_of c.loop-file.above) M c.in-Some.file after (table_state c.sweep.new.self)
          (crosses_itself c.loop-file.self) c.loop-file.invariant.settling (next_from_above c.loop-file.above c.in-Some.file c.in-Some.ensures.above)
          (λ other from before. passed_settled c.args.policy c.args.holdings.now c.args.owners.first c.args.owners.last (table_state c.args.self.now) M other (c.requires other)
          (c.loop-file.invariant.settling.later other from) (c.in-Some.ensures.least other (above_from_next c.loop-file.above other from) before)) c.settle.ensures.settles c.sweep.ensures.same;
      swept = λ swept. all_swept_but c.loop-file.self c.sweep.new.self c.in-Some.file
          (λ other differs. c.sweep.ensures.others other differs ∙ c.settle.ensures.others other differs)
          c.sweep.ensures.gone (c.loop-file.invariant.swept swept);
    }

pub loop-file-smaller : goal.loop-file-smaller
loop-file-smaller c = let from = next_from_above c.loop-file.above c.in-Some.file c.in-Some.ensures.above in omega arith

pub returns-clause-settles : goal.returns-clause-settles
returns-clause-settles c =
    all_files_settled c.args.policy (table_state c.args.self.now) (next_of c.loop-file.above) (table_state c.loop-file.self) c.loop-file.invariant.settling
    (λ file from. passed_settled c.args.policy c.args.holdings.now c.args.owners.first c.args.owners.last (table_state c.args.self.now) (table_state c.loop-file.self) file
    (c.requires file) (c.loop-file.invariant.settling.later file from) (c.in_default.ensures.none file (above_from_next c.loop-file.above file from)))
