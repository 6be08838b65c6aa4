use Rattle.lock_server.proofs.Common.{◌∙◌, arith, is_within, table_state}
use Rattle.lock_server.proofs.ClientLemmas.{all_files_stripped, stripping_more, stripping_none}
use Rattle.lock_server.proofs.ForgetLemmas.{above_from_next, next_from_above, next_of}
use Rattle.lock_server.proofs.HolderLemmas.{nothing_goes, passed_nothing}
use Rattle.lock_server.proofs.GrantedMoves.{crosses_itself}
use Rattle.lock_server.proofs.SweptLemmas.{all_swept_but}
use Rattle.lock_server.proofs.table.Table.strip_all.Goals as goal

pub loop-file-init : goal.loop-file-init
loop-file-init c = record {
  stripping = stripping_none (table_state c.args.self.now) (is_within c.args.owners.first c.args.owners.last) (crosses_itself c.args.self.now);
  swept = λ swept. swept;
}

pub loop-file-preserved : goal.loop-file-preserved
loop-file-preserved c = record {
  stripping = stripping_more (table_state c.args.self.now) (is_within c.args.owners.first c.args.owners.last) (next_of c.loop-file.above) (table_state c.loop-file.self) c.in-Some.file
      (table_state c.strip.new.self) (table_state c.sweep.new.self) c.loop-file.invariant.stripping (next_from_above c.loop-file.above c.in-Some.file c.in-Some.ensures.above)
      (λ other from before. nothing_goes ((table_state c.loop-file.self).files other) c.args.owners.first c.args.owners.last
      (passed_nothing c.args.holdings.now c.args.owners.first c.args.owners.last (table_state c.args.self.now) (table_state c.loop-file.self) other c.requires
      (c.loop-file.invariant.stripping.later other from) (c.in-Some.ensures.least other (above_from_next c.loop-file.above other from) before))) c.strip.ensures.strips c.sweep.ensures.same;
  swept = λ swept. all_swept_but c.loop-file.self c.sweep.new.self c.in-Some.file
      (λ other differs. c.sweep.ensures.others other differs ∙ c.strip.ensures.others other differs)
      c.sweep.ensures.gone (c.loop-file.invariant.swept swept);
}

pub loop-file-smaller : goal.loop-file-smaller
loop-file-smaller c = let from = next_from_above c.loop-file.above c.in-Some.file c.in-Some.ensures.above in omega arith

pub returns-clause-strips : goal.returns-clause-strips
returns-clause-strips c =
    all_files_stripped (table_state c.args.self.now) (is_within c.args.owners.first c.args.owners.last) (next_of c.loop-file.above) (table_state c.loop-file.self)
    c.loop-file.invariant.stripping (λ file from.
    nothing_goes ((table_state c.loop-file.self).files file) c.args.owners.first c.args.owners.last
    (passed_nothing c.args.holdings.now c.args.owners.first c.args.owners.last (table_state c.args.self.now) (table_state c.loop-file.self) file c.requires
    (c.loop-file.invariant.stripping.later file from) (c.in_default.ensures.none file (above_from_next c.loop-file.above file from))))
