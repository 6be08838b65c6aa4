use Rattle.lock_server.proofs.Common.{arith, HasNothing, EntersOn, number_behind, table_state}
use Rattle.lock_server.proofs.CollectedLemmas.{files_entered, files_more, files_none, not_before}
use Rattle.lock_server.proofs.ForgetLemmas.{above_from_next, next_from_above}
use Rattle.lock_server.proofs.HoldingLemmas.{untouched_nothing}
use Rattle.lock_server.proofs.holdings.Holdings.enter_holders.Goals as goal

pub loop-file-init : goal.loop-file-init
loop-file-init c = files_none c.args.self.now (λ owner file. HasNothing ((table_state c.args.table.now).files file) owner)

pub loop-file-preserved : goal.loop-file-preserved
loop-file-preserved c =
    let S = table_state c.args.table.now in
    let file = c.in-Some.file in
    let known = c.in_ok-enter_known.ensures in
    let waiting = c.in_ok-enter_waiting.ensures in
    let entered : EntersOn c.loop-file.self c.enter_waiting.new.self file (HasNothing (S.files file)) = record {
      more = λ owner any kept. waiting.more owner any (known.more owner any kept);
      rest = λ owner unkept. record {
        lock = known.rest owner (not_before _ _ (waiting.more owner file) unkept);
        waits = waiting.rest owner unkept;
      };
    } in
    files_more c.args.self.now (λ owner any. HasNothing (S.files any) owner) (number_behind c.loop-file.above) c.loop-file.self file c.enter_waiting.new.self c.loop-file.invariant
    (λ owner any from before. untouched_nothing (S.files any) (c.in-Some.ensures.least any (above_from_next c.loop-file.above any from) before) owner) entered

pub loop-file-smaller : goal.loop-file-smaller
loop-file-smaller c = let from = next_from_above c.loop-file.above c.in-Some.file c.in-Some.ensures.above in omega arith

pub returns : goal.returns
returns c =
    let S = table_state c.args.table.now in
    files_entered c.args.self.now (λ owner any. HasNothing (S.files any) owner) (number_behind c.loop-file.above) c.loop-file.self c.loop-file.invariant
    (λ owner file from. untouched_nothing (S.files file) (c.in_default.ensures.none file (above_from_next c.loop-file.above file from)) owner)
