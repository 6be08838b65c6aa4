use Rattle.lock_server.proofs.Common.{arith, ◌≡◌, None, number_behind, through_at}
use Rattle.lock_server.proofs.CollectedLemmas.{files_entered, files_more, files_none}
use Rattle.lock_server.proofs.ForgetLemmas.{above_from_next, next_from_above}
use Rattle.lock_server.proofs.holdings.Holdings.enter_noted.Goals as goal

pub loop-file-init : goal.loop-file-init
loop-file-init c = files_none c.args.self.now (λ owner file. through_at c.args.openings.now file owner ≡ None)

pub loop-file-preserved : goal.loop-file-preserved
loop-file-preserved c =
    files_more c.args.self.now (λ owner file. through_at c.args.openings.now file owner ≡ None) (number_behind c.loop-file.above) c.loop-file.self c.in-Some.file c.enter_noted_on.new.self
    c.loop-file.invariant (λ owner any from before. c.in-Some.ensures.least any owner (above_from_next c.loop-file.above any from) before) c.in_ok-enter_noted_on.ensures

pub loop-file-smaller : goal.loop-file-smaller
loop-file-smaller c = let from = next_from_above c.loop-file.above c.in-Some.file c.in-Some.ensures.above in omega arith

pub returns : goal.returns
returns c =
    files_entered c.args.self.now (λ owner file. through_at c.args.openings.now file owner ≡ None) (number_behind c.loop-file.above) c.loop-file.self c.loop-file.invariant
    (λ owner file from. c.in_default.ensures.none file owner (above_from_next c.loop-file.above file from))
