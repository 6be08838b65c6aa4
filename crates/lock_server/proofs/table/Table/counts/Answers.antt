use Rattle.lock_server.proofs.Common.{ℕ, ◌<◌, ◌≤◌, ◌∙◌, arith, flock_locks_on, runs_on, waits_on, table_state}
use Rattle.lock_server.proofs.CountLemmas.{counting_file, counting_files_end, counting_no_file}
use Rattle.lock_server.proofs.ForgetLemmas.{above_from_next, next_from_above, next_of}
use Rattle.lock_server.proofs.HolderLemmas.{HaveNothing, flock_locks_of_none, passed_nothing, runs_of_none, waits_of_none}
use Rattle.lock_server.proofs.StateLemmas.{SameFile-itself}
use Rattle.lock_server.proofs.table.Table.counts.Goals as goal

pub loop-file-init : goal.loop-file-init
loop-file-init c =
    let S = table_state c.args.self.now in record {
      runs = c.none-counts.ensures.runs ∙ counting_no_file S (runs_on c.args.owners.first c.args.owners.last);
      flock_locks = c.none-counts.ensures.flock_locks ∙ counting_no_file S (flock_locks_on c.args.owners.first c.args.owners.last);
      waits = c.none-counts.ensures.waits ∙ counting_no_file S (waits_on c.args.owners.first c.args.owners.last);
    }

pub loop-file-preserved : goal.loop-file-preserved
loop-file-preserved c =
    let S = table_state c.args.self.now in
    let first = c.args.owners.first in
    let last = c.args.owners.last in
    let so_far = c.loop-file.invariant in
    let next = next_of c.loop-file.above in
    let from = next_from_above c.loop-file.above c.in-Some.file c.in-Some.ensures.above in
    let between : (other : ℕ) → next ≤ other → other < c.in-Some.file → HaveNothing (S.files other) first last =
    λ other past before. passed_nothing c.args.holdings.now first last S S other c.requires (SameFile-itself (S.files other))
    (c.in-Some.ensures.least other (above_from_next c.loop-file.above other past) before) in record {
      runs = counting_file S (runs_on first last) next c.loop-file.counts.runs c.in-Some.file c.counts_on.result.runs c.plus-counts.result.runs
          so_far.runs from (λ other past before. runs_of_none (S.files other) first last (between other past before)) c.counts_on.ensures.runs c.plus-counts.ensures.runs;
      flock_locks = counting_file S (flock_locks_on first last) next c.loop-file.counts.flock_locks c.in-Some.file c.counts_on.result.flock_locks c.plus-counts.result.flock_locks
          so_far.flock_locks from (λ other past before. flock_locks_of_none (S.files other) first last (between other past before)) c.counts_on.ensures.flock_locks c.plus-counts.ensures.flock_locks;
      waits = counting_file S (waits_on first last) next c.loop-file.counts.waits c.in-Some.file c.counts_on.result.waits c.plus-counts.result.waits
          so_far.waits from (λ other past before. waits_of_none (S.files other) first last (between other past before)) c.counts_on.ensures.waits c.plus-counts.ensures.waits;
    }

pub loop-file-smaller : goal.loop-file-smaller
loop-file-smaller c = let from = next_from_above c.loop-file.above c.in-Some.file c.in-Some.ensures.above in omega arith

pub returns : goal.returns
returns c =
    let S = table_state c.args.self.now in
    let first = c.args.owners.first in
    let last = c.args.owners.last in
    let so_far = c.loop-file.invariant in
    let next = next_of c.loop-file.above in
    let rest : (file : ℕ) → next ≤ file → HaveNothing (S.files file) first last =
    λ file past. passed_nothing c.args.holdings.now first last S S file c.requires (SameFile-itself (S.files file))
    (c.in_default.ensures.none file (above_from_next c.loop-file.above file past)) in record {
      runs = counting_files_end S (runs_on first last) next c.loop-file.counts.runs so_far.runs (λ file past. runs_of_none (S.files file) first last (rest file past));
      flock_locks = counting_files_end S (flock_locks_on first last) next c.loop-file.counts.flock_locks so_far.flock_locks (λ file past. flock_locks_of_none (S.files file) first last (rest file past));
      waits = counting_files_end S (waits_on first last) next c.loop-file.counts.waits so_far.waits (λ file past. waits_of_none (S.files file) first last (rest file past));
    }
