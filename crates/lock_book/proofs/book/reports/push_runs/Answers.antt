use Rattle.lock_book.proofs.Common.{arith, ◌++◌, ◌∙◌, ap, map, List, common_steps, modes_of, Mode, Span}
use Rattle.std.proofs.lemmas.List.{map-append}
use Rattle.lock_book.proofs.ListLemmas.{pushed}
use Rattle.lock_book.proofs.RunLemmas.{run_line, lines_of_runs}
use Rattle.owner_runs.proofs.ForCallers.{all_came}
use Rattle.lock_book.proofs.book.reports.push_runs.Goals as goal

pub loop-mode-preserved : goal.loop-mode-preserved
loop-mode-preserved c = grind (arith, common_steps, pushed, run_line, map-append)

pub returns : goal.returns
returns c =
    let runs = c.runs-mode-items.result in
    let gives = c.into_iter-mode-iterator.ensures.into_iter_gives in
    record {
      added = map (run_line c.args.file c.args.owner) runs;
      is = c.loop-mode.invariant.2
          ∙ ap (λ (l : List (Mode × Span)). c.args.locks.now.items ++ map (run_line c.args.file c.args.owner) l)
          (all_came runs c.loop-mode.yielded _ _ _ _ gives c.loop-mode.yielded_by c.next.ensures.steps c.in-None.is);
      are = lines_of_runs c.args.file c.args.owner (modes_of c.args.list.now) runs c.runs-mode-items.ensures.runs c.runs-mode-items.ensures.ranges;
    }
