use Rattle.session_core.proofs.Common.{◌∙◌, [], ◌∷◌, ◌++◌, processes_of, manager_in, waiting_at}
use Rattle.std.proofs.Common.{append_assoc}
use Rattle.std.proofs.lemmas.Option.{slice_get_within}
use Rattle.session_core.proofs.runs.SequencerLemmas.{TakesOf-push, waiting_left-taken}
use Rattle.session_core.proofs.sequencer.Sequencer.drain.Goals as goal

pub loop-p-smaller : goal.loop-p-smaller
loop-p-smaller c =
    let old = c.loop-p.self in
    let some = slice_get_within (waiting_at old c.in-Some.p) 0 c.in-Some.request c.in-Some.ensures.next in
    rw c.take.ensures.processes
    (waiting_left-taken (waiting_at old) (waiting_at c.take.new.self) c.in-Some.p (processes_of (manager_in old)) c.in_ok-entry.ensures.waiting
    c.in-Some.ensures.process.0 c.in-Some.ensures.process.1 some)

pub loop-p-preserved : goal.loop-p-preserved
loop-p-preserved c =
    let so_far = c.loop-p.invariant.told in
    record {
      told = record {
        more = so_far.more ++ c.in_ok-entry.entry ∷ [];
        is = rw (c.push_reserved.ensures.items, c.reserve.ensures.items, so_far.is) (append_assoc _ so_far.more _);
        takes = λ journal told.
            let some = so_far.takes journal told in
            TakesOf-push c.args.self.now c.loop-p.self c.take.new.self journal so_far.more c.in-Some.p c.in-Some.request c.in_ok-entry.entry
            c.in-Some.ensures.able c.in-Some.ensures.next c.in-Some.ensures.least some (c.in_ok-entry.ensures.taken (journal ++ so_far.more) some.told);
      };
      processes = c.take.ensures.processes ∙ c.loop-p.invariant.processes;
    }
