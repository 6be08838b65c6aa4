use Rattle.session_core.proofs.Common.{◌≡◌, processes_of, manager_in, waiting_at}
use Rattle.session_core.specs.Deliveries.{TellsSome}
use Rattle.session_core.proofs.runs.SequencerLemmas.{waiting_left}
use Rattle.session_core.proofs.sequencer.Sequencer.drain.Given as goal

abbrev pub invariant-loop-p : goal.invariant-loop-p
invariant-loop-p l = record {
  told : TellsSome l.initial.self l.self l.initial.told.items l.told.items;
  processes : processes_of (manager_in l.self) ≡ processes_of (manager_in l.initial.self);
}

-- the mail that waits
abbrev pub decreases-loop-p : goal.decreases-loop-p
decreases-loop-p l = waiting_left (waiting_at l.self) (processes_of (manager_in l.self))
