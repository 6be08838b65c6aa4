use Rattle.lock_manager.proofs.Common.{◌≡◌, ◌+◌, ◌≤◌, ◌++◌, List, length, Note, machine_rules, machine_processes, machine_waits}
use Rattle.std.proofs.Common.{vec_capacity}
use Rattle.lock_manager.specs.MachineView.{StayLive, KeepPlaces}
use Rattle.lock_manager.proofs.calls.SettleLemmas.{LeadsOn}
use Rattle.lock_manager.proofs.machine.Machine.settle.Given as goal

-- there is room for a note to each wait, and these notes are the grants so far
abbrev pub invariant-loop-wait : goal.invariant-loop-wait
invariant-loop-wait l = record {
  room : length l.notes.items + length (machine_waits l.self) ≤ vec_capacity l.notes;
  rules : machine_rules l.self ≡ machine_rules l.fn.self;
  processes : machine_processes l.self ≡ machine_processes l.fn.self;
  few : length l.notes.items + length (machine_waits l.self) ≤ length l.fn.notes.items + length (machine_waits l.fn.self);
  capacity : vec_capacity l.notes ≡ vec_capacity l.fn.notes;
  lives : StayLive l.fn.self l.self;
  places : KeepPlaces l.fn.self l.self;
  tables : l.self.tables ≡ l.fn.self.tables;
  grants : (grants : List Note) × (l.notes.items ≡ l.fn.notes.items ++ grants) × LeadsOn l.fn.self l.self grants;
}

-- how many wait still
abbrev pub decreases-loop-wait : goal.decreases-loop-wait
decreases-loop-wait l = length (machine_waits l.self)
