use Rattle.fd_table.proofs.Common.{◌≡◌, ◌≤◌, [], length, FILES, Descriptors, without_descriptors, StandFor}
use Rattle.fd_table.specs.TablesView.{SameProcesses}
use Rattle.fd_table.proofs.EndProcessLemmas.{IsGathered, below}
use Rattle.fd_table.proofs.tables.Tables.end_process.Given as goal

-- the descriptors below this number are closed, and what that releases is gathered
abbrev pub invariant-loop-fd : goal.invariant-loop-fd
invariant-loop-fd l = record {
  stands : (D : Descriptors) → StandFor l.initial.self D → StandFor l.self (without_descriptors D l.p (below l.fd));
  gathered : (D : Descriptors) → StandFor l.initial.self D → IsGathered D l.p l.fd l.files l.released.descriptions;
  few : length l.released.descriptions ≤ l.fd;
  no_files : l.released.files ≡ [];
  marks : length l.files ≡ FILES;
  kept : SameProcesses l.initial.self l.self;
}
