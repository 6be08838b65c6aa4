use Rattle.fd_table.proofs.Common.{◌≡◌, ◌<◌, ◌≤◌, length, IsMarked, AreExactly}
use Rattle.fd_table.proofs.releases.Releases.list_files.Given as goal

-- the files so far are the marked ones below this number
abbrev pub invariant-loop-file : goal.invariant-loop-file
invariant-loop-file l = record {
  listed : AreExactly l.self.files (λ x. (x < l.file) × IsMarked l.marks x);
  few : length l.self.files ≤ l.file;
  descriptions : l.self.descriptions ≡ l.initial.self.descriptions;
}
