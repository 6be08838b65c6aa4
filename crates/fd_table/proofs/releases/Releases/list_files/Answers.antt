use Rattle.fd_table.proofs.Common.{ap, sym, ◌∙◌, arith, get_or, false, length_push, IsMarked}
use Rattle.std.proofs.lemmas.Bool.{false≢true}
use Rattle.fd_table.proofs.ListLemmas.{AreExactly-more, AreExactly-skip}
use Rattle.fd_table.proofs.releases.Releases.list_files.Goals as goal
use Rattle.fd_table.proofs.releases.Releases.list_files.Goals.{then-marks-from, else-marks-from}

pub loop-file-preserved : goal.loop-file-preserved
loop-file-preserved c =
    let i = c.loop-file.invariant in
    let file = c.loop-file.file in
    let marks = c.args.marks.now in
    elim c.if-marks-from.branch [
      | then-marks-from w ↦
          let is = w.self-is ∙ w.push_file.ensures in
          let files = ap (λ r. r.files) is in
          record {
            listed = rw files (AreExactly-more c.loop-file.self.files (IsMarked marks) file i.listed (ap (λ k. get_or marks k false) (sym c.from.ensures) ∙ w.if-marks-from.true));
            few = rw files (omega (arith, length_push c.loop-file.self.files file, i.few));
            descriptions = ap (λ r. r.descriptions) is ∙ i.descriptions;
          }
      | else-marks-from w ↦
          let files = ap (λ r. r.files) w.self-is in
          record {
            listed = rw files (AreExactly-skip c.loop-file.self.files (IsMarked marks) file i.listed
                (λ marked. false≢true (sym w.if-marks-from.false ∙ ap (λ k. get_or marks k false) c.from.ensures ∙ marked)));
            few = rw files (omega (arith, i.few));
            descriptions = ap (λ r. r.descriptions) w.self-is ∙ i.descriptions;
          }
    ]
