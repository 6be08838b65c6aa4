use Rattle.wait_core.proofs.Common.{◌∙◌, ap, suc, ProcessSet, has_file, is_member}
use Rattle.wait_core.proofs.ProcessLemmas.{none_in}
use Rattle.wait_core.proofs.files.FileSet.empty.Goals as goal

pub returns : goal.returns
unfolding has_file
returns c f = ap (λ (set : ProcessSet). is_member set (suc f)) c.empty.ensures ∙ none_in (suc f)
