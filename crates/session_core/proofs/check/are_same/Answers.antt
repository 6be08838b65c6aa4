use Rattle.std.proofs.lemmas.Slice.Eq.{slice_eq-Decides}
use Rattle.session_core.proofs.NoteLemmas.{notes_decide}
use Rattle.session_core.proofs.check.are_same.Goals as goal

pub returns : goal.returns
returns c = slice_eq-Decides notes_decide _ _ _ c.eq.ensures
