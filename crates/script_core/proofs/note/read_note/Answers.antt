use Rattle.script_core.proofs.Common.{arith, common_steps}
use Rattle.script_core.proofs.NoteLemmas.{note_first_words}
use Rattle.script_core.proofs.note.read_note.Goals as goal

pub returns : goal.returns
returns c = grind (arith, common_steps, note_first_words)
