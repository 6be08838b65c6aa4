use Rattle.script_core.proofs.Common.{arith, ◌∙◌, sym, common_steps}
use Rattle.script_core.specs.JournalView.{is_spent}
use Rattle.script_core.proofs.JournalSeamLemmas.{finish_cut, finish_whole}
use Rattle.script_core.proofs.journal.JournalReader.finish.Goals as goal

pub returns-then-is_some-clause-finishes : goal.returns-then-is_some-clause-finishes
unfolding is_spent
returns-then-is_some-clause-finishes c = grind (arith, common_steps)

pub returns-then-is_cut-clause-finishes : goal.returns-then-is_cut-clause-finishes
returns-then-is_cut-clause-finishes c = grind (arith, common_steps, finish_cut)

pub returns-else-is_cut-clause-finishes : goal.returns-else-is_cut-clause-finishes
returns-else-is_cut-clause-finishes c = λ reading read. finish_whole c.args.self.now reading read (sym c.is_cut.ensures ∙ c.if-is_cut.false)
