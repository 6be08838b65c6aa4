use Rattle.script_core.proofs.SectionLaws.{names_the_same}
use Rattle.script_core.proofs.laws.sections_name_nothing_else.Goals as goal

pub returns : goal.returns
returns c = names_the_same
