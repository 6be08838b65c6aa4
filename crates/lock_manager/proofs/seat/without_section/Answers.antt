use Rattle.lock_manager.proofs.Common.{refl}
use Rattle.lock_manager.proofs.SectionLemmas.{section_removed}
use Rattle.lock_manager.proofs.seat.without_section.Goals as goal

pub returns : goal.returns
returns c other within = section_removed c.args.word _ c.args.section c.requires refl other within
