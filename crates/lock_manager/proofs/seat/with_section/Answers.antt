use Rattle.lock_manager.proofs.Common.{refl}
use Rattle.lock_manager.proofs.SectionLemmas.{section_inserted}
use Rattle.lock_manager.proofs.seat.with_section.Goals as goal

pub returns : goal.returns
returns c other within = section_inserted c.args.word _ c.args.section c.requires refl other
