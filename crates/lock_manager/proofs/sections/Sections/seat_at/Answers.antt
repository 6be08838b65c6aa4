use Rattle.lock_manager.proofs.Common.{arith, ◌∙◌, ◌+◌, sym, refl, no_seat}
use Rattle.std.proofs.lemmas.List.{get_or_default}
use Rattle.lock_manager.proofs.SectionLemmas.{seat_at}
use Rattle.lock_manager.proofs.sections.Sections.seat_at.Goals as goal

pub returns : goal.returns
returns c =
    c.index.ensures ∙ get_or_default c.args.self.now.seats.items c.args.place c.index.result.now no_seat (omega arith)
    ∙ sym (seat_at c.args.self.now c.args.place (c.args.place + 1) refl)
