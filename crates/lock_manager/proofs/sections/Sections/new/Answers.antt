use Rattle.lock_manager.proofs.Common.{◌≡◌, ◌∙◌, ap, subst, sym, suc, zero, refl, get_or, List, Seat, no_seat, seat_in}
use Rattle.std.proofs.Common.{replicate}
use Rattle.lock_manager.proofs.SectionLemmas.{seats_none}
use Rattle.lock_manager.proofs.sections.Sections.new.Goals as goal

pub returns-clause-nobody : goal.returns-clause-nobody
unfolding seat_in
returns-clause-nobody c zero = refl
returns-clause-nobody c (suc place) =
    let seats : c.in_ok-seats.seats.items ≡ replicate c.from-count.result no_seat =
    c.in_ok-seats.ensures.items_if_clones_equal (λ seat clone. clone) ∙ ap (λ (seat : Seat). replicate c.from-count.result seat) c.empty.ensures in
    subst (λ (items : List Seat). get_or items place no_seat ≡ no_seat) (sym seats) (seats_none c.from-count.result place)
