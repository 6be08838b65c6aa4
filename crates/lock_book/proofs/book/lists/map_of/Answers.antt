use Rattle.lock_book.proofs.Common.{List, [], ◌∙◌, Some, sym, subst, OwnerRuns, Owner, PutsFor}
use Rattle.lock_book.proofs.OwnerListLemmas.{set_in_map}
use Rattle.lock_book.proofs.PutLemmas.{PutsFor-second, PutsFor-set, PutsFor-updates, still_there}
use Rattle.lock_book.proofs.book.lists.map_of.Goals as goal

pub returns-clause-ok : goal.returns-clause-ok
returns-clause-ok c =
    let one = c.args.one.now in
    let other = c.args.other in
    let list = c.swap.new.x in
    let all = c.get_mut.follows.lender list in
    let first = c.insert.new.self in
    let both = c.insert-2.new.self in
    let empty = c.new.result in
    let puts : PutsFor [] first one.owner (Some empty) =
    subst (λ (lists : List (Owner × OwnerRuns)). PutsFor lists first one.owner (Some empty)) c.new-lists.ensures
    (PutsFor-updates c.new-lists.result first one.owner (Some empty) c.in_ok-insert.ensures.updates) in
    let adds : PutsFor first both other.owner (Some other.list) = PutsFor-updates first both other.owner (Some other.list) c.in_ok-insert-2.ensures.updates in
    let sets : PutsFor both all one.owner (Some list) =
    subst (λ (lists : List (Owner × OwnerRuns)). PutsFor both lists one.owner (Some list)) (sym (c.get_mut.follows.holds list ∙ set_in_map one.owner both list))
    (PutsFor-set both one.owner list (still_there one.owner other.owner empty other.list [] first both puts adds c.requires)) in
    PutsFor-second one.owner other.owner one.list empty other.list first both all puts adds
    (subst (λ (l : OwnerRuns). PutsFor both all one.owner (Some l)) c.swap.ensures.x_after sets) c.requires
