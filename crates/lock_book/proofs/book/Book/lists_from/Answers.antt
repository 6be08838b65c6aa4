use Rattle.lock_book.proofs.Common.{◌≡◌, ◌∙◌, List, Option, true, All, ap, subst, sym, lookup, OwnerRuns, Owner, byte_modes_of, list_of, IsBefore, is_same_owner, AreRising, modes_in_list}
use Rattle.std.proofs.lemmas.List.Elements.{filter_passes}
use Rattle.std.proofs.lemmas.List.Kept.{AllPairs-filter}
use Rattle.lock_book.specs.Books.{room_in}
use Rattle.lock_book.specs.Owners.{is_from}
use Rattle.lock_book.specs.OwnerLists.{room_in_list}
use Rattle.lock_book.proofs.OwnerListLemmas.{found_from, found_from_rising}
use Rattle.lock_book.proofs.book.Book.lists_from.Goals as goal

pub returns-clause-modes : goal.returns-clause-modes
unfolding byte_modes_of list_of
returns-clause-modes c owner byte within =
    ap (λ (list : Option OwnerRuns). modes_in_list list byte)
    (ap (λ (lists : List (Owner × OwnerRuns)). lookup (is_same_owner owner) lists) c.iter_from.ensures.lists
    ∙ found_from c.args.from c.args.self.now.owners owner within)

pub returns-clause-rooms : goal.returns-clause-rooms
unfolding room_in list_of
returns-clause-rooms c owner within =
    ap room_in_list
    (ap (λ (lists : List (Owner × OwnerRuns)). lookup (is_same_owner owner) lists) c.iter_from.ensures.lists
    ∙ found_from c.args.from c.args.self.now.owners owner within)

pub returns-clause-from : goal.returns-clause-from
returns-clause-from c =
    subst (λ (lists : List (Owner × OwnerRuns)). All (λ one. is_from c.args.from one.0 ≡ true) lists) (sym c.iter_from.ensures.lists)
    (filter_passes (λ (one : Owner × OwnerRuns). is_from c.args.from one.0) c.args.self.now.owners)

rising : (c : goal.After-iter_from) → AreRising c.iter_from.result
rising c =
    subst (λ (lists : List (Owner × OwnerRuns)). AreRising lists) (sym c.iter_from.ensures.lists)
    (AllPairs-filter (λ one other. IsBefore one.0 other.0) (λ (one : Owner × OwnerRuns). is_from c.args.from one.0) c.args.self.now.owners c.iter_from.ensures.rising)

pub returns-clause-rising : goal.returns-clause-rising
returns-clause-rising c = rising c

pub returns-clause-found : goal.returns-clause-found
returns-clause-found c = found_from_rising c.iter_from.result (rising c)
