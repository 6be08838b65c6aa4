use Rattle.lock_book.proofs.Common.{common_steps, ◌≡◌, ◌∙◌, refl, Some, None, arith, list_of}
use Rattle.std.proofs.lemmas.Result.{on_ok_weaker, on_err_weaker}
use Rattle.lock_book.proofs.BookLemmas.{room_held, room_kept, list_of-lent, list_of-not_lent, list_written, PutsAt-adds, PutsList-puts, still_in_use, in_use_by_room, SameButRoom-puts, SameBook-puts, room_in-list}
use Rattle.lock_book.proofs.KeptLemmas.{AreKept-insert, AreKept-left, AreKept-list, kept_same}
use Rattle.lock_book.proofs.book.Book.reserve.Goals as goal

pub returns-in_err-reserve-in-None-clause-there : goal.returns-in_err-reserve-in-None-clause-there
returns-in_err-reserve-in-None-clause-there c there = grind (arith, common_steps, list_of-not_lent, room_in-list)

pub returns-in_err-add-in-None-clause-there : goal.returns-in_err-add-in-None-clause-there
returns-in_err-add-in-None-clause-there c there = grind (arith, common_steps, list_of-not_lent, room_in-list)

pub returns-in-Some : goal.returns-in-Some
returns-in-Some c =
    let book = c.args.self.now in
    let list = c.reserve.new.self in
    let owners = c.get_mut.follows.lender list in
    let written = list_written book owners c.args.owner _ _ list c.get_mut.ensures.value c.in-Some.is (c.get_mut.follows.holds list) in
    let puts = PutsList-puts book _ _ _ refl written.1 in
    record {
      ok = on_ok_weaker c.reserve.result (λ room. SameButRoom-puts book _ c.args.owner _ list puts written.0 c.reserve.ensures.modes) c.reserve.ensures.ok;
      kept = on_ok_weaker c.reserve.result (λ room. room_kept book _ c.args.owner c.in-Some.list.now list puts written.0 c.reserve.ensures.kept) c.reserve.ensures.ok;
      room = on_ok_weaker c.reserve.result (λ room. room_held book _ c.args.owner list c.args.sets puts room) c.reserve.ensures.ok;
      there = λ there. let room = room_in-list _ _ _ written.0 in c.reserve.ensures.there (omega arith);
      err = on_err_weaker c.reserve.result (λ same. SameBook-puts book _ c.args.owner _ list puts written.0 same.modes same.room) c.reserve.ensures.err;
    }

pub returns-in_ok-add-in-None-clause-ok : goal.returns-in_ok-add-in-None-clause-ok
returns-in_ok-add-in-None-clause-ok c =
    let book = c.args.self.now in
    SameButRoom-puts book _ c.args.owner None c.reserve-in-None.new.self
    (PutsList-puts book _ _ _ refl
    (PutsAt-adds book _ c.add.new.self c.args.owner (Some c.reserve-in-None.new.self) c.get_mut.follows.holds-at-none
    c.in_ok-add-in-None.ensures.ok))
    (list_of-not_lent _ _ _ c.get_mut.ensures.value c.in-None.is)
    (λ byte. c.reserve-in-None.ensures.modes byte ∙ c.new-list.ensures.modes byte)

pub invariant_of-self : goal.invariant_of-self
invariant_of-self c =
    let book = c.args.self.now in
    let list = c.reserve.new.self in
    let owners = c.get_mut.follows.lender list in
    let written = list_written book owners c.args.owner _ _ list c.get_mut.ensures.value c.in-Some.is (c.get_mut.follows.holds list) in
    let kept = AreKept-list c.prepare.new.self book owners c.args.owner list written.1
    (still_in_use book c.args.owner c.in-Some.list.now list written.0 c.reserve.ensures.modes c.reserve.ensures.kept)
    (kept_same book owners c.args.owner (Some list) written.1 c.prepare.new.self (Some c.in-Some.list.now) written.0 c.reserve.ensures.modes c.prepare.ensures) in
    record { in_use = kept.in_use; indexed = kept.indexed }

pub invariant_of-self-in-None : goal.invariant_of-self-in-None
invariant_of-self-in-None c =
    let book = c.args.self.now in
    let added = c.reserve-in-None.new.self in
    let none : list_of book c.args.owner ≡ None = list_of-not_lent _ _ _ c.get_mut.ensures.value c.in-None.is in
    let kept = AreKept-insert c.prepare.new.self book _ c.add.new.self c.args.owner added c.add.result c.get_mut.follows.holds-at-none
    c.add.ensures.ok c.add.ensures.err (in_use_by_room added (let room = c.in_ok-reserve-in-None.ensures.ok in omega arith))
    c.prepare.ensures (λ puts. kept_same book c.add.new.self c.args.owner (Some added) puts c.prepare.new.self None none
    (λ byte. c.reserve-in-None.ensures.modes byte ∙ c.new-list.ensures.modes byte) c.prepare.ensures) in
    record { in_use = kept.in_use; indexed = kept.indexed }

pub invariant_of-self-then-sets-eq0 : goal.invariant_of-self-then-sets-eq0
invariant_of-self-then-sets-eq0 c =
    let kept = AreKept-left c.prepare.new.self c.args.self.now _ c.prepare.ensures c.get_mut.follows.holds-at-none in
    record { in_use = kept.in_use; indexed = kept.indexed }

pub invariant_of-self-in-Break-1 : goal.invariant_of-self-in-Break-1
invariant_of-self-in-Break-1 c =
    let kept = AreKept-left c.prepare.new.self c.args.self.now _ c.prepare.ensures c.get_mut.follows.holds-at-none in
    record { in_use = kept.in_use; indexed = kept.indexed }
