use Rattle.lock_book.proofs.Common.{◌≡◌, ◌∙◌, sym, subst, true, refl, Some, None, Option, arith, modes_of, OwnerRuns, modes_in_list, byte_modes_of, modes_among}
use Rattle.range_core.specs.Ranges.{IsConstant, SplitsRun}
use Rattle.lock_book.proofs.BookLemmas.{had_told, room_kept, list_of-lent, list_written, PutsAt-removes, PutsList-puts, SetsOwnerMode-puts, SameBook-puts, still_in_use}
use Rattle.lock_book.proofs.KeptLemmas.{AreKept-list, AreKept-removed, already_set, indexed_set, indexed_again, kept_same, modes_was}
use Rattle.std.proofs.lemmas.Bool.{false≢true}
use Rattle.lock_book.proofs.book.Book.set_listed.Goals as goal

pub put_in-requires-clause-left : goal.put_in-requires-clause-left
put_in-requires-clause-left c =
    c.take_out-left.ensures.left (modes_among c.args.self.now.owners)
    (modes_was c.args.self.now c.args.owner (Some c.in-Some.list.now) (list_of-lent _ _ _ _ c.get_mut.ensures.value c.in-Some.is)) c.args.self.now.indexed

pub put_in-requires-2-clause-left : goal.put_in-requires-2-clause-left
put_in-requires-2-clause-left c =
    c.take_out-left.ensures.left (modes_among c.args.self.now.owners)
    (modes_was c.args.self.now c.args.owner (Some c.in-Some.list.now) (list_of-lent _ _ _ _ c.get_mut.ensures.value c.in-Some.is)) c.args.self.now.indexed

pub invariant_of-self-in-Err : goal.invariant_of-self-in-Err
invariant_of-self-in-Err c =
    let book = c.args.self.now in
    let list = c.set.new.self in
    let owners = c.get_mut.follows.lender list in
    let written = list_written book owners c.args.owner _ _ list c.get_mut.ensures.value c.in-Some.is (c.get_mut.follows.holds list) in
    let same = c.in-Err.ensures.err in
    let kept = AreKept-list c.put_in.new.self book owners c.args.owner list written.1
    (still_in_use book c.args.owner c.in-Some.list.now list written.0 same.modes (let room = same.room in omega arith))
    (indexed_again book owners c.args.owner (Some list) written.1 c.args.self.now.index c.take_out-left.new.self c.args.self.now.indexed c.take_out-left.result c.in-Some.list.now list c.put_in.new.self c.args.span
    written.0 (λ byte. refl) same.modes c.take_out-left.ensures.kept c.put_in.ensures) in
    record { in_use = kept.in_use; indexed = kept.indexed }

pub returns-in-Err : goal.returns-in-Err
unfolding byte_modes_of
returns-in-Err c =
    let book = c.args.self.now in
    let list = c.set.new.self in
    let owners = c.get_mut.follows.lender list in
    let written = list_written book owners c.args.owner _ _ list c.get_mut.ensures.value c.in-Some.is (c.get_mut.follows.holds list) in
    let same = c.in-Err.ensures.err in
    record {
      ok = tt;
      room = tt;
      had = tt;
      unlock = λ unlock whole. absurd (false≢true (c.in-Err.ensures.unlock unlock (λ splits. whole (subst (λ (l : Option OwnerRuns). SplitsRun (modes_in_list l) c.args.span) (sym written.0) splits))));
      again = λ wanted is constant. c.in-Err.ensures.again wanted is (subst (λ (l : Option OwnerRuns). IsConstant (modes_in_list l) c.args.span wanted) written.0 constant);
      err = SameBook-puts book _ c.args.owner _ list (PutsList-puts book _ _ _ refl written.1) written.0 same.modes same.room;
    }

pub invariant_of-self-then-is_idle : goal.invariant_of-self-then-is_idle
invariant_of-self-then-is_idle c =
    let book = c.args.self.now in
    let list = c.set.new.self in
    let owners = c.get_mut.follows.lender list in
    let written = list_written book owners c.args.owner _ _ list c.get_mut.ensures.value c.in-Some.is (c.get_mut.follows.holds list) in
    let puts = PutsAt-removes book owners c.remove.new.self c.args.owner (Some list) written.1 c.remove.ensures.puts in
    let idle = c.is_idle.ensures.0 c.if-is_idle.true in
    let kept = AreKept-removed c.put_in-2.new.self book c.remove.new.self c.args.owner puts
    (indexed_set book c.remove.new.self c.args.owner None puts c.args.self.now.index c.take_out-left.new.self c.args.self.now.indexed c.take_out-left.result c.in-Some.list.now list c.put_in-2.new.self c.args.span c.args.mode
    written.0 (λ byte. sym (idle.free byte)) c.in_default-set.ensures.ok c.take_out-left.ensures.kept c.put_in-2.ensures) in
    record { in_use = kept.in_use; indexed = kept.indexed }

pub invariant_of-self-else-is_idle : goal.invariant_of-self-else-is_idle
invariant_of-self-else-is_idle c =
    let book = c.args.self.now in
    let list = c.set.new.self in
    let owners = c.get_mut.follows.lender list in
    let written = list_written book owners c.args.owner _ _ list c.get_mut.ensures.value c.in-Some.is (c.get_mut.follows.holds list) in
    let kept = AreKept-list c.put_in-2.new.self book owners c.args.owner list written.1
    (λ idle. let yes : c.is_idle.result ≡ true = c.is_idle.ensures.1 idle in let no = c.if-is_idle.false in cc)
    (indexed_set book owners c.args.owner (Some list) written.1 c.args.self.now.index c.take_out-left.new.self c.args.self.now.indexed c.take_out-left.result c.in-Some.list.now list c.put_in-2.new.self c.args.span c.args.mode
    written.0 (λ byte. refl) c.in_default-set.ensures.ok c.take_out-left.ensures.kept c.put_in-2.ensures) in
    record { in_use = kept.in_use; indexed = kept.indexed }

pub returns-then-is_idle-clause-ok : goal.returns-then-is_idle-clause-ok
returns-then-is_idle-clause-ok c =
    let book = c.args.self.now in
    let list = c.set.new.self in
    let owners = c.get_mut.follows.lender list in
    let written = list_written book owners c.args.owner _ _ list c.get_mut.ensures.value c.in-Some.is (c.get_mut.follows.holds list) in
    let idle = c.is_idle.ensures.0 c.if-is_idle.true in
    SetsOwnerMode-puts book _ c.args.owner (Some c.in-Some.list.now) None _ _
    (PutsList-puts book _ _ _ refl (PutsAt-removes book owners c.remove.new.self c.args.owner (Some list) written.1 c.remove.ensures.puts)) written.0
    (λ byte. sym (idle.free byte) ∙ c.in_default-set.ensures.ok byte)

pub returns-else-is_idle : goal.returns-else-is_idle
returns-else-is_idle c =
    let book = c.args.self.now in
    let list = c.set.new.self in
    let owners = c.get_mut.follows.lender list in
    let written = list_written book owners c.args.owner _ _ list c.get_mut.ensures.value c.in-Some.is (c.get_mut.follows.holds list) in
    let puts = PutsList-puts book _ _ _ refl written.1 in
    record {
      ok = SetsOwnerMode-puts book _ c.args.owner (Some c.in-Some.list.now) (Some list) _ _ puts written.0 c.in_default-set.ensures.ok;
      room = room_kept book _ c.args.owner c.in-Some.list.now list puts written.0 c.in_default-set.ensures.room;
      had = had_told book c.args.owner c.in-Some.list.now c.is_empty-had.result written.0 c.is_empty-had.ensures.free;
      unlock = λ unlock whole. refl;
      again = λ wanted is constant. refl;
      err = tt;
    }

pub invariant_of-self-then-stays : goal.invariant_of-self-then-stays
invariant_of-self-then-stays c =
    let book = c.args.self.now in
    let list = c.in-Some.list.now in
    let owners = c.get_mut.follows.lender list in
    let written = list_written book owners c.args.owner _ _ list c.get_mut.ensures.value c.in-Some.is (c.get_mut.follows.holds list) in
    let kept = AreKept-list c.args.self.now.index book owners c.args.owner list written.1
    (still_in_use book c.args.owner list list written.0 (λ byte. refl) (omega arith))
    (kept_same book owners c.args.owner (Some list) written.1 c.args.self.now.index (Some list) written.0 (λ byte. refl) c.args.self.now.indexed) in
    record { in_use = kept.in_use; indexed = kept.indexed }

pub returns-then-stays : goal.returns-then-stays
returns-then-stays c =
    let book = c.args.self.now in
    let list = c.in-Some.list.now in
    let owners = c.get_mut.follows.lender list in
    let written = list_written book owners c.args.owner _ _ list c.get_mut.ensures.value c.in-Some.is (c.get_mut.follows.holds list) in
    let puts = PutsList-puts book _ _ _ refl written.1 in
    record {
      ok = SetsOwnerMode-puts book _ c.args.owner (Some list) (Some list) _ _ puts written.0 (already_set (modes_of list) c.args.span c.args.mode (c.stays.ensures.same c.if-stays.true));
      room = room_kept book _ c.args.owner list list puts written.0 (omega arith);
      had = had_told book c.args.owner list c.is_empty-had.result written.0 c.is_empty-had.ensures.free;
      unlock = λ unlock whole. refl;
      again = λ wanted is constant. refl;
      err = tt;
    }

pub returns-then-is_idle-clause-had : goal.returns-then-is_idle-clause-had
returns-then-is_idle-clause-had c = had_told c.args.self.now c.args.owner c.in-Some.list.now c.is_empty-had.result (list_of-lent _ _ _ _ c.get_mut.ensures.value c.in-Some.is) c.is_empty-had.ensures.free
