use Rattle.lock_book.proofs.Common.{◌≡◌, ◌∙◌, sym, true, refl, Some, None, arith, list_of, modes_among}
use Rattle.lock_book.proofs.BookLemmas.{list_of-lent, list_written, PutsAt-removes, PutsList-puts, SetsOwnerMode-puts, room_in-list, room_left}
use Rattle.lock_book.proofs.KeptLemmas.{AreKept-list, AreKept-removed, indexed_set, modes_was}
use Rattle.lock_book.proofs.book.Book.set_reserved.Goals as goal

pub set_reserved-requires-clause-room : goal.set_reserved-requires-clause-room
set_reserved-requires-clause-room c =
    let was : list_of c.args.self.now c.args.owner ≡ Some c.unwrap-list.result.now =
    list_of-lent _ _ _ _ c.get_mut.ensures.value c.unwrap-list.ensures in
    rw (room_in-list _ _ _ was) at c.requires.room

pub put_in-requires-clause-left : goal.put_in-requires-clause-left
put_in-requires-clause-left c =
    c.take_out-left.ensures.left (modes_among c.args.self.now.owners)
    (modes_was c.args.self.now c.args.owner (Some c.unwrap-list.result.now) (list_of-lent _ _ _ _ c.get_mut.ensures.value c.unwrap-list.ensures)) c.args.self.now.indexed

pub invariant_of-self : goal.invariant_of-self
invariant_of-self c =
    let book = c.args.self.now in
    let list = c.set_reserved.new.self in
    let owners = c.get_mut.follows.lender list in
    let written = list_written book owners c.args.owner _ _ list c.get_mut.ensures.value c.unwrap-list.ensures (c.get_mut.follows.holds list) in
    let puts = PutsAt-removes book owners c.remove.new.self c.args.owner (Some list) written.1 c.remove.ensures.puts in
    let idle = c.is_idle.ensures.0 c.if-is_idle.true in
    let kept = AreKept-removed c.put_in.new.self book c.remove.new.self c.args.owner puts
    (indexed_set book c.remove.new.self c.args.owner None puts book.index c.take_out-left.new.self book.indexed c.take_out-left.result c.unwrap-list.result.now list c.put_in.new.self c.args.span c.args.mode
    written.0 (λ byte. sym (idle.free byte)) c.set_reserved.ensures.modes c.take_out-left.ensures.kept c.put_in.ensures) in
    record { in_use = kept.in_use; indexed = kept.indexed }

pub invariant_of-self-else-is_idle : goal.invariant_of-self-else-is_idle
invariant_of-self-else-is_idle c =
    let book = c.args.self.now in
    let list = c.set_reserved.new.self in
    let owners = c.get_mut.follows.lender list in
    let written = list_written book owners c.args.owner _ _ list c.get_mut.ensures.value c.unwrap-list.ensures (c.get_mut.follows.holds list) in
    let kept = AreKept-list c.put_in.new.self book owners c.args.owner list written.1
    (λ idle. let yes : c.is_idle.result ≡ true = c.is_idle.ensures.1 idle in let no = c.if-is_idle.false in cc)
    (indexed_set book owners c.args.owner (Some list) written.1 book.index c.take_out-left.new.self book.indexed c.take_out-left.result c.unwrap-list.result.now list c.put_in.new.self c.args.span c.args.mode
    written.0 (λ byte. refl) c.set_reserved.ensures.modes c.take_out-left.ensures.kept c.put_in.ensures) in
    record { in_use = kept.in_use; indexed = kept.indexed }

pub returns-then-is_idle-clause-sets : goal.returns-then-is_idle-clause-sets
returns-then-is_idle-clause-sets c =
    let book = c.args.self.now in
    let list = c.set_reserved.new.self in
    let owners = c.get_mut.follows.lender list in
    let written = list_written book owners c.args.owner _ _ list c.get_mut.ensures.value c.unwrap-list.ensures (c.get_mut.follows.holds list) in
    let idle = c.is_idle.ensures.0 c.if-is_idle.true in
    SetsOwnerMode-puts book _ c.args.owner (Some c.unwrap-list.result.now) None _ _
    (PutsList-puts book _ _ _ refl (PutsAt-removes book owners c.remove.new.self c.args.owner (Some list) written.1 c.remove.ensures.puts)) written.0
    (λ byte. sym (idle.free byte) ∙ c.set_reserved.ensures.modes byte)

pub returns-then-is_idle-clause-room : goal.returns-then-is_idle-clause-room
returns-then-is_idle-clause-room c =
    let book = c.args.self.now in
    let list = c.set_reserved.new.self in
    let owners = c.get_mut.follows.lender list in
    let written = list_written book owners c.args.owner _ _ list c.get_mut.ensures.value c.unwrap-list.ensures (c.get_mut.follows.holds list) in
    let idle = c.is_idle.ensures.0 c.if-is_idle.true in
    let none = idle.no_room in
    let kept = c.set_reserved.ensures.room in
    room_left book _ c.args.owner (Some c.unwrap-list.result.now) None 1
    (PutsList-puts book _ _ _ refl (PutsAt-removes book owners c.remove.new.self c.args.owner (Some list) written.1 c.remove.ensures.puts)) written.0 (omega arith)

pub returns-else-is_idle-clause-sets : goal.returns-else-is_idle-clause-sets
returns-else-is_idle-clause-sets c =
    let book = c.args.self.now in
    let list = c.set_reserved.new.self in
    let owners = c.get_mut.follows.lender list in
    let written = list_written book owners c.args.owner _ _ list c.get_mut.ensures.value c.unwrap-list.ensures (c.get_mut.follows.holds list) in
    SetsOwnerMode-puts book _ c.args.owner (Some c.unwrap-list.result.now) (Some list) _ _ (PutsList-puts book _ _ _ refl written.1) written.0
    c.set_reserved.ensures.modes

pub returns-else-is_idle-clause-room : goal.returns-else-is_idle-clause-room
returns-else-is_idle-clause-room c =
    let book = c.args.self.now in
    let list = c.set_reserved.new.self in
    let owners = c.get_mut.follows.lender list in
    let written = list_written book owners c.args.owner _ _ list c.get_mut.ensures.value c.unwrap-list.ensures (c.get_mut.follows.holds list) in
    room_left book _ c.args.owner (Some c.unwrap-list.result.now) (Some list) 1 (PutsList-puts book _ _ _ refl written.1) written.0
    c.set_reserved.ensures.room
