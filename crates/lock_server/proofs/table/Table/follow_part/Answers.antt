use Rattle.lock_server.proofs.Common.{refl, Contains, on_ok_weaker, AddsGoingOn, BlocksOn, table_state}
use Rattle.lock_server.proofs.FollowLemmas.{going_gathered, part_followed}
use Rattle.lock_server.proofs.table.Table.follow_part.Goals as goal

pub returns : goal.returns
returns c =
    let table = c.args.self.now in
    let wait = c.args.wait.now in
    let next = c.add_byte_holders.new.owners.items in
    let old = c.args.reached.now in
    let mid = c.add_going_on.new.reached in
    let P = BlocksOn ((table_state table).files c.args.file) wait.owner c.args.part wait.mode in
    let those : AddsGoingOn table.waiters c.args.target (Contains next) old.owners.items mid.owners.items =
    rw c.deref.ensures.value at c.in_ok-add_going_on.ensures.adds in
    let going = going_gathered table.waiters c.args.target P c.new-next.result.items next old.owners.items mid.owners.items c.new-next.ensures.items
    c.in_ok-add_byte_holders.ensures those in
    on_ok_weaker c.note.result
    (λ notes.
    part_followed table c.args.target old mid _ c.args.file wait.owner c.args.part wait.mode c.requires.told c.requires.among going
    c.in_ok-add_going_on.ensures.looked_at refl notes)
    c.note.ensures
