use Rattle.lock_server.proofs.Common.{ap, subst, sym, FileState, file_state, state_at, entry_in, AreBlockedBut, IsKnown, entry_of, table_state, IsReadyAt}
use Rattle.lock_server.proofs.EntryMoves.{keeps_room_on}
use Rattle.lock_server.proofs.GrantedMoves.{granted_indexed, granted_waited, grants_by, lent_of_ready, reserved_stays}
use Rattle.lock_server.proofs.IndexLemmas.{file_written}
use Rattle.lock_server.proofs.table.Table.grant_next.Goals as goal

pub unwrap-locks-requires : goal.unwrap-locks-requires
unfolding table_state entry_of
unwrap-locks-requires c = lent_of_ready c.args.policy c.args.self.now.files c.args.file c.in-Some.place c.in-Some.ensures.ready c.get_mut.result c.get_mut.ensures.value

pub grant-requires : goal.grant-requires
unfolding table_state entry_of
grant-requires c =
    let table = c.args.self.now in
    let after = c.grant-granted.new.self in
    let written = file_written table.files (c.get_mut.follows.lender after) c.args.file _ c.unwrap-locks.result after c.get_mut.ensures.value c.unwrap-locks.ensures (c.get_mut.follows.holds after) in
    let ready : IsReadyAt c.args.policy (state_at (entry_in table.files c.args.file)) c.in-Some.place = c.in-Some.ensures.ready in
    let grants =
    c.grant-granted.ensures.granted
    (subst (λ (F : FileState). IsReadyAt c.args.policy F c.in-Some.place) (ap state_at written.0) ready) in (
      c.args.file,
      granted_waited table.files (c.get_mut.follows.lender c.grant-granted.new.self) table.tickets table.tickets table.waiters table.waiters table.waiters c.args.file c.unwrap-locks.result.now after written.0 written.1 table.indexed c.args.policy c.grant-granted.result.wait grants,
    )

pub invariant_of-self : goal.invariant_of-self
unfolding table_state entry_of
invariant_of-self c =
    let table = c.args.self.now in
    let after = c.grant-granted.new.self in
    let written = file_written table.files (c.get_mut.follows.lender after) c.args.file _ c.unwrap-locks.result after c.get_mut.ensures.value c.unwrap-locks.ensures (c.get_mut.follows.holds after) in
    let ready : IsReadyAt c.args.policy (state_at (entry_in table.files c.args.file)) c.in-Some.place = c.in-Some.ensures.ready in
    let grants =
    c.grant-granted.ensures.granted
    (subst (λ (F : FileState). IsReadyAt c.args.policy F c.in-Some.place) (ap state_at written.0) ready) in
    record {
      indexed = granted_indexed table.files _ table.tickets c.grant.new.self table.waiters c.end_for.new.self c.cross.new.self c.args.file c.unwrap-locks.result.now after written.0 written.1 table.indexed c.args.policy
          c.grant-granted.result.wait grants c.grant.ensures.place c.grant.ensures.grants c.end_for.ensures c.cross.ensures;
    }

pub returns-clause-granted : goal.returns-clause-granted
unfolding table_state entry_of
returns-clause-granted c =
    let table = c.args.self.now in
    let after = c.grant-granted.new.self in
    let written = file_written table.files (c.get_mut.follows.lender after) c.args.file _ c.unwrap-locks.result after c.get_mut.ensures.value c.unwrap-locks.ensures (c.get_mut.follows.holds after) in
    let ready : IsReadyAt c.args.policy (state_at (entry_in table.files c.args.file)) c.in-Some.place = c.in-Some.ensures.ready in
    let grants =
    c.grant-granted.ensures.granted
    (subst (λ (F : FileState). IsReadyAt c.args.policy F c.in-Some.place) (ap state_at written.0) ready) in (
      c.grant-granted.result.wait,
      grants_by table.files (c.get_mut.follows.lender c.grant-granted.new.self) table.tickets c.grant.new.self table.waiters c.end_for.new.self c.cross.new.self c.args.file c.unwrap-locks.result.now after written.0 written.1 table.indexed c.args.policy
          c.grant-granted.result.wait grants c.grant.ensures.place c.grant.ensures.grants c.end_for.ensures c.cross.ensures,
    )

pub returns-clause-room : goal.returns-clause-room
unfolding table_state entry_of
returns-clause-room c =
    let table = c.args.self.now in
    let after = c.grant-granted.new.self in
    let written = file_written table.files (c.get_mut.follows.lender after) c.args.file _ c.unwrap-locks.result after c.get_mut.ensures.value c.unwrap-locks.ensures (c.get_mut.follows.holds after) in
    let ready : IsReadyAt c.args.policy (state_at (entry_in table.files c.args.file)) c.in-Some.place = c.in-Some.ensures.ready in
    let grants =
    c.grant-granted.ensures.granted
    (subst (λ (F : FileState). IsReadyAt c.args.policy F c.in-Some.place) (ap state_at written.0) ready) in
    keeps_room_on table _ c.args.file c.unwrap-locks.result.now after written.0 written.1.here c.grant-granted.ensures.room
    (reserved_stays table.files (c.get_mut.follows.lender c.grant-granted.new.self) table.tickets c.grant.new.self table.waiters table.waiters table.waiters c.args.file c.unwrap-locks.result.now after written.0 written.1 table.indexed c.args.policy
    c.grant-granted.result.wait grants c.grant.ensures.place)

pub returns-clause-known : goal.returns-clause-known
unfolding table_state entry_of
returns-clause-known c =
    let table = c.args.self.now in
    let after = c.grant-granted.new.self in
    let written = file_written table.files (c.get_mut.follows.lender after) c.args.file _ c.unwrap-locks.result after c.get_mut.ensures.value c.unwrap-locks.ensures (c.get_mut.follows.holds after) in
    let ready : IsReadyAt c.args.policy (state_at (entry_in table.files c.args.file)) c.in-Some.place = c.in-Some.ensures.ready in
    let others : AreBlockedBut c.args.policy (state_at (entry_in table.files c.args.file)) c.args.known.freed = c.requires.others in
    let here = subst (λ (F : FileState). IsReadyAt c.args.policy F c.in-Some.place) (ap state_at written.0) ready in
    let at : IsKnown c.args.policy (file_state after) c.grant-granted.result.known =
    record {
      earliest = c.grant-granted.ensures.blocked here;
      others = c.grant-granted.ensures.freed here (subst (λ (F : FileState). AreBlockedBut c.args.policy F c.args.known.freed) (ap state_at written.0) others);
    } in
    subst (λ (F : FileState). IsKnown c.args.policy F c.grant-granted.result.known) (sym (ap state_at written.1.here)) at
