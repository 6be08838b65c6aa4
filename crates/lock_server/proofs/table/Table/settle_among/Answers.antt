use Rattle.lock_server.proofs.Common.{common_steps, ◌∙◌, arith, refl, subst, sym, IsSettled, SettlesFile, State, table_state}
use Rattle.lock_server.proofs.GrantedMoves.{KeepsRoomOn-itself, KeepsRoomOn-then, crosses_itself}
use Rattle.lock_server.proofs.SettleLemmas.{fewer_waits, leads_more, leads_nowhere, settled_here}
use Rattle.lock_server.proofs.StateLemmas.{state_from_same}
use Rattle.lock_server.proofs.table.Table.settle_among.Goals as goal

pub loop-still-init : goal.loop-still-init
loop-still-init c =
    let table = c.args.self.now in record {
      led = leads_nowhere c.args.policy (table_state table) c.args.file (crosses_itself table);
      room = KeepsRoomOn-itself table c.args.file;
      others = λ other differs. refl;
      file = refl;
      known = record { earliest = tt; others = c.requires };
    }

pub loop-still-preserved : goal.loop-still-preserved
loop-still-preserved c =
    let table = c.args.self.now in
    let before = c.loop-still.self in
    let after = c.grant_next.new.self in
    let granted = c.in-Some.ensures.granted in
    record {
      led = leads_more c.args.policy (table_state table) c.args.file (table_state before) granted.0 (table_state after) c.loop-still.invariant.led granted.1;
      room = KeepsRoomOn-then table before after c.args.file c.loop-still.invariant.room c.grant_next.ensures.room;
      others = λ other differs. c.grant_next.ensures.others other differs ∙ c.loop-still.invariant.others other differs;
      file = refl;
      known = c.in-Some.ensures.known;
    }

pub loop-still-smaller : goal.loop-still-smaller
loop-still-smaller c = grind (arith, common_steps, fewer_waits)

pub returns-clause-settles : goal.returns-clause-settles
returns-clause-settles c =
    let table = c.args.self.now in
    let before = c.loop-still.self in
    let after = c.grant_next.new.self in
    let settled = c.in_default.ensures.settled in
    subst (λ (T : State). SettlesFile c.args.policy (table_state table) c.args.file T) (sym (state_from_same (table_state before) (table_state after) settled.1))
    (settled_here c.args.policy (table_state table) c.args.file (table_state before) c.loop-still.invariant.led settled.0)

pub returns-clause-settled : goal.returns-clause-settled
returns-clause-settled c =
    let before = c.loop-still.self in
    let after = c.grant_next.new.self in
    let settled = c.in_default.ensures.settled in
    subst (λ (T : State). IsSettled c.args.policy (T.files c.args.file)) (sym (state_from_same (table_state before) (table_state after) settled.1))
    settled.0

pub returns-clause-room : goal.returns-clause-room
returns-clause-room c =
    KeepsRoomOn-then c.args.self.now c.loop-still.self c.grant_next.new.self c.args.file c.loop-still.invariant.room c.grant_next.ensures.room
