use Rattle.lock_server.proofs.Common.{arith, ◌∙◌, common_steps, is_byte_wait, table_state}
use Rattle.lock_server.proofs.ForgetLemmas.{all_dismissed, dismissing_more, dismissing_none, fewer_after}
use Rattle.lock_server.proofs.GrantedMoves.{crosses_itself}
use Rattle.lock_server.proofs.table.Table.dismiss.Goals as goal

pub loop-init : goal.loop-init
loop-init c = grind (arith, common_steps, dismissing_none, crosses_itself)

pub loop-preserved : goal.loop-preserved
loop-preserved c = record {
  dismissing = dismissing_more (table_state c.args.self.now) c.args.file (is_byte_wait c.args.owner) (table_state c.loop.self) (table_state c.dismiss_one.new.self) c.loop.invariant.dismissing
      (c.dismiss_one.ensures.one c.loop-test.true);
  others = λ other differs. c.dismiss_one.ensures.others other differs ∙ c.loop.invariant.others other differs;
}

pub loop-smaller : goal.loop-smaller
loop-smaller c = fewer_after (table_state c.loop.self) c.args.file (is_byte_wait c.args.owner) (table_state c.dismiss_one.new.self) (c.dismiss_one.ensures.one c.loop-test.true)

pub returns-clause-forgets : goal.returns-clause-forgets
returns-clause-forgets c =
    let none = c.dismiss_one.ensures.none c.loop-test.false in
    all_dismissed (table_state c.args.self.now) c.args.file c.args.owner (table_state c.loop.self) (table_state c.dismiss_one.new.self) (table_state c.release.new.self)
    c.loop.invariant.dismissing none.0 none.1 c.release.ensures.releases
