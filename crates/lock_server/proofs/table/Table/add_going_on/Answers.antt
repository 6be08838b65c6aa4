use Rattle.lock_server.proofs.Common.{◌≡◌, ◌∙◌, true, false, slice_get-get_or}
use Rattle.lock_server.proofs.ReachedLemmas.{added_all, added_once, added_skip}
use Rattle.lock_server.proofs.table.Table.add_going_on.Goals as goal
use Rattle.lock_server.proofs.table.Table.add_going_on.Goals.{then-goes_on+in_ok-add, else-goes_on}

pub loop-owner-preserved : goal.loop-owner-preserved
loop-owner-preserved c =
    let waiters = c.args.self.now.waiters in
    let owners = c.args.owners.now in
    let old = c.args.reached.now.owners.items in
    let mid = c.loop-owner.reached.owners.items in
    let at = slice_get-get_or owners c.loop-owner.owner-index _ c.loop-owner-test.true in
    elim c.if-goes_on.branch [
      | then-goes_on+in_ok-add w ↦
          rw w.reached-is
          (record {
            added = added_once waiters c.args.target owners old mid w.add.new.self.owners.items c.loop-owner.owner-index _ at w.in_ok-add.ensures.adds
                (c.goes_on.ensures.0 w.if-goes_on.true) c.loop-owner.invariant.added;
            looked_at = w.in_ok-add.ensures.looked_at ∙ c.loop-owner.invariant.looked_at;
          })
      | else-goes_on w ↦
          rw w.reached-is
          (record {
            added = added_skip waiters c.args.target owners old mid c.loop-owner.owner-index _ at c.loop-owner.invariant.added
                (λ goes. absurd (let yes = c.goes_on.ensures.1 goes in let no = w.if-goes_on.false in let h : true ≡ false = cc in cc));
            looked_at = c.loop-owner.invariant.looked_at;
          })
    ]

pub returns-clause-adds : goal.returns-clause-adds
returns-clause-adds c =
    added_all c.args.self.now.waiters c.args.target c.args.owners.now c.args.reached.now.owners.items c.loop-owner.reached.owners.items c.loop-owner.owner-index c.loop-owner-test.false
    c.loop-owner.invariant.added
