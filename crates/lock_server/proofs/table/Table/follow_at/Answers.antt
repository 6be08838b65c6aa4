use Rattle.lock_server.proofs.Common.{◌≡◌, ◌∙◌, None, Some, sym, subst, take, OnOk, same_Some, Pending, IsBlockedByOwner, Follows, table_state}
use Rattle.lock_server.proofs.table.Table.follow_at.Goals as goal

pub follow_wait-requires : goal.follow_wait-requires
follow_wait-requires c = record {
  range = c.in-Some.ensures.range;
  told = c.requires.told;
  among = c.requires.among c.in-Some.wait (sym c.wait_on.ensures.is ∙ c.in-Some.is);
}

pub returns-in-Some : goal.returns-in-Some
returns-in-Some c = λ wait at.
    let table = c.args.self.now in
    let F = (table_state table).files c.args.file in
    let same : c.in-Some.wait ≡ wait = same_Some c.in-Some.wait wait (sym c.in-Some.is ∙ (c.wait_on.ensures.is ∙ at)) in
    subst (λ (w : Pending). OnOk c.follow_wait.result (Follows table c.args.target (IsBlockedByOwner c.args.policy F (take c.args.place F.waits) w) c.args.reached.now c.follow_wait.new.reached)) same
    c.follow_wait.ensures

pub returns-in-None : goal.returns-in-None
returns-in-None c = λ wait at. absurd (let h : None ≡ Some wait = sym c.in-None.is ∙ (c.wait_on.ensures.is ∙ at) in cc)
