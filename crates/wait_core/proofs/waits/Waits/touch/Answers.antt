use Rattle.wait_core.proofs.Common.{changed_files, waits_of, policy_of}
use Rattle.wait_core.proofs.SettledLemmas.{elsewhere_touched}
use Rattle.wait_core.proofs.waits.Waits.touch.Goals as goal

pub returns-then-file-lt-FILES-clause-blocked : goal.returns-then-file-lt-FILES-clause-blocked
unfolding waits_of policy_of changed_files
returns-then-file-lt-FILES-clause-blocked c within old new was agree =
    let self = c.args.self.now in
    record { blocked = elsewhere_touched self.changed c.with-self.result self.policy old new c.args.file c.with-self.ensures agree self.waits.items was.blocked }
