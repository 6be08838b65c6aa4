use Rattle.std.proofs.Common.{◌∙◌}
use Rattle.std.proofs.Math.Logic.{∥∥₁_map}
use Rattle.wait_core.specs.Locks.{locks_of}
use Rattle.wait_core_tests.proofs.tests.sequences.Both.leave.Goals as goal

pub invariant_of-self : goal.invariant_of-self
invariant_of-self c =
    let self = c.args.self.now in
    let now = c.leave.ensures in
    record {
      files = self.files;
      processes = now.processes ∙ self.processes;
      told = ∥∥₁_map self.told (now.told (locks_of self.books.items));
      blocked = ∥∥₁_map self.blocked (now.blocked (locks_of self.books.items));
    }
