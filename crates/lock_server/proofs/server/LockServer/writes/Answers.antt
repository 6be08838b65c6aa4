use Rattle.lock_server.proofs.Common.{arith}
use Rattle.std.proofs.lemmas.Bool.Decides.{Decides-eqb}
use Rattle.std.proofs.lemmas.Slice.Eq.{slice_eq-Decides}
use Rattle.lock_server.proofs.ImportLemmas.{export_compared}
use Rattle.lock_server.proofs.server.LockServer.writes.Goals as goal

pub returns-then-size-bytes : goal.returns-then-size-bytes
returns-then-size-bytes c =
    let compared = export_compared c.args.self.now c.args.out.now c.export-size.new.out c.args.bytes.now c.export-size.result c.export-size.ensures c.requires.room
    (let kept = c.export-size.auto.out in omega (arith, kept)) (let small = c.requires.small in omega (arith, small)) in
    let same = slice_eq-Decides Decides-eqb _ _ _ c.eq.ensures in
    (λ yes. compared.0 (c.if-size-bytes.true, same.0 yes), λ is. same.1 (compared.1 is).1)
