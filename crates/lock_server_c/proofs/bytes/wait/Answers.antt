use Rattle.std.proofs.Common.{refl}
use Rattle.lock_server.specs.Calls.{WaitComesTo, byte_request}
use Rattle.lock_server_c.specs.Lending.{with_server}
use Rattle.lock_server_c.proofs.ToldLemmas.{taken_told, wait_goes}
use Rattle.lock_server_c.proofs.bytes.wait.Goals as goal

pub returns-clause-ok : goal.returns-clause-ok
returns-clause-ok c =
    let next = c.wait-answer.new.self in
    wait_goes c.args.handle.now (with_server c.args.handle.now next) c.server.result.now next c.wait-answer.result c.wait_status.result
    (λ rules from. WaitComesTo rules.policy from c.args.file (byte_request c.args.ticket c.args.owner c.args.span c.args.mode c.args.detect))
    c.server.ensures.server refl c.wait_status.ensures c.wait-answer.ensures.rules c.wait-answer.ensures.ok c.wait-answer.ensures.err

pub returns-clause-taken : goal.returns-clause-taken
returns-clause-taken c =
    taken_told c.args.handle.now.server c.server.result.now c.wait-answer.result c.wait_status.result c.args.ticket c.server.ensures.server
    c.wait_status.ensures c.wait-answer.ensures.taken
