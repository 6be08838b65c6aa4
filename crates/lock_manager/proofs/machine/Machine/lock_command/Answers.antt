use Rattle.lock_manager.proofs.Common.{sym, ◌∙◌, ap, rules, FitsSigned, to_z, of_z, w64, to_z-of_z, resolution}
use Rattle.lock_manager.proofs.calls.CommandLemmas.{on_range, may_wait_looked}
use Rattle.lock_manager.proofs.machine.Machine.lock_command.Goals as goal

pub range_command-requires-clause-may_wait : goal.range_command-requires-clause-may_wait
range_command-requires-clause-may_wait c =
    may_wait_looked c.args.self.now.tables c.args.p c.args.fd c.args.cmd c.in-Some.look c.in-Some.ensures.look

pub returns-in-Ok-clause-told : goal.returns-in-Ok-clause-told
returns-in-Ok-clause-told c =
    let lock = c.args.lock in
    let look = c.in-Some.look in
    let start_fits : FitsSigned w64 lock.start = search rules in
    let len_fits : FitsSigned w64 lock.len = search rules in
    on_range c.args.self.now c.range_command.new.self c.args.p c.args.n c.args.fd c.args.cmd lock look c.in-Ok.span c.range_command.result
    c.in-Some.ensures.look (sym c.refuses.ensures ∙ c.if-refuses.false)
    (c.in-Ok.ensures.resolution
    ∙ ap (λ start. resolution lock.whence start (to_z w64 (of_z w64 lock.len)) look.offset look.size) (to_z-of_z start_fits)
    ∙ ap (λ len. resolution lock.whence lock.start len look.offset look.size) (to_z-of_z len_fits))
    c.range_command.ensures.told
