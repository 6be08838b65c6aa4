use Rattle.std.proofs.Common.{ℕ, Option, subst}
use Rattle.replay_core.specs.Devices.{GivesByte}
use Rattle.history_run.proofs.ReadLemmas.{past_read, whole_where}
use Rattle.history_run.proofs.runs.read_past.Goals as goal

pub returns-in-Ok-None-clause-whole : goal.returns-in-Ok-None-clause-whole
returns-in-Ok-None-clause-whole g c = λ judging old so_far.
    let mid = g.R.Source.remaining c.args.source.now in
    let new = g.R.Source.remaining c.read_byte.new.self in
    let gives = subst (λ (byte : Option ℕ). GivesByte mid new byte) c.in-Ok-None.field-0-is c.in-Ok-None.ensures.byte in
    whole_where c.ended.result judging old mid new c.args.check 0 so_far gives.consumed gives.end (c.ended.ensures.judged judging) c.ended.ensures.few
    (c.ended.ensures.sound judging)

pub returns-in-Ok-Some-clause-whole : goal.returns-in-Ok-Some-clause-whole
returns-in-Ok-Some-clause-whole g c = λ judging old so_far.
    let mid = g.R.Source.remaining c.args.source.now in
    let new = g.R.Source.remaining c.read_byte.new.self in
    let gives = subst (λ (byte : Option ℕ). GivesByte mid new byte) c.in-Ok-Some.field-0-is c.in-Ok-Some.ensures.byte in
    past_read judging old mid new c.args.check c.cut_off.new.self c.in-Ok-Some.field-0-0 so_far gives.consumed (c.cut_off.ensures.judged judging)
    c.cut_off.ensures.lines (c.cut_off.ensures.sound judging)
