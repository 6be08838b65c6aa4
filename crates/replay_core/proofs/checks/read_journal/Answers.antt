use Rattle.replay_core.proofs.Common.{refl, arith, rules, ◌≡◌, ◌∙◌, ◌≤◌, ◌<◌, ◌-◌, length, take}
use Rattle.std.proofs.Common.{length-take-le}
use Rattle.replay_core.proofs.JournalSourceLemmas.{nothing_read, more_read}
use Rattle.replay_core.proofs.checks.read_journal.Goals as goal

pub loop-left-init : goal.loop-left-init
loop-left-init g c = (
  nothing_read (g.R.Source.remaining c.args.source.now) c.in_ok-checking.checking _ c.in_ok-checking.ensures.checked refl c.in_ok-checking.ensures.first,
  refl,
  omega arith,
)

pub loop-left-preserved : goal.loop-left-preserved
loop-left-preserved g c =
    let count = c.in-Ok.count in
    let more = take count c.read_some.new.room in
    let within : count ≤ c.loop-left.left = search rules in
    let some : 0 < count = search rules in
    let all : length more ≡ count = length-take-le count c.read_some.new.room c.in-Ok.ensures.some.within in (
      more_read (g.R.Source.remaining c.args.source.now) (g.R.Source.remaining c.loop-left.source) (g.R.Source.remaining c.read_some.new.self)
          c.loop-left.checking c.take_all.new.self c.loop-left.left (c.loop-left.left - count) more c.loop-left.invariant.0
          c.in-Ok.ensures.some.consumed (omega (arith, within, all)) c.in_ok-take_all-in-Ok.ensures.checked c.in_ok-take_all-in-Ok.ensures.lines,
      c.in-Ok.ensures.sound ∙ c.loop-left.invariant.1,
      omega (arith, within, some, c.loop-left.invariant.2, c.in-Ok.ensures.call),
    )
