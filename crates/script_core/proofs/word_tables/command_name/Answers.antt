use Rattle.script_core.proofs.Common.{codes, refl}
use Rattle.script_core.proofs.ArgumentLemmas.{not_named}
use Rattle.script_core.proofs.word_tables.command_name.Goals as goal

pub returns-in_default : goal.returns-in_default
returns-in_default c =
    let word = c.args.word.now in
    let not = c.in_default in
    rw (
      not_named (codes "open") word not.not-open,
      not_named (codes "dup") word not.not-dup,
      not_named (codes "dup2") word not.not-dup2,
      not_named (codes "close") word not.not-close,
      not_named (codes "seek") word not.not-seek,
      not_named (codes "resize") word not.not-resize,
      not_named (codes "getlk") word not.not-getlk,
      not_named (codes "setlk") word not.not-setlk,
      not_named (codes "setlkw") word not.not-setlkw,
      not_named (codes "ogetlk") word not.not-ogetlk,
      not_named (codes "osetlk") word not.not-osetlk,
      not_named (codes "osetlkw") word not.not-osetlkw,
      not_named (codes "flock") word not.not-flock,
      not_named (codes "fork") word not.not-fork,
      not_named (codes "signal") word not.not-signal,
      not_named (codes "kill") word not.not-kill,
      not_named (codes "exit") word not.not-exit,
      not_named (codes "enter") word not.not-enter,
      not_named (codes "leave") word not.not-leave,
      not_named (codes "bail") word not.not-bail,
    )
    (λ limits. refl)
