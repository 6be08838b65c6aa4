use Rattle.history_text.proofs.Common.{codes, refl, rules, texts, Close, Gone}
use Rattle.history_text.proofs.RequestLemmas.{not_named, whole_given}
use Rattle.history_text.proofs.requests.read_named.Goals as goal

pub returns-in_ok-file-in-close : goal.returns-in_ok-file-in-close
returns-in_ok-file-in-close c =
    let whole = c.in_ok-file-in-close in
    rw c.in-close.is
    (whole_given c.args.id Close (codes "close") (texts c.args.arguments.now) whole.file whole.owner c.sent-in-close.result refl tt refl
    whole.ensures (search rules) (search rules) c.sent-in-close.ensures)

pub returns-in_ok-file-in-gone : goal.returns-in_ok-file-in-gone
returns-in_ok-file-in-gone c =
    let whole = c.in_ok-file-in-gone in
    rw c.in-gone.is
    (whole_given c.args.id Gone (codes "gone") (texts c.args.arguments.now) whole.file whole.owner c.sent-in-gone.result refl tt refl
    whole.ensures (search rules) (search rules) c.sent-in-gone.ensures)

pub returns-in_default : goal.returns-in_default
returns-in_default c =
    let word = c.args.name.now in
    let not = c.in_default in
    rw (
      not_named (codes "set") word not.not-set,
      not_named (codes "wait") word not.not-wait,
      not_named (codes "get") word not.not-get,
      not_named (codes "unlock") word not.not-unlock,
      not_named (codes "flock") word not.not-flock,
      not_named (codes "close") word not.not-close,
      not_named (codes "gone") word not.not-gone,
    )
    refl
