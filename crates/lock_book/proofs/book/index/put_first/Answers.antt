use Rattle.lock_book.proofs.Common.{◌≡◌, ℕ, true, false, Option, Some, None, sym, ap, ◌∙◌, subst, eqb-true, Run, holder_of, as_holder}
use Rattle.std.proofs.Common.{nat_eq}
use Rattle.std.specs.Option.{option_eq}
use Rattle.interval_index.specs.Tests.{with_run, without}
use Rattle.lock_book.specs.Indexing.{run_by, without_left}
use Rattle.lock_book.proofs.IndexLemmas.{left_twice}
use Rattle.lock_book.proofs.book.index.put_first.Goals as goal

-- what passes the test of a byte is that byte
same_byte : (left : Option ℕ) (byte : ℕ) → option_eq nat_eq left (Some byte) ≡ true → left ≡ Some byte
same_byte None byte same = absurd (let e : false ≡ true = same in cc)
same_byte (Some other) byte same = ap Some (eqb-true other byte same)

pub returns-then-eq : goal.returns-then-eq
returns-then-eq c put =
    let holder = as_holder c.args.owner in
    let first = c.args.span.first in
    let runs = c.args.index.now.runs in
    let is = same_byte c.args.left first (sym c.eq.ensures ∙ c.if-eq.true) in
    c.replace.ensures.runs ∙ ap (λ (run : Run). with_run run (without run.span.first (holder_of run) runs)) c.run_of.ensures
    ∙ ap (with_run (run_by c.args.owner c.args.mode c.args.span))
    (subst (λ (left : Option ℕ). without first holder runs ≡ without first holder (without_left holder left runs)) (sym is)
    (sym (left_twice holder (Some first) runs)))
