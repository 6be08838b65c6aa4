use Rattle.std.proofs.Common.{◌++◌, ◌==◌, ◌∙◌, ℕ, List, ap, append_assoc}
use Rattle.std.specs.Prelude.{filter, not}
use Rattle.history_check.specs.Told.{comment_line}
use Rattle.history_check.proofs.TextLemmas.{comment_more}
use Rattle.history_check.proofs.told.push_open.Goals as goal

pub loop-opened-preserved : goal.loop-opened-preserved
loop-opened-preserved c =
    let so_far = c.loop-opened.invariant in
    let more = comment_line (filter (λ (byte : ℕ). not (byte == 10)) c.deref.result.now) in (
      so_far.0 ++ more,
      comment_more so_far.0 c.deref.result.now so_far.1,
      c.in_ok-push_comment.ensures ∙ ap (λ (l : List ℕ). l ++ more) so_far.2 ∙ append_assoc _ so_far.0 more,
    )
