use Rattle.session_core.proofs.Common.{rules, ◌≡◌, ◌∙◌, ◌+◌, ap, sym, subst, length, length-append, All, [], ◌∷◌, ◌++◌, IsEmptyMailbox}
use Rattle.std.proofs.lemmas.List.Elements.{All-push}
use Rattle.session_core.proofs.sequencer.empty_mailboxes.Goals as goal

pub loop-preserved : goal.loop-preserved
loop-preserved c =
    let items : c.push.new.self.items ≡ c.loop.mailboxes.items ++ c.new.result ∷ [] = search rules in
    record {
      each = ap length items ∙ length-append c.loop.mailboxes.items (c.new.result ∷ []) ∙ ap (λ n. n + 1) c.loop.invariant.each;
      empty =
          subst (λ l. All IsEmptyMailbox l) (sym items)
          (All-push IsEmptyMailbox _ _ c.loop.invariant.empty (record { waiting = c.new.ensures.waiting; taken = c.new.ensures.taken }));
    }
