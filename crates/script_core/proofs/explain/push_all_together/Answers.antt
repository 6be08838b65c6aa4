use Rattle.script_core.proofs.Common.{◌≡◌, ◌+◌, ◌++◌, Bool, [], ap, sym, ◌∙◌, append-nil, if◌then◌else◌, State, is_together, StandsFor, Event, together_line}
use Rattle.script_core.proofs.TextLemmas.{extends_on}
use Rattle.script_core.proofs.ExplainLemmas.{none_together, told_together}
use Rattle.script_core.proofs.explain.push_all_together.Goals as goal
use Rattle.script_core.proofs.explain.push_all_together.Goals.{then-is_together+in_ok-push_together_with, else-is_together}

pub loop-index-init : goal.loop-index-init
loop-index-init c =
    (λ T stands. none_together c.args.entry.now T.visits c.args.section c.args.visit c.args.text.now.items, record { more = []; is = sym (append-nil c.args.text.now.items) })

pub loop-index-preserved : goal.loop-index-preserved
loop-index-preserved c =
    let event = c.args.entry.now in
    let old = c.args.text.now.items in
    let mid = c.loop-index.text.items in
    let q = c.loop-index.index + 1 in
    let at : (T : State) → StandsFor c.args.manager.now T → c.is_together.result ≡ is_together T.visits event.p c.args.section c.args.visit q =
    λ T stands. c.is_together.ensures T stands ∙ ap (λ (e : Event). is_together T.visits e.p c.args.section c.args.visit q) c.entry.view_is in
    elim c.if-is_together.branch [
      | then-is_together+in_ok-push_together_with w ↦
          let new = w.push_together_with.new.text.items in (
            λ T stands.
                rw w.text-is
                (told_together event T.visits c.args.section c.args.visit old mid new c.loop-index.index c.is_together.result (at T stands)
                (c.loop-index.invariant.0 T stands)
                (w.in_ok-push_together_with.ensures
                ∙ ap (λ (b : Bool). mid ++ (if b then together_line event c.args.section q else [])) (sym w.if-is_together.true))),
            rw w.text-is
                (extends_on old mid new (together_line event c.args.section q) c.loop-index.invariant.1 w.in_ok-push_together_with.ensures),
          )
      | else-is_together w ↦ (
        λ T stands.
            rw w.text-is
            (told_together event T.visits c.args.section c.args.visit old mid mid c.loop-index.index c.is_together.result (at T stands)
            (c.loop-index.invariant.0 T stands)
            (sym (append-nil mid) ∙ ap (λ (b : Bool). mid ++ (if b then together_line event c.args.section q else [])) (sym w.if-is_together.false))),
        rw w.text-is c.loop-index.invariant.1,
      )
    ]
