use Rattle.replay_core.proofs.Common.{ℕ, List, sym, subst}
use Rattle.std.proofs.Common.{IfOk}
use Rattle.script_core.specs.Output.{IsOutput}
use Rattle.replay_core.specs.declared.job.Detail.{Detail}
use Rattle.replay_core.specs.Replays.{IsTextIn}
use Rattle.replay_core.proofs.OutputLemmas.{explains, is_led}
use Rattle.replay_core.proofs.replays.text_in.Goals as goal

pub explained_text-requires-clause-run : goal.explained_text-requires-clause-run
explained_text-requires-clause-run c =
    let run = c.in_ok-ran-in-Explained.ensures.run in
    (run.state, is_led c.args.bytes.items c.in_ok-ran-in-Explained.ran run)

pub returns-in-Plain-clause-text : goal.returns-in-Plain-clause-text
returns-in-Plain-clause-text c =
    subst (λ (detail : Detail). IfOk c.plain_text.result (λ text. IsTextIn detail c.args.bytes.items text.items)) (sym c.in-Plain.is)
    (subst (λ (bytes : List ℕ). IfOk c.plain_text.result (λ text. IsOutput bytes text.items)) c.deref.ensures.value c.plain_text.ensures.text)

pub returns-in_ok-explained_text-in-Explained-clause-text : goal.returns-in_ok-explained_text-in-Explained-clause-text
returns-in_ok-explained_text-in-Explained-clause-text c =
    let bytes = c.args.bytes.items in
    let text = c.in_ok-explained_text-in-Explained.field-0.items in
    let ran = c.in_ok-ran-in-Explained in
    subst (λ (detail : Detail). IsTextIn detail bytes text) (sym c.in-Explained.is)
    (explains c.in-Explained.states bytes text ran.ran ran.ensures.run c.in_ok-explained_text-in-Explained.ensures.text)
