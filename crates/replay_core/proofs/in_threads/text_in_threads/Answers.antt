use Rattle.replay_core.proofs.Common.{sym, subst}
use Rattle.replay_core.specs.declared.job.Detail.{Detail}
use Rattle.replay_core.specs.Interleaving.{IsThreadTextIn}
use Rattle.replay_core.proofs.OutputLemmas.{runs, tells, tells_explained}
use Rattle.replay_core.proofs.in_threads.text_in_threads.Goals as goal

pub explained_in_threads-requires-clause-run : goal.explained_in_threads-requires-clause-run
explained_in_threads-requires-clause-run g c = runs c.args.bytes.now c.in_ok-ran.ran c.in_ok-ran.ensures.run

pub returns-in-Plain-clause-text : goal.returns-in-Plain-clause-text
returns-in-Plain-clause-text g c =
    let bytes = c.args.bytes.now in
    let text = c.in_ok-text_of-in-Plain.field-0.items in
    subst (λ (detail : Detail). IsThreadTextIn detail bytes text) (sym c.in-Plain.is)
    (tells bytes text c.in_ok-ran.ran c.in_ok-ran.ensures.run c.in_ok-text_of-in-Plain.ensures.text)

pub returns-clause-text : goal.returns-clause-text
returns-clause-text g c =
    let bytes = c.args.bytes.now in
    let text = c.in_ok-explained_in_threads-in-Explained.field-0.items in
    subst (λ (detail : Detail). IsThreadTextIn detail bytes text) (sym c.in-Explained.is)
    (tells_explained c.in-Explained.states bytes text c.in_ok-ran.ran c.in_ok-ran.ensures.run c.in_ok-explained_in_threads-in-Explained.ensures.text)
