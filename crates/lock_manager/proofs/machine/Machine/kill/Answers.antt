use Rattle.lock_manager.proofs.Common.{◌≡◌, List, sym, ap, subst, refl, ◌∙◌, [], ◌∷◌, ◌++◌, inl, inr, Machine, Kill, Note, Answer, Reply, Unborn, Live, Waiting, Ended, with_process, without_wait, Tells}
use Rattle.lock_manager.specs.declared.request.Errno.TheVariants.{ESRCH}
use Rattle.lock_manager.specs.declared.request.Reply.TheVariants as replies
use Rattle.lock_manager.proofs.calls.ProcessCallLemmas.{kills_itself, kills_other, ends_waiting}
use Rattle.lock_manager.proofs.machine.Machine.kill.Goals as goal
use Rattle.lock_manager.proofs.machine.Machine.kill.Goals.{in-Unborn, in-Live, in-Waiting}

pub returns-then-target-p-clause-told : goal.returns-then-target-p-clause-told
returns-then-target-p-clause-told c =
    rw c.requires.empty
    (kills_itself c.args.self.now c.end.new.self c.args.p c.args.n c.args.target c.if-target-p.true
    (c.end.ensures.ends []))

pub returns-clause-told : goal.returns-clause-told
returns-clause-told c =
    let old = c.args.self.now in
    let p = c.args.p in
    let n = c.args.n in
    let target = c.args.target in
    let tells = λ (new : Machine) (told : List Note). Tells old new p n (Kill target) told in
    let told : c.push_reserved.new.self.items ≡ Answer p n c.match-state_of.reply ∷ [] =
    c.push_reserved.ensures.items ∙ ap (λ (notes : List Note). notes ++ c.answered.result ∷ []) c.requires.empty ∙ ap (λ (note : Note). note ∷ []) c.answered.ensures in
    let answer = λ (reply : Reply). Answer p n reply ∷ [] in
    elim c.match-state_of.branch [
      | in-Unborn w ↦
          rw w.self-is
          (subst (tells old) (sym (told ∙ ap answer w.reply-is))
          (elim w.in-Unborn.is [
            | inl unborn ↦ kills_other old old p n target Unborn (answer (replies.Err ESRCH)) c.if-target-p.false (sym c.state_of.ensures.state ∙ unborn) (λ S h. (S, refl, h))
            | inr ended ↦ kills_other old old p n target Ended (answer (replies.Err ESRCH)) c.if-target-p.false (sym c.state_of.ensures.state ∙ ended) (λ S h. (S, refl, h))
          ]))
      | in-Live w ↦
          rw w.self-is
          (subst (tells w.end-in-Live.new.self) (sym (told ∙ ap answer w.reply-is))
          (kills_other old w.end-in-Live.new.self p n target Live (answer replies.Ok) c.if-target-p.false (sym c.state_of.ensures.state ∙ w.in-Live.is)
          (w.end-in-Live.ensures.ends (answer replies.Ok))))
      | in-Waiting w ↦
          let new = w.end-in-Waiting.new.self in
          rw w.self-is
          (subst (tells new) (sym (told ∙ ap answer w.reply-is))
          (kills_other old new p n target Waiting (answer replies.Ok) c.if-target-p.false (sym c.state_of.ensures.state ∙ w.in-Waiting.is)
          (λ S h. ends_waiting new S target (answer replies.Ok)
          (w.end-in-Waiting.ensures.ends (answer replies.Ok) (with_process (without_wait S target) target Live) (w.interrupt.ensures.shows S h)))))
    ]
