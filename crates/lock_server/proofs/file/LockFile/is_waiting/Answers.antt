use Rattle.lock_server.proofs.Common.{◌≡◌, ◌==◌, ◌∙◌, true, false, sym, subst, ◌↔◌, IsTrue, eq-eqb, eqb-true, Pending, is_of_kind, file_state, AreOfOthers}
use Rattle.std.proofs.Common.{◌&&◌}
use Rattle.std.specs.Prelude.{Bool}
use Rattle.lock_server.specs.declared.asking.Kind.TheVariants.{Any}
use Rattle.lock_server.proofs.PlaceFromLemmas.{not_all_others}
use Rattle.lock_server.proofs.file.LockFile.is_waiting.Goals as goal

pub returns-then-may_wait : goal.returns-then-may_wait
returns-then-may_wait c =
    let waits = (file_state c.args.self.now).waits in
    let owner = c.args.owner in
    subst (λ (told : Bool). IsTrue told ↔ (¬ AreOfOthers waits owner)) (sym c.is_some.ensures)
    (not_all_others (λ (wait : Pending). is_of_kind Any wait && (wait.owner == owner)) (λ wait. wait.owner ≡ owner) (λ wait. (eqb-true wait.owner owner, eq-eqb wait.owner owner)) waits
    c.first_of.result c.first_of.ensures.first)

pub returns-else-may_wait : goal.returns-else-may_wait
returns-else-may_wait c =
    let none = c.if-may_wait.false in
    (λ told. absurd (let h : false ≡ true = sym none ∙ told in cc), λ waiting. absurd (waiting (c.may_wait.ensures none)))
