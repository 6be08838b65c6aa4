use Rattle.history_core.proofs.Common.{◌↔◌, subst, ByteLock, Gives, HasByte}
use Rattle.std.proofs.Common.{◌⊎◌}
use Rattle.history_core.proofs.ByteLemmas.{inside_gives, inside_none}
use Rattle.history_core.proofs.byte_locks.inside.Goals as goal

pub returns-in-None-clause-gives : goal.returns-in-None-clause-gives
returns-in-None-clause-gives c = inside_none c.args.rest.items c.args.owner c.args.span c.args.mode c.in-None.is

pub returns-in_ok-runs-in-Some-clause-gives : goal.returns-in_ok-runs-in-Some-clause-gives
returns-in_ok-runs-in-Some-clause-gives c =
    let runs = c.in_ok-runs-in-Some.runs.items in
    let lock : ByteLock = record { owner = c.args.owner; mode = c.in-Some.mode; span = c.args.span } in
    inside_gives runs c.args.rest.items c.args.owner c.args.span c.in-Some.mode c.args.mode c.in-Some.is
    (λ other byte given. subst (λ xs. HasByte runs other byte given ↔ (HasByte xs other byte given ⊎ Gives lock other byte given)) c.deref.ensures.value
    (c.in_ok-runs-in-Some.ensures.gives other byte given))
