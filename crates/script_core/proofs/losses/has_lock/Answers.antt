use Rattle.script_core.proofs.Common.{common_steps, ℕ, ◌≡◌, Option, None, arith, ap, sym, subst, ◌∙◌, Description, mode_in}
use Rattle.std.specs.Option.{option_copied}
use Rattle.std.proofs.lemmas.Bool.{not-false}
use Rattle.owner_runs.specs.declared.owner_runs.OwnerRuns.{OwnerRuns}
use Rattle.lock_book.specs.OwnerLists.{modes_in_list}
use Rattle.script_core.proofs.LossLemmas.{unlisted}
use Rattle.script_core.proofs.losses.has_lock.Goals as goal

pub returns-in-Some : goal.returns-in-Some
returns-in-Some c lockless S h =
    let file = c.args.look.file in
    let d = c.args.look.desc in
    let no_flock : c.flock_lock.result ≡ None = grind (arith, common_steps) in
    let same = subst (λ (f : Option OwnerRuns). (byte : ℕ) → modes_in_list f byte ≡ mode_in S.changes file (Description d) byte) (ap option_copied c.in-Some.is) (c.byte_locks.ensures S h) in
    unlisted S file d (λ byte. sym (c.is_empty.ensures.free.0 (not-false _ lockless) byte) ∙ same byte) (sym no_flock ∙ c.flock_lock.ensures S h)

pub returns-in-None : goal.returns-in-None
returns-in-None c = grind (arith, common_steps, unlisted)
