use Rattle.history_judge.proofs.Common.{◌≡◌, ℕ, None, [], ap, refl, get, is_at, lookup, nat_cmp}
use Rattle.history_judge.proofs.JudgeLemmas.{known_first}
use Rattle.history_judge.proofs.judge.HistoryJudge.with_files.Goals as goal

pub invariant_of-result : goal.invariant_of-result
invariant_of-result c =
    let none : (id : ℕ) → get nat_cmp c.new.result id ≡ None = λ id. ap (λ es. lookup (is_at (nat_cmp id)) es) c.new.ensures.empty in
    record { known = ∣ ([], known_first c.args.files.runs c.args.files c.new.result refl c.requires.none none) ∣₁ }

pub returns-clause-knows : goal.returns-clause-knows
returns-clause-knows c =
    let none : (id : ℕ) → get nat_cmp c.new.result id ≡ None = λ id. ap (λ es. lookup (is_at (nat_cmp id)) es) c.new.ensures.empty in
    record { known = known_first c.args.files.runs c.args.files c.new.result refl c.requires.none none; logged = λ keeps. c.new-2.ensures.items }
