use Rattle.std.proofs.Common.{rules, ◌≡◌, ◌∙◌, ◌<◌, arith, lit<, refl, sym, decimal}
use Rattle.std.proofs.lemmas.Fmt.{decimal_injective}
use Rattle.lockreplay.proofs.options.limit_of.Goals as goal

pub returns-in-Some-eq0 : goal.returns-in-Some-eq0
returns-in-Some-eq0 c = (
  λ limit some small is.
      let zero : c.args.word.now ≡ decimal 0 = search rules in
      let same = decimal_injective 0 limit (lit< tt) small (sym zero ∙ is) in
      absurd (omega (arith, same, some)),
  refl,
)
