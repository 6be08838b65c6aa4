use Rattle.std.proofs.Common.{◌≡◌, inl, inr, ◌++◌, length, subst, arith}
use Rattle.std.proofs.lemmas.Grind.{common_steps}
use Rattle.std.proofs.lemmas.List.{length-append}
use Rattle.arrival_list.specs.Seeking.{HasSought}
use Rattle.arrival_list.specs.Places.{NonePassesFrom}
use Rattle.arrival_list.proofs.Seen.{nothing_still}
use Rattle.arrival_list.proofs.seek.SeekWalkArrivedCountedSought.see_all.Goals.{then-behind-self-via-then-behind-self, then-behind-self-via-else-behind-self+then-not-may_hit}
use Rattle.arrival_list.proofs.seek.SeekWalkArrivedCountedSought.see_all.Goals as goal

pub returns-then-behind-self-clause-all : goal.returns-then-behind-self-clause-all
returns-then-behind-self-clause-all g c seen items told tells _ fits =
    let p = g.Q.Query.hits c.args.self.now.query in
    let from = c.args.self.now.from in
    let long = length-append seen items in
    let sought = told (omega (arith, fits, long)) in
    let counts : c.args.counted.now.count ≡ length items = tells.count (omega (arith, fits, long)) in
    let so_far : (c.in-Passed.passed ≡ length seen) × NonePassesFrom p from seen = subst (HasSought p from seen) c.in-Passed.is sought in
    let behind : c.saturating_add-behind.result ≡ length (seen ++ items) = grind (arith, common_steps) in (
      behind,
      nothing_still p from seen items so_far.1
          (elim c.then-behind-self.branch [
            | then-behind-self-via-then-behind-self w ↦ inl (let few = w.if-behind-self.true in grind (arith, common_steps))
            | then-behind-self-via-else-behind-self+then-not-may_hit w ↦ inr (w.may_hit.ensures items tells (let no = w.if-not-may_hit.true in cc))
          ]),
    )
