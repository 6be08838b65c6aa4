use Rattle.std.proofs.Common.{◌≡◌, ◌+◌, ◌∷◌, [], ◌++◌, true, cond, length, ap, ◌∙◌, arith}
use Rattle.std.proofs.lemmas.Grind.{common_steps}
use Rattle.std.proofs.lemmas.List.{length-append}
use Rattle.std.proofs.lemmas.List.Elements.{filter-append}
use Rattle.std.specs.List.{filter}
use Rattle.arrival_list.proofs.Kept.{few_kept}
use Rattle.arrival_list.proofs.counting.CountingWalkArrivedCountedU64.see.Goals as goal

pub returns-then-hits : goal.returns-then-hits
returns-then-hits g c seen counts fits =
    let p = g.Q.Query.hits c.args.self.now.0 in
    let x = c.args.arrived.now in
    let long = length-append seen (x ∷ []) in
    let so_far = counts (omega (arith, fits, long)) in
    let few = few_kept p seen in
    let passes : p x ≡ true = cc in
    let one : filter p (x ∷ []) ≡ x ∷ [] = ap (λ b. cond b (x ∷ []) []) passes in
    let more : length (filter p (seen ++ x ∷ [])) ≡ length (filter p seen) + 1 =
    ap length (filter-append p seen (x ∷ [])) ∙ (length-append (filter p seen) (filter p (x ∷ [])) ∙ ap (λ l. length (filter p seen) + length l) one) in
    let next = c.saturating_add.ensures in
    grind (arith, common_steps)
