use Rattle.std.proofs.Common.{List, ℕ, ◌+◌, take, sym, subst}
use Rattle.std.proofs.lemmas.List.{take_rest}
use Rattle.expectations.specs.FirstLines.{IsFirstLine}
use Rattle.expectations.proofs.LineLemmas.{feed_found, no_feed}
use Rattle.expectations.proofs.seen.first_line.Goals as goal

pub returns-in-Some : goal.returns-in-Some
returns-in-Some c =
    let bytes = c.args.bytes.now in
    let found = c.in-Some.ensures in
    subst (λ (l : List ℕ). IsFirstLine bytes (take c.in-Some.end bytes) l) (sym (take_rest bytes (c.in-Some.end + 1))) (feed_found bytes c.in-Some.end found)

pub returns-in-None : goal.returns-in-None
returns-in-None c = no_feed c.args.bytes.now c.requires c.in-None.ensures
