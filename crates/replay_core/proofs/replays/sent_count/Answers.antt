use Rattle.replay_core.proofs.Common.{rules, ◌≡◌, ◌==◌, ◌∙◌, ℕ, sym, length-map, Request}
use Rattle.std.proofs.Common.{count_by, filter}
use Rattle.std.proofs.lemmas.List.Sums.{length-filter}
use Rattle.replay_core.proofs.replays.sent_count.Goals as goal

pub returns : goal.returns
returns c =
    let of = λ (arrival : ℕ × Request). arrival.0 == c.args.process in
    let counted : c.count.result ≡ count_by of c.args.arrivals.now = search rules in
    counted ∙ sym (length-filter of c.args.arrivals.now) ∙ sym (length-map (filter of c.args.arrivals.now) (λ (arrival : ℕ × Request). arrival.1))
