use Rattle.fd_table.proofs.Common.{◌≡◌, ◌<◌, ap, refl, sym, ◌∙◌, length, pos, rules, option_map, view_of, numbered}
use Rattle.std.proofs.Common.{w64}
use Rattle.std.proofs.lemmas.Int.{to_z-of_z}
use Rattle.fd_table.proofs.CallLemmas.{resize_done, size-set}
use Rattle.fd_table.proofs.tables.Tables.resize.Goals as goal

pub returns-clause-step : goal.returns-clause-step
unfolding view_of
returns-clause-step c = λ D h.
    let t = c.args.self.now in
    let whole : c.args.size ≡ pos c.in-Some-bytes.size = rw (to_z-of_z w64 c.args.size c.ranges.size) at c.in-Some-bytes.ensures.some.0 in
    let within : c.from.result < length t.sizes = search rules in
    resize_done (view_of t) _ D c.args.p c.args.fd c.in-Some-bytes.size c.args.size (numbered c.in-Some.opened) h
    (ap (option_map numbered) (sym c.opened_at.ensures ∙ c.in-Some.is)) whole
    (λ q k. refl) refl (size-set t.sizes c.in-Some.opened.file c.from.result c.in-Some-bytes.size c.from.ensures within) (λ p. refl)
