use Rattle.fd_table.proofs.Common.{◌≡◌, refl, sym, ◌∙◌, pos, Updates-with_value, key_at, view_of}
use Rattle.std.proofs.Common.{w64}
use Rattle.std.proofs.lemmas.Int.{to_z-of_z}
use Rattle.fd_table.proofs.CallLemmas.{same, key_seen, seen_at_key, is_open, seek_done}
use Rattle.fd_table.proofs.EntryLemmas.{some_is, entries_moved, moved_shows}
use Rattle.fd_table.proofs.tables.Tables.seek.Goals as goal

pub returns-in_default-bytes-clause-step : goal.returns-in_default-bytes-clause-step
unfolding view_of
returns-in_default-bytes-clause-step c = λ D h.
    let t = c.args.self.now in
    let seen = key_seen t.rows.items t.opened t.made c.args.p c.args.fd c.in-Some.key t.entered (sym c.key_at.ensures ∙ c.in-Some.is) in
    (D, (is_open (view_of t) D c.args.p c.args.fd _ h seen.2, rw (to_z-of_z w64 c.args.offset c.ranges.offset) at (c.in_default-bytes.ensures.none), same D), h)

pub invariant_of-self-clause-entered : goal.invariant_of-self-clause-entered
invariant_of-self-clause-entered c =
    let t = c.args.self.now in
    let was = c.index_mut.ensures.value in
    entries_moved t.rows.items t.opened _ t.made c.in-Some.key c.in-Some-bytes.offset _ t.entered was c.in-Some-bytes.ensures.some.1
    (Updates-with_value t.opened c.in-Some.key _ (some_is _ _ was))

pub returns-clause-step : goal.returns-clause-step
unfolding view_of
returns-clause-step c = λ D h.
    let t = c.args.self.now in
    let held = sym c.key_at.ensures ∙ c.in-Some.is in
    let was = c.index_mut.ensures.value in
    let seen = seen_at_key t.rows.items t.opened c.args.p c.args.fd c.in-Some.key _ held was in
    let updates = Updates-with_value t.opened c.in-Some.key (record c.index_mut.result.now { offset = c.in-Some-bytes.offset }) (some_is _ _ was) in
    let whole : c.args.offset ≡ pos c.in-Some-bytes.offset = rw (to_z-of_z w64 c.args.offset c.ranges.offset) at (c.in-Some-bytes.ensures.some.0) in
    seek_done (view_of t) _ D c.args.p c.args.fd c.in-Some-bytes.offset c.args.offset _ h seen whole
    (λ q k. moved_shows t.rows.items t.opened _ t.made c.in-Some.key c.in-Some-bytes.offset _ t.entered was updates (key_at t.rows.items q k))
    (record { made = refl; sizes = λ file. refl; born = λ p. refl })
