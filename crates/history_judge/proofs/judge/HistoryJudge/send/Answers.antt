use Rattle.history_judge.proofs.Common.{rules, ◌≡◌, ◌∙◌, Err, None, ap, refl, sym, get, nat_cmp, Sent}
use Rattle.history_judge.proofs.FilesLemmas.{none_found, on_err, some_found}
use Rattle.history_judge.proofs.JudgeLemmas.{exceeds_there, free_on, history_sent, history_still, known_sent, known_still, limit_of, logged_more, logged_still, never_impossible, never_taken, never_told, never_unknown, puts_back, same_entries}
use Rattle.history_judge.proofs.judge.HistoryJudge.send.Goals as goal

pub returns-then-contains_key-clause-taken : goal.returns-then-contains_key-clause-taken
returns-then-contains_key-clause-taken c = (λ told. some_found _ (sym c.contains_key.ensures ∙ c.if-contains_key.true), λ has. refl)

pub returns-then-contains_key-clause-err : goal.returns-then-contains_key-clause-err
returns-then-contains_key-clause-err c runs lines knows = knows

pub returns-then-contains_key-clause-err_open : goal.returns-then-contains_key-clause-err_open
returns-then-contains_key-clause-err_open c id = refl

pub invariant_of-self-in-Break-branch-2 : goal.invariant_of-self-in-Break-branch-2
invariant_of-self-in-Break-branch-2 c = record {
  known = history_still c.args.self.now.files c.args.self.now.files c.args.self.now.opened c.put_request.new.opened refl (λ runs lines known. known)
      (same_entries c.args.self.now.opened c.put_request.new.opened c.in_err-put_request.ensures.err) c.args.self.now.known;
}

pub returns-in_err-put_request-clause-taken : goal.returns-in_err-put_request-clause-taken
returns-in_err-put_request-clause-taken c =
    let free : get nat_cmp c.args.self.now.opened c.args.request.id ≡ None = none_found _ (sym c.contains_key.ensures ∙ c.if-contains_key.false) in
    (λ told. absurd (let e : ⊥ = search rules in e), λ has. absurd (has free))

pub returns-in_err-put_request-clause-err : goal.returns-in_err-put_request-clause-err
returns-in_err-put_request-clause-err c = on_err c.from_residual-in_err-put_request.result (λ runs lines knows.
    logged_still runs c.args.self.now _ lines c.make_room.ensures.items refl knows
    (known_still runs c.args.self.now.files c.args.self.now.files c.args.self.now.opened c.put_request.new.opened lines (λ r ls k. k)
    (same_entries c.args.self.now.opened c.put_request.new.opened c.in_err-put_request.ensures.err) knows.known))

pub returns-in_err-put_request-clause-err_open : goal.returns-in_err-put_request-clause-err_open
returns-in_err-put_request-clause-err_open c = on_err c.from_residual-in_err-put_request.result
    (same_entries c.args.self.now.opened c.put_request.new.opened c.in_err-put_request.ensures.err)

pub send-requires : goal.send-requires
send-requires c =
    let free : get nat_cmp c.args.self.now.opened c.args.request.id ≡ None = none_found _ (sym c.contains_key.ensures ∙ c.if-contains_key.false) in
    free_on c.args.self.now.files c.args.self.now.opened c.args.file c.args.request.id free c.args.self.now.known

pub invariant_of-self-in-Err : goal.invariant_of-self-in-Err
invariant_of-self-in-Err c =
    let free : get nat_cmp c.args.self.now.opened c.args.request.id ≡ None = none_found _ (sym c.contains_key.ensures ∙ c.if-contains_key.false) in
    record {
      known = history_still c.args.self.now.files c.send.new.self c.args.self.now.opened c.remove_request.new.opened c.send.ensures.runs c.in-Err.ensures.err
          (puts_back c.args.self.now.opened c.put_request.new.opened c.remove_request.new.opened c.args.request.id _ free c.in_ok-put_request.ensures.ok
          c.remove_request.ensures) c.args.self.now.known;
    }

pub returns-in-Err-clause-taken : goal.returns-in-Err-clause-taken
returns-in-Err-clause-taken c =
    let free : get nat_cmp c.args.self.now.opened c.args.request.id ≡ None = none_found _ (sym c.contains_key.ensures ∙ c.if-contains_key.false) in (
      λ told. absurd (never_told (Err c.from.result) c.in-Err.fault _ (never_taken c.in-Err.fault) (ap (λ f. Err f) c.from.ensures) told),
      λ has. absurd (has free),
    )

pub returns-in-Err-clause-legal : goal.returns-in-Err-clause-legal
returns-in-Err-clause-legal c = never_told (Err c.from.result) c.in-Err.fault _ (never_impossible c.in-Err.fault) (ap (λ f. Err f) c.from.ensures)

pub returns-in-Err-clause-known : goal.returns-in-Err-clause-known
returns-in-Err-clause-known c = never_told (Err c.from.result) c.in-Err.fault _ (never_unknown c.in-Err.fault) (ap (λ f. Err f) c.from.ensures)

pub returns-in-Err-clause-limit : goal.returns-in-Err-clause-limit
returns-in-Err-clause-limit c told = exceeds_there c.args.self.now c.args.limit
    (c.in-Err.ensures.limit (ap (λ f. Err f) (limit_of (Err c.from.result) c.in-Err.fault (ap (λ f. Err f) c.from.ensures) told)))

pub returns-in-Err-clause-err : goal.returns-in-Err-clause-err
returns-in-Err-clause-err c runs lines knows =
    let free : get nat_cmp c.args.self.now.opened c.args.request.id ≡ None = none_found _ (sym c.contains_key.ensures ∙ c.if-contains_key.false) in
    logged_still runs c.args.self.now _ lines c.make_room.ensures.items c.send.ensures.keeps knows
    (known_still runs c.args.self.now.files c.send.new.self c.args.self.now.opened c.remove_request.new.opened lines c.in-Err.ensures.err
    (puts_back c.args.self.now.opened c.put_request.new.opened c.remove_request.new.opened c.args.request.id _ free c.in_ok-put_request.ensures.ok
    c.remove_request.ensures) knows.known)

pub returns-in-Err-clause-err_open : goal.returns-in-Err-clause-err_open
returns-in-Err-clause-err_open c =
    let free : get nat_cmp c.args.self.now.opened c.args.request.id ≡ None = none_found _ (sym c.contains_key.ensures ∙ c.if-contains_key.false) in
    puts_back c.args.self.now.opened c.put_request.new.opened c.remove_request.new.opened c.args.request.id _ free c.in_ok-put_request.ensures.ok
    c.remove_request.ensures

pub invariant_of-self-in-Ok : goal.invariant_of-self-in-Ok
invariant_of-self-in-Ok c =
    let free : get nat_cmp c.args.self.now.opened c.args.request.id ≡ None = none_found _ (sym c.contains_key.ensures ∙ c.if-contains_key.false) in
    record {
      known = history_sent c.args.self.now.files c.send.new.self c.args.self.now.opened c.put_request.new.opened c.args.line c.args.file c.args.request free
          c.send.ensures.runs c.in-Ok.ensures.ok c.in_ok-put_request.ensures.ok c.args.self.now.known;
    }

pub returns-in-Ok-clause-ok : goal.returns-in-Ok-clause-ok
returns-in-Ok-clause-ok c runs lines knows =
    let free : get nat_cmp c.args.self.now.opened c.args.request.id ≡ None = none_found _ (sym c.contains_key.ensures ∙ c.if-contains_key.false) in
    logged_more runs c.args.self.now _ lines (Sent c.args.file c.args.request) c.args.file c.make_room.new.line_files.items refl c.make_room.ensures.items
    (λ keeps. c.log_line.ensures (c.keeps_order-keeps.ensures ∙ keeps)) c.send.ensures.keeps knows
    (known_sent runs c.args.self.now.files c.send.new.self c.args.self.now.opened c.put_request.new.opened lines c.args.line c.args.file c.args.request free
    c.in-Ok.ensures.ok c.in_ok-put_request.ensures.ok knows.known)

pub returns-in-Ok-clause-open : goal.returns-in-Ok-clause-open
returns-in-Ok-clause-open c = c.in_ok-put_request.ensures.ok

pub returns-in-Ok-clause-room : goal.returns-in-Ok-clause-room
returns-in-Ok-clause-room c = c.in-Ok.ensures.room

pub returns-in-Ok-clause-taken : goal.returns-in-Ok-clause-taken
returns-in-Ok-clause-taken c =
    let free : get nat_cmp c.args.self.now.opened c.args.request.id ≡ None = none_found _ (sym c.contains_key.ensures ∙ c.if-contains_key.false) in
    (λ told. cc, λ has. absurd (has free))
