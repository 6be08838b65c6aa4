use Rattle.history_judge.proofs.Common.{rules, ◌≡◌, ◌∙◌, Err, Some, true, false, ap, refl, sym, get, nat_cmp, Answered}
use Rattle.history_judge.proofs.FilesLemmas.{on_err}
use Rattle.history_judge.proofs.JudgeLemmas.{entry_there, exceeds_there, file_answered, found_not, history_answer, history_still, known_answer, known_still, limit_of, logged_more, logged_still, never_impossible, never_taken, never_told, never_unknown, refused_answer, told_by_search}
use Rattle.history_judge.proofs.judge.HistoryJudge.answer.Goals as goal

pub returns-in_default-clause-err : goal.returns-in_default-clause-err
returns-in_default-clause-err c runs lines knows = knows

pub returns-in_default-clause-err_open : goal.returns-in_default-clause-err_open
returns-in_default-clause-err_open c id = refl

pub answer-requires : goal.answer-requires
answer-requires c =
    let here : get nat_cmp c.args.self.now.opened c.args.id ≡ Some c.in-Some.sent = sym c.open_request.ensures ∙ c.in-Some.is in
    entry_there c.args.self.now.files c.args.self.now.opened c.args.id c.in-Some.sent here c.args.self.now.known

pub invariant_of-self-in-Break-branch-2 : goal.invariant_of-self-in-Break-branch-2
invariant_of-self-in-Break-branch-2 c = record {
  known = history_still c.args.self.now.files c.answer.new.self c.args.self.now.opened c.args.self.now.opened c.answer.ensures.runs c.in_err-answer.ensures.err
      (λ id. refl) c.args.self.now.known;
}

pub returns-in_err-answer-clause-unknown : goal.returns-in_err-answer-clause-unknown
returns-in_err-answer-clause-unknown c =
    let here : get nat_cmp c.args.self.now.opened c.args.id ≡ Some c.in-Some.sent = sym c.open_request.ensures ∙ c.in-Some.is in (
      λ told. absurd (never_told c.from_residual-in_err-answer.result c.in_err-answer.field-0.0 _ (never_unknown c.in_err-answer.field-0.0)
          (told_by_search c.from_residual-in_err-answer.result c.in_err-answer.field-0.0 c.from_residual-in_err-answer.ensures.1) told),
      λ none. absurd (found_not _ c.in-Some.sent here none),
    )

pub returns-in_err-answer-clause-free : goal.returns-in_err-answer-clause-free
returns-in_err-answer-clause-free c = never_told c.from_residual-in_err-answer.result c.in_err-answer.field-0.0 _ (never_taken c.in_err-answer.field-0.0)
    (told_by_search c.from_residual-in_err-answer.result c.in_err-answer.field-0.0 c.from_residual-in_err-answer.ensures.1)

pub returns-in_err-answer-clause-illegal : goal.returns-in_err-answer-clause-illegal
returns-in_err-answer-clause-illegal c told = absurd (never_told c.from_residual-in_err-answer.result c.in_err-answer.field-0.0 _ (never_impossible c.in_err-answer.field-0.0)
    (told_by_search c.from_residual-in_err-answer.result c.in_err-answer.field-0.0 c.from_residual-in_err-answer.ensures.1) told)

pub returns-in_err-answer-clause-limit : goal.returns-in_err-answer-clause-limit
returns-in_err-answer-clause-limit c told = exceeds_there c.args.self.now c.args.limit (c.in_err-answer.ensures.limit (ap (λ f. Err f) (limit_of c.from_residual-in_err-answer.result c.in_err-answer.field-0.0
    (told_by_search c.from_residual-in_err-answer.result c.in_err-answer.field-0.0 c.from_residual-in_err-answer.ensures.1) told)))

pub returns-in_err-answer-clause-err : goal.returns-in_err-answer-clause-err
returns-in_err-answer-clause-err c = on_err c.from_residual-in_err-answer.result (λ runs lines knows.
    logged_still runs c.args.self.now _ lines c.make_room.ensures.items c.answer.ensures.keeps knows
    (known_still runs c.args.self.now.files c.answer.new.self c.args.self.now.opened c.args.self.now.opened lines c.in_err-answer.ensures.err (λ id. refl) knows.known))

pub returns-in_err-answer-clause-err_open : goal.returns-in_err-answer-clause-err_open
returns-in_err-answer-clause-err_open c = on_err c.from_residual-in_err-answer.result (λ id. refl)

pub invariant_of-self-then-not-branch : goal.invariant_of-self-then-not-branch
invariant_of-self-then-not-branch c =
    let no : c.in_ok-answer.field-0 ≡ false = search rules in
    record {
      known = history_still c.args.self.now.files c.answer.new.self c.args.self.now.opened c.args.self.now.opened c.answer.ensures.runs
          (c.in_ok-answer.ensures.stays no) (λ id. refl) c.args.self.now.known;
    }

pub returns-then-not-branch-clause-unknown : goal.returns-then-not-branch-clause-unknown
returns-then-not-branch-clause-unknown c =
    let here : get nat_cmp c.args.self.now.opened c.args.id ≡ Some c.in-Some.sent = sym c.open_request.ensures ∙ c.in-Some.is in
    (λ told. cc, λ none. absurd (found_not _ c.in-Some.sent here none))

pub returns-then-not-branch-clause-illegal : goal.returns-then-not-branch-clause-illegal
returns-then-not-branch-clause-illegal c told runs lines knows =
    let here : get nat_cmp c.args.self.now.opened c.args.id ≡ Some c.in-Some.sent = sym c.open_request.ensures ∙ c.in-Some.is in
    let no : c.in_ok-answer.field-0 ≡ false = search rules in
    refused_answer runs c.args.self.now.files c.args.self.now.opened lines c.args.id c.in-Some.sent c.args.answer here (c.in_ok-answer.ensures.illegal no) knows.known

pub returns-then-not-branch-clause-err : goal.returns-then-not-branch-clause-err
returns-then-not-branch-clause-err c runs lines knows =
    let no : c.in_ok-answer.field-0 ≡ false = search rules in
    logged_still runs c.args.self.now _ lines c.make_room.ensures.items c.answer.ensures.keeps knows
    (known_still runs c.args.self.now.files c.answer.new.self c.args.self.now.opened c.args.self.now.opened lines (c.in_ok-answer.ensures.stays no) (λ id. refl) knows.known)

pub returns-then-not-branch-clause-err_open : goal.returns-then-not-branch-clause-err_open
returns-then-not-branch-clause-err_open c id = refl

pub invariant_of-self-2 : goal.invariant_of-self-2
invariant_of-self-2 c =
    let here : get nat_cmp c.args.self.now.opened c.args.id ≡ Some c.in-Some.sent = sym c.open_request.ensures ∙ c.in-Some.is in
    let yes : c.in_ok-answer.field-0 ≡ true = search rules in
    record {
      known = history_answer c.args.self.now.files c.answer.new.self c.args.self.now.opened c.remove_request.new.opened c.args.id c.in-Some.sent c.args.answer here
          c.answer.ensures.runs (c.in_ok-answer.ensures.legal yes) c.remove_request.ensures c.args.self.now.known;
    }

pub returns-clause-ok : goal.returns-clause-ok
returns-clause-ok c runs lines knows =
    let here : get nat_cmp c.args.self.now.opened c.args.id ≡ Some c.in-Some.sent = sym c.open_request.ensures ∙ c.in-Some.is in
    let yes : c.in_ok-answer.field-0 ≡ true = search rules in
    logged_more runs c.args.self.now _ lines (Answered c.args.id c.args.answer) c.in-Some.sent.file c.make_room.new.line_files.items
    (file_answered runs c.args.self.now lines c.args.id c.in-Some.sent c.args.answer here knows) c.make_room.ensures.items
    (λ keeps. c.log_line.ensures (c.keeps_order-keeps.ensures ∙ keeps)) c.answer.ensures.keeps knows
    (known_answer runs c.args.self.now.files c.answer.new.self c.args.self.now.opened c.remove_request.new.opened lines c.args.id c.in-Some.sent c.args.answer here
    (c.in_ok-answer.ensures.legal yes) c.remove_request.ensures knows.known)

pub returns-clause-open : goal.returns-clause-open
returns-clause-open c = c.remove_request.ensures

pub returns-clause-room : goal.returns-clause-room
returns-clause-room c = c.in_ok-answer.ensures.room

pub returns-clause-unknown : goal.returns-clause-unknown
returns-clause-unknown c =
    let here : get nat_cmp c.args.self.now.opened c.args.id ≡ Some c.in-Some.sent = sym c.open_request.ensures ∙ c.in-Some.is in
    (λ told. cc, λ none. absurd (found_not _ c.in-Some.sent here none))
