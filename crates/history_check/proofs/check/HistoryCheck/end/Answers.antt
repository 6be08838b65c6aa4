use Rattle.std.proofs.Common.{rules, ◌≡◌, Some, refl, false, true, is_some}
use Rattle.history_check.specs.declared.check.Finding.TheVariants as findings
use Rattle.history_check.specs.Verdicts.{LostWakeUps, history_of}
use Rattle.history_check.specs.Checked.{verdict_in}
use Rattle.history_check.proofs.CheckLemmas.{ends_lost, ends_unasked, ends_waiting, found_sound, is_unfound, judged_at_end, judged_before, limited_at_end, not_told, told_so, sound_at_end}
use Rattle.history_check.proofs.check.HistoryCheck.end.Goals as goal

pub returns-then-is_some-clause-judged : goal.returns-then-is_some-clause-judged
returns-then-is_some-clause-judged c = λ judging bytes short checked.
    let last = c.end_last_line.new.self in
    let found : is_some last.found ≡ true = search rules in
    judged_before judging last bytes found short (c.in_ok-end_last_line.ensures.read judging bytes checked)

pub returns-then-is_some-clause-sound : goal.returns-then-is_some-clause-sound
returns-then-is_some-clause-sound c = λ judging bytes checked.
    let last = c.end_last_line.new.self in
    let found : is_some last.found ≡ true = search rules in
    found_sound judging last last.found found

pub keep_order-requires : goal.keep_order-requires
keep_order-requires c =
    let last = c.end_last_line.new.self in
    let none : is_some last.found ≡ false = search rules in
    is_unfound last none

pub keep_order-requires-2 : goal.keep_order-requires-2
keep_order-requires-2 c =
    let last = c.end_last_line.new.self in
    let none : is_some last.found ≡ false = search rules in
    is_unfound last none

pub returns-then-not-self-clause-judged : goal.returns-then-not-self-clause-judged
returns-then-not-self-clause-judged c = λ judging bytes short checked.
    let last = c.end_last_line.new.self in
    let kept = c.keep_order.new.self in
    let none : is_some last.found ≡ false = search rules in
    let off : last.judging.open_waits ≡ false = search rules in
    judged_at_end judging last kept bytes (verdict_in kept) (is_unfound last none) short refl (c.in_ok-end_last_line.ensures.read judging bytes checked)
    (λ before read. ends_unasked judging last before (verdict_in kept) off (c.in_ok-keep_order.ensures.legal judging before read) read)

pub returns-then-not-self-clause-sound : goal.returns-then-not-self-clause-sound
returns-then-not-self-clause-sound c = λ judging bytes checked.
    let last = c.end_last_line.new.self in
    let none : is_some last.found ≡ false = search rules in
    sound_at_end judging last bytes (verdict_in c.keep_order.new.self) (is_unfound last none) (c.in_ok-end_last_line.ensures.read judging bytes checked)
    (c.in_ok-keep_order.ensures.legal judging)

pub returns-in_err-may_end-clause-limit : goal.returns-in_err-may_end-clause-limit
returns-in_err-may_end-clause-limit c = λ is judging bytes checked.
    let last = c.end_last_line.new.self in
    let none : is_some last.found ≡ false = search rules in
    limited_at_end judging last bytes (is_unfound last none) (c.in_ok-end_last_line.ensures.read judging bytes checked)
    (c.in_err-may_end.ensures.limit (search rules))

pub returns-then-not-branch-clause-judged : goal.returns-then-not-branch-clause-judged
returns-then-not-branch-clause-judged c = λ judging bytes short checked.
    let last = c.end_last_line.new.self in
    let none : is_some last.found ≡ false = search rules in
    let on : last.judging.open_waits ≡ true = search rules in
    let lost : c.in_ok-may_end.field-0 ≡ false = search rules in
    judged_at_end judging last (record last { found = Some findings.LostWakeUps }) bytes (LostWakeUps last.waits.items) (is_unfound last none) short refl
    (c.in_ok-end_last_line.ensures.read judging bytes checked)
    (λ before read.
    ends_lost judging last before on
    (not_told c.in_ok-may_end.field-0 lost (c.in_ok-may_end.ensures.ok judging.runs (history_of before) read.knows)) read)

pub returns-then-not-branch-clause-sound : goal.returns-then-not-branch-clause-sound
returns-then-not-branch-clause-sound c = λ judging bytes checked. tt

pub returns-clause-judged : goal.returns-clause-judged
returns-clause-judged c = λ judging bytes short checked.
    let last = c.end_last_line.new.self in
    let kept = c.keep_order-2.new.self in
    let none : is_some last.found ≡ false = search rules in
    let on : last.judging.open_waits ≡ true = search rules in
    let may : c.in_ok-may_end.field-0 ≡ true = search rules in
    judged_at_end judging last kept bytes (verdict_in kept) (is_unfound last none) short refl (c.in_ok-end_last_line.ensures.read judging bytes checked)
    (λ before read.
    ends_waiting judging last before (verdict_in kept) on
    (told_so c.in_ok-may_end.field-0 may (c.in_ok-may_end.ensures.ok judging.runs (history_of before) read.knows))
    (c.in_ok-keep_order-2.ensures.legal judging before read) read)

pub returns-clause-sound : goal.returns-clause-sound
returns-clause-sound c = λ judging bytes checked.
    let last = c.end_last_line.new.self in
    let none : is_some last.found ≡ false = search rules in
    sound_at_end judging last bytes (verdict_in c.keep_order-2.new.self) (is_unfound last none) (c.in_ok-end_last_line.ensures.read judging bytes checked)
    (c.in_ok-keep_order-2.ensures.legal judging)
