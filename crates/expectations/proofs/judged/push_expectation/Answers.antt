use Rattle.std.proofs.Common.{◌≡◌, ◌∙◌, ◌-◌, ◌++◌, ℕ, true, false, inr, Option, List, ap, drop, length, refl, subst, sym, take}
use Rattle.std.specs.Prelude.{MatchOption}
use Rattle.std.specs.declared.alloc.Global.{Global}
use Rattle.std.specs.declared.vec.Vec.{Vec}
use Rattle.fd_table.specs.declared.Limits.{Limits}
use Rattle.session_core.specs.Event.{Event}
use Rattle.session_core.specs.SessionView.{events_in}
use Rattle.script_core.specs.ScriptText.{Meaning}
use Rattle.script_core.specs.Words.{texts}
use Rattle.expectations.specs.Expectations.{Expected, Says, is_met, seen_in, told_of, words_behind}
use Rattle.expectations.proofs.ExpectationLemmas.{tells, told_met, told_unmet}
use Rattle.expectations.proofs.WordLemmas.{behind_two}
use Rattle.expectations.proofs.judged.push_expectation.Goals as goal

-- what the words say, or that they say nothing
abbrev Read : Limits → List (List ℕ) → Option Expected → Type 0
Read limits words said = MatchOption said ((expected : Expected) → ¬ Says limits words expected) (Says limits words)

-- what was seen, or that it is met
abbrev Seen : Option (Vec ℕ Global) → Expected → List Event → List ℕ → Type 0
Seen told expected journal report =
    MatchOption told (is_met expected journal report ≡ true) (λ text. (is_met expected journal report ≡ false) × (text.items ≡ seen_in expected journal))

pub returns-in_default-clause-fault : goal.returns-in_default-clause-fault
returns-in_default-clause-fault c =
    let line = c.args.line.now in
    let script : Meaning = c.in_ok-script.script in
    let own = c.script.inside.rules.limits in
    let limits : own ≡ script.rules.limits = ap (λ (m : Meaning). m.rules.limits) c.script.view_is in
    let all = c.deref.result.now in
    let words = texts (take (length all - 2) (drop 2 all)) in
    let behind : words ≡ words_behind line =
    behind_two all ∙ ap (λ (l : List (List ℕ)). drop 2 l) (ap texts c.deref.ensures.value ∙ c.in_ok-words.ensures) in
    let none = subst (Read own words) c.in_default.is c.in_ok-expectation.ensures in
    inr (
      record {
        is = c.requires.is;
        script = script;
        accepted = record { bytes = c.args.bytes.now; is = refl; accepted = c.in_ok-script.ensures.accepted };
        unsaid = λ expected says.
            none expected
            (subst (λ (l : Limits). Says l words expected) (sym limits) (subst (λ (w : List (List ℕ)). Says script.rules.limits w expected) (sym behind) says));
      },
      refl,
    )

pub returns-in-Some-2-clause-told : goal.returns-in-Some-2-clause-told
returns-in-Some-2-clause-told c =
    let line = c.args.line.now in
    let script : Meaning = c.in_ok-script.script in
    let own = c.script.inside.rules.limits in
    let limits : own ≡ script.rules.limits = ap (λ (m : Meaning). m.rules.limits) c.script.view_is in
    let all = c.deref.result.now in
    let words = texts (take (length all - 2) (drop 2 all)) in
    let behind : words ≡ words_behind line =
    behind_two all ∙ ap (λ (l : List (List ℕ)). drop 2 l) (ap texts c.deref.ensures.value ∙ c.in_ok-words.ensures) in
    let expected : Expected = c.in-Some.expectation in
    let says : Says own words expected = subst (Read own words) c.in-Some.is c.in_ok-expectation.ensures in
    let journal = events_in c.in_ok-run.run'.session in
    let report = c.in_ok-run.run'.report.items in
    let seen : Seen c.in_ok-seen.field-0 expected journal report =
    subst (λ (l : List ℕ). Seen c.in_ok-seen.field-0 expected journal l) c.deref-2.ensures.value
    (subst (λ (j : List Event). Seen c.in_ok-seen.field-0 expected j c.deref-2.result.now) c.journal.ensures.events c.in_ok-seen.ensures) in
    let unmet = subst (λ (told : Option (Vec ℕ Global)). Seen told expected journal report) c.in-Some-2.is seen in (
      told_of c.args.number expected journal report,
      tells c.args.bytes.now line c.args.number script expected journal report c.requires.number c.in_ok-script.ensures.accepted
          (subst (λ (l : Limits). Says l (words_behind line) expected) limits (subst (λ (w : List (List ℕ)). Says own w expected) behind says))
          c.in_ok-run.ensures,
      c.in_ok-push_unmet-in-Some-2.ensures
          ∙ ap (λ (l : List ℕ). c.args.told.now.items ++ l)
          (told_unmet c.args.number expected journal report c.deref-in-Some-2.result.now unmet.0 (c.deref-in-Some-2.ensures.value ∙ unmet.1)),
    )

pub returns-clause-told : goal.returns-clause-told
returns-clause-told c =
    let line = c.args.line.now in
    let script : Meaning = c.in_ok-script.script in
    let own = c.script.inside.rules.limits in
    let limits : own ≡ script.rules.limits = ap (λ (m : Meaning). m.rules.limits) c.script.view_is in
    let all = c.deref.result.now in
    let words = texts (take (length all - 2) (drop 2 all)) in
    let behind : words ≡ words_behind line =
    behind_two all ∙ ap (λ (l : List (List ℕ)). drop 2 l) (ap texts c.deref.ensures.value ∙ c.in_ok-words.ensures) in
    let expected : Expected = c.in-Some.expectation in
    let says : Says own words expected = subst (Read own words) c.in-Some.is c.in_ok-expectation.ensures in
    let journal = events_in c.in_ok-run.run'.session in
    let report = c.in_ok-run.run'.report.items in
    let seen : Seen c.in_ok-seen.field-0 expected journal report =
    subst (λ (l : List ℕ). Seen c.in_ok-seen.field-0 expected journal l) c.deref-2.ensures.value
    (subst (λ (j : List Event). Seen c.in_ok-seen.field-0 expected j c.deref-2.result.now) c.journal.ensures.events c.in_ok-seen.ensures) in
    let met = subst (λ (told : Option (Vec ℕ Global)). Seen told expected journal report) c.in-None.is seen in (
      told_of c.args.number expected journal report,
      tells c.args.bytes.now line c.args.number script expected journal report c.requires.number c.in_ok-script.ensures.accepted
          (subst (λ (l : Limits). Says l (words_behind line) expected) limits (subst (λ (w : List (List ℕ)). Says own w expected) behind says))
          c.in_ok-run.ensures,
      told_met c.args.number expected journal report c.args.told.now.items met,
    )
