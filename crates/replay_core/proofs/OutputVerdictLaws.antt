-- An output is judged legal: for `outputs_are_judged_legal`.
use Rattle.replay_core.proofs.Common.{common_steps, rules, ◌≡◌, ◌≤◌, ℕ, ◌==◌, true, false, ◌&&◌, List, [], ◌∷◌, ◌++◌, length, length-append, Ok, inl, inr, refl, sym, subst, arith, Some, None, Rules, lines_of, journal_start, journal_limit}
use Rattle.std.proofs.Common.{Bool, not, codes}
use Rattle.std.specs.List.{AllByRecursion as Each, list_all}
use Rattle.std.proofs.lemmas.Bool.{le-ltb}
use Rattle.std.proofs.lemmas.List.Elements.{All-from_recursion}
use Rattle.fd_table.specs.declared.Limits.{Limits}
use Rattle.fd_table.specs.declared.Limits.TheVariants.{Small, Wide}
use Rattle.wait_core.specs.declared.Policy.{Policy}
use Rattle.wait_core.specs.declared.Policy.TheVariants.{Held, Queue}
use Rattle.script_core.specs.declared.header.Header.{Header}
use Rattle.script_core.specs.declared.place.Stage.TheVariants as stages
use Rattle.script_core.specs.declared.place.Place.{Place}
use Rattle.script_core.specs.declared.place.JournalLine.TheVariants as lines
use Rattle.script_core.specs.HeaderText.{policy_word, limits_word}
use Rattle.script_core.specs.JournalReading.{JournalGives, JournalLineGives, opening_place}
use Rattle.script_core.specs.JournalReading as journals
use Rattle.script_core.specs.Output.{OutputsAreShort, output_limit}
use Rattle.script_core.specs.OutputReading.{OutputsAreLegal}
use Rattle.replay_core.specs.Checks.{JournalComes, Legal, OutputsAreJudgedLegal, header_lines}
use Rattle.replay_core.proofs.CheckingLemmas.{InLine, lines_first}
use Rattle.replay_core.proofs.VerdictLaws.{legal_of}

-- lines that are legal from the first on are judged so, where they aren't too long
judged : (text : List ℕ) → length text ≤ journal_limit → JournalGives 1 journal_start (lines_of text) journals.Legal → JournalComes text Legal
judged text short gives = rw (le-ltb journal_limit (length text) short) (legal_of 1 journal_start (lines_of text) gives)

-- ---- header lines

each_tested : (bytes : List ℕ) → list_all (λ byte. not (byte == 10)) bytes ≡ true → Each (λ byte. (byte == 10) ≡ false) bytes
each_tested [] tested = tt
each_tested (byte ∷ bytes) tested = (first (byte == 10) (list_all (λ b. not (b == 10)) bytes) tested, each_tested bytes (later (byte == 10) (list_all (λ b. not (b == 10)) bytes) tested))
  where
    first : (ends others : Bool) → not ends && others ≡ true → ends ≡ false
    first true others is = absurd (let bad : false ≡ true = is in cc)
    first false others is = refl

    later : (ends others : Bool) → not ends && others ≡ true → others ≡ true
    later true others is = absurd (let bad : false ≡ true = is in cc)
    later false others is = is

tested_line : (bytes : List ℕ) → list_all (λ byte. not (byte == 10)) bytes ≡ true → InLine bytes
tested_line bytes tested = All-from_recursion (λ (byte : ℕ). (byte == 10) ≡ false) bytes (each_tested bytes tested)

policy_in_line : (policy : Policy) → InLine (codes "policy " ++ policy_word policy)
policy_in_line Held = tested_line (codes "policy held") refl
policy_in_line Queue = tested_line (codes "policy queue") refl

limits_in_line : (limits : Limits) → InLine (codes "limits " ++ limits_word limits)
limits_in_line Small = tested_line (codes "limits small") refl
limits_in_line Wide = tested_line (codes "limits wide") refl

-- what a header line says that says the policy, and the place behind it
abbrev with_policy : Policy → Header
with_policy policy = record { policy = Some policy; limits = None }

abbrev behind : Header → Place
behind header = record { header = header; stage = stages.Header }

policy_line : (policy : Policy) → JournalLineGives opening_place (codes "policy " ++ policy_word policy) (Ok (lines.Header (with_policy policy)))
policy_line Held = (Ok (Some (lines.Header (with_policy Held))), inr (Held, refl, refl), refl)
policy_line Queue = (Ok (Some (lines.Header (with_policy Queue))), inr (Queue, refl, refl), refl)

-- what both header lines say
abbrev with_both : Policy → Limits → Header
with_both policy limits = record { policy = Some policy; limits = Some limits }

limits_line : (policy : Policy) (limits : Limits)
    → JournalLineGives (behind (with_policy policy)) (codes "limits " ++ limits_word limits) (Ok (lines.Header (with_both policy limits)))
limits_line policy Small = (Ok (Some (lines.Header (with_both policy Small))), inr (Small, refl, refl), refl)
limits_line policy Wide = (Ok (Some (lines.Header (with_both policy Wide))), inr (Wide, refl, refl), refl)

headed_lines : (policy : Policy) (limits : Limits) (text : List ℕ)
    → lines_of (header_lines (record { policy = policy; limits = limits }) ++ text)
    ≡ (codes "policy " ++ policy_word policy) ∷ (codes "limits " ++ limits_word limits) ∷ lines_of text
headed_lines policy limits text = grind (arith, common_steps, lines_first, policy_in_line, limits_in_line)

-- the header lines are as short as this
header_length : (policy : Policy) (limits : Limits) → length (header_lines (record { policy = policy; limits = limits })) ≤ 26
header_length policy limits = grind (arith, common_steps)

-- ---- outputs

-- an output is no longer than a journal may be, also behind header lines
plain_short : (text : List ℕ) → length text ≤ output_limit → length text ≤ journal_limit
plain_short text short = omega (arith, short)

headed_short : (rules : Rules) (text : List ℕ) → length text ≤ output_limit → length (header_lines rules ++ text) ≤ journal_limit
headed_short rules text short = grind (arith, common_steps, header_length, length-append)

pub outputs_judged : OutputsAreLegal → OutputsAreShort → OutputsAreJudgedLegal
outputs_judged outputs short = record {
  plain = λ bytes text output plain. judged text (plain_short text (short bytes text output)) (outputs bytes text output 1 opening_place tt (sym plain));
  headed = λ bytes text output.
      let rules = output.script.rules in
      let all = with_both rules.policy rules.limits in
      judged (header_lines rules ++ text) (headed_short rules text (short bytes text output))
      (subst (λ (l : List (List ℕ)). JournalGives 1 journal_start l journals.Legal) (sym (headed_lines rules.policy rules.limits text)) (
        Ok (lines.Header (with_policy rules.policy)),
        policy_line rules.policy,
        inl (tt, (Ok (lines.Header all), limits_line rules.policy rules.limits, inl (tt, outputs bytes text output 3 (behind all) tt refl))),
      ));
}
