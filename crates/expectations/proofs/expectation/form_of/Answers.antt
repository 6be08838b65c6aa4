use Rattle.std.proofs.Common.{◌≡◌, ◌∙◌, ◌-◌, ◌∷◌, ℕ, Bor, List, [], ap, codes, drop, get_or, length, sym, take}
use Rattle.std.proofs.lemmas.Slice.Eq.{bytes_eq-Decides}
use Rattle.script_core.specs.Words.{texts}
use Rattle.expectations.proofs.WordLemmas.{first_word}
use Rattle.expectations.proofs.expectation.form_of.Goals as goal

pub returns-then-begins_report_line-2 : goal.returns-then-begins_report_line-2
returns-then-begins_report_line-2 c =
    let words = c.args.words.now in
    let d : Bor (List ℕ) = record { ref_ptr = (0, 0); now = [] } in
    let no : (get_or words 0 d).now ≡ codes "no" = (bytes_eq-Decides (get_or words 0 d).now (codes "no")).0 (sym c.eq.ensures ∙ c.if-eq.true) in (
      first_word words d c.in-len1-up.len_at_least
          ∙ ap (λ (word : List ℕ). word ∷ texts (take (length words - 1) (drop 1 words))) no,
      sym c.begins_report_line-then-eq.ensures ∙ c.if-begins_report_line-2.true,
    )
