-- Any tables stand for some descriptors, so no clause that speaks of those is empty: for `tables_stand_for_some`.
use Rattle.fd_table.proofs.Common.{common_steps, rules, ◌≡◌, ℕ, zero, suc, ◌+◌, ◌<◌, ◌≤◌, cond, eqb, List, [], ◌∷◌, ◌++◌, length, get_or, Option, Some, None, refl, sym, subst, ◌∙◌, inl, inr, arith, option_map, cases_eq, cases_lt, eq-eqb, ne_eqb, same_Some, none-some, Opened, Descriptors, description_numbered, numbered, StandFor, view_of}
use Rattle.std.proofs.lemmas.List.{length-append}
use Rattle.fd_table.specs.declared.Access.TheVariants.{R}
use Rattle.fd_table.specs.declared.tables.Tables.{Tables}
use Rattle.fd_table.specs.Descriptors.{OpenFileDescription}
use Rattle.fd_table.proofs.ViewLemmas.{numbered_kept, numbered_push}
use Rattle.fd_table.proofs.ChangeLemmas.{entry_seen}

-- the description of the first entry with the number, and where there is none one that nobody can see
found : List (Option Opened) → ℕ → OpenFileDescription
found [] number = record { file = 0; access = R; offset = 0 }
found (None ∷ slots) number = found slots number
found (Some entry ∷ slots) number = cond (eqb entry.number number) (numbered entry).description (found slots number)

-- no two entries have one number
abbrev AreApart : List (Option Opened) → Type 0
AreApart slots = (key other : ℕ) (entry another : Opened) → get_or slots key None ≡ Some entry → get_or slots other None ≡ Some another
    → entry.number ≡ another.number → key ≡ other

later_apart : (slot : Option Opened) (slots : List (Option Opened)) → AreApart (slot ∷ slots) → AreApart slots
later_apart slot slots apart key other entry another is at same =
    omega (arith, apart (suc key) (suc other) entry another is at same)

-- each entry is the one that is found by its number
found_entry : (slots : List (Option Opened)) (key : ℕ) (entry : Opened) → AreApart slots → get_or slots key None ≡ Some entry
    → found slots entry.number ≡ (numbered entry).description
unfolding found
found_entry [] key entry apart is = absurd (none-some entry is)
found_entry (None ∷ slots) zero entry apart is = absurd (none-some entry is)
found_entry (None ∷ slots) (suc key) entry apart is = found_entry slots key entry (later_apart None slots apart) is
found_entry (Some first ∷ slots) zero entry apart is = grind (arith, common_steps, same_Some, found, eq-eqb)
found_entry (Some first ∷ slots) (suc key) entry apart is =
    elim (cases_eq first.number entry.number) [
      | inl same ↦ absurd (omega (arith, apart zero (suc key) first entry refl is same))
      | inr differs ↦ grind (arith, common_steps, found, ne_eqb, later_apart, found_entry slots key entry (later_apart (Some first) slots apart) is)
    ]

-- a description for each number that was given out
given_out : List (Option Opened) → ℕ → List OpenFileDescription
given_out slots zero = []
given_out slots (suc made) = given_out slots made ++ found slots (suc made) ∷ []

length-given_out : (slots : List (Option Opened)) (made : ℕ) → length (given_out slots made) ≡ made
unfolding given_out
length-given_out slots zero = refl
length-given_out slots (suc made) =
    omega (arith, length-append (given_out slots made) (found slots (suc made) ∷ []), length-given_out slots made)

numbered-given_out : (slots : List (Option Opened)) (made number : ℕ) → 0 < number → number ≤ made
    → description_numbered (given_out slots made) number ≡ Some (found slots number)
unfolding given_out
numbered-given_out slots zero number positive within = absurd (omega arith)
numbered-given_out slots (suc made) number positive within =
    elim (cases_lt made number) [
      | inl last ↦
          let is : length (given_out slots made) + 1 ≡ number = omega (arith, length-given_out slots made) in
          let same : suc made ≡ number = omega arith in
          subst (λ n. description_numbered (given_out slots (suc made)) n ≡ Some (found slots n)) same
          (subst (λ n. description_numbered (given_out slots (suc made)) n ≡ Some (found slots (suc made))) (is ∙ sym same) (numbered_push (given_out slots made) (found slots (suc made))))
      | inr before ↦ numbered_kept (given_out slots made) (found slots (suc made) ∷ []) number (found slots number) (numbered-given_out slots made number positive before)
    ]

-- descriptors that the tables stand for: the descriptions that nobody can see are of file 0
pub stood_for : Tables → Descriptors
stood_for tables =
    record {
      description_of = λ p fd. option_map (λ seen. seen.number) ((view_of tables).seen p fd);
      descriptions = given_out tables.opened.slots tables.made;
      sizes = (view_of tables).sizes;
      ever_alive = (view_of tables).born;
    }

-- any tables stand for some descriptors
pub stand_for_some : (tables : Tables) → StandFor tables (stood_for tables)
unfolding stood_for view_of
stand_for_some tables = search (rules, length-given_out, stood_for, entry_seen, given_out, numbered-given_out, found_entry)
