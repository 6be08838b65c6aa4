-- The lines that tell a state begin with `#`: for `explanations_are_comments`.
use Rattle.script_core.proofs.Common.{arith, ◌≡◌, ◌==◌, ℕ, Bool, true, false, MatchBool, List, [], ◌∷◌, ◌++◌, flat_map, codes, decimal, refl, sym, subst, append_assoc, common_steps, descriptor_limit, Rules, ProcState, Visit, State, States, StateLine, visit_words, held_text, wait_text, state_word, marked_line, IsStateText, IsChangesText, TellsState}
use Rattle.script_core.specs.declared.states.States.TheVariants as places
use Rattle.script_core.specs.declared.state_lines.Opened.{Opened}
use Rattle.script_core.specs.declared.state_lines.StateLine.TheVariants as lines
use Rattle.script_core.specs.StateText.{state_line_text, opened_text}
use Rattle.script_core.specs.Explaining.{is_comment_line}
use Rattle.script_core.proofs.CommentLaws.{InLine, IsComment, both, number, comment_none, comment_line, comment_both, comment_each, in_access, in_held, in_wait, in_state}

-- what a line of a state tells is one line
record IsOneLine (text : List ℕ) : Type 0 where
  line : List ℕ
  in_line : InLine line
  is : text ≡ line ++ 10 ∷ []

in_opened : (opened : Opened) → InLine (opened_text opened)
in_opened opened = grind (arith, common_steps, both, number, in_access)

in_standing : (p : ℕ) (state : ProcState) → InLine (codes "proc " ++ decimal p ++ codes " " ++ state_word state)
in_standing p state =
    let one = codes "proc " ++ decimal p in
    both (one ++ codes " ") (state_word state) (both one (codes " ") (both (codes "proc ") (decimal p) refl (number p)) refl) (in_state state)

in_descriptor : (p fd : ℕ) (opened : Opened) → InLine (codes "fd " ++ decimal p ++ codes " " ++ decimal fd ++ opened_text opened)
in_descriptor p fd opened =
    let one = codes "fd " ++ decimal p in
    let two = one ++ codes " " ++ decimal fd in
    both two (opened_text opened)
    (both (one ++ codes " ") (decimal fd) (both one (codes " ") (both (codes "fd ") (decimal p) refl (number p)) refl) (number fd)) (in_opened opened)

in_size : (file size : ℕ) → InLine (codes "file " ++ decimal file ++ codes " size " ++ decimal size)
in_size file size =
    let one = codes "file " ++ decimal file in
    both (one ++ codes " size ") (decimal size) (both one (codes " size ") (both (codes "file ") (decimal file) refl (number file)) refl) (number size)

in_shared : (visit : Visit) → InLine (flat_map (λ word. 32 ∷ word) (visit_words visit))
in_shared visit = grind (arith, common_steps)

in_section : (section p : ℕ) (visit : Visit)
    → InLine (codes "section " ++ decimal section ++ codes " process " ++ decimal p ++ flat_map (λ word. 32 ∷ word) (visit_words visit))
in_section section p visit =
    let one = codes "section " ++ decimal section in
    let two = one ++ codes " process " in
    both (two ++ decimal p) (flat_map (λ word. 32 ∷ word) (visit_words visit))
    (both two (decimal p) (both one (codes " process ") (both (codes "section ") (decimal section) refl (number section)) refl) (number p)) (in_shared visit)

one_line : (line : StateLine) → IsOneLine (state_line_text line)
one_line (lines.Held held) = record { line = held_text held; in_line = in_held held; is = refl }
one_line (lines.Waits wait) = record { line = wait_text wait; in_line = in_wait wait; is = refl }
one_line (lines.Process p state) = record { line = codes "proc " ++ decimal p ++ codes " " ++ state_word state; in_line = in_standing p state; is = refl }
one_line (lines.Descriptor p fd opened) = record {
  line = codes "fd " ++ decimal p ++ codes " " ++ decimal fd ++ opened_text opened;
  in_line = in_descriptor p fd opened;
  is = refl;
}
one_line (lines.Section section p visit) = record {
  line = codes "section " ++ decimal section ++ codes " process " ++ decimal p ++ flat_map (λ word. 32 ∷ word) (visit_words visit);
  in_line = in_section section p visit;
  is = refl;
}
one_line (lines.File file size) = record { line = codes "file " ++ decimal file ++ codes " size " ++ decimal size; in_line = in_size file size; is = refl }

-- so behind a mark that begins a comment it is one
comment_marked : (mark : List ℕ) → InLine mark → ((rest : List ℕ) → is_comment_line (mark ++ rest) ≡ true) → (line : StateLine)
    → IsComment (marked_line mark line)
comment_marked mark in_mark begins line =
    let own = one_line line in
    subst (λ (l : List ℕ). IsComment (mark ++ l)) (sym own.is)
    (subst IsComment (append_assoc mark own.line (10 ∷ [])) (comment_line (mark ++ own.line) (both mark own.line in_mark own.in_line) (begins own.line)))

comment_state : (processes descriptors : ℕ) (S : State) (text : List ℕ) → IsStateText processes descriptors S text → IsComment text
comment_state processes descriptors S text h =
    subst IsComment (sym h.2)
    (comment_each (marked_line (codes "# ")) (comment_marked (codes "# ") refl (λ rest. refl)) h.0)

comment_changes : (before after : List StateLine) (text : List ℕ) → IsChangesText before after text → IsComment text
comment_changes before after text h =
    subst IsComment (sym h.4)
    (comment_both (flat_map (marked_line (codes "# - ")) h.0) (flat_map (marked_line (codes "# + ")) h.2) (comment_each (marked_line (codes "# - ")) (comment_marked (codes "# - ") refl (λ rest. refl)) h.0)
    (comment_each (marked_line (codes "# + ")) (comment_marked (codes "# + ") refl (λ rest. refl)) h.2))

comment_where : (told : Bool) (processes descriptors : ℕ) (T : State) (text : List ℕ)
    → MatchBool told (IsStateText processes descriptors T text) (text ≡ []) → IsComment text
comment_where true processes descriptors T text h = comment_state processes descriptors T text h
comment_where false processes descriptors T text h = subst IsComment (sym h) comment_none

pub comment_told : (states : States) (rules : Rules) (processes number : ℕ) (S T : State) (text : List ℕ)
    → TellsState states rules processes number S T text → IsComment text
comment_told places.Nowhere rules processes number S T text h = subst IsComment (sym h) comment_none
comment_told (places.Behind place) rules processes number S T text h =
    comment_where (number == place) processes (descriptor_limit rules.limits) T text h
comment_told places.Everywhere rules processes number S T text h = comment_state processes (descriptor_limit rules.limits) T text h
comment_told places.Changes rules processes number S T text h = comment_changes h.0 h.2 text h.4
