-- What was never taken, process by process: for `write_untaken`, clause `ok`.
use Rattle.script_core.proofs.Common.{common_steps, ℕ, zero, suc, ◌≡◌, ◌+◌, ◌-◌, ◌<◌, ◌≤◌, Some, None, List, [], ◌∷◌, ◌++◌, length, refl, sym, ap, ◌∙◌, arith, append_assoc, append-nil, add-one, codes, decimal, slice_index, ProcState, Event, ProcessLine, tag, AreCounts, line_of, more_text, untaken_line, untaken_lines}
use Rattle.script_core.specs.Explaining.{untaken_reason}

-- of one request and more
pub never_taken_more : (line : ProcessLine) (reason : List ℕ) → line.taken < line.sent → untaken_reason line.state ≡ Some reason
    → untaken_line line
    ≡ codes "# " ++ tag line.p (line.taken + 1) ++ more_text (line.sent - line.taken - 1) ++ codes " never taken: process " ++ decimal line.p ++ reason ++ 10 ∷ []
never_taken_more line reason less is = by_count (line.sent - line.taken) refl
  where
    by_count : (count : ℕ) → line.sent - line.taken ≡ count → untaken_line line
        ≡ codes "# " ++ tag line.p (line.taken + 1) ++ more_text (line.sent - line.taken - 1) ++ codes " never taken: process " ++ decimal line.p ++ reason ++ 10 ∷ []
    by_count zero none = absurd (omega (arith, none, less))
    by_count (suc more) some = grind (arith, common_steps)

-- of none there is no line
pub all_taken : (line : ProcessLine) → line.sent ≤ line.taken → untaken_line line ≡ []
all_taken line few = let none : line.sent - line.taken ≡ 0 = omega (arith, few) in grind (arith, common_steps)

-- of a process that lives neither
pub none_left : (line : ProcessLine) → untaken_reason line.state ≡ None → untaken_line line ≡ []
none_left line none = grind (arith, common_steps)

untaken_lines-more : (states : ℕ → ProcState) (events : List Event) (sent : ℕ → ℕ) (p n : ℕ)
    → untaken_lines states events sent p (suc n) ≡ untaken_lines states events sent p n ++ untaken_line (line_of states events sent (p + n))
unfolding untaken_lines
untaken_lines-more states events sent p zero =
    let here : p + 0 ≡ p = omega arith in
    rw here (append-nil (untaken_line (line_of states events sent p)))
untaken_lines-more states events sent p (suc n) = grind (arith, common_steps, append_assoc, untaken_lines-more states events sent (p + 1) n)

-- the lines of so many processes, and of one more, whose count stands at its place
pub more_untaken : (states : ℕ → ProcState) (events : List Event) (counts : List ℕ) (sent : ℕ → ℕ) (old before after : List ℕ) (index count : ℕ)
    → AreCounts counts sent → index < length counts → slice_index counts index ≡ count
    → before ≡ old ++ untaken_lines states events sent 1 index
    → after ≡ before ++ untaken_line (line_of states events (λ q. count) (index + 1))
    → after ≡ old ++ untaken_lines states events sent 1 (index + 1)
more_untaken states events counts sent old before after index count are within at was is =
    let place : index + 1 - 1 ≡ index = omega arith in
    let same : count ≡ sent (index + 1) = sym at ∙ ap (slice_index counts) (sym place) ∙ are (index + 1) (omega arith) (omega arith) in
    let next : index + 1 ≡ 1 + index = omega arith in
    let lines = untaken_lines states events sent 1 index in
    is
    ∙ ap (λ l. l ++ untaken_line (line_of states events (λ q. count) (index + 1))) was
    ∙ append_assoc old lines (untaken_line (line_of states events (λ q. count) (index + 1)))
    ∙ ap (λ n. old ++ (lines ++ untaken_line (line_of states events (λ q. n) (index + 1)))) same
    ∙ ap (λ q. old ++ (lines ++ untaken_line (line_of states events sent q))) next
    ∙ ap (λ l. old ++ l) (sym (untaken_lines-more states events sent 1 index))
    ∙ ap (λ n. old ++ untaken_lines states events sent 1 n) (sym (add-one index))

-- no lines of no processes
pub no_untaken : (states : ℕ → ProcState) (events : List Event) (sent : ℕ → ℕ) (old : List ℕ) → old ≡ old ++ untaken_lines states events sent 1 0
unfolding untaken_lines
no_untaken states events sent old = sym (append-nil old)
