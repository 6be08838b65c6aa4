-- Which lines begin with `#` and which don't, and which texts go with the lines that do: for `explanations_are_comments`.
use Rattle.script_core.proofs.Common.{common_steps, rules, ℕ, zero, suc, ◌≡◌, ◌+◌, ◌-◌, ◌==◌, Bool, true, false, not, ◌&&◌, cond, if◌then◌else◌, Option, Some, None, List, [], ◌∷◌, ◌++◌, flat_map, codes, decimal, ℤ, refl, sym, ap, subst, ◌∙◌, arith, append_assoc, inl, inr, list_all, slice_split, join_with_byte, signed_decimal, digits, cases_Bool, nat_tests}
use Rattle.script_core.proofs.Common.{Mode, Kind, Whence, Owner, Held, Access, Family, Wait, Rules, LkCmd, FlockOp, Reply, Note, InTheWay, ProcState, Request, Visit, State, Visits, is_together, Event, ProcessLine, lines_of, without_empty_end, access_word, mode_word, kind_word, whence_word, op_word, lock_command_word, pid_words, nb_words, visit_words, request_text, reply_words, tag, note_text, entry_text, entry_line, held_text, held_line, wait_line, state_word, counts_text, reported_line, process_lines, line_of, IsReport, Link, step_text, next_step_text, lost, together_line, together_lines, obstacle_line, deadlock_line, loss_lines, Explains, more_text, untaken_line, untaken_lines}
use Rattle.std.proofs.Common.{◌/◌, ◌%◌}
use Rattle.std.specs.Fmt.{digits_onto, digit_glyph}
use Rattle.std.proofs.lemmas.List.Folds.{list_all-append}
use Rattle.lock_manager.specs.declared.request.InTheWay.TheVariants as obstacles
use Rattle.script_core.specs.ReportText.{owner_text, flock_word, wanted_text, process_line}
use Rattle.script_core.specs.Deadlocks.{first_step_text}
use Rattle.script_core.specs.Explaining.{comment, entered_lines, lines_together, is_done, loss_line, ended_line, ended_wait, untaken_reason, never_taken_line, is_comment_line, without_comments}

-- no byte ends a line
abbrev pub goes_on : ℕ → Bool
goes_on byte = not (byte == 10)

abbrev pub InLine : List ℕ → Type 0
InLine bytes = list_all goes_on bytes ≡ true

pub both : (one other : List ℕ) → InLine one → InLine other → InLine (one ++ other)
both one other h k = list_all-append goes_on one other ∙ ap (λ b. b && list_all goes_on other) h ∙ k

-- a line is the first, where others follow
split_end : (line rest : List ℕ) → InLine line → slice_split (λ byte. byte == 10) (line ++ 10 ∷ rest) ≡ line ∷ slice_split (λ byte. byte == 10) rest
split_end [] rest is = refl
split_end (byte ∷ line) rest is = grind (arith, common_steps, split_end line)

-- what is split has a piece
piece_first : (bytes : List ℕ) → (piece : List ℕ) × (pieces : List (List ℕ)) × (slice_split (λ byte. byte == 10) bytes ≡ piece ∷ pieces)
piece_first [] = ([], [], refl)
piece_first (byte ∷ bytes) =
    let rest = piece_first bytes in
    elim (cases_Bool (byte == 10)) [
      | inl ends ↦ ([], slice_split (λ b. b == 10) bytes, rw ends refl)
      | inr goes ↦ (byte ∷ rest.0, rest.1, rw (goes, rest.2) refl)
    ]

keeps_first : (line piece : List ℕ) (pieces : List (List ℕ)) → without_empty_end (line ∷ piece ∷ pieces) ≡ line ∷ without_empty_end (piece ∷ pieces)
keeps_first line piece pieces = grind (arith, common_steps)

pub lines_first : (line rest : List ℕ) → InLine line → lines_of (line ++ 10 ∷ rest) ≡ line ∷ lines_of rest
lines_first line rest is =
    let next = piece_first rest in
    ap without_empty_end (split_end line rest is ∙ ap (λ (l : List (List ℕ)). line ∷ l) next.2)
    ∙ keeps_first line next.0 next.1 ∙ ap (λ (l : List (List ℕ)). line ∷ without_empty_end l) (sym next.2)

-- the text stays, whatever follows it
abbrev IsPlain : List ℕ → Type 0
IsPlain text = (rest : List ℕ) → without_comments (text ++ rest) ≡ text ++ without_comments rest

-- the text goes, whatever follows it
abbrev pub IsComment : List ℕ → Type 0
IsComment text = (rest : List ℕ) → without_comments (text ++ rest) ≡ without_comments rest

abbrev pub ended : List ℕ → List ℕ
ended line = line ++ 10 ∷ []

plain_line : (line : List ℕ) → InLine line → is_comment_line line ≡ false → IsPlain (ended line)
plain_line line is plain rest = grind (arith, common_steps, append_assoc, lines_first)

pub comment_line : (line : List ℕ) → InLine line → is_comment_line line ≡ true → IsComment (ended line)
comment_line line is begins rest = grind (arith, common_steps, append_assoc, lines_first)

plain_none : IsPlain []
plain_none rest = refl

plain_both : (one other : List ℕ) → IsPlain one → IsPlain other → IsPlain (one ++ other)
plain_both one other h k rest = grind (arith, common_steps, append_assoc)

pub comment_none : IsComment []
comment_none rest = refl

pub comment_both : (one other : List ℕ) → IsComment one → IsComment other → IsComment (one ++ other)
comment_both one other h k rest = ap without_comments (append_assoc one other rest) ∙ h (other ++ rest) ∙ k rest

plain_each : {X : Type 0} (f : X → List ℕ) → ((x : X) → IsPlain (f x)) → (xs : List X) → IsPlain (flat_map f xs)
plain_each f each [] = plain_none
plain_each f each (x ∷ xs) = plain_both (f x) (flat_map f xs) (each x) (plain_each f each xs)

pub comment_each : {X : Type 0} (f : X → List ℕ) → ((x : X) → IsComment (f x)) → (xs : List X) → IsComment (flat_map f xs)
comment_each f each [] = comment_none
comment_each f each (x ∷ xs) = comment_both (f x) (flat_map f xs) (each x) (comment_each f each xs)

-- numbers
glyph_on : (n : ℕ) → goes_on (digit_glyph false (n % 10)) ≡ true
glyph_on n = grind (arith, common_steps, nat_tests)

digits_on : (k n : ℕ) (behind : List ℕ) → InLine behind → InLine (digits_onto k 10 false n behind)
digits_on zero n behind is = is
digits_on (suc k) n behind is = grind (arith, common_steps, glyph_on, digits_on k)

pub number : (n : ℕ) → InLine (decimal n)
unfolding digits
number n = digits_on 64 n [] refl

integer : (z : ℤ) → InLine (signed_decimal z)
integer z = grind (arith, common_steps, number)

-- a number begins with a digit
abbrev Starts : List ℕ → Type 0
Starts bytes = (byte : ℕ) × (rest : List ℕ) × (bytes ≡ byte ∷ rest) × ((byte == 35) ≡ false)

starts_glyph : (n : ℕ) (behind : List ℕ) → Starts (digit_glyph false (n % 10) ∷ behind)
starts_glyph n behind = grind (arith, common_steps, nat_tests)

starts_digits : (k n : ℕ) (behind : List ℕ) → Starts behind → Starts (digits_onto k 10 false n behind)
starts_digits zero n behind h = h
starts_digits (suc k) n behind h =
    let glyph = digit_glyph false (n % 10) in
    elim (n / 10 == 0) as (λ last. Starts (cond last (glyph ∷ behind) (digits_onto k 10 false (n / 10) (glyph ∷ behind)))) [
      | true ↦ starts_glyph n behind
      | false ↦ starts_digits k (n / 10) (glyph ∷ behind) (starts_glyph n behind)
    ]

starts_first : (k n : ℕ) → Starts (digits_onto (suc k) 10 false n [])
starts_first k n =
    let glyph = digit_glyph false (n % 10) in
    elim (n / 10 == 0) as (λ last. Starts (cond last (glyph ∷ []) (digits_onto k 10 false (n / 10) (glyph ∷ [])))) [
      | true ↦ starts_glyph n []
      | false ↦ starts_digits k (n / 10) (glyph ∷ []) (starts_glyph n [])
    ]

starts_number : (n : ℕ) → Starts (decimal n)
unfolding digits
starts_number n = starts_first 63 n

starts_both : (one other : List ℕ) → Starts one → Starts (one ++ other)
starts_both one other h = (h.0, h.1 ++ other, ap (λ (l : List ℕ). l ++ other) h.2, h.3)

starts_plain : (line : List ℕ) → Starts line → is_comment_line line ≡ false
starts_plain line h = ap is_comment_line h.2 ∙ h.3

-- words
abbrev InWords : List (List ℕ) → Type 0
InWords [] = Unit {0}
InWords (word ∷ words) = InLine word × InWords words

words_both : (one other : List (List ℕ)) → InWords one → InWords other → InWords (one ++ other)
words_both [] other h k = k
words_both (word ∷ one) other h k = (h.0, words_both one other h.1 k)

joined : (words : List (List ℕ)) → InWords words → InLine (join_with_byte 32 words)
joined [] h = refl
joined (word ∷ []) h = h.0
joined (word ∷ next ∷ words) h = both word (32 ∷ join_with_byte 32 (next ∷ words)) h.0 (joined (next ∷ words) h.1)

pub in_access : (access : Access) → InLine (access_word access)
in_access access = grind (arith, common_steps)

in_mode : (mode : Mode) → InLine (mode_word mode)
in_mode mode = grind (arith, common_steps)

in_kind : (kind : Kind) → InLine (kind_word kind)
in_kind kind = grind (arith, common_steps)

in_whence : (whence : Whence) → InLine (whence_word whence)
in_whence whence = grind (arith, common_steps)

in_op : (op : FlockOp) → InLine (op_word op)
in_op op = grind (arith, common_steps)

in_command : (cmd : LkCmd) → InLine (lock_command_word cmd)
in_command cmd = grind (arith, common_steps)

in_pid : (pid : ℤ) → InWords (pid_words pid)
in_pid pid = grind (arith, common_steps, number)

in_nb : (nb : Bool) → InWords (nb_words nb)
in_nb nb = grind (arith, common_steps)

in_visit : (visit : Visit) → InWords (visit_words visit)
in_visit visit = grind (arith, common_steps)

in_reply : (reply : Reply) → InWords (reply_words reply)
in_reply reply = grind (arith, common_steps, number)

-- entries
in_tag : (p n : ℕ) → InLine (tag p n)
in_tag p n = both (decimal p ++ codes "#") (decimal n) (both (decimal p) (codes "#") (number p) refl) (number n)

in_note : (note : Note) → InLine (note_text note)
in_note note = grind (arith, common_steps, both, in_tag, joined, in_reply)

in_notes : (notes : List Note) → InLine (flat_map note_text notes)
in_notes [] = refl
in_notes (note ∷ notes) = both (note_text note) (flat_map note_text notes) (in_note note) (in_notes notes)

in_entry : (event : Event) → InLine (entry_text event)
in_entry event =
    grind (arith, common_steps, both, in_tag, joined, number, in_access, integer, in_command, words_both, in_kind, in_whence, in_pid, in_op, in_nb, in_visit, in_notes)

starts_entry : (event : Event) → Starts (entry_text event)
starts_entry event =
    let p = decimal event.p in
    let tagged = starts_both (p ++ codes "#") (decimal event.n) (starts_both p (codes "#") (starts_number event.p)) in
    starts_both (tag event.p event.n ++ codes " " ++ request_text event.request) (flat_map note_text event.notes)
    (starts_both (tag event.p event.n ++ codes " ") (request_text event.request) (starts_both (tag event.p event.n) (codes " ") tagged))

pub plain_entry : (event : Event) → IsPlain (entry_line event)
plain_entry event = plain_line (entry_text event) (in_entry event) (starts_plain (entry_text event) (starts_entry event))

-- the report
in_owner : (owner : Owner) → InLine (owner_text owner)
in_owner owner = grind (arith, common_steps, number)

in_flock_word : (mode : Mode) → InLine (flock_word mode)
in_flock_word mode = grind (arith, common_steps)

pub in_held : (held : Held) → InLine (held_text held)
in_held held = search (rules, both, number, in_owner, in_flock_word, in_mode)

plain_held : (held : Held) → IsPlain (held_line held)
plain_held held = search (rules, plain_line, in_held)

in_wanted : (family : Family) (wait : Wait) → InLine (wanted_text family wait)
in_wanted family wait = grind (arith, common_steps, both, number, in_owner, in_mode, in_flock_word)

abbrev wait_text : Wait → List ℕ
wait_text wait = codes "wait " ++ tag wait.p wait.n ++ codes " " ++ wanted_text wait.family wait

pub in_wait : (wait : Wait) → InLine (wait_text wait)
in_wait wait = grind (arith, common_steps, both, in_tag, in_wanted)

plain_wait : (wait : Wait) → IsPlain (wait_line wait)
plain_wait wait = plain_line (wait_text wait) (in_wait wait) refl

pub in_state : (state : ProcState) → InLine (state_word state)
in_state state = grind (arith, common_steps)

in_counts : (line : ProcessLine) → InLine (counts_text line)
in_counts line = grind (arith, common_steps, both, number)

plain_process : (line : ProcessLine) → IsPlain (process_line line)
plain_process line =
    let one = decimal line.p ++ codes " " in
    let two = one ++ counts_text line in
    plain_line (codes "proc " ++ decimal line.p ++ codes " " ++ counts_text line ++ codes " " ++ state_word line.state)
    (both (two ++ codes " ") (state_word line.state)
    (both two (codes " ") (both one (counts_text line) (both (decimal line.p) (codes " ") (number line.p) refl) (in_counts line)) refl) (in_state line.state))
    refl

plain_reported : (line : ProcessLine) → IsPlain (reported_line line)
plain_reported line = grind (arith, common_steps, plain_process, plain_none)

plain_processes : (states : ℕ → ProcState) (events : List Event) (sent : ℕ → ℕ) (p n : ℕ) → IsPlain (process_lines states events sent p n)
unfolding process_lines
plain_processes states events sent p zero = plain_none
plain_processes states events sent p (suc n) =
    plain_both (reported_line (line_of states events sent p)) (process_lines states events sent (p + 1) n) (plain_reported (line_of states events sent p))
    (plain_processes states events sent (p + 1) n)

pub plain_report : (processes : ℕ) (S : State) (events : List Event) (sent : ℕ → ℕ) (text : List ℕ) → IsReport processes S events sent text → IsPlain text
plain_report processes S events sent text report = grind (arith, common_steps, plain_both, plain_each, plain_held, plain_wait, plain_processes)

-- what explains
is_comment : (p n : ℕ) (line : List ℕ) → InLine line → IsComment (comment p n (ended line))
is_comment p n line is =
    let before = codes "# " ++ tag p n ++ codes " " in
    let named : InLine before = both (tag p n) (codes " ") (in_tag p n) refl in
    subst IsComment (append_assoc before line (10 ∷ [])) (comment_line (before ++ line) (both before line named is) refl)

comment_behind : (p n : ℕ) (word line : List ℕ) → InLine word → InLine line → IsComment (comment p n (word ++ ended line))
comment_behind p n word line is_word is =
    subst (λ (told : List ℕ). IsComment (comment p n told)) (append_assoc word line (10 ∷ [])) (is_comment p n (word ++ line) (both word line is_word is))

comment_obstacle : (event : Event) (obstacle : Option InTheWay) → IsComment (obstacle_line event obstacle)
comment_obstacle event None = comment_none
comment_obstacle event (Some (obstacles.Lock held)) = comment_behind event.p event.n (codes "blocked by ") (held_text held) refl (in_held held)
comment_obstacle event (Some (obstacles.Wait wait)) = comment_behind event.p event.n (codes "behind ") (wait_text wait) refl (in_wait wait)

-- a step of a cycle
in_what : (step : InTheWay) → InLine (step_text step)
in_what step = grind (arith, common_steps, in_held, in_wait)

in_first : (link : Link) → InLine (first_step_text link)
in_first link = grind (arith, common_steps, both, number, in_held, in_wait)

in_next : (link : Link) → InLine (next_step_text link)
unfolding next_step_text
in_next link = grind (arith, common_steps, both, number, in_tag, in_what)

in_nexts : (links : List Link) → InLine (flat_map next_step_text links)
in_nexts [] = refl
in_nexts (link ∷ links) = both (next_step_text link) (flat_map next_step_text links) (in_next link) (in_nexts links)

comment_deadlock : (event : Event) (links : List Link) → IsComment (deadlock_line event links)
comment_deadlock event [] = comment_none
comment_deadlock event (first ∷ rest) =
    is_comment event.p event.n (first_step_text first ++ flat_map next_step_text rest)
    (both (first_step_text first) (flat_map next_step_text rest) (in_first first) (in_nexts rest))

comment_ended : (event : Event) (wait : Option Wait) → IsComment (ended_line event wait)
comment_ended event None = comment_none
comment_ended event (Some wait) =
    comment_behind event.p event.n (codes "ended the wait of ") (tag wait.p wait.n) refl (in_tag wait.p wait.n)

comment_loss : (event : Event) (word : List ℕ) (held : Held) → InLine word → IsComment (loss_line event word held)
comment_loss event word held is = comment_behind event.p event.n word (held_text held) is (in_held held)

comment_losses : (event : Event) (word : List ℕ) (locks : List Held) → InLine word → IsComment (loss_lines event word locks)
comment_losses event word locks is = comment_each (loss_line event word) (λ held. comment_loss event word held is) locks

comment_where : (test : Bool) (text : List ℕ) → IsComment text → IsComment (if test then text else [])
comment_where true text is = is
comment_where false text is = comment_none

comment_other : (event : Event) (section q : ℕ) → IsComment (together_line event section q)
comment_other event section q =
    let one = codes "together with " ++ decimal q in
    let two = one ++ codes " in " in
    is_comment event.p event.n (two ++ decimal section)
    (both two (decimal section) (both one (codes " in ") (both (codes "together with ") (decimal q) refl (number q)) refl) (number section))

comment_others : (event : Event) (visits : Visits) (section : ℕ) (visit : Visit) (n : ℕ) → IsComment (together_lines event visits section visit n)
unfolding together_lines
comment_others event visits section visit zero = comment_none
comment_others event visits section visit (suc q) =
    let test = is_together visits event.p section visit (suc q) in
    let line = together_line event section (suc q) in
    comment_both (together_lines event visits section visit q) (if test then line else []) (comment_others event visits section visit q)
    (comment_where test line (comment_other event section (suc q)))

comment_entered : (processes : ℕ) (event : Event) (visits : Visits) (request : Request) → IsComment (entered_lines processes event visits request)
comment_entered processes event visits request rest = grind (arith, common_steps, comment_others)

comment_together : (processes : ℕ) (event : Event) (T : State) → IsComment (lines_together processes event T)
comment_together processes event T =
    comment_where (is_done event.notes) (entered_lines processes event T.visits event.request) (comment_entered processes event T.visits event.request)

pub comment_own : (rules : Rules) (processes : ℕ) (S : State) (event : Event) (T : State) (own : List ℕ) → Explains rules processes S event T own → IsComment own
comment_own rules processes S event T own h =
    let a = ended_line event (ended_wait S event.request) in
    let b = loss_lines event (codes "released ") h.released in
    let c = loss_lines event (codes "lost ") (lost S T event.p event.request) in
    let d = obstacle_line event h.obstacle in
    let e = deadlock_line event h.links in
    subst IsComment (sym h.is)
    (comment_both (a ++ b ++ c ++ d ++ e) (lines_together processes event T)
    (comment_both (a ++ b ++ c ++ d) e
    (comment_both (a ++ b ++ c) d
    (comment_both (a ++ b) c
    (comment_both a b (comment_ended event (ended_wait S event.request)) (comment_losses event (codes "released ") h.released refl))
    (comment_losses event (codes "lost ") (lost S T event.p event.request) refl)) (comment_obstacle event h.obstacle)) (comment_deadlock event h.links))
    (comment_together processes event T))

in_more : (more : ℕ) → InLine (more_text more)
in_more more = grind (arith, common_steps, both, number)

-- a reason is in the line
in_reason : (state : ProcState) (reason : List ℕ) → untaken_reason state ≡ Some reason → InLine reason
in_reason state reason is = grind (arith, common_steps)

comment_never_taken : (p n count : ℕ) (state : ProcState) (reason : Option (List ℕ)) → untaken_reason state ≡ reason → IsComment (never_taken_line p n count reason)
comment_never_taken p n zero state reason is = comment_none
comment_never_taken p n (suc more) state None is = comment_none
comment_never_taken p n (suc more) state (Some reason) is =
    let one = tag p n ++ more_text more in
    let two = one ++ codes " never taken: process " in
    comment_line (codes "# " ++ tag p n ++ more_text more ++ codes " never taken: process " ++ decimal p ++ reason)
    (both (two ++ decimal p) reason
    (both two (decimal p) (both one (codes " never taken: process ") (both (tag p n) (more_text more) (in_tag p n) (in_more more)) refl) (number p)) (in_reason state reason is))
    refl

comment_untaken : (line : ProcessLine) → IsComment (untaken_line line)
comment_untaken line = comment_never_taken line.p (line.taken + 1) (line.sent - line.taken) line.state (untaken_reason line.state) refl

pub comment_all_untaken : (states : ℕ → ProcState) (events : List Event) (sent : ℕ → ℕ) (p n : ℕ) → IsComment (untaken_lines states events sent p n)
unfolding untaken_lines
comment_all_untaken states events sent p zero = comment_none
comment_all_untaken states events sent p (suc n) =
    comment_both (untaken_line (line_of states events sent p)) (untaken_lines states events sent (p + 1) n) (comment_untaken (line_of states events sent p))
    (comment_all_untaken states events sent (p + 1) n)
