-- The lines of a report, one after another: what `ReportReader`'s clauses say of the lines that come.
use Rattle.script_core.proofs.Common.{common_steps, ◌≡◌, ℕ, zero, suc, ◌+◌, ◌^◌, ◌<◌, ◌≤◌, All, List, [], ◌∷◌, ◌++◌, map, length, drop, get_or, codes, decimal, Bool, true, false, Option, Some, None, MatchOption, IfSome, inr, ⊎_elim, refl, sym, ap, ap₂, ◌∙◌, subst, arith, append_assoc, append-nil, add-one, decimal_injective, All-append, All-from_recursion}
use Rattle.script_core.proofs.Common.{Held, Wait, ProcState, Event, ProcessLine, ReportLine, texts, words_of, process_text, counts_text, state_word, is_reported, line_text, IsLineOf, MayBeLeftOut, AreTextsOf, IsFirstDue, HasFewTaken, lines_from}
use Rattle.std.proofs.Common.{drop-cons}
use Rattle.std.specs.List.{AllByRecursion as Each}
use Rattle.std.specs.Borrow.{Bor}
use Rattle.std.specs.Bool.{then_some}
use Rattle.script_core.specs.declared.report.ReportLine.TheVariants as lines
use Rattle.script_core.specs.ReportReading.{least_line}
use Rattle.script_core.proofs.RoundTripLemmas.{IsWord, IsWord-tested, IsWord-decimal, slice_split-words, not_empty}

-- the new lines are what is left of the old ones where the next text is none of those between, which may be left out
abbrev pub SkipsTo : List ReportLine → List ℕ → List ReportLine → Type 0
SkipsTo old text new =
    (more : List (List ℕ)) → (AreTextsOf old (text ∷ more) → AreTextsOf new (text ∷ more)) × (AreTextsOf new (text ∷ more) → AreTextsOf old (text ∷ more))

-- one more line is left out
pub SkipsTo-more : (old : List ReportLine) (text : List ℕ) (line : ReportLine) (rest : List ReportLine) → SkipsTo old text (line ∷ rest)
    → (IsLineOf line text → ⊥) → MayBeLeftOut line → SkipsTo old text rest
SkipsTo-more old text line rest skips other out more =
    ((λ are. ⊎_elim (λ yes. absurd (other yes.0)) (λ no. no.1.1) ((skips more).0 are)), (λ are. (skips more).1 (inr (other, (out, are)))))

-- what is due of the new lines is due of the old ones, whose lines before them may be left out
pub record Owes (old new : List ReportLine) : Type 0 where
  pub due : (line : ReportLine) → IsFirstDue new line → IsFirstDue old line
  pub end : AreTextsOf new [] → AreTextsOf old []

-- one more of the lines is left out
pub skips_one : (lines : List ReportLine) (text : List ℕ) (i : ℕ) (d : ReportLine) → i < length lines → SkipsTo lines text (drop i lines)
    → (IsLineOf (get_or lines i d) text → ⊥) → MayBeLeftOut (get_or lines i d) → SkipsTo lines text (drop (i + 1) lines)
skips_one lines text i d within skips other out =
    let cut : drop i lines ≡ get_or lines i d ∷ drop (i + 1) lines = rw add-one (drop-cons lines i d within) in
    SkipsTo-more lines text (get_or lines i d) (drop (i + 1) lines) (subst (SkipsTo lines text) cut skips) other out

-- a word before a space is the first of the words
pub words_of-first : (word rest : List ℕ) → IsWord word → words_of (word ++ 32 ∷ rest) ≡ word ∷ words_of rest
words_of-first word rest is = grind (arith, common_steps, slice_split-words, not_empty)

-- lists behind lists
joined_behind : (xs a b c d : List ℕ) → xs ++ a ++ b ++ c ++ d ≡ xs ++ (a ++ b ++ c ++ d)
joined_behind [] a b c d = refl
joined_behind (x ∷ xs) a b c d = ap (λ l. x ∷ l) (joined_behind xs a b c d)

joined_far_behind : (xs a b c d e f : List ℕ) → xs ++ a ++ b ++ c ++ d ++ e ++ f ≡ xs ++ (a ++ b ++ c ++ d ++ e ++ f)
joined_far_behind [] a b c d e f = refl
joined_far_behind (x ∷ xs) a b c d e f = ap (λ l. x ∷ l) (joined_far_behind xs a b c d e f)

-- the words of the line of a process begin with its number
process_first : (told : ProcessLine) → told.p < 2 ^ 64
    → words_of (process_text told) ≡ codes "proc" ∷ decimal told.p ∷ words_of (counts_text told ++ codes " " ++ state_word told.state)
process_first told small = grind (arith, common_steps, joined_behind, words_of-first, IsWord-tested, IsWord-decimal)

-- and go on with what it sent
pub process_words : (told : ProcessLine) → told.p < 2 ^ 64 → told.sent < 2 ^ 64
    → (more : List (List ℕ)) × (words_of (process_text told) ≡ codes "proc" ∷ decimal told.p ∷ codes "sent" ∷ decimal told.sent ∷ more)
process_words told small few =
    let behind = codes "taken " ++ decimal told.taken ++ codes " answered " ++ decimal told.answered ++ codes " " ++ state_word told.state in
    let text : counts_text told ++ codes " " ++ state_word told.state ≡ codes "sent" ++ 32 ∷ (decimal told.sent ++ 32 ∷ behind) =
    ap (λ l. codes "sent " ++ l)
    (joined_far_behind (decimal told.sent) (codes " taken ") (decimal told.taken) (codes " answered ") (decimal told.answered) (codes " ") (state_word told.state)) in
    let words : words_of (counts_text told ++ codes " " ++ state_word told.state) ≡ codes "sent" ∷ decimal told.sent ∷ words_of behind =
    ap words_of text ∙ words_of-first (codes "sent") (decimal told.sent ++ 32 ∷ behind) (IsWord-tested (codes "sent") refl)
    ∙ ap (λ l. codes "sent" ∷ l) (words_of-first (decimal told.sent) behind (IsWord-decimal told.sent few)) in
    (words_of behind, process_first told small ∙ ap (λ l. codes "proc" ∷ decimal told.p ∷ l) words)

-- a line is that of one process
pub one_process : (told other : ProcessLine) → told.p < 2 ^ 64 → other.p < 2 ^ 64 → process_text told ≡ process_text other → told.p ≡ other.p
one_process told other small less same =
    let words = sym (process_first told small) ∙ ap words_of same ∙ process_first other less in
    decimal_injective told.p other.p small less (ap (λ l. get_or l 1 []) words)

-- what is read of a word that spells this number
pub number_read : (word : List ℕ) (n : ℕ) (result : Option ℕ) → n < 2 ^ 64 → word ≡ decimal n
    → MatchOption result ((m : ℕ) → m < 2 ^ 64 → word ≡ decimal m → ⊥) (λ m. word ≡ decimal m) → IfSome result (λ m. m < 2 ^ 64) → result ≡ Some n
number_read word n result small is read within = grind (arith, common_steps, decimal_injective)

-- the line of one more process
pub lines_from-more : (states : ℕ → ProcState) (events : List Event) (p more : ℕ)
    → lines_from states events p (suc more) ≡ lines_from states events p more ++ lines.Process (least_line states events (p + more)) ∷ []
unfolding lines_from
lines_from-more states events p zero = grind (arith, common_steps)
lines_from-more states events p (suc more) = grind (arith, common_steps, lines_from-more states events (p + 1) more)

pub no_processes : (states : ℕ → ProcState) (events : List Event) (old : List ReportLine) → old ≡ old ++ lines_from states events 1 0
unfolding lines_from
no_processes states events old = sym (append-nil old)

pub one_process_more : (states : ℕ → ProcState) (events : List Event) (old before after : List ReportLine) (told : ProcessLine) (index : ℕ)
    → before ≡ old ++ lines_from states events 1 index → told ≡ least_line states events (index + 1) → after ≡ before ++ lines.Process told ∷ []
    → after ≡ old ++ lines_from states events 1 (index + 1)
one_process_more states events old before after told index was is more =
    let place : index + 1 ≡ 1 + index = omega arith in
    more ∙ ap₂ (λ l (t : ProcessLine). l ++ lines.Process t ∷ []) was (is ∙ ap (least_line states events) place)
    ∙ append_assoc old (lines_from states events 1 index) (lines.Process (least_line states events (1 + index)) ∷ [])
    ∙ ap (λ l. old ++ l) (sym (lines_from-more states events 1 index))
    ∙ ap (λ n. old ++ lines_from states events 1 n) (sym (add-one index))

-- one more line, whose count of what was taken is small
pub few_line : (before after : List ReportLine) (line : ReportLine) → All HasFewTaken before → HasFewTaken line → after ≡ before ++ line ∷ []
    → All HasFewTaken after
few_line before after line few small is =
    subst (All HasFewTaken) (sym is)
    (All-append HasFewTaken before (line ∷ []) few (All-from_recursion HasFewTaken (line ∷ []) (small, tt)))

-- lines of locks and of waits have no such count
few_each : {X : Type 0} (line : X → ReportLine) → ((x : X) → HasFewTaken (line x)) → (xs : List X) → Each HasFewTaken (map line xs)
few_each line few [] = tt
few_each line few (x ∷ xs) = (few x, few_each line few xs)

pub few_first : (locks : List Held) (waits : List Wait) (none first both : List ReportLine) → none ≡ [] → first ≡ none ++ map lines.Held locks
    → both ≡ first ++ map lines.Waits waits → All HasFewTaken both
few_first locks waits none first both empty is are =
    let held = map lines.Held locks in
    let waiting = map lines.Waits waits in
    let all : both ≡ held ++ waiting = are ∙ ap (λ (l : List ReportLine). l ++ waiting) (is ∙ ap (λ (l : List ReportLine). l ++ held) empty) in
    subst (All HasFewTaken) (sym all)
    (All-append HasFewTaken held waiting (All-from_recursion HasFewTaken held (few_each lines.Held (λ lock. tt) locks))
    (All-from_recursion HasFewTaken waiting (few_each lines.Waits (λ wait. tt) waits)))

-- the fourth of some words
pub fourth_of : (words : List (Bor (List ℕ))) (d : Bor (List ℕ)) (first second third fourth : List ℕ) (more : List (List ℕ))
    → texts words ≡ first ∷ second ∷ third ∷ fourth ∷ more → (get_or words 3 d).now ≡ fourth
fourth_of words d first second third fourth more h = grind (arith, common_steps)

-- whatever line of this process the text is, this is what it says that was sent
abbrev pub TellsSent : ℕ → List ℕ → Option ℕ → Type 0
TellsSent p text sent = (told : ProcessLine) → told.p ≡ p → told.sent < 2 ^ 64 → text ≡ process_text told → sent ≡ Some told.sent

-- where the text doesn't say what was sent it is no line of a process
pub no_sent : (line : ReportLine) (told : ProcessLine) (text : List ℕ) (sent : Option ℕ) → line ≡ lines.Process told → TellsSent told.p text sent
    → sent ≡ None → IsLineOf line text → ⊥
no_sent line told text sent is tells none are =
    let this : IsLineOf (lines.Process told) text = subst (λ l. IsLineOf l text) is are in
    let found : sent ≡ Some this.0 = tells (record told { sent = this.0 }) refl this.2 this.4 in
    let bad : None ≡ Some this.0 = sym none ∙ found in cc

-- nor is it one of a process that would have sent less than was taken
pub sent_less : (line : ReportLine) (told : ProcessLine) (text : List ℕ) (sent : ℕ) → line ≡ lines.Process told → TellsSent told.p text (Some sent)
    → sent < told.taken → IsLineOf line text → ⊥
sent_less line told text sent is tells less are =
    let this : IsLineOf (lines.Process told) text = subst (λ l. IsLineOf l text) is are in
    let found : Some sent ≡ Some this.0 = tells (record told { sent = this.0 }) refl this.2 this.4 in
    let same : this.0 ≡ sent = cc in
    let no_less = this.1 in omega (arith, less, same, no_less)

-- the line with what the text says that was sent
abbrev pub IsSentIn : ReportLine → List ℕ → Option ReportLine → Type 0
IsSentIn line text result = MatchOption result (¬ IsLineOf line text) (λ other. (text ≡ line_text other → IsLineOf line text) × (IsLineOf line text → text ≡ line_text other))

sent_in_process : (told : ProcessLine) (text : List ℕ) (sent : ℕ) (reported : Bool) → told.taken ≤ sent → sent < 2 ^ 64 → TellsSent told.p text (Some sent)
    → is_reported told.state sent ≡ reported → IsSentIn (lines.Process told) text (then_some reported (lines.Process (record told { sent = sent })))
sent_in_process told text sent true no_less few tells reported = (
  (λ is. (sent, no_less, few, reported, is)),
  (λ this.
      let found : Some sent ≡ Some this.0 = tells (record told { sent = this.0 }) refl this.2 this.4 in
      let same : this.0 ≡ sent = cc in
      this.4 ∙ ap (λ n. process_text (record told { sent = n })) same),
)
sent_in_process told text sent false no_less few tells unreported = λ this.
    let found : Some sent ≡ Some this.0 = tells (record told { sent = this.0 }) refl this.2 this.4 in
    let same : this.0 ≡ sent = cc in
    let no : true ≡ false = sym this.3 ∙ ap (is_reported told.state) same ∙ unreported in cc

pub is_sent_in : (line : ReportLine) (told : ProcessLine) (text : List ℕ) (sent : ℕ) (reported : Bool) (result : Option ReportLine) → line ≡ lines.Process told
    → told.taken ≤ sent → sent < 2 ^ 64 → TellsSent told.p text (Some sent) → reported ≡ is_reported told.state sent
    → result ≡ then_some reported (lines.Process (record told { sent = sent })) → IsSentIn line text result
is_sent_in line told text sent reported result is no_less few tells reports given = grind (arith, common_steps, sent_in_process)
