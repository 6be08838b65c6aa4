-- What a client knows once it has collected: for `Client::closed`, `Client::collect` and `gather`.
use Rattle.call_table.proofs.Common.{common_steps, take_all, ◌≡◌, ℕ, ◌+◌, ◌<◌, ◌≤◌, List, [], ◌∷◌, ◌++◌, length, take, sym, ap, ◌∙◌, subst, arith, length-set, Reply, Setup, ClientView, SitsAs}
use Rattle.std.proofs.lemmas.List.{take_more_set}
use Rattle.std.proofs.Common.{set}
use Rattle.table_steps.specs.Spelling.{answer_spelled, ReplyFits}
use Rattle.table_steps.specs.Steps.{client_read, client_collected, IsFound, IsNextAnswer}
use Rattle.call_table.specs.Shown.{IsCollected, IsNothing}
use Rattle.call_table.proofs.InTurnLaws.{number_at}

pub sits_as : {setup : Setup} {process posted collected now : ℕ} (c after : ClientView)
    → SitsAs c setup process posted collected
    → after.process ≡ c.process → after.posted ≡ c.posted → after.collected ≡ now → after.filled ≡ [] → after.read ≡ []
    → collected ≤ now → now ≤ posted → SitsAs after setup process posted now
sits_as c after sits process_same posted_same collected_is filled_none read_none more most = grind (arith, common_steps)

-- one more word of the cell is read
pub read_next : (c now after : ClientView) (words : List ℕ) (i found : ℕ) → i < length words → now ≡ record c { read = take i words }
    → after ≡ client_read now found → after ≡ record c { read = take (i + 1) (set words i found) }
read_next c now after words i found h is next =
    next ∙ ap (λ (v : ClientView). client_read v found) is
    ∙ ap (λ (read : List ℕ). record c { read = read }) (sym (take_more_set words i found h))

pub next_answer : (c now : ClientView) (words : List ℕ) (found : ℕ) → length words ≡ 6 → now ≡ record c { read = take 5 words }
    → IsNextAnswer now (now.read ++ found ∷ []) → IsNextAnswer c (set words 5 found)
next_answer c now words found wide is told =
    let all : take 5 words ++ found ∷ [] ≡ set words 5 found =
    sym (take_more_set words 5 found (omega arith)) ∙ take_all 6 (set words 5 found) (omega (arith, length-set words 5 found)) in
    subst (IsNextAnswer c) all (subst (λ (v : ClientView). IsNextAnswer v (v.read ++ found ∷ [])) is told)

pub is_nothing : (c after : ClientView) (found collected : ℕ) → IsFound c found after → c.collected ≡ collected
    → found ≡ collected → IsNothing c after
is_nothing c after found collected told is none = grind (arith, common_steps)

pub is_collected : (c mid after : ClientView) (found collected : ℕ) (words : List ℕ) (reply : Reply) (place : ℕ)
    → IsFound c found mid → c.collected ≡ collected
    → after ≡ client_collected mid → IsNextAnswer mid words
    → ((r : Reply) (p : ℕ) → ReplyFits r → words ≡ answer_spelled r p → (reply ≡ r) × (place ≡ p))
    → IsCollected c after (collected + 1, reply, place)
is_collected c mid after found collected words reply place told is now next reads = grind (arith, common_steps, number_at)
