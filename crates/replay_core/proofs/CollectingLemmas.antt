-- What a client has collected, step by step: for `Caller::collect` and `meet`.
use Rattle.replay_core.proofs.Common.{common_steps, ◌≡◌, ℕ, zero, suc, ◌+◌, ◌<◌, ◌≤◌, true, List, [], ◌∷◌, ◌++◌, length, refl, sym, ap, ◌∙◌, subst, arith, length-append, append_assoc, append-nil, take-append-drop, ◌&&◌, ◌==◌, take, drop, nil_from_length, Reply, Request, Event, IsPrefixOf, answers_to, requests_taken, ClientView}
use Rattle.std.proofs.Common.{◌||◌}
use mathlib.Core.Option.{some, some-injective, some-ne-none}
use lib.ListN.{get_elem?}
use Rattle.session_core.specs.Mail.{answers_in, answers_from}
use Rattle.table_steps.specs.declared.desk_view.DeskView.{DeskView}
use Rattle.table_steps.specs.Steps.{met_desk, met_client}
use Rattle.table_steps.specs.Views.{tally_at}
use Rattle.call_table.specs.Shown.{IsCollected, IsNothing}
use Rattle.call_table.specs.Desks.{IsMet}
use Rattle.replay_core.specs.Collecting.{AreCollected}

-- the answers in the front of a journal come first
answers_begin : (p place : ℕ) (front rest : List Event) → IsPrefixOf (answers_from p place front) (answers_from p place (front ++ rest))
answers_begin p place [] rest = (answers_from p place rest, refl)
answers_begin p place (event ∷ front) rest =
    let more = answers_begin p (place + 1) front rest in (
      more.0,
      ap (λ (l : List (ℕ × Reply × ℕ)). answers_in p place event.notes ++ l) more.1
          ∙ sym (append_assoc (answers_in p place event.notes) (answers_from p (place + 1) front) more.0),
    )

-- what was collected stands first in each later journal too
pub still_first : (p : ℕ) (answers : List (ℕ × Reply × ℕ)) (old new : List Event) → IsPrefixOf answers (answers_to p old) → IsPrefixOf old new
    → IsPrefixOf answers (answers_to p new)
still_first p answers old new first grown =
    let more = answers_begin p 1 old grown.0 in (
      first.0 ++ more.0,
      ap (answers_to p) grown.1 ∙ more.1 ∙ ap (λ (l : List (ℕ × Reply × ℕ)). l ++ more.0) first.1 ∙ append_assoc answers first.0 more.0,
    )

-- the item behind a front is the next one
next_item : {A : Type 0} (front rest : List A) (x : A) → get_elem? (front ++ rest) (length front) ≡ some x
    → (behind : List A) × (rest ≡ x ∷ behind)
next_item [] [] x e = absurd (some-ne-none x (sym e))
next_item [] (y ∷ behind) x e = (behind, ap (λ z. z ∷ behind) (some-injective y x e))
next_item (y ∷ front) rest x e = next_item front rest x e

one_more : {A : Type 0} (front all : List A) (n : ℕ) (x : A) → length front ≡ n → IsPrefixOf front all → get_elem? all n ≡ some x
    → IsPrefixOf (front ++ x ∷ []) all
one_more front all n x count first e = grind (arith, common_steps, next_item, append_assoc)

-- the first items of a list are a front of it, and a front is the first items
taken_first : {A : Type 0} (xs ys : List A) (n : ℕ) → xs ≡ take n ys → IsPrefixOf xs ys
taken_first xs ys n e = (drop n ys, sym (take-append-drop n ys) ∙ ap (λ (l : List _). l ++ drop n ys) (sym e))

first_taken : {A : Type 0} (xs ys : List A) → IsPrefixOf xs ys → xs ≡ take (length xs) ys
first_taken xs ys h = grind (arith, common_steps)

in_front : (c : ClientView) (answers : List (ℕ × Reply × ℕ)) → AreCollected c answers → IsPrefixOf answers (answers_to c.process c.seen)
in_front c answers have = taken_first answers (answers_to c.process c.seen) (length answers) have.in_order

-- one more answer was collected
pub collected_one : (old new : ClientView) (answers : List (ℕ × Reply × ℕ)) (answer : ℕ × Reply × ℕ)
    → AreCollected old answers → IsCollected old new answer → AreCollected new (answers ++ answer ∷ [])
collected_one old new answers answer have one =
    let first = still_first old.process answers old.seen one.journal (in_front old answers have) one.seen.begins in
    subst (λ (c : ClientView). AreCollected c (answers ++ answer ∷ [])) (sym one.view)
    (record {
      in_order = first_taken (answers ++ answer ∷ []) (answers_to old.process one.journal)
          (one_more answers (answers_to old.process one.journal) old.collected answer have.all first one.is_next);
      all = length-append answers (answer ∷ []) ∙ ap (λ (n : ℕ). n + 1) have.all;
    })

-- nothing was collected
pub collected_none : (old new : ClientView) (answers : List (ℕ × Reply × ℕ)) → AreCollected old answers → IsNothing old new → AreCollected new answers
collected_none old new answers have none =
    subst (λ (c : ClientView). AreCollected c answers) (sym none.view)
    (record {
      in_order = first_taken answers (answers_to old.process none.journal)
          (still_first old.process answers old.seen none.journal (in_front old answers have) none.seen.begins);
      all = have.all;
    })

within : {A : Type 0} (xs : List A) (n : ℕ) (x : A) → get_elem? xs n ≡ some x → n < length xs
within [] n x e = absurd (some-ne-none x (sym e))
within (y ∷ ys) zero x e = omega arith
within (y ∷ ys) (suc n) x e = let less = within ys n x e in omega arith

prefix_shorter : {A : Type 0} (xs ys : List A) → IsPrefixOf xs ys → length xs ≤ length ys
prefix_shorter xs ys first = let e = ap (λ l. length l) first.1 in let sum = length-append xs first.0 in omega (arith, e, sum)

-- no more is collected than was posted
pub collected_fewer : (old new : ClientView) (answer : ℕ × Reply × ℕ) → IsCollected old new answer → old.collected < length old.posted
collected_fewer old new answer one = grind (arith, common_steps, within, prefix_shorter)

-- a front as long as the whole is the whole
pub front_is_all : {A : Type 0} (front all : List A) → IsPrefixOf front all → length front ≡ length all → front ≡ all
front_is_all front all first e = grind (arith, common_steps, length-append, nil_from_length, append-nil)

-- a front of a front is a front
pub front_of_front : {A : Type 0} (front part all : List A) → IsPrefixOf front part → IsPrefixOf part all → IsPrefixOf front all
front_of_front front part all first second =
    (first.0 ++ second.0, second.1 ∙ ap (λ (l : List _). l ++ second.0) first.1 ∙ append_assoc front first.0 second.0)

-- once a drained client has met the desk, it has collected all answers
pub met_all : (d : DeskView) (c : ClientView) (answers : List (ℕ × Reply × ℕ)) → IsMet d c (met_desk d c) (met_client d c)
    → AreCollected c answers → c.drained ≡ true → answers ≡ answers_to c.process d.journal
met_all d c answers met have drained =
    let published = (tally_at d.tallies c.process).published in
    let still : (met_client d c).drained ≡ true = ap (λ b. b || (c.over && (published == c.collected))) drained in
    front_is_all answers (answers_to c.process d.journal)
    (still_first c.process answers c.seen d.journal (in_front c answers have) met.begins)
    (have.all ∙ met.drained_all still)

-- and what was taken of it is a front of its requests, where it posted the first of them
pub met_taken : (d : DeskView) (c : ClientView) (requests : List Request) (posted : ℕ) → IsMet d c (met_desk d c) (met_client d c)
    → c.posted ≡ take posted requests → IsPrefixOf (requests_taken c.process d.journal) requests
met_taken d c requests posted met first =
    front_of_front (requests_taken c.process d.journal) c.posted requests met.taken_in_order
    (drop posted requests, sym (take-append-drop posted requests) ∙ ap (λ (l : List Request). l ++ drop posted requests) (sym first))

-- the first items of a list are no more than all
pub first_within : {A : Type 0} (xs ys : List A) (n : ℕ) → xs ≡ take n ys → length xs ≤ length ys
first_within xs ys n e = prefix_shorter xs ys (taken_first xs ys n e)
