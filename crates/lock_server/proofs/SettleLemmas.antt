-- The grants of a settling, one after another: for `settle`.
use Rattle.lock_server.proofs.Common.{common_steps, ℕ, ◌≡◌, ◌≢◌, ◌+◌, ◌∙◌, inl, inr, sym, ap, refl, subst, arith, List, [], ◌∷◌, ◌++◌, Any, length, append_assoc, append-nil, Contains-append_left, Contains-append_right, Contains-append_cases, cases_eq, Policy, Pending, tickets_of, owners_of, FileState, SameFile, Settles, IsSettled, State, IsDetectedOf, HasDetected, Crosses, SettlesFile}
use Rattle.std.proofs.Common.{length-append}
use Rattle.lock_server.specs.States.{GrantsOn}
use Rattle.lock_server.proofs.LeaveLemmas.{Any-with}
use Rattle.lock_server.proofs.StateLemmas.{SameFile-itself, SameFile-then}

-- what these grants on the file have made of a state, before the settling has come to its end
pub record LeadsOn (policy : Policy) (S : State) (file : ℕ) (granted : List Pending) (T : State) : Type 0 where
  pub leads : (rest : List Pending) (G : FileState) → Settles policy (T.files file) rest G → Settles policy (S.files file) (granted ++ rest) G
  pub others : (other : ℕ) → other ≢ file → SameFile (S.files other) (T.files other)
  pub grants : T.grants ≡ S.grants ++ tickets_of granted
  pub crossed : Crosses S (owners_of granted) T

-- some grants lead on
pub record HasLedOn (policy : Policy) (S : State) (file : ℕ) (T : State) : Type 0 where
  pub granted : List Pending
  pub leads : LeadsOn policy S file granted T

-- no grant leads nowhere, where nobody is crossed newly
pub leads_nowhere : (policy : Policy) (S : State) (file : ℕ) → Crosses S [] S → HasLedOn policy S file S
leads_nowhere policy S file crossed = grind (arith, common_steps, SameFile-itself, append-nil)

-- one behind the other is crossed by both
pub crosses_then : (S M T : State) (one more : List ℕ) → ((owner : ℕ) → HasDetected T owner → HasDetected M owner) → Crosses S one M
    → Crosses M more T → Crosses S (one ++ more) T
crosses_then S M T one more still first next owner = (
  λ crossed. (let h = (next owner).0 crossed in (
    h.0,
    elim h.1 [
      | inl before ↦ elim ((first owner).0 before).1 [ inl long ↦ inl long | inr given ↦ inr (Contains-append_left one more owner given) ]
      | inr given ↦ inr (Contains-append_right one more owner given)
    ],
  )),
  λ h. (next owner).1 (
    h.0,
    elim h.1 [
      | inl long ↦ inl ((first owner).1 (still owner h.0, inl long))
      | inr given ↦ elim (Contains-append_cases one more owner given) [
        | inl before ↦ inl ((first owner).1 (still owner h.0, inr before))
        | inr now ↦ inr now
      ]
    ],
  ),
)

-- who has a detected wait after a wait left had one before
pub detected_before : (M : State) (file : ℕ) (T : State) (before after : List Pending) (wait : Pending)
    → ((other : ℕ) → other ≢ file → SameFile (M.files other) (T.files other))
    → (M.files file).waits ≡ before ++ wait ∷ after → (T.files file).waits ≡ before ++ after → (owner : ℕ) → HasDetected T owner → HasDetected M owner
detected_before M file T before after wait others stood left owner has = elim (cases_eq has.file file) [
  | inl here ↦ record {
    file = file;
    among = subst (λ (waits : List Pending). Any (IsDetectedOf owner) waits) (sym stood)
        (Any-with (IsDetectedOf owner) before after wait
        (subst (λ (waits : List Pending). Any (IsDetectedOf owner) waits) (ap (λ (f : ℕ). (T.files f).waits) here ∙ left) has.among));
  }
  | inr differs ↦ record { file = has.file; among = subst (λ (waits : List Pending). Any (IsDetectedOf owner) waits) (others has.file differs).waits has.among }
]

as_tickets-append : (xs : List Pending) (wait : Pending) → tickets_of (xs ++ wait ∷ []) ≡ tickets_of xs ++ wait.ticket ∷ []
as_tickets-append [] wait = refl
as_tickets-append (x ∷ xs) wait = ap (λ (l : List ℕ). x.ticket ∷ l) (as_tickets-append xs wait)

as_owners-append : (xs : List Pending) (wait : Pending) → owners_of (xs ++ wait ∷ []) ≡ owners_of xs ++ wait.owner ∷ []
as_owners-append [] wait = refl
as_owners-append (x ∷ xs) wait = ap (λ (l : List ℕ). x.owner ∷ l) (as_owners-append xs wait)

-- one grant more
leads_with : (policy : Policy) (S : State) (file : ℕ) (granted : List Pending) (M : State) (wait : Pending) (T : State)
    → LeadsOn policy S file granted M → GrantsOn policy M file wait T → LeadsOn policy S file (granted ++ wait ∷ []) T
leads_with policy S file granted M wait T led grants = record {
  leads = λ rest G settles.
      subst (λ (l : List Pending). Settles policy (S.files file) l G) (sym (append_assoc granted (wait ∷ []) rest))
      (led.leads (wait ∷ rest) G (T.files file, grants.grants_wait, settles));
  others = λ other differs. SameFile-then (S.files other) (M.files other) (T.files other) (led.others other differs) (grants.others other differs);
  grants = grants.grants ∙ ap (λ (l : List ℕ). l ++ wait.ticket ∷ []) led.grants ∙ append_assoc S.grants (tickets_of granted) (wait.ticket ∷ [])
      ∙ ap (λ (l : List ℕ). S.grants ++ l) (sym (as_tickets-append granted wait));
  crossed = subst (λ (l : List ℕ). Crosses S l T) (sym (as_owners-append granted wait))
      (crosses_then S M T (owners_of granted) (wait.owner ∷ [])
      (detected_before M file T grants.grants_wait.before grants.grants_wait.after wait grants.others grants.grants_wait.is_next.place grants.grants_wait.waits)
      led.crossed grants.crossed);
}

pub leads_more : (policy : Policy) (S : State) (file : ℕ) (M : State) (wait : Pending) (T : State) → HasLedOn policy S file M
    → GrantsOn policy M file wait T → HasLedOn policy S file T
leads_more policy S file M wait T led grants = record { granted = led.granted ++ wait ∷ []; leads = leads_with policy S file led.granted M wait T led.leads grants }

-- where each wait is blocked the settling has come to its end
pub settled_here : (policy : Policy) (S : State) (file : ℕ) (T : State) → HasLedOn policy S file T → IsSettled policy (T.files file)
    → SettlesFile policy S file T
settled_here policy S file T led settled = record {
  granted = led.granted;
  settles = subst (λ (l : List Pending). Settles policy (S.files file) l (T.files file)) (append-nil led.granted)
      (led.leads.leads [] (T.files file) (settled, SameFile-itself (T.files file)));
  others = led.leads.others;
  grants = led.leads.grants;
  crossed = led.leads.crossed;
}

-- a grant leaves one wait less on the file
pub fewer_waits : (policy : Policy) (S : State) (file : ℕ) (wait : Pending) (T : State) → GrantsOn policy S file wait T
    → length (T.files file).waits + 1 ≡ length (S.files file).waits
fewer_waits policy S file wait T grants = grind (arith, common_steps, length-append)
