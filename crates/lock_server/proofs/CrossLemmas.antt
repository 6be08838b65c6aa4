-- Who is crossed after a change, by the waiters, and so by the state of a table: for `Table::cancel`, `close`, `close_owner` and others.
use Rattle.lock_server.proofs.Common.{common_steps, ℕ, ◌≡◌, ◌≢◌, ◌<◌, ◌∙◌, ◌⊎◌, inl, inr, sym, ap, refl, subst, arith, zero, suc, true, false, Bool, Option, Some, None, List, [], ◌∷◌, ◌++◌, ◌↔◌, IsTrue, cases_eq, Mode, Pending, Waiters, files_of, crossed_of, SameWaiters, Ends, State, Crosses, given_by}
use Rattle.std.specs.Prelude.{Contains}
use Rattle.lock_server.specs.WaitersView as view
use Rattle.lock_server.specs.WaitersView.{Begins}
use Rattle.lock_server.proofs.WaiterMoves.{WaitersKnown, detected_somewhere, file_from_detected}

-- an owner is crossed from now on just where it has a detected wait left, and was crossed or is given a lock now
abbrev pub CrossesBy : Waiters → List ℕ → Waiters → Type 0
CrossesBy was given now = (owner : ℕ) → IsTrue (crossed_of now owner) ↔ ((files_of now owner ≢ []) × (IsTrue (crossed_of was owner) ⊎ Contains given owner))

pub contains_none : (owner : ℕ) → Contains [] owner → ⊥
contains_none owner among = let inside : among.0 < 0 = among.1 in omega arith

contains_one : (one : ℕ) → Contains (one ∷ []) one
contains_one one = (0, omega arith, refl)

pub contains_other : (one owner : ℕ) → Contains (one ∷ []) owner → owner ≡ one
contains_other one owner (zero, within, is) = sym is
contains_other one owner (suc k, within, is) = absurd (omega (arith, within))

module _ (waits : ℕ → List Pending) (was : Waiters) (known : WaitersKnown waits was) where
  -- a crossed owner has a detected wait
  crossed_has : (owner : ℕ) → IsTrue (crossed_of was owner) → files_of was owner ≢ []
  crossed_has owner is_crossed none = let no = known.crossed owner none in let h : false ≡ true = sym no ∙ is_crossed in cc

  pub CrossesBy-same : (now : Waiters) → SameWaiters was now → CrossesBy was [] now
  CrossesBy-same now same owner = (
    λ is_crossed. (λ none. crossed_has owner (sym (same.crossed owner) ∙ is_crossed) (sym (same.files owner) ∙ none), inl (sym (same.crossed owner) ∙ is_crossed)),
    λ h. elim h.1 [ inl is_crossed ↦ same.crossed owner ∙ is_crossed | inr none ↦ absurd (contains_none owner none) ],
  )

  pub CrossesBy-begins : (now : Waiters) (one file : ℕ) → Begins was now one file → CrossesBy was [] now
  CrossesBy-begins now one file begins owner = (
    λ is_crossed. (
      λ none. (let was_yes = sym (begins.crossed owner) ∙ is_crossed in crossed_has owner was_yes (elim (cases_eq owner one) [
        | inl same ↦ absurd (not_nil (files_of was one) (sym begins.files ∙ ap (files_of now) (sym same) ∙ none))
        | inr differs ↦ sym (begins.others owner differs) ∙ none
      ])),
      inl (sym (begins.crossed owner) ∙ is_crossed),
    ),
    λ h. elim h.1 [ inl is_crossed ↦ begins.crossed owner ∙ is_crossed | inr none ↦ absurd (contains_none owner none) ],
  )
    where
      not_nil : (files : List ℕ) → files ++ file ∷ [] ≡ [] → ⊥
      not_nil [] e = let h : file ∷ [] ≡ [] = e in cc
      not_nil (g ∷ files) e = let h : g ∷ (files ++ file ∷ []) ≡ [] = e in cc

  pub CrossesBy-ends : (now : Waiters) (one file : ℕ) → Ends was now one file → CrossesBy was [] now
  CrossesBy-ends now one file ends owner = elim (cases_eq owner one) [
    | inl same ↦ subst (λ (o : ℕ). IsTrue (crossed_of now o) ↔ ((files_of now o ≢ []) × (IsTrue (crossed_of was o) ⊎ Contains [] o))) (sym same) (
      λ is_crossed. (let some : files_of now one ≢ [] = λ none. (let no = ends.none none in let h : false ≡ true = sym no ∙ is_crossed in cc) in (some, inl (sym (ends.still some) ∙ is_crossed))),
      λ h. elim h.1 [ inl is_crossed ↦ ends.still h.0 ∙ is_crossed | inr none ↦ absurd (contains_none one none) ],
    )
    | inr differs ↦ (
      λ is_crossed. (λ none. crossed_has owner (sym (ends.crossed owner differs) ∙ is_crossed) (sym (ends.others owner differs) ∙ none), inl (sym (ends.crossed owner differs) ∙ is_crossed)),
      λ h. elim h.1 [ inl is_crossed ↦ ends.crossed owner differs ∙ is_crossed | inr none ↦ absurd (contains_none owner none) ],
    )
  ]

  pub CrossesBy-crosses : (now : Waiters) (one : ℕ) → view.Crosses was now one → CrossesBy was (one ∷ []) now
  CrossesBy-crosses now one crosses owner = elim (cases_eq owner one) [
    | inl same ↦ subst (λ (o : ℕ). IsTrue (crossed_of now o) ↔ ((files_of now o ≢ []) × (IsTrue (crossed_of was o) ⊎ Contains (one ∷ []) o))) (sym same) (
      λ is_crossed. (
        λ none. (let empty : files_of was one ≡ [] = sym (crosses.files one) ∙ none in
            let no = crosses.without empty ∙ known.crossed one empty in let h : false ≡ true = sym no ∙ is_crossed in cc),
        inr (contains_one one),
      ),
      λ h. crosses.with_one (λ none. h.0 (crosses.files one ∙ none)),
    )
    | inr differs ↦ (
      λ is_crossed. (λ none. crossed_has owner (sym (crosses.others owner differs) ∙ is_crossed) (sym (crosses.files owner) ∙ none), inl (sym (crosses.others owner differs) ∙ is_crossed)),
      λ h. elim h.1 [ inl is_crossed ↦ crosses.others owner differs ∙ is_crossed | inr among ↦ absurd (differs (contains_other one owner among)) ],
    )
  ]

  -- an owner is given a lock of this mode, or none
  pub CrossesBy-given : (now : Waiters) (one : ℕ) (mode : Option Mode) → view.CrossesIf mode was now one → CrossesBy was (given_by one mode) now
  CrossesBy-given now one None same = CrossesBy-same now same
  CrossesBy-given now one (Some mode) crosses = CrossesBy-crosses now one crosses

  -- a wait ends, and one begins
  pub CrossesBy-ended : (now : Waiters) (one file : ℕ) (detect : Bool) → view.EndsIf detect was now one file → CrossesBy was [] now
  CrossesBy-ended now one file false same = CrossesBy-same now same
  CrossesBy-ended now one file true ends = CrossesBy-ends now one file ends

  pub CrossesBy-begun : (now : Waiters) (one file : ℕ) (detect : Bool) → view.BeginsIf detect was now one file → CrossesBy was [] now
  CrossesBy-begun now one file false same = CrossesBy-same now same
  CrossesBy-begun now one file true begins = CrossesBy-begins now one file begins

-- first nobody is given a lock, and then some are
pub CrossesBy-then : (was between now : Waiters) (given : List ℕ) → CrossesBy was [] between → CrossesBy between given now
    → ((owner : ℕ) → files_of now owner ≡ files_of between owner) → CrossesBy was given now
CrossesBy-then was between now given first next files owner = grind (arith, common_steps, contains_none)

-- who is crossed among the waiters is crossed in the state
pub Crosses-by : (S T : State) (was now : Waiters) (given : List ℕ) → ((owner : ℕ) → S.crossed owner ≡ crossed_of was owner)
    → ((owner : ℕ) → T.crossed owner ≡ crossed_of now owner)
    → WaitersKnown (λ file. (T.files file).waits) now → CrossesBy was given now → Crosses S given T
Crosses-by S T was now given before after known crosses owner = (
  λ is_crossed. (let h = (crosses owner).0 (sym (after owner) ∙ is_crossed) in
      let there = detected_somewhere (λ file. (T.files file).waits) now known owner h.0 in
      (record { file = there.0; among = there.1 }, elim h.1 [ inl crossed ↦ inl (before owner ∙ crossed) | inr among ↦ inr among ])),
  λ h. after owner
      ∙ (crosses owner).1 (file_from_detected (λ file. (T.files file).waits) now known owner h.0.file h.0.among, elim h.1 [ inl crossed ↦ inl (sym (before owner) ∙ crossed) | inr among ↦ inr among ]),
)
