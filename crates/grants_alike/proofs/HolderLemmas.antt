-- Holders that are known by numbers: whose modes conflict, and what one more mode leaves.
use Rattle.grants_alike.proofs.Common.{◌≡◌, ℕ, ◌==◌, Bool, true, false, ◌&&◌, Option, Some, None, refl, sym, ap, ◌∙◌, subst, if◌then◌else◌, eq-eqb, eqb-true, Mode, TellsApart}
use Rattle.std.proofs.Common.{◌≢◌, ne_eqb}
use Rattle.std.proofs.lemmas.Option.{same_Some}
use Rattle.range_core.specs.Ranges.{HeldConflicts}
use Rattle.grants_alike.specs.Alike.{SameModes}

-- two numbers that two holders have are one where the holders are
pub another_number : {Holder : Type 0} (number_of : Holder → Option ℕ) (one other : Holder) (number number' : ℕ) → TellsApart number_of
    → number_of one ≡ Some number → number_of other ≡ Some number' → one ≢ other → number ≢ number'
another_number number_of one other number number' apart is is' differs same = differs (apart one other number' (is ∙ ap Some same) is')

pub another_holder : {Holder : Type 0} (number_of : Holder → Option ℕ) (one other : Holder) (number number' : ℕ)
    → number_of one ≡ Some number → number_of other ≡ Some number' → number ≢ number' → one ≢ other
another_holder number_of one other number number' is is' differs same =
    differs (same_Some number number' (sym is ∙ ap number_of same ∙ is'))

-- who has a mode that conflicts has a number, and has it there too
pub conflict_there : {Holder : Type 0} (number_of : Holder → Option ℕ) (here : Holder → Option Mode) (there : ℕ → Option Mode) (holder : Holder) (wanted : Mode)
    → SameModes number_of here there → HeldConflicts (here holder) wanted
    → (number : ℕ) × (number_of holder ≡ Some number) × HeldConflicts (there number) wanted
conflict_there number_of here there holder wanted same conflicts = at (number_of holder) refl
  where
    at : (found : Option ℕ) → number_of holder ≡ found → (number : ℕ) × (number_of holder ≡ Some number) × HeldConflicts (there number) wanted
    at None is = absurd (subst (λ (mode : Option Mode). HeldConflicts mode wanted) (same.known holder is) conflicts)
    at (Some number) is = (number, is, subst (λ (mode : Option Mode). HeldConflicts mode wanted) (sym (same.same holder number is)) conflicts)

-- and the other way round
pub conflict_here : {Holder : Type 0} (number_of : Holder → Option ℕ) (here : Holder → Option Mode) (there : ℕ → Option Mode) (number : ℕ) (wanted : Mode)
    → SameModes number_of here there → HeldConflicts (there number) wanted
    → (holder : Holder) × (number_of holder ≡ Some number) × HeldConflicts (here holder) wanted
conflict_here number_of here there number wanted same conflicts =
    let found = same.owned number (λ none. subst (λ (mode : Option Mode). HeldConflicts mode wanted) none conflicts) in
    (found.0, found.1, subst (λ (mode : Option Mode). HeldConflicts mode wanted) (same.same found.0 number found.1) conflicts)

-- what is equal at each holder and each number is the same still
pub modes_stay : {Holder : Type 0} (number_of : Holder → Option ℕ) (here here' : Holder → Option Mode) (there there' : ℕ → Option Mode)
    → ((holder : Holder) → here' holder ≡ here holder) → ((number : ℕ) → there' number ≡ there number)
    → SameModes number_of here there → SameModes number_of here' there'
modes_stay number_of here here' there there' stays stays' same =
    record {
      same = λ holder number is. stays' number ∙ same.same holder number is ∙ sym (stays holder);
      known = λ holder none. stays holder ∙ same.known holder none;
      owned = λ number held. same.owned number (λ none. held (stays' number ∙ none));
    }

module _ {Holder : Type 0} (number_of : Holder → Option ℕ) (here : Holder → Option Mode) (there : ℕ → Option Mode) (is_it : Holder → Bool) (holder : Holder)
    (number : ℕ) (mode : Mode) (apart : TellsApart number_of) (known : number_of holder ≡ Some number) (itself : is_it holder ≡ true)
    (one : (other : Holder) → is_it other ≡ true → other ≡ holder) where
  -- of this holder the number is this one, and of no other
  same_test : (other : Holder) (number' : ℕ) → number_of other ≡ Some number' → (number == number') ≡ is_it other
  same_test other number' is = at (is_it other) refl
    where
      at : (b : Bool) → is_it other ≡ b → (number == number') ≡ b
      at true it = eq-eqb number number' (same_Some number number' (sym known ∙ ap number_of (sym (one other it)) ∙ is))
      at false another =
          ne_eqb number number' (another_number number_of holder other number number' apart known is
          (λ same. let bad : true ≡ false = sym itself ∙ ap is_it same ∙ another in cc))

  -- the holder gets the mode, under its number there
  pub modes_set : SameModes number_of here there
      → SameModes number_of (λ other. if is_it other then Some mode else here other) (λ other. if number == other then Some mode else there other)
  modes_set same =
      record {
        same = λ other number' is. both (is_it other) (number == number') (here other) (there number') (same_test other number' is)
            (same.same other number' is);
        known = λ other none. stays (is_it other) (here other) (other_than other none) (same.known other none);
        owned = λ number' held. at number' (number == number') refl held;
      }
    where
      both : (b b' : Bool) (mine theirs : Option Mode) → b' ≡ b → theirs ≡ mine → (if b' then Some mode else theirs) ≡ (if b then Some mode else mine)
      both b b' mine theirs is was = cc

      stays : (b : Bool) (mine : Option Mode) → b ≢ true → mine ≡ None → (if b then Some mode else mine) ≡ None
      stays true mine another none = absurd (another refl)
      stays false mine another none = none

      other_than : (other : Holder) → number_of other ≡ None → is_it other ≢ true
      other_than other none it = let bad : None ≡ Some number = sym none ∙ ap number_of (one other it) ∙ known in cc

      at : (number' : ℕ) (b : Bool) → (number == number') ≡ b → (if b then Some mode else there number') ≢ None
          → (other : Holder) × (number_of other ≡ Some number')
      at number' true is held = (holder, known ∙ ap Some (eqb-true number number' is))
      at number' false is held = same.owned number' held

  -- where a test holds, as of bytes that a range covers
  pub modes_set_where : (covered : Bool) → SameModes number_of here there
      → SameModes number_of (λ other. if is_it other && covered then Some mode else here other)
      (λ other. if number == other && covered then Some mode else there other)
  modes_set_where true same =
      modes_stay number_of _ _ _ _ (λ other. drop_true (is_it other) (here other)) (λ other. drop_true (number == other) (there other)) (modes_set same)
    where
      drop_true : (b : Bool) (old : Option Mode) → (if b && true then Some mode else old) ≡ (if b then Some mode else old)
      drop_true true old = refl
      drop_true false old = refl
  modes_set_where false same =
      modes_stay number_of here _ there _ (λ other. drop_false (is_it other) (here other)) (λ other. drop_false (number == other) (there other)) same
    where
      drop_false : (b : Bool) (old : Option Mode) → (if b && false then Some mode else old) ≡ old
      drop_false true old = refl
      drop_false false old = refl
