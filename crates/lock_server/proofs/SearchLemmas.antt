-- The search along the owners that were reached: for `leads_to` and `would_cycle`.
use Rattle.lock_server.proofs.Common.{ℕ, ◌≡◌, ◌≢◌, ◌+◌, ◌<◌, ◌≤◌, ◌∙◌, ◌⊎◌, inl, inr, sym, ap, subst, arith, List, [], ◌∷◌, ◌++◌, Contains, length, get_or, cases_lt, get_or_append_left, get_or_default, length-append, Contains-append_left, Contains-get_or, IsChain}
use Rattle.lock_server.proofs.ChainLemmas.{IsOrLed, first_step, join_led}

-- one step more
pub led_on : (R : ℕ → ℕ → Type 0) (p q r : ℕ) → IsOrLed R p q → R q r → IsOrLed R p r
led_on R p q r led step = join_led R p q r led (inr ([], step))

module _ (R : ℕ → ℕ → Type 0) (GoesOn : ℕ → Type 0) (target : ℕ) (start : List ℕ) where
  -- of what was reached all is led to, and of the first so many each that goes on was followed
  pub record IsSearched (reached : List ℕ) (looked_at : ℕ) : Type 0 where
    pub kept : (owner : ℕ) → Contains start owner → Contains reached owner
    pub led : (owner : ℕ) → Contains reached owner → (first : ℕ) × Contains start first × IsOrLed R first owner
    pub followed : (place other : ℕ) → place < looked_at → R (get_or reached place 0) other → GoesOn other → Contains reached other
    pub not_target : (place : ℕ) → place < looked_at → get_or reached place 0 ≢ target
    pub within : looked_at ≤ length reached

  -- the next one is looked at: it isn't the target, and those to which it leads are put behind
  pub searched_more : (reached more : List ℕ) (looked_at owner : ℕ) → IsSearched reached looked_at → looked_at < length reached
      → owner ≡ get_or reached looked_at owner → owner ≢ target
      → ((other : ℕ) → Contains (reached ++ more) other → Contains reached other ⊎ R owner other)
      → ((other : ℕ) → R owner other → GoesOn other → Contains (reached ++ more) other)
      → IsSearched (reached ++ more) (looked_at + 1)
  searched_more reached more looked_at owner so_far inside is differs only all =
      let here : get_or reached looked_at 0 ≡ owner = get_or_default reached looked_at 0 owner inside ∙ sym is in
      let count = length-append reached more in
      record {
        kept = λ other h. Contains-append_left reached more other (so_far.kept other h);
        led = λ other h. elim (only other h) [
          | inl before ↦ so_far.led other before
          | inr new ↦
              let from = so_far.led owner (subst (λ (n : ℕ). Contains reached n) here (Contains-get_or reached looked_at 0 inside)) in
              (from.0, from.1, led_on R from.0 owner other from.2 new)
        ];
        followed = λ place other before step goes. elim (cases_lt place looked_at) [
          | inl earlier ↦
              (let same : get_or (reached ++ more) place 0 ≡ get_or reached place 0 = get_or_append_left reached more 0 place (omega arith) in
              Contains-append_left reached more other (so_far.followed place other earlier (subst (λ (n : ℕ). R n other) same step) goes))
          | inr past ↦
              (let at : place ≡ looked_at = omega arith in
              let same : get_or (reached ++ more) place 0 ≡ owner = ap (λ k. get_or (reached ++ more) k 0) at ∙ get_or_append_left reached more 0 looked_at inside ∙ here in
              all other (subst (λ (n : ℕ). R n other) same step) goes)
        ];
        not_target = λ place before. elim (cases_lt place looked_at) [
          | inl earlier ↦
              λ e. so_far.not_target place earlier (sym (get_or_append_left reached more 0 place (omega arith)) ∙ e)
          | inr past ↦
              λ e. differs (sym (ap (λ k. get_or (reached ++ more) k 0) (let at : place ≡ looked_at = omega arith in at)
              ∙ get_or_append_left reached more 0 looked_at inside ∙ here) ∙ e)
        ];
        within = omega arith;
      }

  -- the target was reached
  pub searched_found : (reached : List ℕ) (looked_at : ℕ) → IsSearched reached looked_at → Contains reached target
      → (first : ℕ) × Contains start first × IsOrLed R first target
  searched_found reached looked_at so_far among = so_far.led target among

  -- all were looked at: nothing leads to the target
  pub searched_all : (reached : List ℕ) (looked_at : ℕ) → GoesOn target → ((p q : ℕ) → R p q → GoesOn p) → IsSearched reached looked_at
      → length reached ≤ looked_at
      → (first : ℕ) → Contains start first → ¬ IsOrLed R first target
  searched_all reached looked_at target_goes starts so_far past first among leads = elim leads [
    | inl same ↦ no_target (subst (λ (n : ℕ). Contains reached n) same (so_far.kept first among))
    | inr (through, chain) ↦ no_chain first through (so_far.kept first among) chain
  ]
    where
      no_target : ¬ Contains reached target
      no_target (place, inside, is) =
          so_far.not_target place (omega arith) (get_or_default reached place 0 target inside ∙ is)

      follow : (p q : ℕ) → Contains reached p → R p q → GoesOn q → Contains reached q
      follow p q (place, inside, is) step goes =
          so_far.followed place q (omega arith) (subst (λ (n : ℕ). R n q) (sym (get_or_default reached place 0 p inside ∙ is)) step) goes

      no_chain : (p : ℕ) (through : List ℕ) → Contains reached p → ¬ IsChain R p through target
      no_chain p [] there chain = no_target (follow p target there chain target_goes)
      no_chain p (next ∷ through) there chain =
          no_chain next through (follow p next there chain.0 (let on = first_step R next through target chain.1 in starts next on.0 on.1)) chain.1
