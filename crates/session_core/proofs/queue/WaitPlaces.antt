-- A wait in the list of waits: what stands before it and behind it, while others join and leave.
use Rattle.session_core.proofs.Common.{arith, ℕ, ◌≡◌, ◌≢◌, ◌⊎◌, inl, inr, refl, sym, ◌∙◌, ap, subst, ne_eqb, List, [], ◌∷◌, ◌++◌, ⊎_elim, Any, common_steps, cases_eq, Wait, without_wait_of, WaitsConflict, Note, Answer}
use Rattle.std.specs.List.{AllByRecursion as Each}
use Rattle.lock_manager.specs.declared.request.Reply.TheVariants as replies
use Rattle.session_core.proofs.tallies.Tally.{Each-append, Each-map, Each-middle}
use Rattle.session_core.proofs.tallies.Moves.{without_wait-each}
use Rattle.session_core.proofs.queue.AnyLemmas.{Any-here, Any-there}

-- v stands in the list, waits of which P holds before it, and waits of which Q holds behind it
abbrev pub StandsIn : (P Q : Wait → Type 0) → Wait → List Wait → Type 0
StandsIn P Q v [] = ⊥
StandsIn P Q v (x ∷ waits) = ((x ≡ v) × Each Q waits) ⊎ (P x × StandsIn P Q v waits)

module _ (P Q : Wait → Type 0) (v : Wait) where
  -- one joins behind it
  pub StandsIn-push : (waits : List Wait) (x : Wait) → Q x → StandsIn P Q v waits → StandsIn P Q v (waits ++ x ∷ [])
  StandsIn-push [] x q h = absurd h
  StandsIn-push (y ∷ waits) x q (inl h) = inl (h.0, Each-append Q waits (x ∷ []) h.1 (q, tt))
  StandsIn-push (y ∷ waits) x q (inr h) = inr (h.0, StandsIn-push waits x q h.1)

  -- it joins
  pub StandsIn-last : (waits : List Wait) → Each P waits → StandsIn P Q v (waits ++ v ∷ [])
  StandsIn-last [] h = inl (refl, tt)
  StandsIn-last (x ∷ waits) h = inr (h.0, StandsIn-last waits h.1)

  -- one leaves, and it stays
  pub StandsIn-middle : (before : List Wait) (x : Wait) (after : List Wait) → StandsIn P Q v (before ++ x ∷ after)
      → (x ≡ v) ⊎ StandsIn P Q v (before ++ after)
  StandsIn-middle [] x after (inl h) = inl h.0
  StandsIn-middle [] x after (inr h) = inr h.1
  StandsIn-middle (y ∷ before) x after (inl h) = inr (inl (h.0, (Each-middle Q before x after h.1).1))
  StandsIn-middle (y ∷ before) x after (inr h) = grind (arith, common_steps, StandsIn-middle before x after)

  -- one of the list is it, or stands before it, or stands behind it
  pub StandsIn-where : (before : List Wait) (x : Wait) (after : List Wait) → StandsIn P Q v (before ++ x ∷ after)
      → (x ≡ v) ⊎ P x ⊎ (Q x × Any (λ u. u ≡ v) before)
  StandsIn-where [] x after (inl h) = inl h.0
  StandsIn-where [] x after (inr h) = inr (inl h.0)
  StandsIn-where (y ∷ before) x after (inl h) =
      inr (inr ((Each-middle Q before x after h.1).0, Any-here (λ u. u ≡ v) y before h.0))
  StandsIn-where (y ∷ before) x after (inr h) =
      ⊎_elim (λ same. inl same)
      (λ rest. ⊎_elim (λ p. inr (inl p)) (λ behind. inr (inr (behind.0, Any-there (λ u. u ≡ v) y before behind.1))) rest)
      (StandsIn-where before x after h.1)

  -- the wait of another process leaves
  pub StandsIn-without : (q : ℕ) (waits : List Wait) → v.p ≢ q → StandsIn P Q v waits → StandsIn P Q v (without_wait_of waits q)
  StandsIn-without q [] other h = absurd h
  StandsIn-without q (x ∷ waits) other (inl h) =
      rw (ne_eqb x.p q (λ e. other (sym (ap (λ (w : Wait). w.p) h.0) ∙ e))) (inl (h.0, without_wait-each Q q waits h.1))
  StandsIn-without q (x ∷ waits) other (inr h) = grind (arith, common_steps, StandsIn-without q waits, cases_eq)

  -- what holds of each in the list holds of it
  pub StandsIn-each : (R : Wait → Type 0) (waits : List Wait) → Each R waits → StandsIn P Q v waits → R v
  StandsIn-each R [] all h = absurd h
  StandsIn-each R (x ∷ waits) all (inl h) = subst R h.0 all.0
  StandsIn-each R (x ∷ waits) all (inr h) = StandsIn-each R waits all.1 h.1

  -- and of those before and behind it
  pub StandsIn-among : (R : Wait → Type 0) (waits : List Wait) → Each R waits → StandsIn P Q v waits → StandsIn R R v waits
  StandsIn-among R [] all h = absurd h
  StandsIn-among R (x ∷ waits) all (inl h) = inl (h.0, all.1)
  StandsIn-among R (x ∷ waits) all (inr h) = inr (all.0, StandsIn-among R waits all.1 h.1)

-- what is weaker holds of those before and behind it
pub StandsIn-weaker : (P Q R U : Wait → Type 0) (v : Wait) → ((x : Wait) → P x → R x) → ((x : Wait) → Q x → U x) → (waits : List Wait)
    → StandsIn P Q v waits → StandsIn R U v waits
StandsIn-weaker P Q R U v f g [] h = h
StandsIn-weaker P Q R U v f g (x ∷ waits) (inl h) = inl (h.0, Each-map Q U waits g h.1)
StandsIn-weaker P Q R U v f g (x ∷ waits) (inr h) = inr (f x h.0, StandsIn-weaker P Q R U v f g waits h.1)

-- of any wait
abbrev pub Anything : Wait → Type 0
Anything x = Unit {0}

pub Each-anything : (waits : List Wait) → Each Anything waits
Each-anything [] = tt
Each-anything (x ∷ waits) = (tt, Each-anything waits)

-- by these grants the list goes down to what is left: each is of a wait that conflicts with none before it
abbrev pub Passes : List Wait → List Note → List Wait → Type 0
Passes waits [] left = left ≡ waits
Passes waits (note ∷ notes) left =
    (before : List Wait) × (wait : Wait) × (after : List Wait) × (waits ≡ before ++ wait ∷ after)
    × (¬ Any (λ v. WaitsConflict v wait) before) × (note ≡ Answer wait.p wait.n replies.Ok) × Passes (before ++ after) notes left

pub Passes-then : (waits : List Wait) (first : List Note) (middle : List Wait) (second : List Note) (left : List Wait)
    → Passes waits first middle → Passes middle second left → Passes waits (first ++ second) left
Passes-then waits [] middle second left h k = subst (λ l. Passes l second left) h k
Passes-then waits (note ∷ first) middle second left h k =
    (h.0, h.1, h.2, h.3, h.4, h.5, Passes-then (h.0 ++ h.2) first middle second left h.6 k)
