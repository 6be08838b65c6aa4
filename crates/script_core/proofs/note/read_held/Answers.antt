use Rattle.script_core.proofs.Common.{common_steps, ◌≡◌, [], ◌∷◌, ℕ, ◌<◌, ◌≤◌, List, length, get_or, Bor, refl, inl, inr, rules, arith, err_from_is_err_and, texts}
use Rattle.script_core.proofs.note.read_held.Goals as goal

nothing : Bor (List ℕ)
nothing = record { ref_ptr = (0, 0); now = [] }

four_texts : (xs : List (Bor (List ℕ))) (d : Bor (List ℕ)) → 4 ≤ length xs → length xs < 5
    → texts xs ≡ (get_or xs 0 d).now ∷ (get_or xs 1 d).now ∷ (get_or xs 2 d).now ∷ (get_or xs 3 d).now ∷ []
four_texts xs d h h2 = grind (arith, common_steps)

pub returns-in_err-len : goal.returns-in_err-len
unfolding nothing
returns-in_err-len c =
    let failed = err_from_is_err_and c.from_residual-in_err-len.result c.from_residual-in_err-len.ensures.1 in
    rw (failed.1, failed.2, four_texts c.args.arguments.now nothing c.in-len4.len_at_least c.in-len4.len_below)
    (inl (_, inl ((c.in_ok-mode.mode, c.in_ok-mode.ensures), inl ((c.in_ok-start.start, search rules, c.in_ok-start.ensures), inr c.in_err-len.ensures)), refl))

pub returns-in_err-pid : goal.returns-in_err-pid
unfolding nothing
returns-in_err-pid c =
    let failed = err_from_is_err_and c.from_residual-in_err-pid.result c.from_residual-in_err-pid.ensures.1 in
    rw (failed.1, failed.2, four_texts c.args.arguments.now nothing c.in-len4.len_at_least c.in-len4.len_below)
    (inl (
      _,
      inl (
        (c.in_ok-mode.mode, c.in_ok-mode.ensures),
        inl (
          (c.in_ok-start.start, search rules, c.in_ok-start.ensures),
          inl ((c.in_ok-len.len, search rules, c.in_ok-len.ensures), inr c.in_err-pid.ensures),
        ),
      ),
      refl,
    ))
