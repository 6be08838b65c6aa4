use Rattle.script_core.proofs.Common.{common_steps, ◌≡◌, ℕ, ◌-◌, ◌≤◌, [], ◌∷◌, List, length, drop, take, get_or, false, codes, Result, Ok, Err, MatchResult, Bor, arith, bytes_eq, err_from_is_err_and, Reply, Note, Answer, Cause, texts, ReplyGives, ToldGives}
use Rattle.script_core.proofs.note.read_told.Goals as goal

nothing : Bor (List ℕ)
nothing = record { ref_ptr = (0, 0); now = [] }

-- the first of the texts, and those behind it
first_text : (xs : List (Bor (List ℕ))) (d : Bor (List ℕ)) → 1 ≤ length xs → texts xs ≡ (get_or xs 0 d).now ∷ texts (take (length xs - 1) (drop 1 xs))
first_text xs d some = grind (arith, common_steps)

-- words of which the first isn't `waits` tell a reply
tells_reply : (p n : ℕ) (words : List (List ℕ)) (name : List ℕ) (arguments : List (List ℕ)) (next : Result Reply Cause) (result : Result Note Cause)
    → words ≡ name ∷ arguments → bytes_eq name (codes "waits") ≡ false → ReplyGives name arguments next
    → MatchResult next (λ reply. result ≡ Ok (Answer p n reply)) (λ cause. result ≡ Err cause) → ToldGives p n words result
tells_reply p n words name arguments next result are other gives then = rw (are, other) (next, gives, then)

pub returns-in_err-reply : goal.returns-in_err-reply
unfolding nothing
returns-in_err-reply c = grind (arith, common_steps, err_from_is_err_and, tells_reply, first_text, nothing)

pub returns : goal.returns
unfolding nothing
returns c = grind (arith, common_steps, tells_reply, first_text, nothing)
