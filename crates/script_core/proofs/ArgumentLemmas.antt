-- Commands and their arguments: for `command_name` and `read_lock`.
use Rattle.script_core.proofs.Common.{false_from_ne_true, common_steps, ◌≡◌, ℕ, ◌<◌, ◌≤◌, ◌^◌, List, [], ◌∷◌, ◌++◌, length, get_or, codes, decimal, ◌⊎◌, false, ℤ, pos, FitsSigned, w64, Ok, Err, Bor, refl, sym, ap, subst, inl, inr, arith, digits, signed_decimal, Lock, LkCmd, Lk, Limits, Cause, texts, lock_command_word, pid_words, Argument, AnyNumber, IsFirstBad, Says, CommandGives}
use Rattle.std.specs.Str.{bytes_eq}
use Rattle.std.proofs.lemmas.Slice.Eq.{bytes_eq-Decides}
use Rattle.script_core.specs.RequestText.{lock_words}
use Rattle.script_core.specs.Arguments.{IsBad, lock_arguments, lock_command}

-- a word that differs from a command's name isn't found under it
pub not_named : (name word : List ℕ) → (word ≡ name → ⊥) → bytes_eq name word ≡ false
not_named name word differ = false_from_ne_true (bytes_eq name word) (λ same. differ (sym ((bytes_eq-Decides name word).0 same)))

-- the texts of a list of this length, one by one
pub five_texts : (xs : List (Bor (List ℕ))) (d : Bor (List ℕ)) → 5 ≤ length xs → length xs < 6
    → texts xs ≡ (get_or xs 0 d).now ∷ (get_or xs 1 d).now ∷ (get_or xs 2 d).now ∷ (get_or xs 3 d).now ∷ (get_or xs 4 d).now ∷ []
five_texts xs d h h2 = grind (arith, common_steps)

pub six_texts : (xs : List (Bor (List ℕ))) (d : Bor (List ℕ)) → 6 ≤ length xs → length xs < 7
    → texts xs ≡ (get_or xs 0 d).now ∷ (get_or xs 1 d).now ∷ (get_or xs 2 d).now ∷ (get_or xs 3 d).now ∷ (get_or xs 4 d).now ∷ (get_or xs 5 d).now ∷ []
six_texts xs d at_least below = grind (arith, common_steps, five_texts)

-- what is first bad stays so with more words behind it
pub IsFirstBad-append : (arguments more : List Argument) (words others : List (List ℕ)) (cause : Cause)
    → IsFirstBad arguments words cause → IsFirstBad (arguments ++ more) (words ++ others) cause
IsFirstBad-append [] more words others cause bad = absurd bad
IsFirstBad-append (argument ∷ arguments) more [] others cause bad = absurd bad
IsFirstBad-append (argument ∷ arguments) more (word ∷ words) others cause (inl good) =
    inl (good.0, IsFirstBad-append arguments more words others cause good.1)
IsFirstBad-append (argument ∷ arguments) more (word ∷ words) others cause (inr bad) = inr bad

pub bad_bare_lock : (limits : Limits) (name fd kind whence start len : List ℕ) (cause : Cause)
    → IsFirstBad lock_arguments (fd ∷ kind ∷ whence ∷ start ∷ len ∷ []) cause
    → CommandGives limits (name ∷ fd ∷ kind ∷ whence ∷ start ∷ len ∷ []) (lock_command name) (fd ∷ kind ∷ whence ∷ start ∷ len ∷ []) (Err cause)
bad_bare_lock limits name fd kind whence start len cause bad = grind (arith, common_steps, IsFirstBad-append)

pub bad_lock : (limits : Limits) (name fd kind whence start len pid : List ℕ) (cause : Cause)
    → IsFirstBad lock_arguments (fd ∷ kind ∷ whence ∷ start ∷ len ∷ []) cause
    → CommandGives limits (name ∷ fd ∷ kind ∷ whence ∷ start ∷ len ∷ pid ∷ []) (lock_command name) (fd ∷ kind ∷ whence ∷ start ∷ len ∷ pid ∷ []) (Err cause)
bad_lock limits name fd kind whence start len pid cause bad = grind (arith, common_steps, IsFirstBad-append)

pub bad_pid : (limits : Limits) (name : List ℕ) (words : List (List ℕ)) (pid : List ℕ) (fd : ℕ) (lock : Lock) (cause : Cause) → words ≡ lock_words fd lock
    → fd < 2 ^ 32 → FitsSigned w64 lock.start → FitsSigned w64 lock.len → IsBad AnyNumber pid cause
    → CommandGives limits (name ∷ (words ++ pid ∷ [])) (lock_command name) (words ++ pid ∷ []) (Err cause)
bad_pid limits name words pid fd lock cause spelled small start len bad = grind (arith, common_steps)

zero_pid : decimal 0 ≡ codes "0"
unfolding digits
zero_pid = refl

-- a pid that is written is one that the text writes, or 0
pub written_pid : (z : ℤ) → (z ≡ pos 0) ⊎ (signed_decimal z ∷ [] ≡ pid_words z)
written_pid z = grind (arith, common_steps)

written_zero : (z : ℤ) → z ≡ pos 0 → signed_decimal z ∷ [] ≡ pid_words z ++ codes "0" ∷ []
written_zero z e = subst (λ z. signed_decimal z ∷ [] ≡ pid_words z ++ codes "0" ∷ []) (sym e) (ap (λ word. word ∷ []) zero_pid)

says_lock : (cmd : LkCmd) (fd : ℕ) (lock : Lock) → (lock.pid ≡ pos 0) ⊎ (signed_decimal lock.pid ∷ [] ≡ pid_words lock.pid)
    → Says (lock_command_word cmd ∷ (lock_words fd lock ++ signed_decimal lock.pid ∷ [])) (Lk fd cmd lock)
says_lock cmd fd lock h = grind (arith, common_steps, written_zero)

pub good_lock : (limits : Limits) (cmd : LkCmd) (words : List (List ℕ)) (pid : List ℕ) (fd : ℕ) (lock : Lock) (z : ℤ) → words ≡ lock_words fd lock
    → pid ≡ signed_decimal z
    → fd < 2 ^ 32 → FitsSigned w64 lock.start → FitsSigned w64 lock.len → FitsSigned w64 z
    → CommandGives limits (lock_command_word cmd ∷ (words ++ pid ∷ [])) (lock_command (lock_command_word cmd)) (words
    ++ pid ∷ []) (Ok (Lk fd cmd (record lock { pid = z })))
good_lock limits cmd words pid fd lock z spelled written small start len fits =
    subst (λ ws. CommandGives limits (lock_command_word cmd ∷ (ws ++ pid ∷ [])) (lock_command (lock_command_word cmd)) (ws ++ pid ∷ []) (Ok (Lk fd cmd (record lock { pid = z })))) (sym spelled)
    (subst (λ word. CommandGives limits (lock_command_word cmd ∷ (lock_words fd lock ++ word ∷ [])) (lock_command (lock_command_word cmd)) (lock_words fd lock ++ word ∷ []) (Ok (Lk fd cmd (record lock { pid = z })))) (sym written)
    (inr (Lk fd cmd (record lock { pid = z }), record { says = says_lock cmd fd (record lock { pid = z }) (written_pid z); writable = (small, start, len, fits) }, refl)))
