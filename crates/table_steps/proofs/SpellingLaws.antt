-- The six words determine the request, and the answer: for `read_request`.
use Rattle.table_steps.proofs.Common.{rules, arith, ◌≡◌, ◌≢◌, ◌<◌, get_or, ℕ, ◌+◌, ◌%◌, refl, sym, ap, ◌∙◌, Bool, List, [], ◌∷◌, common_steps, Request, Reply, request_spelled, RequestFits, answer_spelled, ReplyFits}
use Rattle.std.proofs.Common.{◌^◌, ◌*◌, ◌/◌}
use Rattle.std.specs.Prelude.{ℤ}
use Rattle.std.specs.Int.RustNames.{FitsSigned}
use Rattle.std.proofs.lemmas.Int.{to_z-of_z}
use mir.Syntax.{w64}
use Rattle.range_core.specs.declared.Mode.{Mode}
use Rattle.range_core.specs.declared.Mode.TheVariants as modes
use Rattle.range_core.specs.declared.Kind.{Kind}
use Rattle.range_core.specs.declared.Whence.{Whence}
use Rattle.fd_table.specs.declared.Access.{Access}
use Rattle.lock_manager.specs.declared.request.Lock.{Lock}
use Rattle.lock_manager.specs.declared.request.LkCmd.{LkCmd}
use Rattle.lock_manager.specs.declared.request.LkCmd.TheVariants as commands
use Rattle.lock_manager.specs.declared.request.FlockOp.{FlockOp}
use Rattle.lock_manager.specs.declared.request.Request.TheVariants.{Lk, Exit}
use Rattle.lock_manager.specs.declared.request.Visit.{Visit}
use Rattle.lock_manager.specs.declared.request.Errno.{Errno}
use Rattle.lock_manager.specs.declared.request.Reply.TheVariants as replies
use Rattle.table_steps.specs.Spelling.{word_of, number_in, access_code, access_in, mode_code, mode_in, kind_code, kind_in, whence_code, whence_in, op_code, op_in, visit_code, visit_of_code, flag_code, flag_in, command_code, command_in, request_of_words, lock_in, error_code, error_in, reply_of_words}

-- a function of the six words
abbrev pub of_six : {X : Type 0} → (ℕ → ℕ → ℕ → ℕ → ℕ → ℕ → X) → X → List ℕ → X
of_six f x [] = x
of_six f x (a ∷ []) = x
of_six f x (a ∷ b ∷ []) = x
of_six f x (a ∷ b ∷ c ∷ []) = x
of_six f x (a ∷ b ∷ c ∷ d ∷ []) = x
of_six f x (a ∷ b ∷ c ∷ d ∷ e ∷ []) = x
of_six f x (a ∷ b ∷ c ∷ d ∷ e ∷ g ∷ more) = f a b c d e g

abbrev pub request_in : List ℕ → Request
request_in words = of_six request_of_words Exit words

access_back : (a : Access) → access_in (access_code a) ≡ a
access_back a = grind (arith, common_steps)

mode_back : (m : Mode) → mode_in (mode_code m) ≡ m
mode_back modes.Read = refl
mode_back modes.Write = refl

op_back : (o : FlockOp) (nb : Bool) → op_in ((2 * op_code o + flag_code nb) / 2) ≡ o
op_back o nb = grind (arith, common_steps)

visit_back : (v : Visit) → visit_of_code (visit_code v) ≡ v
visit_back v = grind (arith, common_steps)

flag_back : (o : FlockOp) (nb : Bool) → flag_in ((2 * op_code o + flag_code nb) % 2) ≡ nb
flag_back o nb = grind (arith, common_steps)

kind_back : (w : Whence) (k : Kind) → kind_in ((3 * whence_code w + kind_code k) % 3) ≡ k
kind_back w k = grind (arith, common_steps)

whence_back : (w : Whence) (k : Kind) → whence_in ((3 * whence_code w + kind_code k) / 3) ≡ w
whence_back w k = grind (arith, common_steps)

number_back : (z : ℤ) → FitsSigned w64 z → number_in (word_of z) ≡ z
number_back z fits = to_z-of_z w64 z fits

lock_back : (l : Lock) → FitsSigned w64 l.start → FitsSigned w64 l.len → FitsSigned w64 l.pid
    → lock_in (3 * whence_code l.whence + kind_code l.kind) (word_of l.start) (word_of l.len) (word_of l.pid) ≡ l
lock_back l start len pid = grind (arith, common_steps, kind_back, whence_back, number_back)

command_back : (fd c d e f : ℕ) (command : LkCmd) → request_of_words (command_code command) fd c d e f ≡ Lk fd
    command (lock_in c d e f)
command_back fd c d e f commands.GetLk = refl
command_back fd c d e f commands.SetLk = refl
command_back fd c d e f commands.SetLkW = refl
command_back fd c d e f commands.OGetLk = refl
command_back fd c d e f commands.OSetLk = refl
command_back fd c d e f commands.OSetLkW = refl

pub request_back : (r : Request) → RequestFits r → request_in (request_spelled r) ≡ r
request_back r h = grind (arith, common_steps, access_back, number_back, command_back, lock_back, op_back, flag_back, visit_back)

-- the spelling determines the request
pub one_request : (r s : Request) → RequestFits r → RequestFits s → request_spelled r ≡ request_spelled s → r ≡ s
one_request r s fits gits same = sym (request_back r fits) ∙ ap request_in same ∙ request_back s gits

error_back : (e : Errno) → error_in (error_code e) ≡ e
error_back e = grind (arith, common_steps)

abbrev pub answer_in : List ℕ → Reply × ℕ
answer_in words = of_six (λ a b c d e place. (reply_of_words a b c d e, place)) (replies.Ok, 0) words

pub answer_back : (r : Reply) (place : ℕ) → ReplyFits r → answer_in (answer_spelled r place) ≡ (r, place)
answer_back r place h = grind (arith, common_steps, mode_back, number_back, error_back)

-- the spelling determines the answer and its place
pub one_answer : (r s : Reply) (place other : ℕ) → ReplyFits r → ReplyFits s → answer_spelled r place ≡ answer_spelled s other
    → (r ≡ s) × (place ≡ other)
one_answer r s place other fits gits same = grind (arith, common_steps, answer_back)

-- what six words that spell a lock command are read as
pub lock_read : (words : List ℕ) (r : Request) (fd : ℕ) (command : LkCmd) (lock : Lock) → RequestFits r → words ≡ request_spelled r
    → (get_or words 0 0 ≢ 1) × (get_or words 0 0 ≢ 2) × (get_or words 0 0 ≢ 3) × (get_or words 0 0 ≢ 4)
    × (get_or words 0 0 ≢ 5) × (get_or words 0 0 ≢ 6)
    → (get_or words 0 0 ≢ 13) × (get_or words 0 0 ≢ 14) × (get_or words 0 0 ≢ 15) × (get_or words 0 0 ≢ 16)
    × (get_or words 0 0 ≢ 17) × (get_or words 0 0 ≢ 18) × (get_or words 0 0 ≢ 19) × (get_or words 0 0 ≢ 20)
    → (get_or words 1 0 < 2 ^ 32 → fd ≡ get_or words 1 0) → command ≡ command_in (get_or words 0 0)
    → lock ≡ lock_in (get_or words 2 0) (get_or words 3 0) (get_or words 4 0) (get_or words 5 0) → Lk fd command lock ≡ r
lock_read words r fd command lock h h2 h3 h4 h5 h6 h7 = search (rules, lock_back)
