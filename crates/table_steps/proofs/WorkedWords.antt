-- The worked values of crates/call_table/README.md.
use Rattle.table_steps.proofs.Common.{◌≡◌, ℕ, ◌+◌, refl, index_of, words_of, request_cell, answer_cell, request_spelled}
use Rattle.std.proofs.Common.{pos, negsuc}
use Rattle.range_core.specs.declared.Kind.TheVariants.{Write}
use Rattle.range_core.specs.declared.Whence.TheVariants.{Set}
use Rattle.lock_manager.specs.declared.request.LkCmd.TheVariants.{SetLk}
use Rattle.lock_manager.specs.declared.request.Request.TheVariants.{Lk}
use Rattle.table_steps.specs.Spelling.{six}

-- how many words there are: for two processes at depth 1, and in the largest table
pub words_of_two : words_of 2 1 ≡ 31
words_of_two = refl

pub words_of_most : words_of 64 32 ≡ 24769
words_of_most = refl

-- of two processes at depth 4, the words of the fifth request of process 1, and of the answer to it
pub fifth_request : (i : ℕ) → index_of 2 4 (request_cell 4 1 4 i) ≡ 7 + i
fifth_request i = refl

pub fifth_answer : (i : ℕ) → index_of 2 4 (answer_cell 4 1 4 i) ≡ 31 + i
fifth_answer i = refl

-- setlk 0 w set 10 -10
pub set_spelled :
    request_spelled (Lk 0 SetLk (record { kind = Write; whence = Set; start = pos 10; len = negsuc 9; pid = pos 0 }))
    ≡ six 8 0 1 10 18446744073709551606 0
set_spelled = refl
