-- What a status tells, from what the server's call says of its answer: for the exports of the calls that are answered.
use Rattle.std.proofs.Common.{arith, ◌↔◌, Option, Some, Result, Err, IfOk, OnErr, ◌≡◌, ℕ}
use Rattle.std.proofs.lemmas.Grind.{common_steps}
use lib.Dec.{T}
use Rattle.range_core.specs.declared.memory.Memory.{Memory}
use Rattle.lock_server.specs.declared.Answer.{Answer}
use Rattle.lock_server.specs.declared.WaitAnswer.{WaitAnswer}
use Rattle.lock_server.specs.declared.WaitFault.{WaitFault}
use Rattle.lock_server.specs.declared.WaitFault.TheVariants as fault
use Rattle.lock_server.specs.declared.Rules.{Rules}
use Rattle.lock_server.specs.declared.server.LockServer.{LockServer}
use Rattle.lock_server.specs.ServerView.{rules_of, state_of}
use Rattle.lock_server.specs.States.{State, SameState, IsTaken}
use Rattle.lock_server_c.specs.declared.handle.Handle.{Handle}
use Rattle.lock_server_c.specs.declared.status.TheConstants.{TICKET_TAKEN}
use Rattle.lock_server_c.specs.Owned.{Has}
use Rattle.lock_server_c.specs.Told.{AnswerTold, WaitTold, AnswersWait, status_of, wait_status_of}

pub answer_told : (answer : Result Answer Memory) (S T : State) (comes_to : Answer → Type 0)
    → IfOk answer comes_to → OnErr answer (SameState S T) → AnswerTold (status_of answer) S T comes_to
answer_told answer S T comes_to ok err = grind (arith, common_steps)

pub wait_told : (answer : Result WaitAnswer WaitFault) (S T : State) (comes_to : WaitAnswer → Type 0)
    → IfOk answer comes_to → OnErr answer (SameState S T) → WaitTold (wait_status_of answer) S T comes_to
wait_told answer S T comes_to ok err = grind (arith, common_steps)

-- the status that says that the ticket is taken is that of no other answer
taken_alone : (answer : Result WaitAnswer WaitFault) → wait_status_of answer ≡ TICKET_TAKEN → answer ≡ Err fault.TicketTaken
taken_alone answer e = grind (arith, common_steps)

-- so it says just what the answer says, of the server in the handle
pub taken_told : (handle : Option LockServer) (server : LockServer) (answer : Result WaitAnswer WaitFault) (status ticket : ℕ)
    → handle ≡ Some server → status ≡ wait_status_of answer → (answer ≡ Err fault.TicketTaken) ↔ IsTaken (state_of server) ticket
    → Has handle (λ held. (status ≡ TICKET_TAKEN) ↔ IsTaken (state_of held) ticket)
taken_told handle server answer status ticket before told_by known = grind (arith, common_steps, taken_alone)

-- what a request that may wait tells, of the servers in the handle before and after
pub wait_goes : (old new : Handle) (server next : LockServer) (answer : Result WaitAnswer WaitFault) (status : ℕ)
    (comes_to : Rules → State → WaitAnswer → State → Type 0)
    → old.server ≡ Some server → new.server ≡ Some next → status ≡ wait_status_of answer → rules_of next ≡ rules_of server
    → IfOk answer (λ a. comes_to (rules_of server) (state_of server) a (state_of next)) → OnErr answer (SameState (state_of server) (state_of next))
    → AnswersWait old new status comes_to
wait_goes old new server next answer status comes_to before after told_by same ok err = grind (arith, common_steps, wait_told)
