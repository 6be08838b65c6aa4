-- What is told where a call gives a reply: for `Machine::serve`.
use Rattle.lock_manager.proofs.Common.{ℕ, ◌≡◌, ◌≤◌, ◌+◌, arith, length, List, [], Result, Ok, Err, IfOk, OnOk, OnErr, common_steps, Memory, Machine, Sections, Note, Reply, Request, SameMachine, machine_waits}
use Rattle.lock_manager.specs.MachineView.{Answers, TellsBy}
use Rattle.lock_manager.specs.Replies.{IsReplied}

-- a reply is told by its note
pub told_by : (sections : Sections) (old new : Machine) (p n : ℕ) (request asked : Request) (reply : Result Reply Memory) (result : Result (Unit {0}) Memory)
    (before after : List Note)
    → IsReplied p n reply result before after → before ≡ [] → request ≡ asked → IfOk reply (Answers old new p asked)
    → OnOk result (TellsBy sections old new p n request after)
told_by sections old new p n request asked (Ok reply) result before after is none same answers = rw (is.0, is.1, none, same) (λ S h are. answers n S h)
told_by sections old new p n request asked (Err memory) result before after is none same answers = rw is tt

-- and leaves room for a note to each wait
pub few_by : (old new : Machine) (p n capacity : ℕ) (reply : Result Reply Memory) (result : Result (Unit {0}) Memory) (before after : List Note)
    → IsReplied p n reply result before after → before ≡ [] → machine_waits new ≡ machine_waits old → length (machine_waits old) + 2 ≤ capacity
    → OnOk result (length after + length (machine_waits new) ≤ capacity)
few_by old new p n capacity reply result before after is none same room = grind (arith, common_steps)

-- where there is no reply nobody is told
pub untold_by : (old new : Machine) (p n : ℕ) (reply : Result Reply Memory) (result : Result (Unit {0}) Memory) (before after : List Note)
    → IsReplied p n reply result before after → OnErr reply (SameMachine old new) → OnErr result (SameMachine old new)
untold_by old new p n reply result before after is same = grind (arith, common_steps)
