-- The faults of a run, and the exit status of each.
use Rattle.std.specs.Prelude.{◌≡◌, ℕ, Bool, IsTrue, ⊤, List, Err}
use Rattle.range_core.specs.declared.Memory.{Memory}
use Rattle.script_core.specs.declared.script.Cause.TheVariants as causes
use Rattle.script_core.specs.declared.script.ScriptFault.{ScriptFault}
use Rattle.script_core.specs.Reading.{Reads, IsOfScript}
use Rattle.replay_core.specs.declared.replays.RunFault.{RunFault}
use Rattle.replay_core.specs.declared.replays.RunFault.TheVariants as faults

-- a faulty script ends with 2, and all else that goes wrong with 1 (this project's choice)
abbrev pub status_of : RunFault → ℕ
status_of faults.Read = 1
status_of faults.Write = 1
status_of (faults.Memory memory) = 1
status_of (faults.Script fault) = 2
status_of faults.Thread = 1

-- the fault of a run whose script has this one: want of memory is the run's own
pub record IsFaultOfScript (fault : ScriptFault) (run : RunFault) : Type 0 where
  pub memory : (memory : Memory) → fault.cause ≡ causes.Memory memory → run ≡ faults.Memory memory
  pub script : IsOfScript fault.cause → run ≡ faults.Script fault

-- the fault is want of memory
abbrev pub IsWantOfMemory : RunFault → Type 0
IsWantOfMemory fault = (memory : Memory) × (fault ≡ faults.Memory memory)

-- reading ends so: the source failed, or a growth was refused
abbrev pub IsReadFault : Bool → RunFault → Type 0
IsReadFault failed faults.Read = IsTrue failed
IsReadFault failed (faults.Memory memory) = ⊤
IsReadFault failed faults.Write = ⊥
IsReadFault failed (faults.Script fault) = ⊥
IsReadFault failed faults.Thread = ⊥

-- bytes have no output for this: they are no script, and have this fault, or a growth was refused
abbrev pub IsOutputFault : List ℕ → RunFault → Type 0
IsOutputFault bytes (faults.Script fault) = Reads bytes (Err fault)
IsOutputFault bytes (faults.Memory memory) = ⊤
IsOutputFault bytes faults.Read = ⊥
IsOutputFault bytes faults.Write = ⊥
IsOutputFault bytes faults.Thread = ⊥

-- bytes whose processes run in threads have no output for this: they are no script, and have this fault, or a growth or a thread
-- was refused
abbrev pub IsThreadOutputFault : List ℕ → RunFault → Type 0
IsThreadOutputFault bytes (faults.Script fault) = Reads bytes (Err fault)
IsThreadOutputFault bytes (faults.Memory memory) = ⊤
IsThreadOutputFault bytes faults.Thread = ⊤
IsThreadOutputFault bytes faults.Read = ⊥
IsThreadOutputFault bytes faults.Write = ⊥
