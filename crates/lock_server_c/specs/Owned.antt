-- What a handle owns.
use Rattle.std.specs.Prelude.{Option, Some, None}
use base.Fml.{Fml, ftrue}
use denote.RawPtr.{Ptr}
use Rattle.std.specs.contracts.impls.GlobalAllocator.TheImpl.{ghosts}
use Rattle.std.specs.contracts.alloc.Global as heap
use Rattle.std_alloc.specs.Box.Ownership.{box_owns}
use Rattle.lock_server.specs.declared.server.LockServer.{LockServer}
use Rattle.lock_server.specs.contracts.server.LockServer.{the_row}

-- the handle of the C library's heap, which is one value (this project's choice)
abbrev pub the_heap : heap.the_row.Denot
the_heap = record { memory = record { seal = tt } }

-- the box with the server behind the pointer, or nothing (this project's choice)
abbrev pub handle_owns : Ptr → Option LockServer → Fml
handle_owns at None = ftrue
handle_owns at (Some server) = box_owns (ghosts.dealloc_token the_heap) the_row at server

-- the handle has a server, and it is so (this project's choice)
abbrev pub Has : Option LockServer → (LockServer → Type 0) → Type 0
Has None holds = ⊥
Has (Some server) holds = holds server

-- the handle has a server before the call and after it, and the two are so (this project's choice)
abbrev pub BothHave : Option LockServer → Option LockServer → (LockServer → LockServer → Type 0) → Type 0
BothHave None new holds = ⊥
BothHave (Some old) new holds = Has new (holds old)
