-- What a server stands for (the words are this project's choice).
use Rattle.std.specs.Prelude.{◌↔◌, ℕ, Option}
use Rattle.lock_server.specs.declared.Rules.{Rules}
use Rattle.lock_server.specs.declared.server.LockServer.{LockServer}
use Rattle.lock_server.specs.Files.{SameFile, untouched}
use Rattle.lock_server.specs.OpeningsView.{through_at}
use Rattle.lock_server.specs.TableView.{HasEntry, table_state}
use Rattle.lock_server.specs.Safety.{IsSafe}
use Rattle.lock_server.specs.States.{State}

-- the state that a server stands for
unfoldable pub state_of : LockServer → State
state_of server = table_state server.table

-- the rules of a server
unfoldable pub rules_of : LockServer → Rules
rules_of server = server.rules

-- by file and owner: the open file through which the owner was last seen there, and not flushed since
unfoldable pub through_of : LockServer → ℕ → ℕ → Option ℕ
through_of server = through_at server.openings

-- the server has an entry for the file, which takes memory
unfoldable pub KeepsFile : LockServer → ℕ → Type 0
KeepsFile server file = HasEntry server.table file

-- of any server: no owners conflict, each wait is blocked, no detected waits close a cycle of owners that were given nothing since they
-- wait, and each ticket is there once (POSIX.1-2017 fcntl; flock(2))
abbrev pub ServersAreSafe : Type 0
ServersAreSafe = (server : LockServer) → ∥ IsSafe (rules_of server).policy (state_of server) ∥₁

-- any server has an entry for just the files with a lock or a wait
abbrev pub FilesAreKeptWhileInUse : Type 0
FilesAreKeptWhileInUse = (server : LockServer) (file : ℕ) → KeepsFile server file ↔ (¬ SameFile ((state_of server).files file) untouched)
