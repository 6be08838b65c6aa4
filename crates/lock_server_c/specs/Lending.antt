-- What is lent of a handle.
use Rattle.std.specs.Prelude.{Some}
use Rattle.std.specs.Borrow.{Lends, MutBor, Fml}
use Rattle.lock_server.specs.declared.server.LockServer.{LockServer}
use Rattle.lock_server.specs.contracts.server.LockServer as server
use Rattle.lock_server_c.specs.declared.handle.Handle.{Handle}
use Rattle.lock_server_c.specs.contracts.handle.Handle.{the_row}

-- the handle with this server behind the same pointer (this project's choice)
abbrev pub with_server : Handle → LockServer → Handle
with_server handle held = record { at = handle.at; server = Some held }

-- once the borrow ends, the handle has the server that was left behind it (this project's choice)
abbrev pub LendsServer : MutBor Handle → MutBor LockServer → Fml
LendsServer handle lent = Lends the_row server.the_row handle lent (with_server handle.now)
