-- Which waits leave a file (the words are this project's choice).
use Rattle.std.specs.Prelude.{Bool, true, not}
use Rattle.lock_server.specs.declared.Pending.{Pending}
use Rattle.lock_server.specs.declared.leaving.Leaving.{Leaving}
use Rattle.lock_server.specs.declared.leaving.Leaving.TheVariants.{BytesOf, Of, All}
use Rattle.lock_server.specs.Clients.{is_within}
use Rattle.lock_server.specs.Pendings.{is_byte_wait}

-- whether the wait is one of those that leave
abbrev pub is_leaving : Leaving → Pending → Bool
is_leaving (BytesOf owner) wait = is_byte_wait owner wait
is_leaving (Of owners) wait = is_within owners.first owners.last wait.owner
is_leaving All wait = true

-- whether it is one of those that stay
abbrev pub is_staying : Leaving → Pending → Bool
is_staying leaving wait = not (is_leaving leaving wait)
