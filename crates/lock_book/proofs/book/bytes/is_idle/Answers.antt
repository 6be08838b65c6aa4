use Rattle.lock_book.proofs.Common.{sym, ◌∙◌}
use Rattle.lock_book.proofs.book.bytes.is_idle.Goals as goal

pub returns-then-room-eq0 : goal.returns-then-room-eq0
returns-then-room-eq0 c = (
  λ yes. record { free = c.is_empty.ensures.free.0 yes; no_room = sym c.room.ensures ∙ c.if-room-eq0.true },
  λ idle. c.is_empty.ensures.free.1 idle.free,
)
