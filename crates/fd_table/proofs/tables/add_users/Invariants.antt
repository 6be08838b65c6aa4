use Rattle.fd_table.proofs.Common.{◌≡◌, ℕ, option_map, get, users_in}
use Rattle.std.proofs.Common.{take}
use Rattle.fd_table.specs.Soundness.{with_users}
use Rattle.fd_table.proofs.tables.add_users.Given as goal

-- the places so far are counted
abbrev pub invariant-loop-fd : goal.invariant-loop-fd
invariant-loop-fd l = (key : ℕ) → get l.opened key ≡ option_map (with_users (users_in (take l.fd l.row) key)) (get l.initial.opened key)
