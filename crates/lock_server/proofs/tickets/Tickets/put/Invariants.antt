use Rattle.lock_server.proofs.Common.{◌∷◌, length, take, flat_map, number_words, grants_of, Puts}
use Rattle.lock_server.proofs.tickets.Tickets.put.Given as goal

abbrev pub invariant-loop-i : goal.invariant-loop-i
invariant-loop-i l = Puts (length (grants_of l.self) ∷ flat_map number_words (take l.i (grants_of l.self))) l.fn.out l.fn.at l.out l.behind
