use Rattle.lock_server.proofs.Common.{◌-◌, ◌∷◌, length, take, flat_map, wait_words, file_state, Puts}
use Rattle.lock_server.proofs.file.LockFile.put_waits.Given as goal

abbrev pub invariant-loop-wait : goal.invariant-loop-wait
invariant-loop-wait l =
    Puts (length (file_state l.self).waits ∷ flat_map wait_words (take l.place (file_state l.self).waits)) l.fn.out l.fn.at l.out l.behind

abbrev pub decreases-loop-wait : goal.decreases-loop-wait
decreases-loop-wait l = length (file_state l.self).waits - l.place
