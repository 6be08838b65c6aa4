-- What is written in several calls: for `write_all`.
use Rattle.replay_core.proofs.Common.{rules, ◌≡◌, ℕ, ◌++◌, List, take, drop, Option, append_assoc, take-append-drop, Appends}
use Rattle.std.proofs.KnownBytes.{Appends-trans}

-- all of the text but the rest was written
pub record HasWritten (old new : Option (List ℕ)) (text rest : List ℕ) : Type 0 where
  pub front : List ℕ
  pub is : text ≡ front ++ rest
  pub appended : Appends old new front

-- the sink took some more
pub more_written : (old mid new : Option (List ℕ)) (text rest : List ℕ) (count : ℕ) → HasWritten old mid text rest → Appends mid new (take count rest)
    → HasWritten old new text (drop count rest)
more_written old mid new text rest count h more = search (rules, take-append-drop, append_assoc, Appends-trans)
