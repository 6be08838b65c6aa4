-- What a source and a sink do at a call, where their bytes are known (the words are this project's choice).
use Rattle.std.specs.Prelude.{◌≡◌, ℕ, ◌+◌, ◌<◌, ◌≤◌, ◌⊎◌, ◌++◌, Bool, IsTrue, Option, IfNone, option_to_list, List, length, take}
use Rattle.std.specs.Io.KnownBytes.{Consumes, IsAtEnd, Keeps, Appends}
use Rattle.script_core.specs.Words.{script_limit}

-- the source gave its first byte, or it is at its end
pub record GivesByte (old new : Option (List ℕ)) (byte : Option ℕ) : Type 0 where
  pub consumed : Consumes old new (option_to_list byte)
  pub end : IfNone byte (IsAtEnd new)

-- the source gave so many bytes at the front of the room, or it is at its end
pub record GivesSome (old new : Option (List ℕ)) (room : List ℕ) (count : ℕ) : Type 0 where
  pub within : count ≤ length room
  pub consumed : Consumes old new (take count room)
  pub end : count ≡ 0 → IsAtEnd new

-- the sink took so many bytes of the text, at least one where there are any
pub record TakesSome (old new : Option (List ℕ)) (text : List ℕ) (count : ℕ) : Type 0 where
  pub within : count ≤ length text
  pub some : 0 < length text → 0 < count
  pub appended : Appends old new (take count text)

-- the device failed, and moved no byte
pub record Fails (old new : Option (List ℕ)) (is_failed : Bool) : Type 0 where
  pub kept : Keeps old new
  pub failed : IsTrue is_failed

-- a front of the text was written
pub record TakesFront (old new : Option (List ℕ)) (text : List ℕ) : Type 0 where
  pub front : List ℕ
  pub rest : List ℕ
  pub is : text ≡ front ++ rest
  pub appended : Appends old new front

-- these bytes were read of the source: all that it had, or its first bytes up to one past the longest script
pub record ReadsWhole (old new : Option (List ℕ)) (bytes : List ℕ) : Type 0 where
  pub consumed : Consumes old new bytes
  pub whole : IsAtEnd new ⊎ (length bytes ≡ script_limit + 1)
