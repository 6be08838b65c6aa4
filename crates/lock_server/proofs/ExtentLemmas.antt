-- From which byte to which an owner has locks: for `LockFile::extent` and `LockFile::has_against`.
use Rattle.lock_server.proofs.Common.{ℕ, ◌≡◌, ◌∙◌, sym, Bool, true, false, Option, Some, None, IfNone, is_some, Modes}

-- modes that are the same on each byte are the same
pub modes_from_same : (one other : Modes) → ((byte : ℕ) → one byte ≡ other byte) → one ≡ other
modes_from_same one other same i byte = same byte i

-- where nothing is found, what is said of that holds
pub none_found : {X : Type 0} (found : Option X) (told : Bool) (Says : Type 0) → told ≡ is_some found → IfNone found Says → told ≡ false → Says
none_found {X} None told Says is says isnt = says
none_found {X} (Some x) told Says is says isnt = absurd (let h : false ≡ true = sym isnt ∙ is in cc)
