-- What a script says, and which words say a request (this project's choice).
use Rattle.std.specs.Prelude.{◌≡◌, ℕ, ◌^◌, ◌<◌, ◌≤◌, ◌⊎◌, ⊤, pos, FitsSigned, List, [], ◌∷◌, ◌++◌, codes}
use Rattle.std.specs.Int.{w64}
use Rattle.fd_table.specs.declared.TheConstants.{FILES}
use Rattle.fd_table.specs.declared.Limits.{Limits}
use Rattle.lock_manager.specs.declared.request.TheConstants.{SECTIONS}
use Rattle.lock_manager.specs.declared.request.Rules.{Rules}
use Rattle.lock_manager.specs.declared.request.Request.{Request}
use Rattle.lock_manager.specs.declared.request.Request.TheVariants.{OpenFile, Dup, DupTo, CloseFd, Seek, Resize, Lk, Flock, Fork, Exit, Signal, Kill, Enter, Leave, Bail}
use Rattle.fd_table.specs.Descriptors.{process_limit}
use Rattle.script_core.specs.RequestText.{request_words}

-- the rules of a script, and its requests with their processes, in order
pub record Meaning : Type 0 where
  pub rules : Rules
  pub arrivals : List (ℕ × Request)

-- the number is that of a descriptor as a script may write it
abbrev pub IsDescriptor : ℕ → Type 0
IsDescriptor fd = fd < 2 ^ 32

-- the number is that of a process under these limits
abbrev pub IsProcess : Limits → ℕ → Type 0
IsProcess limits p = (1 ≤ p) × (p ≤ process_limit limits)

-- the numbers of the request are such as a script of these limits may write
abbrev pub IsWritable : Limits → Request → Type 0
IsWritable limits (OpenFile file access) = file < FILES
IsWritable limits (Dup fd) = IsDescriptor fd
IsWritable limits (DupTo fd to) = IsDescriptor fd × IsDescriptor to
IsWritable limits (CloseFd fd) = IsDescriptor fd
IsWritable limits (Seek fd offset) = IsDescriptor fd × FitsSigned w64 offset
IsWritable limits (Resize fd size) = IsDescriptor fd × FitsSigned w64 size
IsWritable limits (Lk fd cmd lock) =
    IsDescriptor fd × FitsSigned w64 lock.start × FitsSigned w64 lock.len × FitsSigned w64 lock.pid
IsWritable limits (Flock fd op nb) = IsDescriptor fd
IsWritable limits (Fork child) = IsProcess limits child
IsWritable limits Exit = ⊤
IsWritable limits (Signal target) = IsProcess limits target
IsWritable limits (Kill target) = IsProcess limits target
IsWritable limits (Enter section visit) = section < SECTIONS
IsWritable limits (Leave section) = section < SECTIONS
IsWritable limits Bail = ⊤

-- the request is one in which a pid of 0 may be written or left out
abbrev pub HasZeroPid : Request → Type 0
HasZeroPid (OpenFile file access) = ⊥
HasZeroPid (Dup fd) = ⊥
HasZeroPid (DupTo fd to) = ⊥
HasZeroPid (CloseFd fd) = ⊥
HasZeroPid (Seek fd offset) = ⊥
HasZeroPid (Resize fd size) = ⊥
HasZeroPid (Lk fd cmd lock) = lock.pid ≡ pos 0
HasZeroPid (Flock fd op nb) = ⊥
HasZeroPid (Fork child) = ⊥
HasZeroPid Exit = ⊥
HasZeroPid (Signal target) = ⊥
HasZeroPid (Kill target) = ⊥
HasZeroPid (Enter section visit) = ⊥
HasZeroPid (Leave section) = ⊥
HasZeroPid Bail = ⊥

-- the words say the request: they are its words, or these with a pid of 0 behind them
abbrev pub Says : List (List ℕ) → Request → Type 0
Says words request =
    (words ≡ request_words request) ⊎ (HasZeroPid request × (words ≡ request_words request ++ codes "0" ∷ []))

-- the words are a request as a script of these limits may write it
pub record IsRequest (limits : Limits) (words : List (List ℕ)) (request : Request) : Type 0 where
  pub says : Says words request
  pub writable : IsWritable limits request
