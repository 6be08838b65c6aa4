-- What a call does to the entry of one file.
use Rattle.std.specs.Prelude.{◌≡◌, ◌≢◌, ℕ, Bool, true, false, ⊤, Option, Some, None, Result, Err, IfOk, OnOk, OnErr}
use Rattle.std.specs.BTreeMap.{BTreeMap, get, insert_entry, is_at}
use Rattle.std.specs.Map.{set_value}
use Rattle.std.specs.Ordering.{nat_cmp}
use Rattle.history_core.specs.declared.file.FileHistory.{FileHistory}
use Rattle.history_core.specs.declared.request.Answer.{Answer}
use Rattle.history_core.specs.declared.request.Request.{Request}
use Rattle.history_core.specs.declared.search.SearchFault.{SearchFault}
use Rattle.history_core.specs.declared.search.SearchFault.TheVariants.{Limit}
use Rattle.history_core.specs.FileView.{Exceeds, Refuses, Stays, Takes, count_in, has_open, keeps_order}
use Rattle.history_core.specs.Moments.{Answered, Sent}

-- how many are kept of the file
abbrev pub count_on : Option FileHistory → ℕ
count_on None = 0
count_on (Some history) = count_in history

-- no open request on the file has the ID
abbrev pub IsFreeOn : Option FileHistory → ℕ → Type 0
IsFreeOn None id = ⊤
IsFreeOn (Some history) id = has_open history id ≡ false

-- what sending the request on the file tells
pub record Sends (old new : FileHistory) (request : Request) (limit : ℕ) (result : Result (Unit {0}) SearchFault) : Type 0 where
  pub ok : OnOk result (Takes old new (Sent request))
  pub full : result ≡ Err Limit → Exceeds old limit
  pub err : OnErr result (Stays old new)
  pub keeps : keeps_order new ≡ keeps_order old

-- what the answer on the file tells
pub record Answers (old new : FileHistory) (id : ℕ) (answer : Answer) (limit : ℕ) (result : Result Bool SearchFault) : Type 0 where
  pub legal : IfOk result (λ is_legal. is_legal ≡ true → Takes old new (Answered id answer))
  pub illegal : IfOk result (λ is_legal. is_legal ≡ false → Refuses old (Answered id answer))
  pub stays : IfOk result (λ is_legal. is_legal ≡ false → Stays old new)
  pub full : result ≡ Err Limit → Exceeds old limit
  pub err : OnErr result (Stays old new)
  pub keeps : keeps_order new ≡ keeps_order old

-- such a step was made at the entry of the file, and at no other
pub record Rewrites {X : Type 0} (old new : BTreeMap ℕ X) (file : ℕ) (Step : X → X → Type 0) : Type 0 where
  pub before : X
  pub after : X
  pub was : get nat_cmp old file ≡ Some before
  pub here : get nat_cmp new file ≡ Some after
  pub others : (other : ℕ) → other ≢ file → get nat_cmp new other ≡ get nat_cmp old other
  pub written : new.entries ≡ set_value (is_at (nat_cmp file)) old.entries after
  pub step : Step before after

-- the file has this entry, and the others are as they were
pub record Inserts (old new : BTreeMap ℕ FileHistory) (file : ℕ) (history : FileHistory) : Type 0 where
  pub here : get nat_cmp new file ≡ Some history
  pub others : (other : ℕ) → other ≢ file → get nat_cmp new other ≡ get nat_cmp old other
  pub written : new.entries ≡ insert_entry nat_cmp old.entries file history
