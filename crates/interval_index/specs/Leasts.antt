-- The least owner among runs that stand in the way.
use Rattle.std.specs.Prelude.{◌≡◌, ◌&&◌, Bool, Option, List}
use Rattle.std.specs.List.{list_any}
use Rattle.interval_index.specs.declared.Holder.{Holder}
use Rattle.interval_index.specs.declared.Run.{Run}
use Rattle.interval_index.specs.declared.queries.Reaching.{Reaching}
use Rattle.interval_index.specs.Holders.{holder_of, is_by, has_by}
use Rattle.interval_index.specs.Tests.{reaches_lock}

-- the run is one that is looked for, and its owner comes no later than the bound
abbrev pub reaches_by : Reaching → Holder → Run → Bool
reaches_by query bound run = reaches_lock query.holder query.byte query.wanted run && is_by (holder_of run) bound

-- this is the least owner of those of these runs that are looked for, or none where none is
pub record IsLeastOf (query : Reaching) (least : Option Holder) (runs : List Run) : Type 0 where
  pub exact : (bound : Holder) → has_by least bound ≡ list_any (reaches_by query bound) runs
