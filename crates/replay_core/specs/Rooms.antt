-- What serving the callers leads to (the words are this project's choice).
use Rattle.std.specs.Prelude.{◌≡◌, ℕ, ◌≤◌, List, [], map, vec_items, vec_capacity}
use Rattle.session_core.specs.SessionView.{events_in, SessionHolds}
use Rattle.call_table.specs.declared.hub.Hub.{Hub}
use Rattle.call_table.specs.Shown.{hub_setup}
use Rattle.call_table.specs.Desks.{HasSetup}
use Rattle.replay_core.specs.declared.caller.Caller.{Caller}
use Rattle.replay_core.specs.declared.threads.Room.{Room}
use Rattle.replay_core.specs.declared.threads.ThreadReport.{ThreadReport}
use Rattle.replay_core.specs.Gathering.{AreGathered, AreAllTaken, AreToldOf}

-- nothing is known yet, and there is room for what is known of so many callers
pub record IsRoomFor {P : Type 0} (callers : ℕ) (room : Room P) : Type 0 where
  pub no_places : room.places.items ≡ []
  pub places : callers ≤ vec_capacity room.places
  pub none_collected : room.collected.items ≡ []
  pub collected : callers ≤ vec_capacity room.collected

-- all of each able process is taken by these counts, all that was answered to the callers is collected, and this was told of all that
-- they posted
pub record IsServed (told : ℕ → ℕ → Type 0) (hub : Hub) (callers : List Caller) (counts : List ℕ) (report : ThreadReport) : Type 0 where
  pub setup : HasSetup (hub_setup hub) report.session
  pub holds : SessionHolds report.session
  pub taken : AreAllTaken report.session counts
  pub gathered : AreGathered (events_in report.session) callers (map vec_items report.collected.items)
  pub all_told : AreToldOf told (events_in report.session) callers
