-- What the desk and a client know once they have met: for `Desk::meet`.
use Rattle.call_table.proofs.Common.{arith, ◌≡◌, ℕ, common_steps, Session, Setup, ClientView, DeskView, SitsAs}
use Rattle.std.proofs.Common.{Bool}
use Rattle.table_steps.specs.Steps.{met_desk, met_client, before_meeting, HaveMet}
use Rattle.call_table.specs.Seats.{SitsAsDesk}
use Rattle.call_table.specs.Desks.{IsMet}
use Rattle.call_table.proofs.TallyLaws.{tally_here, tally_else}

pub sits_met : (d after : DeskView) (setup : Setup) (closed : Bool) (session : Session) (c : ClientView)
    → SitsAsDesk d setup closed session → after ≡ met_desk d c → SitsAsDesk after setup closed session
sits_met d after setup closed session c sits is = grind (arith, common_steps, tally_here, tally_else)

pub client_met : (d : DeskView) (c after : ClientView) (setup : Setup) (process posted collected : ℕ)
    → SitsAs c setup process posted collected → after ≡ met_client d c → SitsAs after setup process posted collected
client_met d c after setup process posted collected sits is = grind (arith, common_steps)

pub is_met : (d after : DeskView) (c now : ClientView) → HaveMet (met_desk d c) (met_client d c) (before_meeting d c)
    → after ≡ met_desk d c → now ≡ met_client d c → IsMet d c after now
is_met d after c now told is his_is = grind (arith, common_steps, tally_here)
