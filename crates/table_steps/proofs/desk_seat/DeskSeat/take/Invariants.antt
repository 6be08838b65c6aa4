use Rattle.table_steps.proofs.desk_seat.DeskSeat.take.Given as goal

abbrev pub ghosts-take_named : goal.ghosts-take_named
ghosts-take_named a = record { event = a.entry.now }
