use Rattle.table_steps.proofs.desk_seat.DeskSeat.fill.Given as goal

abbrev pub ghosts-fill_named : goal.ghosts-fill_named
ghosts-fill_named a = record { process = a.process }
