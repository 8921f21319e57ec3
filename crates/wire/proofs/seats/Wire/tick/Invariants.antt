use Rattle.wire.proofs.seats.Wire.tick.Given as goal

abbrev pub ghosts-tick_as : goal.ghosts-tick_as
ghosts-tick_as g a = record { event = g.happened.0; pair = g.happened.1 }
