use Rattle.wire.proofs.seats.Wire.learn.Given as goal

abbrev pub ghosts-heed : goal.ghosts-heed
ghosts-heed a = record { view = a.note.seat.me.0 }
