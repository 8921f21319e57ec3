use Rattle.wire.proofs.seats.Wire.new.Given as goal

abbrev pub ghost-named : goal.ghost-named
ghost-named g a = g.opening
