use Rattle.wire.proofs.entering.enter_step.Given as goal

abbrev pub ghost-tick : goal.ghost-tick
ghost-tick g a = g.happened
