use Rattle.supervisor.proofs.team.Team.begin.Given as goal

abbrev pub ghosts-start_named : goal.ghosts-start_named
ghosts-start_named g a = record { node = a.of.node; turns = a.of.plan.turns }
