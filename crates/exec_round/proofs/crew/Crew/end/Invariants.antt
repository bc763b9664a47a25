use Rattle.exec_round.proofs.crew.Crew.end.Given as goal

abbrev pub decreases-loop-thread : goal.decreases-loop-thread
decreases-loop-thread g l = goal.left-loop-thread g l
