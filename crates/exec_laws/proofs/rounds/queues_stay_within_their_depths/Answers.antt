use Rattle.exec_laws.proofs.Within.{queues_within}
use Rattle.exec_laws.proofs.rounds.queues_stay_within_their_depths.Goals as goal

pub returns : goal.returns
returns c = queues_within
