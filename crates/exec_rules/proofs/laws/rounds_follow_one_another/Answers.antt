use Rattle.exec_rules.proofs.AllRounds.{closed_lines, next_round}
use Rattle.exec_rules.proofs.laws.rounds_follow_one_another.Goals as goal

pub returns : goal.returns
returns c = record {
  next = next_round;
  closed = closed_lines;
}
