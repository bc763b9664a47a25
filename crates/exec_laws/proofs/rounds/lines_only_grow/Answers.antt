use Rattle.exec_laws.proofs.Growing.{round_grows, rounds_grow}
use Rattle.exec_laws.proofs.rounds.lines_only_grow.Goals as goal

pub returns : goal.returns
returns c = record {
  round = round_grows;
  rounds = rounds_grow;
}
