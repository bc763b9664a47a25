use Rattle.exec_goal.proofs.Changing.{changed-ids, changed-found, changed-others}
use Rattle.exec_goal.proofs.laws.changes_reach_one_goal.Goals as goal

pub returns : goal.returns
returns c = record {
  order = λ id change goals keeps. changed-ids change keeps id goals;
  changed = λ id change goals keeps. changed-found change keeps id goals;
  others = λ id other change goals keeps differ. changed-others change keeps id other goals differ;
}
