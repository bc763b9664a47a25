use Rattle.std.proofs.lemmas.List.Elements.{filter_passes}
use Rattle.exec_goal.specs.Cancel.{is_moved}
use Rattle.exec_goal.proofs.Filtering.{filter-sublist, Contains-filter}
use Rattle.exec_goal.proofs.laws.moved_goals_stand_in_order.Goals as goal

pub returns : goal.returns
returns c = record {
  each = λ decisions goals. filter_passes (is_moved decisions) goals;
  all = λ decisions goals goal held moves. Contains-filter (is_moved decisions) goals goal held moves;
  ordered = λ decisions goals. filter-sublist (is_moved decisions) goals;
}
