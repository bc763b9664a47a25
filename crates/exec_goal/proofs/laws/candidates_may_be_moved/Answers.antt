use Rattle.std.proofs.lemmas.Bool.{and_parts, and_from}
use Rattle.std.proofs.lemmas.List.Elements.{filter_passes}
use Rattle.exec_goal.specs.Cancel.{selects, is_candidate}
use Rattle.exec_goal.specs.State.{is_cancelable}
use Rattle.exec_goal.proofs.Answering.{cancelable_to, cancelable_from}
use Rattle.exec_goal.proofs.Filtering.{filter-sublist, Contains-filter}
use Rattle.exec_goal.proofs.laws.candidates_may_be_moved.Goals as goal

pub returns : goal.returns
returns c = record {
  exactly = λ request goal. (
    (λ is.
        let parts = and_parts (selects request.id request.stamp goal) (is_cancelable goal.state) is in
        (parts.0, cancelable_to goal.state parts.1)),
    (λ known. and_from (selects request.id request.stamp goal) (is_cancelable goal.state) known.0 (cancelable_from goal.state known.1)),
  );
  each = λ request goals. filter_passes (is_candidate request) goals;
  all = λ request goals goal held is. Contains-filter (is_candidate request) goals goal held is;
  ordered = λ request goals. filter-sublist (is_candidate request) goals;
}
