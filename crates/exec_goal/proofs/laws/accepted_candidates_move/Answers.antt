use Rattle.std.proofs.lemmas.Bool.{and_parts, and_from}
use Rattle.exec_goal.specs.Cancel.{is_accepted_for}
use Rattle.exec_goal.specs.State.{is_cancelable}
use Rattle.exec_goal.proofs.Answering.{cancelable_to, cancelable_from, accepted_to, accepted_from}
use Rattle.exec_goal.proofs.laws.accepted_candidates_move.Goals as goal

pub returns : goal.returns
returns c = λ decisions goal. (
  (λ moves.
      let parts = and_parts (is_accepted_for decisions goal.id) (is_cancelable goal.state) moves in
      (accepted_to decisions goal.id parts.0, cancelable_to goal.state parts.1)),
  (λ known. and_from (is_accepted_for decisions goal.id) (is_cancelable goal.state) (accepted_from decisions goal.id known.0) (cancelable_from goal.state known.1)),
)
