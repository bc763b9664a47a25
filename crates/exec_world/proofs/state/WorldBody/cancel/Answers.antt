use Rattle.std.proofs.Common.{List, length, ap, sym, ◌∙◌}
use Rattle.std.proofs.lemmas.Result.{on_ok_weaker}
use Rattle.exec_entity.proofs.Closings.{cancels}
use Rattle.exec_msg.specs.Numbers.{GoalId}
use Rattle.exec_world.proofs.state.WorldBody.cancel.Goals as goal

pub returns : goal.returns
returns g c =
    on_ok_weaker c.push_any.result
    (λ sent. sent
    ∙ cancels c.args.server c.args.request.now c.args.client c.args.decisions.now _ c.args.self.now c.self.view_is c.cancel.new.self c.in_ok-answer.ensures.table c.in_ok-answer.answer.code c.in_ok-answer.ensures.code
    c.as_slice.result.now (c.as_slice.ensures ∙ c.in_ok-answer.ensures.moved) c.len-moved.result (c.len-moved.ensures ∙ ap (λ (ids : List GoalId). length ids) (sym c.as_slice.ensures)) _ c.in_ok-add_moved.ensures _ c.in_ok-add_line.ensures)
    c.push_any.ensures
