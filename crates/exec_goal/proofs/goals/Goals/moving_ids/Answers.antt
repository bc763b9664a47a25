use Rattle.std.proofs.Common.{◌∙◌, ◌<◌, ◌+◌, ◌++◌, ◌∷◌, [], sym, ap, map, drop, length, filter, arith}
use Rattle.exec_goal.proofs.Looping.{told-at, next_kept, next_passed}
use Rattle.exec_goal.specs.inner.Ids.{is_among}
use Rattle.exec_goal.specs.Cancel.{moves_by}
use Rattle.exec_goal.specs.Info.{info_of}
use Rattle.exec_goal.specs.Table.{GoalRecord}
use Rattle.exec_goal.specs.declared.info.GoalInfo.{GoalInfo}
use Rattle.exec_goal.proofs.goals.Goals.moving_ids.Goals.{then-moves+in_ok-push, else-moves}
use Rattle.exec_goal.proofs.goals.Goals.moving_ids.Goals as goal

pub loop-index-preserved : goal.loop-index-preserved
loop-index-preserved c =
    let at = told-at c.args.self.now c.loop-index.index c.at-info.result c.at-info.ensures in
    let told = λ (goal : GoalRecord). goal.id in
    let within : c.loop-index.index < length c.args.self.now = omega (arith, c.loop-index-test.true, c.len-index-end.ensures.count) in
    let test = moves_by (is_among c.args.accepted.now) in
    let tested = c.moves.ensures at.0 at.1 ∙ ap test (sym at.2) in
    elim c.if-moves.branch [
      | then-moves+in_ok-push w ↦
          ap (λ ids. ids ++ map told (filter test (drop (c.loop-index.index + 1) c.args.self.now)))
          (w.ids-is ∙ w.in_ok-push.ensures.ok ∙ ap (λ (info : GoalInfo). c.loop-index.ids ++ info.id ∷ []) (at.1 ∙ ap info_of (sym at.2)))
          ∙ next_kept test told c.args.self.now c.loop-index.index at.0 c.loop-index.ids within (sym tested ∙ w.if-moves.true)
          ∙ c.loop-index.invariant
      | else-moves w ↦
          ap (λ ids. ids ++ map told (filter test (drop (c.loop-index.index + 1) c.args.self.now))) w.ids-is
          ∙ next_passed test told c.args.self.now c.loop-index.index at.0 c.loop-index.ids within (sym tested ∙ w.if-moves.false)
          ∙ c.loop-index.invariant
    ]
