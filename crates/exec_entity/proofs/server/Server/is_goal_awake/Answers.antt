use Rattle.std.proofs.Common.{Bool, ◌&&◌, slice_index_or, ap, sym, ◌∙◌}
use Rattle.exec_goal.specs.State.{is_canceling, is_worked_on}
use Rattle.exec_goal.specs.declared.info.GoalInfo.{GoalInfo}
use Rattle.exec_rules.specs.Ready.{turn_at}
use Rattle.exec_task.specs.Task.{is_awake}
use Rattle.exec_rules.specs.World.{HeldGoal}
use Rattle.exec_entity.proofs.Awake.{info-at}
use Rattle.exec_entity.proofs.server.Server.is_goal_awake.Goals as goal

pub returns-then-is_worked_on : goal.returns-then-is_worked_on
returns-then-is_worked_on c = λ d.
    let one : HeldGoal = slice_index_or c.args.self.now.held c.args.index d in
    c.is_task_awake.ensures d
    ∙ ap (λ (works : Bool). works && is_awake one.work.task (turn_at c.args.moment (is_canceling c.args.info.now.state))) (sym c.if-is_worked_on.true ∙ c.is_worked_on.ensures)
    ∙ ap (λ (told : GoalInfo). is_worked_on told.state && is_awake one.work.task (turn_at c.args.moment (is_canceling told.state))) (info-at c.args.self.now.held c.args.index c.args.info.now d c.requires)

pub returns-else-is_worked_on : goal.returns-else-is_worked_on
returns-else-is_worked_on c = λ d.
    let one : HeldGoal = slice_index_or c.args.self.now.held c.args.index d in
    let idle = sym c.if-is_worked_on.false ∙ c.is_worked_on.ensures ∙ ap (λ (told : GoalInfo). is_worked_on told.state) (info-at c.args.self.now.held c.args.index c.args.info.now d c.requires) in
    c.if-is_worked_on.false ∙ ap (λ (works : Bool). works && is_awake one.work.task (turn_at c.args.moment (is_canceling one.goal.state))) idle
