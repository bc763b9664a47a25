-- Goals that are awake at a snapshot, in a list of their own.
use Rattle.std.specs.Prelude.{List, [], ◌∷◌, if◌then◌else◌, None}
use Rattle.std.specs.List.{flat_map}
use Rattle.exec_goal.specs.State.{is_canceling}
use Rattle.exec_goal.specs.Table.{GoalRecord}
use Rattle.exec_rules.specs.Ready.{is_goal_awake}
use Rattle.exec_msg.specs.Numbers.{Moment}
use Rattle.exec_rules.specs.World.{Handler, HeldGoal, ServerEntry}
use Rattle.exec_rules.specs.declared.ready.AwakeGoal.{AwakeGoal}
use Rattle.exec_rules.specs.declared.ready.Cause.TheVariants as cause
use Rattle.exec_rules.specs.declared.ready.Ready.{Ready}

-- the poll of a goal at a moment, without a place in a ready list and without a script
abbrev pub poll_at : Moment → AwakeGoal → Ready
poll_at moment goal = record {
  position = 0;
  entity = goal.server;
  group = goal.group;
  exclusive = goal.exclusive;
  moment = moment;
  cause = cause.Woke goal.id goal.value goal.canceling;
  candidates = [];
  script = None;
}

-- what the poll of a goal needs that this callback polls
abbrev pub awake_goal : Handler → GoalRecord → AwakeGoal
awake_goal handler goal = record {
  id = goal.id;
  value = goal.value;
  server = handler.entity;
  group = handler.group;
  exclusive = handler.exclusive;
  canceling = is_canceling goal.state;
}

-- the same where a server's goal is awake at a moment
abbrev pub goal_awake : Moment → Handler → HeldGoal → List AwakeGoal
goal_awake moment handler held = if is_goal_awake moment held then awake_goal handler held.goal ∷ [] else []

-- a server's goals that are awake at a moment, in order of acceptance
abbrev pub awake_goals : Moment → ServerEntry → List AwakeGoal
awake_goals moment entry = flat_map (goal_awake moment entry.handler) entry.held
