-- What the body of a server keeps.
use Rattle.std.specs.Prelude.{◌==◌, ℕ, Bool, List, [], ◌∷◌, map, Option, None, Some}
use Rattle.exec_goal.specs.Table.{GoalRecord}
use Rattle.exec_msg.specs.Numbers.{EntityNo, GoalId}
use Rattle.exec_task.specs.Goal.{GoalTaskState}
use Rattle.exec_rules.specs.Calls.{away}
use Rattle.exec_rules.specs.World.{GoalWork, HeldGoal, work_of}
use Rattle.exec_entity.specs.declared.server.KeptWithGoal.{KeptWithGoal}

-- what is kept beside the record of a goal, by the goal's identifier
pub record Kept : Type 0 where
  pub id : GoalId
  pub client : Option EntityNo
  pub work : GoalWork
  pub arrival : ℕ

-- the work of a goal's task; while that is out, `away`
abbrev pub work_there : Option GoalTaskState → GoalWork
work_there None = away
work_there (Some task) = work_of task

-- what an entry of the map stands for: its key is the goal's identifier
abbrev pub kept_of : ℕ × KeptWithGoal → Kept
kept_of entry = record {
  id = entry.0;
  client = entry.1.client;
  work = work_there entry.1.task;
  arrival = entry.1.arrival;
}

-- what the entries of a map stand for
abbrev pub all_kept : List (ℕ × KeptWithGoal) → List Kept
all_kept entries = map kept_of entries

-- whether something is kept for the goal of an identifier
abbrev pub is_kept_for : GoalId → Kept → Bool
is_kept_for id kept = kept.id == id

-- a goal that is held, of its record and what is kept beside it
abbrev pub joined : GoalRecord → Kept → HeldGoal
joined goal kept = record { goal = goal; client = kept.client; work = kept.work; arrival = kept.arrival }

-- the goals that are held, of their records and what is kept beside each, place by place
abbrev pub all_joined : List GoalRecord → List Kept → List HeldGoal
all_joined (goal ∷ goals) (one ∷ kept) = joined goal one ∷ all_joined goals kept
all_joined _ _ = []
