-- That a server keeps something beside each of its goals.
use Rattle.std.specs.Prelude.{◌≡◌, ℕ, List, [], ◌∷◌, map, slice_get, false, ⊤, Option, None, Some}
use Rattle.exec_goal.specs.inner.Ids.{is_among}
use Rattle.exec_goal.specs.Table.{GoalRecord, has_id, after_event}
use Rattle.exec_msg.specs.Lists.{change_first}
use Rattle.exec_msg.specs.declared.goal.Event.TheVariants as event
use Rattle.exec_msg.specs.Numbers.{GoalId}
use Rattle.exec_rules.specs.World.{HeldGoal}
use Rattle.exec_entity.specs.inner.Server.{Kept}

-- no identifier stands twice
abbrev pub AreDistinct : List GoalId → Type 0
AreDistinct [] = ⊤
AreDistinct (id ∷ ids) = (is_among ids id ≡ false) × AreDistinct ids

-- a server keeps something beside each of its goals, in their order, of which no two have one identifier
pub record AreKept (goals : List GoalRecord) (kept : List Kept) : Type 0 where
  pub same : map (λ goal. goal.id) goals ≡ map (λ one. one.id) kept
  pub distinct : AreDistinct (map (λ goal. goal.id) goals)

-- the goal at a place, from 0, has this identifier
abbrev pub IsFor : List HeldGoal → ℕ → GoalId → Type 0
IsFor held place id = slice_get (map (λ (one : HeldGoal). one.goal.id) held) place ≡ Some id

-- a server's goals of which this one is executed, if there is one
abbrev pub executed : Option GoalRecord → List GoalRecord → List GoalRecord
executed None goals = goals
executed (Some goal) goals = change_first (has_id goal.id) (after_event event.Execute) goals
