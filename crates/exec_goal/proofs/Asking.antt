-- What a result request is told.
use Rattle.std.proofs.Common.{◌≡◌, ◌≢◌, ℕ, List, Bool, true, false, if◌then◌else◌, Option, None, Some, refl, ap}
use Rattle.std.specs.List.{find}
use Rattle.exec_goal.proofs.Filtering.{find-none, none-find}
use Rattle.exec_goal.specs.State.{status_of, is_terminal}
use Rattle.exec_goal.specs.Table.{GoalRecord, has_id, holds_id, told, later, unknown, answer_to, asked_for}

known_by : (ended : Bool) (goal : GoalRecord) → (if ended then told (status_of goal.state) goal.result else later) ≢ unknown
known_by true goal is = cc
known_by false goal is = cc

none_by : (found : Option GoalRecord) → answer_to found ≡ unknown → found ≡ None
none_by None is = refl
none_by (Some goal) is = absurd (known_by (is_terminal goal.state) goal is)

pub unknown_to : (id : ℕ) (goals : List GoalRecord) → asked_for id goals ≡ unknown → holds_id id goals ≡ false
unknown_to id goals is = none-find (has_id id) goals (none_by (find (has_id id) goals) is)

pub unknown_from : (id : ℕ) (goals : List GoalRecord) → holds_id id goals ≡ false → asked_for id goals ≡ unknown
unknown_from id goals is = ap answer_to (find-none (has_id id) goals is)
