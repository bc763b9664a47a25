-- What a table knows of its goals without a look at each.
use Rattle.std.specs.Prelude.{◌≡◌, ⊤, ℕ, zero, suc, ◌+◌, ◌≤◌, List, [], ◌∷◌, length, map, Bool, true, false, nat_le, if◌then◌else◌, Option, None, Some, slice_index_or, slice_set}
use Rattle.std.specs.List.{AllByRecursion}
use Rattle.exec_msg.specs.declared.limits.TheConstants.{GOALS}
use Rattle.exec_goal.specs.Info.{info_of}
use Rattle.exec_goal.specs.State.{is_accepted, is_worked_on, is_terminal}
use Rattle.exec_goal.specs.Table.{GoalRecord, working}
use Rattle.exec_goal.specs.declared.info.GoalInfo.{GoalInfo}
use Rattle.exec_goal.specs.declared.state.State.{State}
use Rattle.exec_goal.specs.declared.tally.Tally.{Tally}

-- 1 where something is so, and else 0
abbrev pub one_where : Bool → ℕ
one_where true = 1
one_where false = 0

-- the earlier of two moments, of which there may be the second alone
abbrev pub earlier : Option ℕ → ℕ → ℕ
earlier None ended = ended
earlier (Some first) ended = if nat_le first ended then first else ended

-- the first end that is known, once a goal has ended at a moment where it has
abbrev pub first_with : Bool → ℕ → Option ℕ → Option ℕ
first_with true ended first = Some (earlier first ended)
first_with false ended first = first

-- whether a goal may have ended so many ticks before a moment, or longer
abbrev pub may_expire : ℕ → ℕ → Option ℕ → Bool
may_expire moment timeout None = false
may_expire moment timeout (Some first) = nat_le (first + timeout) moment

-- a tally is counted on as a goal that was of one state is of another, and where that is terminal ended at a moment
pub record CountsMove (before after : State) (ended : ℕ) (old new : Tally) : Type 0 where
  pub working : new.working + one_where (is_worked_on before) ≡ old.working + one_where (is_worked_on after)
  pub first : new.first_end ≡ first_with (is_terminal after) ended old.first_end
  pub waiting : new.waiting_from ≡ old.waiting_from

-- what is told of the goal at a place is told with another state
abbrev pub TellsState : ℕ → State → List GoalInfo → List GoalInfo → Type 0
TellsState place after old new = (d : GoalInfo) → new ≡ slice_set old place (record (slice_index_or old place d) { state = after })

-- the first end that is known, once a goal was looked at
abbrev pub first_with_goal : GoalRecord → Option ℕ → Option ℕ
first_with_goal goal first = first_with (is_terminal goal.state) goal.ended first

-- a goal hasn't ended, or not before the first end that is known
abbrev pub EndsFrom : Option ℕ → GoalRecord → Type 0
EndsFrom None goal = is_terminal goal.state ≡ false
EndsFrom (Some first) goal = is_terminal goal.state ≡ true → first ≤ goal.ended

-- no goal before a place is in a state that passes a test
abbrev pub NoneBefore : (State → Bool) → ℕ → List GoalRecord → Type 0
NoneBefore test zero goals = ⊤
NoneBefore test (suc place) [] = ⊥
NoneBefore test (suc place) (goal ∷ goals) = (test goal.state ≡ false) × NoneBefore test place goals

-- a place before which no goal has ended, where the goal at another place may have since
abbrev pub ended_with : Bool → ℕ → ℕ → ℕ
ended_with true place from = if nat_le from place then from else place
ended_with false place from = from

-- a tally is that of a table, which has no more goals than it may
pub record IsTallied (tally : Tally) (goals : List GoalRecord) : Type 0 where
  pub counted : tally.working ≡ working goals
  pub ends : AllByRecursion (EndsFrom tally.first_end) goals
  pub waiting : NoneBefore is_accepted tally.waiting_from goals
  pub ended : NoneBefore is_terminal tally.ended_from goals
  pub infos : tally.infos.items ≡ map info_of goals
  pub within : length goals ≤ GOALS
