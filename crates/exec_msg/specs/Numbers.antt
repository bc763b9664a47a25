-- What numbers mean.
use Rattle.std.specs.Prelude.{ℕ}

-- the number of a topic or of an entity, which share one numbering
abbrev pub EntityNo : Type 0
EntityNo = ℕ

-- the identifier of a goal: its 128 bits as one number
abbrev pub GoalId : Type 0
GoalId = ℕ

-- a length of time, in ticks
abbrev pub Ticks : Type 0
Ticks = ℕ

-- a moment, in ticks
abbrev pub Moment : Type 0
Moment = ℕ
