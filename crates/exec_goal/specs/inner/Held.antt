-- What an entry of a table's map stands for.
use Rattle.std.specs.Prelude.{ℕ, List, map}
use Rattle.exec_goal.specs.Table.{GoalRecord}
use Rattle.exec_goal.specs.declared.held.GoalEntry.{GoalEntry}

-- the record of an entry: its key is the goal's identifier
abbrev pub record_of : ℕ × GoalEntry → GoalRecord
record_of entry =
    record {
      id = entry.0;
      value = entry.1.value;
      stamp = entry.1.stamp;
      state = entry.1.state;
      result = entry.1.result;
      ended = entry.1.ended;
      askers = entry.1.askers;
    }

-- the records of a map's entries
abbrev pub records_of : List (ℕ × GoalEntry) → List GoalRecord
records_of entries = map record_of entries
