-- What an entry of a graph's map stands for.
use Rattle.std.specs.Prelude.{List, map, String, string_bytes}
use Rattle.std.specs.Global.{Global}
use Rattle.exec_plan.specs.Graph.{EntityData}
use Rattle.exec_plan.specs.declared.entity.Declared.{Declared}

-- the topic or entity of an entry: its key is the name
abbrev pub entry_data : String Global × Declared → EntityData
entry_data entry = record { name = string_bytes entry.0; is = entry.1 }

-- those of a map's entries
abbrev pub entities_in : List (String Global × Declared) → List EntityData
entities_in entries = map entry_data entries
