-- Callbacks as a snapshot lists them, without their scripts.
use Rattle.std.specs.Prelude.{◌≡◌, ℕ, ◌+◌, ◌++◌, List, length, map, is_some, if◌then◌else◌, None, Some}
use Rattle.exec_plan.specs.Graph.{GraphData, script_at}
use Rattle.exec_rules.specs.Ready.{kind_of, placed_from}
use Rattle.exec_rules.specs.declared.listed.Listed.{Listed}
use Rattle.exec_rules.specs.declared.ready.Ready.{Ready}

-- a ready callback as it is listed
abbrev pub as_listed : Ready → Listed
as_listed one = record { ready = record one { script = None }; runs = is_some one.script }

-- a list with more callbacks behind it, at their places
abbrev pub listed_behind : List Listed → List Ready → List Listed
listed_behind list more = list ++ map as_listed (placed_from (length list + 1) more)

-- a ready callback at another place
abbrev pub positioned : ℕ → Ready → Ready
positioned position one = record one { position = position }

-- a callback that is listed so, with its script from a graph
abbrev pub with_script_of : GraphData → Listed → Ready
with_script_of graph listed =
    record listed.ready { script = if listed.runs then Some (script_at graph listed.ready.entity (kind_of listed.ready.cause)) else None }

-- a ready callback's script, if it has one, is that of a graph
abbrev pub HasScriptOf : GraphData → Ready → Type 0
HasScriptOf graph one = with_script_of graph (as_listed one) ≡ one
