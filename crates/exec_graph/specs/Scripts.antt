-- The scripts of a graph in their places, and their faults.
use Rattle.std.specs.Prelude.{List, Bool, false, not, Option, find}
use Rattle.std.specs.List.{filter_map, flat_map}
use Rattle.std.specs.Option.{option_map_or}
use Rattle.std.specs.Result.{result_err}
use Rattle.exec_graph.specs.declared.draft.GraphDraft.{GraphDraft}
use Rattle.exec_plan.specs.Entity.{Spelled, RoleScriptData, scripts_of}
use Rattle.exec_graph.specs.Numbers.{NodeEntity, entities_of, scope_of, is_group, groups_of}
use Rattle.exec_script.specs.Legality.{legality_of}
use Rattle.exec_script.specs.Spelling.{ScopeNames, script_of, ◌>>=◌}
use Rattle.exec_script.specs.declared.fault.ScriptFault.{ScriptFault}

-- whether the callback group of an entity is reentrant
abbrev pub is_reentrant : GraphDraft → NodeEntity → Bool
is_reentrant draft placed = option_map_or (λ group. not group.exclusive) (find (is_group placed.node placed.entity.group) (groups_of draft)) false

-- the first fault of a script in its place: of its spelling, else of what is legal there
abbrev pub fault_of : ScopeNames → Bool → RoleScriptData Spelled → Option ScriptFault
fault_of scope reentrant roled = result_err (do
  script ← script_of scope roled.script
  legality_of script (record { reentrant = reentrant; role = roled.role }))

-- the faults of an entity's scripts
abbrev pub entity_faults : GraphDraft → NodeEntity → List ScriptFault
entity_faults draft placed = filter_map (fault_of (scope_of draft placed.node) (is_reentrant draft placed)) (scripts_of placed.entity.is)

-- the faults of all scripts of a graph, one at most of each
abbrev pub script_faults : GraphDraft → List ScriptFault
script_faults draft = flat_map (entity_faults draft) (entities_of draft)
