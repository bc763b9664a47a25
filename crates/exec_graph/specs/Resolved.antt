-- Which draft gives which graph.
use Rattle.std.specs.Prelude.{ℕ, List, ◌++◌, map, Option, Some}
use Rattle.std.specs.Result.{result_ok}
use Rattle.exec_graph.specs.declared.draft.GraphDraft.{GraphDraft}
use Rattle.exec_script.specs.Instruction.{Script}
use Rattle.exec_plan.specs.Entity.{Spelled, read_by}
use Rattle.exec_plan.specs.Graph.{EntityData, GraphData}
use Rattle.exec_graph.specs.Numbers.{NodeEntity, entities_of, named, group_named, groups_of, scope_of}
use Rattle.exec_msg.specs.Options.{◌>>=◌, each}
use Rattle.exec_plan.specs.declared.entity.Declared.TheVariants.{Topic, Entity}
use Rattle.exec_script.specs.Spelling.{ScopeNames, script_of}

-- the script that words spell
abbrev pub resolved_script : ScopeNames → Spelled → Option Script
resolved_script scope words = result_ok (script_of scope words)

-- an entity of the graph
abbrev pub resolved_entity : GraphDraft → NodeEntity → Option EntityData
resolved_entity drafted placed = do
  group ← group_named drafted placed.node placed.entity.group
  is ← read_by (named drafted) (resolved_script (scope_of drafted placed.node)) placed.entity.is
  Some (record { name = placed.entity.name; is = Entity (record { group = group; is = is }) })

-- a topic of the graph
abbrev pub resolved_topic : List ℕ → EntityData
resolved_topic name = record { name = name; is = Topic }

-- the graph of a draft, where all that its entities refer to is declared and their scripts are spelt well
abbrev pub resolved_graph : GraphDraft → Option GraphData
resolved_graph drafted = do
  entities ← each (resolved_entity drafted) (entities_of drafted)
  Some (record {
    nodes = map (λ node. node.name) drafted.nodes;
    groups = groups_of drafted;
    entities = map resolved_topic drafted.topics ++ entities;
  })
