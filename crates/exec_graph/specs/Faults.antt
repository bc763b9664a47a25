-- What is refused of a graph: names, limits and scripts, each read where what stands before it here is kept.
use Rattle.std.specs.List.{list_all, list_any, sum_by}
use Rattle.std.specs.Prelude.{ℕ, List, ◌++◌, length, map, Bool, true, false, not, ◌&&◌, nat_le, is_some}
use Rattle.exec_graph.specs.declared.draft.GraphDraft.{GraphDraft}
use Rattle.exec_plan.specs.Entity.{Drafted, refers, is_within, scripts_of}
use Rattle.exec_graph.specs.declared.draft.NodeDraft.{NodeDraft}
use Rattle.exec_graph.specs.Numbers.{NodeEntity, entities_of, named, group_named}
use Rattle.exec_graph.specs.Scripts.{script_faults}
use Rattle.exec_plan.specs.Names.{is_name, are_distinct}
use Rattle.exec_msg.specs.declared.limits.TheConstants.{NODES, NAMED_GROUPS, TOPICS, ENTITIES, INSTRUCTIONS}
use Rattle.exec_script.specs.declared.fault.ScriptFault.TheVariants as fault
use Rattle.exec_script.specs.declared.fault.ScriptFault.{ScriptFault}

-- ---- names

-- each is a name, and no two are the same
abbrev pub are_names : List (List ℕ) → Bool
are_names texts = list_all is_name texts && are_distinct texts

-- a node's groups have names of their own
abbrev pub has_named_groups : NodeDraft → Bool
has_named_groups node = are_names (map (λ group. group.name) node.groups)

-- the group that an entity names is of its node, and what it refers to is declared
abbrev pub is_resolved : GraphDraft → NodeEntity → Bool
is_resolved draft placed = is_some (group_named draft placed.node placed.entity.group) && refers (λ to name. is_some (named draft to name)) placed.entity.is

-- the names of topics and entities
abbrev pub drafted_names : GraphDraft → List (List ℕ)
drafted_names draft = draft.topics ++ map (λ placed. placed.entity.name) (entities_of draft)

-- every name is a name; none stands twice among nodes, among the groups of a node, or among topics and entities; and what
-- entities refer to is declared
abbrev pub is_well_named : GraphDraft → Bool
is_well_named draft =
    are_names (map (λ node. node.name) draft.nodes)
    && list_all has_named_groups draft.nodes
    && are_names (drafted_names draft)
    && list_all (is_resolved draft) (entities_of draft)

-- ---- limits

-- an entity's scripts are within their limit
abbrev pub has_short_scripts : Drafted → Bool
has_short_scripts entity = list_all (λ roled. nat_le (length roled.script) INSTRUCTIONS) (scripts_of entity)

-- no number and no length of a graph is beyond its limit
abbrev pub is_small : GraphDraft → Bool
is_small draft =
    nat_le (length draft.nodes) NODES
    && nat_le (sum_by (λ node. length node.groups) draft.nodes) NAMED_GROUPS
    && nat_le (length draft.topics) TOPICS
    && nat_le (length (entities_of draft)) ENTITIES
    && list_all (λ placed. is_within placed.entity.is && has_short_scripts placed.entity.is) (entities_of draft)

-- ---- scripts

-- whether a fault is that of a group variable in a reentrant group
abbrev pub is_of_variable : ScriptFault → Bool
is_of_variable fault.GroupVariable = true
is_of_variable _ = false

-- a script is misspelt, names what isn't there, skips beyond its end, or has an instruction that isn't allowed in its place
abbrev pub has_faulty_script : GraphDraft → Bool
has_faulty_script draft = list_any (λ fault. not (is_of_variable fault)) (script_faults draft)

-- a script of a reentrant group names a group variable
abbrev pub shares_variables : GraphDraft → Bool
shares_variables draft = list_any is_of_variable (script_faults draft)
