-- A directory of what a graph declares, which finds names.
use Rattle.std.specs.Bool.{then_some}
use Rattle.std.specs.Prelude.{◌≡◌, ℕ, suc, ◌+◌, ◌-◌, ◌<◌, List, [], ◌∷◌, ◌++◌, length, map, Bool, false, not, ◌&&◌, ◌==◌, nat_lt, if◌then◌else◌, Option, None, Some, IfSome, option_and_then, slice_get}
use Rattle.std.specs.List.{filter_map, list_any, position_from}
use Rattle.std.specs.Option.{option_map, option_map_or}
use Rattle.std.specs.Result.{result_err}
use Rattle.exec_plan.specs.declared.entity.CallbackGroup.{CallbackGroup}
use Rattle.exec_plan.specs.declared.entity.Declared.{Declared}
use Rattle.exec_plan.specs.declared.entity.Declared.TheVariants.{Topic, Entity}
use Rattle.exec_plan.specs.declared.entity.EntityKind.TheVariants as kind
use Rattle.exec_plan.specs.declared.entity.parts.Referent.{Referent}
use Rattle.exec_plan.specs.declared.entity.parts.Referent.TheVariants as referent
use Rattle.exec_script.specs.declared.fault.ScriptFault.{ScriptFault}
use Rattle.std.specs.Str.{bytes_eq}
use Rattle.exec_graph.specs.declared.draft.GraphDraft.{GraphDraft}
use Rattle.exec_script.specs.Instruction.{Script}
use Rattle.exec_plan.specs.Entity.{Drafted, Resolved, RoleScriptData, is_of, reference_of, scripts_of, if_there, read_by}
use Rattle.exec_plan.specs.Graph.{EntityData, GroupNo, in_group}
use Rattle.exec_graph.specs.declared.draft.NodeDraft.{NodeDraft}
use Rattle.exec_graph.specs.Faults.{drafted_names}
use Rattle.exec_plan.specs.Names.{is_name}
use Rattle.exec_graph.specs.Numbers.{NodeEntity, entities_of}
use Rattle.exec_msg.specs.Options.{◌>>=◌}
use Rattle.exec_graph.specs.Resolved.{resolved_script}
use Rattle.exec_script.specs.Legality.{legality_of}
use Rattle.exec_script.specs.Spelling.{ScopeNames}

-- ---- names

-- names in order, and then texts that are names and new one after another
abbrev pub names_from : List (List ℕ) → List (List ℕ) → Option (List (List ℕ))
names_from names [] = Some names
names_from names (text ∷ texts) =
    if is_name text && not (list_any (λ other. bytes_eq other text) names) then names_from (names ++ text ∷ []) texts else None

-- the groups of a node: the number of its default group, and the names of the others, which stand behind it
pub record NodeGroupsData : Type 0 where
  pub first : ℕ
  pub names : List (List ℕ)

-- the groups of nodes in order, of which the first has this number
abbrev pub node_groups_from : ℕ → List NodeDraft → List NodeGroupsData
node_groups_from first [] = []
node_groups_from first (node ∷ nodes) =
    record { first = first; names = map (λ group. group.name) node.groups } ∷ node_groups_from (suc first + length node.groups) nodes

-- ---- the directory

-- how many topics there are, the names of topics and entities at their numbers, the groups of each node, and the entities
-- in the order of their numbers
pub record DirectoryData : Type 0 where
  pub topics : ℕ
  pub names : List (List ℕ)
  pub groups : List NodeGroupsData
  pub entities : List NodeEntity

-- the directory of a draft
abbrev pub directory_of : GraphDraft → DirectoryData
directory_of draft = record {
  topics = length draft.topics;
  names = drafted_names draft;
  groups = node_groups_from 0 draft.nodes;
  entities = entities_of draft;
}

-- the number of a name
abbrev pub position_of : DirectoryData → List ℕ → Option ℕ
position_of directory name = position_from (λ other. bytes_eq other name) 0 directory.names

-- the number of the topic of a name
abbrev pub topic_number : DirectoryData → List ℕ → Option ℕ
topic_number directory name = option_and_then (λ number. then_some (nat_lt number directory.topics) number) (position_of directory name)

-- the entity at a number, with the number
abbrev pub placed_at : DirectoryData → ℕ → Option (ℕ × NodeEntity)
placed_at directory number =
    if nat_lt number directory.topics then None else option_map (λ placed. (number, placed)) (slice_get directory.entities (number - directory.topics))

-- the entity of a name, with its number
abbrev pub placed_named : DirectoryData → List ℕ → Option (ℕ × NodeEntity)
placed_named directory name = option_and_then (placed_at directory) (position_of directory name)

-- the number of the entity of a name that passes a test
abbrev pub entity_number : DirectoryData → (NodeEntity → Bool) → List ℕ → Option ℕ
entity_number directory test name = option_and_then (λ found. then_some (test found.1) found.0) (placed_named directory name)

-- the number of a node's group of a name, or of its default group, which has none
abbrev pub number_among : Option (List ℕ) → NodeGroupsData → Option ℕ
number_among None groups = Some groups.first
number_among (Some name) groups = option_map (λ place. suc groups.first + place) (position_from (λ other. bytes_eq other name) 0 groups.names)

-- the same of the node of a number
abbrev pub group_in : DirectoryData → ℕ → Option (List ℕ) → Option ℕ
group_in directory node name = option_and_then (number_among name) (slice_get directory.groups node)

-- the number of what a name must be declared as
abbrev pub number_in : DirectoryData → Referent → List ℕ → Option ℕ
number_in directory referent.Topic = topic_number directory
number_in directory (referent.Entity kind) = entity_number directory (λ placed. is_of kind placed.entity.is)

-- ---- links

-- the number of what an entity refers to, where it refers to something, and that is declared
abbrev pub reference_number : DirectoryData → Drafted → Option (Option ℕ)
reference_number directory entity = if_there (λ reference. number_in directory reference.to reference.name) (reference_of entity)

-- an entity with the numbers of its group and of what it refers to
pub record Linked : Type 0 where
  pub placed : NodeEntity
  pub group : ℕ
  pub reference : Option ℕ

-- an entity with these numbers, where its group and what it refers to are declared
abbrev pub linked_in : DirectoryData → NodeEntity → Option Linked
linked_in directory placed = do
  group ← group_in directory placed.node placed.entity.group
  reference ← reference_number directory placed.entity.is
  Some (record { placed = placed; group = group; reference = reference })

-- an entity was linked by a directory, and its numbers have 16 bits
pub record IsLinked (directory : DirectoryData) (linked : Linked) : Type 0 where
  pub by : linked_in directory linked.placed ≡ Some linked
  pub group : linked.group < 65536
  pub reference : IfSome linked.reference (λ number. number < 65536)

-- ---- scripts and entities

-- the names that the scripts of a node may use
abbrev pub scope_in : DirectoryData → ℕ → ScopeNames
scope_in directory node = record {
  topic = topic_number directory;
  client = entity_number directory (λ placed. is_of kind.Client placed.entity.is && (placed.node == node));
  action_client = entity_number directory (λ placed. is_of kind.ActionClient placed.entity.is && (placed.node == node));
  server = entity_number directory (λ placed. is_of kind.Server placed.entity.is && (placed.node == node));
}

-- a node of a directory
pub record NodeData : Type 0 where
  pub directory : DirectoryData
  pub node : ℕ

-- what an entity of a node is that refers to this number, its scripts read by the directory
abbrev pub resolved_by : NodeData → Option ℕ → Drafted → Option Resolved
resolved_by scope reference = read_by (λ to name. reference) (resolved_script (scope_in scope.directory scope.node))

-- what the name of a linked entity is declared as, its scripts read by the directory
abbrev pub declaration_in : DirectoryData → Linked → Option Declared
declaration_in directory linked =
    option_map (in_group linked.group) (resolved_by (record { directory = directory; node = linked.placed.node }) linked.reference linked.placed.entity.is)

-- what is declared as this, with the name of a placed entity
abbrev pub titled : NodeEntity → Declared → EntityData
titled placed is = record { name = placed.entity.name; is = is }

-- whether the callback group of a number is reentrant
abbrev pub is_reentrant_at : List CallbackGroup → GroupNo → Bool
is_reentrant_at groups group = option_map_or (λ found. not found.exclusive) (slice_get groups group) false

-- the fault of a decoded script in its place
abbrev pub fault_at : Bool → RoleScriptData Script → Option ScriptFault
fault_at reentrant roled = result_err (legality_of roled.script (record { reentrant = reentrant; role = roled.role }))

-- the faults of the scripts of what is declared; a topic has no scripts
abbrev pub faults_of : List CallbackGroup → Declared → List ScriptFault
faults_of groups Topic = []
faults_of groups (Entity entity) = filter_map (fault_at (is_reentrant_at groups entity.group)) (scripts_of entity.is)
