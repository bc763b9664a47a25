-- Lawful graphs, and plans within their limits.
use Rattle.std.specs.Prelude.{◌≡◌, ℕ, ◌<◌, ◌≤◌, ◌^◌, List, [], ◌∷◌, length, map, Bool, true, false, not, is_some, is_none, ◌&&◌, ◌==◌, nat_le, IsTrue, Some, option_and_then, slice_get, Ok, ◌-◌}
use Rattle.std.specs.List.{All, filter, filter_map, list_all}
use Rattle.std.specs.Option.{option_map_or}
use Rattle.exec_msg.specs.Numbers.{EntityNo}
use Rattle.exec_script.specs.Instruction.{Script}
use Rattle.exec_plan.specs.Entity.{RoleScriptData, rank_of, kind_of_entity, refers, is_from_1, is_within, scripts_of}
use Rattle.exec_plan.specs.Graph.{GraphData, of_entity, is_topic, is_a, is_client, is_server, is_action_client, group_of, names_of}
use Rattle.exec_plan.specs.declared.entity.CallbackGroup.{CallbackGroup}
use Rattle.exec_plan.specs.declared.entity.Declared.{Declared}
use Rattle.exec_plan.specs.declared.entity.Declared.TheVariants.{Topic, Entity}
use Rattle.exec_plan.specs.declared.entity.GraphEntity.{GraphEntity}
use Rattle.exec_plan.specs.declared.entity.parts.Referent.{Referent}
use Rattle.exec_plan.specs.declared.entity.parts.Referent.TheVariants as referent
use Rattle.exec_plan.specs.Names.{is_name, are_distinct}
use Rattle.exec_plan.specs.Plan.{PlanData, Fed}
use Rattle.exec_plan.specs.declared.plan.FedOf.TheVariants.{Message, Goal, Cancel}
use Rattle.exec_msg.specs.declared.limits.TheConstants.{NODES, NAMED_GROUPS, TOPICS, ENTITIES, INSTRUCTIONS, MOMENTS, FEED, TICKS}
use Rattle.exec_script.specs.Legality.{legality_of}
use Rattle.exec_script.specs.declared.instr.Instr.{Instr}
use Rattle.exec_script.specs.Instruction as instr

-- ---- references

-- whether what stands at a number passes a test
abbrev pub is_at : (Declared → Bool) → GraphData → EntityNo → Bool
is_at test graph number = option_map_or (λ entity. test entity.is) (slice_get graph.entities number) false

-- whether an entity is of a node: its callback group is
abbrev pub is_of_node : GraphData → ℕ → Declared → Bool
is_of_node graph node declared = option_map_or (λ group. group.node == node) (option_and_then (slice_get graph.groups) (group_of declared)) false

-- whether what stands at a number passes a test and is an entity of a node
abbrev pub is_at_node : (Declared → Bool) → GraphData → ℕ → EntityNo → Bool
is_at_node test graph node number = is_at (λ declared. test declared && is_of_node graph node declared) graph number

-- whether an instruction of a node's script names what is there: a topic, or a client or server of the node itself
abbrev pub is_known : GraphData → ℕ → Instr → Bool
is_known graph node (instr.Pub number value) = is_at is_topic graph number
is_known graph node (instr.Call number value) = is_at_node is_client graph node number
is_known graph node (instr.Goal number value) = is_at_node is_action_client graph node number
is_known graph node (instr.CancelAll number stamp) = is_at_node is_action_client graph node number
is_known graph node (instr.CancelGoal number wanted stamp) = is_at_node is_action_client graph node number
is_known graph node (instr.Execute number) = is_at_node is_server graph node number
is_known graph node _ = true

-- whether what a name must be declared as stands at a number, in whatever node
abbrev pub is_declared : GraphData → Referent → EntityNo → Bool
is_declared graph referent.Topic number = is_at is_topic graph number
is_declared graph (referent.Entity kind) number = is_at (is_a kind) graph number

-- ---- entities

-- a script of a callback group is lawful: it is short enough, allowed in its place, and names what is there
pub record IsLawfulScript (graph : GraphData) (group : CallbackGroup) (roled : RoleScriptData Script) : Type 0 where
  pub short : length roled.script ≤ INSTRUCTIONS
  pub legal : legality_of roled.script (record { reentrant = not group.exclusive; role = roled.role }) ≡ Ok tt
  pub known : IsTrue (list_all (is_known graph group.node) roled.script)

-- an entity is lawful: it has one callback group, what it refers to is there, its numbers are within their limits, and its
-- scripts are lawful there
pub record IsLawfulEntity (graph : GraphData) (entity : GraphEntity) : Type 0 where
  pub group : CallbackGroup
  pub grouped : slice_get graph.groups entity.group ≡ Some group
  pub referring : IsTrue (refers (is_declared graph) entity.is)
  pub within : IsTrue (is_within entity.is)
  pub scripts : All (IsLawfulScript graph group) (scripts_of entity.is)

-- what a name is declared as is lawful: of a topic nothing is asked
abbrev pub IsLawfulDeclared : GraphData → Declared → Type 0
IsLawfulDeclared graph Topic = Unit {0}
IsLawfulDeclared graph (Entity entity) = IsLawfulEntity graph entity

-- ---- graphs

-- the place of what a name is declared as in the order of numbers: topics stand before all kinds of entities
abbrev pub block_of : Declared → ℕ
block_of = of_entity 0 (λ entity. rank_of (kind_of_entity entity))

-- each number is at or above the one before it
abbrev pub is_ascending_from : ℕ → List ℕ → Bool
is_ascending_from least [] = true
is_ascending_from least (number ∷ numbers) = nat_le least number && is_ascending_from number numbers

-- the names of the named callback groups of a node
abbrev pub group_names : ℕ → GraphData → List (List ℕ)
group_names node graph = filter_map (λ group. group.name) (filter (λ group. group.node == node) graph.groups)

-- the default callback groups of a node
abbrev pub default_groups : ℕ → GraphData → List CallbackGroup
default_groups node graph = filter (λ group. is_none group.name && (group.node == node)) graph.groups

-- a node has one default callback group, which is mutually exclusive, and its named groups have distinct names
pub record IsLawfulNode (graph : GraphData) (node : ℕ) : Type 0 where
  pub one_default : length (default_groups node graph) ≡ 1
  pub default_exclusive : IsTrue (list_all (λ group. group.exclusive) (default_groups node graph))
  pub well_named : IsTrue (list_all is_name (group_names node graph))
  pub distinct : IsTrue (are_distinct (group_names node graph))

-- a lawful graph; any order within a kind is lawful, and any numbering of groups, since the order of declaration is that of
-- the lists
pub record IsLawful (graph : GraphData) : Type 0 where
  pub few_nodes : length graph.nodes ≤ NODES
  pub few_groups : length (filter (λ group. is_some group.name) graph.groups) ≤ NAMED_GROUPS
  pub few_topics : length (filter (λ entity. is_topic entity.is) graph.entities) ≤ TOPICS
  pub few_entities : length (filter (λ entity. not (is_topic entity.is)) graph.entities) ≤ ENTITIES
  pub node_names : IsTrue (list_all is_name graph.nodes)
  pub distinct_nodes : IsTrue (are_distinct graph.nodes)
  pub names : IsTrue (list_all is_name (names_of graph))
  pub distinct_names : IsTrue (are_distinct (names_of graph))
  pub groups : All (λ group. group.node < length graph.nodes) graph.groups
  pub nodes : (node : ℕ) → node < length graph.nodes → IsLawfulNode graph node
  pub blocks : IsTrue (is_ascending_from 0 (map (λ entity. block_of entity.is) graph.entities))
  pub entities : All (λ entity. IsLawfulDeclared graph entity.is) graph.entities

-- ---- plans

-- whether what is fed is well formed: a topic, or a server with the identifier of a goal, which isn't 0, or with a cancel
-- request, whose stamp is within its limit; an identifier has 128 bits
abbrev pub is_fed_well : GraphData → Fed → Bool
is_fed_well graph (Message number value) = is_at is_topic graph number
is_fed_well graph (Goal number id value) = is_at is_server graph number && is_from_1 (2 ^ 128 - 1) id
is_fed_well graph (Cancel number id stamp) = is_at is_server graph number && nat_le id (2 ^ 128 - 1) && nat_le stamp TICKS

-- a lawful plan: its graph is lawful, no moment is below the one before it, and the feed's rounds are rounds of the plan
pub record IsLawfulPlan (plan : PlanData) : Type 0 where
  pub graph : IsLawful plan.graph
  pub few_moments : length plan.moments ≤ MOMENTS
  pub moments : All (λ moment. moment ≤ TICKS) plan.moments
  pub clock : IsTrue (is_ascending_from 0 plan.moments)
  pub short_feed : length plan.feed ≤ FEED
  pub rounds : All (λ entry. IsTrue (is_from_1 (length plan.moments) entry.round)) plan.feed
  pub fed : All (λ entry. IsTrue (is_fed_well plan.graph entry.fed)) plan.feed
