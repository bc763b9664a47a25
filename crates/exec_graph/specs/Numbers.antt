-- Numbers of what a graph declares: topics and entities share one numbering, callback groups have another.
use Rattle.std.specs.Prelude.{ℕ, suc, List, [], ◌∷◌, ◌++◌, length, map, Bool, true, false, ◌&&◌, ◌==◌, Option, None, Some}
use Rattle.std.specs.List.{filter, flat_map, position_from}
use Rattle.std.specs.Str.{bytes_eq}
use Rattle.exec_graph.specs.declared.draft.GraphDraft.{GraphDraft}
use Rattle.exec_msg.specs.Numbers.{EntityNo}
use Rattle.exec_plan.specs.Entity.{entity_kinds, is_of}
use Rattle.exec_graph.specs.declared.draft.GroupDraft.{GroupDraft}
use Rattle.exec_graph.specs.declared.draft.NodeDraft.{NodeDraft}
use Rattle.exec_graph.specs.declared.draft.EntityDraft.{EntityDraft}
use Rattle.exec_plan.specs.declared.entity.CallbackGroup.{CallbackGroup}
use Rattle.exec_plan.specs.declared.entity.EntityKind.{EntityKind}
use Rattle.exec_plan.specs.declared.entity.EntityKind.TheVariants as kind
use Rattle.exec_plan.specs.declared.entity.parts.Referent.{Referent}
use Rattle.exec_plan.specs.declared.entity.parts.Referent.TheVariants as referent
use Rattle.exec_script.specs.Spelling.{ScopeNames}

-- ---- entities

-- an entity with the number of its node
pub record NodeEntity : Type 0 where
  pub node : ℕ
  pub entity : EntityDraft

-- an entity of a node
abbrev pub node_entity : ℕ → EntityDraft → NodeEntity
node_entity node entity = record { node = node; entity = entity }

-- the entities of nodes in order, of which the first has this number
abbrev pub entities_from : ℕ → List NodeDraft → List NodeEntity
entities_from number [] = []
entities_from number (node ∷ nodes) = map (node_entity number) node.entities ++ entities_from (suc number) nodes

-- the entities of a graph in the order of their numbers: by kind, and within a kind in the order of declaration
abbrev pub entities_of : GraphDraft → List NodeEntity
entities_of draft = flat_map (λ kind. filter (λ placed. is_of kind placed.entity.is) (entities_from 0 draft.nodes)) entity_kinds

-- the number of the topic of a name; topics have the first numbers
abbrev pub topic_named : GraphDraft → List ℕ → Option EntityNo
topic_named draft name = position_from (λ topic. bytes_eq topic name) 0 draft.topics

-- the number of the entity of a name that passes a test; entities have the numbers behind those of the topics
abbrev pub entity_named : GraphDraft → (NodeEntity → Bool) → List ℕ → Option EntityNo
entity_named draft test name = position_from (λ placed. test placed && bytes_eq placed.entity.name name) (length draft.topics) (entities_of draft)

-- the number of the entity of a kind and a name, in whatever node
abbrev pub kind_named : GraphDraft → EntityKind → List ℕ → Option EntityNo
kind_named draft kind name = entity_named draft (λ placed. is_of kind placed.entity.is) name

-- the number of the action server of a name, in whatever node
abbrev pub server_named : GraphDraft → List ℕ → Option EntityNo
server_named draft = kind_named draft kind.Server

-- the number of what a name must be declared as
abbrev pub named : GraphDraft → Referent → List ℕ → Option EntityNo
named draft referent.Topic = topic_named draft
named draft (referent.Entity kind) = kind_named draft kind

-- the number of the entity of a kind and a name in a node
abbrev pub named_in_node : GraphDraft → ℕ → EntityKind → List ℕ → Option EntityNo
named_in_node draft node kind name = entity_named draft (λ placed. is_of kind placed.entity.is && (placed.node == node)) name

-- the names that the scripts of a node may use: every topic, and the node's own clients and servers
abbrev pub scope_of : GraphDraft → ℕ → ScopeNames
scope_of draft node = record {
  topic = topic_named draft;
  client = named_in_node draft node kind.Client;
  action_client = named_in_node draft node kind.ActionClient;
  server = named_in_node draft node kind.Server;
}

-- ---- callback groups

-- a node's default group, which is mutually exclusive
abbrev pub default_group : ℕ → CallbackGroup
default_group node = record { node = node; name = None; exclusive = true }

-- a node's named group
abbrev pub named_group : ℕ → GroupDraft → CallbackGroup
named_group node group = record { node = node; name = Some group.name; exclusive = group.exclusive }

-- the groups of nodes in order, of which the first has this number: each node's default group, and then its named groups
abbrev pub groups_from : ℕ → List NodeDraft → List CallbackGroup
groups_from number [] = []
groups_from number (node ∷ nodes) = default_group number ∷ map (named_group number) node.groups ++ groups_from (suc number) nodes

-- the groups of a graph in the order of their numbers
abbrev pub groups_of : GraphDraft → List CallbackGroup
groups_of draft = groups_from 0 draft.nodes

-- whether both have no name, or the same name
abbrev pub same_name : Option (List ℕ) → Option (List ℕ) → Bool
same_name None None = true
same_name (Some name) (Some other) = bytes_eq name other
same_name _ _ = false

-- whether a group is the one of this name in this node, where its default group has none
abbrev pub is_group : ℕ → Option (List ℕ) → CallbackGroup → Bool
is_group node name group = (group.node == node) && same_name group.name name

-- the number of the group of a name in a node
abbrev pub group_named : GraphDraft → ℕ → Option (List ℕ) → Option ℕ
group_named draft node name = position_from (is_group node name) 0 (groups_of draft)
