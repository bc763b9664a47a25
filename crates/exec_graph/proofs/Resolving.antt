-- What names find in the graph of a document.
use Rattle.std.proofs.Common.{◌≡◌, ℕ, ◌+◌, Bool, true, false, not, ◌&&◌, ◌==◌, length, map, List, ◌++◌, Some, option_and_then, slice_get, bytes_eq, refl, ap, ◌∙◌, subst, arith}
use Rattle.std.specs.Option.{option_map_or}
use Rattle.std.proofs.lemmas.Bool.{eqb-true, and_parts, and_from}
use Rattle.std.proofs.lemmas.List.{length-map}
use Rattle.std.proofs.lemmas.Option.{same_Some}
use Rattle.exec_graph.specs.declared.draft.GraphDraft.{GraphDraft}
use Rattle.exec_plan.specs.Entity.{Resolved, kind_of_entity, rank_of, is_of, read_by}
use Rattle.exec_plan.specs.Graph.{EntityData, GraphData, in_group, is_topic, is_a, is_server, group_of}
use Rattle.exec_plan.specs.Lawful.{is_at, is_of_node, is_at_node, is_declared, block_of}
use Rattle.exec_graph.specs.Numbers.{NodeEntity, entities_of, topic_named, entity_named, kind_named, server_named, named, named_in_node, scope_of, is_group, same_name, groups_of, group_named}
use Rattle.exec_msg.specs.Options.{each}
use Rattle.exec_graph.specs.Resolved.{resolved_script, resolved_entity, resolved_topic, resolved_graph}
use Rattle.exec_graph.specs.Scripts.{is_reentrant}
use Rattle.exec_plan.specs.declared.entity.CallbackGroup.{CallbackGroup}
use Rattle.exec_plan.specs.declared.entity.EntityKind.{EntityKind}
use Rattle.exec_plan.specs.declared.entity.EntityKind.TheVariants as entity_kind
use Rattle.exec_plan.specs.declared.entity.parts.Referent.{Referent}
use Rattle.exec_plan.specs.declared.entity.parts.Referent.TheVariants as referent
use Rattle.exec_graph.proofs.EntityReading.{IsReadBy, read_has}
use Rattle.exec_graph.proofs.Known.{Knows}
use Rattle.exec_plan.proofs.Positions.{at_position, slice_get-map, slice_get-front, slice_get-behind}
use Rattle.exec_plan.proofs.Reading.{then_read, AreRead, are_read, read_at}

-- the graph of a document, whose entities are these
abbrev pub graph_of : GraphDraft → List EntityData → GraphData
graph_of source entities = record {
  nodes = map (λ node. node.name) source.nodes;
  groups = groups_of source;
  entities = map resolved_topic source.topics ++ entities;
}

-- its entities are what is read of the document's
abbrev pub AreEntities : GraphDraft → List EntityData → Type 0
AreEntities source entities = AreRead (resolved_entity source) (entities_of source) entities

-- ---- entities

-- an entity: its name, the number of its group, what it is, and what that has of its draft
pub record IsBuilt (source : GraphDraft) (placed : NodeEntity) (entity : EntityData) : Type 0 where
  pub number : ℕ
  pub is : Resolved
  pub found : group_named source placed.node placed.entity.group ≡ Some number
  pub named_as : entity.name ≡ placed.entity.name
  pub declared : entity.is ≡ in_group number is
  pub read : IsReadBy (named source) (resolved_script (scope_of source placed.node)) placed.entity.is is

pub built : (source : GraphDraft) (placed : NodeEntity) (entity : EntityData) → resolved_entity source placed ≡ Some entity → IsBuilt source placed entity
built source placed entity e =
    then_read _ (group_named source placed.node placed.entity.group) _ entity e (λ number found e1.
    then_read _ (read_by (named source) (resolved_script (scope_of source placed.node)) placed.entity.is) _ entity e1 (λ is read e2.
    subst (IsBuilt source placed) (same_Some (record { name = placed.entity.name; is = in_group number is }) entity e2)
    (record { number = number; is = is; found = found; named_as = refl; declared = refl; read = read_has (named source) (resolved_script (scope_of source placed.node)) placed.entity.is is read })))

module _ (source : GraphDraft) (placed : NodeEntity) (entity : EntityData) (build : IsBuilt source placed entity) where
  -- it is no topic
  pub no_topic : is_topic entity.is ≡ false
  no_topic = ap is_topic build.declared

  -- it is of the kind of its draft
  pub same_kind : (kind : EntityKind) → is_a kind entity.is ≡ is_of kind placed.entity.is
  same_kind kind = ap (is_a kind) build.declared ∙ ap (λ (of : EntityKind). rank_of kind == rank_of of) build.read.kind

  -- and stands in the block of that kind
  pub same_block : block_of entity.is ≡ rank_of (kind_of_entity placed.entity.is)
  same_block = ap block_of build.declared ∙ ap rank_of build.read.kind

  -- its group is the one that its draft names
  pub same_group : group_of entity.is ≡ Some build.number
  same_group = ap group_of build.declared

-- ---- groups

-- the group of an entity: it is of its node, and is reentrant where it isn't mutually exclusive
pub record HasGroup (source : GraphDraft) (placed : NodeEntity) (number : ℕ) : Type 0 where
  pub group : CallbackGroup
  pub there : slice_get (groups_of source) number ≡ Some group
  pub node : group.node ≡ placed.node
  pub reentrant : is_reentrant source placed ≡ not group.exclusive

pub has_group : (source : GraphDraft) (placed : NodeEntity) (number : ℕ) → group_named source placed.node placed.entity.group ≡ Some number → HasGroup source placed number
has_group source placed number found =
    let at = at_position (is_group placed.node placed.entity.group) 0 (groups_of source) number found in
    let same : number ≡ at.place = omega (arith, at.counted) in
    record {
      group = at.element;
      there = ap (slice_get (groups_of source)) same ∙ at.there;
      node = eqb-true at.element.node placed.node (and_parts (at.element.node == placed.node) (same_name at.element.name placed.entity.group) at.passes).0;
      reentrant = rw at.found refl;
    }

-- ---- what is found

found_at : (test : EntityData → Bool) (entities : List EntityData) (number : ℕ) (entity : EntityData) → slice_get entities number ≡ Some entity → test entity ≡ true → option_map_or test (slice_get entities number) false ≡ true
found_at test entities number entity there passes = rw there passes

pub topic_there : (source : GraphDraft) (entities : List EntityData) (name : List ℕ) (number : ℕ) → topic_named source name ≡ Some number → is_at is_topic (graph_of source entities) number ≡ true
topic_there source entities name number found =
    let at = at_position (λ topic. bytes_eq topic name) 0 source.topics number found in
    let same : number ≡ at.place = omega (arith, at.counted) in
    let there = slice_get-front (map resolved_topic source.topics) entities at.place (resolved_topic at.element) (slice_get-map resolved_topic source.topics at.place at.element at.there) in
    found_at (λ entity. is_topic entity.is) (map resolved_topic source.topics ++ entities) number (resolved_topic at.element) (ap (slice_get (map resolved_topic source.topics ++ entities)) same ∙ there) refl

-- an entity of a name that passes a test, at its number
pub record IsEntityAt (source : GraphDraft) (entities : List EntityData) (test : NodeEntity → Bool) (number : ℕ) : Type 0 where
  pub placed : NodeEntity
  pub entity : EntityData
  pub passes : test placed ≡ true
  pub read : resolved_entity source placed ≡ Some entity
  pub there : slice_get (map resolved_topic source.topics ++ entities) number ≡ Some entity

pub entity_there : (source : GraphDraft) (entities : List EntityData) (test : NodeEntity → Bool) (name : List ℕ) (number : ℕ) → AreEntities source entities → entity_named source test name ≡ Some number → IsEntityAt source entities test number
entity_there source entities test name number reads found =
    let at = at_position (λ placed. test placed && bytes_eq placed.entity.name name) (length source.topics) (entities_of source) number found in
    let read = read_at (resolved_entity source) (entities_of source) entities at.place at.element reads at.there in
    let same : number ≡ length (map resolved_topic source.topics) + at.place = omega (arith, at.counted, length-map source.topics resolved_topic) in
    record {
      placed = at.element;
      entity = read.element;
      passes = (and_parts (test at.element) (bytes_eq at.element.entity.name name) at.passes).0;
      read = read.is;
      there = ap (slice_get (map resolved_topic source.topics ++ entities)) same ∙ slice_get-behind (map resolved_topic source.topics) entities at.place ∙ read.there;
    }

-- an entity of a kind and a name is there
kind_there : (source : GraphDraft) (entities : List EntityData) (kind : EntityKind) (name : List ℕ) (number : ℕ) → AreEntities source entities → kind_named source kind name ≡ Some number → is_at (is_a kind) (graph_of source entities) number ≡ true
kind_there source entities kind name number reads found =
    let at = entity_there source entities (λ placed. is_of kind placed.entity.is) name number reads found in
    found_at (λ entity. is_a kind entity.is) (map resolved_topic source.topics ++ entities) number at.entity at.there (same_kind source at.placed at.entity (built source at.placed at.entity at.read) kind ∙ at.passes)

-- so is what a name must be declared as
pub named_there : (source : GraphDraft) (entities : List EntityData) → AreEntities source entities → (to : Referent) (name : List ℕ) (number : ℕ) → named source to name ≡ Some number → is_declared (graph_of source entities) to number ≡ true
named_there source entities reads referent.Topic name number found = topic_there source entities name number found
named_there source entities reads (referent.Entity kind) name number found = kind_there source entities kind name number reads found

-- ---- what scripts may use

of_node : (source : GraphDraft) (entities : List EntityData) (node : ℕ) (placed : NodeEntity) (entity : EntityData) → IsBuilt source placed entity → (placed.node == node) ≡ true → is_of_node (graph_of source entities) node entity.is ≡ true
of_node source entities node placed entity build here =
    let has = has_group source placed build.number build.found in
    let is : has.group.node == node ≡ true = ap (λ (n : ℕ). n == node) has.node ∙ here in
    let there : option_and_then (slice_get (groups_of source)) (group_of entity.is) ≡ Some has.group = ap (option_and_then (slice_get (groups_of source))) (same_group source placed entity build) ∙ has.there in
    rw there is

in_node : (source : GraphDraft) (entities : List EntityData) (node : ℕ) (kind : EntityKind) (name : List ℕ) (number : ℕ) → AreEntities source entities → named_in_node source node kind name ≡ Some number → is_at_node (is_a kind) (graph_of source entities) node number ≡ true
in_node source entities node kind name number reads found =
    let at = entity_there source entities (λ placed. is_of kind placed.entity.is && (placed.node == node)) name number reads found in
    let build = built source at.placed at.entity at.read in
    let is = same_kind source at.placed at.entity build kind ∙ (and_parts (is_of kind at.placed.entity.is) (at.placed.node == node) at.passes).0 in
    let here = of_node source entities node at.placed at.entity build (and_parts (is_of kind at.placed.entity.is) (at.placed.node == node) at.passes).1 in
    found_at (λ entity. is_a kind entity.is && is_of_node (graph_of source entities) node entity.is) (map resolved_topic source.topics ++ entities) number at.entity at.there
    (and_from (is_a kind at.entity.is) (is_of_node (graph_of source entities) node at.entity.is) is here)

pub knows : (source : GraphDraft) (entities : List EntityData) (node : ℕ) → AreEntities source entities → Knows (scope_of source node) (graph_of source entities) node
knows source entities node reads = record {
  topics = topic_there source entities;
  clients = λ name number found. in_node source entities node entity_kind.Client name number reads found;
  action_clients = λ name number found. in_node source entities node entity_kind.ActionClient name number reads found;
  servers = λ name number found. in_node source entities node entity_kind.Server name number reads found;
}

-- ---- the graph of a draft

pub topic_found : (source : GraphDraft) (made : GraphData) (name : List ℕ) (number : ℕ) → resolved_graph source ≡ Some made → topic_named source name ≡ Some number → is_at is_topic made number ≡ true
topic_found source made name number is found =
    then_read _ (each (resolved_entity source) (entities_of source)) _ made is (λ entities read e.
    subst (λ (shape : GraphData). is_at is_topic shape number ≡ true) (same_Some (graph_of source entities) made e) (topic_there source entities name number found))

pub server_found : (source : GraphDraft) (made : GraphData) (name : List ℕ) (number : ℕ) → resolved_graph source ≡ Some made → server_named source name ≡ Some number → is_at is_server made number ≡ true
server_found source made name number is found =
    then_read _ (each (resolved_entity source) (entities_of source)) _ made is (λ entities read e.
    subst (λ (shape : GraphData). is_at is_server shape number ≡ true) (same_Some (graph_of source entities) made e)
    (kind_there source entities entity_kind.Server name number (are_read (resolved_entity source) (entities_of source) entities read) found))
