-- What a graph finds by name: what its draft names, at the same number.
use Rattle.std.proofs.Common.{◌≡◌, ℕ, ◌+◌, Bool, false, cond, ◌&&◌, length, map, List, [], ◌∷◌, ◌++◌, Option, None, Some, bytes_eq, refl, ap, ap₂, ◌∙◌, subst, arith, zero-add}
use Rattle.std.specs.List.{position_from}
use Rattle.std.proofs.lemmas.Option.{same_Some}
use Rattle.exec_graph.specs.declared.draft.GraphDraft.{GraphDraft}
use Rattle.exec_plan.specs.Graph.{EntityData, GraphData, is_topic, is_server, topic_at, server_at}
use Rattle.exec_plan.specs.Entity.{is_of}
use Rattle.exec_graph.specs.Numbers.{NodeEntity, entities_of, topic_named, server_named}
use Rattle.exec_msg.specs.Options.{each}
use Rattle.exec_graph.specs.Resolved.{resolved_entity, resolved_topic, resolved_graph}
use Rattle.exec_plan.specs.declared.entity.EntityKind.TheVariants as kind
use Rattle.exec_plan.proofs.Reading.{then_read, AreRead, are_read}
use Rattle.exec_graph.proofs.Resolving.{graph_of, AreEntities, built, no_topic, same_kind}

-- a test that no topic passes is asked behind the topics
skip_topics : (test : EntityData → Bool) (topics : List (List ℕ)) (entities : List EntityData) (first : ℕ) → ((name : List ℕ) → test (resolved_topic name) ≡ false)
    → position_from test first (map resolved_topic topics ++ entities) ≡ position_from test (first + length topics) entities
skip_topics test [] entities first fails =
    let e : first ≡ first + 0 = omega arith in
    ap (λ (n : ℕ). position_from test n entities) e
skip_topics test (topic ∷ topics) entities first fails =
    let e : (first + 1) + length topics ≡ first + length (topic ∷ topics) = omega arith in
    rw (fails topic) (skip_topics test topics entities (first + 1) fails ∙ ap (λ (n : ℕ). position_from test n entities) e)

-- no entity is a topic
no_topics : (source : GraphDraft) (name : List ℕ) (placed : List NodeEntity) (entities : List EntityData) (first : ℕ) → AreRead (resolved_entity source) placed entities
    → position_from (λ entity. is_topic entity.is && bytes_eq entity.name name) first entities ≡ None
no_topics source name [] [] first reads = refl
no_topics source name [] (entity ∷ entities) first reads = absurd reads
no_topics source name (p ∷ placed) [] first reads = absurd reads
no_topics source name (p ∷ placed) (entity ∷ entities) first reads =
    rw (no_topic source p entity (built source p entity reads.0)) (no_topics source name placed entities (first + 1) reads.1)

topics_first : (source : GraphDraft) (name : List ℕ) (topics : List (List ℕ)) (entities : List EntityData) (first : ℕ) → AreEntities source entities
    → position_from (λ entity. is_topic entity.is && bytes_eq entity.name name) first (map resolved_topic topics ++ entities) ≡ position_from (λ topic. bytes_eq topic name) first topics
topics_first source name [] entities first reads = no_topics source name (entities_of source) entities first reads
topics_first source name (topic ∷ topics) entities first reads =
    ap (λ (o : Option ℕ). cond (bytes_eq topic name) (Some first) o) (topics_first source name topics entities (first + 1) reads)

servers_alike : (source : GraphDraft) (name : List ℕ) (placed : List NodeEntity) (entities : List EntityData) (first : ℕ) → AreRead (resolved_entity source) placed entities
    → position_from (λ entity. is_server entity.is && bytes_eq entity.name name) first entities
    ≡ position_from (λ p. is_of kind.Server p.entity.is && bytes_eq p.entity.name name) first placed
servers_alike source name [] [] first reads = refl
servers_alike source name [] (entity ∷ entities) first reads = absurd reads
servers_alike source name (p ∷ placed) [] first reads = absurd reads
servers_alike source name (p ∷ placed) (entity ∷ entities) first reads =
    let build = built source p entity reads.0 in
    ap₂ (λ (b : Bool) (o : Option ℕ). cond b (Some first) o)
    (ap₂ (λ (b : Bool) (n : List ℕ). b && bytes_eq n name) (same_kind source p entity build kind.Server) build.named_as)
    (servers_alike source name placed entities (first + 1) reads.1)

-- a graph finds the names of its draft at their numbers
pub record Finds (source : GraphDraft) (made : GraphData) : Type 0 where
  pub topic : (name : List ℕ) → topic_at made name ≡ topic_named source name
  pub server : (name : List ℕ) → server_at made name ≡ server_named source name

pub finds : (source : GraphDraft) (made : GraphData) → resolved_graph source ≡ Some made → Finds source made
finds source made e =
    then_read _ (each (resolved_entity source) (entities_of source)) _ made e (λ entities read is.
    let reads = are_read (resolved_entity source) (entities_of source) entities read in
    subst (Finds source) (same_Some (graph_of source entities) made is) (record {
      topic = λ name. topics_first source name source.topics entities 0 reads;
      server = λ name. skip_topics (λ entity. is_server entity.is && bytes_eq entity.name name) source.topics entities 0 (λ topic. refl)
          ∙ ap (λ (n : ℕ). position_from (λ entity. is_server entity.is && bytes_eq entity.name name) n entities) (zero-add (length source.topics))
          ∙ servers_alike source name (entities_of source) entities (length source.topics) reads;
    }))
