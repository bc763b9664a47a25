-- What a directory finds is what the draft of a graph declares.
use Rattle.std.proofs.Common.{◌≡◌, ℕ, ◌+◌, ◌-◌, ◌<◌, ◌≤◌, Bool, true, false, not, ◌&&◌, ◌==◌, cond, if◌then◌else◌, nat_lt, length, map, List, [], ◌∷◌, ◌++◌, Option, None, Some, option_and_then, slice_get, refl, sym, ap, subst, ◌∙◌, append_assoc, zero-add, arith}
use Rattle.std.specs.Bool.{then_some}
use Rattle.std.specs.List.{list_any, position_from}
use Rattle.std.specs.Option.{option_map}
use Rattle.std.specs.Str.{bytes_eq}
use Rattle.std.proofs.lemmas.Bool.{lt-ltb, le-ltb, and_parts, or_parts, not-true}
use Rattle.std.proofs.lemmas.List.{length-append}
use Rattle.std.proofs.lemmas.List.Folds.{list_any-append}
use Rattle.std.proofs.lemmas.Option.{same_Some}
use Rattle.std.proofs.lemmas.Slice.Eq.{bytes_eq-Decides}
use Rattle.exec_graph.specs.inner.Directory.{DirectoryData, position_of, placed_named, topic_number, entity_number, number_in, scope_in, reference_number, resolved_by, directory_of}
use Rattle.exec_graph.specs.inner.Directory as Directory
use Rattle.exec_graph.specs.declared.draft.GraphDraft.{GraphDraft}
use Rattle.exec_plan.specs.Entity.{Drafted, is_of, reference_of, if_there, read_by}
use Rattle.exec_plan.specs.declared.entity.EntityOf.{EntityOf}
use Rattle.exec_plan.specs.declared.entity.EntityOf.TheVariants.{Timer, Subscription, Service, Client, Server, ActionClient}
use Rattle.exec_graph.specs.Faults.{drafted_names}
use Rattle.exec_plan.specs.Names.{are_distinct}
use Rattle.exec_graph.specs.Numbers.{NodeEntity, entities_of, topic_named, entity_named, named, scope_of}
use Rattle.exec_graph.specs.Resolved.{resolved_script}
use Rattle.exec_plan.specs.declared.entity.EntityKind.TheVariants as entity_kind
use Rattle.exec_plan.specs.declared.entity.parts.Referent.{Referent}
use Rattle.exec_plan.specs.declared.entity.parts.Referent.TheVariants as referent
use Rattle.exec_graph.proofs.Appended.{name_of}
use Rattle.exec_plan.proofs.Reading.{then_read}
use Rattle.exec_plan.proofs.SameTexts.{is_text}
use Rattle.exec_graph.proofs.TextPlaces.{found_within}

-- whether an entity passes and has this name
abbrev is_wanted : (NodeEntity → Bool) → List ℕ → NodeEntity → Bool
is_wanted test name placed = test placed && bytes_eq placed.entity.name name

-- ---- names that stand once

unfound_by : (test b : Bool) (first : ℕ) (rest : Option ℕ) → b ≡ false → rest ≡ None → cond (test && b) (Some first) rest ≡ None
unfound_by true true first rest is none = absurd cc
unfound_by true false first rest is none = none
unfound_by false b first rest is none = none

-- entities of other names
unfound : (test : NodeEntity → Bool) (name : List ℕ) (first : ℕ) (entities : List NodeEntity) → list_any (is_text name) (map name_of entities) ≡ false → position_from (is_wanted test name) first entities ≡ None
unfound test name first [] none = refl
unfound test name first (placed ∷ entities) none =
    unfound_by (test placed) (bytes_eq (name_of placed) name) first (position_from (is_wanted test name) (first + 1) entities)
    (or_parts (bytes_eq (name_of placed) name) (list_any (is_text name) (map name_of entities)) none).0
    (unfound test name (first + 1) entities (or_parts (bytes_eq (name_of placed) name) (list_any (is_text name) (map name_of entities)) none).1)

-- a name that stands before others, which all differ, isn't among them
stands_once : (name text : List ℕ) (texts : List (List ℕ)) → bytes_eq text name ≡ true → are_distinct (text ∷ texts) ≡ true → list_any (is_text name) texts ≡ false
stands_once name text texts same distinct =
    let is : text ≡ name = (bytes_eq-Decides text name).0 same in
    subst (λ (wanted : List ℕ). list_any (is_text wanted) texts ≡ false) is
    (not-true (list_any (is_text text) texts) (and_parts (not (list_any (is_text text) texts)) (are_distinct texts) distinct).0)

-- ---- entities

-- the entity at a number behind so many topics, with the number
abbrev placed_at : ℕ → List NodeEntity → ℕ → Option (ℕ × NodeEntity)
placed_at topics entities number = if nat_lt number topics then None else option_map (λ placed. (number, placed)) (slice_get entities (number - topics))

at_end : (front : List NodeEntity) (placed : NodeEntity) (entities : List NodeEntity) → slice_get (front ++ placed ∷ entities) (length front) ≡ Some placed
at_end [] placed entities = refl
at_end (other ∷ front) placed entities = at_end front placed entities

found_here : (topics : ℕ) (front : List NodeEntity) (placed : NodeEntity) (entities : List NodeEntity) → placed_at topics (front ++ placed ∷ entities) (topics + length front) ≡ Some (topics + length front, placed)
found_here topics front placed entities =
    let back : topics + length front - topics ≡ length front = omega arith in
    rw (le-ltb (topics + length front) topics (omega arith), back, at_end front placed entities) refl

here_by : (t : Bool) (number : ℕ) (rest : Option ℕ) → rest ≡ None → then_some t number ≡ cond (t && true) (Some number) rest
here_by true number rest none = refl
here_by false number rest none = sym none

later_by : (t : Bool) (number : ℕ) (rest : Option ℕ) → rest ≡ cond (t && false) (Some number) rest
later_by true number rest = refl
later_by false number rest = refl

-- the number of an entity that passes a test
abbrev passing : (NodeEntity → Bool) → ℕ × NodeEntity → Option ℕ
passing test found = then_some (test found.1) found.0

module _ (test : NodeEntity → Bool) (name : List ℕ) (topics : ℕ) where
  -- what is found among entities, behind those in front
  abbrev found_among : List NodeEntity → Option ℕ → Option ℕ
  found_among all number = option_and_then (passing test) (option_and_then (placed_at topics all) number)

  among_by : (b : Bool) (front : List NodeEntity) (placed : NodeEntity) (entities : List NodeEntity) (first : ℕ) → first ≡ topics + length front → bytes_eq (name_of placed) name ≡ b → are_distinct (map name_of (placed ∷ entities)) ≡ true →
      (found_among (front ++ placed ∷ entities) (position_from (is_text name) (first + 1) (map name_of entities)) ≡ position_from (is_wanted test name) (first + 1) entities) →
      found_among (front ++ placed ∷ entities) (cond b (Some first) (position_from (is_text name) (first + 1) (map name_of entities)))
      ≡ cond (test placed && b) (Some first) (position_from (is_wanted test name) (first + 1) entities)
  among_by true front placed entities first is same distinct others =
      rw is (ap (option_and_then (passing test)) (found_here topics front placed entities)
      ∙ here_by (test placed) (topics + length front) (position_from (is_wanted test name) (topics + length front + 1) entities)
      (unfound test name (topics + length front + 1) entities (stands_once name (name_of placed) (map name_of entities) same distinct)))
  among_by false front placed entities first is same distinct others =
      others ∙ later_by (test placed) first (position_from (is_wanted test name) (first + 1) entities)

  among : (front entities : List NodeEntity) (first : ℕ) → first ≡ topics + length front → are_distinct (map name_of entities) ≡ true →
      found_among (front ++ entities) (position_from (is_text name) first (map name_of entities)) ≡ position_from (is_wanted test name) first entities
  among front [] first is distinct = refl
  among front (placed ∷ entities) first is distinct =
      let next : first + 1 ≡ topics + length (front ++ placed ∷ []) = omega (arith, is, length-append front (placed ∷ [])) in
      ap (λ (b : Bool). found_among (front ++ placed ∷ entities) (cond b (Some first) (position_from (is_text name) (first + 1) (map name_of entities)))) refl
      ∙ among_by (bytes_eq (name_of placed) name) front placed entities first is refl distinct
      (ap (λ (all : List NodeEntity). found_among all (position_from (is_text name) (first + 1) (map name_of entities))) (sym (append_assoc front (placed ∷ []) entities))
      ∙ among (front ++ placed ∷ []) entities (first + 1) next (and_parts (not (list_any (is_text (name_of placed)) (map name_of entities))) (are_distinct (map name_of entities)) distinct).1)

  below : (first : ℕ) (entities : List NodeEntity) → first < topics → option_and_then (passing test) (placed_at topics entities first) ≡ None
  below first entities less = rw (lt-ltb first topics less) refl

  behind_by : (b : Bool) (text : List ℕ) (texts : List (List ℕ)) (entities : List NodeEntity) (first : ℕ) → first < topics → bytes_eq text name ≡ b → are_distinct (text ∷ texts ++ map name_of entities) ≡ true →
      found_among entities (position_from (is_text name) (first + 1) (texts ++ map name_of entities)) ≡ position_from (is_wanted test name) topics entities →
      found_among entities (cond b (Some first) (position_from (is_text name) (first + 1) (texts ++ map name_of entities))) ≡ position_from (is_wanted test name) topics entities
  behind_by true text texts entities first less same distinct others =
      below first entities less
      ∙ sym (unfound test name topics entities (or_parts (list_any (is_text name) texts) (list_any (is_text name) (map name_of entities)) (sym (list_any-append (is_text name) texts (map name_of entities)) ∙ stands_once name text (texts ++ map name_of entities) same distinct)).1)
  behind_by false text texts entities first less same distinct others = others

  behind : (texts : List (List ℕ)) (entities : List NodeEntity) (first : ℕ) → topics ≡ first + length texts → are_distinct (texts ++ map name_of entities) ≡ true →
      found_among entities (position_from (is_text name) first (texts ++ map name_of entities)) ≡ position_from (is_wanted test name) topics entities
  behind [] entities first is distinct =
      let same : first ≡ topics = omega (arith, is) in
      rw same (among [] entities topics (omega arith) distinct)
  behind (text ∷ texts) entities first is distinct =
      behind_by (bytes_eq text name) text texts entities first (omega (arith, is)) refl distinct
      (behind texts entities (first + 1) (omega (arith, is)) (and_parts (not (list_any (is_text text) (texts ++ map name_of entities))) (are_distinct (texts ++ map name_of entities)) distinct).1)

-- an entity is found by its name
pub entity_found : (draft : GraphDraft) (test : NodeEntity → Bool) (name : List ℕ) → are_distinct (drafted_names draft) ≡ true → entity_number (directory_of draft) test name ≡ entity_named draft test name
entity_found draft test name distinct = behind test name (length draft.topics) draft.topics (entities_of draft) 0 (omega arith) distinct

-- ---- topics

abbrev topic_below : ℕ → ℕ → Option ℕ
topic_below topics number = then_some (nat_lt number topics) number

beyond_by : (topics : ℕ) (first : ℕ) (b : Bool) (rest : Option ℕ) → topics ≤ first → option_and_then (topic_below topics) rest ≡ None → option_and_then (topic_below topics) (cond b (Some first) rest) ≡ None
beyond_by topics first true rest above others = let e : topics + (first - topics) ≡ first = omega (arith, above) in rw (← e) (rw (le-ltb (topics + (first - topics)) topics (omega arith)) refl)
beyond_by topics first false rest above others = others

beyond : (name : List ℕ) (topics first : ℕ) (texts : List (List ℕ)) → topics ≤ first → option_and_then (topic_below topics) (position_from (is_text name) first texts) ≡ None
beyond name topics first [] above = refl
beyond name topics first (text ∷ texts) above = beyond_by topics first (bytes_eq text name) (position_from (is_text name) (first + 1) texts) above (beyond name topics (first + 1) texts (omega (arith, above)))

topic_by : (b : Bool) (topics first : ℕ) (rest found : Option ℕ) → first < topics → option_and_then (topic_below topics) rest ≡ found → option_and_then (topic_below topics) (cond b (Some first) rest) ≡ cond b (Some first) found
topic_by true topics first rest found less others = rw (lt-ltb first topics less) refl
topic_by false topics first rest found less others = others

topic_among : (name : List ℕ) (topics first : ℕ) (texts others : List (List ℕ)) → topics ≡ first + length texts → option_and_then (topic_below topics) (position_from (is_text name) first (texts ++ others)) ≡ position_from (is_text name) first texts
topic_among name topics first [] others is = beyond name topics first others (omega (arith, is))
topic_among name topics first (text ∷ texts) others is =
    topic_by (bytes_eq text name) topics first (position_from (is_text name) (first + 1) (texts ++ others)) (position_from (is_text name) (first + 1) texts) (omega (arith, is))
    (topic_among name topics (first + 1) texts others (omega (arith, is)))

-- a topic is found by its name
pub topic_found : (draft : GraphDraft) (name : List ℕ) → topic_number (directory_of draft) name ≡ topic_named draft name
topic_found draft name = topic_among name (length draft.topics) 0 draft.topics (map name_of (entities_of draft)) (omega arith)

-- ---- what names and scripts find

-- the number of what a name must be declared as
pub number_same : (draft : GraphDraft) → are_distinct (drafted_names draft) ≡ true → (to : Referent) (name : List ℕ) → number_in (directory_of draft) to name ≡ named draft to name
number_same draft distinct referent.Topic name = topic_found draft name
number_same draft distinct (referent.Entity kind) name = entity_found draft (λ placed. is_of kind placed.entity.is) name distinct

-- the names that a node's scripts may use
pub scope_same : (draft : GraphDraft) → are_distinct (drafted_names draft) ≡ true → (node : ℕ) → scope_in (directory_of draft) node ≡ scope_of draft node
scope_same draft distinct node = λ i. record {
  topic = λ name. topic_found draft name i;
  client = λ name. entity_found draft (λ placed. is_of entity_kind.Client placed.entity.is && (placed.node == node)) name distinct i;
  action_client = λ name. entity_found draft (λ placed. is_of entity_kind.ActionClient placed.entity.is && (placed.node == node)) name distinct i;
  server = λ name. entity_found draft (λ placed. is_of entity_kind.Server placed.entity.is && (placed.node == node)) name distinct i;
}

-- ---- what an entity is

-- something that is read where it is there
read_as : {A : Type 0} (o found : Option A) → option_map (λ (a : A). Some a) o ≡ Some found → o ≡ found
read_as None found e = absurd cc
read_as (Some a) found e = same_Some (Some a) found e

-- what is read by the number of what an entity refers to
module _ {S T : Type 0} (number : Referent → List ℕ → Option ℕ) (read : S → Option T) (reference : Option ℕ) where
  pub read_same : (entity : EntityOf (List ℕ) S) → if_there (λ reference. number reference.to reference.name) (reference_of entity) ≡ Some reference → read_by (λ to name. reference) read entity ≡ read_by number read entity
  read_same (Timer entity) there = refl
  read_same (Subscription entity) there = λ i. option_and_then (λ topic. option_and_then (λ script. Some (Subscription (record { topic = topic; depth = entity.depth; script = script }))) (read entity.script)) (sym (read_as (number referent.Topic entity.topic) reference there) i)
  read_same (Service entity) there = refl
  read_same (Client entity) there = λ i. option_and_then (λ service. option_and_then (λ script. Some (Client (record { service = service; depth = entity.depth; script = script }))) (read entity.script)) (sym (read_as (number (referent.Entity entity_kind.Service) entity.service) reference there) i)
  read_same (Server entity) there = refl
  read_same (ActionClient entity) there = λ i. read_by (λ to name. sym (read_as (number (referent.Entity entity_kind.Server) entity.server) reference there) i) read (ActionClient entity)

-- what an entity of a node is that is linked
pub resolved_same : (draft : GraphDraft) → are_distinct (drafted_names draft) ≡ true → (node : ℕ) (reference : Option ℕ) (entity : Drafted) → reference_number (directory_of draft) entity ≡ Some reference →
    resolved_by (record { directory = directory_of draft; node = node }) reference entity ≡ read_by (named draft) (resolved_script (scope_of draft node)) entity
resolved_same draft distinct node reference entity there =
    read_same (number_in (directory_of draft)) (resolved_script (scope_in (directory_of draft) node)) reference entity there
    ∙ (λ i. read_by (λ to name. number_same draft distinct to name i) (resolved_script (scope_same draft distinct node i)) entity)

-- ---- bounds

position_below : (name : List ℕ) (directory : DirectoryData) (number : ℕ) → position_of directory name ≡ Some number → number < length directory.names
position_below name directory number found = subst (λ (bound : ℕ). number < bound) (zero-add (length directory.names)) (found_within (is_text name) 0 directory.names number found)

where_is : {A : Type 0} (b : Bool) (value found : A) → then_some b value ≡ Some found → value ≡ found
where_is true value found e = same_Some value found e
where_is false value found e = absurd cc

-- a number that is found is that of a name
pub number_below : (directory : DirectoryData) (to : Referent) (name : List ℕ) (number : ℕ) → number_in directory to name ≡ Some number → number < length directory.names
number_below directory referent.Topic name number found =
    then_read _ (position_of directory name) _ number found (λ place there e.
    subst (λ (n : ℕ). n < length directory.names) (where_is (nat_lt place directory.topics) place number e) (position_below name directory place there))
number_below directory (referent.Entity kind) name number found =
    then_read _ (placed_named directory name) _ number found (λ pair named e1.
    then_read _ (position_of directory name) _ pair named (λ place there e2.
    subst (λ (n : ℕ). n < length directory.names) (at_place place pair e2 ∙ where_is (is_of kind pair.1.entity.is) pair.0 number e1) (position_below name directory place there)))
  where
    mapped : (place : ℕ) (o : Option NodeEntity) (pair : ℕ × NodeEntity) → option_map (λ placed. (place, placed)) o ≡ Some pair → place ≡ pair.0
    mapped place None pair e = absurd cc
    mapped place (Some placed) pair e = ap (λ (p : ℕ × NodeEntity). p.0) (same_Some (place, placed) pair e)

    chosen : (b : Bool) (place : ℕ) (o : Option NodeEntity) (pair : ℕ × NodeEntity) → (if b then None else option_map (λ placed. (place, placed)) o) ≡ Some pair → place ≡ pair.0
    chosen true place o pair e = absurd cc
    chosen false place o pair e = mapped place o pair e

    at_place : (place : ℕ) (pair : ℕ × NodeEntity) → Directory.placed_at directory place ≡ Some pair → place ≡ pair.0
    at_place place pair e = chosen (nat_lt place directory.topics) place (slice_get directory.entities (place - directory.topics)) pair e
