-- What is known of a draft when its graph is made: its names, its limits, its scripts, and then the graph.
use Rattle.std.proofs.Common.{◌≡◌, ℕ, suc, ◌+◌, ◌≤◌, Bool, true, false, not, ◌||◌, ◌==◌, length, map, flat_map, filter_map, sum_by, List, [], ◌∷◌, ◌++◌, Option, None, Some, is_some, option_map, String, Global, refl, sym, ap, subst, ◌∙◌, arith, length-append}
use Rattle.std.specs.Bool.{then_some}
use Rattle.std.specs.List.{list_all, list_any}
use Rattle.std.specs.Map.{values_of}
use Rattle.std.specs.Option.{option_map_or}
use Rattle.std.proofs.lemmas.Bool.{leb-true, eqb-true, and_parts}
use Rattle.std.proofs.lemmas.List.Sums.{sum_by-cons}
use Rattle.std.proofs.lemmas.List.{length-map, nil_from_length}
use Rattle.std.proofs.lemmas.Option.{same_Some}
use Rattle.exec_graph.specs.inner.Directory.{DirectoryData, directory_of, is_reentrant_at, fault_at, faults_of}
use Rattle.exec_graph.specs.declared.draft.GraphDraft.{GraphDraft}
use Rattle.exec_plan.specs.Entity.{scripts_of}
use Rattle.exec_plan.specs.inner.Entries.{entities_in as entries_of}
use Rattle.exec_graph.specs.Faults.{drafted_names, is_of_variable, is_well_named, is_small, has_faulty_script, shares_variables}
use Rattle.exec_plan.specs.Graph as graph
use Rattle.exec_plan.specs.Graph.{EntityData, GraphData}
use Rattle.exec_plan.specs.Lawful.{IsLawful}
use Rattle.exec_plan.specs.Names.{is_name, are_distinct}
use Rattle.exec_graph.specs.Numbers.{NodeEntity, entities_of, groups_of, groups_from, named_group, scope_of}
use Rattle.exec_msg.specs.Options.{◌>>=◌, each}
use Rattle.exec_graph.specs.Refusals.{fault_in}
use Rattle.exec_graph.specs.Resolved.{resolved_entity, resolved_graph, resolved_topic}
use Rattle.exec_graph.specs.Scripts.{is_reentrant, entity_faults, script_faults}
use Rattle.exec_graph.specs.declared.draft.NodeDraft.{NodeDraft}
use Rattle.exec_plan.specs.declared.entity.CallbackGroup.{CallbackGroup}
use Rattle.exec_plan.specs.declared.entity.Declared.{Declared}
use Rattle.exec_graph.specs.declared.fault.GraphFault.TheVariants as graph_fault
use Rattle.exec_msg.specs.declared.limits.TheConstants.{NODES, NAMED_GROUPS, TOPICS, ENTITIES}
use Rattle.exec_script.specs.declared.fault.ScriptFault.{ScriptFault}
use Rattle.exec_graph.proofs.Complete.{has_entities}
use Rattle.exec_graph.proofs.Faultless.{scripts_same}
use Rattle.exec_graph.proofs.Kept.{names_kept, small_kept, without_fault}
use Rattle.exec_graph.proofs.Lawful as lawful
use Rattle.exec_plan.proofs.Reading.{then_read, AreRead, are_read, mapped_read}
use Rattle.exec_graph.proofs.Resolving.{graph_of, IsBuilt, built, has_group}

-- ---- the faults of scripts

entity_same : (draft : GraphDraft) (placed : NodeEntity) (entity : EntityData) → IsBuilt draft placed entity → faults_of (groups_of draft) entity.is ≡ entity_faults draft placed
entity_same draft placed entity build =
    let has = has_group draft placed build.number build.found in
    let scope = scope_of draft placed.node in
    let reentrant : is_reentrant_at (groups_of draft) build.number ≡ is_reentrant draft placed =
    ap (λ (group : Option CallbackGroup). option_map_or (λ found. not found.exclusive) group false) has.there ∙ sym has.reentrant in
    ap (faults_of (groups_of draft)) build.declared
    ∙ ap (λ (b : Bool). filter_map (fault_at b) (scripts_of build.is)) reentrant
    ∙ scripts_same scope (is_reentrant draft placed) (scripts_of placed.entity.is) (scripts_of build.is) build.read.scripts

entities_same : (draft : GraphDraft) (placed : List NodeEntity) (entities : List EntityData) → AreRead (resolved_entity draft) placed entities → flat_map (λ entity. faults_of (groups_of draft) entity.is) entities ≡ flat_map (entity_faults draft) placed
entities_same draft [] [] reads = refl
entities_same draft [] (entity ∷ entities) reads = absurd reads
entities_same draft (p ∷ placed) [] reads = absurd reads
entities_same draft (p ∷ placed) (entity ∷ entities) reads =
    λ i. entity_same draft p entity (built draft p entity reads.0) i ++ entities_same draft placed entities reads.1 i

topics_have_none : (groups : List CallbackGroup) (topics : List (List ℕ)) (entities : List EntityData) → flat_map (λ entity. faults_of groups entity.is) (map resolved_topic topics ++ entities) ≡ flat_map (λ entity. faults_of groups entity.is) entities
topics_have_none groups [] entities = refl
topics_have_none groups (topic ∷ topics) entities = topics_have_none groups topics entities

values_same : {B : Type 0} (f : Declared → List B) (entries : List (String Global × Declared)) → flat_map f (values_of entries) ≡ flat_map (λ entity. f entity.is) (entries_of entries)
values_same f [] = refl
values_same {B} f (entry ∷ entries) = ap (λ (rest : List B). f entry.1 ++ rest) (values_same f entries)

-- the faults of a graph's scripts are those of its draft
faults_same : (draft : GraphDraft) (entries : List (String Global × Declared)) → option_map (λ others. map resolved_topic draft.topics ++ others) (each (resolved_entity draft) (entities_of draft)) ≡ Some (entries_of entries) → flat_map (faults_of (groups_of draft)) (values_of entries) ≡ script_faults draft
faults_same draft entries is =
    values_same (faults_of (groups_of draft)) entries
    ∙ mapped_read _ (each (resolved_entity draft) (entities_of draft)) _ (entries_of entries) is (λ entities read e.
    ap (flat_map (λ entity. faults_of (groups_of draft) entity.is)) (sym e)
    ∙ topics_have_none (groups_of draft) draft.topics entities
    ∙ entities_same draft (entities_of draft) entities (are_read (resolved_entity draft) (entities_of draft) entities read))

-- ---- what is found

so : {A : Type 0} (b : Bool) (a said : A) → Some a ≡ then_some b said → b ≡ true
so true a said is = refl
so false a said is = absurd cc

so_same : {A : Type 0} (b : Bool) (a said : A) → Some a ≡ then_some b said → a ≡ said
so_same true a said is = same_Some a said is
so_same false a said is = absurd cc

-- how many groups nodes have
groups_counted : (number : ℕ) (nodes : List NodeDraft) → length (groups_from number nodes) ≡ length nodes + sum_by (λ node. length node.groups) nodes
groups_counted number [] = refl
groups_counted number (node ∷ nodes) =
    omega (arith, sum_by-cons (λ (node : NodeDraft). length node.groups) node nodes, length-append (map (named_group number) node.groups) (groups_from (suc number) nodes), length-map node.groups (named_group number), groups_counted (suc number) nodes)

-- ---- the faults

-- a script's fault
script_by : (draft : GraphDraft) → is_well_named draft ≡ true → is_small draft ≡ true → has_faulty_script draft ≡ true → fault_in draft ≡ Some graph_fault.Script
script_by draft named small scripts = rw named (rw small (rw scripts refl))

-- a shared variable's
variable_by : (draft : GraphDraft) → is_well_named draft ≡ true → is_small draft ≡ true → has_faulty_script draft ≡ false → shares_variables draft ≡ true → fault_in draft ≡ Some graph_fault.GroupVariable
variable_by draft named small scripts variables = rw named (rw small (rw scripts (rw variables refl)))

-- faults of which none is another than that of a variable have one of a variable, unless there are none
first_shares : (b : Bool) (rest : Bool) → (not b || rest) ≡ false → b ≡ true
first_shares true rest others = refl
first_shares false rest others = absurd cc

all_shared : (faults : List ScriptFault) → (length faults == 0) ≡ false → list_any (λ fault. not (is_of_variable fault)) faults ≡ false → list_any is_of_variable faults ≡ true
all_shared [] some others = absurd cc
all_shared (fault ∷ faults) some others =
    let is = first_shares (is_of_variable fault) (list_any (λ fault. not (is_of_variable fault)) faults) others in
    rw is refl

unmapped : {A B : Type 0} (f : A → B) (o : Option A) → option_map f o ≡ None → o ≡ None
unmapped f None none = refl
unmapped f (Some a) none = absurd cc

-- what is seen of something, and of nothing
pub mapped_is : {A B : Type 0} (said : Option B) (f : A → B) (o : Option A) (a : A) → said ≡ option_map f o → o ≡ Some a → said ≡ Some (f a)
mapped_is said f o a is there = is ∙ ap (option_map f) there

pub mapped_none : {A B : Type 0} (said : Option B) (f : A → B) (o : Option A) → said ≡ option_map f o → o ≡ None → said ≡ None
mapped_none said f o is there = is ∙ ap (option_map f) there

-- ---- from what is read

module _ (draft : GraphDraft) (found : DirectoryData) (there : Some found ≡ then_some (is_well_named draft) (directory_of draft)) where
  pub named : is_well_named draft ≡ true
  named = so (is_well_named draft) found (directory_of draft) there

  pub directory_is : found ≡ directory_of draft
  directory_is = so_same (is_well_named draft) found (directory_of draft) there

  pub distinct : are_distinct (drafted_names draft) ≡ true
  distinct = (and_parts (list_all is_name (drafted_names draft)) (are_distinct (drafted_names draft)) (names_kept draft named).names).1

  module _ (small : is_small draft ≡ true) where
    names_few : length (drafted_names draft) ≤ 65536
    names_few =
        let keeps = small_kept draft small in
        let topics = leb-true (length draft.topics) TOPICS keeps.few_topics in
        let entities = leb-true (length (entities_of draft)) ENTITIES keeps.few_entities in
        omega (arith, topics, entities, length-append draft.topics (map (λ placed. placed.entity.name) (entities_of draft)), length-map (entities_of draft) (λ (placed : NodeEntity). placed.entity.name))

    -- names have numbers of 16 bits
    pub few_names : length found.names ≤ 65536
    few_names = subst (λ (directory : DirectoryData). length directory.names ≤ 65536) (sym directory_is) names_few

    -- so have nodes
    pub few_nodes : {A : Type 0} (texts : List A) (text_of : A → List ℕ) → map text_of texts ≡ map (λ node. node.name) draft.nodes → length texts ≤ 65536
    few_nodes texts text_of same =
        let keeps = small_kept draft small in
        let nodes = leb-true (length draft.nodes) NODES keeps.few_nodes in
        let long = ap (λ (xs : List (List ℕ)). length xs) same in
        omega (arith, nodes, length-map texts text_of, length-map draft.nodes (λ (node : NodeDraft). node.name), long)

    -- and groups
    pub few_groups : length (groups_of draft) ≤ 65536
    few_groups =
        let keeps = small_kept draft small in
        let nodes = leb-true (length draft.nodes) NODES keeps.few_nodes in
        let groups = leb-true (sum_by (λ node. length node.groups) draft.nodes) NAMED_GROUPS keeps.few_groups in
        omega (arith, nodes, groups, groups_counted 0 draft.nodes)

    -- and what is as long as the names
    pub few_texts : {A : Type 0} (texts : List A) (text_of : A → List ℕ) → map text_of texts ≡ drafted_names draft → length texts ≤ 65536
    few_texts texts text_of same =
        let long = ap (λ (xs : List (List ℕ)). length xs) same in
        omega (arith, names_few, length-map texts text_of, long)

    -- what isn't there has a faulty script
    pub of_unread : option_map (λ others. map resolved_topic draft.topics ++ others) (each (resolved_entity draft) (entities_of draft)) ≡ None → fault_in draft ≡ Some graph_fault.Script
    of_unread none = by (has_faulty_script draft) refl
      where
        by : (b : Bool) → has_faulty_script draft ≡ b → fault_in draft ≡ Some graph_fault.Script
        by true faulty = script_by draft named small faulty
        by false spelt =
            let there = has_entities draft (names_kept draft named).resolved spelt in
            let missing = unmapped _ (each (resolved_entity draft) (entities_of draft)) none in
            let contrary : true ≡ false = sym there ∙ ap is_some missing in
            absurd cc

    module _ (groups : List CallbackGroup) (grouped : groups ≡ groups_of draft) (entries : List (String Global × Declared)) (read : option_map (λ others. map resolved_topic draft.topics ++ others) (each (resolved_entity draft) (entities_of draft)) ≡ Some (entries_of entries)) (faults : List ScriptFault) (listed : faults ≡ flat_map (faults_of groups) (values_of entries)) where
      faults_are : faults ≡ script_faults draft
      faults_are = listed ∙ ap (λ (groups : List CallbackGroup). flat_map (faults_of groups) (values_of entries)) grouped ∙ faults_same draft entries read

      -- a script is faulty
      pub of_script : true ≡ list_any (λ fault. not (is_of_variable fault)) faults → fault_in draft ≡ Some graph_fault.Script
      of_script faulty = script_by draft named small (ap (list_any (λ fault. not (is_of_variable fault))) (sym faults_are) ∙ sym faulty)

      unfaulty : false ≡ list_any (λ fault. not (is_of_variable fault)) faults → has_faulty_script draft ≡ false
      unfaulty faulty = ap (list_any (λ fault. not (is_of_variable fault))) (sym faults_are) ∙ sym faulty

      -- a variable is shared
      pub of_variable : false ≡ list_any (λ fault. not (is_of_variable fault)) faults → (length faults == 0) ≡ false → fault_in draft ≡ Some graph_fault.GroupVariable
      of_variable faulty some = variable_by draft named small (unfaulty faulty) (ap (list_any is_of_variable) (sym faults_are) ∙ all_shared faults some (sym faulty))

      -- no fault is left
      pub of_none : false ≡ list_any (λ fault. not (is_of_variable fault)) faults → (length faults == 0) ≡ true → fault_in draft ≡ None
      of_none faulty none = without_fault draft named small (unfaulty faulty) (ap (list_any is_of_variable) (sym faults_are) ∙ ap (list_any is_of_variable) (nil_from_length faults (eqb-true (length faults) 0 none)))

-- ---- the graph

-- the names of a graph
graph_names : (draft : GraphDraft) (made : GraphData) → resolved_graph draft ≡ Some made → graph.names_of made ≡ drafted_names draft
graph_names draft made is =
    then_read _ (each (resolved_entity draft) (entities_of draft)) _ made is (λ entities read e.
    ap graph.names_of (sym (same_Some (graph_of draft entities) made e)) ∙ lawful.names_kept draft entities (are_read (resolved_entity draft) (entities_of draft) entities read))

-- a graph of these parts
abbrev pub graph_with : List (List ℕ) → List CallbackGroup → List EntityData → GraphData
graph_with nodes groups entities = record { nodes = nodes; groups = groups; entities = entities }

made_by : (nodes : List (List ℕ)) (groups : List CallbackGroup) (topics all : List EntityData) (o : Option (List EntityData)) → option_map (λ others. topics ++ others) o ≡ Some all →
    o >>= (λ entities. Some (graph_with nodes groups (topics ++ entities))) ≡ Some (graph_with nodes groups all)
made_by nodes groups topics all None is = absurd cc
made_by nodes groups topics all (Some others) is =
    let same = same_Some (topics ++ others) all is in
    λ i. Some (graph_with nodes groups (same i))

module _ (draft : GraphDraft) (made : GraphData) (nodes : made.nodes ≡ map (λ node. node.name) draft.nodes) (grouped : made.groups ≡ groups_of draft)
    (entities : option_map (λ others. map resolved_topic draft.topics ++ others) (each (resolved_entity draft) (entities_of draft)) ≡ Some made.entities) where
  -- what is made is the graph
  pub graph_is : resolved_graph draft ≡ Some made
  graph_is =
      made_by (map (λ node. node.name) draft.nodes) (groups_of draft) (map resolved_topic draft.topics) made.entities (each (resolved_entity draft) (entities_of draft)) entities
      ∙ (λ i. Some (graph_with (sym nodes i) (sym grouped i) made.entities))

  -- it is lawful
  pub is_lawful : fault_in draft ≡ None → IsLawful made
  is_lawful faultless = lawful.graph_lawful draft made faultless graph_is

  -- and these are its names
  pub names_are : drafted_names draft ≡ graph.names_of made
  names_are = sym (graph_names draft made graph_is)
