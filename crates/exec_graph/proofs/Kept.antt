-- What a graph's draft keeps that has no fault.
use Rattle.std.proofs.Common.{◌≡◌, Bool, true, false, not, ◌&&◌, ◌||◌, length, map, nat_le, sum_by, List, [], ◌∷◌, None, refl}
use Rattle.std.specs.List.{list_all, list_any}
use Rattle.std.proofs.lemmas.Bool.{and_parts, or_parts, not-false}
use Rattle.exec_graph.specs.declared.draft.GraphDraft.{GraphDraft}
use Rattle.exec_plan.proofs.NonePasses.{none_passes}
use Rattle.exec_plan.specs.Entity.{is_within}
use Rattle.exec_graph.specs.Numbers.{entities_of}
use Rattle.exec_graph.specs.Faults.{are_names, has_named_groups, drafted_names, is_resolved, has_short_scripts, is_of_variable, has_faulty_script, shares_variables, is_well_named, is_small}
use Rattle.exec_graph.specs.Refusals.{has_fault, faults_in_order, fault_in}
use Rattle.exec_graph.specs.Scripts.{script_faults}
use Rattle.exec_msg.specs.declared.limits.TheConstants.{NODES, NAMED_GROUPS, TOPICS, ENTITIES}

-- ---- a test that nothing passes

-- a list of which some test and its contrary fail everywhere has nothing in it
neither : {A : Type 0} (test : A → Bool) (xs : List A) → list_any (λ x. not (test x)) xs ≡ false → list_any test xs ≡ false → xs ≡ []
neither test [] others these = refl
neither test (x ∷ xs) others these = contrary (test x) (or_parts (not (test x)) (list_any (λ x. not (test x)) xs) others).0 (or_parts (test x) (list_any test xs) these).0 where
  contrary : (b : Bool) → not b ≡ false → b ≡ false → (x ∷ xs) ≡ []
  contrary true e f = absurd cc
  contrary false e f = absurd cc

-- ---- what is kept

-- what the names of a graph keep
pub record AreKept (source : GraphDraft) : Type 0 where
  pub node_names : are_names (map (λ node. node.name) source.nodes) ≡ true
  pub group_names : list_all has_named_groups source.nodes ≡ true
  pub names : are_names (drafted_names source) ≡ true
  pub resolved : list_all (is_resolved source) (entities_of source) ≡ true

pub names_kept : (source : GraphDraft) → is_well_named source ≡ true → AreKept source
names_kept source named =
    let names_1 = are_names (map (λ node. node.name) source.nodes) in
    let names_2 = names_1 && list_all has_named_groups source.nodes in
    let names_3 = names_2 && are_names (drafted_names source) in
    let named_3 = (and_parts names_3 (list_all (is_resolved source) (entities_of source)) named).0 in
    let named_2 = (and_parts names_2 (are_names (drafted_names source)) named_3).0 in
    record {
      node_names = (and_parts names_1 (list_all has_named_groups source.nodes) named_2).0;
      group_names = (and_parts names_1 (list_all has_named_groups source.nodes) named_2).1;
      names = (and_parts names_2 (are_names (drafted_names source)) named_3).1;
      resolved = (and_parts names_3 (list_all (is_resolved source) (entities_of source)) named).1;
    }

-- what the numbers of a graph keep
pub record IsSmall (source : GraphDraft) : Type 0 where
  pub few_nodes : nat_le (length source.nodes) NODES ≡ true
  pub few_groups : nat_le (sum_by (λ node. length node.groups) source.nodes) NAMED_GROUPS ≡ true
  pub few_topics : nat_le (length source.topics) TOPICS ≡ true
  pub few_entities : nat_le (length (entities_of source)) ENTITIES ≡ true
  pub within : list_all (λ placed. is_within placed.entity.is && has_short_scripts placed.entity.is) (entities_of source) ≡ true

pub small_kept : (source : GraphDraft) → is_small source ≡ true → IsSmall source
small_kept source small =
    let limits_1 = nat_le (length source.nodes) NODES in
    let limits_2 = limits_1 && nat_le (sum_by (λ node. length node.groups) source.nodes) NAMED_GROUPS in
    let limits_3 = limits_2 && nat_le (length source.topics) TOPICS in
    let limits_4 = limits_3 && nat_le (length (entities_of source)) ENTITIES in
    let kept_4 = (and_parts limits_4 (list_all (λ placed. is_within placed.entity.is && has_short_scripts placed.entity.is) (entities_of source)) small).0 in
    let kept_3 = (and_parts limits_3 (nat_le (length (entities_of source)) ENTITIES) kept_4).0 in
    let kept_2 = (and_parts limits_2 (nat_le (length source.topics) TOPICS) kept_3).0 in
    record {
      few_nodes = (and_parts limits_1 (nat_le (sum_by (λ node. length node.groups) source.nodes) NAMED_GROUPS) kept_2).0;
      few_groups = (and_parts limits_1 (nat_le (sum_by (λ node. length node.groups) source.nodes) NAMED_GROUPS) kept_2).1;
      few_topics = (and_parts limits_2 (nat_le (length source.topics) TOPICS) kept_3).1;
      few_entities = (and_parts limits_3 (nat_le (length (entities_of source)) ENTITIES) kept_4).1;
      within = (and_parts limits_4 (list_all (λ placed. is_within placed.entity.is && has_short_scripts placed.entity.is) (entities_of source)) small).1;
    }

-- what each fault leaves of a draft that hasn't it
pub record IsKept (source : GraphDraft) : Type 0 where
  pub named : AreKept source
  pub small : IsSmall source
  pub faultless : script_faults source ≡ []

-- a draft without a fault keeps what each of them asks
pub kept : (source : GraphDraft) → fault_in source ≡ None → IsKept source
kept source found =
    let variables = shares_variables source || false in
    let scripts = has_faulty_script source || variables in
    let limits = not (is_small source) || scripts in
    let past_names = none_passes (λ fault. has_fault fault source) faults_in_order found in
    let past_limits = (or_parts (not (is_well_named source)) limits past_names).1 in
    let past_scripts = (or_parts (not (is_small source)) scripts past_limits).1 in
    let past_variables = (or_parts (has_faulty_script source) variables past_scripts).1 in
    let names = names_kept source (not-false (is_well_named source) (or_parts (not (is_well_named source)) limits past_names).0) in
    let small = small_kept source (not-false (is_small source) (or_parts (not (is_small source)) scripts past_limits).0) in
    record {
      named = names;
      small = small;
      faultless = neither is_of_variable (script_faults source) (or_parts (has_faulty_script source) variables past_scripts).0 (or_parts (shares_variables source) false past_variables).0;
    }

-- a draft that keeps what each of them asks has none
pub without_fault : (source : GraphDraft) → is_well_named source ≡ true → is_small source ≡ true → has_faulty_script source ≡ false → shares_variables source ≡ false → fault_in source ≡ None
without_fault source named small scripts variables = rw named (rw small (rw scripts (rw variables refl)))
