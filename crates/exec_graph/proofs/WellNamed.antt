-- A draft is well named where its directory links all its entities.
use Rattle.std.proofs.Common.{◌≡◌, ℕ, zero, suc, ◌+◌, ◌<◌, Bool, true, false, ◌&&◌, ◌==◌, cond, length, map, List, [], ◌∷◌, ◌++◌, Option, None, Some, option_and_then, option_map, is_some, slice_get, refl, sym, ap, ◌∙◌, zero-add, add-zero, arith}
use Rattle.std.specs.Bool.{then_some}
use Rattle.std.specs.List.{list_all, position_from}
use Rattle.std.specs.Option.{option_map_or}
use Rattle.std.specs.Str.{bytes_eq}
use Rattle.std.proofs.lemmas.Bool.{eq-eqb, and_parts, ne_eqb}
use Rattle.exec_graph.specs.inner.Directory.{DirectoryData, Linked, node_groups_from, number_among, number_in, group_in, reference_number, linked_in, directory_of}
use Rattle.exec_graph.specs.declared.draft.GraphDraft.{GraphDraft}
use Rattle.exec_plan.specs.Entity.{ReferenceData, Drafted, reference_of, refers, if_there}
use Rattle.exec_graph.specs.Faults.{are_names, has_named_groups, drafted_names, is_resolved, is_well_named}
use Rattle.exec_plan.specs.Names.{is_name, are_distinct}
use Rattle.exec_graph.specs.Numbers.{NodeEntity, entities_of, groups_from, named_group, is_group, same_name, group_named}
use Rattle.exec_msg.specs.Options.{◌>>=◌, each}
use Rattle.exec_graph.specs.declared.draft.GroupDraft.{GroupDraft}
use Rattle.exec_graph.specs.declared.draft.NodeDraft.{NodeDraft}
use Rattle.exec_plan.specs.declared.entity.CallbackGroup.{CallbackGroup}
use Rattle.exec_graph.proofs.Lookups.{number_same}

-- ---- groups

-- groups of another node are passed over
passed : (node number : ℕ) (name : Option (List ℕ)) (first : ℕ) (groups : List GroupDraft) (rest : List CallbackGroup) → number == node ≡ false →
    position_from (is_group node name) first (map (named_group number) groups ++ rest) ≡ position_from (is_group node name) (first + length groups) rest
passed node number name first [] rest apart = ap (λ (n : ℕ). position_from (is_group node name) n rest) (sym (add-zero first))
passed node number name first (group ∷ groups) rest apart =
    let next : first + 1 + length groups ≡ first + suc (length groups) = omega arith in
    ap (λ (t : Bool). cond (t && same_name (Some group.name) name) (Some first) (position_from (is_group node name) (first + 1) (map (named_group number) groups ++ rest))) apart
    ∙ passed node number name (first + 1) groups rest apart
    ∙ ap (λ (n : ℕ). position_from (is_group node name) n rest) next

-- none of later nodes is of this one
none_later : (node number : ℕ) (name : Option (List ℕ)) (first : ℕ) (nodes : List NodeDraft) → node < number → position_from (is_group node name) first (groups_from number nodes) ≡ None
none_later node number name first [] below = refl
none_later node number name first (draft ∷ nodes) below =
    let apart = ne_eqb number node (omega (arith, below)) in
    ap (λ (t : Bool). cond (t && same_name None name) (Some first) (position_from (is_group node name) (first + 1) (map (named_group number) draft.groups ++ groups_from (suc number) nodes))) apart
    ∙ passed node number name (first + 1) draft.groups (groups_from (suc number) nodes) apart
    ∙ none_later node (suc number) name (first + 1 + length draft.groups) nodes (omega (arith, below))

-- a position, counted from elsewhere
counted : (test : List ℕ → Bool) (by first : ℕ) (texts : List (List ℕ)) → position_from test (by + first) texts ≡ option_map (λ place. by + place) (position_from test first texts)
counted test by first [] = refl
counted test by first (text ∷ texts) = step (test text) (position_from test (by + first + 1) texts) (position_from test (first + 1) texts)
    (let next : by + first + 1 ≡ by + (first + 1) = omega arith in ap (λ (n : ℕ). position_from test n texts) next ∙ counted test by (first + 1) texts) where
      step : (t : Bool) (far near : Option ℕ) → far ≡ option_map (λ place. by + place) near → cond t (Some (by + first)) far ≡ option_map (λ place. by + place) (cond t (Some first) near)
      step true far near same = refl
      step false far near same = same

-- a named group of a node is found by its name
named_here : (node number : ℕ) (name : List ℕ) (first : ℕ) (groups : List GroupDraft) (rest : List CallbackGroup) → number == node ≡ true → ((from : ℕ) → position_from (is_group node (Some name)) from rest ≡ None) →
    position_from (is_group node (Some name)) first (map (named_group number) groups ++ rest) ≡ position_from (λ other. bytes_eq other name) first (map (λ group. group.name) groups)
named_here node number name first [] rest same none = none first
named_here node number name first (group ∷ groups) rest same none =
    λ i. cond (same i && bytes_eq group.name name) (Some first) (named_here node number name (first + 1) groups rest same none i)

-- the names of a node's groups
abbrev names_of_groups : NodeDraft → List (List ℕ)
names_of_groups node = map (λ group. group.name) node.groups

-- the group of a name in a node
here : (node number : ℕ) (name : Option (List ℕ)) (first : ℕ) (draft : NodeDraft) (nodes : List NodeDraft) → number == node ≡ true → node < suc number →
    position_from (is_group node name) first (groups_from number (draft ∷ nodes)) ≡ number_among name (record { first = first; names = names_of_groups draft })
here node number None first draft nodes same within =
    ap (λ (t : Bool). cond (t && true) (Some first) (position_from (is_group node None) (first + 1) (map (named_group number) draft.groups ++ groups_from (suc number) nodes))) same
here node number (Some name) first draft nodes same within =
    let next : first + 1 ≡ suc first + 0 = omega arith in
    ap (λ (t : Bool). cond (t && false) (Some first) (position_from (is_group node (Some name)) (first + 1) (map (named_group number) draft.groups ++ groups_from (suc number) nodes))) same
    ∙ named_here node number name (first + 1) draft.groups (groups_from (suc number) nodes) same (λ from. none_later node (suc number) (Some name) from nodes within)
    ∙ ap (λ (n : ℕ). position_from (λ other. bytes_eq other name) n (names_of_groups draft)) next
    ∙ counted (λ other. bytes_eq other name) (suc first) 0 (names_of_groups draft)

in_node : (k number : ℕ) (name : Option (List ℕ)) (first : ℕ) (nodes : List NodeDraft) → position_from (is_group (number + k) name) first (groups_from number nodes) ≡ option_and_then (number_among name) (slice_get (node_groups_from first nodes) k)
in_node k number name first [] = refl
in_node zero number name first (draft ∷ nodes) = here (number + 0) number name first draft nodes (eq-eqb number (number + 0) (omega arith)) (omega arith)
in_node (suc k) number name first (draft ∷ nodes) =
    let apart = ne_eqb number (number + suc k) (omega arith) in
    let next : number + suc k ≡ suc number + k = omega arith in
    let behind : first + 1 + length draft.groups ≡ suc first + length draft.groups = omega arith in
    ap (λ (t : Bool). cond (t && same_name None name) (Some first) (position_from (is_group (number + suc k) name) (first + 1) (map (named_group number) draft.groups ++ groups_from (suc number) nodes))) apart
    ∙ passed (number + suc k) number name (first + 1) draft.groups (groups_from (suc number) nodes) apart
    ∙ (λ i. position_from (is_group (next i) name) (behind i) (groups_from (suc number) nodes))
    ∙ in_node k (suc number) name (suc first + length draft.groups) nodes

-- a group is found by its name
pub group_same : (draft : GraphDraft) (node : ℕ) (name : Option (List ℕ)) → group_in (directory_of draft) node name ≡ group_named draft node name
group_same draft node name =
    sym (in_node node 0 name 0 draft.nodes)
    ∙ ap (λ (n : ℕ). position_from (is_group n name) 0 (groups_from 0 draft.nodes)) (zero-add node)

-- ---- entities

-- what an entity refers to is declared where it has a number
is_referred : (directory : DirectoryData) (entity : Drafted) → is_some (reference_number directory entity) ≡ refers (λ to name. is_some (number_in directory to name)) entity
is_referred directory entity = by (reference_of entity) where
  mapped : (o : Option ℕ) → is_some (option_map (λ (n : ℕ). Some n) o) ≡ is_some o
  mapped None = refl
  mapped (Some n) = refl

  by : (reference : Option (ReferenceData (List ℕ))) → is_some (if_there (λ reference. number_in directory reference.to reference.name) reference) ≡ option_map_or (λ reference. is_some (number_in directory reference.to reference.name)) reference true
  by None = refl
  by (Some reference) = mapped (number_in directory reference.to reference.name)

-- an entity with these numbers
abbrev linked : NodeEntity → ℕ → Option ℕ → Linked
linked placed group reference = record { placed = placed; group = group; reference = reference }

both_there : (group : Option ℕ) (reference : Option (Option ℕ)) (placed : NodeEntity) → is_some (group >>= (λ group. reference >>= (λ reference. Some (linked placed group reference)))) ≡ (is_some group && is_some reference)
both_there None reference placed = refl
both_there (Some group) None placed = refl
both_there (Some group) (Some reference) placed = refl

links_same : (draft : GraphDraft) → are_distinct (drafted_names draft) ≡ true → (placed : NodeEntity) → is_some (linked_in (directory_of draft) placed) ≡ is_resolved draft placed
links_same draft distinct placed =
    both_there (group_in (directory_of draft) placed.node placed.entity.group) (reference_number (directory_of draft) placed.entity.is) placed
    ∙ (λ i. is_some (group_same draft placed.node placed.entity.group i) && is_referred (directory_of draft) placed.entity.is i)
    ∙ (λ i. is_some (group_named draft placed.node placed.entity.group) && refers (λ to name. is_some (number_same draft distinct to name i)) placed.entity.is)

named_by : (a h n r : Bool) → true ≡ a → (h && n) ≡ true → r ≡ (((a && h) && n) && r)
named_by true true true r is both = refl
named_by true true false r is both = absurd cc
named_by true false n r is both = absurd cc
named_by false h n r is both = absurd cc

both_some : (o : Option Linked) (rest : Option (List Linked)) → is_some (o >>= (λ y. rest >>= (λ ys. Some (y ∷ ys)))) ≡ (is_some o && is_some rest)
both_some None rest = refl
both_some (Some y) None = refl
both_some (Some y) (Some ys) = refl

-- all are linked where each is
all_linked : (link : NodeEntity → Option Linked) (placed : List NodeEntity) → is_some (each link placed) ≡ list_all (λ one. is_some (link one)) placed
all_linked link [] = refl
all_linked link (one ∷ placed) = both_some (link one) (each link placed) ∙ ap (λ (t : Bool). is_some (link one) && t) (all_linked link placed)

module _ (draft : GraphDraft) (found : DirectoryData) (nodes : true ≡ are_names (map (λ node. node.name) draft.nodes)) where
  by : (h n : Bool) → list_all has_named_groups draft.nodes ≡ h → are_names (drafted_names draft) ≡ n → Some found ≡ then_some (h && n) (directory_of draft) → (found ≡ directory_of draft) × (is_some (each (linked_in found) found.entities) ≡ is_well_named draft)
  by true true grouped named there =
      let same : found ≡ directory_of draft = cc in
      let distinct : are_distinct (drafted_names draft) ≡ true = (and_parts (list_all is_name (drafted_names draft)) (are_distinct (drafted_names draft)) named).1 in
      let all : is_some (each (linked_in found) found.entities) ≡ list_all (is_resolved draft) (entities_of draft) =
      all_linked (linked_in found) found.entities
      ∙ ap (λ (directory : DirectoryData). list_all (λ placed. is_some (linked_in directory placed)) directory.entities) same
      ∙ (λ i. list_all (λ placed. links_same draft distinct placed i) (entities_of draft)) in
      (same, all ∙ named_by (are_names (map (λ node. node.name) draft.nodes)) (list_all has_named_groups draft.nodes) (are_names (drafted_names draft)) (list_all (is_resolved draft) (entities_of draft)) nodes (λ i. grouped i && named i))
  by true false grouped named there = absurd cc
  by false n grouped named there = absurd cc

  module _ (there : Some found ≡ then_some (list_all has_named_groups draft.nodes && are_names (drafted_names draft)) (directory_of draft)) where
    both : (found ≡ directory_of draft) × (is_some (each (linked_in found) found.entities) ≡ is_well_named draft)
    both = by (list_all has_named_groups draft.nodes) (are_names (drafted_names draft)) refl refl there

    -- what is found is well named where all of it is linked
    pub is_named : (linked : List Linked) → each (linked_in found) found.entities ≡ Some linked → is_well_named draft ≡ true
    is_named linked all = sym both.1 ∙ ap is_some all

    -- and not where one isn't
    pub is_misnamed : each (linked_in found) found.entities ≡ None → is_well_named draft ≡ false
    is_misnamed none = sym both.1 ∙ ap is_some none

    -- it is the directory of the draft then
    pub directory_there : is_well_named draft ≡ true → Some found ≡ then_some (is_well_named draft) (directory_of draft)
    directory_there named = ap (λ (directory : DirectoryData). Some directory) both.0 ∙ ap (λ (b : Bool). then_some b (directory_of draft)) (sym named)
