-- Whether what is named is declared.
use Rattle.std.proofs.Common.{◌≡◌, ℕ, suc, Bool, true, false, cond, ◌&&◌, ◌||◌, is_some, List, [], ◌∷◌, map, length, refl, ap, ap₂, ◌∙◌, bytes_eq}
use Rattle.std.specs.List.{filter, flat_map, list_any}
use Rattle.std.proofs.lemmas.List.Folds.{list_any-append}
use Rattle.exec_graph.specs.declared.draft.GraphDraft.{GraphDraft}
use Rattle.exec_plan.specs.Entity.{Drafted, entity_kinds, is_of}
use Rattle.exec_graph.specs.Numbers.{NodeEntity, node_entity, entities_from, entities_of, server_named}
use Rattle.exec_graph.specs.declared.draft.EntityDraft.{EntityDraft}
use Rattle.exec_graph.specs.declared.draft.NodeDraft.{NodeDraft}
use Rattle.exec_plan.specs.declared.entity.EntityKind.{EntityKind}
use Rattle.exec_plan.specs.declared.entity.EntityKind.TheVariants as kind
use Rattle.exec_plan.specs.declared.entity.EntityOf.TheVariants.{Timer, Subscription, Service, Client, Server, ActionClient}
use Rattle.exec_plan.proofs.Positions.{found_any}

-- whether a placed entity is the action server of a name
abbrev is_action : List ℕ → NodeEntity → Bool
is_action name placed = is_of kind.Server placed.entity.is && bytes_eq placed.entity.name name

-- ---- tests of the entities of all kinds

any_kept_by : {A : Type 0} (test : A → Bool) (x : A) (xs : List A) (b : Bool) (rest : Bool) → list_any test xs ≡ rest → list_any test (cond b (x ∷ xs) xs) ≡ ((b && test x) || rest)
any_kept_by test x xs true rest same = ap (λ (r : Bool). test x || r) same
any_kept_by test x xs false rest same = same

-- a test of what another test keeps
any_kept : {A : Type 0} (keep test : A → Bool) (xs : List A) → list_any test (filter keep xs) ≡ list_any (λ x. keep x && test x) xs
any_kept keep test [] = refl
any_kept keep test (x ∷ xs) = any_kept_by test x (filter keep xs) (keep x) (list_any (λ x. keep x && test x) xs) (any_kept keep test xs)

or_split : (a b t r s : Bool) → (((a && t) || r) || ((b && t) || s)) ≡ (((a || b) && t) || (r || s))
or_split true true true r s = refl
or_split true true false r s = refl
or_split true false true r s = refl
or_split true false false r s = refl
or_split false true true true s = refl
or_split false true true false s = refl
or_split false true false r s = refl
or_split false false t r s = refl

-- one test or the other, beside a third
any_either : {A : Type 0} (one other test : A → Bool) (xs : List A) → (list_any (λ x. one x && test x) xs || list_any (λ x. other x && test x) xs) ≡ list_any (λ x. (one x || other x) && test x) xs
any_either one other test [] = refl
any_either one other test (x ∷ xs) =
    or_split (one x) (other x) (test x) (list_any (λ x. one x && test x) xs) (list_any (λ x. other x && test x) xs)
    ∙ ap (λ (r : Bool). ((one x || other x) && test x) || r) (any_either one other test xs)

none_so : {A : Type 0} (xs : List A) → false ≡ list_any (λ x. false) xs
none_so [] = refl
none_so (x ∷ xs) = none_so xs

-- whether a placed entity is of one of these kinds
abbrev is_one_of : List EntityKind → NodeEntity → Bool
is_one_of entity_kinds placed = list_any (λ kind. is_of kind placed.entity.is) entity_kinds

any_of_kinds : (test : NodeEntity → Bool) (all : List NodeEntity) (entity_kinds : List EntityKind) → list_any test (flat_map (λ kind. filter (λ placed. is_of kind placed.entity.is) all) entity_kinds) ≡ list_any (λ placed. is_one_of entity_kinds placed && test placed) all
any_of_kinds test all [] = none_so all
any_of_kinds test all (kind ∷ entity_kinds) =
    list_any-append test (filter (λ placed. is_of kind placed.entity.is) all) (flat_map (λ kind. filter (λ placed. is_of kind placed.entity.is) all) entity_kinds)
    ∙ ap₂ (λ (a b : Bool). a || b) (any_kept (λ placed. is_of kind placed.entity.is) test all) (any_of_kinds test all entity_kinds)
    ∙ any_either (λ placed. is_of kind placed.entity.is) (is_one_of entity_kinds) test all

-- each entity is of one of all kinds
has_kind : (entity : Drafted) → list_any (λ kind. is_of kind entity) entity_kinds ≡ true
has_kind (Timer entity) = refl
has_kind (Subscription entity) = refl
has_kind (Service entity) = refl
has_kind (Client entity) = refl
has_kind (Server entity) = refl
has_kind (ActionClient entity) = refl

-- in the order of numbers there are as many as among all
ordered : (test : NodeEntity → Bool) (draft : GraphDraft) → list_any test (entities_of draft) ≡ list_any test (entities_from 0 draft.nodes)
ordered test draft =
    any_of_kinds test (entities_from 0 draft.nodes) entity_kinds
    ∙ (λ i. list_any (λ placed. has_kind placed.entity.is i && test placed) (entities_from 0 draft.nodes))

-- ---- the servers of nodes

of_node : (name : List ℕ) (node : ℕ) (entities : List EntityDraft) → list_any (is_action name) (map (node_entity node) entities) ≡ list_any (λ entity. is_of kind.Server entity.is && bytes_eq entity.name name) entities
of_node name node [] = refl
of_node name node (entity ∷ entities) = ap (λ (b : Bool). (is_of kind.Server entity.is && bytes_eq entity.name name) || b) (of_node name node entities)

of_nodes : (name : List ℕ) (first : ℕ) (nodes : List NodeDraft) → list_any (is_action name) (entities_from first nodes) ≡ list_any (λ node. list_any (λ entity. is_of kind.Server entity.is && bytes_eq entity.name name) node.entities) nodes
of_nodes name first [] = refl
of_nodes name first (node ∷ nodes) =
    list_any-append (is_action name) (map (node_entity first) node.entities) (entities_from (suc first) nodes)
    ∙ ap₂ (λ (a b : Bool). a || b) (of_node name first node.entities) (of_nodes name (suc first) nodes)

-- an action of a name is declared where a node has a server of that name
pub action_any : (draft : GraphDraft) (name : List ℕ) → is_some (server_named draft name) ≡ list_any (λ node. list_any (λ entity. is_of kind.Server entity.is && bytes_eq entity.name name) node.entities) draft.nodes
action_any draft name =
    found_any (is_action name) (length draft.topics) (entities_of draft) ∙ ordered (is_action name) draft ∙ of_nodes name 0 draft.nodes
