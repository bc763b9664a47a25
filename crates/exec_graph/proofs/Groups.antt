-- The callback groups of a document.
use Rattle.std.proofs.Common.{◌≡◌, ℕ, suc, ◌+◌, ◌<◌, ◌≤◌, Bool, true, false, cond, ◌&&◌, ◌==◌, length, map, is_some, is_none, sum_by, List, [], ◌∷◌, ◌++◌, All, filter_map, refl, sym, ap, ◌∙◌, arith, length-append, eq-or-lt_of_le, ◌⊎◌, inl, inr, append-nil, subst}
use Rattle.std.specs.List.{filter, list_all}
use Rattle.std.proofs.lemmas.Bool.{eq-eqb, and_parts, ne_eqb}
use Rattle.std.proofs.lemmas.List.{length-map}
use Rattle.std.proofs.lemmas.List.Elements.{All-nil, All-cons, All-append, All-map, filter-append}
use Rattle.std.proofs.lemmas.List.Sums.{sum_by-cons}
use Rattle.exec_graph.specs.declared.draft.GroupDraft.{GroupDraft}
use Rattle.exec_graph.specs.declared.draft.NodeDraft.{NodeDraft}
use Rattle.exec_graph.specs.Numbers.{default_group, named_group, groups_from}
use Rattle.exec_plan.specs.declared.entity.CallbackGroup.{CallbackGroup}

-- ---- filters

pub filter_same : {A B : Type 0} (test : B → Bool) (f : A → B) (xs : List A) → ((x : A) → test (f x) ≡ true) → filter test (map f xs) ≡ map f xs
filter_same test f [] passes = refl
filter_same {A} {B} test f (x ∷ xs) passes = rw (passes x) (ap (λ (ys : List B). f x ∷ ys) (filter_same test f xs passes))

pub filter_none : {A B : Type 0} (test : B → Bool) (f : A → B) (xs : List A) → ((x : A) → test (f x) ≡ false) → filter test (map f xs) ≡ []
filter_none test f [] fails = refl
filter_none test f (x ∷ xs) fails = rw (fails x) (filter_none test f xs fails)

-- a filter by two tests is one after the other
filter_both : {A : Type 0} (p q : A → Bool) (xs : List A) → filter (λ x. p x && q x) xs ≡ filter p (filter q xs)
filter_both p q [] = refl
filter_both {A} p q (x ∷ xs) = by (p x) (q x) refl (filter_both p q xs) where
  by : (a b : Bool) → p x ≡ a → filter (λ x. p x && q x) xs ≡ filter p (filter q xs) → cond (a && b) (x ∷ filter (λ x. p x && q x) xs) (filter (λ x. p x && q x) xs) ≡ filter p (cond b (x ∷ filter q xs) (filter q xs))
  by true true pa same = rw pa (ap (λ (ys : List A). x ∷ ys) same)
  by true false pa same = same
  by false true pa same = rw pa same
  by false false pa same = same

-- ---- named groups are as many as the nodes have

pub named_groups : (number : ℕ) (nodes : List NodeDraft) → length (filter (λ group. is_some group.name) (groups_from number nodes)) ≡ sum_by (λ node. length node.groups) nodes
named_groups number [] = refl
named_groups number (node ∷ nodes) =
    let here = map (named_group number) node.groups in
    let there = groups_from (suc number) nodes in
    let split = filter-append (λ (group : CallbackGroup). is_some group.name) here there in
    let same = filter_same (λ (group : CallbackGroup). is_some group.name) (named_group number) node.groups (λ group. refl) in
    ap (λ (gs : List CallbackGroup). length gs) split
    ∙ length-append (filter (λ group. is_some group.name) here) (filter (λ group. is_some group.name) there)
    ∙ ap (λ (gs : List CallbackGroup). length gs + length (filter (λ group. is_some group.name) there)) same
    ∙ ap (λ (n : ℕ). n + length (filter (λ group. is_some group.name) there)) (length-map node.groups (named_group number))
    ∙ ap (λ (n : ℕ). length node.groups + n) (named_groups (suc number) nodes)
    ∙ sym (sum_by-cons (λ (node : NodeDraft). length node.groups) node nodes)

-- ---- groups are of the nodes

pub groups_within : (number : ℕ) (nodes : List NodeDraft) (bound : ℕ) → number + length nodes ≤ bound → All (λ group. group.node < bound) (groups_from number nodes)
groups_within number [] bound within = All-nil (λ (group : CallbackGroup). group.node < bound)
groups_within number (node ∷ nodes) bound within =
    let here : number < bound = omega (arith, within) in
    let others : suc number + length nodes ≤ bound = omega (arith, within) in
    All-cons (λ (group : CallbackGroup). group.node < bound) (default_group number) (map (named_group number) node.groups ++ groups_from (suc number) nodes) here
    (All-append (λ (group : CallbackGroup). group.node < bound) (map (named_group number) node.groups) (groups_from (suc number) nodes)
    (All-map (λ (group : CallbackGroup). group.node < bound) (named_group number) node.groups (λ k d below. here))
    (groups_within (suc number) nodes bound others))

-- ---- the groups of a node

-- none of later nodes is of this one
none_of : (node number : ℕ) (nodes : List NodeDraft) → node < number → filter (λ group. group.node == node) (groups_from number nodes) ≡ []
none_of node number [] below = refl
none_of node number (draft ∷ nodes) below =
    let fails = ne_eqb number node (omega (arith, below)) in
    rw fails
    (filter-append (λ (group : CallbackGroup). group.node == node) (map (named_group number) draft.groups) (groups_from (suc number) nodes)
    ∙ ap (λ (gs : List CallbackGroup). gs ++ filter (λ group. group.node == node) (groups_from (suc number) nodes)) (filter_none (λ (group : CallbackGroup). group.node == node) (named_group number) draft.groups (λ group. fails))
    ∙ none_of node (suc number) nodes (omega (arith, below)))

-- the groups of a node are its default group and its named ones
pub record HasGroups (test : NodeDraft → Bool) (node number : ℕ) (nodes : List NodeDraft) : Type 0 where
  pub draft : NodeDraft
  pub passes : test draft ≡ true
  pub groups : filter (λ group. group.node == node) (groups_from number nodes) ≡ default_group node ∷ map (named_group node) draft.groups

first_groups : (test : NodeDraft → Bool) (number : ℕ) (draft : NodeDraft) (nodes : List NodeDraft) → test draft ≡ true → HasGroups test number number (draft ∷ nodes)
first_groups test number draft nodes passes =
    let same : number == number ≡ true = eq-eqb number number refl in
    let here = map (named_group number) draft.groups in
    let there = groups_from (suc number) nodes in
    record {
      draft = draft;
      passes = passes;
      groups = rw same (ap (λ (gs : List CallbackGroup). default_group number ∷ gs)
          (filter-append (λ (group : CallbackGroup). group.node == number) here there
          ∙ ap (λ (gs : List CallbackGroup). gs ++ filter (λ group. group.node == number) there) (filter_same (λ (group : CallbackGroup). group.node == number) (named_group number) draft.groups (λ group. same))
          ∙ ap (λ (gs : List CallbackGroup). here ++ gs) (none_of number (suc number) nodes (omega arith))
          ∙ append-nil here));
    }

later_groups : (test : NodeDraft → Bool) (node number : ℕ) (draft : NodeDraft) (nodes : List NodeDraft) → number < node → HasGroups test node (suc number) nodes → HasGroups test node number (draft ∷ nodes)
later_groups test node number draft nodes below later =
    let fails = ne_eqb number node (omega (arith, below)) in
    record {
      draft = later.draft;
      passes = later.passes;
      groups = rw fails
          (filter-append (λ (group : CallbackGroup). group.node == node) (map (named_group number) draft.groups) (groups_from (suc number) nodes)
          ∙ ap (λ (gs : List CallbackGroup). gs ++ filter (λ group. group.node == node) (groups_from (suc number) nodes)) (filter_none (λ (group : CallbackGroup). group.node == node) (named_group number) draft.groups (λ group. fails))
          ∙ later.groups);
    }

at_node : (test : NodeDraft → Bool) (node number : ℕ) (draft : NodeDraft) (nodes : List NodeDraft) → (number ≡ node) ⊎ (number < node) → test draft ≡ true → (number < node → HasGroups test node (suc number) nodes) → HasGroups test node number (draft ∷ nodes)
at_node test node number draft nodes (inl here) passes later = subst (λ n. HasGroups test n number (draft ∷ nodes)) here (first_groups test number draft nodes passes)
at_node test node number draft nodes (inr below) passes later = later_groups test node number draft nodes below (later below)

pub has_groups : (test : NodeDraft → Bool) (node number : ℕ) (nodes : List NodeDraft) → list_all test nodes ≡ true → number ≤ node → node < number + length nodes → HasGroups test node number nodes
has_groups test node number [] passes above below = absurd (omega (arith, above, below))
has_groups test node number (draft ∷ nodes) passes above below =
    at_node test node number draft nodes (eq-or-lt_of_le above) (and_parts (test draft) (list_all test nodes) passes).0
    (λ next. has_groups test node (suc number) nodes (and_parts (test draft) (list_all test nodes) passes).1 (omega (arith, next)) (omega (arith, below)))

-- the default group of a node
pub one_default : (node : ℕ) (groups : List CallbackGroup) (named : List GroupDraft) → filter (λ group. group.node == node) groups ≡ default_group node ∷ map (named_group node) named → filter (λ group. is_none group.name && (group.node == node)) groups ≡ default_group node ∷ []
one_default node groups named is =
    filter_both (λ (group : CallbackGroup). is_none group.name) (λ group. group.node == node) groups
    ∙ ap (filter (λ group. is_none group.name)) is
    ∙ ap (λ (gs : List CallbackGroup). default_group node ∷ gs) (filter_none (λ (group : CallbackGroup). is_none group.name) (named_group node) named (λ group. refl))

names_mapped : (node : ℕ) (named : List GroupDraft) → filter_map (λ group. group.name) (map (named_group node) named) ≡ map (λ group. group.name) named
names_mapped node [] = refl
names_mapped node (group ∷ named) = ap (λ (names : List (List ℕ)). group.name ∷ names) (names_mapped node named)

-- the names of its others
pub names_are : (node : ℕ) (groups : List CallbackGroup) (named : List GroupDraft) → filter (λ group. group.node == node) groups ≡ default_group node ∷ map (named_group node) named → filter_map (λ group. group.name) (filter (λ group. group.node == node) groups) ≡ map (λ group. group.name) named
names_are node groups named is = ap (filter_map (λ group. group.name)) is ∙ names_mapped node named
