-- How a directory is made of names that are added one after another.
use Rattle.std.proofs.Common.{◌≡◌, ℕ, Bool, true, false, ◌&&◌, if◌then◌else◌, List, [], ◌∷◌, ◌++◌, Option, None, Some, option_and_then, refl, sym, ap, ◌∙◌}
use Rattle.std.specs.Bool.{then_some}
use Rattle.exec_graph.specs.inner.Directory.{DirectoryData, NodeGroupsData, names_from}
use Rattle.exec_graph.specs.Faults.{are_names}
use Rattle.exec_graph.specs.Numbers.{NodeEntity}
use Rattle.exec_graph.proofs.NameLists.{is_new, added_to_none}

joined_by : (b : Bool) (rest first : Option (List (List ℕ))) (next : List (List ℕ) → Option (List (List ℕ))) → rest ≡ option_and_then next first → (if b then rest else None) ≡ option_and_then next (if b then first else None)
joined_by true rest first next is = is
joined_by false rest first next is = refl

-- texts, and then others
names_joined : (names texts others : List (List ℕ)) → names_from names (texts ++ others) ≡ option_and_then (λ more. names_from more others) (names_from names texts)
names_joined names [] others = refl
names_joined names (text ∷ texts) others =
    joined_by (is_new names text) (names_from (names ++ text ∷ []) (texts ++ others)) (names_from (names ++ text ∷ []) texts) (λ more. names_from more others)
    (names_joined (names ++ text ∷ []) texts others)

refused_by : {A : Type 0} (h n : Bool) (names : List (List ℕ)) (all : A) → None ≡ then_some n names → None ≡ then_some (h && n) all
refused_by true true names all is = absurd cc
refused_by true false names all is = refl
refused_by false n names all is = refl

module _ (topics others start after : List (List ℕ)) (a : Bool) (empty : start ≡ []) (added : names_from start topics ≡ then_some a after) where
  both : names_from [] (topics ++ others) ≡ option_and_then (λ more. names_from more others) (then_some a after)
  both = names_joined [] topics others ∙ ap (option_and_then (λ more. names_from more others)) (ap (λ (names : List (List ℕ)). names_from names topics) (sym empty) ∙ added)

  -- a topic's name is refused
  pub topic_refused : {A : Type 0} (h : Bool) (all : A) → a ≡ false → None ≡ then_some (h && are_names (topics ++ others)) all
  topic_refused h all is =
      refused_by h (are_names (topics ++ others)) (topics ++ others) all
      (sym (both ∙ ap (λ (b : Bool). option_and_then (λ more. names_from more others) (then_some b after)) is) ∙ added_to_none (topics ++ others))

  module _ (more last : List (List ℕ)) (b : Bool) (first : a ≡ true) (same : more ≡ others) (behind : names_from after more ≡ then_some b last) where
    all_added : names_from [] (topics ++ others) ≡ then_some b last
    all_added = both ∙ ap (λ (b : Bool). option_and_then (λ more. names_from more others) (then_some b after)) first ∙ ap (names_from after) (sym same) ∙ behind

    -- an entity's name is refused
    pub entity_refused : {A : Type 0} (h : Bool) (all : A) → b ≡ false → None ≡ then_some (h && are_names (topics ++ others)) all
    entity_refused h all is =
        refused_by h (are_names (topics ++ others)) (topics ++ others) all
        (sym (all_added ∙ ap (λ (b : Bool). then_some b last) is) ∙ added_to_none (topics ++ others))

    -- all are added
    pub names_added : b ≡ true → Some last ≡ then_some (are_names (topics ++ others)) (topics ++ others)
    names_added is = sym (all_added ∙ ap (λ (b : Bool). then_some b last) is) ∙ added_to_none (topics ++ others)

-- a directory of these parts
abbrev directory : ℕ → List (List ℕ) → List NodeGroupsData → List NodeEntity → DirectoryData
directory topics names groups entities = record { topics = topics; names = names; groups = groups; entities = entities }

pub made_of : (h n : Bool) (count topics : ℕ) (found names : List (List ℕ)) (gathered groups : List NodeGroupsData) (placed entities : List NodeEntity) → count ≡ topics → Some found ≡ then_some n names → Some gathered ≡ then_some h groups → placed ≡ entities →
    Some (directory count found gathered placed) ≡ then_some (h && n) (directory topics names groups entities)
made_of true true count topics found names gathered groups placed entities same named grouped ordered =
    let found_is : found ≡ names = cc in
    let gathered_is : gathered ≡ groups = cc in
    λ i. Some (directory (same i) (found_is i) (gathered_is i) (ordered i))
made_of true false count topics found names gathered groups placed entities same named grouped ordered = absurd cc
made_of false n count topics found names gathered groups placed entities same named grouped ordered = absurd cc
