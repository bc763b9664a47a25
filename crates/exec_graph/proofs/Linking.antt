-- What the numbers of linked entities are.
use Rattle.std.proofs.Common.{◌≡◌, ℕ, ◌<◌, ◌≤◌, length, map, List, [], ◌∷◌, Option, None, Some, IfSome, All, option_map, refl, sym, ap, ap₂, ◌∙◌, arith}
use Rattle.std.proofs.lemmas.List.Elements.{All-nil, All-cons}
use Rattle.std.proofs.lemmas.Option.{same_Some}
use Rattle.exec_graph.specs.inner.Directory.{DirectoryData, Linked, IsLinked, directory_of, group_in, linked_in, reference_number, number_in}
use Rattle.exec_graph.specs.declared.draft.GraphDraft.{GraphDraft}
use Rattle.exec_plan.specs.Entity.{ReferenceData, Drafted, reference_of, if_there}
use Rattle.exec_graph.specs.Numbers.{NodeEntity, groups_of, group_named, is_group}
use Rattle.exec_msg.specs.Options.{each}
use Rattle.exec_graph.proofs.EntityResolving.{has_links}
use Rattle.exec_graph.proofs.Lookups.{number_below}
use Rattle.exec_plan.proofs.Reading.{AreRead, are_read}
use Rattle.exec_graph.proofs.TextPlaces.{found_within}
use Rattle.exec_graph.proofs.WellNamed.{group_same}

-- ---- numbers

reference_below : (directory : DirectoryData) (entity : Drafted) (number : ℕ) → reference_number directory entity ≡ Some (Some number) → number < length directory.names
reference_below directory entity number there = by (reference_of entity) there where
  of : (o : Option ℕ) → option_map (λ (n : ℕ). Some n) o ≡ Some (Some number) → o ≡ Some number
  of None e = absurd cc
  of (Some n) e = same_Some (Some n) (Some number) e

  by : (reference : Option (ReferenceData (List ℕ))) → if_there (λ reference. number_in directory reference.to reference.name) reference ≡ Some (Some number) → number < length directory.names
  by None e = absurd cc
  by (Some reference) e = number_below directory reference.to reference.name number (of (number_in directory reference.to reference.name) e)

references_few : (directory : DirectoryData) (entity : Drafted) (reference : Option ℕ) → length directory.names ≤ 65536 → reference_number directory entity ≡ Some reference → IfSome reference (λ number. number < 65536)
references_few directory entity None few there = tt
references_few directory entity (Some number) few there = omega (arith, few, reference_below directory entity number there)

module _ (draft : GraphDraft) (found : DirectoryData) (from : found ≡ directory_of draft) (names : length found.names ≤ 65536) (groups : length (groups_of draft) ≤ 65536) where
  group_few : (node : ℕ) (name : Option (List ℕ)) (number : ℕ) → group_in found node name ≡ Some number → number < 65536
  group_few node name number there =
      let named : group_named draft node name ≡ Some number = sym (group_same draft node name) ∙ ap (λ (d : DirectoryData). group_in d node name) (sym from) ∙ there in
      omega (arith, groups, found_within (is_group node name) 0 (groups_of draft) number named)

  one_linked : (placed : NodeEntity) (linked : Linked) → linked_in found placed ≡ Some linked → IsLinked found linked
  one_linked placed linked is =
      let links = has_links found placed linked is in
      record {
        by = ap (linked_in found) links.same ∙ is;
        group = group_few placed.node placed.entity.group linked.group links.group;
        reference = references_few found placed.entity.is linked.reference names links.reference;
      }

  each_linked : (placed : List NodeEntity) (linked : List Linked) → AreRead (linked_in found) placed linked → All (IsLinked found) linked
  each_linked [] [] reads = All-nil (IsLinked found)
  each_linked [] (l ∷ linked) reads = absurd reads
  each_linked (p ∷ placed) [] reads = absurd reads
  each_linked (p ∷ placed) (l ∷ linked) reads = All-cons (IsLinked found) l linked (one_linked p l reads.0) (each_linked placed linked reads.1)

  -- those that were linked have numbers of 16 bits
  pub are_linked : (linked : List Linked) → each (linked_in found) found.entities ≡ Some linked → All (IsLinked found) linked
  are_linked linked all = each_linked found.entities linked (are_read (linked_in found) found.entities linked all)

same_entities : (directory : DirectoryData) (placed : List NodeEntity) (linked : List Linked) → AreRead (linked_in directory) placed linked → map (λ linked. linked.placed) linked ≡ placed
same_entities directory [] [] reads = refl
same_entities directory [] (l ∷ linked) reads = absurd reads
same_entities directory (p ∷ placed) [] reads = absurd reads
same_entities directory (p ∷ placed) (l ∷ linked) reads = ap₂ (λ (one : NodeEntity) (others : List NodeEntity). one ∷ others) (has_links directory p l reads.0).same (same_entities directory placed linked reads.1)

-- those that were linked are the directory's entities
pub entities_linked : (directory : DirectoryData) (linked : List Linked) → each (linked_in directory) directory.entities ≡ Some linked → map (λ linked. linked.placed) linked ≡ directory.entities
entities_linked directory linked all = same_entities directory directory.entities linked (are_read (linked_in directory) directory.entities linked all)
