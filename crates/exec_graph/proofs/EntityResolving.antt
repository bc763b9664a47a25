-- What an entity is that is linked, where its directory is that of a draft.
use Rattle.std.proofs.Common.{◌≡◌, ℕ, ◌<◌, true, List, length, get_or, All, Option, None, Some, option_and_then, option_map, refl, sym, ap, subst, ◌∙◌}
use Rattle.std.proofs.lemmas.List.Elements.{All-get_or}
use Rattle.std.proofs.lemmas.Option.{same_Some}
use Rattle.exec_graph.specs.inner.Directory.{DirectoryData, IsLinked, Linked, NodeData, directory_of, group_in, reference_number, linked_in, resolved_by, declaration_in, titled}
use Rattle.exec_graph.specs.declared.draft.GraphDraft.{GraphDraft}
use Rattle.exec_plan.specs.Entity.{Resolved, read_by}
use Rattle.exec_plan.specs.declared.entity.Declared.{Declared}
use Rattle.exec_graph.specs.Faults.{drafted_names}
use Rattle.exec_plan.specs.Graph.{in_group}
use Rattle.exec_plan.specs.Names.{are_distinct}
use Rattle.exec_graph.specs.Numbers.{NodeEntity, named, group_named, scope_of}
use Rattle.exec_graph.specs.Resolved.{resolved_script, resolved_entity}
use Rattle.exec_graph.proofs.Lookups.{resolved_same}
use Rattle.exec_plan.proofs.Reading.{then_read}
use Rattle.exec_graph.proofs.WellNamed.{group_same}

-- an entity was linked: its group and what it refers to were found, and it is itself
pub record HasLinks (directory : DirectoryData) (placed : NodeEntity) (linked : Linked) : Type 0 where
  pub group : group_in directory placed.node placed.entity.group ≡ Some linked.group
  pub reference : reference_number directory placed.entity.is ≡ Some linked.reference
  pub same : linked.placed ≡ placed

pub has_links : (directory : DirectoryData) (placed : NodeEntity) (linked : Linked) → linked_in directory placed ≡ Some linked → HasLinks directory placed linked
has_links directory placed linked is =
    then_read _ (group_in directory placed.node placed.entity.group) _ linked is (λ group grouped e1.
    then_read _ (reference_number directory placed.entity.is) _ linked e1 (λ reference there e2.
    let same : record { placed = placed; group = group; reference = reference } ≡ linked = same_Some (record { placed = placed; group = group; reference = reference }) linked e2 in
    record {
      group = grouped ∙ ap (λ (l : Linked). Some l.group) same;
      reference = there ∙ ap (λ (l : Linked). Some l.reference) same;
      same = sym (ap (λ (l : Linked). l.placed) same);
    }))

-- what is said of it is what its name is declared as
titled_said : (placed : NodeEntity) (group : ℕ) (said : Option Resolved) → option_and_then (λ is. Some (titled placed (in_group group is))) said ≡ option_map (titled placed) (option_map (in_group group) said)
titled_said placed group None = refl
titled_said placed group (Some is) = refl

-- the entity of a draft is what a directory of that draft declares
pub is_declared : (directory : DirectoryData) (linked : Linked) → linked_in directory linked.placed ≡ Some linked →
    (source : GraphDraft) → are_distinct (drafted_names source) ≡ true → directory ≡ directory_of source →
    resolved_entity source linked.placed ≡ option_map (titled linked.placed) (declaration_in directory linked)
is_declared directory linked by source distinct from =
    let placed = linked.placed in
    let links = has_links directory placed linked by in
    let said : Option Resolved = resolved_by (record { directory = directory; node = placed.node }) linked.reference placed.entity.is in
    let grouped : group_named source placed.node placed.entity.group ≡ Some linked.group = sym (group_same source placed.node placed.entity.group) ∙ ap (λ (d : DirectoryData). group_in d placed.node placed.entity.group) (sym from) ∙ links.group in
    let there : reference_number (directory_of source) placed.entity.is ≡ Some linked.reference = ap (λ (d : DirectoryData). reference_number d placed.entity.is) (sym from) ∙ links.reference in
    let same : read_by (named source) (resolved_script (scope_of source placed.node)) placed.entity.is ≡ said =
    sym (resolved_same source distinct placed.node linked.reference placed.entity.is there) ∙ ap (λ (d : DirectoryData). resolved_by (record { directory = d; node = placed.node }) linked.reference placed.entity.is) (sym from) in
    ap (λ (number : Option ℕ). option_and_then (λ group. option_and_then (λ is. Some (titled placed (in_group group is))) (read_by (named source) (resolved_script (scope_of source placed.node)) placed.entity.is)) number) grouped
    ∙ ap (λ (said : Option Resolved). option_and_then (λ is. Some (titled placed (in_group linked.group is))) said) same
    ∙ titled_said placed linked.group said

-- the same of one of those that were linked
pub is_declared_at : (directory : DirectoryData) (links : List Linked) (i : ℕ) (linked : Linked) → All (IsLinked directory) links → i < length links → linked ≡ get_or links i linked →
    (source : GraphDraft) → are_distinct (drafted_names source) ≡ true → directory ≡ directory_of source →
    (found : Option Declared) → found ≡ declaration_in directory linked → resolved_entity source linked.placed ≡ option_map (titled linked.placed) found
is_declared_at directory links i linked all within there source distinct from found is =
    is_declared directory linked (subst (IsLinked directory) (sym there) (All-get_or (IsLinked directory) links i linked within all)).by source distinct from
    ∙ ap (option_map (titled linked.placed)) (sym is)

-- what is said of it, seen from inside, is what its name is declared as
pub said_inside : (directory : DirectoryData) (inside linked : Linked) → inside ≡ linked → (scope : NodeData) → scope ≡ record { directory = directory; node = inside.placed.node } →
    (reference : Option ℕ) → reference ≡ inside.reference → (said : Option Resolved) → resolved_by scope reference inside.placed.entity.is ≡ said →
    option_map (in_group inside.group) said ≡ declaration_in directory linked
said_inside directory inside linked view scope of reference same said is =
    ap (option_map (in_group inside.group))
    (sym is ∙ ap (λ (s : NodeData). resolved_by s reference inside.placed.entity.is) of
    ∙ ap (λ (r : Option ℕ). resolved_by (record { directory = directory; node = inside.placed.node }) r inside.placed.entity.is) same)
    ∙ ap (declaration_in directory) view
