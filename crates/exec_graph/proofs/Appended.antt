-- Entries that are added one after another, each of a new name.
use Rattle.std.proofs.Common.{◌≡◌, ℕ, ◌+◌, ◌<◌, Bool, true, false, not, if◌then◌else◌, List, [], ◌∷◌, ◌++◌, length, map, drop, get_or, Option, None, Some, option_and_then, String, Global, string_bytes, refl, sym, ap, ◌∙◌, append_assoc, append-nil}
use Rattle.std.specs.List.{list_any}
use Rattle.std.specs.Option.{option_map}
use Rattle.std.specs.Str.{bytes_eq}
use Rattle.std.proofs.lemmas.Bool.{and_parts, or_parts, not-true, and_from, or_from}
use Rattle.std.proofs.lemmas.List.{map-append}
use Rattle.std.proofs.lemmas.List.Folds.{list_any-append}
use Rattle.indexmap.specs.IndexMap.{insert_entry}
use Rattle.exec_graph.specs.declared.draft.GraphDraft.{GraphDraft}
use Rattle.exec_plan.specs.inner.Entries.{entry_data}
use Rattle.exec_plan.specs.inner.Entries.{entities_in as entries_of}
use Rattle.exec_graph.specs.Faults.{drafted_names}
use Rattle.exec_plan.specs.Graph.{EntityData}
use Rattle.exec_plan.specs.Names.{are_distinct}
use Rattle.exec_graph.specs.Numbers.{NodeEntity, entities_of}
use Rattle.exec_msg.specs.Options.{each}
use Rattle.exec_graph.specs.Resolved.{resolved_entity, resolved_topic}
use Rattle.exec_plan.specs.declared.entity.Declared.{Declared}
use Rattle.exec_graph.proofs.NameLists.{from_place}
use Rattle.exec_plan.proofs.SameTexts.{bytes_sym, is_text}

-- the name of what is declared, and of what is placed
abbrev pub title : EntityData → List ℕ
title entity = entity.name

abbrev pub name_of : NodeEntity → List ℕ
name_of placed = placed.entity.name

-- what a name is declared as
abbrev pub entity : List ℕ → Declared → EntityData
entity name is = record { name = name; is = is }

-- ---- one entry

abbrev keys_eq : String Global → String Global → Bool
keys_eq a b = bytes_eq (string_bytes a) (string_bytes b)

put : (b : Bool) (entry : String Global × Declared) (entries set : List (String Global × Declared)) (is : Declared) (last : List EntityData) → b ≡ false → entries_of set ≡ last →
    entries_of (if b then (entry.0, is) ∷ entries else entry ∷ set) ≡ entry_data entry ∷ last
put true entry entries set is last none others = absurd cc
put false entry entries set is last none others = ap (λ (es : List EntityData). entry_data entry ∷ es) others

-- an entry of a new name goes last
new_entry : (entries : List (String Global × Declared)) (key : String Global) (is : Declared) → list_any (is_text (string_bytes key)) (map title (entries_of entries)) ≡ false →
    entries_of (insert_entry keys_eq entries key is) ≡ entries_of entries ++ entity (string_bytes key) is ∷ []
new_entry [] key is none = refl
new_entry (entry ∷ entries) key is none =
    put (keys_eq key entry.0) entry entries (insert_entry keys_eq entries key is) is (entries_of entries ++ entity (string_bytes key) is ∷ [])
    (bytes_sym (string_bytes key) (string_bytes entry.0) ∙ (or_parts (bytes_eq (string_bytes entry.0) (string_bytes key)) (list_any (is_text (string_bytes key)) (map title (entries_of entries))) none).0)
    (new_entry entries key is (or_parts (bytes_eq (string_bytes entry.0) (string_bytes key)) (list_any (is_text (string_bytes key)) (map title (entries_of entries))) none).1)

-- the same where the text is known
pub appended : (name : List ℕ) (old new : List (String Global × Declared)) (key : String Global) (is : Declared) → string_bytes key ≡ name → new ≡ insert_entry keys_eq old key is →
    list_any (is_text name) (map title (entries_of old)) ≡ false → entries_of new ≡ entries_of old ++ entity name is ∷ []
appended name old new key is text inserted none =
    ap entries_of inserted
    ∙ new_entry old key is (ap (λ (name : List ℕ). list_any (is_text name) (map title (entries_of old))) text ∙ none)
    ∙ ap (λ (name : List ℕ). entries_of old ++ entity name is ∷ []) text

-- ---- names that differ

-- a text among others, which all differ, isn't one of those in front
not_in_front : (front : List (List ℕ)) (text : List ℕ) (rest : List (List ℕ)) → are_distinct (front ++ text ∷ rest) ≡ true → list_any (is_text text) front ≡ false
not_in_front [] text rest distinct = refl
not_in_front (other ∷ front) text rest distinct =
    let apart : list_any (is_text other) (front ++ text ∷ rest) ≡ false = not-true (list_any (is_text other) (front ++ text ∷ rest)) (and_parts (not (list_any (is_text other) (front ++ text ∷ rest))) (are_distinct (front ++ text ∷ rest)) distinct).0 in
    let behind : list_any (is_text other) (text ∷ rest) ≡ false = (or_parts (list_any (is_text other) front) (list_any (is_text other) (text ∷ rest)) (sym (list_any-append (is_text other) front (text ∷ rest)) ∙ apart)).1 in
    or_from (bytes_eq other text) (list_any (is_text text) front)
    (bytes_sym other text ∙ (or_parts (bytes_eq text other) (list_any (is_text other) rest) behind).0)
    (not_in_front front text rest (and_parts (not (list_any (is_text other) (front ++ text ∷ rest))) (are_distinct (front ++ text ∷ rest)) distinct).1)

-- those in front differ where all do
pub front_distinct : (front rest : List (List ℕ)) → are_distinct (front ++ rest) ≡ true → are_distinct front ≡ true
front_distinct [] rest distinct = refl
front_distinct (text ∷ front) rest distinct =
    let apart : list_any (is_text text) (front ++ rest) ≡ false = not-true (list_any (is_text text) (front ++ rest)) (and_parts (not (list_any (is_text text) (front ++ rest))) (are_distinct (front ++ rest)) distinct).0 in
    and_from (not (list_any (is_text text) front)) (are_distinct front)
    (ap not (or_parts (list_any (is_text text) front) (list_any (is_text text) rest) (sym (list_any-append (is_text text) front rest) ∙ apart)).0)
    (front_distinct front rest (and_parts (not (list_any (is_text text) (front ++ rest))) (are_distinct (front ++ rest)) distinct).1)

-- ---- topics

topic_names : (texts : List (List ℕ)) → map title (map resolved_topic texts) ≡ texts
topic_names [] = refl
topic_names (text ∷ texts) = ap (λ (ts : List (List ℕ)). text ∷ ts) (topic_names texts)

one_more : (all front after rest : List EntityData) (next : EntityData) → are_distinct (map title all) ≡ true → front ++ next ∷ rest ≡ all →
    (list_any (is_text next.name) (map title front) ≡ false → after ≡ front ++ next ∷ []) → after ++ rest ≡ all
one_more all front after rest next distinct are appends =
    let split : map title front ++ next.name ∷ map title rest ≡ map title all = sym (map-append title front (next ∷ rest)) ∙ ap (map title) are in
    let none : list_any (is_text next.name) (map title front) ≡ false = not_in_front (map title front) next.name (map title rest) (ap are_distinct split ∙ distinct) in
    ap (λ (es : List EntityData). es ++ rest) (appends none) ∙ append_assoc front (next ∷ []) rest ∙ are

-- the topics so far gain the next
pub next_topic : (topics : List (List ℕ)) (i : ℕ) (topic : List ℕ) (front after : List EntityData) (text : List ℕ) → i < length topics → topic ≡ get_or topics i topic → text ≡ topic →
    (list_any (is_text text) (map title front) ≡ false → after ≡ front ++ resolved_topic text ∷ []) →
    are_distinct topics ≡ true → front ++ map resolved_topic (drop i topics) ≡ map resolved_topic topics →
    after ++ map resolved_topic (drop (i + 1) topics) ≡ map resolved_topic topics
next_topic topics i topic front after text within there same appends distinct holds =
    let here : drop i topics ≡ topic ∷ drop (i + 1) topics = from_place topics i topic within there in
    one_more (map resolved_topic topics) front after (map resolved_topic (drop (i + 1) topics)) (resolved_topic text)
    (ap are_distinct (topic_names topics) ∙ distinct)
    (ap (λ (name : List ℕ). front ++ resolved_topic name ∷ map resolved_topic (drop (i + 1) topics)) same
    ∙ ap (λ (ts : List (List ℕ)). front ++ map resolved_topic ts) (sym here) ∙ holds)
    appends

-- ---- entities

-- what stands so far, and then what is left, is all
abbrev pub Stands : GraphDraft → List NodeEntity → List EntityData → Type 0
Stands draft left front =
    (map title front ++ map name_of left ≡ drafted_names draft)
    × (option_map (λ others. front ++ others) (each (resolved_entity draft) left) ≡ option_map (λ others. map resolved_topic draft.topics ++ others) (each (resolved_entity draft) (entities_of draft)))

-- the topics stand first
pub starts : (draft : GraphDraft) (left : List NodeEntity) (front : List EntityData) → left ≡ entities_of draft → front ≡ map resolved_topic draft.topics → Stands draft left front
starts draft left front those first = (
  ap (λ (es : List EntityData). map title es ++ map name_of left) first ∙ ap (λ (ts : List (List ℕ)). ts ++ map name_of left) (topic_names draft.topics) ∙ ap (λ (ps : List NodeEntity). draft.topics ++ map name_of ps) those,
  (λ i. option_map (λ others. first i ++ others) (each (resolved_entity draft) (those i))),
)

read_one : (front : List EntityData) (next : EntityData) (rest : Option (List EntityData)) → option_map (λ others. (front ++ next ∷ []) ++ others) rest ≡ option_map (λ others. front ++ others) (option_and_then (λ ys. Some (next ∷ ys)) rest)
read_one front next None = refl
read_one front next (Some others) = ap (λ (es : List EntityData). Some es) (append_assoc front (next ∷ []) others)

-- what stands gains the next
pub next_stands : (draft : GraphDraft) (left rest : List NodeEntity) (placed : NodeEntity) (front after : List EntityData) (text : List ℕ) (is : Declared) → left ≡ placed ∷ rest → text ≡ name_of placed →
    are_distinct (drafted_names draft) ≡ true → resolved_entity draft placed ≡ Some (entity (name_of placed) is) →
    (list_any (is_text text) (map title front) ≡ false → after ≡ front ++ entity text is ∷ []) →
    Stands draft left front → Stands draft rest after
next_stands draft left rest placed front after text is here same distinct gives appends before =
    let names : map title front ++ text ∷ map name_of rest ≡ drafted_names draft =
    ap (λ (name : List ℕ). map title front ++ name ∷ map name_of rest) same ∙ ap (λ (ps : List NodeEntity). map title front ++ map name_of ps) (sym here) ∙ before.0 in
    let last : after ≡ front ++ entity text is ∷ [] = appends (not_in_front (map title front) text (map name_of rest) (ap are_distinct names ∙ distinct)) in (
      ap (λ (es : List EntityData). map title es ++ map name_of rest) last
          ∙ ap (λ (ns : List (List ℕ)). ns ++ map name_of rest) (map-append title front (entity text is ∷ []))
          ∙ append_assoc (map title front) (text ∷ []) (map name_of rest)
          ∙ names,
      ap (λ (es : List EntityData). option_map (λ others. es ++ others) (each (resolved_entity draft) rest)) last
          ∙ read_one front (entity text is) (each (resolved_entity draft) rest)
          ∙ ap (λ (name : List ℕ). option_map (λ others. front ++ others) (option_and_then (λ ys. Some (entity name is ∷ ys)) (each (resolved_entity draft) rest))) same
          ∙ ap (λ (o : Option EntityData). option_map (λ others. front ++ others) (option_and_then (λ y. option_and_then (λ ys. Some (y ∷ ys)) (each (resolved_entity draft) rest)) o)) (sym gives)
          ∙ ap (λ (ps : List NodeEntity). option_map (λ others. front ++ others) (each (resolved_entity draft) ps)) (sym here)
          ∙ before.1,
    )

-- nothing stands where the next is nothing
pub none_stands : (draft : GraphDraft) (left rest : List NodeEntity) (placed : NodeEntity) (front : List EntityData) → left ≡ placed ∷ rest → resolved_entity draft placed ≡ None → Stands draft left front →
    option_map (λ others. map resolved_topic draft.topics ++ others) (each (resolved_entity draft) (entities_of draft)) ≡ None
none_stands draft left rest placed front here none before =
    sym before.1
    ∙ ap (λ (ps : List NodeEntity). option_map (λ others. front ++ others) (each (resolved_entity draft) ps)) here
    ∙ ap (λ (o : Option EntityData). option_map (λ others. front ++ others) (option_and_then (λ y. option_and_then (λ ys. Some (y ∷ ys)) (each (resolved_entity draft) rest)) o)) none

-- all stand where nothing is left
pub all_stand : (draft : GraphDraft) (left : List NodeEntity) (front : List EntityData) → left ≡ [] → Stands draft left front →
    option_map (λ others. map resolved_topic draft.topics ++ others) (each (resolved_entity draft) (entities_of draft)) ≡ Some front
all_stand draft left front none stands =
    sym stands.1
    ∙ ap (λ (ps : List NodeEntity). option_map (λ others. front ++ others) (each (resolved_entity draft) ps)) none
    ∙ ap (λ (es : List EntityData). Some es) (append-nil front)
