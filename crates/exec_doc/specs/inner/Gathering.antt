-- Fields that are kept one after another, as a pass over their names does it.
use Rattle.std.specs.Prelude.{ℕ, List, [], ◌∷◌, Bool, true, not, ◌&&◌}
use Rattle.std.specs.List.{list_any}
use Rattle.std.specs.Str.{bytes_eq}
use Rattle.serde_json.specs.Data.{Data, Members}
use Rattle.serde_json.specs.Find.{get}
use Rattle.exec_doc.specs.Upgrade.{Keeping, kept_field, with_field}

-- members with what is kept of the fields that are named, the first of them first
abbrev pub with_fields : List (List ℕ × Keeping) → Data → Members → Members
with_fields [] value members = members
with_fields (named ∷ others) value members = with_fields others value (with_field named.0 (kept_field named.1 (get named.0 value)) members)

-- whether a name is among those of fields
abbrev pub is_named : List ℕ → List (List ℕ × Keeping) → Bool
is_named name fields = list_any (λ named. bytes_eq name named.0) fields

-- no name is there twice
abbrev pub are_distinct : List (List ℕ × Keeping) → Bool
are_distinct [] = true
are_distinct (named ∷ others) = not (is_named named.0 others) && are_distinct others
