-- The fields of an entry of a feed as one pass over its members finds them.
use Rattle.std.specs.Prelude.{ℕ, List, codes, if◌then◌else◌, Option, Some}
use Rattle.std.specs.Option.{option_map}
use Rattle.std.specs.Str.{bytes_eq}
use denote.Ref.{Bor}
use Rattle.serde_json.specs.Data.{Data}
use Rattle.serde_json.specs.View.{view}
use Rattle.serde_json.specs.declared.value.Value.{Value}
use Rattle.exec_doc.specs.Forms.{Fields}
use Rattle.exec_doc.specs.declared.forms.picked.EntryFields.{EntryFields}

-- what a reference leads to, where there is one
abbrev pub found : Option (Bor Value) → Option Data
found field = option_map (λ value. view value.now) field

-- what the references lead to
abbrev pub seen : EntryFields → Fields
seen fields = record {
  round = found fields.round;
  topic = found fields.topic;
  goal = found fields.goal;
  cancel = found fields.cancel;
  action = found fields.action;
  value = found fields.value;
  stamp = found fields.stamp;
}

-- a member where it has the name, and else what was there
abbrev pub if_named : List ℕ → List ℕ → Data → Option Data → Option Data
if_named sought name value before = if bytes_eq name sought then Some value else before

-- the fields with a member that is one of them, or is none
abbrev pub field_noted : List ℕ → Data → Fields → Fields
field_noted name value before = record {
  round = if_named (codes "round") name value before.round;
  topic = if_named (codes "topic") name value before.topic;
  goal = if_named (codes "goal") name value before.goal;
  cancel = if_named (codes "cancel") name value before.cancel;
  action = if_named (codes "action") name value before.action;
  value = if_named (codes "value") name value before.value;
  stamp = if_named (codes "stamp") name value before.stamp;
}
