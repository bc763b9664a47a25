use Rattle.std.proofs.Common.{◌≡◌, rules, refl, ◌∙◌, ap, sym, cond, Bool, true, false, Option, None, option_map, bytes_eq}
use Rattle.std.proofs.lemmas.Map.Text.{btree_map_updates_text}
use Rattle.std.specs.Map.{update}
use Rattle.serde_json.proofs.Views.{view-lookup, view-Object}
use Rattle.serde_json.specs.Find.{get}
use Rattle.serde_json.specs.View.{view}
use Rattle.serde_json.specs.declared.value.Value.{Value, Object}
use Rattle.exec_doc.proofs.forms.owned.take_field.Goals as goal

view_unless : (gone : Bool) (found : Option Value) → option_map view (cond gone None found) ≡ cond gone None (option_map view found)
view_unless true found = refl
view_unless false found = refl

pub returns-in-Object-clause-taken : goal.returns-in-Object-clause-taken
returns-in-Object-clause-taken c =
    ap (option_map view) (rw c.in-Object.fields-is at c.remove.ensures.value) ∙ view-lookup c.args.name.now c.in-Object.fields.entries
    ∙ ap (get c.args.name.now) (sym (view-Object c.in-Object.fields))
    ∙ sym (ap (λ (value : Value). get c.args.name.now (view value)) c.in-Object.is)

pub returns-in-Object-clause-left : goal.returns-in-Object-clause-left
returns-in-Object-clause-left c other =
    let name = c.args.name.now in
    let fields = c.in-Object.fields in
    let left = c.remove.new.self in
    let lost : get other (view (Object left)) ≡ update bytes_eq (λ field. get field (view c.args.value.now)) name None other = ap (get other) (view-Object left)
    ∙ sym (view-lookup other left.entries)
    ∙ ap (option_map view) (btree_map_updates_text name fields left None (rw c.in-Object.fields-is at c.remove.ensures.updates) other)
    ∙ view_unless (bytes_eq name other) _
    ∙ ap (cond (bytes_eq name other) None) (view-lookup other fields.entries ∙ ap (get other) (sym (view-Object fields)) ∙ sym (ap (λ (value : Value). get other (view value)) c.in-Object.is)) in
    search rules
