-- The values of a JSON list.
use Rattle.std.proofs.Common.{◌≡◌, List, [], ◌∷◌, map, Vec, Global, refl, ap, sym}
use Rattle.serde_json.specs.Data.{Data, array, item}
use Rattle.serde_json.proofs.Views.{view-Array}
use Rattle.serde_json.specs.View.{view, items_of}
use Rattle.serde_json.specs.declared.value.Value.{Value, Array}
use Rattle.exec_doc.specs.Forms.{values_of}
use Rattle.exec_doc.specs.Upgrade.{changed_items, changed_list}

-- the values of the list that these make are these
pub values_of-items_of : (values : List Data) → values_of (items_of values) ≡ values
values_of-items_of [] = refl
values_of-items_of (value ∷ values) = ap (λ (ds : List Data). value ∷ ds) (values_of-items_of values)

pub ruleset any_list = (values_of-items_of)

-- to change the values of the list that these make is to change these
pub changed_items_of : (change : Data → Data) (values : List Data) → changed_items change (items_of values) ≡ items_of (map change values)
changed_items_of change [] = refl
changed_items_of change (value ∷ values) = ap (item (change value)) (changed_items_of change values)

-- the list of the changed values is the changed list
pub list_changed : (change : Data → Data) (before after : Vec Value Global) (value : Value) → value ≡ Array before → map view after.items ≡ map change (map view before.items)
    → view (Array after) ≡ changed_list change (view value)
list_changed change before after value is made = rw (is, view-Array before, view-Array after, made) (ap array (sym (changed_items_of change (map view before.items))))
