-- What is found by name in an object of which some fields are kept.
use Rattle.std.proofs.Common.{◌≡◌, ℕ, List, [], ◌∷◌, Bool, true, false, cond, Option, None, Some, bytes_eq, true≢false, refl, sym, ◌∙◌, subst}
use Rattle.std.proofs.lemmas.Slice.Eq.{bytes_eq-Decides}
use Rattle.std.specs.Map.{lookup}
use Rattle.serde_json.proofs.Views.{get_member-put, get_member-put_other}
use Rattle.serde_json.specs.Data.{Data, Members}
use Rattle.serde_json.specs.Find.{get, get_member}
use Rattle.exec_doc.specs.Upgrade.{Keeping, as_it_is, item_by_item, changed_list, kept_field, with_field, kept_members}

-- what is kept of a field, if it is kept
abbrev pub found_by : Option Keeping → Option Data → Option Data
found_by None field = None
found_by (Some keeping) field = kept_field keeping field

none_found : (keeping : Option Keeping) → found_by keeping None ≡ None
none_found None = refl
none_found (Some as_it_is) = refl
none_found (Some (item_by_item change)) = refl

-- texts that aren't equal by their bytes are two
pub apart_by : (name other : List ℕ) → bytes_eq name other ≡ false → name ≡ other → ⊥
apart_by name other unequal same = true≢false (sym ((bytes_eq-Decides name other).1 same) ∙ unequal)

here : (name : List ℕ) (keeping : Keeping) (field : Option Data) (there : Members) (later : Option Keeping) → get_member name there ≡ found_by later field
    → get_member name (with_field name (kept_field keeping field) there) ≡ kept_field keeping field
here name as_it_is None there later is = is ∙ none_found later
here name as_it_is (Some value) there later is = get_member-put name value there
here name (item_by_item change) None there later is = is ∙ none_found later
here name (item_by_item change) (Some value) there later is = get_member-put name (changed_list change value) there

elsewhere : (name other : List ℕ) (field : Option Data) (there : Members) → (name ≡ other → ⊥) → get_member name (with_field other field there) ≡ get_member name there
elsewhere name other None there apart = refl
elsewhere name other (Some value) there apart = get_member-put_other name other value there apart

found_at : (same : Bool) (name : List ℕ) (named : List ℕ × Keeping) (value : Data) (there : Members) (later : Option Keeping) → bytes_eq name named.0 ≡ same → get_member name there ≡ found_by later (get name value)
    → get_member name (with_field named.0 (kept_field named.1 (get named.0 value)) there) ≡ found_by (cond same (Some named.1) later) (get name value)
found_at true name named value there later is rest =
    subst (λ (sought : List ℕ). get_member name (with_field sought (kept_field named.1 (get sought value)) there) ≡ kept_field named.1 (get name value)) ((bytes_eq-Decides name named.0).0 is)
    (here name named.1 (get name value) there later rest)
found_at false name named value there later is rest = elsewhere name named.0 (kept_field named.1 (get named.0 value)) there (apart_by name named.0 is) ∙ rest

-- a name finds what is kept of the field that it finds in the value
pub found : (name : List ℕ) (fields : List (List ℕ × Keeping)) (value : Data) → get_member name (kept_members fields value) ≡ found_by (lookup (bytes_eq name) fields) (get name value)
found name [] value = refl
found name (named ∷ others) value =
    found_at (bytes_eq name named.0) name named value (kept_members others value) (lookup (bytes_eq name) others) refl (found name others value)
