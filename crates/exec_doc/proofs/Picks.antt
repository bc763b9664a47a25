-- What one pass over the members of an object leaves of the fields of an entry.
use Rattle.std.proofs.Common.{◌≡◌, ℕ, List, [], ◌∷◌, Option, None, Some, Bool, if◌then◌else◌, codes, Ordering, Less, Equal, Greater, string_bytes, string_cmp, nat_cmp, is_eq, bytes_eq, refl, sym, ap, ◌∙◌, subst}
use Rattle.std.proofs.lemmas.Cmp.{nat_list_eq_equiv}
use Rattle.std.proofs.lemmas.Map.Text.{is_eq-slice_cmp}
use Rattle.std.proofs.lemmas.Slice.Eq.{bytes_eq-Decides}
use Rattle.std.specs.Cmp.Lexicographic.{slice_cmp}
use Rattle.std.specs.List.{AllByRecursion}
use Rattle.std.specs.List.Sorted.{IsStrictlySortedBy}
use Rattle.std.specs.Map.{keys_of}
use Rattle.std.specs.Option.{option_or}
use Rattle.std.specs.Ordering.{match_ordering}
use Rattle.serde_json.proofs.Views.{Entry}
use Rattle.serde_json.specs.Data.{Data, object}
use Rattle.serde_json.specs.Find.{get_member}
use Rattle.serde_json.specs.View.{view, members_view}
use Rattle.exec_doc.specs.Forms.{Fields, entry_fields}
use Rattle.exec_doc.specs.inner.Picking.{if_named, field_noted}

-- the fields with each of these members in turn
abbrev pub picked : Fields → List Entry → Fields
picked before [] = before
picked before (e ∷ es) = picked (field_noted (string_bytes e.0) (view e.1) before) es

-- no field yet
abbrev pub none_yet : Fields
none_yet = record { round = None; topic = None; goal = None; cancel = None; action = None; value = None; stamp = None }

-- a name that is below all others isn't among them
absent : (name : List ℕ) (es : List Entry) → AllByRecursion (λ key. slice_cmp nat_cmp name (string_bytes key) ≡ Less) (keys_of es) → get_member name (members_view es) ≡ None
absent name [] below = refl
absent name (e ∷ es) below = rw below.0 (absent name es below.1)

step : (o : Ordering) (same : Bool) (later before : Option Data) (value : Data) → same ≡ is_eq o → (o ≡ Equal → later ≡ None)
    → option_or later (if same then Some value else before) ≡ option_or (match_ordering o later (Some value) later) before
step Less same later before value is none = rw is refl
step Equal same later before value is none = rw (is, none refl) refl
step Greater same later before value is none = rw is refl

or_none : (found : Option Data) → option_or found None ≡ found
or_none None = refl
or_none (Some value) = refl

module _ (sought : List ℕ) (field : Fields → Option Data)
    (takes : (name : List ℕ) (value : Data) (before : Fields) → field (field_noted name value before) ≡ if_named sought name value (field before)) where
  -- a field is the member that is found, or else what it was
  found_in : (es : List Entry) (before : Fields) → IsStrictlySortedBy string_cmp (keys_of es) → field (picked before es) ≡ option_or (get_member sought (members_view es)) (field before)
  unfolding IsStrictlySortedBy
  found_in [] before sorted = refl
  found_in (e ∷ es) before sorted =
      let name = string_bytes e.0 in
      let order = slice_cmp nat_cmp sought name in
      let same : bytes_eq name sought ≡ is_eq order = nat_list_eq_equiv.symm name sought ∙ sym (is_eq-slice_cmp sought name) in
      let none : order ≡ Equal → get_member sought (members_view es) ≡ None = λ equal.
      let is : sought ≡ name = (bytes_eq-Decides sought name).0 (sym (is_eq-slice_cmp sought name) ∙ ap is_eq equal) in
      absent sought es (subst (λ (text : List ℕ). AllByRecursion (λ key. slice_cmp nat_cmp text (string_bytes key) ≡ Less) (keys_of es)) (sym is) sorted.0) in
      found_in es (field_noted name (view e.1) before) sorted.1
      ∙ ap (option_or (get_member sought (members_view es))) (takes name (view e.1) before)
      ∙ step order (bytes_eq name sought) (get_member sought (members_view es)) (field before) (view e.1) same none

  -- where it was nothing at first, it is the member that is found
  member_found : (es : List Entry) → IsStrictlySortedBy string_cmp (keys_of es) → field none_yet ≡ None → field (picked none_yet es) ≡ get_member sought (members_view es)
  member_found es sorted none = found_in es none_yet sorted ∙ ap (option_or (get_member sought (members_view es))) none ∙ or_none (get_member sought (members_view es))

-- a pass over all members finds each field as a look-up does
pub all_picked : (members : List Entry) → IsStrictlySortedBy string_cmp (keys_of members) → picked none_yet members ≡ entry_fields (object (members_view members))
all_picked members sorted = λ i. record {
  round = member_found (codes "round") (λ fields. fields.round) (λ name value before. refl) members sorted refl i;
  topic = member_found (codes "topic") (λ fields. fields.topic) (λ name value before. refl) members sorted refl i;
  goal = member_found (codes "goal") (λ fields. fields.goal) (λ name value before. refl) members sorted refl i;
  cancel = member_found (codes "cancel") (λ fields. fields.cancel) (λ name value before. refl) members sorted refl i;
  action = member_found (codes "action") (λ fields. fields.action) (λ name value before. refl) members sorted refl i;
  value = member_found (codes "value") (λ fields. fields.value) (λ name value before. refl) members sorted refl i;
  stamp = member_found (codes "stamp") (λ fields. fields.stamp) (λ name value before. refl) members sorted refl i;
}
