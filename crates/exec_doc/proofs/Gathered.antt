-- Fields that are taken over one after another, each out of what the ones before left.
use Rattle.std.proofs.Common.{◌≡◌, ℕ, ◌+◌, ◌<◌, List, [], ◌∷◌, length, get_or, map, drop, true, false, not, bytes_eq, Bor, refl, ◌∙◌, subst}
use Rattle.std.proofs.lemmas.Bool.{and_parts, or_parts, not-true}
use Rattle.std.proofs.lemmas.List.{drop_more}
use Rattle.serde_json.specs.Data.{Data, Members}
use Rattle.serde_json.specs.Find.{get}
use Rattle.exec_doc.specs.Upgrade.{Keeping, as_it_is, kept_field, with_field, unchanged}
use Rattle.exec_doc.specs.inner.Gathering.{with_fields, is_named, are_distinct}
use Rattle.exec_doc.specs.inner.Taking.{LosesField}

-- what is kept of fields of other names is the same after a field was taken out
fields_left : (name : List ℕ) (fields : List (List ℕ × Keeping)) (before after : Data) (there : Members) → LosesField name before after → is_named name fields ≡ false
    → with_fields fields after there ≡ with_fields fields before there
fields_left name [] before after there lost other = refl
fields_left name (named ∷ others) before after there lost other =
    let parts = or_parts (bytes_eq name named.0) (is_named name others) other in
    let same : get named.0 after ≡ get named.0 before = lost named.0 ∙ rw parts.0 refl in
    rw same (fields_left name others before after (with_field named.0 (kept_field named.1 (get named.0 before)) there) lost parts.1)

-- a field is taken over, and then the others out of what is left
pub field_taken : (named : List ℕ × Keeping) (others : List (List ℕ × Keeping)) (before after : Data) (there new : Members)
    → LosesField named.0 before after → new ≡ with_field named.0 (kept_field named.1 (get named.0 before)) there → are_distinct (named ∷ others) ≡ true
    → with_fields others after new ≡ with_fields (named ∷ others) before there
field_taken named others before after there new lost is distinct =
    rw is (fields_left named.0 others before after (with_field named.0 (kept_field named.1 (get named.0 before)) there) lost
    (not-true (is_named named.0 others) (and_parts (not (is_named named.0 others)) (are_distinct others) distinct).0))

-- what is kept, with the fields that are left, is the whole, and no name that is left is there twice
abbrev pub IsOnTheWay : Members → Data → List (Bor (List ℕ)) → Members → Type 0
IsOnTheWay there value left whole =
    (with_fields (unchanged (map (λ name. name.now) left)) value there ≡ whole) × (are_distinct (unchanged (map (λ name. name.now) left)) ≡ true)

-- that is so still after the first field that is left was taken over
pub goes_on_by : (names : List (Bor (List ℕ))) (place : ℕ) (d : Bor (List ℕ)) (before after : Data) (there new whole : Members) → place < length names
    → LosesField (get_or names place d).now before after → new ≡ with_field (get_or names place d).now (get (get_or names place d).now before) there
    → IsOnTheWay there before (drop place names) whole → IsOnTheWay new after (drop (place + 1) names) whole
goes_on_by names place d before after there new whole within lost is on =
    let name = (get_or names place d).now in
    let left = unchanged (map (λ name. name.now) (drop (place + 1) names)) in
    let next = subst (λ (some : List (Bor (List ℕ))). IsOnTheWay there before some whole) (drop_more names place d within) on in
    (field_taken (name, as_it_is) left before after there new lost is next.1 ∙ next.0, (and_parts (not (is_named name left)) (are_distinct left) next.1).1)
