-- What looking a name up finds in a graph.
use Rattle.std.proofs.Common.{◌≡◌, ℕ, zero, suc, ◌+◌, Bool, true, false, cond, not, ◌&&◌, map, List, [], ◌∷◌, Option, None, Some, String, string_bytes, slice_get, slice_index_or, bytes_eq, refl, ap, sym, subst, ◌∙◌, arith}
use Rattle.std.specs.Global.{Global}
use Rattle.std.specs.List.{list_any, position, position_from}
use Rattle.std.specs.Map.{keys_of, values_of}
use Rattle.std.proofs.lemmas.Bool.{and_parts, or_parts, not-true}
use Rattle.std.proofs.lemmas.Iterator.Adapters.{position_from-zero}
use Rattle.std.proofs.lemmas.Slice.Eq.{bytes_eq-Decides}
use Rattle.exec_plan.specs.inner.Entries.{entry_data, entities_in}
use Rattle.exec_plan.specs.Graph.{EntityData}
use Rattle.exec_plan.specs.Names.{are_distinct}
use Rattle.exec_plan.specs.declared.entity.Declared.{Declared}
use Rattle.exec_plan.proofs.Positions.{slice_get-map}
use Rattle.exec_plan.proofs.SameTexts.{bytes_sym}

-- ---- by number

-- what a map holds at a place is declared at that number
pub declared_by : (entries : List (String Global × Declared)) (number : ℕ) (declared : Declared) (default : EntityData) → slice_get (values_of entries) number ≡ Some declared →
    (slice_index_or (entities_in entries) number default).is ≡ declared
declared_by [] number declared default there = absurd cc
declared_by (entry ∷ entries) zero declared default there = cc
declared_by (entry ∷ entries) (suc number) declared default there = declared_by entries number declared default there

-- ---- by name

pub same_bytes : (one other : List ℕ) → bytes_eq one other ≡ true → one ≡ other
same_bytes one other is = (bytes_eq-Decides one other).0 is

keys_and_names : (name : List ℕ) (first : ℕ) (entries : List (String Global × Declared)) →
    position_from (λ key. bytes_eq name (string_bytes key)) first (keys_of entries) ≡ position_from (λ entity. bytes_eq name entity.name) first (entities_in entries)
keys_and_names name first [] = refl
keys_and_names name first (entry ∷ entries) = ap (λ (later : Option ℕ). cond (bytes_eq name (string_bytes entry.0)) (Some first) later) (keys_and_names name (first + 1) entries)

-- a test of a name and of what it is declared as
abbrev pub is_named : (Declared → Bool) → List ℕ → EntityData → Bool
is_named kind name entity = kind entity.is && bytes_eq entity.name name

module _ (kind : Declared → Bool) (name : List ℕ) where
  both_fail : (a b : Bool) → b ≡ false → (a && b) ≡ false
  both_fail true b fails = fails
  both_fail false b fails = refl

  -- where no entity has the name none is found
  not_there : (first : ℕ) (entities : List EntityData) → list_any (λ other. bytes_eq other name) (map (λ entity. entity.name) entities) ≡ false → position_from (is_named kind name) first entities ≡ None
  not_there first [] others = refl
  not_there first (entity ∷ entities) others =
      let rest = list_any (λ other. bytes_eq other name) (map (λ entity. entity.name) entities) in
      rw (both_fail (kind entity.is) (bytes_eq entity.name name) (or_parts (bytes_eq entity.name name) rest others).0)
      (not_there (first + 1) entities (or_parts (bytes_eq entity.name name) rest others).1)

  missing_by : (b : Bool) (first : ℕ) (entity : EntityData) (entities : List EntityData) → bytes_eq entity.name name ≡ b → cond b (Some first) (position_from (λ entity. bytes_eq name entity.name) (first + 1) entities) ≡ None →
      (position_from (λ entity. bytes_eq name entity.name) (first + 1) entities ≡ None → position_from (is_named kind name) (first + 1) entities ≡ None) → position_from (is_named kind name) first (entity ∷ entities) ≡ None
  missing_by true first entity entities is none later = absurd cc
  missing_by false first entity entities is none later = rw (both_fail (kind entity.is) (bytes_eq entity.name name) is) (later none)

  pub missing : (first : ℕ) (entities : List EntityData) → position_from (λ entity. bytes_eq name entity.name) first entities ≡ None → position_from (is_named kind name) first entities ≡ None
  missing first [] none = refl
  missing first (entity ∷ entities) none =
      missing_by (bytes_eq name entity.name) first entity entities (bytes_sym entity.name name) none (missing (first + 1) entities)

  -- the entity of a name that is found, at its place behind an offset, and whether it passes the test
  pub record IsPresent (first : ℕ) (entities : List EntityData) (number : ℕ) : Type 0 where
    pub place : ℕ
    pub element : EntityData
    pub counted : number ≡ first + place
    pub there : slice_get entities place ≡ Some element
    pub is : position_from (is_named kind name) first entities ≡ cond (kind element.is) (Some number) None

  first_by : (a : Bool) (first number : ℕ) (entity : EntityData) (entities : List EntityData) → number ≡ first → kind entity.is ≡ a → bytes_eq entity.name name ≡ true → position_from (is_named kind name) (first + 1) entities ≡ None →
      position_from (is_named kind name) first (entity ∷ entities) ≡ cond a (Some number) None
  first_by true first number entity entities is of named others = rw of (rw named (ap Some (sym is)))
  first_by false first number entity entities is of named others = rw of others

  present_by : (b : Bool) (first : ℕ) (entity : EntityData) (entities : List EntityData) (number : ℕ) → bytes_eq entity.name name ≡ b →
      list_any (λ other. bytes_eq other entity.name) (map (λ entity. entity.name) entities) ≡ false →
      cond b (Some first) (position_from (λ entity. bytes_eq name entity.name) (first + 1) entities) ≡ Some number →
      (position_from (λ entity. bytes_eq name entity.name) (first + 1) entities ≡ Some number → IsPresent (first + 1) entities number) →
      IsPresent first (entity ∷ entities) number
  present_by true first entity entities number is others at later =
      let names = map (λ entity. entity.name) entities in
      let none = not_there (first + 1) entities (subst (λ text. list_any (λ other. bytes_eq other text) names ≡ false) (same_bytes entity.name name is) others) in
      let counted : number ≡ first = cc in
      record { place = zero; element = entity; counted = omega (arith, counted); there = refl; is = first_by (kind entity.is) first number entity entities counted refl is none }
  present_by false first entity entities number is others at later =
      let rest = later at in
      record { place = suc rest.place; element = rest.element; counted = omega (arith, rest.counted); there = rest.there; is = rw (both_fail (kind entity.is) (bytes_eq entity.name name) is) rest.is }

  pub present : (first : ℕ) (entities : List EntityData) (number : ℕ) → are_distinct (map (λ entity. entity.name) entities) ≡ true → position_from (λ entity. bytes_eq name entity.name) first entities ≡ Some number → IsPresent first entities number
  present first [] number distinct at = absurd cc
  present first (entity ∷ entities) number distinct at =
      let names = map (λ entity. entity.name) entities in
      let taken = list_any (λ other. bytes_eq other entity.name) names in
      present_by (bytes_eq name entity.name) first entity entities number (bytes_sym entity.name name) (not-true taken (and_parts (not taken) (are_distinct names) distinct).0) at
      (present (first + 1) entities number (and_parts (not taken) (are_distinct names) distinct).1)

-- ---- what a map's look-up says

-- where a map has no such key no entity of the name is found
pub found_none : (kind : Declared → Bool) (name : List ℕ) (entries : List (String Global × Declared)) → None ≡ position (λ key. bytes_eq name (string_bytes key)) (keys_of entries) →
    None ≡ position_from (is_named kind name) 0 (entities_in entries)
found_none kind name entries none =
    sym (missing kind name 0 (entities_in entries)
    (sym (keys_and_names name 0 entries) ∙ sym (position_from-zero (λ key. bytes_eq name (string_bytes key)) (keys_of entries)) ∙ sym none))

same_entity : (one other : Option EntityData) (entity found : EntityData) → one ≡ Some entity → other ≡ Some found → one ≡ other → entity ≡ found
same_entity one other entity found is has same = cc

-- where a map has the key at a place, the entity there is found if it passes the test
pub found_some : (kind : Declared → Bool) (name : List ℕ) (entries : List (String Global × Declared)) (number : ℕ) (entry : String Global × Declared) → are_distinct (map (λ entity. entity.name) (entities_in entries)) ≡ true →
    Some number ≡ position (λ key. bytes_eq name (string_bytes key)) (keys_of entries) → slice_get entries number ≡ Some entry →
    position_from (is_named kind name) 0 (entities_in entries) ≡ cond (kind entry.1) (Some number) None
found_some kind name entries number entry distinct at there =
    let found = present kind name 0 (entities_in entries) number distinct
    (sym (keys_and_names name 0 entries) ∙ sym (position_from-zero (λ key. bytes_eq name (string_bytes key)) (keys_of entries)) ∙ sym at) in
    let same : number ≡ found.place = omega (arith, found.counted) in
    let entity = same_entity (slice_get (entities_in entries) number) (slice_get (entities_in entries) found.place) (entry_data entry) found.element
    (slice_get-map entry_data entries number entry there) found.there (ap (slice_get (entities_in entries)) same) in
    found.is ∙ ap (λ (e : EntityData). cond (kind e.is) (Some number) None) (sym entity)

-- the same where it is known whether it passes
pub found_as : (kind : Declared → Bool) (name : List ℕ) (entries : List (String Global × Declared)) (number : ℕ) (entry : String Global × Declared) (passes : Bool) → are_distinct (map (λ entity. entity.name) (entities_in entries)) ≡ true →
    Some number ≡ position (λ key. bytes_eq name (string_bytes key)) (keys_of entries) → slice_get entries number ≡ Some entry → kind entry.1 ≡ passes →
    cond passes (Some number) None ≡ position_from (is_named kind name) 0 (entities_in entries)
found_as kind name entries number entry passes distinct at there is =
    ap (λ (b : Bool). cond b (Some number) None) (sym is) ∙ sym (found_some kind name entries number entry distinct at there)
