-- The places of texts, where a text is added.
use Rattle.std.proofs.Common.{◌≡◌, ℕ, suc, ◌+◌, ◌<◌, Bool, true, false, ◌||◌, cond, if◌then◌else◌, length, List, [], ◌∷◌, ◌++◌, Option, None, Some, bytes_eq, refl, sym, ap, ◌∙◌, arith, zero-add}
use Rattle.std.specs.Borrow.{Bor}
use Rattle.std.specs.BTreeMap.{BTreeMap, get_by}
use Rattle.std.specs.Cmp.Lexicographic.{slice_cmp}
use Rattle.std.specs.List.{list_any, position_from}
use Rattle.std.specs.Map.{update}
use Rattle.std.specs.Ordering.{nat_cmp}
use Rattle.std.proofs.lemmas.Slice.Eq.{bytes_eq-Decides}
use Rattle.exec_graph.specs.inner.Places.{FindsPlaces}

abbrev or_at : Bool → ℕ → Option ℕ → Option ℕ
or_at b place None = if b then Some place else None
or_at b place (Some found) = Some found

or_there : (b c : Bool) (first place : ℕ) (found : Option ℕ) → cond b (Some first) (or_at c place found) ≡ or_at c place (cond b (Some first) found)
or_there true c first place found = refl
or_there false c first place found = refl

or_nothing : (place : ℕ) (found : Option ℕ) → or_at false place found ≡ found
or_nothing place None = refl
or_nothing place (Some found) = refl

position_more : (name text : List ℕ) (first : ℕ) (texts : List (List ℕ)) → position_from (λ other. bytes_eq other name) first (texts ++ text ∷ []) ≡ or_at (bytes_eq text name) (first + length texts) (position_from (λ other. bytes_eq other name) first texts)
position_more name text first [] =
    let e : first ≡ first + 0 = omega arith in
    ap (λ place. if bytes_eq text name then Some place else None) e
position_more name text first (other ∷ texts) =
    let e : (first + 1) + length texts ≡ first + length (other ∷ texts) = omega arith in
    ap (cond (bytes_eq other name) (Some first)) (position_more name text (first + 1) texts)
    ∙ or_there (bytes_eq other name) (bytes_eq text name) first ((first + 1) + length texts) (position_from (λ other. bytes_eq other name) (first + 1) texts)
    ∙ ap (λ place. or_at (bytes_eq text name) place (position_from (λ other. bytes_eq other name) first (other ∷ texts))) e

missing : (name : List ℕ) (first : ℕ) (texts : List (List ℕ)) → list_any (λ other. bytes_eq other name) texts ≡ false → position_from (λ other. bytes_eq other name) first texts ≡ None
missing name first [] none = refl
missing name first (text ∷ texts) none = by (bytes_eq text name) none (missing name (first + 1) texts) where
  by : (b : Bool) → (b || list_any (λ other. bytes_eq other name) texts) ≡ false → (list_any (λ other. bytes_eq other name) texts ≡ false → position_from (λ other. bytes_eq other name) (first + 1) texts ≡ None)
      → cond b (Some first) (position_from (λ other. bytes_eq other name) (first + 1) texts) ≡ None
  by true none rest = absurd cc
  by false none rest = rest none

-- a map with the place of one more text has the places of the list that the text stands behind
pub finds_more : (places after : BTreeMap (Bor (List ℕ)) ℕ) (texts : List (List ℕ)) (text : List ℕ) → FindsPlaces places texts → list_any (λ other. bytes_eq other text) texts ≡ false
    → ((name : List ℕ) → get_by (λ key. slice_cmp nat_cmp name key.now) after ≡ update bytes_eq (λ other. get_by (λ key. slice_cmp nat_cmp other key.now) places) text (Some (length texts)) name)
    → FindsPlaces after (texts ++ text ∷ [])
finds_more places after texts text finds none updated name =
    updated name ∙ by (bytes_eq text name) refl
    ∙ ap (λ place. or_at (bytes_eq text name) place (position_from (λ other. bytes_eq other name) 0 texts)) (sym (zero-add (length texts)))
    ∙ sym (position_more name text 0 texts) where
      by : (b : Bool) → bytes_eq text name ≡ b → cond b (Some (length texts)) (get_by (λ key. slice_cmp nat_cmp name key.now) places)
          ≡ or_at b (length texts) (position_from (λ other. bytes_eq other name) 0 texts)
      by true same =
          let is : text ≡ name = (bytes_eq-Decides text name).0 same in
          let missed : position_from (λ other. bytes_eq other name) 0 texts ≡ None = ap (λ (sought : List ℕ). position_from (λ other. bytes_eq other sought) 0 texts) (sym is) ∙ missing text 0 texts none in
          sym (ap (or_at true (length texts)) missed)
      by false other = finds name ∙ sym (or_nothing (length texts) (position_from (λ other. bytes_eq other name) 0 texts))

-- a place that is found is below the length
pub found_within : {A : Type 0} (test : A → Bool) (first : ℕ) (xs : List A) (place : ℕ) → position_from test first xs ≡ Some place → place < first + length xs
found_within test first [] place is = absurd cc
found_within test first (x ∷ xs) place is = by (test x) is (found_within test (first + 1) xs place) where
  by : (b : Bool) → cond b (Some first) (position_from test (first + 1) xs) ≡ Some place → (position_from test (first + 1) xs ≡ Some place → place < (first + 1) + length xs) → place < first + suc (length xs)
  by true is rest = let same : first ≡ place = cc in omega (arith, same)
  by false is rest = let later = rest is in omega (arith, later)
