-- A callback goes into the lane that its group's look-up gives.
use Rattle.std.proofs.Common.{◌≡◌, ℕ, zero, suc, ◌<◌, ◌&&◌, ◌||◌, ◌==◌, Bool, true, false, if◌then◌else◌, length, List, [], ◌∷◌, ◌++◌, Option, None, Some, map, slice_set, get_or, refl, sym, ap, ◌∙◌, true≢false}
use Rattle.std.specs.List.{list_any}
use Rattle.std.specs.Option.{option_map}
use Rattle.std.proofs.lemmas.Bool.{and_parts, eqb-true, eq-eqb, both_ways}
use Rattle.exec_plan.specs.Graph.{GroupNo}
use Rattle.exec_lane.specs.Lane.{LaneCallback}
use Rattle.exec_lane.specs.inner.Cuts.{FindsLanes, is_lane_of, lane_with, place_for, takes, with_entry}
use Rattle.exec_msg.specs.Lists.{change_first}
use Rattle.exec_msg.proofs.FirstPlaces.{change_first-first_place, first_place-behind, first_place-within, noted_at, place_or}
use Rattle.exec_msg.specs.Places.{change_at, first_place, first_noted, place_under}

-- ---- what a look-up gives is what the definition asks

takes_where : (entry : LaneCallback) → entry.ready.exclusive ≡ true → (lane : List LaneCallback) → takes entry lane ≡ is_lane_of entry.ready.group lane
takes_where entry is [] = refl
takes_where entry is (first ∷ lane) = ap (λ (b : Bool). b && first.ready.exclusive && (entry.ready.group == first.ready.group)) is

takes_none : (entry : LaneCallback) → entry.ready.exclusive ≡ false → (lane : List LaneCallback) → takes entry lane ≡ false
takes_none entry is [] = refl
takes_none entry is (first ∷ lane) = ap (λ (b : Bool). b && first.ready.exclusive && (entry.ready.group == first.ready.group)) is

any_by : (b : Bool) (place : Option ℕ) (rest : Bool) → (if b then Some zero else option_map suc place) ≡ None → (place ≡ None → rest ≡ false) → b || rest ≡ false
any_by true place rest is later = absurd cc
any_by false None rest is later = later refl
any_by false (Some place) rest is later = absurd cc

some_by : (b : Bool) (i : ℕ) (place : Option ℕ) (rest : Bool) → (if b then Some zero else option_map suc place) ≡ Some i → ((j : ℕ) → place ≡ Some j → rest ≡ true) → b || rest ≡ true
some_by true i place rest is later = refl
some_by false i None rest is later = absurd cc
some_by false i (Some j) rest is later = later j refl

module _ {A : Type 0} where
  none_any : (test : A → Bool) (xs : List A) → first_place test xs ≡ None → list_any test xs ≡ false
  none_any test [] is = refl
  none_any test (x ∷ xs) is = any_by (test x) (first_place test xs) (list_any test xs) is (none_any test xs)

  some_any : (test : A → Bool) (xs : List A) (i : ℕ) → first_place test xs ≡ Some i → list_any test xs ≡ true
  some_any test [] i is = absurd cc
  some_any test (x ∷ xs) i is = some_by (test x) i (first_place test xs) (list_any test xs) is (some_any test xs)

takes_by : (entry : LaneCallback) (lanes : List (List LaneCallback)) (found : Option ℕ) → place_for entry.ready lanes ≡ found → (b : Bool) → entry.ready.exclusive ≡ b → first_place (takes entry) lanes ≡ found
takes_by entry lanes found is true e = (λ i. first_place (λ lane. takes_where entry e lane i) lanes) ∙ sym (ap (λ (b : Bool). if b then first_place (is_lane_of entry.ready.group) lanes else None) e) ∙ is
takes_by entry lanes found is false e = (λ i. first_place (λ lane. takes_none entry e lane i) lanes) ∙ none lanes ∙ sym (ap (λ (b : Bool). if b then first_place (is_lane_of entry.ready.group) lanes else None) e) ∙ is
  where
    none : (lanes : List (List LaneCallback)) → first_place (λ (lane : List LaneCallback). false) lanes ≡ None
    none [] = refl
    none (lane ∷ lanes) = ap (λ (place : Option ℕ). option_map suc place) (none lanes)

taken_at : (entry : LaneCallback) (lanes : List (List LaneCallback)) (found : Option ℕ) → place_for entry.ready lanes ≡ found → first_place (takes entry) lanes ≡ found
taken_at entry lanes found is = takes_by entry lanes found is entry.ready.exclusive refl

-- an entry is added to the lane at its place
pub joins : (entry : LaneCallback) (lanes : List (List LaneCallback)) (place : ℕ) → place_for entry.ready lanes ≡ Some place → change_at place (lane_with entry) lanes ≡ with_entry lanes entry
joins entry lanes place is =
    let at : first_place (takes entry) lanes ≡ Some place = taken_at entry lanes (Some place) is in
    sym (ap (λ (b : Bool). if b then change_first (takes entry) (lane_with entry) lanes else lanes ++ (entry ∷ []) ∷ []) (some_any (takes entry) lanes place at)
    ∙ change_first-first_place (takes entry) (lane_with entry) lanes place at)

-- or begins one
pub begins : (entry : LaneCallback) (lanes : List (List LaneCallback)) → place_for entry.ready lanes ≡ None → lanes ++ (entry ∷ []) ∷ [] ≡ with_entry lanes entry
begins entry lanes is =
    sym (ap (λ (b : Bool). if b then change_first (takes entry) (lane_with entry) lanes else lanes ++ (entry ∷ []) ∷ []) (none_any (takes entry) lanes (taken_at entry lanes None is)))

-- ---- look-ups stay right

same_lane : (group other : GroupNo) (entry : LaneCallback) (lane : List LaneCallback) → is_lane_of group lane ≡ true → is_lane_of other (lane_with entry lane) ≡ is_lane_of other lane
same_lane group other entry [] is = absurd (true≢false (sym is))
same_lane group other entry (first ∷ lane) is = refl

placed_by : (group other : GroupNo) (entry : LaneCallback) (lane : List LaneCallback) (lanes : List (List LaneCallback)) (place : ℕ) (found : Option ℕ) (b : Bool) → is_lane_of group lane ≡ b →
    (if b then Some zero else option_map suc found) ≡ Some place →
    ((i : ℕ) → found ≡ Some i → first_place (is_lane_of other) (change_at i (lane_with entry) lanes) ≡ first_place (is_lane_of other) lanes) →
    first_place (is_lane_of other) (change_at place (lane_with entry) (lane ∷ lanes)) ≡ first_place (is_lane_of other) (lane ∷ lanes)
placed_by group other entry lane lanes zero found true e is rest = ap (λ (b : Bool). if b then Some zero else option_map suc (first_place (is_lane_of other) lanes)) (same_lane group other entry lane e)
placed_by group other entry lane lanes (suc place) found true e is rest = absurd cc
placed_by group other entry lane lanes place None false e is rest = absurd cc
placed_by group other entry lane lanes zero (Some i) false e is rest = absurd cc
placed_by group other entry lane lanes (suc place) (Some i) false e is rest = ap (λ (found : Option ℕ). if is_lane_of other lane then Some zero else option_map suc found) (rest place cc)

placed_same : (group other : GroupNo) (entry : LaneCallback) (lanes : List (List LaneCallback)) (place : ℕ) → first_place (is_lane_of group) lanes ≡ Some place →
    first_place (is_lane_of other) (change_at place (lane_with entry) lanes) ≡ first_place (is_lane_of other) lanes
placed_same group other entry [] place is = refl
placed_same group other entry (lane ∷ lanes) place is = placed_by group other entry lane lanes place (first_place (is_lane_of group) lanes) (is_lane_of group lane) refl is (placed_same group other entry lanes)

place_is : (entry : LaneCallback) (lanes : List (List LaneCallback)) (place : ℕ) (b : Bool) → (if b then first_place (is_lane_of entry.ready.group) lanes else None) ≡ Some place → first_place (is_lane_of entry.ready.group) lanes ≡ Some place
place_is entry lanes place true is = is
place_is entry lanes place false is = absurd cc

-- a lane that gets an entry more is found as before
pub finds_joined : (places : List (Option ℕ)) (entry : LaneCallback) (lanes after : List (List LaneCallback)) (place : ℕ) → FindsLanes places lanes → place_for entry.ready lanes ≡ Some place → after ≡ change_at place (lane_with entry) lanes → FindsLanes places after
finds_joined places entry lanes after place finds at is = λ other.
    finds other
    ∙ sym (placed_same entry.ready.group other entry lanes place (place_is entry lanes place entry.ready.exclusive at))
    ∙ ap (first_place (is_lane_of other)) (sym is)

-- a lane that begins is found where no other is
pub finds_begun : (old made new : List (Option ℕ)) (lanes : List (List LaneCallback)) (entry : LaneCallback) (group : ℕ) → FindsLanes old lanes
    → ((other : ℕ) → place_under other made ≡ place_under other old) → group < length made
    → group ≡ entry.ready.group → entry.ready.exclusive ≡ true → new ≡ change_at group (first_noted (length lanes)) made
    → FindsLanes new (lanes ++ (entry ∷ []) ∷ [])
finds_begun old made new lanes entry group finds same within is_group exclusive is = λ other.
    ap (λ places. place_under other places) is
    ∙ noted_at (is_lane_of other (entry ∷ [])) (length lanes) group other made within
    (λ yes. is_group ∙ sym (eqb-true other entry.ready.group (and_parts entry.ready.exclusive (other == entry.ready.group) yes).1))
    (λ no here. both_ways (other == entry.ready.group) (sym (ap (λ (b : Bool). b && (other == entry.ready.group)) exclusive) ∙ no) (eq-eqb other entry.ready.group (sym here ∙ is_group)))
    ∙ ap (λ found. place_or found (is_lane_of other (entry ∷ [])) (length lanes)) (same other ∙ finds other)
    ∙ sym (first_place-behind (is_lane_of other) lanes (entry ∷ []))

kept_alone : (found : Option ℕ) (n : ℕ) → found ≡ place_or found false n
kept_alone None n = refl
kept_alone (Some place) n = refl

-- and one of a reentrant group by no group
pub finds_alone : (old made : List (Option ℕ)) (lanes : List (List LaneCallback)) (entry : LaneCallback) → FindsLanes old lanes
    → ((other : ℕ) → place_under other made ≡ place_under other old) → entry.ready.exclusive ≡ false
    → FindsLanes made (lanes ++ (entry ∷ []) ∷ [])
finds_alone old made lanes entry finds same alone = λ other.
    same other ∙ finds other
    ∙ kept_alone (first_place (is_lane_of other) lanes) (length lanes)
    ∙ ap (λ (b : Bool). place_or (first_place (is_lane_of other) lanes) (b && (other == entry.ready.group)) (length lanes)) (sym alone)
    ∙ sym (first_place-behind (is_lane_of other) lanes (entry ∷ []))

-- ---- as the code has them

module _ {A : Type 0} (f : A → List LaneCallback) where
  -- a lane with an entry more is written to its place
  pub joined_in : (xs : List A) (i : ℕ) (x after : A) (entry : LaneCallback) → x ≡ get_or xs i x → f after ≡ f x ++ entry ∷ [] → map f (slice_set xs i after) ≡ change_at i (lane_with entry) (map f xs)
  joined_in [] i x after entry is more = refl
  joined_in (y ∷ xs) zero x after entry is more = ap (λ lane. lane ∷ map f xs) (more ∙ ap (λ (z : A). f z ++ entry ∷ []) is)
  joined_in (y ∷ xs) (suc i) x after entry is more = ap (λ lanes. f y ∷ lanes) (joined_in xs i x after entry is more)

  -- or as it was
  pub kept_in : (xs : List A) (i : ℕ) (x after : A) → x ≡ get_or xs i x → f after ≡ f x → map f (slice_set xs i after) ≡ map f xs
  kept_in [] i x after is same = refl
  kept_in (y ∷ xs) zero x after is same = ap (λ lane. lane ∷ map f xs) (same ∙ ap f is)
  kept_in (y ∷ xs) (suc i) x after is same = ap (λ lanes. f y ∷ lanes) (kept_in xs i x after is same)

  -- a lane of one entry stands behind the others
  pub one_more : (old new : List A) (lane : A) (entry : LaneCallback) → new ≡ old ++ lane ∷ [] → f lane ≡ entry ∷ [] → map f old ++ (entry ∷ []) ∷ [] ≡ map f new
  one_more old new lane entry is one = ap (λ (last : List LaneCallback). map f old ++ last ∷ []) (sym one) ∙ sym (behind old) ∙ ap (map f) (sym is)
    where
      behind : (xs : List A) → map f (xs ++ lane ∷ []) ≡ map f xs ++ f lane ∷ []
      behind [] = refl
      behind (x ∷ xs) = ap (λ lanes. f x ∷ lanes) (behind xs)

  pub as_long : (xs : List A) → length (map f xs) ≡ length xs
  as_long [] = refl
  as_long (x ∷ xs) = ap suc (as_long xs)

-- a place that is given is one of the lanes'
pub place_within : (entry : LaneCallback) (lanes : List (List LaneCallback)) (place : ℕ) → place_for entry.ready lanes ≡ Some place → place < length lanes
place_within entry lanes place is = first_place-within (is_lane_of entry.ready.group) lanes place (place_is entry lanes place entry.ready.exclusive is)
