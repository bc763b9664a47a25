-- What stands at the position of the first element that passes a test.
use Rattle.std.proofs.Common.{◌≡◌, ℕ, zero, suc, ◌+◌, Bool, true, false, cond, ◌||◌, length, map, List, [], ◌∷◌, ◌++◌, Option, Some, is_some, find, slice_get, refl, zero-add, arith}
use Rattle.std.specs.List.{list_any, position_from}

-- an element that passes a test, at a place behind an offset
pub record IsAt {A : Type 0} (test : A → Bool) (first : ℕ) (xs : List A) (number : ℕ) : Type 0 where
  pub place : ℕ
  pub element : A
  pub counted : number ≡ first + place
  pub there : slice_get xs place ≡ Some element
  pub passes : test element ≡ true
  pub found : find test xs ≡ Some element

at_first : {A : Type 0} (test : A → Bool) (first : ℕ) (x : A) (xs : List A) (number : ℕ) → test x ≡ true → number ≡ first → IsAt test first (x ∷ xs) number
at_first test first x xs number passes is = record { place = zero; element = x; counted = omega (arith, is); there = refl; passes = passes; found = rw passes refl }

at_later : {A : Type 0} (test : A → Bool) (first : ℕ) (x : A) (xs : List A) (number : ℕ) → test x ≡ false → IsAt test (first + 1) xs number → IsAt test first (x ∷ xs) number
at_later test first x xs number fails later =
    record { place = suc later.place; element = later.element; counted = omega (arith, later.counted); there = later.there; passes = later.passes; found = rw fails later.found }

-- the number that is found is that of such an element
at_either : {A : Type 0} (test : A → Bool) (first : ℕ) (x : A) (xs : List A) (number : ℕ) → (b : Bool) → test x ≡ b → cond b (Some first) (position_from test (first + 1) xs) ≡ Some number → (position_from test (first + 1) xs ≡ Some number → IsAt test (first + 1) xs number) → IsAt test first (x ∷ xs) number
at_either test first x xs number true passes found later = at_first test first x xs number passes cc
at_either test first x xs number false fails found later = at_later test first x xs number fails (later found)

pub at_position : {A : Type 0} (test : A → Bool) (first : ℕ) (xs : List A) (number : ℕ) → position_from test first xs ≡ Some number → IsAt test first xs number
at_position test first [] number found = absurd cc
at_position test first (x ∷ xs) number found = at_either test first x xs number (test x) refl found (at_position test (first + 1) xs number)

found_by : (b : Bool) (here : ℕ) (later : Option ℕ) (any : Bool) → is_some later ≡ any → is_some (cond b (Some here) later) ≡ (b || any)
found_by true here later any same = refl
found_by false here later any same = same

-- one is found where one passes
pub found_any : {A : Type 0} (test : A → Bool) (first : ℕ) (xs : List A) → is_some (position_from test first xs) ≡ list_any test xs
found_any test first [] = refl
found_any test first (x ∷ xs) = found_by (test x) first (position_from test (first + 1) xs) (list_any test xs) (found_any test (first + 1) xs)

-- ---- places in lists that are joined and mapped

mapped : {A B : Type 0} (f : A → B) (y x : A) → Some y ≡ Some x → Some (f y) ≡ Some (f x)
mapped f y x same = cc

pub slice_get-map : {A B : Type 0} (f : A → B) (xs : List A) (i : ℕ) (x : A) → slice_get xs i ≡ Some x → slice_get (map f xs) i ≡ Some (f x)
slice_get-map f [] i x there = absurd cc
slice_get-map f (y ∷ xs) zero x there = mapped f y x there
slice_get-map f (y ∷ xs) (suc i) x there = slice_get-map f xs i x there

pub slice_get-front : {A : Type 0} (xs ys : List A) (i : ℕ) (x : A) → slice_get xs i ≡ Some x → slice_get (xs ++ ys) i ≡ Some x
slice_get-front [] ys i x there = absurd cc
slice_get-front (z ∷ xs) ys zero x there = there
slice_get-front (z ∷ xs) ys (suc i) x there = slice_get-front xs ys i x there

pub slice_get-behind : {A : Type 0} (xs ys : List A) (i : ℕ) → slice_get (xs ++ ys) (length xs + i) ≡ slice_get ys i
slice_get-behind [] ys i = rw (zero-add i) refl
slice_get-behind (z ∷ xs) ys i =
    let e : suc (length xs) + i ≡ suc (length xs + i) = omega arith in
    rw e (slice_get-behind xs ys i)
