-- Entries are found by their numbers.
use Rattle.std.proofs.Common.{◌≡◌, ℕ, ◌<◌, ◌≤◌, ◌==◌, Bool, true, false, length, List, [], ◌∷◌, ◌++◌, Option, Some, None, find, slice_get, slice_set, get_or, nat_lt, refl, sym, ap, ◌∙◌, arith}
use Rattle.std.specs.Borrow.{Bor}
use Rattle.std.specs.Option.{is_some, option_copied, unwrap_or, IfSome}
use Rattle.std.proofs.lemmas.Bool.{eqb-true, eq-eqb, both_ways, ltb-true, ltb-false}
use Rattle.std.proofs.lemmas.Option.{slice_get_past}
use Rattle.exec_msg.specs.Lists.{change_first}
use Rattle.exec_msg.proofs.FirstPlaces.{find-nowhere, find-first_place, change_first-nowhere, change_first-first_place, first_place-behind, first_place-set, first_place-within, place_or, none_beyond, noted_at, read_at, written}
use Rattle.exec_entity.specs.inner.Numbered.{FindsByNumber}
use Rattle.exec_msg.specs.Places.{first_place, place_under, change_at, first_noted}
use Rattle.exec_rules.specs.inner.Places.{place_in}

-- ---- what stands at a place that is looked up

module _ {A : Type 0} (test : A → Bool) (xs : List A) where
  no_place : (place : Option ℕ) → (unwrap_or place (length xs) < length xs → ⊥) → ((i : ℕ) → place ≡ Some i → i < length xs) → place ≡ None
  no_place None past within = refl
  no_place (Some i) past within = absurd (past (within i refl))

  nowhere : (i : ℕ) → i ≡ place_in test xs → false ≡ nat_lt i (length xs) → first_place test xs ≡ None
  nowhere i is past =
      no_place (first_place test xs)
      (λ here. let beyond : length xs ≤ i = ltb-false i (length xs) (sym past) in let same : i ≡ unwrap_or (first_place test xs) (length xs) = is in omega (arith, beyond, same, here))
      (first_place-within test xs)

  some_place : (i : ℕ) (place : Option ℕ) → i ≡ unwrap_or place (length xs) → i < length xs → place ≡ Some i
  some_place i None is within = absurd (let same : i ≡ length xs = is in omega (arith, same, within))
  some_place i (Some j) is within = ap Some (sym is)

  somewhere : (i : ℕ) → i ≡ place_in test xs → true ≡ nat_lt i (length xs) → first_place test xs ≡ Some i
  somewhere i is within = some_place i (first_place test xs) is (ltb-true i (length xs) (sym within))

  looked_at : (i : ℕ) (place : Option ℕ) → i ≡ unwrap_or place (length xs) → (place ≡ None → find test xs ≡ None) → ((j : ℕ) → place ≡ Some j → find test xs ≡ slice_get xs j) → slice_get xs i ≡ find test xs
  looked_at i None is none some = slice_get_past xs i (let same : i ≡ length xs = is in omega (arith, same)) ∙ sym (none refl)
  looked_at i (Some j) is none some = ap (slice_get xs) is ∙ sym (some j refl)

  -- what is looked at there is what is found
  find_at : (i : ℕ) → i ≡ place_in test xs → slice_get xs i ≡ find test xs
  find_at i is = looked_at i (first_place test xs) is (find-nowhere test xs) (find-first_place test xs)

-- what stands there in a list that is another's equal
module _ {A : Type 0} (test : A → Bool) (xs held : List A) (i : ℕ) (same : xs ≡ held) (at : i ≡ place_in test held) where
  here : i ≡ place_in test xs
  here = at ∙ ap (place_in test) (sym same)

  -- nothing is found beyond the elements
  pub unfound : false ≡ nat_lt i (length xs) → find test held ≡ None
  unfound past = ap (find test) (sym same) ∙ find-nowhere test xs (nowhere test xs i here past)

  -- and nothing is changed
  pub unchanged : (change : A → A) → false ≡ nat_lt i (length xs) → xs ≡ change_first test change held
  unchanged change past = sym (change_first-nowhere test change xs (nowhere test xs i here past)) ∙ ap (change_first test change) same

  -- what stands at the place is found
  pub found_at : (x : A) → true ≡ nat_lt i (length xs) → x ≡ get_or xs i x → find test held ≡ Some x
  found_at x within reads = ap (find test) (sym same) ∙ find-first_place test xs i (somewhere test xs i here within) ∙ read_at xs i x within reads

  -- a write to the place changes what is found
  pub changed_at : (change : A → A) (x after : A) → true ≡ nat_lt i (length xs) → x ≡ get_or xs i x → after ≡ change x → slice_set xs i after ≡ change_first test change held
  changed_at change x after within reads sets =
      written change xs i x after reads sets ∙ sym (change_first-first_place test change xs i (somewhere test xs i here within)) ∙ ap (change_first test change) same

-- what is read of a slice is what stands there
copied : {A : Type 0} (found : Option (Bor A)) (xs : List A) (i : ℕ) → is_some found ≡ nat_lt i (length xs) → IfSome found (λ x. x.now ≡ get_or xs i x.now) → option_copied found ≡ slice_get xs i
copied None xs i is reads = sym (none_beyond xs i is)
copied (Some x) xs i is reads = sym (read_at xs i x.now is reads)

-- and what is read at the place is what is found
pub find_read : {A : Type 0} (test : A → Bool) (xs held : List A) (i : ℕ) (found : Option (Bor A)) → xs ≡ held → i ≡ place_in test held → is_some found ≡ nat_lt i (length xs) → IfSome found (λ x. x.now ≡ get_or xs i x.now)
    → option_copied found ≡ find test held
find_read test xs held i found same at is reads = copied found xs i is reads ∙ ap (λ entries. slice_get entries i) same ∙ find_at test held i at

-- ---- what finds them

same_number : (a b : ℕ) → a ≡ b → (a == b) ≡ true
same_number a b same = λ i. eq-eqb a b same i

module _ {E : Type 0} (number_of : E → ℕ) where
  -- an entry that keeps its number is found as before
  pub finds_set : (places : List (Option ℕ)) (entries : List E) (i : ℕ) (x after : E) → FindsByNumber number_of places entries → x ≡ get_or entries i x → number_of after ≡ number_of x
      → FindsByNumber number_of places (slice_set entries i after)
  finds_set places entries i x after finds reads keeps = λ number. finds number ∙ sym (first_place-set (λ entry. number_of entry == number) entries i x after reads (ap (λ n. n == number) keeps))

  -- each look-up finds as before, or the entry that is declared
  pub finds_behind : (old made new : List (Option ℕ)) (entries : List E) (entry : E) (number : ℕ) → FindsByNumber number_of old entries
      → ((other : ℕ) → place_under other made ≡ place_under other old) → number < length made
      → number ≡ number_of entry → new ≡ change_at number (first_noted (length entries)) made → FindsByNumber number_of new (entries ++ entry ∷ [])
  finds_behind old made new entries entry number finds same within is_number is = λ other.
      ap (λ places. place_under other places) is
      ∙ noted_at (number_of entry == other) (length entries) number other made within
      (λ yes. is_number ∙ eqb-true (number_of entry) other yes)
      (λ no here. both_ways (number_of entry == other) no (same_number (number_of entry) other (sym is_number ∙ here)))
      ∙ ap (λ found. place_or found (number_of entry == other) (length entries)) (same other ∙ finds other)
      ∙ sym (first_place-behind (λ entry. number_of entry == other) entries entry)
