-- Places in a list.
use Rattle.std.specs.Prelude.{◌≡◌, ℕ, ◌<◌, List, length, slice_index_or, Bool, true, false}

-- the place of the first element that passes a test
pub record IsFirst {A : Type 0} (test : A → Bool) (xs : List A) (place : ℕ) : Type 0 where
  pub within : place < length xs
  pub passes : (d : A) → test (slice_index_or xs place d) ≡ true
  pub before : (k : ℕ) (d : A) → k < place → test (slice_index_or xs k d) ≡ false
