-- The program's two words.
use Rattle.std.specs.Prelude.{◌≡◌, ℕ, ◌≤◌, List, [], length, slice_index_or}
use Rattle.std.specs.Str.Parse.{IsNumeral, digits_value}

-- a word of one to four decimal digits, whose number is from 1 to most
pub record IsNumber (most : ℕ) (word : List ℕ) : Type 0 where
  pub digits : IsNumeral 10 word
  pub short : length word ≤ 4
  pub least : 1 ≤ digits_value 10 word
  pub greatest : digits_value 10 word ≤ most

-- two words: the number of workers, 1 to 64, and the quantum, 1 to 1,024
pub record AreSettings (words : List (List ℕ)) : Type 0 where
  pub two : length words ≡ 2
  pub workers : IsNumber 64 (slice_index_or words 0 [])
  pub quantum : IsNumber 1024 (slice_index_or words 1 [])
