-- A frame: all that a script reads and writes while it runs.
use Rattle.std.specs.Prelude.{◌≡◌, ℤ, pos, List, length, take, drop, slice_index_or}
use Rattle.exec_script.specs.Script.{CallInput, at_least_0}

-- its registers, its group's variables, and what the callback is handed
pub record FrameState : Type 0 where
  pub registers : List ℤ
  pub variables : List ℤ
  pub input : CallInput

-- the input behind the registers and the variables
abbrev pub input_in : List ℤ → CallInput
input_in values =
    record { first = slice_index_or values 16 (pos 0); aux = slice_index_or values 17 (pos 0); moment = at_least_0 (slice_index_or values 18 (pos 0)) }

-- the frame that an array of integers is
abbrev pub frame_of : List ℤ → FrameState
frame_of values = record { registers = take 8 values; variables = take 8 (drop 8 values); input = input_in values }

-- it has its length, its moment is not below 0, and its last integer is 0
pub record IsFrame (values : List ℤ) : Type 0 where
  pub sized : length values ≡ 20
  pub moment : pos (at_least_0 (slice_index_or values 18 (pos 0))) ≡ slice_index_or values 18 (pos 0)
  pub zero_last : slice_index_or values 19 (pos 0) ≡ pos 0
