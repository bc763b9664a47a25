-- How many rounds are done.
use Rattle.std.specs.Prelude.{◌≡◌, ℕ, ◌-◌, ◌≤◌, false, ◌==◌, if◌then◌else◌}

-- how many rounds are done where this is the last one that began, and so many of its callbacks aren't committed yet
abbrev pub rounds_in : ℕ → ℕ → ℕ
rounds_in round left = if left == 0 then round else round - 1

-- a round with callbacks that aren't committed yet has begun
abbrev pub HasBegun : ℕ → ℕ → Type 0
HasBegun round left = (left == 0) ≡ false → 1 ≤ round
