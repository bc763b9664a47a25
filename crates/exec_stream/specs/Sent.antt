-- Outcomes that were sent on, found by their positions.
use Rattle.std.specs.Prelude.{◌≡◌, ℕ, ◌-◌, ◌<◌, ◌≤◌, List, [], slice_index_or}
use Rattle.exec_lane.specs.declared.outcome.Outcome.{Outcome}
use Rattle.exec_script.specs.declared.effects.Close.TheVariants as close

-- an outcome for a place that no list has
abbrev pub no_outcome : Outcome
no_outcome = record { position = 0; effects = record { list = []; close = close.Nothing } }

abbrev pub outcome_at : List Outcome → ℕ → Outcome
outcome_at outcomes place = slice_index_or outcomes place no_outcome

-- an outcome is of one of so many callbacks
abbrev pub IsAmong : ℕ → Outcome → Type 0
IsAmong count outcome = (0 < outcome.position) × (outcome.position ≤ count)

-- a place that is found for a position, from 1, is that of one of the first outcomes, and it has that position
pub record IsFound (outcomes : List Outcome) (first position : ℕ) (place : ℕ) : Type 0 where
  pub there : place < first
  pub same : (outcome_at outcomes place).position ≡ position

-- for the position of each of the first outcomes, so many of them, a place is found
abbrev pub AreFound : List Outcome → ℕ → List ℕ → Type 0
AreFound outcomes first places =
    (place : ℕ) → place < first → IsFound outcomes first (outcome_at outcomes place).position (slice_index_or places ((outcome_at outcomes place).position - 1) 0)
